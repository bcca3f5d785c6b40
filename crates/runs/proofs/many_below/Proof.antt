-- `runs::many_below` meets its contract: eight eights are 64 bytes. Assumes nothing.
use Rattle.text.proofs.Passing.{passing}
use borrow.Author.Rules.{rules}
use Rattle.runs.proofs.many_below.Statement.{statement}
use Rattle.runs.proofs.many_below.Tie as tie

pub many_below_spec : {M : Type 1} → statement M
many_below_spec = tie.close (tie.spec
    (λ c κs. search rules)  -- four-below-requires
    (λ c. search rules)  -- add-four-below
    (λ c κs. search rules)  -- four-below-requires-2
    (λ c. search passing))  -- returns
