-- `runs::four_below` meets its contract: four eights are 32 bytes. Assumes nothing.
use Rattle.text.proofs.Passing.{passing}
use borrow.Author.Rules.{rules}
use Rattle.runs.proofs.four_below.Statement.{statement}
use Rattle.runs.proofs.four_below.Tie as tie

pub four_below_spec : {M : Type 1} → statement M
four_below_spec = tie.close (tie.spec
    (λ c κs. search rules)  -- eight-below-requires
    (λ c. search rules)  -- add-eight-below
    (λ c κs. search rules)  -- eight-below-requires-2
    (λ c. search rules)  -- add-eight-below-2
    (λ c κs. search rules)  -- eight-below-requires-3
    (λ c. search rules)  -- add-eight-below-3
    (λ c κs. search rules)  -- eight-below-requires-4
    (λ c. search passing))  -- returns
