-- `eights::eight_below` meets its contract: a byte is below 128 exactly if its highest bit is 0. Assumes nothing.
use Rattle.text.proofs.Passing.{passing}
use borrow.Author.Rules.{rules}
use Rattle.eights.proofs.eight_below.Statement.{statement}
use Rattle.eights.proofs.eight_below.Tie as tie

pub eight_below_spec : {M : Type 1} → statement M
eight_below_spec = tie.close (tie.spec
    (λ c κs. search rules)  -- word-at-requires
    (λ c. search passing))  -- returns
