use Rattle.binmode.proofs.Planning.{planned}
use borrow.Author.Rules.{rules}
use Rattle.binmode.proofs.planned.binmode_write_planned_within.Statement.{statement}
use Rattle.binmode.proofs.planned.binmode_write_planned_within.Tie as tie

pub binmode_write_planned_within_spec : {M : Type 1} → statement M
binmode_write_planned_within_spec = tie.close (tie.spec
    (λ c κs. search rules)  -- write-requires
    (λ c κs. search rules)  -- planned-requires
    (λ c. search rules)  -- same-length
    (λ c. search planned))  -- returns
