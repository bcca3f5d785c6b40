use Rattle.binmode.proofs.Reporting.{reporting}
use borrow.Author.Rules.{rules}
use Rattle.binmode.proofs.binmode_write_within.Statement.{statement}
use Rattle.binmode.proofs.binmode_write_within.Tie as tie

pub binmode_write_within_spec : {M : Type 1} → statement M
binmode_write_within_spec = tie.close (tie.spec
    (λ c κs. search rules)  -- write-requires
    (λ c κs. search rules)  -- written-requires
    (λ c. search rules)  -- same-length
    (λ c. search reporting))  -- returns
