use Rattle.binmode.proofs.Reporting.{reporting}
use borrow.Author.Rules.{rules}
use Rattle.binmode.proofs.binmode_read_within.Statement.{statement}
use Rattle.binmode.proofs.binmode_read_within.Tie as tie

pub binmode_read_within_spec : {M : Type 1} → statement M
binmode_read_within_spec = tie.close (tie.spec
    (λ c κs. search rules)  -- read-requires
    (λ c κs. search rules)  -- message-requires
    (λ c. search rules)  -- same-length
    (λ c. search reporting))  -- returns
