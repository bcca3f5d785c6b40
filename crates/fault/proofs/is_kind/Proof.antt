use Rattle.fault.proofs.Judging.{judging}
use borrow.Author.Rules.{rules}
use Rattle.fault.proofs.is_kind.Statement.{statement}
use Rattle.fault.proofs.is_kind.Tie as tie

pub is_kind_spec : {M : Type 1} → statement M
is_kind_spec = tie.close (tie.spec
    (λ c κs. search rules)  -- get-row-requires
    (λ c. search judging))  -- returns
