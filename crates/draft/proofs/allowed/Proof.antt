use Rattle.draft.proofs.Limiting.{limits}
use Rattle.draft.proofs.allowed.Statement.{statement}
use Rattle.draft.proofs.allowed.Tie as tie

pub allowed_spec : {M : Type 1} → statement M
allowed_spec = tie.close (tie.spec
    (λ c. search limits)  -- returns
    (λ c. search limits))  -- returns-2
