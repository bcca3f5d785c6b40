use Rattle.draft.proofs.Naming.{naming}
use Rattle.draft.proofs.item_of.Statement.{statement}
use Rattle.draft.proofs.item_of.Tie as tie

pub item_of_spec : {M : Type 1} → statement M
item_of_spec = tie.close (tie.spec
    (λ c. search naming)  -- returns
    (λ c. search naming)  -- returns-2
    (λ c. search naming)  -- returns-3
    (λ c. search naming)  -- returns-4
    (λ c. search naming)  -- returns-5
    (λ c. search naming)  -- returns-6
    (λ c. search naming)  -- returns-7
    (λ c. search naming)  -- returns-8
    (λ c. search naming)  -- returns-9
    (λ c. search naming)  -- returns-10
    (λ c. search naming)  -- returns-11
    (λ c. search naming)  -- returns-12
    (λ c. search naming))  -- returns-13
