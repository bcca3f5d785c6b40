use Rattle.draft.proofs.Naming.{refusals}
use Rattle.draft.proofs.refusal_of.Statement.{statement}
use Rattle.draft.proofs.refusal_of.Tie as tie

pub refusal_of_spec : {M : Type 1} → statement M
refusal_of_spec = tie.close (tie.spec
    (λ c. search refusals)  -- returns
    (λ c. search refusals)  -- returns-2
    (λ c. search refusals)  -- returns-3
    (λ c. search refusals)  -- returns-4
    (λ c. search refusals)  -- returns-5
    (λ c. search refusals)  -- returns-6
    (λ c. search refusals)  -- returns-7
    (λ c. search refusals)  -- returns-8
    (λ c. search refusals)  -- returns-9
    (λ c. search refusals)  -- returns-10
    (λ c. search refusals)  -- returns-11
    (λ c. search refusals)  -- returns-12
    (λ c. search refusals)  -- returns-13
    (λ c. search refusals)  -- returns-14
    (λ c. search refusals)  -- returns-15
    (λ c. search refusals))  -- returns-16
