-- `steps::four_steps` meets its contract: one byte after another. Assumes nothing.
use Rattle.steps.proofs.Stepping.{stepping}
use borrow.Author.Rules.{rules}
use Rattle.steps.proofs.four_steps.Statement.{statement}
use Rattle.steps.proofs.four_steps.Tie as tie

pub four_steps_spec : {M : Type 1} → statement M
four_steps_spec = tie.close (tie.spec
    (λ c. search rules)  -- shared-slice-read-step
    (λ c κs. search rules)  -- step-requires
    (λ c. search rules)  -- add-step
    (λ c. search rules)  -- shared-slice-read-step-2
    (λ c κs. search rules)  -- step-requires-2
    (λ c. search rules)  -- add-step-2
    (λ c. search rules)  -- shared-slice-read-step-3
    (λ c κs. search rules)  -- step-requires-3
    (λ c. search rules)  -- add-step-3
    (λ c. search rules)  -- shared-slice-read-step-4
    (λ c κs. search rules)  -- step-requires-4
    (λ c. search stepping))  -- returns
