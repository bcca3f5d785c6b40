-- `steps::eight_steps` meets its contract: four bytes twice. Assumes nothing.
use Rattle.steps.proofs.Stepping.{stepping}
use borrow.Author.Rules.{rules}
use Rattle.steps.proofs.eight_steps.Statement.{statement}
use Rattle.steps.proofs.eight_steps.Tie as tie

pub eight_steps_spec : {M : Type 1} → statement M
eight_steps_spec = tie.close (tie.spec
    (λ c κs. search rules)  -- four-steps-requires
    (λ c. search rules)  -- add-four-steps
    (λ c κs. search rules)  -- four-steps-requires-2
    (λ c. search stepping))  -- returns
