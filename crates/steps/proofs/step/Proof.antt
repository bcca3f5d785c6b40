-- `steps::step` meets its contract: a class's word has the state after each state. Assumes nothing.
use Rattle.steps.proofs.Stepping.{stepping}
use borrow.Author.Rules.{rules}
use Rattle.steps.proofs.step.Statement.{statement}
use Rattle.steps.proofs.step.Tie as tie

pub step_spec : {M : Type 1} → statement M
step_spec = tie.close (tie.spec
    (λ c κs. search rules)  -- class-in-requires
    (λ c. search rules)  -- cast-word
    (λ c. search rules)  -- mul-word
    (λ c. search stepping)  -- element-copy-out-word
    (λ c. search rules)  -- shr-result
    (λ c. search stepping))  -- returns
