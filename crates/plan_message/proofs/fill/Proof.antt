use Rattle.plan_message.proofs.Filling.{too_long, no_room, sent}
use borrow.Author.Rules.{rules}
use Rattle.plan_message.proofs.fill.Statement.{statement}
use Rattle.plan_message.proofs.fill.Tie as tie

pub fill_spec : {M : Type 1} → statement M
fill_spec = tie.close (tie.spec
    (λ c κs. search rules)  -- clear-requires
    (λ c. search rules)  -- same-length
    (λ c. search too_long)  -- returns
    (λ c κs. search rules)  -- clear-requires-2
    (λ c. search rules)  -- same-length-2
    (λ c. search no_room)  -- returns-2
    (λ c κs. search rules)  -- put-message-requires
    (λ c. search rules)  -- sub-clear
    (λ c. search rules)  -- part-clear-start
    (λ c. search rules)  -- part-clear-end
    (λ c κs. search rules)  -- clear-requires-3
    (λ c. search rules)  -- same-length-3
    (λ c. search sent))  -- returns-3
