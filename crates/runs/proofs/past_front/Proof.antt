-- `runs::past_front` meets its contract: one run after another. Assumes nothing.
use Rattle.text.proofs.Passing.{passing}
use borrow.Author.Rules.{rules}
use Rattle.runs.proofs.past_front.Statement.{statement}
use Rattle.runs.proofs.past_front.Tie as tie

pub past_front_spec : {M : Type 1} → statement M
past_front_spec = tie.close (tie.spec
    (λ c κs. search rules)  -- past-short-requires
    (λ c. search rules)  -- returns
    (λ c κs. search rules)  -- past-run-requires
    (λ c κs. search rules)  -- past-last-requires
    (λ c. search passing))  -- returns-2
