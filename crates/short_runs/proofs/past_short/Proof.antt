-- `short_runs::past_short` meets its contract: the first and the last bytes are all bytes. Assumes nothing.
use Rattle.short_runs.proofs.Ends.{ending}
use borrow.Author.Rules.{rules}
use Rattle.short_runs.proofs.past_short.Statement.{statement}
use Rattle.short_runs.proofs.past_short.Tie as tie

pub past_short_spec : {M : Type 1} → statement M
past_short_spec = tie.close (tie.spec
    (λ c κs. search rules)  -- past-singles-requires
    (λ c. search rules)  -- returns
    (λ c κs. search rules)  -- few-below-requires
    (λ c κs. search rules)  -- few-below-requires-2
    (λ c. search ending)  -- returns-2
    (λ c. search rules)  -- returns-3
    (λ c κs. search rules)  -- eight-below-requires
    (λ c κs. search rules)  -- eight-below-requires-2
    (λ c. search ending)  -- returns-4
    (λ c. search rules))  -- returns-5
