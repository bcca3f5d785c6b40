-- `runs::most_below` meets its contract: four times 64 are 256 bytes. Assumes nothing.
use Rattle.text.proofs.Passing.{passing}
use borrow.Author.Rules.{rules}
use Rattle.runs.proofs.most_below.Statement.{statement}
use Rattle.runs.proofs.most_below.Tie as tie

pub most_below_spec : {M : Type 1} → statement M
most_below_spec = tie.close (tie.spec
    (λ c κs. search rules)  -- many-below-requires
    (λ c. search rules)  -- add-many-below
    (λ c κs. search rules)  -- many-below-requires-2
    (λ c. search rules)  -- add-many-below-2
    (λ c κs. search rules)  -- many-below-requires-3
    (λ c. search rules)  -- add-many-below-3
    (λ c κs. search rules)  -- many-below-requires-4
    (λ c. search passing))  -- returns
