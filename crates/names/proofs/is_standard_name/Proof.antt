-- `names::is_standard_name` meets its contract: the nine comparisons are the definition's. Assumes nothing.
use Rattle.text.proofs.Comparing.{comparing}
use borrow.Author.Rules.{rules}
use Rattle.names.proofs.is_standard_name.Statement.{statement}
use Rattle.names.proofs.is_standard_name.Tie as tie

pub is_standard_name_spec : {M : Type 1} → statement M
is_standard_name_spec = tie.close (tie.spec
    (λ c κs. search rules)  -- equal-requires
    (λ c κs. search rules)  -- equal-requires-2
    (λ c κs. search rules)  -- equal-requires-3
    (λ c κs. search rules)  -- equal-requires-4
    (λ c κs. search rules)  -- equal-requires-5
    (λ c κs. search rules)  -- equal-requires-6
    (λ c κs. search rules)  -- equal-requires-7
    (λ c κs. search rules)  -- equal-requires-8
    (λ c κs. search rules)  -- equal-requires-9
    (λ c. search comparing))  -- returns
