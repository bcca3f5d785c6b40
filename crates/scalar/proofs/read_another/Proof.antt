use Rattle.scalar.proofs.Scalars.{scalars}
use borrow.Author.Rules.{rules}
use Rattle.scalar.proofs.read_another.Statement.{statement}
use Rattle.scalar.proofs.read_another.Tie as tie

pub read_another_spec : {M : Type 1} → statement M
read_another_spec = tie.close (tie.spec
    (λ c. search rules)  -- shared-slice-read-match
    (λ c κs. search rules)  -- read-short-requires
    (λ c κs. search rules)  -- read-short-requires-2
    (λ c κs. search rules)  -- read-long-requires
    (λ c κs. search rules)  -- read-other-requires
    (λ c κs. search rules)  -- read-long-requires-2
    (λ c κs. search rules)  -- read-recorded-requires
    (λ c κs. search rules)  -- refuse-requires
    (λ c. search rules)  -- same-length
    (λ c. search scalars)  -- returns
    (λ c. search rules)  -- same-length-2
    (λ c. search scalars)  -- returns-2
    (λ c. search rules)  -- same-length-3
    (λ c. search scalars)  -- returns-3
    (λ c. search rules)  -- same-length-4
    (λ c. search rules)  -- same-length-5
    (λ c. search scalars)  -- returns-4
    (λ c. search rules)  -- same-length-6
    (λ c. search scalars)  -- returns-5
    (λ c. search rules)  -- same-length-7
    (λ c. search rules)  -- same-length-8
    (λ c. search scalars)  -- returns-6
    (λ c. search scalars))  -- returns-7
