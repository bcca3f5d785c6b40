use Rattle.scalar.proofs.Scalars.{scalars}
use borrow.Author.Rules.{rules}
use Rattle.scalar.proofs.read_fixed.Statement.{statement}
use Rattle.scalar.proofs.read_fixed.Tie as tie

pub read_fixed_spec : {M : Type 1} → statement M
read_fixed_spec = tie.close (tie.spec
    (λ c. search rules)  -- shared-slice-read-match
    (λ c κs. search rules)  -- read-integer-requires
    (λ c κs. search rules)  -- read-recalled-requires
    (λ c κs. search rules)  -- truth-requires
    (λ c κs. search rules)  -- read-boolean-requires
    (λ c. search rules)  -- same-length
    (λ c. search scalars)  -- returns
    (λ c. search rules)  -- same-length-2
    (λ c. search rules)  -- same-length-3
    (λ c. search scalars)  -- returns-2
    (λ c. search rules)  -- same-length-4
    (λ c. search scalars))  -- returns-3
