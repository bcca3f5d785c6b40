use Rattle.scalar.proofs.Scalars.{fixing}
use Rattle.scalar.proofs.Words.{words}
use borrow.Author.Rules.{rules}
use Rattle.scalar.proofs.read_scalar.Statement.{statement}
use Rattle.scalar.proofs.read_scalar.Tie as tie

pub read_scalar_spec : {M : Type 1} → statement M
read_scalar_spec = tie.close (tie.spec
    (λ c. search rules)  -- shared-slice-read-is-fixed
    (λ c κs. search rules)  -- is-fixed-requires
    (λ c κs. (search rules, search fixing, search rules))  -- read-fixed-requires
    (λ c. search rules)  -- same-length
    (λ c. search rules)  -- same-length-2
    (λ c. search rules)  -- returns
    (λ c κs. (search rules, search rules, search rules, search fixing, search rules))  -- read-sized-requires
    (λ c κs. search rules)  -- step-of-requires
    (λ c. search rules)  -- same-length-3
    (λ c. search rules)  -- same-length-4
    (λ c. search words))  -- returns-2
