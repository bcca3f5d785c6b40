use Rattle.date.proofs.Shaping.{shaping}
use borrow.Author.Rules.{rules}
use Rattle.date.proofs.is_pair.Statement.{statement}
use Rattle.date.proofs.is_pair.Tie as tie

pub is_pair_spec : {M : Type 1} → statement M
is_pair_spec = tie.close (tie.spec
    (λ c. search rules)  -- shared-slice-read-is-digit
    (λ c κs. search rules)  -- is-digit-requires
    (λ c. search rules)  -- add-is-digit
    (λ c. search rules)  -- shared-slice-read-is-digit-2
    (λ c κs. search rules)  -- is-digit-requires-2
    (λ c. search shaping))  -- returns
