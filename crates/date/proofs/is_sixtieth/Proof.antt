use Rattle.date.proofs.Shaping.{shaping}
use borrow.Author.Rules.{rules}
use Rattle.date.proofs.is_sixtieth.Statement.{statement}
use Rattle.date.proofs.is_sixtieth.Tie as tie

pub is_sixtieth_spec : {M : Type 1} → statement M
is_sixtieth_spec = tie.close (tie.spec
    (λ c. search rules)  -- shared-slice-read-result
    (λ c. search rules)  -- shared-slice-read-result-2
    (λ c. search rules)  -- add-is-digit
    (λ c. search rules)  -- shared-slice-read-is-digit
    (λ c κs. search rules)  -- is-digit-requires
    (λ c. search shaping))  -- returns
