use Rattle.date.proofs.Shaping.{shaping}
use borrow.Author.Rules.{rules}
use Rattle.date.proofs.is_parted.Statement.{statement}
use Rattle.date.proofs.is_parted.Tie as tie

pub is_parted_spec : {M : Type 1} → statement M
is_parted_spec = tie.close (tie.spec
    (λ c. search rules)  -- shared-slice-read-result
    (λ c. search rules)  -- shared-slice-read-result-2
    (λ c. search rules)  -- shared-slice-read-result-3
    (λ c. search shaping))  -- returns
