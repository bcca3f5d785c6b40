use Rattle.index_search.proofs.Stepping.{asking}
use native.Mathlib.Omega.{arith}
use borrow.Author.Rules.{rules}
use Rattle.index_search.proofs.number_at.Statement.{statement}
use Rattle.index_search.proofs.number_at.Tie as tie

pub number_at_spec : {M : Type 1} → statement M
number_at_spec = tie.close (tie.spec
    (λ c. search asking)  -- returns
    (λ c. search rules)  -- mul-result
    (λ c. search rules)  -- shared-slice-read-result
    (λ c. omega (arith, c.shared_slice_known-1.given c.args.i))  -- cast-result
    (λ c. search rules))  -- returns-2
