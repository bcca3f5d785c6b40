-- Whether a limit of nesting may be stated. Assumes nothing.
use mathlib.Core.Path.{◌≡◌, sym, ◌∙◌}
use mathlib.Core.Bool.{Bool, true, false}
use Prim.Native.Nat.{ℕ, ◌≤◌, ◌<◌}
use lib.Dec.{leb}
use borrow.Author.Tests.{le-leb, lt-leb, leb-true}
use Rattle.text.proofs.Comparing.{both}
use Rattle.draft.specs.Limits.{allowed}

module _ (limit : ℕ) where
  pub limit_none : limit < 1 → false ≡ allowed limit
  unfolding allowed
  limit_none h = rw (lt-leb 1 limit h)

  pub limit_up_to : 1 ≤ limit → leb limit 32 ≡ allowed limit
  unfolding allowed
  limit_up_to h = rw (le-leb 1 limit h)

  -- what a test of it has said
  pub limit_is : {b : Bool} → b ≡ allowed limit → b ≡ true → allowed limit ≡ true
  limit_is e f = sym e ∙ f

  pub limit_least : allowed limit ≡ true → 1 ≤ limit
  unfolding allowed
  limit_least e = leb-true 1 limit (both (leb 1 limit) _ e).0

  pub limit_most : allowed limit ≡ true → limit ≤ 32
  unfolding allowed
  limit_most e = leb-true limit 32 (both (leb 1 limit) _ e).1

pub ruleset limits = (limit_none, limit_up_to)
