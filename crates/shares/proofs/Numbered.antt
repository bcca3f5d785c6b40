-- A station by its number, and the row to split at. Assumes nothing.
use mathlib.Core.Path.{◌≡◌}
use Prim.Native.Nat.{ℕ}
use borrow.Author.Tests.{ne_eqb}
use Rattle.shares.specs.declared.Station.TheVariants.{Four, Five}
use Rattle.shares.specs.Share.{station_of, split_for}

module _ (number : ℕ) where
  pub number_five : number ≡ 5 → Five ≡ station_of number
  number_five e = rw e

  pub number_four : (number ≡ 5 → ⊥) → Four ≡ station_of number
  number_four h = rw (ne_eqb _ _ h)

  module _ (split : ℕ) where
    pub split_four : number ≡ 4 → split ≡ split_for number split
    split_four e = rw e

    pub split_five : number ≡ 5 → split ≡ split_for number split
    split_five e = rw e

    pub split_none : (number ≡ 4 → ⊥) → (number ≡ 5 → ⊥) → 0 ≡ split_for number split
    split_none h k = rw (ne_eqb _ _ h, ne_eqb _ _ k)

pub ruleset numbered = (number_five, number_four, split_four, split_five, split_none)
