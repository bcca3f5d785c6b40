-- The tag of a byte. Assumes nothing.
use mathlib.Core.Path.{◌≡◌}
use Prim.Native.Nat.{ℕ}
use borrow.Author.Tests.{ne_eqb}
use Rattle.draft.specs.declared.Tag.TheVariants.{Plain, String, Array, Struct, Unknown}
use Rattle.draft.specs.declared.Plain.TheVariants.{Integer, True, False, Double, DateTime, Binary, Other}
use Rattle.draft.specs.declared.Form.TheVariants.{Regular, Recorded, Recalled}
use Rattle.draft.specs.Read.{tag_of}

module _ (b : ℕ) where
  pub tag_integer : b ≡ 73 → Plain Integer ≡ tag_of b
  unfolding tag_of
  tag_integer e = rw e

  pub tag_true : b ≡ 116 → Plain True ≡ tag_of b
  unfolding tag_of
  tag_true e = rw e

  pub tag_false : b ≡ 102 → Plain False ≡ tag_of b
  unfolding tag_of
  tag_false e = rw e

  pub tag_double : b ≡ 68 → Plain Double ≡ tag_of b
  unfolding tag_of
  tag_double e = rw e

  pub tag_date : b ≡ 56 → Plain DateTime ≡ tag_of b
  unfolding tag_of
  tag_date e = rw e

  pub tag_binary : b ≡ 66 → Plain Binary ≡ tag_of b
  unfolding tag_of
  tag_binary e = rw e

  pub tag_array : b ≡ 65 → Array ≡ tag_of b
  unfolding tag_of
  tag_array e = rw e

  pub tag_struct : b ≡ 83 → Struct ≡ tag_of b
  unfolding tag_of
  tag_struct e = rw e

  pub tag_other : b ≡ 79 → Plain Other ≡ tag_of b
  unfolding tag_of
  tag_other e = rw e

  pub tag_regular : b ≡ 85 → String Regular ≡ tag_of b
  unfolding tag_of
  tag_regular e = rw e

  pub tag_recorded : b ≡ 62 → String Recorded ≡ tag_of b
  unfolding tag_of
  tag_recorded e = rw e

  pub tag_recalled : b ≡ 60 → String Recalled ≡ tag_of b
  unfolding tag_of
  tag_recalled e = rw e

  pub tag_unknown : (b ≡ 73 → ⊥) → (b ≡ 116 → ⊥) → (b ≡ 102 → ⊥) → (b ≡ 68 → ⊥) → (b ≡ 56 → ⊥) → (b ≡ 66 → ⊥) → (b ≡ 65 → ⊥) → (b ≡ 83 → ⊥) → (b ≡ 79 → ⊥) → (b ≡ 85 → ⊥) → (b ≡ 62 → ⊥) → (b ≡ 60 → ⊥) → Unknown ≡ tag_of b
  unfolding tag_of
  tag_unknown c d e f g h i j k l m n =
      rw (ne_eqb _ _ c, ne_eqb _ _ d, ne_eqb _ _ e, ne_eqb _ _ f, ne_eqb _ _ g, ne_eqb _ _ h, ne_eqb _ _ i, ne_eqb _ _ j, ne_eqb _ _ k, ne_eqb _ _ l, ne_eqb _ _ m, ne_eqb _ _ n)
