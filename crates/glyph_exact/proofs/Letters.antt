-- What each byte begins, and where no blank stands. Assumes nothing.
use mathlib.Core.Path.{◌≡◌, refl}
use mathlib.Core.Bool.{false}
use mathlib.Core.List.{List as Bytes_of, [], ◌∷◌}
use Prim.Native.Nat.{ℕ, zero, suc}
use lib.ListN.{get_or, drop}
use borrow.Author.Tests.{ne_eqb}
use Rattle.glyph.specs.declared.Edition.{Edition}
use Rattle.glyph.specs.declared.Edition.TheVariants.{New, Old}
use Rattle.glyph.specs.declared.Leaf.TheVariants.{Integer, Unicode, Bytes, True, False, Nil}
use Rattle.glyph.specs.declared.Many.TheVariants.{List, Dict, Ordered}
use Rattle.glyph.specs.declared.Three.TheVariants.{Extension, Node}
use Rattle.glyph.specs.declared.Letter.{Letter}
use Rattle.glyph.specs.declared.Letter.TheVariants.{Leaf, Many, Three, Unknown}
use Rattle.glyph.specs.Letters.{letter_of}
use Rattle.glyph.specs.Numbers.{is_blank, blanks}

module _ (e : Edition) (b : ℕ) where
  pub letter_integer : b ≡ 105 → Leaf Integer ≡ letter_of e b
  unfolding letter_of
  letter_integer i = rw i

  pub letter_unicode : b ≡ 117 → Leaf Unicode ≡ letter_of e b
  unfolding letter_of
  letter_unicode i = rw i

  pub letter_bytes : b ≡ 98 → Leaf Bytes ≡ letter_of e b
  unfolding letter_of
  letter_bytes i = rw i

  pub letter_true : b ≡ 84 → Leaf True ≡ letter_of e b
  unfolding letter_of
  letter_true i = rw i

  pub letter_false : b ≡ 70 → Leaf False ≡ letter_of e b
  unfolding letter_of
  letter_false i = rw i

  pub letter_nil : b ≡ 78 → Leaf Nil ≡ letter_of e b
  unfolding letter_of
  letter_nil i = rw i

  pub letter_list : b ≡ 76 → Many List ≡ letter_of e b
  unfolding letter_of
  letter_list i = rw i

  pub letter_dict : b ≡ 68 → Many Dict ≡ letter_of e b
  unfolding letter_of
  letter_dict i = rw i

  pub letter_ordered : b ≡ 79 → Many Ordered ≡ letter_of e b
  unfolding letter_of
  letter_ordered i = rw i

  pub letter_new_x : b ≡ 88 → e ≡ New → Three Extension ≡ letter_of e b
  unfolding letter_of
  letter_new_x i j = rw (i, j)

  pub letter_old_x : b ≡ 88 → e ≡ Old → Three Node ≡ letter_of e b
  unfolding letter_of
  letter_old_x i j = rw (i, j)

  pub letter_new_h : b ≡ 72 → e ≡ New → Unknown ≡ letter_of e b
  unfolding letter_of
  letter_new_h i j = rw (i, j)

  pub letter_old_h : b ≡ 72 → e ≡ Old → Three Extension ≡ letter_of e b
  unfolding letter_of
  letter_old_h i j = rw (i, j)

  pub letter_unknown : (b ≡ 105 → ⊥) → (b ≡ 117 → ⊥) → (b ≡ 98 → ⊥) → (b ≡ 84 → ⊥) → (b ≡ 70 → ⊥) → (b ≡ 78 → ⊥) → (b ≡ 76 → ⊥) → (b ≡ 68 → ⊥) → (b ≡ 79 → ⊥) → (b ≡ 88 → ⊥) → (b ≡ 72 → ⊥) → Unknown ≡ letter_of e b
  unfolding letter_of
  letter_unknown h₀ h₁ h₂ h₃ h₄ h₅ h₆ h₇ h₈ h₉ h₁₀ = rw (ne_eqb _ _ h₀, ne_eqb _ _ h₁, ne_eqb _ _ h₂, ne_eqb _ _ h₃, ne_eqb _ _ h₄, ne_eqb _ _ h₅, ne_eqb _ _ h₆, ne_eqb _ _ h₇, ne_eqb _ _ h₈, ne_eqb _ _ h₉, ne_eqb _ _ h₁₀)

-- with no test that holds of 0, the end of the bytes is like a byte that fails it
pub blanks_none : (s : Bytes_of ℕ) (i : ℕ) → is_blank (get_or s i 0) ≡ false → blanks (drop i s) ≡ 0
unfolding blanks
blanks_none [] zero e = refl
blanks_none [] (suc i) e = refl
blanks_none (x ∷ s) zero e = rw e
blanks_none (x ∷ s) (suc i) e = blanks_none s i e
