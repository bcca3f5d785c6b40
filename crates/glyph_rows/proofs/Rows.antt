-- Kinds of rows without children, and the letter of an extension. Assumes nothing.
use mathlib.Core.Path.{◌≡◌}
use mathlib.Core.Bool.{false}
use Prim.Native.Nat.{ℕ}
use borrow.Author.Tests.{ne_eqb}
use Rattle.glyph.specs.declared.Edition.{Edition}
use Rattle.glyph.specs.declared.Edition.TheVariants.{New, Old}
use Rattle.glyph_form.specs.Form.{letter_for}
use Rattle.glyph_rows.specs.Holding.{holds}

pub holds_none : (k : ℕ) → (k ≡ 9 → ⊥) → (k ≡ 10 → ⊥) → (k ≡ 14 → ⊥) → (k ≡ 15 → ⊥) → (k ≡ 16 → ⊥) → false ≡ holds k
unfolding holds
holds_none k a b c d e = rw (ne_eqb _ _ a, ne_eqb _ _ b, ne_eqb _ _ c, ne_eqb _ _ d, ne_eqb _ _ e)

module _ {e : Edition} where
  pub extension_new : e ≡ New → 88 ≡ letter_for e 15
  unfolding letter_for
  extension_new g = rw g

  pub extension_old : e ≡ Old → 72 ≡ letter_for e 15
  unfolding letter_for
  extension_old g = rw g

pub ruleset letters = (extension_new, extension_old)
