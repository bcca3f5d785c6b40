-- How many bytes are wanted, by the byte at the place: a law for each return. Assumes nothing.
use mathlib.Core.Path.{◌≡◌, refl, sym, ◌∙◌}
use mathlib.Core.Bool.{Bool, true, false, cond}
use mathlib.Core.List.{List}
use Prim.Native.Nat.{ℕ, ◌+◌, ◌≤◌, ◌<◌}
use native.Mathlib.Omega.{arith}
use lib.ListN.{length, get_or}
use lib.Dec.{leb, eqb}
use borrow.Author.Tests.{le-leb, lt-leb, ne_eqb}
use Rattle.draft.specs.declared.Tag.{Tag}
use Rattle.draft.specs.declared.Tag.TheVariants as tag
use Rattle.draft.specs.declared.Plain.TheVariants as plain
use Rattle.draft.specs.declared.Form.TheVariants.{Regular, Recorded, Recalled}
use Rattle.draft.specs.Bytes.{byte_at, unsigned_at}
use Rattle.draft.specs.Read.{tag_of}
use Rattle.wanting.specs.Want.{fields_of, announced, want_of}
use Rattle.wanting.proofs.Wanting.{want_none, want_there}
use Rattle.want.specs.Ends.{short_end, long_end}

module _ (s : List ℕ) (at : ℕ) where
  pub short_cut : length s < at + 2 → at + 2 ≡ short_end s at
  unfolding short_end
  short_cut h = rw (lt-leb (at + 2) (length s) h)

  pub short_whole : (b : ℕ) → at + 2 ≤ length s → b ≡ byte_at s (at + 1) → at + 2 + b ≡ short_end s at
  unfolding short_end
  short_whole b h e = rw (le-leb (at + 2) (length s) h, e)

  pub long_cut : (p : ℕ) → length s < at + (p + 4) → at + (p + 4) ≡ long_end s at p
  unfolding long_end
  long_cut p h = rw (lt-leb (at + (p + 4)) (length s) h)

  pub long_whole : (p n : ℕ) → at + (p + 4) ≤ length s → n ≡ unsigned_at s (at + p) → at + (p + 4) + n ≡ long_end s at p
  unfolding long_end
  long_whole p n h e = rw (le-leb (at + (p + 4)) (length s) h, e)

  pub none_there : length s ≤ at → length s + 1 ≡ want_of s at
  none_there h = sym (want_none s at h)

  -- an item without content
  no_content : (t : Tag) → announced s at t ≡ 0 → tag_of (byte_at s at) ≡ t → at < length s → at + fields_of t ≡ want_of s at
  no_content t z e h = sym (want_there s at t e h ∙ either (leb (at + fields_of t) (length s)))
    where
      either : (b : Bool) → cond b (at + fields_of t + announced s at t) (at + fields_of t) ≡ at + fields_of t
      either true = omega (arith, z)
      either false = refl

  module _ (h : at < length s) where
    pub integer_there : get_or s at 0 ≡ 73 → at + 5 ≡ want_of s at
    unfolding tag_of
    integer_there e = no_content (tag.Plain plain.Integer) refl (rw e) h

    pub array_there : get_or s at 0 ≡ 65 → at + 5 ≡ want_of s at
    unfolding tag_of
    array_there e = no_content tag.Array refl (rw e) h

    pub struct_there : get_or s at 0 ≡ 83 → at + 5 ≡ want_of s at
    unfolding tag_of
    struct_there e = no_content tag.Struct refl (rw e) h

    pub recalled_there : get_or s at 0 ≡ 60 → at + 2 ≡ want_of s at
    unfolding tag_of
    recalled_there e = no_content (tag.String Recalled) refl (rw e) h

    pub double_there : (r : ℕ) → get_or s at 0 ≡ 68 → r ≡ short_end s at → r ≡ want_of s at
    unfolding tag_of short_end
    double_there r e f = f ∙ sym (want_there s at (tag.Plain plain.Double) (rw e) h)

    pub date_there : (r : ℕ) → get_or s at 0 ≡ 56 → r ≡ short_end s at → r ≡ want_of s at
    unfolding tag_of short_end
    date_there r e f = f ∙ sym (want_there s at (tag.Plain plain.DateTime) (rw e) h)

    pub binary_there : (r : ℕ) → get_or s at 0 ≡ 66 → r ≡ long_end s at 1 → r ≡ want_of s at
    unfolding tag_of long_end
    binary_there r e f = f ∙ sym (want_there s at (tag.Plain plain.Binary) (rw e) h)

    pub regular_there : (r : ℕ) → get_or s at 0 ≡ 85 → r ≡ long_end s at 1 → r ≡ want_of s at
    unfolding tag_of long_end
    regular_there r e f = f ∙ sym (want_there s at (tag.String Regular) (rw e) h)

    pub recorded_there : (r : ℕ) → get_or s at 0 ≡ 62 → r ≡ long_end s at 2 → r ≡ want_of s at
    unfolding tag_of long_end
    recorded_there r e f = f ∙ sym (want_there s at (tag.String Recorded) (rw e) h)

    pub else_there :
        (get_or s at 0 ≡ 73 → ⊥) → (get_or s at 0 ≡ 68 → ⊥) → (get_or s at 0 ≡ 56 → ⊥) → (get_or s at 0 ≡ 66 → ⊥) → (get_or s at 0 ≡ 65 → ⊥)
        → (get_or s at 0 ≡ 83 → ⊥) → (get_or s at 0 ≡ 85 → ⊥) → (get_or s at 0 ≡ 62 → ⊥) → (get_or s at 0 ≡ 60 → ⊥) → at + 1 ≡ want_of s at
    unfolding tag_of
    else_there a b c d e f g i j = by (eqb (get_or s at 0) 116) refl (eqb (get_or s at 0) 102) refl (eqb (get_or s at 0) 79) refl
      where
        tag_is : (t : Tag)
            → cond (eqb (get_or s at 0) 116) (tag.Plain plain.True) (cond (eqb (get_or s at 0) 102) (tag.Plain plain.False) (cond (eqb (get_or s at 0) 79) (tag.Plain plain.Other) tag.Unknown)) ≡ t
            → tag_of (byte_at s at) ≡ t
        tag_is t k = simp (ne_eqb _ _ a, ne_eqb _ _ b, ne_eqb _ _ c, ne_eqb _ _ d, ne_eqb _ _ e, ne_eqb _ _ f, ne_eqb _ _ g, ne_eqb _ _ i, ne_eqb _ _ j) k

        by :
            (x : Bool) → eqb (get_or s at 0) 116 ≡ x → (y : Bool) → eqb (get_or s at 0) 102 ≡ y → (z : Bool) → eqb (get_or s at 0) 79 ≡ z
            → at + 1 ≡ want_of s at
        by true p y q z r = no_content (tag.Plain plain.True) refl (tag_is (tag.Plain plain.True) (rw p)) h
        by false p true q z r = no_content (tag.Plain plain.False) refl (tag_is (tag.Plain plain.False) (rw (p, q))) h
        by false p false q true r = no_content (tag.Plain plain.Other) refl (tag_is (tag.Plain plain.Other) (rw (p, q, r))) h
        by false p false q false r = no_content tag.Unknown refl (tag_is tag.Unknown (rw (p, q, r))) h

pub ruleset wanting = (short_cut, short_whole, long_cut, long_whole, none_there, integer_there, array_there, struct_there, recalled_there, double_there, date_there, binary_there, regular_there, recorded_there, else_there)
