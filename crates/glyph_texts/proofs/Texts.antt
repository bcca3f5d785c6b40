-- What answers each return of the functions that read a unicode or a bytearray. Assumes nothing.
use mathlib.Core.Path.{◌≡◌, refl, sym}
use mathlib.Core.Bool.{Bool, true, false}
use mathlib.Core.List.{List}
use Prim.Native.Nat.{ℕ, ◌+◌, ◌≤◌, ◌<◌, min}
use native.Mathlib.Omega.{arith}
use lib.Dec.{leb}
use lib.ListN.{length, get_or, drop}
use borrow.Author.Tests.{eq-eqb, ne_eqb, lt-ltb, le-ltb, leb-true, leb-false}
use Rattle.text.specs.Utf8.{well_formed}
use Rattle.draft.specs.Bytes.{part}
use Rattle.draft.specs.Rows.{row}
use Rattle.draft.specs.Table.{set_row}
use Rattle.std.specs.Prelude.{Ok}
use Rattle.item.specs.declared.Reached.{Reached}
use Rattle.item.specs.Contract.{reached, Fitting}
use Rattle.glyph.specs.declared.Refusal.TheVariants.{Ended, UnexpectedByte, BadText}
use Rattle.glyph.specs.Numbers.{digits}
use Rattle.glyph.specs.Read.{opened, content, lengthened, text, text_kind, good_text}
use Rattle.glyph_bytes.specs.Places.{Open, Counted}
use Rattle.glyph_item.specs.Contract.{Step, refused_at, Did}
use Rattle.glyph_item.proofs.Readings.{done, did_no, leaf_got, opened_full, opened_on}
use Rattle.glyph_integers.specs.Signs.{Slots}
use Rattle.glyph_integers.proofs.Numbers.{numbered_cut, numbered_none, numbered_wrong, numbered_on}

-- what a row needs
pub slots : {at row room bytes words : ℕ} → Fitting at row room bytes words → row < room → Slots row room bytes words
slots f h = record { left = h; rows = f.rows; table = f.table; message = f.message }

-- content
module _ (s : List ℕ) (u : Bool) (o n at : ℕ) {room r : ℕ} {T T' : List ℕ} {step : Step} where
  pub content_cut : length s ≤ o + n → step ≡ refused_at Ended at → Did (content s u o n at r) (length s) room (at + 1) r T T' step
  unfolding content
  content_cut h e = did_no Ended e (simp (le-ltb _ _ h))

  module _ (h : o + n < length s) where
    pub content_wrong : (get_or s (o + n) 0 ≡ 59 → ⊥) → step ≡ refused_at UnexpectedByte at → Did (content s u o n at r) (length s) room (at + 1) r T T' step
    unfolding content
    content_wrong k e = did_no UnexpectedByte e (simp (lt-ltb _ _ h, ne_eqb _ _ k))

    pub content_bad : {b : Bool} → get_or s (o + n) 0 ≡ 59 → b ≡ good_text u (part s o n) → b ≡ false → step ≡ refused_at BadText at → Did (content s u o n at r) (length s) room (at + 1) r T T' step
    unfolding content
    content_bad k f g e = did_no BadText e (simp (lt-ltb _ _ h, eq-eqb _ _ k) (rw (← f, g)))

pub content_got : (s : List ℕ) (u : Bool) (o n at : ℕ) {room r : ℕ} {T T' : List ℕ} → o + n < length s → {b : Bool} {k words : ℕ} {x : Reached} → get_or s (o + n) 0 ≡ 59 → b ≡ good_text u (part s o n) → b ≡ true → k ≡ text_kind u → x ≡ reached (o + n + 1) (r + 1) → T' ≡ set_row room T r (row k o n (r + 1)) → at < o → Slots r room (length s) words → Did (content s u o n at r) (length s) room (at + 1) r T T' (Ok x)
unfolding content
content_got s u o n at h k f g q e w l z =
    done (simp (lt-ltb _ _ h, eq-eqb _ _ k) (rw (← f, g, ← q))) (leaf_got e w (omega arith) (omega arith) z.left)

-- content of a length that was cut: both are past the end
cut_content : (s : List ℕ) (u : Bool) (o at r v n : ℕ) → v ≡ min n 2147483649 → length s ≤ 65536 → content s u o n at r ≡ content s u o v at r
unfolding content
cut_content s u o at r v n e h = go (leb n 2147483649) refl
  where
    go : (b : Bool) → leb n 2147483649 ≡ b → content s u o n at r ≡ content s u o v at r
    go true i = let k = leb-true n 2147483649 i in let j : n ≡ v = omega arith in rw j
    go false i = let k = leb-false n 2147483649 i in let j : length s ≤ o + n = omega arith in let l : length s ≤ o + v = omega arith in rw (le-ltb _ _ j, le-ltb _ _ l)

module _ (s : List ℕ) (u : Bool) (at : ℕ) {end v : ℕ} {room r : ℕ} {T T' : List ℕ} {step : Step} (c : Counted s (at + 1) end v) where
  pub length_cut : length s ≤ end → step ≡ refused_at Ended at → Did (lengthened s u at r) (length s) room (at + 1) r T T' step
  unfolding lengthened
  length_cut h e = numbered_cut s 58 at _ c h e

  pub length_none : end < length s → end ≤ at + 1 → step ≡ refused_at UnexpectedByte at → Did (lengthened s u at r) (length s) room (at + 1) r T T' step
  unfolding lengthened
  length_none h k e = numbered_none s 58 at _ c h k e

  pub length_wrong : end < length s → at + 1 < end → (get_or s end 0 ≡ 58 → ⊥) → step ≡ refused_at UnexpectedByte at → Did (lengthened s u at r) (length s) room (at + 1) r T T' step
  unfolding lengthened
  length_wrong h k n e = numbered_wrong s 58 at _ c h k n e

  pub length_on : {words : ℕ} → end < length s → at + 1 < end → get_or s end 0 ≡ 58 → Slots r room (length s) words → Did (content s u (end + 1) v at r) (length s) room (at + 1) r T T' step → Did (lengthened s u at r) (length s) room (at + 1) r T T' step
  unfolding lengthened
  length_on h k n z d =
      let e₂ : at + 1 + digits (drop (at + 1) s) ≡ end = sym c.ends in
      numbered_on s 58 at _ c h k n (done (rw e₂ (cut_content s u (end + 1) at r v _ c.is z.message)) d)

pub value_small : {s : List ℕ} {at end v : ℕ} → Counted s at end v → v ≤ 2147483649
value_small c = omega (arith, c.is)

-- what the content asks
pub after_digits : (at end : ℕ) → at + 1 < end → at < end + 1
after_digits at end h = omega arith

module _ (s : List ℕ) (u : Bool) (at : ℕ) {room r : ℕ} {T T' : List ℕ} {step : Step} {b : Bool} where
  pub text_on : Open s (at + 1) b → b ≡ true → Did (lengthened s u at r) (length s) room (at + 1) r T T' step → Did (text s u at r) (length s) room (at + 1) r T T' step
  unfolding text
  text_on x y d = done (rw (x.on y)) d

pub text_empty : (s : List ℕ) (u : Bool) (at : ℕ) {room r : ℕ} {T T' : List ℕ} {b : Bool} {k words : ℕ} {x : Reached} → Open s (at + 1) b → b ≡ false → k ≡ text_kind u → x ≡ reached (at + 2) (r + 1) → T' ≡ set_row room T r (row k (at + 1) 0 (r + 1)) → Slots r room (length s) words → Did (text s u at r) (length s) room (at + 1) r T T' (Ok x)
unfolding text
text_empty s u at x y q e w z = let t = x.there y in done (rw (x.ends y, ← q)) (leaf_got e w (omega arith) (omega arith) z.left)

pub unicode_on : (s : List ℕ) (at : ℕ) {room r : ℕ} {T T' : List ℕ} {step : Step} → r < room → Did (text s true at r) (length s) room (at + 1) r T T' step → Did (opened room at r (text s true at r)) (length s) room (at + 1) r T T' step
unicode_on s at h d = opened_on at _ h d

pub ruleset texts = (unicode_on, slots, content_cut, content_wrong, content_bad, content_got, length_cut, length_none, length_wrong, length_on, value_small, after_digits, text_on, text_empty, opened_full)
