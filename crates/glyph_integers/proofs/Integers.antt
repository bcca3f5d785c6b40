-- What answers each return of the functions that read an integer. Assumes nothing.
use mathlib.Core.Path.{◌≡◌, refl, sym, ◌∙◌}
use mathlib.Core.Bool.{Bool, true, false}
use mathlib.Core.List.{List}
use Prim.Native.Nat.{ℕ, ◌+◌, ◌-◌, ◌≤◌, ◌<◌, min}
use native.Mathlib.Omega.{arith}
use mir.Syntax.{w64}
use mir.Val.{Fits}
use lib.Dec.{leb}
use lib.ListN.{length, get_or, drop}
use borrow.Author.Tests.{ne_eqb, le-ltb, le-leb, lt-leb, leb-true, leb-false}
use Rattle.std.specs.Prelude.{Ok}
use Rattle.draft.specs.Rows.{row}
use Rattle.draft.specs.Table.{set_row}
use Rattle.item.specs.declared.Reached.{Reached}
use Rattle.item.specs.Contract.{reached}
use Rattle.glyph.specs.declared.Refusal.TheVariants.{Ended, UnexpectedByte, OutOfRange}
use Rattle.glyph.specs.Numbers.{digits, decimal, is_minus, signs, in_range, word}
use Rattle.glyph.specs.Read.{number_from, integer}
use Rattle.glyph_bytes.specs.Places.{Counted}
use Rattle.glyph_bytes.proofs.Bytes.{get_d_past}
use Rattle.glyph_item.specs.Contract.{Step, refused_at, Did}
use Rattle.glyph_item.proofs.Readings.{done, did_no, leaf_got}
use Rattle.glyph_integers.specs.Signs.{Signed, Slots}
use Rattle.glyph_integers.proofs.Numbers.{numbered_cut, numbered_none, numbered_wrong, numbered_on}

pub in_range_lem : (m : Bool) {v : ℕ} {b : Bool} → b ≡ in_range m v → b ≡ true → v ≤ 2147483648
unfolding in_range
in_range_lem true {v} e t = leb-true v 2147483648 (sym e ∙ t)
in_range_lem false {v} e t = let k = leb-true v 2147483647 (sym e ∙ t) in omega arith

-- a number that was cut is in range exactly if the number is
cut_range : (m : Bool) (v n : ℕ) → v ≡ min n 2147483649 → in_range m n ≡ in_range m v
unfolding in_range
cut_range true v n e = go (leb v 2147483648) refl
  where
    go : (b : Bool) → leb v 2147483648 ≡ b → leb n 2147483648 ≡ leb v 2147483648
    go true i = let k = leb-true v 2147483648 i in let j : n ≤ 2147483648 = omega arith in le-leb _ _ j ∙ sym i
    go false i = let k = leb-false v 2147483648 i in let j : 2147483648 < n = omega arith in lt-leb _ _ j ∙ sym i
cut_range false v n e = go (leb v 2147483647) refl
  where
    go : (b : Bool) → leb v 2147483647 ≡ b → leb n 2147483647 ≡ leb v 2147483647
    go true i = let k = leb-true v 2147483647 i in let j : n ≤ 2147483647 = omega arith in le-leb _ _ j ∙ sym i
    go false i = let k = leb-false v 2147483647 i in let j : 2147483647 < n = omega arith in lt-leb _ _ j ∙ sym i

module _ (s : List ℕ) (m : Bool) (from at : ℕ) {end v : ℕ} {room r : ℕ} {T T' : List ℕ} {step : Step} (c : Counted s from end v) where
  pub number_cut : length s ≤ end → step ≡ refused_at Ended at → Did (number_from s m from at r) (length s) room (at + 1) r T T' step
  unfolding number_from
  number_cut h e = numbered_cut s 59 at _ c h e

  pub number_none : end < length s → end ≤ from → step ≡ refused_at UnexpectedByte at → Did (number_from s m from at r) (length s) room (at + 1) r T T' step
  unfolding number_from
  number_none h k e = numbered_none s 59 at _ c h k e

  module _ (h : end < length s) (k : from < end) where
    pub number_wrong : (get_or s end 0 ≡ 59 → ⊥) → step ≡ refused_at UnexpectedByte at → Did (number_from s m from at r) (length s) room (at + 1) r T T' step
    unfolding number_from
    number_wrong n e = numbered_wrong s 59 at _ c h k n e

    pub number_far : {b : Bool} → get_or s end 0 ≡ 59 → b ≡ in_range m v → b ≡ false → step ≡ refused_at OutOfRange at → Did (number_from s m from at r) (length s) room (at + 1) r T T' step
    unfolding number_from
    number_far n f g e = numbered_on s 59 at _ c h k n (did_no OutOfRange e (rw (cut_range m v _ c.is, ← f, g)))

pub number_got : (s : List ℕ) (m : Bool) (from at : ℕ) {end v : ℕ} {room r : ℕ} {T T' : List ℕ} → Counted s from end v → end < length s → from < end → {b : Bool} {w words : ℕ} {x : Reached} → get_or s end 0 ≡ 59 → b ≡ in_range m v → b ≡ true → w ≡ word m v → x ≡ reached (end + 1) (r + 1) → T' ≡ set_row room T r (row 4 w 0 (r + 1)) → at < from → Slots r room (length s) words → Did (number_from s m from at r) (length s) room (at + 1) r T T' (Ok x)
unfolding number_from
number_got s m from at {end = end} {v = v} c h k n f g y e w l z =
    let q = in_range_lem m f g in
    let same : decimal 0 (drop from s) ≡ v = omega (arith, c.is) in
    let e₂ : from + digits (drop from s) ≡ end = sym c.ends in
    numbered_on s 59 at _ c h k n (done (rw (cut_range m v _ c.is, ← f, g, same, e₂, ← y)) (leaf_got e w (omega arith) (omega arith) z.left))

-- an integer, by its sign
module _ (s : List ℕ) (at : ℕ) {room r : ℕ} {T T' : List ℕ} {step : Step} where
  pub integer_cut : length s ≤ at + 1 → step ≡ refused_at Ended at → Did (integer s at r) (length s) room (at + 1) r T T' step
  unfolding number_from is_minus signs
  integer_cut h e = did_no Ended e (let z : get_or s (at + 1) 0 ≡ 0 = get_d_past s (at + 1) h in rw z (let k : length s ≤ at + 1 + 0 + digits (drop (at + 1 + 0) s) = omega arith in simp (le-ltb _ _ k)))

  pub integer_on : {m : Bool} {size : ℕ} → Signed (get_or s (at + 1) 0) m size → Did (number_from s m (at + 1 + size) at r) (length s) room (at + 1) r T T' step → Did (integer s at r) (length s) room (at + 1) r T T' step
  integer_on z d = rw (← z.is, ← z.takes) d

pub sign_from : (at : ℕ) {b n : ℕ} {m : Bool} {size : ℕ} → Signed b m size → at + 1 < n → at + 1 + size ≤ n
sign_from at z h = omega (arith, z.most)

pub from_after : (at size : ℕ) → at < at + 1 + size
from_after at size = omega arith

pub sign_fits : {b at n : ℕ} {m : Bool} {size : ℕ} → Signed b m size → at < n → n ≤ 65536 → Fits w64 (at + 1 + size)
sign_fits z h k = omega (arith, z.most)

pub ruleset integers = (in_range_lem, number_cut, number_none, number_wrong, number_far, number_got, integer_cut, integer_on, sign_from, from_after, sign_fits)
