-- The room with the bytes so far and a piece behind them. Assumes nothing.
use mathlib.Core.Path.{◌≡◌, refl, sym, ◌∙◌, ap}
use mathlib.Core.Bool.{Bool, true, false}
use mathlib.Core.List.{List, ◌++◌}
use Prim.Native.Nat.{ℕ, ◌+◌, ◌-◌, ◌≤◌, ◌<◌, min}
use native.Mathlib.Omega.{arith}
use lib.ListN.{length, take, drop, length-append, length-take, length-drop}
use lib.Seq.{take_all, take-length, length-take-le, take-append_seam, take-append-add, drop-append-add, drop-drop, take_at, drop-paste}
use lib.Dec.{leb}
use borrow.Author.Tests.{leb-true, leb-false}
use Rattle.room.specs.Room.{taken, room_after}
use Rattle.pieces.specs.Pieces.{room_with}

take_least : (n : ℕ) (p : List ℕ) → take n p ≡ take (min n (length p)) p
take_least n p = by (leb n (length p)) refl
  where
    by : (b : Bool) → leb n (length p) ≡ b → take n p ≡ take (min n (length p)) p
    by true e = let h : n ≤ length p = leb-true n (length p) e in let m : min n (length p) ≡ n = omega arith in rw m
    by false e =
        let h : length p < n = leb-false n (length p) e in
        let m : min n (length p) ≡ length p = omega arith in
        rw m (take_all n p (omega arith) ∙ sym (take-length p))

pub same_room : (s R : List ℕ) → 65536 ≤ length R → length (room_with s R) ≡ length R
unfolding room_with
same_room s R h =
    length-append (take 65536 s) (drop (length (take 65536 s)) R)
    ∙ omega (arith, length-take 65536 s, length-drop (length (take 65536 s)) R)

module _ (s p R : List ℕ) (short : length s ≤ 65536) where
  pub cut : take 65536 (s ++ p) ≡ s ++ take (taken (length s) p) p
  cut =
      let e : 65536 ≡ length s + (65536 - length s) = omega arith in
      ap (λ (n : ℕ). take n (s ++ p)) e
      ∙ take-append-add s p (65536 - length s)
      ∙ ap (λ (l : List ℕ). s ++ l) (take_least (65536 - length s) p)

  pub length_cut : length (take 65536 (s ++ p)) ≡ length s + taken (length s) p
  length_cut =
      ap length cut
      ∙ length-append s (take (taken (length s) p) p)
      ∙ ap (λ (n : ℕ). length s + n) (length-take-le (taken (length s) p) p (omega arith))

  room_now : room_with s R ≡ s ++ drop (length s) R
  unfolding room_with
  room_now = rw (take_all 65536 s short)

  room_cut : room_with (s ++ p) R ≡ (s ++ take (taken (length s) p) p) ++ drop (length s + taken (length s) p) R
  unfolding room_with
  room_cut = rw (length_cut, cut)

  -- the piece goes behind the bytes so far
  pub room_next : room_after (length s) p (room_with s R) ≡ room_with (s ++ p) R
  room_next =
      let k : ℕ = taken (length s) p in
      let x : take (length s) (room_with s R) ≡ s = rw room_now (take-append_seam s (drop (length s) R)) in
      let y : drop (length s + k) (room_with s R) ≡ drop (length s + k) R
      = rw room_now (drop-append-add s (drop (length s) R) k ∙ drop-drop k (length s) R) in
      rw (x, y, room_cut)

  -- and what is held then are the bytes so far with it, cut at 65,536
  pub held_next : take (length s + taken (length s) p) (room_with (s ++ p) R) ≡ take 65536 (s ++ p)
  unfolding room_with
  held_next = take_at (take 65536 (s ++ p)) (drop (length (take 65536 (s ++ p))) R) (length s + taken (length s) p) length_cut

  pub fits : length p ≤ 65536 - length s → take 65536 (s ++ p) ≡ s ++ p
  fits h = take_all 65536 (s ++ p) (omega (arith, length-append s p))

-- a piece stored anywhere within the first 65,536 bytes leaves the rest
pub past : (held : ℕ) (p R : List ℕ) → held ≤ 65536 → 65536 ≤ length R → drop 65536 (room_after held p R) ≡ drop 65536 R
past held p R h long =
    let n : ℕ = held + taken held p in
    let k : ℕ = 65536 - n in
    let e : 65536 ≡ n + k = omega arith in
    let x : drop n (room_after held p R) ≡ drop n R = drop-paste R held p (taken held p) (omega arith) (omega arith) in
    ap (λ (i : ℕ). drop i (room_after held p R)) e
    ∙ sym (drop-drop k n (room_after held p R))
    ∙ ap (drop k) x
    ∙ drop-drop k n R
    ∙ ap (λ (i : ℕ). drop i R) (sym e)
