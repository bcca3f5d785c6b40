-- Bytes that stand in a message, taken apart and put together. Assumes nothing.
use mathlib.Core.Path.{◌≡◌, refl, sym, ap, ◌∙◌}
use mathlib.Core.List.{List, [], ◌∷◌, ◌++◌, append_assoc}
use Prim.Native.Nat.{ℕ, ◌+◌, ◌≤◌, ◌<◌}
use native.Mathlib.Omega.{arith}
use native.Mathlib.Nat.{add-zero}
use native.Mathlib.Numerals.{add-one}
use lib.ListN.{length, get_or, drop, length-append, length-take, length-drop, take-append-drop, get_or-append}
use lib.Seq.{get_or-drop, drop-drop, drop-append_seam, take-append_seam, drop-cons}
use Rattle.draft.specs.Bytes.{byte_at, unsigned_at, part}
use Rattle.draft.specs.Grammar.{LSB}

-- the bytes xs stand in s from `at` on
pub record Here (s : List ℕ) (at : ℕ) (xs : List ℕ) : Type 0 where
  pub rest : List ℕ
  pub from : drop at s ≡ xs ++ rest
  pub starts : at ≤ length s

pub nothing_here : {s : List ℕ} {at : ℕ} → at ≤ length s → Here s at []
nothing_here {s} {at} h = record { rest = drop at s; from = refl; starts = h }

module _ {s : List ℕ} {at : ℕ} where
  pub ends : {xs : List ℕ} → Here s at xs → at + length xs ≤ length s
  ends {xs} h = omega (arith, simp (length-drop, length-append) at (ap length h.from), h.starts)

  pub front : {zs : List ℕ} (xs ys : List ℕ) → Here s at zs → zs ≡ xs ++ ys → Here s at xs
  front xs ys h e = record { rest = ys ++ h.rest; from = h.from ∙ rw (e, append_assoc); starts = h.starts }

  pub back : {zs : List ℕ} (xs ys : List ℕ) → Here s at zs → zs ≡ xs ++ ys → Here s (at + length xs) ys
  back xs ys h e =
      record {
        rest = h.rest;
        from = sym (drop-drop (length xs) at s) ∙ ap (drop (length xs)) (h.from ∙ rw (e, append_assoc)) ∙ drop-append_seam xs (ys ++ h.rest);
        starts = ends (front xs ys h e);
      }

  pub join : {zs : List ℕ} (xs ys : List ℕ) → Here s at xs → Here s (at + length xs) ys → zs ≡ xs ++ ys → Here s at zs
  join xs ys h k e =
      let p : h.rest ≡ ys ++ k.rest = sym (drop-append_seam xs h.rest) ∙ ap (drop (length xs)) (sym h.from) ∙ drop-drop (length xs) at s ∙ k.from in
      record { rest = k.rest; from = h.from ∙ rw (p, e, append_assoc); starts = h.starts }

  -- byte i of them
  pub byte_of : {xs : List ℕ} → Here s at xs → (i : ℕ) → i < length xs → byte_at s (at + i) ≡ get_or xs i 0
  byte_of {xs} h i k = sym (get_or-drop at s i 0) ∙ ap (λ (l : List ℕ). get_or l i 0) h.from ∙ get_or-append xs h.rest 0 i k

  pub first : {x : ℕ} {xs : List ℕ} → Here s at (x ∷ xs) → byte_at s at ≡ x
  first h = rw (← add-zero at) (byte_of h 0 (omega arith))

  pub second : {x y : ℕ} {xs : List ℕ} → Here s at (x ∷ y ∷ xs) → byte_at s (at + 1) ≡ y
  second h = byte_of h 1 (omega arith)

  pub four : {n i j k l : ℕ} {xs : List ℕ} → Here s at (i ∷ j ∷ k ∷ l ∷ xs) → LSB n i j k l → unsigned_at s at ≡ n
  four h e = rw (e, first h, second h, byte_of h 2 (omega arith), byte_of h 3 (omega arith))

  -- content that stands there
  pub part_here : {n : ℕ} {t : List ℕ} → Here s at t → n ≡ length t → part s at n ≡ t
  part_here {n} {t} h e = rw (e, h.from) (take-append_seam t h.rest)

-- the n bytes at `at`
pub bytes_at_lem : (s : List ℕ) (at n : ℕ) → at + n ≤ length s → Here s at (part s at n)
bytes_at_lem s at n h = record { rest = drop n (drop at s); from = sym (take-append-drop n (drop at s)); starts = omega arith }

pub long : (s : List ℕ) (at n : ℕ) → at + n ≤ length s → n ≡ length (part s at n)
long s at n h = simp (length-take, length-drop) (omega arith)

-- one byte in front, and four
pub byte_before : {s : List ℕ} {at : ℕ} {xs : List ℕ} → at < length s → Here s (at + 1) xs → Here s at (byte_at s at ∷ xs)
byte_before {s} {at} {xs} l h =
    record { rest = h.rest; from = drop-cons s at 0 l ∙ ap (λ (l : List ℕ). byte_at s at ∷ l) (rw add-one at h.from); starts = omega arith }

pub two_before : {s : List ℕ} {at : ℕ} {xs : List ℕ} → at + 2 ≤ length s → Here s (at + 2) xs → Here s at (byte_at s at ∷ byte_at s (at + 1) ∷ xs)
two_before {s} {at} h k = let e : at + 2 ≡ at + 1 + 1 = omega arith in byte_before (omega arith) (byte_before (omega arith) (rw e at k))

pub four_before :
    {s : List ℕ} {at : ℕ} {xs : List ℕ} → at + 4 ≤ length s → Here s (at + 4) xs
    → Here s at (byte_at s at ∷ byte_at s (at + 1) ∷ byte_at s (at + 2) ∷ byte_at s (at + 3) ∷ xs)
four_before {s} {at} h k =
    let e : at + 4 ≡ at + 2 + 2 = omega arith in
    let f : at + 2 + 1 ≡ at + 3 = omega arith in
    two_before (omega arith) (rw f at (two_before {at = at + 2} (omega arith) (rw e at k)))

pub five_before :
    {s : List ℕ} {at : ℕ} {xs : List ℕ} → at + 5 ≤ length s → Here s (at + 5) xs
    → Here s at (byte_at s at ∷ byte_at s (at + 1) ∷ byte_at s (at + 1 + 1) ∷ byte_at s (at + 1 + 2) ∷ byte_at s (at + 1 + 3) ∷ xs)
five_before {s} {at} h k = let e : at + 5 ≡ at + 1 + 4 = omega arith in byte_before (omega arith) (four_before {at = at + 1} (omega arith) (rw e at k))

pub six_before :
    {s : List ℕ} {at : ℕ} {xs : List ℕ} → at + 6 ≤ length s → Here s (at + 6) xs
    → Here s at (byte_at s at ∷ byte_at s (at + 1) ∷ byte_at s (at + 2) ∷ byte_at s (at + 2 + 1) ∷ byte_at s (at + 2 + 2) ∷ byte_at s (at + 2 + 3) ∷ xs)
six_before {s} {at} h k = let e : at + 6 ≡ at + 2 + 4 = omega arith in two_before (omega arith) (four_before {at = at + 2} (omega arith) (rw e at k))
