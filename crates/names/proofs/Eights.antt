-- What answers the returns and turns of the function that compares eight bytes at a time. Assumes nothing.
use mathlib.Core.Path.{◌≡◌, refl, sym, ap, ◌∙◌}
use Rattle.std.proofs.Common.{nat_eq}
use lib.Pointwise.{pointwise}
use mathlib.Core.Bool.{Bool, true, false, ◌&&◌}
use mathlib.Core.List.{List, [], ◌∷◌}
use Prim.Native.Nat.{ℕ, zero, suc, ◌+◌, ◌*◌, ◌-◌, ◌≤◌, ◌<◌}
use native.Mathlib.Omega.{arith}
use native.Mathlib.Numerals.{add-one}
use native.Mathlib.Nat.{add-zero}
use lib.ListN.{length, get_or, take, drop}
use lib.Seq.{drop-cons}
use lib.Dec.{eqb}
use borrow.Author.Tests.{eqb-true, eqb-false}
use Rattle.text.specs.Texts.{same}
use Rattle.text.specs.Runs.{number}
use Rattle.text.proofs.Comparing.{same_ne, BothLeft, same_done, same_again}
use Rattle.text.proofs.Walking.{Bytes, byte}

-- the number of the bytes at a place, by the first and the number of the others
first : (n : ℕ) (s : List ℕ) (at : ℕ) → at < length s → number (take (suc n) (drop at s)) ≡ number (take n (drop (at + 1) s)) * 256 + get_or s at 0
unfolding number
first n s at h = rw (drop-cons s at 0 h, add-one)

module _ (u t : List ℕ) (a : Bytes u) (b : Bytes t) (l : length u ≡ length t) where
  -- bytes of the same number are the same, one by one
  each : (n i : ℕ) → i + n ≤ length u → number (take n (drop i u)) ≡ number (take n (drop i t)) → (k : ℕ) → i ≤ k → k < i + n → get_or u k 0 ≡ get_or t k 0
  each zero i h e k m o = absurd (omega arith)
  each (suc n) i h e k m o =
      let f = first n u i (omega arith) in
      let g = first n t i (omega arith) in
      let x = byte u a i in
      let y = byte t b i in
      let p : get_or u i 0 ≡ get_or t i 0 = omega arith in
      let q : number (take n (drop (i + 1) u)) ≡ number (take n (drop (i + 1) t)) = omega arith in
      go (eqb k i) refl p (each n (i + 1) (omega arith) q k)
    where
      go : (c : Bool) → eqb k i ≡ c → get_or u i 0 ≡ get_or t i 0 → (i + 1 ≤ k → k < i + 1 + n → get_or u k 0 ≡ get_or t k 0) → get_or u k 0 ≡ get_or t k 0
      go true r p s = rw (eqb-true k i r) p
      go false r p s = s (omega (arith, eqb-false k i r)) (omega arith)

  -- bytes that are the same one by one are passed
  run : (n : ℕ) {i : ℕ} → BothLeft u t i → i + n ≤ length u → ((k : ℕ) → i ≤ k → k < i + n → get_or u k 0 ≡ get_or t k 0) → BothLeft u t (i + n)
  run zero {i} e h s = rw add-zero e
  run (suc n) {i} e h s =
      let f : BothLeft u t (i + 1) = same_again e l (omega arith) (s i (omega arith) (omega arith)) in
      let g : i + 1 + n ≡ i + suc n = omega arith in
      rw (sym g) (run n f (omega arith) (λ k m o. s k (omega arith) (omega arith)))

  module _ {k x y : ℕ} (e : BothLeft u t k) (h : k ≤ length u) where
    pub eight_again : 8 ≤ length u - k → x ≡ number (take 8 (drop k u)) → y ≡ number (take 8 (drop k t)) → x ≡ y → BothLeft u t (k + 8)
    eight_again m f g z = run 8 e (omega arith) (each 8 k (omega arith) (sym f ∙ z ∙ g))

    -- the last eight are compared again, and no more are left
    pub eight_last : 8 ≤ length u → length u - k < 8 → x ≡ number (take 8 (drop (length u - 8) u)) → y ≡ number (take 8 (drop (length u - 8) t)) → eqb x y ≡ same u t
    eight_last m o f g = go (eqb x y) refl
      where
        other : (x ≡ y → ⊥) → same u t ≡ false
        other n = same_ne u t (λ q. n (f ∙ ap (λ s. number (take 8 (drop (length u - 8) s))) q ∙ sym g))

        whole : x ≡ y → same u t ≡ true
        whole z =
            let r = run (length u - k) e (omega arith) (λ j p q. each 8 (length u - 8) (omega arith) (sym f ∙ z ∙ g) j (omega arith) (omega arith)) in
            sym (same_done r l (omega arith))

        go : (c : Bool) → eqb x y ≡ c → c ≡ same u t
        go true w = sym (whole (eqb-true x y w))
        go false w = sym (other (eqb-false x y w))

pub eight_no : (u t : List ℕ) (k : ℕ) {x y : ℕ} → x ≡ number (take 8 (drop k u)) → y ≡ number (take 8 (drop k t)) → (x ≡ y → ⊥) → false ≡ same u t
eight_no u t k f g n = sym (same_ne u t (λ q. n (f ∙ ap (λ s. number (take 8 (drop k s))) q ∙ sym g)))

pub ruleset eights = (eight_again, eight_last, eight_no)

-- std's equality of texts
pub bytes_same : (u t : List ℕ) → pointwise nat_eq u t ≡ same u t
unfolding same
bytes_same [] [] = refl
bytes_same [] (y ∷ t) = refl
bytes_same (x ∷ u) [] = refl
bytes_same (x ∷ u) (y ∷ t) = ap (λ b. nat_eq x y && b) (bytes_same u t)
