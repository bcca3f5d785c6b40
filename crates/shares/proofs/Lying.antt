-- Words in place of others in a list. Assumes nothing.
use mathlib.Core.Path.{◌≡◌, sym, ◌∙◌, ap}
use mathlib.Core.List.{List, ◌++◌}
use Prim.Native.Nat.{ℕ, ◌+◌, ◌-◌, ◌≤◌}
use native.Mathlib.Omega.{arith}
use lib.ListN.{length, take, drop, length-drop, length-append}
use lib.Seq.{length-take-le, take_at, drop_at, take-append-le, take-take, drop-drop}
use Rattle.shares.specs.Share.{lying}

module _ (a n : ℕ) (xs T : List ℕ) (fits : a + n ≤ length T) (is : length xs ≡ n) where
  pub length_lying : length (lying a n xs T) ≡ length T
  unfolding lying
  length_lying = simp (length-append, length-drop, length-take-le a T (omega arith)) (omega arith)

  pub take_lying : (k : ℕ) → k ≤ a → take k (lying a n xs T) ≡ take k T
  unfolding lying
  take_lying k h =
      take-append-le k (take a T) (xs ++ drop n (drop a T)) (omega (arith, length-take-le a T (omega arith))) ∙ take-take k a T h

  from_there : drop a (lying a n xs T) ≡ xs ++ drop n (drop a T)
  unfolding lying
  from_there = drop_at (take a T) (xs ++ drop n (drop a T)) a (length-take-le a T (omega arith))

  behind : drop (a + n) (lying a n xs T) ≡ drop (a + n) T
  behind =
      sym (drop-drop n a (lying a n xs T)) ∙ ap (drop n) from_there ∙ drop_at xs (drop n (drop a T)) n is ∙ drop-drop n a T

  pub drop_lying : (k : ℕ) → a + n ≤ k → drop k (lying a n xs T) ≡ drop k T
  drop_lying k h =
      let j : ℕ = k - (a + n) in
      let e : k ≡ a + n + j = omega arith in
      rw e (sym (drop-drop j (a + n) (lying a n xs T)) ∙ ap (drop j) behind ∙ drop-drop j (a + n) T)

  pub part_lying : take n (drop a (lying a n xs T)) ≡ xs
  part_lying = ap (take n) from_there ∙ take_at xs (drop n (drop a T)) n is

-- the words from the start on, and those behind them, in either order
pub exchanged :
    (n k : ℕ) (xs ys T : List ℕ) → length xs ≡ n → n ≤ length T → lying n k ys (lying 0 n xs T) ≡ lying 0 n xs (lying n k ys T)
unfolding lying
exchanged n k xs ys T p h =
    rw (take_at xs (drop n T) n p, drop_at xs (drop n T) n p, drop_at (take n T) (ys ++ drop k (drop n T)) n (length-take-le n T h))
