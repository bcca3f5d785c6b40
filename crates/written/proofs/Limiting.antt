-- Numbers below a bound, taken apart and put together; and a number of 32 bits as four bytes. Assumes nothing.
use mathlib.Core.Path.{◌≡◌}
use mathlib.Core.List.{List, [], ◌∷◌, ◌++◌}
use Prim.Native.Nat.{ℕ, zero, suc, ◌+◌, ◌*◌, ◌/◌, ◌%◌, ◌<◌}
use native.Mathlib.Omega.{arith}
use lib.ListN.{get_or, take, drop}
use Rattle.draft.specs.Bytes.{Below, none_below, and_below}
use Rattle.draft.specs.Grammar.{LSB}

module _ {n : ℕ} where
  pub below_front : (xs ys : List ℕ) → Below n (xs ++ ys) → Below n xs
  below_front [] ys b = none_below
  below_front (x ∷ xs) ys (and_below h b) = and_below h (below_front xs ys b)

  pub below_back : (xs ys : List ℕ) → Below n (xs ++ ys) → Below n ys
  below_back [] ys b = b
  below_back (x ∷ xs) ys (and_below h b) = below_back xs ys b

  pub below_append : {xs ys : List ℕ} → Below n xs → Below n ys → Below n (xs ++ ys)
  below_append none_below b = b
  below_append (and_below h a) b = and_below h (below_append a b)

  pub below_take : (k : ℕ) {xs : List ℕ} → Below n xs → Below n (take k xs)
  below_take zero b = none_below
  below_take (suc k) none_below = none_below
  below_take (suc k) (and_below h b) = and_below h (below_take k b)

  pub below_drop : (k : ℕ) {xs : List ℕ} → Below n xs → Below n (drop k xs)
  below_drop zero b = b
  below_drop (suc k) none_below = none_below
  below_drop (suc k) (and_below h b) = below_drop k b

  pub below_at : {xs : List ℕ} (i : ℕ) → 0 < n → Below n xs → get_or xs i 0 < n
  below_at i h none_below = h
  below_at zero h (and_below k b) = k
  below_at (suc i) h (and_below k b) = below_at i h b

  -- what a contract knows of a lent slice
  pub below_all : (xs : List ℕ) → ((i : ℕ) → get_or xs i 0 < n) → Below n xs
  below_all [] h = none_below
  below_all (x ∷ xs) h = and_below (h 0) (below_all xs (λ i. h (suc i)))

-- four bytes are a number's
pub lsb_is : (n : ℕ) → n < 4294967296 → LSB n (n % 256) (n / 256 % 256) (n / 65536 % 256) (n / 16777216 % 256)
lsb_is n h =
    let b : n / 256 / 256 ≡ n / 65536 = omega arith in
    let c : n / 65536 / 256 ≡ n / 16777216 = omega arith in
    let d : n / 16777216 % 256 ≡ n / 16777216 = omega arith in
    let i : n ≡ n % 256 + 256 * (n / 256) = omega arith in
    let j : n / 256 ≡ n / 256 % 256 + 256 * (n / 256 / 256) = omega arith in
    let k : n / 65536 ≡ n / 65536 % 256 + 256 * (n / 65536 / 256) = omega arith in
    omega (arith, b, c, d, i, j, k)
