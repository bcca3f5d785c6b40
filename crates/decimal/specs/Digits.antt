-- The digits of a decimal's text, and where its point and its sign stand. Assumes nothing.
use Rattle.std.specs.Prelude.{◌≡◌, Bool, false, cond, ◌&&◌, List, [], ◌∷◌, ℕ, ◌+◌, ◌*◌, length, drop, leb, eqb}
use Prim.Native.Char.{code}
use Rattle.lexical.specs.Digits.{digit, digit_value}

-- `1` to `9`
unfoldable pub nonzero : ℕ → Bool
nonzero b = leb (code "1") b && leb b (code "9")

-- what the digits of a text count, in order
unfoldable pub digits_of : List ℕ → List ℕ
digits_of [] = []
digits_of (b ∷ s) = cond (digit b) (digit_value b ∷ digits_of s) (digits_of s)

-- 'after leading zeros are dropped'
unfoldable pub significant : List ℕ → List ℕ
significant [] = []
significant (d ∷ ds) = cond (eqb d 0) (significant ds) (d ∷ ds)

-- 'the digits as a whole number', after those that write n
unfoldable pub whole : ℕ → List ℕ → ℕ
whole n [] = n
whole n (d ∷ ds) = whole (10 * n + d) ds

-- how many digits stand 'after the point'
unfoldable pub places : List ℕ → ℕ
places [] = 0
places (b ∷ s) = cond (eqb b (code ".")) (length s) (places s)

-- 'if the sign is minus'
unfoldable pub negative : List ℕ → Bool
negative [] = false
negative (b ∷ s) = eqb b (code "-")

-- the digits that count are those from a place on
pub record Counting (s : List ℕ) (from : ℕ) : Type 0 where
  pub same : significant (digits_of s) ≡ digits_of (drop from s)
