-- Digits as bytes, and what they count. Assumes nothing.
use Rattle.std.specs.Prelude.{Bool, true, ◌&&◌, List, [], ◌∷◌, ℕ, ◌+◌, ◌-◌, ◌*◌, leb, get_or}
use Prim.Native.Char.{code}

-- `0` to `9`
unfoldable pub digit : ℕ → Bool
digit b = leb (code "0") b && leb b (code "9")

-- what a digit counts
abbrev pub digit_value : ℕ → ℕ
digit_value b = b - code "0"

-- digits and no more
unfoldable pub digits : List ℕ → Bool
digits [] = true
digits (b ∷ s) = digit b && digits s

-- two digits at i
unfoldable pub pair : List ℕ → ℕ → Bool
pair s i = digit (get_or s i 0) && digit (get_or s (i + 1) 0)

-- the number that they write
unfoldable pub two : List ℕ → ℕ → ℕ
two s i = 10 * digit_value (get_or s i 0) + digit_value (get_or s (i + 1) 0)
