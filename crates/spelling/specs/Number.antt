-- The number that a word of a command is: decimal digits and nothing else, below 2^64. Assumes nothing.
use Rattle.std.specs.Prelude.{Bool, true, false, Option, Some, None, ◌&&◌, List, [], ◌∷◌, ℕ, ◌+◌, ◌-◌, ◌*◌, leb, ltb}

abbrev pub is_if : Bool → ℕ → Option ℕ
is_if true n = Some n
is_if false n = None

-- whether a byte is `0` to `9`
abbrev pub digit : ℕ → Bool
digit b = leb 48 b && leb b 57

-- a number with one digit more
unfoldable pub with_digit : ℕ → ℕ → Option ℕ
with_digit value b = is_if (digit b && ltb (value * 10 + (b - 48)) 18446744073709551616) (value * 10 + (b - 48))

abbrev pub onward : Option ℕ → (ℕ → Option ℕ) → Option ℕ
onward (Some value) more = more value
onward None more = None

-- a number, and the digits behind it
unfoldable pub with_digits : ℕ → List ℕ → Option ℕ
with_digits value [] = Some value
with_digits value (b ∷ s) = onward (with_digit value b) (λ v. with_digits v s)

-- no word without a digit is one
unfoldable pub number_of : List ℕ → Option ℕ
number_of [] = None
number_of (b ∷ s) = with_digits 0 (b ∷ s)
