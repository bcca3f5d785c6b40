-- Blanks, digits and numbers at the front of some bytes. Assumes nothing.
use Rattle.std.specs.Prelude.{Bool, true, false, ◌||◌, cond, List, [], ◌∷◌, ℕ, suc, ◌+◌, ◌*◌, ◌-◌, eqb, leb, drop}
use Prim.Native.Char.{code}
use Rattle.lexical.specs.Digits.{digit, digit_value}

-- ws :== (space | tab | vtab | cr | lf)*
unfoldable pub is_blank : ℕ → Bool
is_blank b = eqb b 32 || (eqb b 9 || (eqb b 11 || (eqb b 13 || eqb b 10)))

-- how many blanks there are in front
unfoldable pub blanks : List ℕ → ℕ
blanks [] = 0
blanks (x ∷ xs) = cond (is_blank x) (suc (blanks xs)) 0

-- the place past the blanks at a place
unfoldable pub past : List ℕ → ℕ → ℕ
past s at = at + blanks (drop at s)

-- how many digits there are in front, and the number that they are, n before them: however many, and however large
unfoldable pub digits : List ℕ → ℕ
digits [] = 0
digits (x ∷ xs) = cond (digit x) (suc (digits xs)) 0

unfoldable pub decimal : ℕ → List ℕ → ℕ
decimal n [] = n
decimal n (x ∷ xs) = cond (digit x) (decimal (n * 10 + digit_value x) xs) n

-- a sign: minus, and how many bytes it takes
unfoldable pub is_minus : ℕ → Bool
is_minus b = eqb b (code "-")

unfoldable pub signs : ℕ → ℕ
signs b = cond (is_minus b || eqb b (code "+")) 1 0

-- 'signed 32-bit': the largest number with a sign and without, and its 32 bits, two's complement
abbrev pub most : Bool → ℕ
most true = 2147483648
most false = 2147483647

unfoldable pub in_range : Bool → ℕ → Bool
in_range minus n = leb n (most minus)

abbrev pub word : Bool → ℕ → ℕ
word true n = cond (eqb n 0) 0 (4294967296 - n)
word false n = n
