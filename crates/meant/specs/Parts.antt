-- What the digits, places and sign of a Double's text are, by the parts that the grammar gives it. `digits_of`, `places` and `negative` are defined for
-- any bytes; of a Double they are these. Assumes nothing.
use Rattle.std.specs.Prelude.{◌≡◌, List, [], ◌∷◌, ◌++◌, ℕ, length}
use Prim.Native.Char.{code}
use Rattle.text.specs.Texts.{same}
use Rattle.lexical.specs.Digits.{digit_value}
use Rattle.decimal.specs.Digits.{digits_of, places, negative}

-- what each digit counts
unfoldable pub values : List ℕ → List ℕ
values [] = []
values (b ∷ s) = digit_value b ∷ values s

-- the text s is a sign, digits, a point and a fraction: its digits are those before the point and those after it, its places the fraction's, and its
-- sign is minus exactly if it is `-`
pub record Parts (sign before fraction s : List ℕ) : Type 0 where
  pub digits : digits_of s ≡ values (before ++ fraction)
  pub after : places s ≡ length fraction
  pub minus : negative s ≡ same sign (code "-" ∷ [])
