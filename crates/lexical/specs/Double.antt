-- Whether bytes are a Double of document 02, as a test that reads them from the front. Assumes nothing.
use Rattle.std.specs.Prelude.{Bool, false, cond, ◌&&◌, ◌||◌, List, [], ◌∷◌, ℕ, eqb}
use Prim.Native.Char.{code}
use Rattle.lexical.specs.Digits.{digit, digits}

-- `+` or `-`
unfoldable pub sign : ℕ → Bool
sign b = eqb b (code "+") || eqb b (code "-")

-- 'one digit or more'
unfoldable pub some_digits : List ℕ → Bool
some_digits [] = false
some_digits (b ∷ s) = digit b && digits s

-- digits, 'a point, one digit or more'
unfoldable pub pointed : List ℕ → Bool
pointed [] = false
pointed (b ∷ s) = cond (digit b) (pointed s) (eqb b (code ".") && some_digits s)

-- 'one digit or more, a point, one digit or more'
unfoldable pub unsigned : List ℕ → Bool
unsigned [] = false
unsigned (b ∷ s) = digit b && pointed s

-- 'an optional sign', and then that
unfoldable pub is_double : List ℕ → Bool
is_double [] = false
is_double (b ∷ s) = cond (sign b) (unsigned s) (unsigned (b ∷ s))
