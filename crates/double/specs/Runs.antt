-- How many bytes at the front are a sign, and how many are digits: what the functions that pass them promise. Assumes nothing.
use Rattle.std.specs.Prelude.{cond, List, [], ◌∷◌, ℕ, suc}
use Rattle.lexical.specs.Digits.{digit}
use Rattle.lexical.specs.Double.{sign}

unfoldable pub sign_length : List ℕ → ℕ
sign_length [] = 0
sign_length (b ∷ s) = cond (sign b) 1 0

unfoldable pub leading : List ℕ → ℕ
leading [] = 0
leading (b ∷ s) = cond (digit b) (suc (leading s)) 0
