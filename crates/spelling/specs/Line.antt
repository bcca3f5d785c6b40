-- Bytes put into a lent line, and decimal numbers. Assumes nothing.
use Rattle.std.specs.Prelude.{◌≡◌, cond, List, [], ◌∷◌, ◌++◌, ℕ, zero, suc, ◌+◌, ◌/◌, ◌%◌, ltb, length, set}

-- a line, and where the next byte goes
pub record Line : Type 0 where
  pub bytes : List ℕ
  pub at : ℕ

abbrev pub line : List ℕ → ℕ → Line
line bytes at = record { bytes = bytes; at = at }

-- a byte, dropped where the line has no room for it
abbrev pub put_byte : Line → ℕ → Line
put_byte l b = cond (ltb l.at (length l.bytes)) (line (set l.bytes l.at b) (l.at + 1)) l

-- one byte after the other
unfoldable pub put : Line → List ℕ → Line
put l [] = l
put l (b ∷ s) = put (put_byte l b) s

-- what a call did that was to put s into a line from `from` on, and answered where it ends
pub record Puts (s bytes : List ℕ) (from : ℕ) (bytes' : List ℕ) (at : ℕ) : Type 0 where
  pub is : line bytes' at ≡ put (line bytes from) s

-- a number's decimal digits, in ASCII; the last k if it has more
unfoldable pub digits : ℕ → ℕ → List ℕ
digits zero n = []
digits (suc k) n = cond (ltb n 10) ((48 + n) ∷ []) (digits k (n / 10) ++ ((48 + n % 10) ∷ []))

-- a number below 2^64 has 20 at most
abbrev pub decimal : ℕ → List ℕ
decimal n = digits 20 n

-- a word, and a number behind it; and two of these
abbrev pub pair : List ℕ → ℕ → List ℕ
pair word n = word ++ decimal n

abbrev pub pairs : List ℕ → ℕ → List ℕ → ℕ → List ℕ
pairs first x second y = pair first x ++ pair second y
