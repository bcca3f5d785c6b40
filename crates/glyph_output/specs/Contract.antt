-- What stands in a lent output after a call that was to put bytes behind those that stand there. Assumes nothing.
use Rattle.std.specs.Prelude.{ℕ, ◌+◌, ◌/◌, ◌%◌, ◌≤◌, ◌≡◌, cond, List, [], ◌∷◌, ◌++◌, length, take, drop, leb}
use Prim.Native.Char.{code}

-- a place: all past 65,536 are told as 65,537
unfoldable pub reached : ℕ → ℕ
reached n = cond (leb n 65536) n 65537

-- bytes may be put up to `most`, for which an output of so many bytes has room; `at` is a place that was told
pub record Open (most bytes at : ℕ) : Type 0 where
  pub within : most ≤ bytes
  pub few : most ≤ 65536
  pub told : at ≤ 65537

-- xs was to be put from `at` on: where it ends, and that it stands there, with the rest as it was, if it ends at `most` at the latest
pub record Adds (xs : List ℕ) (most : ℕ) (out : List ℕ) (at : ℕ) (out' : List ℕ) (stop : ℕ) : Type 0 where
  pub stops : stop ≡ reached (at + length xs)
  pub stands : at + length xs ≤ most → out' ≡ take at out ++ (xs ++ drop (at + length xs) out)

-- the digits of a number below 10,000, the first of which may be zeros
abbrev pub four_digits : ℕ → List ℕ
four_digits n = (code "0" + n / 1000) ∷ (code "0" + n / 100 % 10) ∷ (code "0" + n / 10 % 10) ∷ (code "0" + n % 10) ∷ []
