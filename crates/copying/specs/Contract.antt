-- An output with bytes in front. Assumes nothing.
use Rattle.std.specs.Prelude.{ℕ, ◌≡◌, List, ◌++◌, length, drop}

-- xs in front, and the rest as it was
pub record Front (xs out out' : List ℕ) : Type 0 where
  pub is : out' ≡ xs ++ drop (length xs) out
