-- Runs of bytes below 128, and the number that some bytes make. Assumes nothing.
use Rattle.std.specs.Prelude.{List, [], ◌∷◌, ℕ, ◌+◌, ◌*◌, ◌≤◌, ◌<◌, length, get_or}

-- the bytes from one place up to another are there, and below 128
pub record Run (s : List ℕ) (from to : ℕ) : Type 0 where
  pub order : from ≤ to
  pub inside : to ≤ length s
  pub below : (k : ℕ) → from ≤ k → k < to → get_or s k 0 < 128

-- the number of some bytes, the lowest first
unfoldable pub number : List ℕ → ℕ
number [] = 0
number (byte ∷ s) = number s * 256 + byte
