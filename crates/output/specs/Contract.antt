-- What stands in a lent output after a call. Assumes nothing.
use Rattle.std.specs.Prelude.{ℕ, ◌≤◌, ◌<◌, ◌≡◌, List, length}
use Rattle.copying.specs.Contract.{Front}

-- xs in front and the rest as it was, of a call that answered how many bytes xs are
pub record Put (xs out out' : List ℕ) (n : ℕ) : Type 0 where
  pub front : Front xs out out'
  pub long : n ≡ length xs

-- xs has n bytes, and stands in front if they are at most so many; else nothing is changed
pub record Tried (xs : List ℕ) (most : ℕ) (out out' : List ℕ) (n : ℕ) : Type 0 where
  pub long : n ≡ length xs
  pub front : n ≤ most → Front xs out out'
  pub kept : most < n → out' ≡ out
