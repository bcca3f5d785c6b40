-- What the functions on the strings of rows do. Assumes nothing.
use Rattle.std.specs.Prelude.{ℕ, ◌≤◌, ◌<◌, ◌≡◌, List, length, get_or}
use Rattle.draft.specs.declared.Row.{Row}
use Rattle.draft.specs.Table.{from}
use Rattle.draft.specs.Strings.{texts_of}
use Rattle.draft.specs.Written.{string_bytes}
use Rattle.buckets.specs.Numbered.{numbered_text}
use Rattle.positions.specs.Contract.{told}

-- the words W have the rows of n strings, which are those of the rows, whatever bytes their texts lie in
pub record Collected (row : ℕ → Row) (rows : ℕ) (W : List ℕ) (n : ℕ) : Type 0 where
  pub texts : (s : List ℕ) → texts_of s (from row 0 rows) ≡ from (numbered_text row W s) 0 n
  pub few : n ≤ rows
  pub room : n ≤ length W
  pub within : (k : ℕ) → k < n → get_or W k 0 < rows

-- string j takes n bytes
pub record Takes (row : ℕ → Row) (s W fs sp : List ℕ) (j n : ℕ) : Type 0 where
  pub is : n ≡ length (string_bytes (told fs sp j (numbered_text row W s j)))
