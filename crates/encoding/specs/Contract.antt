-- What putting the items of a run of rows says. Assumes nothing.
use Rattle.std.specs.Prelude.{ℕ, ◌+◌, ◌-◌, ◌≤◌, ◌<◌, ◌≡◌, List, ◌++◌, length}
use Rattle.draft.specs.declared.Row.{Row}
use Rattle.draft.specs.Table.{from}
use Rattle.draft.specs.Grammar.{Sent}
use Rattle.draft.specs.Strings.{texts_of}
use Rattle.draft.specs.Written.{items_of}
use Rattle.copying.specs.Contract.{Front}
use Rattle.encoding.specs.declared.Run.{Run}

-- the items of the rows from `first` up to `end`, none of which is a string, are xs, however strings are sent
pub record Between (row : ℕ → Row) (rows : ℕ) (s : List ℕ) (first end : ℕ) (xs : List ℕ) : Type 0 where
  pub items : (fs : List Sent) → items_of s (from row first (rows - first)) fs ≡ xs ++ items_of s (from row end (rows - end)) fs
  pub texts : texts_of s (from row first (rows - first)) ≡ texts_of s (from row end (rows - end))
  pub within : end ≤ rows

-- the items of a run from `first` on were put, if they have at most so many bytes
pub record Ran (row : ℕ → Row) (rows : ℕ) (s : List ℕ) (first most : ℕ) (out out' : List ℕ) (run : Run) : Type 0 where
  pub bytes : List ℕ
  pub between : Between row rows s first run.end bytes
  pub further : first < run.end
  pub long : run.bytes ≡ length bytes
  pub front : run.bytes ≤ most → Front bytes out out'
  pub few : run.bytes ≤ most + 65541
