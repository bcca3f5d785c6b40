-- Tables by any layout: rows stored and fetched, the table that a reading leaves, two tables with the same rows, and one table turned into the other.
-- Assumes nothing.
use Rattle.std.specs.Prelude.{◌≡◌, List, [], ◌∷◌, ℕ, suc, ◌+◌, ◌*◌, ◌≤◌, ◌<◌, length, get_or, set, replicate}
use Rattle.draft.specs.declared.Row.{Row}
use Rattle.draft.specs.Rows.{row}
use Rattle.draft.specs.Table.{room_of, from}
use Rattle.draft.specs.Read.{Reading, got, refused}

-- where word j of row r stands in a table with room for c rows
abbrev pub Layout : Type 0
Layout = ℕ → ℕ → ℕ → ℕ

-- one row after the other, as tables were before request E12
unfoldable pub by_rows : Layout
by_rows c r j = r * 4 + j

-- a word of a row is in the table, and no two words share a place
pub record Lays (at : Layout) : Type 0 where
  pub inside : (c r j : ℕ) → r < c → j < 4 → at c r j < c * 4
  pub apart : (c i j k k' : ℕ) → i < c → j < c → k < 4 → k' < 4 → at c i k ≡ at c j k' → (i ≡ j) × (k ≡ k')

-- the draft's definitions, with any layout in the place of `place`
module _ (at : Layout) where
  unfoldable pub set_row_by : ℕ → List ℕ → ℕ → Row → List ℕ
  set_row_by c T r x = set (set (set (set T (at c r 0) x.kind) (at c r 1) x.a) (at c r 2) x.b) (at c r 3) x.end

  unfoldable pub put_rows_by : ℕ → List ℕ → ℕ → List Row → List ℕ
  put_rows_by c T r [] = T
  put_rows_by c T r (x ∷ xs) = set_row_by c (put_rows_by c T (suc r) xs) r x

  unfoldable pub row_by : ℕ → List ℕ → ℕ → Row
  row_by c T r = row (get_or T (at c r 0) 0) (get_or T (at c r 1) 0) (get_or T (at c r 2) 0) (get_or T (at c r 3) 0)

  -- the table after a reading, as `reader::read` leaves it
  abbrev pub table_by : ℕ → Reading → List ℕ
  table_by words (refused refusal place) = replicate words 0
  table_by words (got rows used book) = put_rows_by (room_of 4096 words) (replicate words 0) 0 rows

-- a reading with no more rows than a table of so many words has room for
abbrev pub FitsIn : ℕ → Reading → Type 0
FitsIn words (refused refusal place) = Unit {0}
FitsIn words (got rows used book) = length rows ≤ room_of 4096 words

-- two tables, each by its own layout: as long, with the same rows as far as there is room, and with the same words behind them
pub record SameRows (at at' : Layout) (T T' : List ℕ) : Type 0 where
  pub long : length T ≡ length T'
  pub each : (r : ℕ) → r < room_of 4096 (length T) → row_by at (room_of 4096 (length T)) T r ≡ row_by at' (room_of 4096 (length T')) T' r
  pub beyond : (i : ℕ) → room_of 4096 (length T) * 4 ≤ i → get_or T i 0 ≡ get_or T' i 0

-- a table by one layout, turned into one by another: all its rows, stored anew
unfoldable pub turned : Layout → Layout → List ℕ → List ℕ
turned at at' T = put_rows_by at' (room_of 4096 (length T)) T 0 (from (row_by at (room_of 4096 (length T)) T) 0 (room_of 4096 (length T)))
