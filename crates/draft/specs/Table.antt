-- Rows in a table of words: where word j of row r stands, rows stored, and rows fetched. Assumes nothing.
use Rattle.std.specs.Prelude.{ℕ, zero, suc, ◌+◌, ◌*◌, ◌/◌, min, List, [], ◌∷◌, get_or, set}
use Rattle.draft.specs.declared.Row.{Row}
use Rattle.draft.specs.Rows.{row}

-- the rows that so many words have room for, `most` at most
abbrev pub room_of : ℕ → ℕ → ℕ
room_of most words = min (words / 4) most

-- where word j of row r stands in a table with room for c rows: c kinds, then c a's, then c b's, then c ends (document 02, E12)
unfoldable pub place : ℕ → ℕ → ℕ → ℕ
place c r j = c * j + r

unfoldable pub set_row : ℕ → List ℕ → ℕ → Row → List ℕ
set_row c T r x = set (set (set (set T (place c r 0) x.kind) (place c r 1) x.a) (place c r 2) x.b) (place c r 3) x.end

-- the rows from row r on, the first stored last
unfoldable pub put_rows : ℕ → List ℕ → ℕ → List Row → List ℕ
put_rows c T r [] = T
put_rows c T r (x ∷ xs) = set_row c (put_rows c T (suc r) xs) r x

-- row r, fetched
unfoldable pub row_at : ℕ → List ℕ → ℕ → Row
row_at c T r = row (get_or T (place c r 0) 0) (get_or T (place c r 1) 0) (get_or T (place c r 2) 0) (get_or T (place c r 3) 0)

-- what f gives for n numbers from r on
unfoldable pub from : {A : Type 0} → (ℕ → A) → ℕ → ℕ → List A
from f r zero = []
from f r (suc n) = f r ∷ from f (suc r) n

-- the n rows from row r on, fetched
abbrev pub rows_at : ℕ → List ℕ → ℕ → ℕ → List Row
rows_at c T r n = from (row_at c T) r n
