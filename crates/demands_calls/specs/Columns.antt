-- Request E12: the rows of a reading kept as columns, and a table with the rows that it had before the request. Assumes nothing.
use Rattle.records.specs.Job.{Found, body_at, missing_at}
use Rattle.std.specs.Prelude.{◌≡◌, List, [], ℕ, zero, suc, ◌+◌, ◌*◌, ◌≤◌, ◌<◌, length, get_or, replicate, Ok, Err}
use Rattle.draft.specs.declared.Row.{Row}
use Rattle.draft.specs.Bytes.{part}
use Rattle.draft.specs.Rows.{row}
use Rattle.draft.specs.Table.{room_of, place}
use Rattle.draft.specs.Read.{Reading, got, refused}
use Rattle.read_answer.specs.Answers.{reading}
use Rattle.pieces.specs.Pieces.{outcome, through}
use Rattle.layouts.specs.Layouts.{by_rows, put_rows_by, SameRows}

-- word j of a row: its kind, a, b and end
abbrev pub word_of : ℕ → Row → ℕ
word_of zero x = x.kind
word_of (suc zero) x = x.a
word_of (suc (suc zero)) x = x.b
word_of (suc (suc (suc j))) x = x.end

abbrev pub no_row : Row
no_row = row 0 0 0 0

-- the rows of a reading; a refused one has none
abbrev pub rows_in : Reading → List Row
rows_in (got rows used book) = rows
rows_in (refused refusal place) = []

-- what some pieces come to: the outcome of the bytes through the deciding piece
abbrev pub decided : ℕ → ℕ → List (List ℕ) → Reading
decided limit words ps = outcome limit (through limit words [] ps) words

-- the rows of a card, wherever its body lies; a card that is not found has none
abbrev pub card_rows : List ℕ → ℕ → Found → List Row
card_rows s words (Ok body) = rows_in (reading 32 (part s body.start body.length) words)
card_rows s words (Err none) = []

-- a table of so many words, with room for c rows, that keeps these rows as columns: word j of row r stands at c times j plus r, each column is zeros behind
-- the rows, and so are all words behind the columns; and `as_before` ties it to the table of zeros in which the same rows were stored before the request, one
-- after the other
pub record Kept (words : ℕ) (rows : List Row) (T : List ℕ) : Type 0 where
  pub long : length T ≡ words
  pub stands : (r j : ℕ) → r < length rows → j < 4 → get_or T (room_of 4096 words * j + r) 0 ≡ word_of j (get_or rows r no_row)
  pub spare : (r j : ℕ) → length rows ≤ r → r < room_of 4096 words → j < 4 → get_or T (room_of 4096 words * j + r) 0 ≡ 0
  pub behind : (i : ℕ) → room_of 4096 words * 4 ≤ i → get_or T i 0 ≡ 0
  pub as_before : SameRows by_rows place (put_rows_by by_rows (room_of 4096 words) (replicate words 0) 0 rows) T
