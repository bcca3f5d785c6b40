-- The listing of a message: a line for the answer, and one for each row. Assumes nothing.
use Rattle.std.specs.Prelude.{◌≡◌, List, [], ◌++◌, ℕ, zero, suc, min, length}
use Rattle.draft.specs.Refusals.{number_of}
use Rattle.draft.specs.Table.{room_of, row_at}
use Rattle.read_answer.specs.declared.Answer.{Answer}
use Rattle.read_answer.specs.declared.Answer.TheVariants.{Accepted, Refused}
use Rattle.read_answer.specs.Answers.{reading, answer_of, table_of}
use Rattle.spelling.specs.Line.{Puts}
use Rattle.lines.specs.Lines.{refusal_line, accepted_line, row_line}

-- n rows of a table with room for c rows, from row r on
unfoldable pub row_lines : ℕ → List ℕ → ℕ → ℕ → List ℕ
row_lines c T r zero = []
row_lines c T r (suc n) = row_line r (row_at c T r) ++ row_lines c T (suc r) n

-- the first rows of a table, as many as are stated and as it has room for
abbrev pub table_lines : List ℕ → ℕ → List ℕ
table_lines T n = row_lines (room_of 4096 (length T)) T 0 (min n (room_of 4096 (length T)))

-- the listing of an answer and its table
abbrev pub listing : Answer → List ℕ → List ℕ
listing (Accepted n m) T = accepted_line n m ++ table_lines T n
listing (Refused refusal place) T = refusal_line (number_of refusal) place

-- what a call did that was to list a message by way of a table of so many words, which is T' after it: 'the listing states 32' (02, E11)
pub record Lists (message : List ℕ) (words : ℕ) (T' line line' : List ℕ) (n : ℕ) : Type 0 where
  pub table : T' ≡ table_of words (reading 32 message words)
  pub lists : Puts (listing (answer_of (reading 32 message words)) T') line 0 line' n
