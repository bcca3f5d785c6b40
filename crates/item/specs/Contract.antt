-- What the reading functions ask and what they do, as against the definition of reading. Assumes nothing.
use Rattle.std.specs.Prelude.{◌≡◌, List, ℕ, ◌+◌, ◌*◌, ◌≤◌, length, Result, Ok, Err}
use Rattle.draft.specs.declared.Refusal.{Refusal}
use Rattle.draft.specs.Verdict.{Verdict}
use Rattle.draft.specs.declared.Row.{Row}
use Rattle.draft.specs.declared.Refused.{Refused}
use Rattle.draft.specs.Refusals.{number_of}
use Rattle.draft.specs.Codebook.{Book}
use Rattle.draft.specs.Table.{set_row, put_rows}
use Rattle.draft.specs.Rows.{row}
use Rattle.draft.specs.Read.{Reading, got, refused}
use Rattle.codebook.specs.Words.{book_of}
use Rattle.item.specs.declared.Reached.{Reached}

-- what each reading function asks: the place is within the message and the table, the message is short enough, and the table has its room
pub record Fitting (at row room bytes words : ℕ) : Type 0 where
  pub within : at ≤ bytes
  pub fits : row ≤ room
  pub rows : room ≤ 4096
  pub table : room * 4 ≤ words
  pub message : bytes ≤ 65536

-- and the codebook its words
pub record Ready (at row room bytes words marks : ℕ) : Type 0 where
  pub fitting : Fitting at row room bytes words
  pub book : marks ≡ 256

-- what reading an item answers, whatever refusals there are; and in a message of Binmode RPC
abbrev pub StepOf : Type 0 → Type 0
StepOf R = Result Reached (Refused R)

abbrev pub Step : Type 0
Step = StepOf Refusal

-- a refusal, and that all was read up to a place and a row
abbrev pub refused_at : {R : Type 0} → R → ℕ → StepOf R
refused_at m p = Err (record { refusal = m; place = p })

abbrev pub reached : ℕ → ℕ → Reached
reached to r = record { at = to; row = r }

abbrev pub read_to : {R : Type 0} → ℕ → ℕ → StepOf R
read_to to r = Ok (reached to r)

-- a step's parts: the number of its refusal, or 0; the place that it reached or that is refused, and the row that it reached, or 0
abbrev pub step_number : Step → ℕ
step_number (Ok x) = 0
step_number (Err e) = number_of e.refusal

abbrev pub step_at : Step → ℕ
step_at (Ok x) = x.at
step_at (Err e) = e.place

abbrev pub step_row : Step → ℕ
step_row (Ok x) = x.row
step_row (Err e) = 0

-- a step, unless a rule refuses what it read
abbrev pub judged_at : Verdict → ℕ → Step → Step
judged_at (Ok tt) at step = step
judged_at (Err m) at step = refused_at m at

-- the answer to a reading that began at row r
abbrev pub answer : ℕ → Reading → Step
answer r (refused m p) = refused_at m p
answer r (got rows at book) = read_to at (r + length rows)

-- what an accepted reading leaves: its rows in the table, the codebook in its words, and places within their bounds, `from` the least end
pub record Left (rows : List Row) (at : ℕ) (book : Book) (bytes room from r : ℕ) (T T' W' : List ℕ) : Type 0 where
  pub wrote : T' ≡ put_rows room T r rows
  pub ahead : from ≤ at
  pub within : at ≤ bytes
  pub fits : r + length rows ≤ room
  pub holds : book_of W' ≡ book

-- a refused reading leaves anything: the outermost function clears the table
abbrev pub Leaves : Reading → ℕ → ℕ → ℕ → ℕ → List ℕ → List ℕ → List ℕ → Type 0
Leaves (refused m p) bytes room from r T T' W' = Unit {0}
Leaves (got rows at book) bytes room from r T T' W' = Left rows at book bytes room from r T T' W'

-- what a call did that was to give this reading: its answer, and the table and the codebook's words after it
pub record Did (o : Reading) (bytes room from r : ℕ) (T T' W' : List ℕ) (step : Step) : Type 0 where
  pub says : step ≡ answer r o
  pub leaves : Leaves o bytes room from r T T' W'

-- the same of a call that leaves the codebook alone, whatever its words hold
pub record Stored (o : Book → Reading) (bytes room from r : ℕ) (T T' : List ℕ) (step : Step) : Type 0 where
  pub did : (W : List ℕ) → Did (o (book_of W)) bytes room from r T T' W step

-- an item's row, stored behind the rows of what it holds if those were read; else the table is left as it is
pub record Closed {R : Type 0} (step : StepOf R) (kind b r room : ℕ) (T T' : List ℕ) (result : StepOf R) : Type 0 where
  pub same : result ≡ step
  pub wrote : (x : Reached) → step ≡ Ok x → T' ≡ set_row room T r (row kind 0 b x.row)
  pub kept : (x : Refused R) → step ≡ Err x → T' ≡ T

-- a step ends within the room
pub record Ends {R : Type 0} (step : StepOf R) (room : ℕ) : Type 0 where
  pub within : (x : Reached) → step ≡ Ok x → x.row ≤ room
