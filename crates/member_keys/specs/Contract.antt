-- What reading asks of the notes on keys, and what it does to them. Assumes nothing.
use Rattle.std.specs.Prelude.{◌≡◌, Bool, true, false, List, ℕ, ◌+◌, ◌/◌, ◌≤◌, min, length}
use Rattle.draft.specs.Strings.{Text}
use Rattle.draft.specs.Read.{Reading, key}
use Rattle.codebook.specs.Words.{book_of}
use Rattle.item.specs.Contract.{Step, step_number, step_at, step_row}
use Rattle.item.specs.Contract.{Ready, Did, read_to}
use Rattle.keys.specs.Notes.{named, keys_of, Noted, Keeps, Joins}

-- the notes have an entry for each row: there are no more rows than bytes, nor more than there is room for
pub record Entries (at row room bytes words : ℕ) : Type 0 where
  pub behind : row ≤ at
  pub enough : min room bytes ≤ words / 3
  pub most : words ≤ 12288

-- what reading from a place and a row on asks of the table, the codebook's words and the notes
pub record Prepared (s : List ℕ) (at row room : ℕ) (T W N : List ℕ) : Type 0 where
  pub ready : Ready at row room (length s) (length T) (length W)
  pub entries : Entries at row room (length s) (length N)
  pub noted : Noted (named s room T) N row

-- the notes after a call that read from row `first` on, if it was accepted
pub record After (t t' : ℕ → Text) (N N' : List ℕ) (first : ℕ) (step : Step) : Type 0 where
  pub keeps : step_number step ≡ 0 → Keeps t t' N N' first (step_row step)
  pub behind : step_number step ≡ 0 → (step_row step) ≤ (step_at step)

-- the same of a call that read an owner's key first
pub record Joined (t t' : ℕ → Text) (N N' : List ℕ) (owner first : ℕ) (step : Step) : Type 0 where
  pub joins : step_number step ≡ 0 → Joins t t' N N' owner first (step_row step)
  pub behind : step_number step ≡ 0 → (step_row step) ≤ (step_at step)

-- what a call did that was to give this reading, and what it did to the notes
pub record Done (o : Reading) (s : List ℕ) (room from row : ℕ) (T T' W' N N' : List ℕ) (step : Step) : Type 0 where
  pub did : Did o (length s) room from row T T' W' step
  pub after : After (named s room T) (named s room T') N N' row step

-- what a call did that was to read an owner's key behind those noted
pub record KeyDone (s : List ℕ) (room owner at row : ℕ) (T T' W W' N N' : List ℕ) (step : Step) : Type 0 where
  pub did : Did (key s room (keys_of (named s room T) N owner row) at row (book_of W)) (length s) room (at + 1) row T T' W' step
  pub joined : Joined (named s room T) (named s room T') N N' owner row step

-- what a call did that was to read nothing
pub record Nothing (at row : ℕ) (T T' W W' N N' : List ℕ) (step : Step) : Type 0 where
  pub says : step ≡ read_to at row
  pub table : T' ≡ T
  pub book : W' ≡ W
  pub notes : N' ≡ N

-- what a call did that was to read an owner's key, where there are keys
pub record KeyIf (keyed : Bool) (s : List ℕ) (room owner at row : ℕ) (T T' W W' N N' : List ℕ) (step : Step) : Type 0 where
  pub some : keyed ≡ true → KeyDone s room owner at row T T' W W' N N' step
  pub none : keyed ≡ false → Nothing at row T T' W W' N N' step
