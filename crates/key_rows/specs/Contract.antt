-- What walking rows asks of the table and the notes on keys, and what it does to the notes. Assumes nothing.
use Rattle.std.specs.Prelude.{◌≡◌, Bool, true, false, List, ℕ, ◌/◌, ◌≤◌, ◌<◌, length, Option, Some}
use Rattle.draft.specs.Strings.{Text}
use Rattle.draft.specs.Content.{key_rule}
use Rattle.draft.specs.Table.{row_at}
use Rattle.draft.specs.Writable.{string_by}
use Rattle.extents.specs.Asked.{Ready, Checked}
use Rattle.keys.specs.Notes.{named, keys_of, Noted, Keeps, Joins}

-- the notes have an entry for each of the stated rows
pub record Entries (rows words : ℕ) : Type 0 where
  pub enough : rows ≤ words / 3
  pub most : words ≤ 12288

-- what walking from row r on asks, below the first row
pub record Prepared (s : List ℕ) (room rows : ℕ) (T : List ℕ) (good r : ℕ) (N : List ℕ) : Type 0 where
  pub below : 0 < r
  pub ready : Ready rows room (length T)
  pub checked : Checked (row_at room T) s good
  pub entries : Entries rows (length N)
  pub noted : Noted (named s room T) N r

-- the notes after a walk from row `first` on, if it found an end
pub record Walked (t : ℕ → Text) (N N' : List ℕ) (first : ℕ) (e : Option ℕ) : Type 0 where
  pub on : (next : ℕ) → e ≡ Some next → first ≤ next
  pub keeps : (next : ℕ) → e ≡ Some next → Keeps t t N N' first next

-- the same of a walk that met an owner's key first
pub record Joined (t : ℕ → Text) (N N' : List ℕ) (owner first : ℕ) (e : Option ℕ) : Type 0 where
  pub joins : (next : ℕ) → e ≡ Some next → Joins t t N N' owner first next

-- what a walk did that was to give this extent
pub record Done (o : Option ℕ) (t : ℕ → Text) (N N' : List ℕ) (first : ℕ) (e : Option ℕ) : Type 0 where
  pub says : e ≡ o
  pub walked : Walked t N N' first e

module _ (s : List ℕ) (room rows : ℕ) (T : List ℕ) where
  -- what a walk did that was to meet an owner's key behind those noted
  pub record KeyDone (owner r : ℕ) (N N' : List ℕ) (e : Option ℕ) : Type 0 where
    pub says : e ≡ string_by (row_at room T) rows s (key_rule (keys_of (named s room T) N owner r)) r
    pub joined : Joined (named s room T) N N' owner r e

  -- what a walk did that was to meet nothing
  pub record Nothing (r : ℕ) (N N' : List ℕ) (e : Option ℕ) : Type 0 where
    pub says : e ≡ Some r
    pub notes : N' ≡ N

  -- what a walk did that was to meet an owner's key, where there are keys
  pub record KeyIf (keyed : Bool) (owner r : ℕ) (N N' : List ℕ) (e : Option ℕ) : Type 0 where
    pub some : keyed ≡ true → KeyDone owner r N N' e
    pub none : keyed ≡ false → Nothing r N N' e
