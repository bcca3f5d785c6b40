-- Job defaults behind a card: whose text a key has. Defined for any two tables. Assumes nothing.
use Rattle.std.specs.Prelude.{Bool, true, false, cond, List, ℕ, eqb, length, Option, Some, None, Err}
use Rattle.draft.specs.declared.Row.{Row}
use Rattle.draft.specs.Table.{room_of, row_at}
use Rattle.draft.specs.Writable.{writable}
use Rattle.member.specs.declared.Member.{Member}
use Rattle.member.specs.Members.{is_struct, members, find}
use Rattle.choice.specs.declared.Held.{Held}
use Rattle.choice.specs.declared.Held.TheVariants.{Absent, NoText, Text}
use Rattle.choice.specs.declared.Refusal.{Refusal}
use Rattle.choice.specs.declared.Refusal.TheVariants.{NotWritable, NoMember}
use Rattle.choice.specs.Choosing.{Choice, preferred}

-- what a text is asked of, the card or the defaults: a table with so many stated rows, the bytes in which its texts lie, and the Struct's row
pub record Source : Type 0 where
  pub table : List ℕ
  pub rows : ℕ
  pub text : List ℕ
  pub row : ℕ

abbrev pub source : List ℕ → ℕ → List ℕ → ℕ → Source
source T rows s r = record { table = T; rows = rows; text = s; row = r }

-- the rows by their numbers
module _ (row : ℕ → Row) where
  -- what the value of row r is to one who asks for a text: a String's, or none
  unfoldable pub numbered_text : ℕ → Held
  numbered_text r = cond (eqb (row r).kind 11) (Text (row r).a (row r).b) NoText

  abbrev pub found_text : Option Member → Held
  found_text (Some m) = numbered_text m.value
  found_text None = Absent

  -- what the Struct of row r has under a key, among so many rows
  unfoldable pub held_in : ℕ → List ℕ → ℕ → List ℕ → Held
  held_in rows s r key = found_text (find row s key (members row rows r))

-- what holds, or else a refusal
abbrev pub unless : Bool → Refusal → Choice → Choice
unless true why c = c
unless false why c = Err why

-- '18 if either row is no Struct'; then the card's text, behind it the defaults'
unfoldable pub structs_then : (ℕ → Row) → ℕ → List ℕ → ℕ → (ℕ → Row) → ℕ → List ℕ → ℕ → List ℕ → Choice
structs_then row rows s r row' rows' s' r' key =
    unless (is_struct row rows r) NoMember
    (unless (is_struct row' rows' r') NoMember
    (preferred (held_in row rows s r key) (held_in row' rows' s' r' key)))

-- the rows of a source
abbrev pub row_in : Source → ℕ → Row
row_in c = row_at (room_of 4096 (length c.table)) c.table

abbrev pub is_writable : Source → Bool
is_writable c = writable c.table c.rows c.text

-- '11 for the card, then for the defaults'
unfoldable pub chosen : Source → Source → List ℕ → Choice
chosen card defaults key =
    unless (is_writable card) NotWritable
    (unless (is_writable defaults) NotWritable
    (structs_then (row_in card) card.rows card.text card.row (row_in defaults) defaults.rows defaults.text defaults.row key))
