-- What reading asks of the notes on keys, and what it does to them. Assumes nothing.
use Rattle.std.specs.Prelude.{◌≡◌, Ok, Err, Bool, true, false, cond, List, ℕ, ◌+◌, ◌/◌, ◌≤◌, min, eqb, length}
use Prim.Native.Char.{code}
use Rattle.draft.specs.Bytes.{byte_at}
use Rattle.draft.specs.declared.Refused.{Refused}
use Rattle.draft.specs.Strings.{Text}
use Rattle.item.specs.declared.Reached.{Reached}
use Rattle.item.specs.Contract.{Fitting, read_to}
use Rattle.keys.specs.Notes.{named, keys_of, Noted, Keeps, Joins}
use Rattle.glyph.specs.declared.Refusal.{Refusal}
use Rattle.glyph.specs.declared.Refusal.TheVariants.{UnexpectedByte}
use Rattle.glyph.specs.Read.{Reading, Reader, refused, present, opened, text, distinct}
use Rattle.glyph_bytes.specs.Places.{Skipped}
use Rattle.glyph_item.specs.Contract.{Step, Did}

-- a unicode, where nothing else may stand: alike in both editions, and at any depth
unfoldable pub name : List ℕ → ℕ → Reader
name s room at r = present s at (cond (eqb (byte_at s at) (code "u")) (opened room at r (text s true at r)) (refused UnexpectedByte at))

-- the notes have an entry for each row: there are no more rows than bytes, nor more than there is room for
pub record Entries (at row room bytes words : ℕ) : Type 0 where
  pub behind : row ≤ at
  pub enough : min room bytes ≤ words / 3
  pub most : words ≤ 12288

-- what reading from a place and a row on asks of the table and the notes
pub record Prepared (s : List ℕ) (at row room : ℕ) (T N : List ℕ) : Type 0 where
  pub fitting : Fitting at row room (length s) (length T)
  pub entries : Entries at row room (length s) (length N)
  pub noted : Noted (named s room T) N row

-- the notes after a call that read from row `first` on, if it was accepted
pub record After (t t' : ℕ → Text) (N N' : List ℕ) (first : ℕ) (step : Step) : Type 0 where
  pub keeps : (x : Reached) → step ≡ Ok x → Keeps t t' N N' first x.row
  pub behind : (x : Reached) → step ≡ Ok x → x.row ≤ x.at

-- the same of a call that read an owner's key first
pub record Joined (t t' : ℕ → Text) (N N' : List ℕ) (owner first : ℕ) (step : Step) : Type 0 where
  pub joins : (x : Reached) → step ≡ Ok x → Joins t t' N N' owner first x.row
  pub behind : (x : Reached) → step ≡ Ok x → x.row ≤ x.at

-- what a call did that was to give this reading, and what it did to the notes
pub record Done (o : Reading) (s : List ℕ) (room from row : ℕ) (T T' N N' : List ℕ) (step : Step) : Type 0 where
  pub did : Did o (length s) room from row T T' step
  pub after : After (named s room T) (named s room T') N N' row step

-- what a call did that was to read an owner's key behind those noted
pub record KeyDone (s : List ℕ) (room owner at row : ℕ) (T T' N N' : List ℕ) (step : Step) : Type 0 where
  pub did : Did (distinct s (keys_of (named s room T) N owner row) at (name s room at row)) (length s) room (at + 1) row T T' step
  pub joined : Joined (named s room T) (named s room T') N N' owner row step

-- what was reached, and the blanks behind it
pub record Past (s : List ℕ) (x : Reached) (step : Step) : Type 0 where
  pub to : ℕ
  pub skipped : Skipped s x.at to
  pub says : step ≡ read_to to x.row

-- what a call did that was to read an owner's key and the blanks behind it
pub record KeyPast (s : List ℕ) (room owner at row : ℕ) (T T' N N' : List ℕ) (step : Step) : Type 0 where
  pub key : Step
  pub done : KeyDone s room owner at row T T' N N' key
  pub stops : (x : Refused Refusal) → key ≡ Err x → step ≡ Err x
  pub goes : (x : Reached) → key ≡ Ok x → Past s x step

-- what a call did that was to read nothing
pub record Nothing (at row : ℕ) (T T' N N' : List ℕ) (step : Step) : Type 0 where
  pub says : step ≡ read_to at row
  pub table : T' ≡ T
  pub notes : N' ≡ N

-- what a call did that was to read an owner's key, where there are keys
pub record KeyIf (keyed : Bool) (s : List ℕ) (room owner at row : ℕ) (T T' N N' : List ℕ) (step : Step) : Type 0 where
  pub some : keyed ≡ true → KeyPast s room owner at row T T' N N' step
  pub none : keyed ≡ false → Nothing at row T T' N N' step
