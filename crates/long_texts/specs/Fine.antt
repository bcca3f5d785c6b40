-- What was found of a row, with notes on the text bytes, and of the rows before the first bad one. Assumes nothing.
use Rattle.std.specs.Prelude.{◌≡◌, Bool, true, false, List, ℕ, ◌≤◌, ◌<◌}
use Rattle.std.specs.Prelude.{Ok}
use Rattle.draft.specs.declared.Content.TheVariants.{Text}
use Rattle.draft.specs.declared.Row.{Row}
use Rattle.draft.specs.Rows.{kind_of}
use Rattle.draft.specs.Content.{verdict}
use Rattle.passages.specs.Notes.{True}
use Rattle.extents.specs.Asked.{Checked}

-- a String of 512 bytes or more that is not fine
pub record Unfit (s : List ℕ) (x : Row) : Type 0 where
  pub string : x.kind ≡ kind_of Text
  pub long : 512 ≤ x.b
  pub not_fine : verdict Text s x.a x.b ≡ Ok tt → ⊥

-- yes: if it is a String of 512 bytes or more, it is fine; no: it is one, and is not fine; and the notes stay true
pub record Found (s N : List ℕ) (x : Row) (good : Bool) : Type 0 where
  pub fine : good ≡ true → x.kind ≡ kind_of Text → 512 ≤ x.b → verdict Text s x.a x.b ≡ Ok tt
  pub unfit : good ≡ false → Unfit s x
  pub true_all : True s N

-- of so many rows, those before the first that is unfit
pub record Counted (row : ℕ → Row) (rows : ℕ) (s : List ℕ) (good : ℕ) : Type 0 where
  pub checked : Checked row s good
  pub within : good ≤ rows
  pub stops : good < rows → Unfit s (row good)
