-- What walking the objects of a table asks, from row 0 on. Assumes nothing.
use Rattle.std.specs.Prelude.{◌≡◌, List, ℕ, zero, suc, ◌<◌, length}
use Rattle.draft.specs.declared.Row.{Row}
use Rattle.draft.specs.Table.{row_at}
use Rattle.draft.specs.Writable.{Walk}
use Rattle.extents.specs.Asked.{Ready, Checked}
use Rattle.keys.specs.Notes.{named, Noted}
use Rattle.key_rows.specs.Contract.{Entries}
use Rattle.glyph.specs.declared.Edition.{Edition}
use Rattle.glyph.specs.declared.Edition.TheVariants.{New}
use Rattle.glyph_form.specs.Sorts.{sort_of}
use Rattle.glyph_form.specs.Writable.{Nest, floor, under, item, object}

-- the table has the stated rows, the notes an entry for each, and they note the keys of rows before row r
pub record Met (s : List ℕ) (room rows : ℕ) (T : List ℕ) (good r : ℕ) (N : List ℕ) : Type 0 where
  pub ready : Ready rows room (length T)
  pub checked : Checked (row_at room T) s good
  pub entries : Entries rows (length N)
  pub noted : Noted (named s room T) N r

-- x is row r, which is among the stated rows
pub record Here (row : ℕ → Row) (rows : ℕ) (x : Row) (r : ℕ) : Type 0 where
  pub is : x ≡ row r
  pub inside : r < rows

-- what may nest in an object of which `deep` may stand in one another
unfoldable pub nested : (ℕ → Row) → ℕ → List ℕ → Edition → ℕ → Nest
nested row rows s e zero = floor
nested row rows s e (suc deep) = under (object row rows s e deep)

-- an object without children, which both editions have alike
unfoldable pub childless : (ℕ → Row) → ℕ → List ℕ → Row → Walk
childless row rows s x r = item row rows s (sort_of New x.kind) floor x r
