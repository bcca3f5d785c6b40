-- What the functions that read glyph objects do, as against the definition of reading. Assumes nothing.
use Rattle.std.specs.Prelude.{◌≡◌, Err, List, ℕ, ◌+◌, ◌≤◌, length}
use Rattle.draft.specs.declared.Row.{Row}
use Rattle.draft.specs.Table.{put_rows}
use Rattle.item.specs.Contract.{StepOf, read_to}
use Rattle.glyph.specs.declared.Refusal.{Refusal}
use Rattle.glyph.specs.Read.{Reading, got, refused}

-- what reading an object answers
abbrev pub Step : Type 0
Step = StepOf Refusal

-- a refusal
abbrev pub refused_at : Refusal → ℕ → Step
refused_at m p = Err (record { refusal = m; place = p })

-- the answer to a reading that began at row r
abbrev pub answer : ℕ → Reading → Step
answer r (refused m p) = refused_at m p
answer r (got rows at) = read_to at (r + length rows)

-- what an accepted reading leaves: its rows in the table, and places within their bounds, `from` the least end
pub record Left (rows : List Row) (at : ℕ) (bytes room from r : ℕ) (T T' : List ℕ) : Type 0 where
  pub wrote : T' ≡ put_rows room T r rows
  pub ahead : from ≤ at
  pub within : at ≤ bytes
  pub fits : r + length rows ≤ room

-- a refused reading leaves anything: the outermost function clears the table
abbrev pub Leaves : Reading → ℕ → ℕ → ℕ → ℕ → List ℕ → List ℕ → Type 0
Leaves (refused m p) bytes room from r T T' = Unit {0}
Leaves (got rows at) bytes room from r T T' = Left rows at bytes room from r T T'

-- what a call did that was to give this reading: its answer, and the table after it
pub record Did (o : Reading) (bytes room from r : ℕ) (T T' : List ℕ) (step : Step) : Type 0 where
  pub says : step ≡ answer r o
  pub leaves : Leaves o bytes room from r T T'
