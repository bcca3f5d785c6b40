-- Tables whose meaning the draft derives, and tables within limits: what writable comes to. Assumes nothing.
use Rattle.std.specs.Prelude.{◌↔◌, List, ℕ, ◌*◌, ◌≤◌, length}
use Rattle.draft.specs.declared.Row.{Row}
use Rattle.draft.specs.Grammar.{Cell, Derives}
use Rattle.draft.specs.Meaning.{Realises}

-- the draft derives the bytes xs with the meaning that the rows have with their bytes s, nested to at most so much
pub record DerivesRows (deep : ℕ) (xs s : List ℕ) (rows : List Row) : Type 0 where
  pub cells : List Cell
  pub meaning : Realises s 0 rows cells
  pub derived : Derives deep xs cells

-- a table T with a stated number of rows and text bytes s: at most so many text bytes, 1 to so many rows, and words enough
pub record Within (bytes most : ℕ) (T : List ℕ) (rows : ℕ) (s : List ℕ) : Type 0 where
  pub text : length s ≤ bytes
  pub some_row : 1 ≤ rows
  pub few : rows ≤ most
  pub there : rows * 4 ≤ length T

-- both tables hold the stated rows, or neither does
abbrev pub HoldAlike : ℕ → List ℕ → List ℕ → Type 0
HoldAlike rows T T' = (rows * 4 ≤ length T) ↔ (rows * 4 ≤ length T')
