-- What the functions that walk rows ask: of the table, and of long texts that were checked before. Assumes nothing.
use Rattle.std.specs.Prelude.{◌≡◌, true, List, ℕ, ◌*◌, ◌≤◌, ◌<◌, length}
use Rattle.std.specs.Prelude.{Ok}
use Rattle.draft.specs.declared.Content.{Content as ContentOf}
use Rattle.draft.specs.declared.Content.TheVariants.{Text}
use Rattle.draft.specs.declared.Row.{Row}
use Rattle.draft.specs.Rows.{kind_of}
use Rattle.draft.specs.Content.{verdict}
use Rattle.draft.specs.Table.{row_at}
use Rattle.asked.specs.Contents.{checked_before}

-- the table has room for the stated rows, and its words for that room
pub record Ready (rows room words : ℕ) : Type 0 where
  pub stated : rows ≤ room
  pub most : room ≤ 4096
  pub table : room * 4 ≤ words

-- every String of 512 bytes or more in a row before row `good` was found to be fine
pub record Checked (row : ℕ → Row) (s : List ℕ) (good : ℕ) : Type 0 where
  pub fine : (r : ℕ) → r < good → (row r).kind ≡ kind_of Text → 512 ≤ (row r).b → verdict Text s (row r).a (row r).b ≡ Ok tt

-- both
pub record Walkable (s : List ℕ) (room rows : ℕ) (T : List ℕ) (good : ℕ) : Type 0 where
  pub ready : Ready rows room (length T)
  pub checked : Checked (row_at room T) s good

-- what walking the content of a row asks
pub record Known (s : List ℕ) (c : ContentOf) (x : Row) (r good : ℕ) : Type 0 where
  pub fine : checked_before c x.b r good ≡ true → verdict c s x.a x.b ≡ Ok tt
