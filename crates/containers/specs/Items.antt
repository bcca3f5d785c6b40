-- What the functions here walk: items with keys or without, one after the other. Assumes nothing.
use Rattle.std.specs.Prelude.{ℕ, Bool, true, false, ◌||◌, List, [], eqb}
use Rattle.draft.specs.declared.Row.{Row}
use Rattle.draft.specs.Read.{Texts}
use Rattle.draft.specs.Writable.{Walk, items, alike, nothing, member, keeping}

-- the kind of an Array or a Struct
unfoldable pub holds_items : ℕ → Bool
holds_items k = eqb k 9 || eqb k 10

module _ (row : ℕ → Row) (rows : ℕ) (s : List ℕ) where
  -- an item that f walks, behind its key if there are keys
  abbrev pub entry : Bool → Walk → Texts → Walk
  entry true f = member row rows s f
  entry false f = alike f

  -- the texts seen with it
  abbrev pub kept : Bool → Texts → ℕ → Texts
  kept true = keeping row rows s
  kept false = nothing

  -- n items
  unfoldable pub entries : Bool → Walk → ℕ → Walk
  entries keyed f n r = items (entry keyed f) (kept keyed) n [] r
