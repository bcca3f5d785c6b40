-- What the functions here read: items with keys or without, one after the other, and what an Array or a Struct begins with and holds.
-- Assumes nothing.
use Rattle.std.specs.Prelude.{ℕ, ◌+◌, ◌≤◌, ◌<◌, Bool, true, false, ◌||◌, cond, List, [], length, leb, ltb, eqb}
use Rattle.draft.specs.declared.Refusal.TheVariants.{Ended, TooDeep, NoRow}
use Rattle.draft.specs.declared.Row.{Row}
use Rattle.draft.specs.Bytes.{unsigned_at}
use Rattle.draft.specs.Read.{Reader, Texts, items, alike, nothing, member, keeping, over}
use Rattle.item.specs.Contract.{Step}
use Rattle.item.specs.Contract.{refused_at, read_to}

-- a byte that begins an Array or a Struct
unfoldable pub holds_items : ℕ → Bool
holds_items b = eqb b 65 || eqb b 83

-- what an Array or a Struct begins with: 8, 9, or 1 for its count
unfoldable pub head_of : ℕ → ℕ → ℕ → ℕ → ℕ → Step
head_of bytes room deep at r =
    cond (eqb deep 0) (refused_at TooDeep at)
    (cond (ltb r room)
    (cond (leb (at + 5) bytes) (read_to at r) (refused_at Ended at))
    (refused_at NoRow at))

-- a Struct's items have keys, an Array's have none
abbrev pub kind_for : Bool → ℕ
kind_for true = 10
kind_for false = 9

module _ (s : List ℕ) (room : ℕ) where
  -- an item that f reads, behind its key if there are keys
  abbrev pub entry : Bool → Reader → Texts → Reader
  entry true f = member s room f
  entry false f = alike f

  -- the texts seen with it
  abbrev pub kept : Bool → Texts → List Row → Texts
  kept true = keeping s room
  kept false = nothing

  -- n items
  unfoldable pub entries : Bool → Reader → ℕ → Reader
  entries keyed f n at r book = items (entry keyed f) (kept keyed) n [] [] at r book

  -- what an Array or a Struct holds, with its own row in front
  unfoldable pub contents_of : Bool → Reader → Reader
  contents_of keyed f at r book = over (kind_for keyed) (unsigned_at s (at + 1)) r (entries keyed f (unsigned_at s (at + 1)) (at + 5) (r + 1) book)

-- an Array or a Struct begins at a place, and its count is there, with a row for it and a level of nesting left
pub record Begun (s : List ℕ) (room deep at r : ℕ) : Type 0 where
  pub count : at + 5 ≤ length s
  pub row : r < room
  pub level : 0 < deep
