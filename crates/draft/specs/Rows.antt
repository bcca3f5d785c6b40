-- Rows: document 01's kinds, and a row of them. Assumes nothing.
use Rattle.std.specs.Prelude.{cond, List, [], ◌∷◌, ℕ, eqb}
use Rattle.draft.specs.declared.Row.{Row}
use Rattle.draft.specs.declared.Content.{Content}
use Rattle.draft.specs.declared.Content.TheVariants.{Double, DateTime, Binary, Text}
use Rattle.draft.specs.declared.Item.{Item}
use Rattle.draft.specs.declared.Item.TheVariants as item

abbrev pub row : ℕ → ℕ → ℕ → ℕ → Row
row k a b e = record { kind = k; a = a; b = b; end = e }

-- what stands below the first of an item's rows, or cells
abbrev pub below : {A : Type 0} → List A → List A
below [] = []
below (x ∷ xs) = xs

-- the kind of a row that names content bytes
abbrev pub kind_of : Content → ℕ
kind_of Double = 6
kind_of DateTime = 7
kind_of Binary = 8
kind_of Text = 11

-- the item that a kind names
unfoldable pub item_of : ℕ → Item
item_of k =
    cond (eqb k 1) item.Call
    (cond (eqb k 2) item.Response
    (cond (eqb k 3) item.Fault
    (cond (eqb k 4) item.Integer
    (cond (eqb k 5) item.Boolean
    (cond (eqb k 6) (item.Content Double)
    (cond (eqb k 7) (item.Content DateTime)
    (cond (eqb k 8) (item.Content Binary)
    (cond (eqb k 9) item.Array
    (cond (eqb k 10) item.Struct
    (cond (eqb k 11) (item.Content Text)
    (cond (eqb k 12) item.Other
    item.Unknown)))))))))))
