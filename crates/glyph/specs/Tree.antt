-- What an object means, as a tree; and as cells, one for each row of the table and in the order of the rows. Assumes nothing.
use Rattle.std.specs.Prelude.{List, [], ◌∷◌, ◌++◌, ℕ, suc, length}
use Rattle.draft.specs.Grammar.{Payload, holding, contents, Cell, cell}

mutual
  pub data Tree : Type 0 where
    -- an object without children: its kind, and its number or its content
    leaf : ℕ → Payload → Tree
    -- a list, an extension or a node: its kind, and its children in order
    many : ℕ → Trees → Tree
    -- a dict and an ordered_dict
    plain : Pairs → Tree
    ordered : Pairs → Tree

  pub data Trees : Type 0 where
    none : Trees
    also : Tree → Trees → Trees

  -- a unicode key's bytes and a value
  pub data Pairs : Type 0 where
    no_pairs : Pairs
    pair : List ℕ → Tree → Pairs → Pairs

abbrev pub count : Trees → ℕ
count none = 0
count (also t ts) = suc (count ts)

abbrev pub count_pairs : Pairs → ℕ
count_pairs no_pairs = 0
count_pairs (pair k t ps) = suc (count_pairs ps)

-- 02's table: 9 list, 10 dict, 11 unicode, 14 ordered_dict (b pairs), 15 extension and 16 node (b 3)
unfoldable mutual
  pub cells : Tree → List Cell
  cells (leaf kind load) = cell kind 0 load ∷ []
  cells (many kind ts) = cell kind (length (cells_of ts)) (holding (count ts)) ∷ cells_of ts
  cells (plain ps) = cell 10 (length (pair_cells ps)) (holding (count_pairs ps)) ∷ pair_cells ps
  cells (ordered ps) = cell 14 (length (pair_cells ps)) (holding (count_pairs ps)) ∷ pair_cells ps

  pub cells_of : Trees → List Cell
  cells_of none = []
  cells_of (also t ts) = cells t ++ cells_of ts

  pub pair_cells : Pairs → List Cell
  pair_cells no_pairs = []
  pair_cells (pair k t ps) = (cell 11 0 (contents k) ∷ cells t) ++ pair_cells ps
