-- The tree that a table tells, and tables whose meaning an edition derives: what writable comes to. Assumes nothing.
use Rattle.std.specs.Prelude.{List, ℕ, length}
use Rattle.draft.specs.declared.Row.{Row}
use Rattle.draft.specs.Bytes.{Below}
use Rattle.draft.specs.Table.{room_of, row_at}
use Rattle.draft.specs.Meaning.{Realises}
use Rattle.glyph.specs.declared.Edition.{Edition}
use Rattle.glyph.specs.Tree.{Tree, cells}
use Rattle.glyph.specs.Grammar.{Object}
use Rattle.glyph_form.specs.Told.{tree_at}

-- a table is words of 32 bits
abbrev pub Words : List ℕ → Type 0
Words T = Below 4294967296 T

-- the tree that the rows of a table tell with their text bytes, nested to at most the limit
abbrev pub tree_of : Edition → ℕ → List ℕ → List ℕ → Tree
tree_of e limit T s = tree_at (row_at (room_of 4096 (length T)) T) s e limit 0

-- rows that realise, with the text bytes s, a tree that the edition derives from some bytes, nested to at most so much
pub record Derivable (e : Edition) (deep : ℕ) (s : List ℕ) (rows : List Row) : Type 0 where
  pub tree : Tree
  pub bytes : List ℕ
  pub object : Object e deep bytes tree
  pub meaning : Realises s 0 rows (cells tree)
