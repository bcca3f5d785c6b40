-- The kinds of rows that each form has: document 01's for Binmode, and those that document 02 names for an edition of glyph. Assumes nothing.
use Rattle.std.specs.Prelude.{List, [], ◌∷◌, ℕ}
use Rattle.glyph.specs.declared.Edition.{Edition}
use Rattle.glyph.specs.declared.Edition.TheVariants.{New, Old}

-- Call, Response, fault, Integer, Boolean, Double, DateTime, Binary, Array, Struct, String and Other
abbrev pub binmode_kinds : List ℕ
binmode_kinds = 1 ∷ 2 ∷ 3 ∷ 4 ∷ 5 ∷ 6 ∷ 7 ∷ 8 ∷ 9 ∷ 10 ∷ 11 ∷ 12 ∷ []

-- a node is in 0.5 alone
abbrev pub node_kinds : Edition → List ℕ
node_kinds New = []
node_kinds Old = 16 ∷ []

-- integer, T and F, bytearray, list, dict, unicode, nil, ordered_dict and extension
abbrev pub glyph_kinds : Edition → List ℕ
glyph_kinds e = 4 ∷ 5 ∷ 8 ∷ 9 ∷ 10 ∷ 11 ∷ 13 ∷ 14 ∷ 15 ∷ node_kinds e
