-- What a byte begins where an object is due, by edition, and which objects may stand at a place. Document 02: 'In 1.0 `X` is an extension; in
-- 0.5 `X` is a node and `H` an extension'; 'other letters are 3'. Assumes nothing.
use Rattle.std.specs.Prelude.{Bool, true, false, cond, ℕ, eqb}
use Prim.Native.Char.{code}
use Rattle.glyph.specs.declared.Edition.{Edition}
use Rattle.glyph.specs.declared.Edition.TheVariants.{New, Old}
use Rattle.glyph.specs.declared.Leaf.{Leaf as LeafLetter}
use Rattle.glyph.specs.declared.Leaf.TheVariants.{Integer, Unicode, Bytes, True, False, Nil}
use Rattle.glyph.specs.declared.Many.{Many as ManyLetter}
use Rattle.glyph.specs.declared.Many.TheVariants.{List, Dict, Ordered}
use Rattle.glyph.specs.declared.Three.{Three as ThreeLetter}
use Rattle.glyph.specs.declared.Three.TheVariants.{Extension, Node}
use Rattle.glyph.specs.declared.Letter.{Letter}
use Rattle.glyph.specs.declared.Letter.TheVariants.{Leaf, Many, Three, Unknown}
use Rattle.glyph.specs.declared.Want.{Want}
use Rattle.glyph.specs.declared.Want.TheVariants.{Any, Text, EitherDict}

-- `X`, and `H`: all that the edition changes
abbrev pub letter_x : Edition → Letter
letter_x New = Three Extension
letter_x Old = Three Node

abbrev pub letter_h : Edition → Letter
letter_h New = Unknown
letter_h Old = Three Extension

-- what a byte begins
unfoldable pub letter_of : Edition → ℕ → Letter
letter_of e b =
    cond (eqb b (code "i")) (Leaf Integer)
    (cond (eqb b (code "u")) (Leaf Unicode)
    (cond (eqb b (code "b")) (Leaf Bytes)
    (cond (eqb b (code "T")) (Leaf True)
    (cond (eqb b (code "F")) (Leaf False)
    (cond (eqb b (code "N")) (Leaf Nil)
    (cond (eqb b (code "L")) (Many List)
    (cond (eqb b (code "D")) (Many Dict)
    (cond (eqb b (code "O")) (Many Ordered)
    (cond (eqb b (code "X")) (letter_x e)
    (cond (eqb b (code "H")) (letter_h e)
    Unknown))))))))))

-- a unicode, where nothing else may stand
abbrev pub only_text : LeafLetter → Letter
only_text Unicode = Leaf Unicode
only_text Integer = Unknown
only_text Bytes = Unknown
only_text True = Unknown
only_text False = Unknown
only_text Nil = Unknown

-- a dict or an ordered_dict
abbrev pub only_dict : ManyLetter → Letter
only_dict List = Unknown
only_dict Dict = Many Dict
only_dict Ordered = Many Ordered

-- a letter where it may stand, else none
abbrev pub wanted : Want → Letter → Letter
wanted Any l = l
wanted Text (Leaf l) = only_text l
wanted Text (Many l) = Unknown
wanted Text (Three l) = Unknown
wanted Text Unknown = Unknown
wanted EitherDict (Leaf l) = Unknown
wanted EitherDict (Many l) = only_dict l
wanted EitherDict (Three l) = Unknown
wanted EitherDict Unknown = Unknown

-- the kinds of the rows: 01's for what it has, 02's 14 to 16 besides
abbrev pub many_kind : ManyLetter → ℕ
many_kind List = 9
many_kind Dict = 10
many_kind Ordered = 14

-- dicts have keys
abbrev pub keyed_by : ManyLetter → Bool
keyed_by List = false
keyed_by Dict = true
keyed_by Ordered = true

abbrev pub three_kind : ThreeLetter → ℕ
three_kind Extension = 15
three_kind Node = 16

-- 'An extension's name is unicode and its attributes either dict .. a 0.5 node takes any objects'
abbrev pub name_want : ThreeLetter → Want
name_want Extension = Text
name_want Node = Any

abbrev pub attributes_want : ThreeLetter → Want
attributes_want Extension = EitherDict
attributes_want Node = Any
