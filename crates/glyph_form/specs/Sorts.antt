-- What a row's kind names, by edition, and which kinds may stand at a place. Document 02: 'new kinds, with a 0, are 13 nil (b 0), 14
-- ordered_dict (b pairs), 15 extension and 16 node (both b 3)'; 'Each writer says 11 for a kind its form or edition lacks'. Assumes nothing.
use Rattle.std.specs.Prelude.{Bool, true, ◌||◌, cond, ℕ, eqb}
use Rattle.draft.specs.declared.Content.TheVariants.{Binary, Text}
use Rattle.glyph.specs.declared.Edition.{Edition}
use Rattle.glyph.specs.declared.Edition.TheVariants.{New, Old}
use Rattle.glyph.specs.declared.Many.TheVariants.{List, Dict, Ordered}
use Rattle.glyph.specs.declared.Three.TheVariants.{Extension, Node}
use Rattle.glyph.specs.declared.Want.{Want}
use Rattle.glyph.specs.declared.Want.TheVariants.{Any, Text as Unicode, EitherDict}
use Rattle.glyph_form.specs.declared.Sort.{Sort}
use Rattle.glyph_form.specs.declared.Sort.TheVariants.{Integer, Boolean, Content, Nil, Many, Three, Unknown}

-- a node is in 0.5 alone: all that the edition changes
abbrev pub node_sort : Edition → Sort
node_sort New = Unknown
node_sort Old = Three Node

unfoldable pub sort_of : Edition → ℕ → Sort
sort_of e k =
    cond (eqb k 4) Integer
    (cond (eqb k 5) Boolean
    (cond (eqb k 8) (Content Binary)
    (cond (eqb k 9) (Many List)
    (cond (eqb k 10) (Many Dict)
    (cond (eqb k 11) (Content Text)
    (cond (eqb k 13) Nil
    (cond (eqb k 14) (Many Ordered)
    (cond (eqb k 15) (Three Extension)
    (cond (eqb k 16) (node_sort e)
    Unknown)))))))))

-- a unicode, or either dict, where nothing else may stand
unfoldable pub meets : Want → ℕ → Bool
meets Any k = true
meets Unicode k = eqb k 11
meets EitherDict k = eqb k 10 || eqb k 14
