-- Which rows are those of objects with children, and which of these may hold what they say. Assumes nothing.
use Rattle.std.specs.Prelude.{Bool, true, false, ◌&&◌, ◌||◌, ℕ, ◌+◌, eqb, ltb}
use Rattle.draft.specs.declared.Row.{Row}
use Rattle.glyph.specs.declared.Edition.{Edition}
use Rattle.glyph.specs.declared.Three.{Three as ThreeLetter}
use Rattle.glyph.specs.declared.Three.TheVariants.{Extension, Node}
use Rattle.glyph_form.specs.declared.Sort.{Sort}
use Rattle.glyph_form.specs.declared.Sort.TheVariants.{Integer, Boolean, Content, Nil, Many, Three, Unknown}
use Rattle.glyph_form.specs.Sorts.{sort_of}

-- lists, dicts, ordered_dicts, extensions and nodes
unfoldable pub holds : ℕ → Bool
holds k = eqb k 9 || (eqb k 10 || (eqb k 14 || (eqb k 15 || eqb k 16)))

unfoldable pub is_dict : ℕ → Bool
is_dict k = eqb k 10 || eqb k 14

module _ (row : ℕ → Row) (rows : ℕ) where
  -- a unicode and either dict stand below row r
  unfoldable pub named : ℕ → Bool
  named r = ltb (r + 2) rows && (eqb (row (r + 1)).kind 11 && is_dict (row (r + 2)).kind)

  -- what an extension or a node holds besides a content: of a node any objects
  abbrev pub three_named : ThreeLetter → ℕ → Bool
  three_named Extension r = named r
  three_named Node r = true

  abbrev pub may_hold_by : Sort → Row → ℕ → Bool
  may_hold_by Integer x r = false
  may_hold_by Boolean x r = false
  may_hold_by (Content c) x r = false
  may_hold_by Nil x r = false
  may_hold_by (Many l) x r = true
  may_hold_by (Three l) x r = eqb x.b 3 && three_named l r
  may_hold_by Unknown x r = false

  unfoldable pub may_hold : Edition → Row → ℕ → Bool
  may_hold e x r = may_hold_by (sort_of e x.kind) x r
