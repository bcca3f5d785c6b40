-- The bytes that begin an object without children. Assumes nothing.
use Rattle.std.specs.Prelude.{◌≡◌, Bool, true, false, cond, List, ℕ, ◌<◌, eqb, length, get_or}
use Prim.Native.Char.{code}
use Rattle.glyph.specs.declared.Edition.{Edition}
use Rattle.glyph.specs.declared.Leaf.{Leaf as LeafLetter}
use Rattle.glyph.specs.declared.Leaf.TheVariants.{Integer, Unicode, Bytes, True, False, Nil}
use Rattle.glyph.specs.declared.Letter.{Letter}
use Rattle.glyph.specs.declared.Letter.TheVariants.{Leaf, Many, Three, Unknown}
use Rattle.glyph.specs.Letters.{letter_of}

-- the object without children that a byte begins; nil for a byte that begins none
unfoldable pub leaf_by : ℕ → LeafLetter
leaf_by b =
    cond (eqb b (code "i")) Integer
    (cond (eqb b (code "u")) Unicode
    (cond (eqb b (code "b")) Bytes
    (cond (eqb b (code "T")) True
    (cond (eqb b (code "F")) False
    Nil))))

abbrev pub is_leaf : Letter → Bool
is_leaf (Leaf l) = true
is_leaf (Many l) = false
is_leaf (Three l) = false
is_leaf Unknown = false

-- whether the byte at a place, which is there then, begins an object without children, in either edition; and then that object
pub record LeafAt (s : List ℕ) (at : ℕ) (r : Bool) : Type 0 where
  pub is : (e : Edition) → r ≡ is_leaf (letter_of e (get_or s at 0))
  pub there : r ≡ true → at < length s
  pub letter : r ≡ true → (e : Edition) → letter_of e (get_or s at 0) ≡ Leaf (leaf_by (get_or s at 0))
