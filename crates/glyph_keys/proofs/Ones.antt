-- An object without children has one row. Assumes nothing.
use mathlib.Core.Path.{◌≡◌, sym, ap}
use mathlib.Core.Bool.{Bool, true, false, cond}
use mathlib.Core.List.{List, [], ◌∷◌}
use Prim.Native.Nat.{ℕ}
use native.Mathlib.Omega.{arith}
use lib.Dec.{ltb}
use lib.ListN.{length}
use Rattle.draft.specs.declared.Row.{Row}
use Rattle.glyph.specs.declared.Refusal.{Refusal}
use Rattle.glyph.specs.declared.Refusal.TheVariants.{NoRow}
use Rattle.glyph.specs.declared.Leaf.{Leaf}
use Rattle.glyph.specs.declared.Leaf.TheVariants.{Integer, Unicode, Bytes, True, False, Nil}
use Rattle.glyph.specs.Read.{Reading, got, refused, single, number_from, content, lengthened, text, opened, leaf_of}
use Rattle.glyph_keys.specs.Contract.{name}

-- a reading that gives one row, if any
pub record One (o : Reading) : Type 0 where
  pub row : {rows : List Row} {to : ℕ} → o ≡ got rows to → length rows ≡ 1

one_no : (m : Refusal) (p : ℕ) → One (refused m p)
one_no m p = record { row = λ e. let z : ◌≡◌ {A = ℕ} 0 1 = cc in absurd (omega arith) }

one_got : (x : Row) (to : ℕ) → One (got (x ∷ []) to)
one_got x to = record { row = λ {rows} e. let z : x ∷ [] ≡ rows = cc in sym (ap length z) }

one_pick : (b : Bool) (x y : Reading) → One x → One y → One (cond b x y)
one_pick true x y p q = p
one_pick false x y p q = q

ruleset ones = (one_no, one_got, one_pick)

module _ (s : List ℕ) where
  single_one : (kind a at r : ℕ) → One (single s kind a at r)
  unfolding single
  single_one kind a at r = search ones

  number_one : (m : Bool) (from at r : ℕ) → One (number_from s m from at r)
  unfolding number_from
  number_one m from at r = search ones

  content_one : (u : Bool) (o n at r : ℕ) → One (content s u o n at r)
  unfolding content
  content_one u o n at r = search ones

  text_one : (u : Bool) (at r : ℕ) → One (text s u at r)
  unfolding text lengthened
  text_one u at r = search (ones, content_one)

  leaf_one : (l : Leaf) (at r : ℕ) → One (leaf_of s l at r)
  leaf_one Integer at r = search number_one
  leaf_one Unicode at r = text_one true at r
  leaf_one Bytes at r = text_one false at r
  leaf_one True at r = single_one 5 1 at r
  leaf_one False at r = single_one 5 0 at r
  leaf_one Nil at r = single_one 13 0 at r

  pub opened_one : (room : ℕ) (l : Leaf) (at r : ℕ) → One (opened room at r (leaf_of s l at r))
  opened_one room l at r = one_pick (ltb r room) _ _ (leaf_one l at r) (one_no NoRow at)

  pub name_one : (room at r : ℕ) → One (name s room at r)
  unfolding name
  name_one room at r = search (ones, text_one)
