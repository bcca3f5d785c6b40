-- Kinds of objects with children and without. Assumes nothing.
use mathlib.Core.Path.{◌≡◌, refl, sym}
use mathlib.Core.Bool.{Bool, true, false, ◌||◌}
use mathlib.Core.List.{List}
use Prim.Native.Nat.{ℕ}
use lib.Dec.{eqb}
use borrow.Author.Tests.{eqb-true}
use Rattle.std.proofs.Common.{None}
use Rattle.text.proofs.Comparing.{clash}
use Rattle.draft.specs.declared.Row.{Row}
use Rattle.glyph.specs.declared.Edition.{Edition}
use Rattle.glyph.specs.declared.Edition.TheVariants.{New, Old}
use Rattle.glyph.specs.declared.Many.{Many as ManyLetter}
use Rattle.glyph.specs.declared.Many.TheVariants.{List as ListOf, Dict, Ordered}
use Rattle.glyph.specs.declared.Three.{Three as ThreeLetter}
use Rattle.glyph.specs.declared.Three.TheVariants.{Extension, Node}
use Rattle.glyph.specs.Letters.{keyed_by}
use Rattle.glyph_form.specs.declared.Sort.TheVariants.{Many, Three, Unknown}
use Rattle.glyph_form.specs.Sorts.{node_sort, sort_of}
use Rattle.glyph_form.specs.Writable.{floor, item}
use Rattle.glyph_rows.specs.Holding.{holds, is_dict}

-- what a kind names that holds others; a node is Unknown in 1.0
pub data Container (e : Edition) (k : ℕ) : Type 0 where
  a_many : (l : ManyLetter) → sort_of e k ≡ Many l → keyed_by l ≡ is_dict k → Container e k
  a_three : (l : ThreeLetter) → sort_of e k ≡ Three l → is_dict k ≡ false → Container e k
  unknown : sort_of e k ≡ Unknown → Container e k

pub container : (e : Edition) (k : ℕ) → holds k ≡ true → Container e k
unfolding holds is_dict sort_of
container e k h = go (eqb k 9) refl (eqb k 10) refl (eqb k 14) refl (eqb k 15) refl (eqb k 16) refl h
  where
    node : (d : Edition) → node_sort d ≡ node_sort e → Container e 16
    node New q = unknown (sym q)
    node Old q = a_three Node (sym q) refl

    go : (a : Bool) → eqb k 9 ≡ a → (b : Bool) → eqb k 10 ≡ b → (c : Bool) → eqb k 14 ≡ c → (d : Bool) → eqb k 15 ≡ d → (f : Bool) → eqb k 16 ≡ f → (a || (b || (c || (d || f)))) ≡ true → Container e k
    go true p b q c r d s f t h = rw (eqb-true k 9 p) (a_many ListOf refl refl)
    go false p true q c r d s f t h = rw (eqb-true k 10 q) (a_many Dict refl refl)
    go false p false q true r d s f t h = rw (eqb-true k 14 r) (a_many Ordered refl refl)
    go false p false q false r true s f t h = rw (eqb-true k 15 s) (a_three Extension refl refl)
    go false p false q false r false s true t h = rw (eqb-true k 16 t) (node e refl)
    go false p false q false r false s false t h = clash h refl

-- where nothing may nest there is none
pub floor_none : (row : ℕ → Row) (rows : ℕ) (s : List ℕ) (e : Edition) (x : Row) (r : ℕ) → holds x.kind ≡ true → None ≡ item row rows s (sort_of e x.kind) floor x r
floor_none row rows s e x r h = go (container e x.kind h)
  where
    go : Container e x.kind → None ≡ item row rows s (sort_of e x.kind) floor x r
    go (a_many l k q) = rw k
    go (a_three l k q) = rw k
    go (unknown k) = rw k

neither : (a b : Bool) → (a || b) ≡ false → (a ≡ false) × (b ≡ false)
neither true b e = clash refl e
neither false b e = (refl, e)

-- a kind without children is none of these
pub alone : (k : ℕ) → holds k ≡ false → (eqb k 9 ≡ false) × (eqb k 10 ≡ false) × (eqb k 14 ≡ false) × (eqb k 15 ≡ false) × (eqb k 16 ≡ false)
unfolding holds
alone k h =
    let a = neither (eqb k 9) _ h in
    let b = neither (eqb k 10) _ a.1 in
    let c = neither (eqb k 14) _ b.1 in
    let d = neither (eqb k 15) (eqb k 16) c.1 in
    (a.0, b.0, c.0, d.0, d.1)
