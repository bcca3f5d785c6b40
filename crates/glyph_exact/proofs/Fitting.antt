-- What is read has no more rows than there is room for. Assumes nothing.
use mathlib.Core.Path.{◌≡◌, refl, ap}
use mathlib.Core.Bool.{Bool, true, false, cond}
use mathlib.Core.List.{List, [], ◌++◌}
use Prim.Native.Nat.{ℕ, zero, suc, ◌+◌, ◌≤◌, ◌<◌}
use native.Mathlib.Omega.{arith}
use lib.Dec.{ltb, leb, eqb}
use lib.ListN.{length, length-append}
use borrow.Author.Tests.{ltb-true}
use Rattle.draft.specs.declared.Row.{Row}
use Rattle.draft.specs.Bytes.{byte_at}
use Rattle.glyph.specs.declared.Refusal.TheVariants.{UnexpectedByte, NoRow}
use Rattle.glyph.specs.declared.Edition.{Edition}
use Rattle.glyph.specs.declared.Leaf.{Leaf as LeafLetter}
use Rattle.glyph.specs.declared.Many.{Many as ManyLetter}
use Rattle.glyph.specs.declared.Three.{Three as ThreeLetter}
use Rattle.glyph.specs.declared.Letter.{Letter}
use Rattle.glyph.specs.declared.Letter.TheVariants.{Leaf, Many, Three, Unknown}
use Rattle.glyph.specs.declared.Want.{Want}
use Rattle.glyph.specs.declared.Want.TheVariants.{Any, Text}
use Rattle.glyph.specs.Letters.{letter_of, wanted, name_want, attributes_want, three_kind, many_kind, keyed_by}
use Rattle.glyph.specs.Numbers.{past}
use Rattle.glyph.specs.Read.{Reading, got, refused, then, behind, Reader, Texts, floor, under, opened, leaf_of, next, run, distinct, entry, kept, closing, many, three, item, object, rooted, root}
use Rattle.glyph_keys.proofs.Ones.{opened_one}

-- an accepted reading from row r on ends within the room
abbrev pub Within : ℕ → ℕ → Reading → Type 0
Within room r (refused m p) = Unit {0}
Within room r (got rows at) = r + length rows ≤ room

module _ (room : ℕ) where
  within_pick : (b : Bool) (r : ℕ) (x y : Reading) → Within room r x → Within room r y → Within room r (cond b x y)
  within_pick true r x y p q = p
  within_pick false r x y p q = q

  within_opened : (at r : ℕ) (o : Reading) → (r < room → Within room r o) → Within room r (opened room at r o)
  within_opened at r o h = go (ltb r room) refl
    where
      go : (b : Bool) → ltb r room ≡ b → Within room r (cond b o (refused NoRow at))
      go true i = h (ltb-true r room i)
      go false i = tt

  -- behind rows that were read
  within_behind : (r : ℕ) (rows : List Row) (o : Reading) → Within room (r + length rows) o → Within room r (behind rows o)
  within_behind r rows (refused m p) h = tt
  within_behind r rows (got others at) h = omega (arith, length-append rows others)

  FitsAll : Reader → Type 0
  FitsAll f = (at r : ℕ) → Within room r (f at r)

  module _ (s : List ℕ) where
    within_next : (o : Reading) (r : ℕ) (f : Reader) → FitsAll f → Within room r (next s o r f)
    unfolding FitsAll
    within_next (refused m p) r f h = tt
    within_next (got rows at) r f h = within_behind r rows (f (past s at) (r + length rows)) (h (past s at) (r + length rows))

    within_run : (f : Texts → Reader) (more : Texts → List Row → Texts) → ((seen : Texts) → FitsAll (f seen)) → (kind fuel n : ℕ) (seen : Texts) (acc : List Row) (at r : ℕ) → r + 1 + length acc ≤ room → Within room r (run s f more kind fuel n seen acc at r)
    unfolding run FitsAll
    within_run f more h kind zero n seen acc at r l = tt
    within_run f more h kind (suc fuel) n seen acc at r l =
        within_pick (eqb (byte_at s at) 59) r _ _ (omega arith)
        (after (f seen at (r + 1 + length acc)) (h seen at (r + 1 + length acc)) (λ rows at' k. within_run f more h kind fuel (n + 1) (more seen rows) (acc ++ rows) (past s at') r k))
      where
        after : (o : Reading) → Within room (r + 1 + length acc) o → ((rows : List Row) (at' : ℕ) → r + 1 + length (acc ++ rows) ≤ room → Within room r (run s f more kind fuel (n + 1) (more seen rows) (acc ++ rows) (past s at') r)) → Within room r (then o (λ rows at'. run s f more kind fuel (n + 1) (more seen rows) (acc ++ rows) (past s at') r))
        after (refused m p) w k = tt
        after (got rows at') w k = k rows at' (omega (arith, length-append acc rows))

    within_entry : (b : Bool) (f : Want → Reader) → ((w : Want) → FitsAll (f w)) → (seen : Texts) → FitsAll (entry s b f seen)
    unfolding entry FitsAll
    within_entry true f h seen at r = within_next (distinct s seen at (f Text at r)) r (f Any) (h Any)
    within_entry false f h seen at r = h Any at r

    within_closing : (kind r : ℕ) (o : Reading) → Within room (r + 1) o → Within room r (closing s kind r o)
    within_closing kind r (refused m p) h = tt
    within_closing kind r (got rows at) h = within_pick (ltb (past s at) (length s)) r _ _ (within_pick (eqb (byte_at s (past s at)) 59) r _ _ (omega arith) tt) tt

    module _ (f : Want → Reader) (h : (w : Want) → FitsAll (f w)) where
      within_many : (l : ManyLetter) (at r : ℕ) → r < room → Within room r (many s l f at r)
      unfolding many
      within_many l at r k = within_run (entry s (keyed_by l) f) (kept s (keyed_by l)) (within_entry (keyed_by l) f h) (many_kind l) (length s) 0 [] [] (past s (at + 1)) r (omega arith)

      within_three : (l : ThreeLetter) (at r : ℕ) → Within room r (three s l f at r)
      unfolding three
      within_three l at r = within_closing (three_kind l) r (next s (next s (next s (got [] (at + 1)) (r + 1) (f (name_want l))) (r + 1) (f (attributes_want l))) (r + 1) (f Any)) (within_next (next s (next s (got [] (at + 1)) (r + 1) (f (name_want l))) (r + 1) (f (attributes_want l))) (r + 1) (f Any) (h Any))

    opened_in : (at r : ℕ) (o : Reading) {rows : List Row} {to : ℕ} → opened room at r o ≡ got rows to → r < room
    opened_in at r o {rows} {to} i = go (ltb r room) refl i
      where
        go : (b : Bool) → ltb r room ≡ b → cond b o (refused NoRow at) ≡ got rows to → r < room
        go true j k = ltb-true r room j
        go false j k = let z : ◌≡◌ {A = ℕ} 0 1 = cc in absurd (omega arith)

    within_leaf : (l : LeafLetter) (at r : ℕ) → Within room r (opened room at r (leaf_of s l at r))
    within_leaf l at r = go (opened room at r (leaf_of s l at r)) refl
      where
        go : (o : Reading) → opened room at r (leaf_of s l at r) ≡ o → Within room r o
        go (refused m p) i = tt
        go (got rows to) i = omega (arith, (opened_one s room l at r).row i, opened_in at r (leaf_of s l at r) i)

    floor_fits : (l : Letter) (at r : ℕ) → Within room r (item s room l floor at r)
    floor_fits (Leaf l) at r = within_leaf l at r
    floor_fits (Many l) at r = tt
    floor_fits (Three l) at r = tt
    floor_fits Unknown at r = tt

    under_fits : (l : Letter) (f : Want → Reader) → ((w : Want) → FitsAll (f w)) → (at r : ℕ) → Within room r (item s room l (under f) at r)
    under_fits (Leaf l) f h at r = within_leaf l at r
    under_fits (Many l) f h at r = within_opened at r (many s l f at r) (within_many f h l at r)
    under_fits (Three l) f h at r = within_opened at r (three s l f at r) (λ k. within_three f h l at r)
    under_fits Unknown f h at r = tt

    object_fits : (e : Edition) (d : ℕ) (w : Want) → FitsAll (object s room e d w)
    unfolding object FitsAll
    object_fits e zero w at r = within_pick (ltb at (length s)) r _ _ (floor_fits (wanted w (letter_of e (byte_at s at))) at r) tt
    object_fits e (suc d) w at r = within_pick (ltb at (length s)) r _ _ (under_fits (wanted w (letter_of e (byte_at s at))) (object s room e d) (object_fits e d) at r) tt

    pub root_fits : (e : Edition) (d : ℕ) {rows : List Row} {used : ℕ} → root s room e d ≡ got rows used → length rows ≤ room
    unfolding root FitsAll
    root_fits e d {rows} {used} i = go (object s room e d Any (past s 0) 0) (object_fits e d Any (past s 0) 0) i
      where
        go : (o : Reading) → Within room 0 o → rooted s room o ≡ got rows used → length rows ≤ room
        go (refused m p) w k = let z : ◌≡◌ {A = ℕ} 0 1 = cc in absurd (omega arith)
        go (got rows₀ at) w k = test (leb (length s) (past s at)) k
          where
            test : (b : Bool) → cond b (got rows₀ at) (refused UnexpectedByte (past s at)) ≡ got rows used → length rows ≤ room
            test true j = let a : rows₀ ≡ rows = cc in omega (arith, ap length a)
            test false j = let z : ◌≡◌ {A = ℕ} 0 1 = cc in absurd (omega arith)
