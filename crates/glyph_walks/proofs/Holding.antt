-- Objects with children: what the rows below them must be, in one run. Assumes nothing.
use mathlib.Core.Path.{◌≡◌, refl, sym, ap, ◌∙◌}
use mathlib.Core.Bool.{Bool, true, false, ◌&&◌}
use mathlib.Core.List.{List, []}
use Prim.Native.Nat.{ℕ, zero, suc, ◌+◌, ◌-◌}
use native.Mathlib.Omega.{arith}
use native.Mathlib.Numerals.{sub-one}
use lib.Dec.{eqb, ltb}
use borrow.Author.Tests.{eqb-true}
use Rattle.std.proofs.Common.{Option, Some, None}
use Rattle.text.proofs.Comparing.{clash, both}
use Rattle.draft.specs.declared.Content.TheVariants.{Text as TextContent}
use Rattle.draft.specs.declared.Row.{Row}
use Rattle.draft.specs.Writable.{Walk, fit, over, then, pair, items, alike, nothing}
use Rattle.key_rows.proofs.Keying.{no_end, fit_end, content_end}
use Rattle.glyph.specs.declared.Edition.{Edition}
use Rattle.glyph.specs.declared.Three.{Three as ThreeLetter}
use Rattle.glyph.specs.declared.Three.TheVariants.{Extension, Node}
use Rattle.glyph.specs.declared.Want.{Want}
use Rattle.glyph.specs.declared.Want.TheVariants.{Any, Text, EitherDict}
use Rattle.glyph_form.specs.declared.Sort.TheVariants.{Content}
use Rattle.glyph.specs.Letters.{name_want, attributes_want}
use Rattle.glyph_form.specs.Sorts.{sort_of, meets}
use Rattle.glyph_form.specs.Writable.{Nest, floor, under, entry, kept, entries, item, object}
use Rattle.glyph_rows.specs.Holding.{holds, is_dict, named, three_named, may_hold}
use Rattle.glyph_rows.proofs.Containers.{Container, a_many, a_three, unknown, container}
use Rattle.glyph_walks.specs.Contract.{nested}

-- ---- three objects, one after the other

fit_true : (b : Bool) (o : Option ℕ) {n : ℕ} → fit b o ≡ Some n → b ≡ true
fit_true true o e = refl
fit_true false o e = absurd (no_end e)

then_until : (o : Option ℕ) → then o Some ≡ o
then_until None = refl
then_until (Some n) = refl

three_items : (g : Walk) (r : ℕ) → items (alike g) nothing 3 [] r ≡ pair g (pair g g) r
unfolding items alike pair
three_items g r = first (g r)
  where
    third : (o : Option ℕ) → then o (λ c. Some c) ≡ o
    third None = refl
    third (Some c) = refl

    second : (o : Option ℕ) → then o (λ b. then (g b) (λ c. Some c)) ≡ then o g
    second None = refl
    second (Some b) = third (g b)

    first : (o : Option ℕ) → then o (λ a. then (g a) (λ b. then (g b) (λ c. Some c))) ≡ then o (λ a. then (g a) g)
    first None = refl
    first (Some a) = second (g a)

module _ (row : ℕ → Row) (rows : ℕ) (s : List ℕ) (e : Edition) where
  pub object_here : (deep : ℕ) (w : Want) (r : ℕ) → object row rows s e deep w r ≡ fit (ltb r rows) (fit (meets w (row r).kind) (item row rows s (sort_of e (row r).kind) (nested row rows s e deep) (row r) r))
  unfolding object nested
  object_here zero w r = refl
  object_here (suc deep) w r = refl

  module _ (deep : ℕ) where
    abbrev at : Want → Walk
    at w = object row rows s e deep w

    abbrev its : ℕ → Option ℕ
    its r = item row rows s (sort_of e (row r).kind) (nested row rows s e deep) (row r) r

    stands : (w : Want) (r : ℕ) {n : ℕ} → at w r ≡ Some n → (ltb r rows ≡ true) × (meets w (row r).kind ≡ true) × (its r ≡ Some n)
    stands w r h =
        let g = sym (object_here deep w r) ∙ h in
        let f = fit_end (ltb r rows) (fit (meets w (row r).kind) (its r)) g in
        (fit_true (ltb r rows) _ g, fit_true (meets w (row r).kind) _ f, fit_end (meets w (row r).kind) (its r) f)

    -- where an object of this kind may stand, it is any object
    wanted : (w : Want) (r : ℕ) → meets w (row r).kind ≡ true → at w r ≡ at Any r
    unfolding meets
    wanted w r m = object_here deep w r ∙ rw m (sym (object_here deep Any r))

    unicode_sort : (k : ℕ) → eqb k 11 ≡ true → sort_of e k ≡ Content TextContent
    unfolding sort_of
    unicode_sort k q = rw (eqb-true k 11 q)

    unicode_end : (w : Want) (r : ℕ) {n : ℕ} → eqb (row r).kind 11 ≡ true → at w r ≡ Some n → n ≡ r + 1
    unicode_end w r k h = content_end s TextContent (row r) r (rw (unicode_sort (row r).kind k) at (stands w r h).2)

    abbrev parts : ℕ → Option ℕ
    parts r = pair (at Text) (pair (at EitherDict) (at Any)) (r + 1)

    next_two : (r : ℕ) → r + 1 + 1 ≡ r + 2
    next_two r = omega arith

    three_named_lem : (r : ℕ) → named row rows r ≡ true → parts r ≡ pair (at Any) (pair (at Any) (at Any)) (r + 1)
    unfolding named is_dict meets pair
    three_named_lem r h = rw (wanted Text (r + 1) b.0) (go (at Any (r + 1)) refl)
      where
        b : (eqb (row (r + 1)).kind 11 ≡ true) × (is_dict (row (r + 2)).kind ≡ true)
        b = both (eqb (row (r + 1)).kind 11) (is_dict (row (r + 2)).kind) (both (ltb (r + 2) rows) (eqb (row (r + 1)).kind 11 && is_dict (row (r + 2)).kind) h).1

        go : (o : Option ℕ) → at Any (r + 1) ≡ o → then o (λ k. then (at EitherDict k) (at Any)) ≡ then o (λ k. then (at Any k) (at Any))
        go None q = refl
        go (Some k) q = let z : k ≡ r + 2 = unicode_end Any (r + 1) b.0 q ∙ next_two r in rw (z, wanted EitherDict (r + 2) b.1)

    three_unnamed : (r : ℕ) → named row rows r ≡ false → None ≡ parts r
    unfolding named is_dict meets pair
    three_unnamed r h = first (at Text (r + 1)) refl
      where
        first : (o : Option ℕ) → at Text (r + 1) ≡ o → None ≡ then o (λ k. then (at EitherDict k) (at Any))
        first None q = refl
        first (Some k) q =
            let m = (stands Text (r + 1) q).1 in
            let z : k ≡ r + 2 = unicode_end Text (r + 1) m q ∙ next_two r in
            rw z (second m (at EitherDict (r + 2)) refl)
          where
            second : eqb (row (r + 1)).kind 11 ≡ true → (o : Option ℕ) → at EitherDict (r + 2) ≡ o → None ≡ then o (at Any)
            second m None p = refl
            second m (Some j) p = let v = stands EitherDict (r + 2) p in absurd (clash (rw (v.0, m) v.1) h)

-- ---- what a row with children must say

pub nested_none : (row : ℕ → Row) (rows : ℕ) (s : List ℕ) (e : Edition) (deep : ℕ) → deep ≡ 0 → nested row rows s e deep ≡ floor
unfolding nested
nested_none row rows s e deep z = rw z

pub nested_less : (row : ℕ → Row) (rows : ℕ) (s : List ℕ) (e : Edition) (deep : ℕ) → (deep ≡ 0 → ⊥) → nested row rows s e deep ≡ under (object row rows s e (deep - 1))
unfolding nested
nested_less row rows s e zero n = absurd (n refl)
nested_less row rows s e (suc deep) n = rw sub-one

module _ (row : ℕ → Row) (rows : ℕ) (s : List ℕ) (e : Edition) (x : Row) (r : ℕ) (h : holds x.kind ≡ true) where
  module _ (deep : ℕ) where
    abbrev within : Nest
    within = under (object row rows s e deep)

    abbrev whole : Option ℕ
    whole = item row rows s (sort_of e x.kind) within x r

    holding_none : (b : Bool) → None ≡ fit b (over x None)
    holding_none true = none (eqb x.a 0)
      where
        none : (c : Bool) → None ≡ fit c None
        none true = refl
        none false = refl
    holding_none false = refl

    abbrev any : Walk
    any = object row rows s e deep Any

    -- it may not hold that
    pub held_not : may_hold row rows e x r ≡ false → None ≡ whole
    unfolding may_hold
    held_not m = go (container e x.kind h)
      where
        three : (l : ThreeLetter) (b : Bool) → (b && three_named row rows l r) ≡ false → None ≡ fit b (over x (pair (object row rows s e deep (name_want l)) (pair (object row rows s e deep (attributes_want l)) any) (r + 1)))
        three Extension true n = rw (← three_unnamed row rows s e deep r n) (holding_none true)
        three Node true n = absurd (clash refl n)
        three l false n = refl

        go : Container e x.kind → None ≡ whole
        go (a_many l k q) = absurd (clash refl (rw k at m))
        go (a_three l k q) = rw k (three l (eqb x.b 3) (rw k at m))
        go (unknown k) = rw k

    -- it may: the objects or pairs below it, in one run
    pub held_run : may_hold row rows e x r ≡ true → whole ≡ over x (entries row rows s (is_dict x.kind) any x.b (r + 1))
    unfolding may_hold entries entry kept
    held_run m = go (container e x.kind h)
      where
        parts_run : (l : ThreeLetter) → three_named row rows l r ≡ true → pair (object row rows s e deep (name_want l)) (pair (object row rows s e deep (attributes_want l)) any) (r + 1) ≡ items (alike any) nothing 3 [] (r + 1)
        parts_run Extension n = three_named_lem row rows s e deep r n ∙ sym (three_items any (r + 1))
        parts_run Node n = sym (three_items any (r + 1))

        three : (l : ThreeLetter) → (eqb x.b 3 && three_named row rows l r) ≡ true → fit (eqb x.b 3) (over x (pair (object row rows s e deep (name_want l)) (pair (object row rows s e deep (attributes_want l)) any) (r + 1))) ≡ over x (items (alike any) nothing x.b [] (r + 1))
        three l n =
            let b = both (eqb x.b 3) (three_named row rows l r) n in
            let q : x.b ≡ 3 = eqb-true x.b 3 b.0 in
            rw (b.0, parts_run l b.1) (ap (λ (n : ℕ). over x (items (alike any) nothing n [] (r + 1))) (sym q))

        go : Container e x.kind → whole ≡ over x (entries row rows s (is_dict x.kind) any x.b (r + 1))
        go (a_many l k q) = rw (k, ← q)
        go (a_three l k q) = rw (k, q) (three l (rw k at m))
        go (unknown k) = absurd (clash (rw k at m) refl)
