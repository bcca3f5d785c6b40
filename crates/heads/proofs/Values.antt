-- What a Value is, by its byte: what answers the tests of the functions that read one. Assumes nothing.
use mathlib.Core.Path.{◌≡◌, refl, sym, ap, ◌∙◌}
use mathlib.Core.Bool.{Bool, true, false, ◌||◌, cond}
use mathlib.Core.List.{List}
use Prim.Native.Nat.{ℕ, zero, suc, ◌+◌, ◌-◌, ◌≤◌, ◌<◌}
use native.Mathlib.Omega.{arith}
use native.Mathlib.Numerals.{sub-one}
use lib.ListN.{length, get_or}
use lib.Dec.{eqb, ltb, leb}
use borrow.Author.Tests.{lt-ltb, le-ltb, le-leb, lt-leb, eq-eqb, ne_eqb, eqb-true, eqb-false, ltb-true, ltb-false, leb-true, leb-false}
use Rattle.draft.specs.declared.Refusal.TheVariants.{Ended, TooDeep, NoRow}
use Rattle.draft.specs.declared.Tag.{Tag}
use Rattle.draft.specs.Codebook.{Book}
use Rattle.draft.specs.Read.{refused, floor, under, opened, array_item, struct_item, item, value, nested, tag_of}
use Rattle.draft.proofs.Naming.{number_some}
use Rattle.item.proofs.Tags.{tag_array, tag_struct}
use Rattle.item.specs.Contract.{Step, step_number}
use Rattle.item.specs.Contract.{refused_at, read_to, Did}
use Rattle.item.proofs.Readings.{done, did_no, opened_full, opened_cut, opened_on}
use Rattle.scalar.proofs.Scalars.{flat}
use Rattle.member_keys.specs.Contract.{Done}
use Rattle.heads.specs.Items.{holds_items, head_of, entries, contents_of, Begun}

-- the byte begins an Array or a Struct, or neither
pub holds_array : {b : ℕ} → b ≡ 65 → true ≡ holds_items b
unfolding holds_items
holds_array e = rw (eq-eqb _ _ e)

pub holds_struct : {b : ℕ} → (b ≡ 65 → ⊥) → eqb b 83 ≡ holds_items b
unfolding holds_items
holds_struct n = rw (ne_eqb _ _ n)

neither_left : (a b : Bool) → (a || b) ≡ false → a ≡ false
neither_left true b e = e
neither_left false b e = refl

neither_right : (a b : Bool) → (a || b) ≡ false → b ≡ false
neither_right true b e = let z : ◌≡◌ {A = ℕ} 0 1 = cc in absurd (omega arith)
neither_right false b e = e

first_of : (a b : Bool) → (a || b) ≡ true → b ≡ false → a ≡ true
first_of true b e f = refl
first_of false b e f = let z : ◌≡◌ {A = ℕ} 0 1 = cc in absurd (omega arith)

module _ (b : ℕ) {h : Bool} (e : h ≡ holds_items b) (n : h ≡ false) where
  pub no_array : b ≡ 65 → ⊥
  unfolding holds_items
  no_array = eqb-false b 65 (neither_left _ (eqb b 83) (sym e ∙ n))

  pub no_struct : b ≡ 83 → ⊥
  unfolding holds_items
  no_struct = eqb-false b 83 (neither_right (eqb b 65) _ (sym e ∙ n))

positive : (n : ℕ) → (n ≡ 0 → ⊥) → 0 < n
positive zero n = absurd (n refl)
positive (suc m) n = omega arith

-- what an Array or a Struct begins with
module _ (bytes room at r : ℕ) {deep : ℕ} {step : Step} where
  pub head_deep : deep ≡ 0 → step ≡ refused_at TooDeep at → step ≡ head_of bytes room deep at r
  unfolding head_of
  head_deep d f = f ∙ simp (eq-eqb _ _ d)

  module _ (d : deep ≡ 0 → ⊥) where
    pub head_full : room ≤ r → step ≡ refused_at NoRow at → step ≡ head_of bytes room deep at r
    unfolding head_of
    head_full h f = f ∙ simp (ne_eqb _ _ d, le-ltb _ _ h)

    pub head_cut : r < room → bytes < at + 5 → step ≡ refused_at Ended at → step ≡ head_of bytes room deep at r
    unfolding head_of
    head_cut h k f = f ∙ simp (ne_eqb _ _ d, lt-ltb _ _ h, lt-leb _ _ k)

pub head_on : (bytes room at r : ℕ) {deep : ℕ} → (deep ≡ 0 → ⊥) → r < room → at + 5 ≤ bytes → read_to at r ≡ head_of bytes room deep at r
unfolding head_of
head_on bytes room at r d h k = simp (ne_eqb _ _ d, lt-ltb _ _ h, le-leb _ _ k)

-- if its items come next
pub begun : (s : List ℕ) (room deep at r : ℕ) {step : Step} → step ≡ head_of (length s) room deep at r → step_number step ≡ 0 → Begun s room deep at r
unfolding head_of
begun s room deep at r f e = go _ _ _ refl refl refl (sym (ap (λ (x : Step). step_number x) f) ∙ e)
  where
    go : (a b c : Bool) → eqb deep 0 ≡ a → ltb r room ≡ b → leb (at + 5) (length s) ≡ c → step_number (cond a (refused_at TooDeep at) (cond b (cond c (read_to at r) (refused_at Ended at)) (refused_at NoRow at))) ≡ 0 → Begun s room deep at r
    go true b c d h k e = absurd (number_some TooDeep e)
    go false false c d h k e = absurd (number_some NoRow e)
    go false true false d h k e = absurd (number_some Ended e)
    go false true true d h k e = record { count = leb-true (at + 5) (length s) k; row = ltb-true r room h; level = positive deep (eqb-false deep 0 d) }

-- then nothing was read
pub head_same : (bytes room deep at r : ℕ) {step : Step} → step ≡ head_of bytes room deep at r → step_number step ≡ 0 → step ≡ read_to at r
unfolding head_of
head_same bytes room deep at r {step} f e = go (eqb deep 0) (ltb r room) (leb (at + 5) bytes) f (sym (ap (λ (x : Step). step_number x) f) ∙ e)
  where
    go : (a b c : Bool) → step ≡ cond a (refused_at TooDeep at) (cond b (cond c (read_to at r) (refused_at Ended at)) (refused_at NoRow at)) → step_number (cond a (refused_at TooDeep at) (cond b (cond c (read_to at r) (refused_at Ended at)) (refused_at NoRow at))) ≡ 0 → step ≡ read_to at r
    go true b c f e = absurd (number_some TooDeep e)
    go false false c f e = absurd (number_some NoRow e)
    go false true false f e = absurd (number_some Ended e)
    go false true true f e = f

-- a Value, by its byte
value_is : (s : List ℕ) (room deep at r : ℕ) (book : Book) {t : Tag} → at < length s → t ≡ tag_of (get_or s at 0) → value s room deep at r book ≡ item s room t (nested s room deep) at r book
unfolding value nested
value_is s room zero at r book h e = rw (lt-ltb _ _ h, ← e)
value_is s room (suc deep) at r book h e = rw (lt-ltb _ _ h, ← e)

value_none : (s : List ℕ) (room deep at r : ℕ) (book : Book) → length s ≤ at → value s room deep at r book ≡ refused Ended at
unfolding value
value_none s room zero at r book h = simp (le-ltb _ _ h)
value_none s room (suc deep) at r book h = simp (le-ltb _ _ h)

-- what may nest: nothing more, or a level less
nested_less : (s : List ℕ) (room deep : ℕ) → 0 < deep → nested s room deep ≡ under (value s room (deep - 1))
unfolding nested
nested_less s room zero n = absurd (omega arith)
nested_less s room (suc deep) n = rw sub-one

-- an Array or a Struct
module _ (s : List ℕ) (room deep at r : ℕ) (book : Book) (h : at < length s) where
  deep_none : (k : Bool) → eqb (get_or s at 0) 83 ≡ k → holds_items (get_or s at 0) ≡ true → deep ≡ 0 → value s room deep at r book ≡ refused TooDeep at
  unfolding nested holds_items
  deep_none true e o z = value_is s room deep at r book h (tag_struct _ (eqb-true _ _ e)) ∙ rw z
  deep_none false e o z = value_is s room deep at r book h (tag_array _ (eqb-true _ _ (first_of _ _ o e))) ∙ rw z

  deep_some : (k : Bool) → eqb (get_or s at 0) 83 ≡ k → holds_items (get_or s at 0) ≡ true → 0 < deep → value s room deep at r book ≡ opened s room 5 at r (contents_of s room k (value s room (deep - 1)) at r book)
  unfolding contents_of entries holds_items
  deep_some true e o z = value_is s room deep at r book h (tag_struct _ (eqb-true _ _ e)) ∙ rw (nested_less s room deep z)
  deep_some false e o z = value_is s room deep at r book h (tag_array _ (eqb-true _ _ (first_of _ _ o e))) ∙ rw (nested_less s room deep z)

module _ (s : List ℕ) (deep at : ℕ) {bytes room from r : ℕ} {T T' W' : List ℕ} {step : Step} where
  pub value_short : (book : Book) → length s ≤ at → step ≡ refused_at Ended at → Did (value s room deep at r book) bytes room from r T T' W' step
  value_short book h e = did_no Ended e (value_none s room deep at r book h)

  module _ (book : Book) (h : at < length s) {b : Bool} (o : b ≡ holds_items (get_or s at 0)) where
    pub value_scalar : b ≡ false → Did (item s room (tag_of (get_or s at 0)) floor at r book) bytes room from r T T' W' step → Did (value s room deep at r book) bytes room from r T T' W' step
    value_scalar n d = done (value_is s room deep at r book h refl ∙ flat s room at r book (nested s room deep) (no_array _ o n) (no_struct _ o n)) d

    module _ (t : b ≡ true) where
      -- it is refused before its items
      pub value_head : step ≡ head_of (length s) room deep at r → (step_number step ≡ 0 → ⊥) → Did (value s room deep at r book) bytes room from r T T' W' step
      unfolding head_of
      value_head f n = go _ _ _ refl refl refl f
        where
          go : (x y z : Bool) → eqb deep 0 ≡ x → ltb r room ≡ y → leb (at + 5) (length s) ≡ z → step ≡ cond x (refused_at TooDeep at) (cond y (cond z (read_to at r) (refused_at Ended at)) (refused_at NoRow at)) → Did (value s room deep at r book) bytes room from r T T' W' step
          go true y z d l k f = did_no TooDeep f (deep_none s room deep at r book h _ refl (sym o ∙ t) (eqb-true deep 0 d))
          go false false z d l k f = done (deep_some s room deep at r book h _ refl (sym o ∙ t) (positive deep (eqb-false deep 0 d))) (opened_full s 5 at _ (ltb-false r room l) f)
          go false true false d l k f = done (deep_some s room deep at r book h _ refl (sym o ∙ t) (positive deep (eqb-false deep 0 d))) (opened_cut s 5 at _ (ltb-true r room l) (leb-false (at + 5) (length s) k) f)
          go false true true d l k f = absurd (n (ap (λ (x : Step). step_number x) f))

      pub value_contents : Begun s room deep at r → Did (contents_of s room (eqb (get_or s at 0) 83) (value s room (deep - 1)) at r book) bytes room from r T T' W' step → Did (value s room deep at r book) bytes room from r T T' W' step
      value_contents g d = done (deep_some s room deep at r book h _ refl (sym o ∙ t) g.level) (opened_on s 5 at _ g.row g.count d)

-- a Value whose byte is known
module _ (s : List ℕ) (deep at : ℕ) (book : Book) {room from r : ℕ} {T T' W' N N' : List ℕ} {step : Step} (h : at < length s) where
  pub array_read : get_or s at 0 ≡ 65 → Done (value s room deep at r book) s room from r T T' W' N N' step → Did (array_item s room (nested s room deep) at r book) (length s) room from r T T' W' step
  array_read e d = done (sym (value_is s room deep at r book h (tag_array _ e))) d.did

  pub struct_read : get_or s at 0 ≡ 83 → Done (value s room deep at r book) s room from r T T' W' N N' step → Did (struct_item s room (nested s room deep) at r book) (length s) room from r T T' W' step
  struct_read e d = done (sym (value_is s room deep at r book h (tag_struct _ e))) d.did

pub ruleset values = (holds_array, holds_struct, no_array, no_struct, head_deep, head_full, head_cut, head_on, begun)
