-- What answers each return of the functions that walk rows of content, by tests of them. Assumes nothing.
use mathlib.Core.Path.{◌≡◌, refl, sym, ◌∙◌}
use mathlib.Core.Bool.{Bool, true, false}
use mathlib.Core.List.{List}
use Prim.Native.Nat.{ℕ, ◌+◌, ◌-◌, ◌≤◌, ◌<◌}
use native.Mathlib.Omega.{arith}
use lib.ListN.{length}
use lib.Dec.{ltb}
use borrow.Author.Tests.{lt-ltb, le-ltb, le-leb, lt-leb, eq-eqb, ne_eqb, ltb-true}
use Rattle.std.proofs.Common.{Option, Some, None}
use Rattle.draft.specs.declared.Refusal.{Refusal}
use Rattle.draft.specs.Verdict.{Verdict}
use Rattle.std.specs.Prelude.{Ok, Err}
use Rattle.draft.specs.declared.Content.{Content as ContentOf}
use Rattle.draft.specs.declared.Content.TheVariants.{Binary, Text}
use Rattle.draft.specs.declared.Row.{Row}
use Rattle.draft.specs.Rows.{kind_of}
use Rattle.draft.specs.Content.{content_rule, verdict}
use Rattle.draft.specs.Writable.{Walk, leaf, sized, content_item, only, string}
use Rattle.asked.specs.Contents.{is_binary, checked_before}
use Rattle.asked.proofs.Asking.{is_binary_lem, before}
use Rattle.extents.specs.Asked.{Ready, Checked, Known}

-- content
module _ (s : List ℕ) (c : ContentOf) (x : Row) (r : ℕ) {b : Bool} (h : b ≡ sized c x.b) where
  pub content_large : b ≡ false → None ≡ content_item s c x r
  unfolding content_item
  content_large i = rw (← h, i)

  module _ {v : Verdict} (i : b ≡ true) (j : v ≡ verdict c s x.a x.b) where
    pub content_bad : {m : Refusal} → v ≡ Err m → None ≡ content_item s c x r
    unfolding content_item
    content_bad k = rw (← h, i, ← j, k)

    pub content_fine : {e : Option ℕ} → v ≡ Ok tt → e ≡ leaf x r → e ≡ content_item s c x r
    unfolding content_item
    content_fine k l = l ∙ rw (← h, i, ← j, k)

-- a Binary, which has no rule
module _ (s : List ℕ) (x : Row) (r : ℕ) where
  pub binary_past : length s < x.a + x.b → None ≡ content_item s Binary x r
  unfolding content_item verdict content_rule
  binary_past h = rw (lt-leb (x.a + x.b) (length s) h)

  pub binary_there : {e : Option ℕ} → x.a + x.b ≤ length s → e ≡ leaf x r → e ≡ content_item s Binary x r
  unfolding content_item verdict content_rule
  binary_there l f = f ∙ rw (le-leb (x.a + x.b) (length s) l)

  pub content_binary : (c : ContentOf) {b : Bool} {e : Option ℕ} → b ≡ is_binary c → b ≡ true → e ≡ content_item s Binary x r → e ≡ content_item s c x r
  content_binary c h i f = f ∙ rw (is_binary_lem c (sym h ∙ i))

-- content that was checked before
pub content_known : (s : List ℕ) (c : ContentOf) (x : Row) (r : ℕ) {good : ℕ} {b : Bool} {e : Option ℕ} → Known s c x r good → b ≡ checked_before c x.b r good → b ≡ true → e ≡ leaf x r → e ≡ content_item s c x r
unfolding content_item
content_known s c x r k h i l =
    let t = sym h ∙ i in
    let f : sized c x.b ≡ true = rw (before t).text in
    l ∙ rw (f, k.fine t)

-- what is known of a row's content, by its kind
pub known_kind : (row : ℕ → Row) {s : List ℕ} {c : ContentOf} {x : Row} {r good : ℕ} → Checked row s good → x ≡ row r → (c ≡ Text → x.kind ≡ kind_of Text) → Known s c x r good
known_kind row {s} {c} {x} {r} h e k = record { fine = λ t. let b = before t in rw (b.text, e) (h.fine r b.row (rw e at (k b.text)) (rw e at b.long)) }

pub known_only : (row : ℕ → Row) {s : List ℕ} {c : ContentOf} {x : Row} {r good k : ℕ} → Checked row s good → x ≡ row r → k ≡ kind_of c → x.kind ≡ k → Known s c x r good
known_only row h e f g = known_kind row h e (λ t. g ∙ f ∙ rw t)

-- the rows of a table, and the text bytes
module _ (row : ℕ → Row) (rows : ℕ) (s : List ℕ) where
  -- a row of one kind, where nothing else is allowed
  module _ (k : ℕ) (f : Row → Walk) (r : ℕ) where
    pub only_past : rows ≤ r → None ≡ only row rows s k f r
    unfolding only
    only_past h = rw (le-ltb r rows h)

    module _ {x : Row} (h : r < rows) (i : x ≡ row r) where
      pub only_not : (x.kind ≡ k → ⊥) → None ≡ only row rows s k f r
      unfolding only
      only_not j = rw (lt-ltb r rows h, ← i, ne_eqb x.kind k j)

      -- the kind, as the code has it
      pub only_else : {k' : ℕ} → k' ≡ k → (x.kind ≡ k' → ⊥) → None ≡ only row rows s k f r
      only_else e j = only_not (λ w. j (w ∙ sym e))

      pub only_here : {k' : ℕ} {e : Option ℕ} → k' ≡ k → x.kind ≡ k' → e ≡ f x r → e ≡ only row rows s k f r
      unfolding only
      only_here d j l = l ∙ rw (lt-ltb r rows h, ← i, eq-eqb x.kind k (j ∙ d))

    only_before : (b : Bool) → ltb r rows ≡ b → {n : ℕ} → only row rows s k f r ≡ Some n → b ≡ true
    unfolding only
    only_before true e i = refl
    only_before false e i = let z : ◌≡◌ {A = ℕ} 0 1 = clash (rw e at i) in absurd (omega arith)
      where
        clash : {n : ℕ} → None ≡ Some n → ◌≡◌ {A = ℕ} 0 1
        clash f = cc

    pub only_there : {o : Option ℕ} {n : ℕ} → o ≡ only row rows s k f r → o ≡ Some n → r < rows
    only_there h i = ltb-true r rows (only_before (ltb r rows) refl (sym h ∙ i))

  pub string_is : (r : ℕ) {e : Option ℕ} → e ≡ only row rows s 11 (content_item s Text) r → e ≡ string row rows s r
  unfolding string
  string_is r h = h

pub row_few : {r rows room words : ℕ} → Ready rows room words → r < rows → r < 4096
row_few h l = omega (arith, h.stated, h.most)

pub row_room : {r rows room words : ℕ} → Ready rows room words → r < rows → r < room
row_room h l = omega (arith, h.stated)

pub ruleset walking = (content_large, content_bad, content_fine, binary_past, binary_there, content_binary, content_known, known_only, only_past, only_not, only_else, only_here, only_there, string_is, row_few, row_room)
