-- What answers each return of the functions that walk Others, scalars and containers, by what they hold. Assumes nothing.
use mathlib.Core.Path.{◌≡◌, refl, sym, ◌∙◌}
use mathlib.Core.Bool.{Bool, true, false, ◌||◌, cond}
use mathlib.Core.Logic.{◌⊎◌, inl, inr}
use mathlib.Core.List.{List}
use Prim.Native.Nat.{ℕ, zero, suc, ◌+◌, ◌-◌, ◌≤◌, ◌<◌}
use native.Mathlib.Omega.{arith}
use native.Mathlib.Numerals.{sub-one}
use lib.Dec.{eqb}
use borrow.Author.Tests.{lt-ltb, le-ltb, eqb-true}
use Rattle.std.proofs.Common.{Option, Some, None}
use Rattle.draft.specs.declared.Refusal.{Refusal}
use Rattle.draft.specs.Verdict.{Verdict}
use Rattle.std.specs.Prelude.{Ok, Err}
use Rattle.draft.specs.declared.Content.{Content as ContentOf}
use Rattle.draft.specs.declared.Content.TheVariants.{Double, DateTime, Binary, Text}
use Rattle.draft.specs.declared.Item.{Item}
use Rattle.draft.specs.declared.Item.TheVariants.{
  Call,
  Response,
  Fault,
  Integer,
  Boolean,
  Content,
  Array,
  Struct,
  Other,
  Unknown,
}
use Rattle.draft.specs.declared.Row.{Row}
use Rattle.draft.specs.Rows.{item_of}
use Rattle.draft.specs.Content.{name_rule}
use Rattle.draft.specs.Bytes.{part}
use Rattle.draft.specs.Read.{text_of}
use Rattle.draft.specs.Writable.{Walk, Nest, floor, under, over, content_item, string, string_by, name, pair, item, value, nested}
use Rattle.row_ends.proofs.Ending.{ending}
use Rattle.extents.specs.Asked.{Checked, Known}
use Rattle.extents.proofs.Walking.{walking, only_there, known_kind}
use Rattle.containers.specs.Items.{holds_items, entries}

pub pair_no : (f g : Walk) (r : ℕ) {o : Option ℕ} → None ≡ f r → o ≡ None → o ≡ pair f g r
unfolding pair
pair_no f g r h i = i ∙ rw (← h)

pub pair_on : (f g : Walk) (r : ℕ) {e : Option ℕ} {k : ℕ} → Some k ≡ f r → e ≡ g k → e ≡ pair f g r
unfolding pair
pair_on f g r h j = j ∙ rw (← h)

-- the text of a row that was fetched
pub row_text_is : (s : List ℕ) {x y : Row} {t : List ℕ} → t ≡ part s x.a x.b → x ≡ y → t ≡ text_of s y
row_text_is s e f = e ∙ rw f

abbrev pub Flat : Item → Type 0
Flat Call = Unit {0}
Flat Response = Unit {0}
Flat Fault = Unit {0}
Flat Integer = Unit {0}
Flat Boolean = Unit {0}
Flat (Content c) = Unit {0}
Flat Array = ⊥
Flat Struct = ⊥
Flat Other = Unit {0}
Flat Unknown = Unit {0}

neither : (a b : Bool) → (a || b) ≡ false → (a ≡ false) × (b ≡ false)
neither true b e = let z : ◌≡◌ {A = ℕ} 0 1 = cc in absurd (omega arith)
neither false b e = (refl, e)

flat_kind : (k : ℕ) → holds_items k ≡ false → Flat (item_of k)
unfolding item_of holds_items
flat_kind k h =
    let n = neither (eqb k 9) (eqb k 10) h in
    chosen (eqb k 1) Call _ tt (chosen (eqb k 2) Response _ tt (chosen (eqb k 3) Fault _ tt (chosen (eqb k 4) Integer _ tt (chosen (eqb k 5) Boolean _ tt (chosen (eqb k 6) (Content Double) _ tt (chosen (eqb k 7) (Content DateTime) _ tt (chosen (eqb k 8) (Content Binary) _ tt (rw (n.0, n.1) (chosen (eqb k 11) (Content Text) _ tt (chosen (eqb k 12) Other Unknown tt tt))))))))))
  where
    chosen : (x : Bool) (i j : Item) → Flat i → Flat j → Flat (cond x i j)
    chosen true i j f g = f
    chosen false i j f g = g

-- a kind that holds items, by its item
pub holds_item : (k : ℕ) {i : Item} → i ≡ item_of k → (i ≡ Array) ⊎ (i ≡ Struct) → holds_items k ≡ true
holds_item k {i} g h = go (holds_items k) refl
  where
    no : (j : Item) → Flat j → (j ≡ Array) ⊎ (j ≡ Struct) → ⊥
    no j f (inl e) = rw e at f
    no j f (inr e) = rw e at f

    go : (b : Bool) → holds_items k ≡ b → holds_items k ≡ true
    go true e = e
    go false e = absurd (no i (rw g (flat_kind k e)) h)

-- the item of a kind that holds items
item_struct : {k : ℕ} → k ≡ 10 → item_of k ≡ Struct
unfolding item_of
item_struct e = rw e

item_array : {k : ℕ} → k ≡ 9 → item_of k ≡ Array
unfolding item_of
item_array e = rw e

array_kind : (k : ℕ) → holds_items k ≡ true → eqb k 10 ≡ false → k ≡ 9
unfolding holds_items
array_kind k h n = eqb-true k 9 (go (eqb k 9) (rw n at h))
  where
    go : (a : Bool) → (a || false) ≡ true → a ≡ true
    go true e = refl
    go false e = e

-- the kind of a String, if that is the item
abbrev TextKind : ℕ → Item → Type 0
TextKind k Call = Unit {0}
TextKind k Response = Unit {0}
TextKind k Fault = Unit {0}
TextKind k Integer = Unit {0}
TextKind k Boolean = Unit {0}
TextKind k (Content Double) = Unit {0}
TextKind k (Content DateTime) = Unit {0}
TextKind k (Content Binary) = Unit {0}
TextKind k (Content Text) = k ≡ 11
TextKind k Array = Unit {0}
TextKind k Struct = Unit {0}
TextKind k Other = Unit {0}
TextKind k Unknown = Unit {0}

text_kind_lem : (k : ℕ) → TextKind k (item_of k)
unfolding item_of
text_kind_lem k =
    chosen (eqb k 1) Call _ tt (chosen (eqb k 2) Response _ tt (chosen (eqb k 3) Fault _ tt (chosen (eqb k 4) Integer _ tt (chosen (eqb k 5) Boolean _ tt (chosen (eqb k 6) (Content Double) _ tt (chosen (eqb k 7) (Content DateTime) _ tt (chosen (eqb k 8) (Content Binary) _ tt (chosen (eqb k 9) Array _ tt (chosen (eqb k 10) Struct _ tt (text (eqb k 11) refl _ (chosen (eqb k 12) Other Unknown tt tt)))))))))))
  where
    chosen : (x : Bool) (i j : Item) → TextKind k i → TextKind k j → TextKind k (cond x i j)
    chosen true i j f g = f
    chosen false i j f g = g

    text : (x : Bool) → eqb k 11 ≡ x → (j : Item) → TextKind k j → TextKind k (cond x (Content Text) j)
    text true e j g = eqb-true k 11 e
    text false e j g = g

string_kind : {k : ℕ} → item_of k ≡ Content Text → k ≡ 11
string_kind {k} e = rw e at (text_kind_lem k)

-- the rows of a table, and the text bytes
module _ (row : ℕ → Row) (rows : ℕ) (s : List ℕ) where
  -- an Other's name
  pub name_no : (r : ℕ) {o : Option ℕ} → None ≡ string row rows s r → o ≡ None → o ≡ name row rows s r
  unfolding string_by
  name_no r h i = i ∙ rw (← h)

  module _ (r : ℕ) {n : ℕ} (h : Some n ≡ string row rows s r) where
    pub string_there : r < rows
    unfolding string
    string_there = only_there row rows s 11 (content_item s Text) r h refl

    module _ {t : List ℕ} {v : Verdict} (e : t ≡ text_of s (row r)) (j : v ≡ name_rule t) where
      pub name_bad : {m : Refusal} → v ≡ Err m → None ≡ name row rows s r
      unfolding string_by
      name_bad l = rw (← h, ← e, ← j, l)

      pub name_fine : v ≡ Ok tt → Some n ≡ name row rows s r
      unfolding string_by
      name_fine l = rw (← h, ← e, ← j, l)

  -- what is known of its content
  pub scalar_known : (r : ℕ) {x : Row} {i : Item} {c : ContentOf} {good : ℕ} → Checked row s good → x ≡ row r → i ≡ item_of x.kind → i ≡ Content c → Known s c x r good
  scalar_known r {x} h e f g = known_kind row h e (λ t. string_kind (sym f ∙ g ∙ rw t))

  any_nest : (i : Item) → Flat i → (n m : Nest) (x : Row) (r : ℕ) → item row rows s i n x r ≡ item row rows s i m x r
  any_nest Call f n m x r = refl
  any_nest Response f n m x r = refl
  any_nest Fault f n m x r = refl
  any_nest Integer f n m x r = refl
  any_nest Boolean f n m x r = refl
  any_nest (Content c) f n m x r = refl
  any_nest Array f n m x r = absurd f
  any_nest Struct f n m x r = absurd f
  any_nest Other f n m x r = refl
  any_nest Unknown f n m x r = refl

  -- a Value, by what was fetched of its row
  pub value_past : (deep r : ℕ) → rows ≤ r → None ≡ value row rows s deep r
  unfolding value
  value_past zero r h = rw (le-ltb r rows h)
  value_past (suc deep) r h = rw (le-ltb r rows h)

  pub value_is : (deep r : ℕ) {x : Row} {e : Option ℕ} → r < rows → x ≡ row r → e ≡ item row rows s (item_of x.kind) (nested row rows s deep) x r → e ≡ value row rows s deep r
  unfolding value nested
  value_is zero r h f l = l ∙ rw (lt-ltb r rows h, ← f)
  value_is (suc deep) r h f l = l ∙ rw (lt-ltb r rows h, ← f)

  pub value_flat : (deep r : ℕ) {x : Row} {j : Item} {e : Option ℕ} → r < rows → x ≡ row r → item_of x.kind ≡ j → Flat j → e ≡ item row rows s j floor x r → e ≡ value row rows s deep r
  value_flat deep r {x} {j} h f g k l = value_is deep r h f (rw g (l ∙ any_nest j k floor (nested row rows s deep) x r))

  -- what may nest: nothing more, or a level less
  nested_less : (deep : ℕ) → (deep ≡ 0 → ⊥) → nested row rows s deep ≡ under (value row rows s (deep - 1))
  unfolding nested
  nested_less zero n = absurd (n refl)
  nested_less (suc deep) n = rw sub-one

  -- an Array or a Struct, by its kind
  module _ (k : ℕ) (h : holds_items k ≡ true) (deep : ℕ) (x : Row) (r : ℕ) where
    pub contents_deep : deep ≡ 0 → None ≡ item row rows s (item_of k) (nested row rows s deep) x r
    unfolding nested
    contents_deep z = go (eqb k 10) refl
      where
        go : (b : Bool) → eqb k 10 ≡ b → None ≡ item row rows s (item_of k) (nested row rows s deep) x r
        go true e = rw (item_struct (eqb-true k 10 e), z)
        go false e = rw (item_array (array_kind k h e), z)

    pub contents_less : (deep ≡ 0 → ⊥) → {o e : Option ℕ} (b : Bool) → eqb k 10 ≡ b → o ≡ entries row rows s b (value row rows s (deep - 1)) x.b (r + 1) → e ≡ over x o → e ≡ item row rows s (item_of k) (nested row rows s deep) x r
    unfolding entries
    contents_less z true e i j = j ∙ rw (item_struct (eqb-true k 10 e), nested_less deep z, i)
    contents_less z false e i j = j ∙ rw (item_array (array_kind k h e), nested_less deep z, i)

pub ruleset nesting = (ending, walking, pair_no, pair_on, row_text_is, string_there, name_no, name_bad, name_fine)
