-- E5's answers and refusals exactly: what looking a member up answers, by the member with the key and its value's kind, and which number it tells.
-- Assumes nothing.
use mathlib.Core.Path.{◌≡◌, refl, sym, ap, ◌∙◌}
use mathlib.Core.Bool.{Bool, true, false, ◌||◌, cond}
use mathlib.Core.Logic.{◌↔◌, ◌⊎◌, inl, inr}
use mathlib.Core.List.{List, [], ◌∷◌}
use Prim.Native.Nat.{ℕ, ◌+◌}
use native.Mathlib.Omega.{arith}
use lib.Ieee.{Float}
use borrow.Author.Tests.{eq-eqb}
use Rattle.std.specs.Prelude.{Option, Some, None, Ok, Err}
use Rattle.text.proofs.Comparing.{clash, same_is}
use Rattle.std.proofs.Common.{Ok, Err}
use Rattle.decimal.specs.Decimal as D
use Rattle.decimal.specs.Decimal.{held, decimal_of}
use Rattle.draft.specs.declared.Row.{Row}
use Rattle.draft.specs.Rows.{item_of}
use Rattle.draft.specs.Read.{text_of}
use Rattle.draft.specs.Written.{rows_of}
use Rattle.exact.proofs.Realising.{counts}
use Rattle.written.proofs.Concluding.{rows_length}
use Rattle.member.specs.declared.Member.{Member}
use Rattle.member.specs.Members.{members, has_key, find, same_member, is_among}
use Rattle.member.proofs.Apart.{Apart}
use Rattle.lookup_answer.specs.declared.Refusal.TheVariants as why
use Rattle.lookup_answer.specs.Answers.{Answer, decimal_answer, answer_at, found_answer, look, lookup}
use Rattle.lookup_answer.specs.declared.Value.TheVariants as answer
use Rattle.index_search.proofs.Members.{of_key_row, found_at}
use Rattle.defaults.specs.Defaults.{Source, row_in, is_writable}
use Rattle.meant.proofs.Saying.{standing}
use Rattle.meant.proofs.Only.{ValueKind, integer_kind, boolean_kind, double_kind, datetime_kind, binary_kind, array_kind, struct_kind, string_kind, other_kind, members_stand, members_valued}
use Rattle.demands_writing.proofs.Writing.{Words, form_derived, judged}
use Rattle.demands_lookups.specs.Asked.{looked, told, its_members, Has, Without, kind_in, value_text, Yields, integer, boolean, double, long_double, string, datetime, binary, array, struct, other, Missing, no_struct, absent, LongDouble, DoubleOf}
use Rattle.demands_lookups.proofs.Lookups.{unwritable_first, distinct_members, long_nineteen}

-- ---- what is found from the front is a member with the key

same_self : (m : Member) → same_member m m ≡ true
unfolding same_member
same_self m = rw (eq-eqb m.key m.key refl, eq-eqb m.value m.value refl)

or_true : (b : Bool) → (b || true) ≡ true
or_true true = refl
or_true false = refl

found_has :
    (row : ℕ → Row) (s key : List ℕ) (ms : List Member) {m : Member} → find row s key ms ≡ Some m
    → (is_among m ms ≡ true) × (text_of s (row m.key) ≡ key)
unfolding find is_among has_key
found_has row s key [] e = let z : ◌≡◌ {A = ℕ} 0 1 = cc in absurd (omega arith)
found_has row s key (x ∷ ms) {m} e = go (has_key row s key x.key) refl e (λ h. found_has row s key ms h)
  where
    go : (b : Bool) → has_key row s key x.key ≡ b → cond b (Some x) (find row s key ms) ≡ Some m
        → (find row s key ms ≡ Some m → (is_among m ms ≡ true) × (text_of s (row m.key) ≡ key))
        → (same_member x m || is_among m ms ≡ true) × (text_of s (row m.key) ≡ key)
    go true h f more = let g : x ≡ m = cc in rw (← g) (rw (same_self x), same_is (text_of s (row x.key)) key h)
    go false h f more = let w = more f in (rw w.0 (or_true (same_member x m)), w.1)

-- the Struct's member with a key by the search from the front, or that it lacks the key
abbrev pub found_in : Source → List ℕ → Option Member
found_in c key = find (row_in c) c.text key (its_members c)

pub has_by : (c : Source) (key : List ℕ) {m : Member} → found_in c key ≡ Some m → Has c key m
has_by c key e = let h = found_has (row_in c) c.text key (its_members c) e in record { among = h.0; named = h.1 }

pub without_found : (c : Source) (key : List ℕ) → Without c key → found_in c key ≡ None
without_found c key n = go (found_in c key) refl
  where
    go : (f : Option Member) → found_in c key ≡ f → found_in c key ≡ None
    go (Some m) i = absurd (n m (has_by c key i))
    go None i = i

-- a row that is no Struct has no members
pub missing_without : (c : Source) (key : List ℕ) → Missing c key → Without c key
unfolding members is_among
missing_without c key (no_struct n) m h = clash (rw n at h.among) refl
missing_without c key (absent f) m h = f m h

pub looks : (c : Source) (key : List ℕ) → is_writable c ≡ true → looked c key ≡ look (row_in c) c.rows c.text c.row key
unfolding lookup
looks c key e = rw e

found_answers : (c : Source) (key : List ℕ) → is_writable c ≡ true → looked c key ≡ found_answer (row_in c) c.text (found_in c key)
unfolding look
found_answers c key e = looks c key e

-- ---- a value's row answers by its kind

long_by : (t : List ℕ) → decimal_of t ≡ D.too_many → held t ≡ false
unfolding decimal_of
long_by t e = go (held t) refl
  where
    go : (b : Bool) → held t ≡ b → held t ≡ false
    go true h = let f = rw h at e in let z : ◌≡◌ {A = ℕ} 0 1 = cc in absurd (omega arith)
    go false h = h

double_yields : (c : Source) (m : Member) → kind_in c m ≡ 6 → (d : D.Decimal) → decimal_of (value_text c m) ≡ d → Yields c m (decimal_answer d)
double_yields c m k (Ok x) e = double k e
double_yields c m k (Err x) e = long_double k (long_by (value_text c m) e)

value_yields : (c : Source) (m : Member) {k : ℕ} → ValueKind k → kind_in c m ≡ k → Yields c m (answer_at (row_in c) c.text m.value)
unfolding answer_at item_of
value_yields c m integer_kind e = rw e (integer e)
value_yields c m boolean_kind e = rw e (boolean e)
value_yields c m double_kind e = rw e (double_yields c m e (decimal_of (value_text c m)) refl)
value_yields c m datetime_kind e = rw e (datetime e)
value_yields c m binary_kind e = rw e (binary e)
value_yields c m array_kind e = rw e (array e)
value_yields c m struct_kind e = rw e (struct e)
value_yields c m string_kind e = rw e (string e)
value_yields c m other_kind e = rw e (other e)

-- ---- a writable table

module _ (c : Source) (e : is_writable c ≡ true) (w : Words c.table) where
  apart : Apart c.rows (c.row + 1) (its_members c)
  unfolding rows_of
  apart =
      let g = form_derived 32 c.table c.rows c.text (sym (judged c.table c.rows c.text) ∙ e) w in
      members_stand (row_in c) c.text (standing (row_in c) c.text c.rows g.meaning) c.rows
      (sym (counts g.meaning) ∙ rows_length 4096 c.table c.rows) g.derived c.row

  valued : (m : Member) → is_among m (its_members c) ≡ true → ValueKind (kind_in c m)
  unfolding rows_of
  valued =
      let g = form_derived 32 c.table c.rows c.text (sym (judged c.table c.rows c.text) ∙ e) w in
      members_valued (row_in c) c.text (standing (row_in c) c.text c.rows g.meaning) c.rows
      (sym (counts g.meaning) ∙ rows_length 4096 c.table c.rows) g.derived c.row

  module _ (key : List ℕ) where
    pub has_found : {m : Member} → Has c key m → found_in c key ≡ Some m
    has_found {m} h =
        let u = of_key_row apart m h.among in
        found_at (row_in c) c.text apart key (distinct_members c.table c.rows c.text e w c.row) m.key u.there h.named
        ∙ ap Some (sym u.is)

    pub found_without : found_in c key ≡ None → Without c key
    found_without i m h = let f : Some m ≡ None = sym (has_found h) ∙ i in let z : ◌≡◌ {A = ℕ} 0 1 = cc in omega arith

    -- THE ONLY ONE: no two members have the key
    pub only_one : {m m' : Member} → Has c key m → Has c key m' → m ≡ m'
    only_one {m} {m'} h i = let f : Some m ≡ Some m' = sym (has_found h) ∙ has_found i in cc

    has_answers : {m : Member} → Has c key m → looked c key ≡ answer_at (row_in c) c.text m.value
    has_answers h = found_answers c key e ∙ rw (has_found h)

    -- WHAT IT YIELDS, by the kind of its value
    pub yields : {m : Member} → Has c key m → Yields c m (looked c key)
    yields {m} h = rw (has_answers h) (value_yields c m (valued m h.among) refl)

    pub double_answers : {m : Member} → Has c key m → kind_in c m ≡ 6 → looked c key ≡ decimal_answer (decimal_of (value_text c m))
    unfolding answer_at item_of
    double_answers h k = has_answers h ∙ rw k

    -- the member with the key, or that there is none
    pub data Sought : Type 0 where
      there : (m : Member) → Has c key m → Yields c m (looked c key) → Sought
      nowhere : Without c key → looked c key ≡ Err why.NoMember → Sought

    pub sought : Sought
    sought = go (found_in c key) refl
      where
        go : (f : Option Member) → found_in c key ≡ f → Sought
        go (Some m) h = let i = has_by c key h in there m i (yields i)
        go None h = nowhere (found_without h) (found_answers c key e ∙ rw h)

-- ---- the numbers

-- what a member yields has number 0, or 19 for a Double with too many digits
yields_told : {c : Source} {m : Member} {a : Answer} → Yields c m a → (told a ≡ 0) ⊎ ((told a ≡ 19) × (kind_in c m ≡ 6) × (held (value_text c m) ≡ false))
yields_told (integer k) = inl refl
yields_told (boolean k) = inl refl
yields_told (double k h) = inl refl
yields_told (long_double k h) = inr (refl, k, h)
yields_told (string k) = inl refl
yields_told (datetime k) = inl refl
yields_told (binary k) = inl refl
yields_told (array k) = inl refl
yields_told (struct k) = inl refl
yields_told (other k) = inl refl

decimal_by : {c : Source} {m : Member} {a : Answer} {x : Float} → Yields c m a → a ≡ Ok (answer.Decimal x) → (kind_in c m ≡ 6) × (decimal_of (value_text c m) ≡ Ok x)
decimal_by (integer k) e = let z : ◌≡◌ {A = ℕ} 0 1 = cc in absurd (omega arith)
decimal_by (boolean k) e = let z : ◌≡◌ {A = ℕ} 0 1 = cc in absurd (omega arith)
decimal_by (double k h) e = (k, cc)
decimal_by (long_double k h) e = let z : ◌≡◌ {A = ℕ} 0 1 = cc in absurd (omega arith)
decimal_by (string k) e = let z : ◌≡◌ {A = ℕ} 0 1 = cc in absurd (omega arith)
decimal_by (datetime k) e = let z : ◌≡◌ {A = ℕ} 0 1 = cc in absurd (omega arith)
decimal_by (binary k) e = let z : ◌≡◌ {A = ℕ} 0 1 = cc in absurd (omega arith)
decimal_by (array k) e = let z : ◌≡◌ {A = ℕ} 0 1 = cc in absurd (omega arith)
decimal_by (struct k) e = let z : ◌≡◌ {A = ℕ} 0 1 = cc in absurd (omega arith)
decimal_by (other k) e = let z : ◌≡◌ {A = ℕ} 0 1 = cc in absurd (omega arith)

module _ (c : Source) (w : Words c.table) (key : List ℕ) where
  -- the number of a lookup, and why
  data Numbered (n : ℕ) : Type 0 where
    unwritable : n ≡ 11 → is_writable c ≡ false → Numbered n
    missing : n ≡ 18 → is_writable c ≡ true → Without c key → Numbered n
    long : n ≡ 19 → is_writable c ≡ true → LongDouble c key → Numbered n
    fine : n ≡ 0 → is_writable c ≡ true → (m : Member) → Has c key m → Numbered n

  numbered : Numbered (told (looked c key))
  numbered = go (is_writable c) refl
    where
      member : is_writable c ≡ true → (m : Member) → Has c key m
          → (told (looked c key) ≡ 0) ⊎ ((told (looked c key) ≡ 19) × (kind_in c m ≡ 6) × (held (value_text c m) ≡ false)) → Numbered (told (looked c key))
      member e m h (inl z) = fine z e m h
      member e m h (inr (z, k, l)) = long z e (record { text = value_text c m; double = record { member = m; has = h; kind = k; text = refl }; long = l })

      by : (e : is_writable c ≡ true) → Sought c e w key → Numbered (told (looked c key))
      by e (there m h y) = member e m h (yields_told y)
      by e (nowhere n f) = missing (ap told f) e n

      go : (b : Bool) → is_writable c ≡ b → Numbered (told (looked c key))
      go true e = by e (sought c e w key)
      go false e = unwritable (ap told (unwritable_first c.table c.rows c.text c.row key e)) e

  -- 11 exactly for an unwritable table
  pub eleven : (told (looked c key) ≡ 11) ↔ (is_writable c ≡ false)
  eleven = (λ h. to h numbered, λ e. ap told (unwritable_first c.table c.rows c.text c.row key e))
    where
      to : told (looked c key) ≡ 11 → Numbered (told (looked c key)) → is_writable c ≡ false
      to h (unwritable z e) = e
      to h (missing z e n) = absurd (omega arith)
      to h (long z e l) = absurd (omega arith)
      to h (fine z e m i) = absurd (omega arith)

  -- 18 exactly if the table is writable and its row is no Struct's or no member has the key
  pub eighteen : (told (looked c key) ≡ 18) ↔ ((is_writable c ≡ true) × Missing c key)
  eighteen = (λ h. to h numbered, λ (e, n). from e (missing_without c key n) numbered)
    where
      to : told (looked c key) ≡ 18 → Numbered (told (looked c key)) → (is_writable c ≡ true) × Missing c key
      to h (unwritable z e) = absurd (omega arith)
      to h (missing z e n) = (e, absent n)
      to h (long z e l) = absurd (omega arith)
      to h (fine z e m i) = absurd (omega arith)

      from : is_writable c ≡ true → Without c key → Numbered (told (looked c key)) → told (looked c key) ≡ 18
      from e n (unwritable z f) = clash e f
      from e n (missing z f i) = z
      from e n (long z f l) = absurd (n l.double.member l.double.has)
      from e n (fine z f m i) = absurd (n m i)

  pub long_answers : is_writable c ≡ true → LongDouble c key → looked c key ≡ Err why.TooManyDigits
  long_answers e l =
      let d = l.double in
      double_answers c e w key d.has d.kind ∙ rw d.text (long_nineteen l.text l.long)

  -- 19 exactly if the table is writable and the member with the key is a Double with too many digits
  pub nineteen : (told (looked c key) ≡ 19) ↔ ((is_writable c ≡ true) × LongDouble c key)
  nineteen = (λ h. to h numbered, λ (e, l). ap told (long_answers e l))
    where
      to : told (looked c key) ≡ 19 → Numbered (told (looked c key)) → (is_writable c ≡ true) × LongDouble c key
      to h (unwritable z e) = absurd (omega arith)
      to h (missing z e n) = absurd (omega arith)
      to h (long z e l) = (e, l)
      to h (fine z e m i) = absurd (omega arith)

  -- a decimal exactly if the table is writable and the member with the key is a Double of that decimal
  pub decimal_exactly : {x : Float} → (looked c key ≡ Ok (answer.Decimal x)) ↔ ((is_writable c ≡ true) × DoubleOf c key x)
  decimal_exactly {x} = (λ h. to h (is_writable c) refl, λ (e, d). from e d)
    where
      to : looked c key ≡ Ok (answer.Decimal x) → (b : Bool) → is_writable c ≡ b → (is_writable c ≡ true) × DoubleOf c key x
      to h false e =
          let f : Err why.NotWritable ≡ Ok (answer.Decimal x) = sym (unwritable_first c.table c.rows c.text c.row key e) ∙ h in
          let z : ◌≡◌ {A = ℕ} 0 1 = cc in absurd (omega arith)
      to h true e = (e, by (sought c e w key))
        where
          by : Sought c e w key → DoubleOf c key x
          by (there m i y) =
              let g = decimal_by y h in
              record { text = value_text c m; double = record { member = m; has = i; kind = g.0; text = refl }; value = g.1 }
          by (nowhere n f) = let g : Err why.NoMember ≡ Ok (answer.Decimal x) = sym f ∙ h in let z : ◌≡◌ {A = ℕ} 0 1 = cc in absurd (omega arith)

      from : is_writable c ≡ true → DoubleOf c key x → looked c key ≡ Ok (answer.Decimal x)
      from e d = double_answers c e w key d.double.has d.double.kind ∙ rw (d.double.text, d.value)
