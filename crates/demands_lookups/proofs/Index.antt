-- Document 02's index of members: what `binmode_index_fill` and `binmode_index_find` promise (`Filling.Filled`, `Through.reports_of`) is an entry for each
-- member in byte order of the keys, and through it what E5's lookup gives; through any other list, that or 18. Assumes nothing.
use mathlib.Core.Path.{◌≡◌, refl, sym, ap, ◌∙◌}
use mathlib.Core.Bool.{Bool, true, false, cond, ◌||◌}
use mathlib.Core.Logic.{◌↔◌}
use mathlib.Core.List.{List, []}
use Prim.Native.Nat.{ℕ, ◌+◌, ◌^◌, ◌≤◌, ◌<◌}
use native.Mathlib.Omega.{arith}
use lib.Dec.{ltb}
use lib.ListN.{length, get_or}
use borrow.Author.Tests.{le-ltb, lt-ltb, ltb-true, ltb-false}
use Rattle.draft.specs.declared.Row.{Row}
use Rattle.draft.specs.Read.{text_of}
use Rattle.draft.specs.Table.{room_of, row_at}
use Rattle.draft.specs.Writable.{writable}
use Rattle.draft.specs.Written.{rows_of}
use Rattle.exact.proofs.Realising.{counts}
use Rattle.written.proofs.Concluding.{rows_length}
use Rattle.member.specs.declared.Member.{Member}
use Rattle.member.specs.Members.{is_struct, members, is_among}
use Rattle.member.proofs.Apart.{Apart, apart_half}
use Rattle.order.specs.ByteOrder.{compared}
use Rattle.std.proofs.Common.{Less}
use Rattle.order.proofs.Ordering.{compared_self, before_equal}
use Rattle.lookup_answer.specs.declared.Report.{Report}
use Rattle.lookup_answer.specs.Answers.{lookup}
use Rattle.lookup_answer.specs.Reports.{report_of}
use Rattle.shape.proofs.Judged.{rows_stated, room_most}
use Rattle.seeking.specs.Seeking.{unused}
use Rattle.index.specs.Filling.{refusal_in, refusal_of, order_of, entries, Filled}
use Rattle.index_search.specs.Through.{through_if, through, key_at, reports_of, judgement}
use Rattle.defaults.specs.Defaults.{Source, row_in, is_writable}
use Rattle.index_search.proofs.Theorems as index
use Rattle.meant.proofs.Saying.{standing}
use Rattle.meant.proofs.Only.{members_stand}
use Rattle.demands_writing.proofs.Writing.{Words, form_derived, judged}
use Rattle.demands_lookups.specs.Asked.{told, its_members, NoStruct}
use Rattle.demands_lookups.specs.Through.{Fills, looked_through, Names, Free, as_front, no_member}
use Rattle.demands_lookups.specs.Spelled.{BytesBefore}
use Rattle.demands_lookups.proofs.Lookups.{distinct_members}
use Rattle.demands_lookups.proofs.Spelled.{bytes_before}
use Rattle.demands_lookups.proofs.Refusals.{has_by, eleven}

-- REFUSED. Whatever was refused, all entries are unused: (0, 0).
pub refused_unused :
    {T s : List ℕ} {rows r n answer : ℕ} {es : List Member} → Filled T rows s r n answer es → (answer ≡ 0 → ⊥) → (i : ℕ) → i < n → get_or es i unused ≡ unused
refused_unused {T} {s} {rows} {r} {n} f e i h =
    let g : order_of T rows s r n ≡ [] = index.refused_none T rows s r n (λ z. e (f.answers ∙ z)) in
    rw (f.list, g) (index.entries_past [] n i h (omega arith))

-- A WRITABLE TABLE, with a Struct's row or another.
module _ (T : List ℕ) (rows : ℕ) (s : List ℕ) (e : writable T rows s ≡ true) (w : Words T) (r : ℕ) where
  -- its rows by their numbers
  abbrev row : ℕ → Row
  row = row_at (room_of 4096 (length T)) T

  -- the Struct's members, in the table's order
  abbrev its : List Member
  its = members row rows r

  within : rows ≤ room_of 4096 (length T)
  within = rows_stated T rows s {b = true} (sym e) refl refl

  most : rows ≤ 4096
  most = omega (arith, within, room_most T rows s {b = true} (sym e) refl {room = room_of 4096 (length T)} refl)

  stand : Apart rows (r + 1) its
  unfolding rows_of
  stand =
      let g = form_derived 32 T rows s (sym (judged T rows s) ∙ e) w in
      members_stand row s (standing row s rows g.meaning) rows (sym (counts g.meaning) ∙ rows_length 4096 T rows) g.derived r

  sound : index.Sound T rows s r
  sound = record { writes = e; first = r + 1; low = omega arith; apart = stand; distinct = distinct_members T rows s e w r; most = most; within = within }

  -- FEW. No Struct of a writable table has more than 2,047 members,
  pub few_members : length its ≤ 2047
  few_members = apart_half stand (omega arith) most

  -- so filling is refused as document 02 says: 18 for a row that is no Struct, then 21 for a list shorter than the member count.
  pub fill_answers : (n : ℕ) → refusal_of T rows s r n ≡ cond (is_struct row rows r) (cond (ltb n (length its)) 21 0) 18
  unfolding refusal_of refusal_in
  fill_answers n = rw (e, le-ltb 2047 (length its) few_members) (go (ltb n (length its)))
    where
      go : (b : Bool) → ◌≡◌ {A = ℕ} (cond (is_struct row rows r) (cond (b || false) 21 0) 18) (cond (is_struct row rows r) (cond b 21 0) 18)
      go true = refl
      go false = refl

  -- FILLED. Of a list that filling made, with 0:
  module _ {n : ℕ} {es : List Member} (f : Filled T rows s r n 0 es) where
    so : index.Accepted T rows s r n
    so = index.accepted_so T rows s r n (sym f.answers)

    is : es ≡ entries (index.its_order T rows s r) n
    is = f.list ∙ ap (λ (ks : List ℕ). entries ks n) so.order

    -- there are as many entries as were lent, and one for each member at least;
    pub filled_length : length es ≡ n
    filled_length = rw is (index.entries_length (index.its_order T rows s r) n)

    pub filled_room : length its ≤ n
    filled_room = so.room

    -- the first name members of the Struct, by their two rows,
    pub filled_members : (i : ℕ) → i < length its → is_among (get_or es i unused) its ≡ true
    filled_members i h = rw is (index.entry_member (room_of 4096 (length T)) row rows s its stand (omega arith) most within n i (omega (arith, filled_room)) h)

    -- each member is named,
    pub filled_all : (m : Member) → is_among m its ≡ true → (i : ℕ) × (i < length its) × (get_or es i unused ≡ m)
    filled_all m h = rw is (index.member_placed (room_of 4096 (length T)) row rows s its stand (omega arith) most within n filled_room m h)

    -- IN BYTE ORDER: the key of each is before the key of every later one, so none is named twice;
    pub filled_sorted : (i j : ℕ) → i < j → j < length its → compared (text_of s (row (get_or es i unused).key)) (text_of s (row (get_or es j unused).key)) ≡ Less
    filled_sorted i j h l =
        let c = index.sorted_count (room_of 4096 (length T)) row rows s its stand (omega arith) most within in
        rw (
          is,
          index.entry_used (room_of 4096 (length T)) row rows s its stand (omega arith) most within n i (omega (arith, filled_room)) (omega (arith, c)),
          index.entry_used (room_of 4096 (length T)) row rows s its stand (omega arith) most within n j (omega (arith, filled_room)) (omega (arith, c)),
        )
        (index.entries_ascend (room_of 4096 (length T)) row rows s its stand (omega arith) most within n (distinct_members T rows s e w r) i j h (omega (arith, c)))

    pub filled_before : (i j : ℕ) → i < j → j < length its → BytesBefore (text_of s (row (get_or es i unused).key)) (text_of s (row (get_or es j unused).key))
    filled_before i j h l = bytes_before _ _ (filled_sorted i j h l)

    pub filled_once : (i j : ℕ) → i < j → j < length its → get_or es i unused ≡ get_or es j unused → ⊥
    filled_once i j h l g = before_equal (rw g at (filled_sorted i j h l)) (compared_self (text_of s (row (get_or es j unused).key)))

    -- and the rest are unused.
    pub filled_rest : (i : ℕ) → length its ≤ i → i < n → get_or es i unused ≡ unused
    filled_rest i h l =
        rw is (index.entries_past (index.its_order T rows s r) n i l (omega (arith, index.sorted_count (room_of 4096 (length T)) row rows s its stand (omega arith) most within)))

    -- EVERY KEY, present or not, is answered through it as by the lookup from the front, decimals and refusals included.
    pub filled_finds : n < 2 ^ 64 → (key : List ℕ) → through T rows s r es key ≡ lookup T rows s r key
    filled_finds h key = rw is (index.through_index T rows s r sound key n filled_room (omega arith))

-- SEVERAL KEYS in one call: as many reports as were lent room for, each that of a single lookup of its key.
module _ (T : List ℕ) (rows : ℕ) (s : List ℕ) (r : ℕ) (es : List Member) (keys ends : List ℕ) (n : ℕ) where
  pub reports_length : length (reports_of T rows s r es keys ends n) ≡ n
  unfolding reports_of
  reports_length = index.from_length (λ i. report_of (through T rows s r es (key_at keys ends i))) 0 n

  pub each_key : (i : ℕ) (d : Report) → i < n → get_or (reports_of T rows s r es keys ends n) i d ≡ report_of (through T rows s r es (key_at keys ends i))
  unfolding reports_of
  each_key i d h = let z : 0 + i ≡ i = omega arith in index.get_d_from (λ j. report_of (through T rows s r es (key_at keys ends j))) 0 n i d h ∙ rw z

-- ---- of a source

-- what a call with several keys returns
pub find_returns :
    (c : Source) → (is_writable c ≡ true → judgement c.table c.rows c.text ≡ 0) × (is_writable c ≡ false → judgement c.table c.rows c.text ≡ 11)
unfolding judgement
find_returns c = (λ e. rw e, λ e. rw e)

-- the number of filling, by three tests: 11 before 18, 18 before 21
abbrev number : Bool → Bool → Bool → ℕ
number a b d = cond a (cond b (cond d 21 0) 18) 11

when_eleven : (a b d : Bool) → number a b d ≡ 11 → a ≡ false
when_eleven false b d h = refl
when_eleven true false d h = absurd (omega arith)
when_eleven true true true h = absurd (omega arith)
when_eleven true true false h = absurd (omega arith)

when_eighteen : (a b d : Bool) → number a b d ≡ 18 → (a ≡ true) × (b ≡ false)
when_eighteen false b d h = absurd (omega arith)
when_eighteen true false d h = (refl, refl)
when_eighteen true true true h = absurd (omega arith)
when_eighteen true true false h = absurd (omega arith)

when_short : (a b d : Bool) → number a b d ≡ 21 → (a ≡ true) × (b ≡ true) × (d ≡ true)
when_short false b d h = absurd (omega arith)
when_short true false d h = absurd (omega arith)
when_short true true true h = (refl, refl, refl)
when_short true true false h = absurd (omega arith)

when_filled : (a b d : Bool) → number a b d ≡ 0 → (a ≡ true) × (b ≡ true) × (d ≡ false)
when_filled false b d h = absurd (omega arith)
when_filled true false d h = absurd (omega arith)
when_filled true true true h = absurd (omega arith)
when_filled true true false h = (refl, refl, refl)

module _ (c : Source) (w : Words c.table) where
  module _ {n answer : ℕ} {es : List Member} (f : Fills c n answer es) where
    abbrev short : Bool
    short = ltb n (length (its_members c))

    -- the answer, by three tests
    fill_number : answer ≡ number (is_writable c) (is_struct (row_in c) c.rows c.row) short
    unfolding refusal_of
    fill_number = f.answers ∙ go (is_writable c) refl
      where
        go : (b : Bool) → is_writable c ≡ b
            → refusal_of c.table c.rows c.text c.row n ≡ number b (is_struct (row_in c) c.rows c.row) short
        go true e = fill_answers c.table c.rows c.text e w c.row n
        go false e = rw e

    pub fill_eleven : (answer ≡ 11) ↔ (is_writable c ≡ false)
    fill_eleven = (λ h. when_eleven (is_writable c) (is_struct (row_in c) c.rows c.row) short (sym fill_number ∙ h), λ e. fill_number ∙ rw e)

    pub fill_eighteen : (answer ≡ 18) ↔ ((is_writable c ≡ true) × NoStruct c)
    fill_eighteen = (λ h. when_eighteen (is_writable c) (is_struct (row_in c) c.rows c.row) short (sym fill_number ∙ h), λ (e, i). fill_number ∙ rw (e, i))

    pub fill_short : (answer ≡ 21) ↔ ((is_writable c ≡ true) × (is_struct (row_in c) c.rows c.row ≡ true) × (n < length (its_members c)))
    fill_short = (
      λ h. let i = when_short (is_writable c) (is_struct (row_in c) c.rows c.row) short (sym fill_number ∙ h) in (i.0, i.1, ltb-true n (length (its_members c)) i.2),
      λ (e, i, h). fill_number ∙ rw (e, i, lt-ltb n (length (its_members c)) h),
    )

    pub fill_none : (answer ≡ 0) ↔ ((is_writable c ≡ true) × (is_struct (row_in c) c.rows c.row ≡ true) × (length (its_members c) ≤ n))
    fill_none = (
      λ h. let i = when_filled (is_writable c) (is_struct (row_in c) c.rows c.row) short (sym fill_number ∙ h) in (i.0, i.1, ltb-false n (length (its_members c)) i.2),
      λ (e, i, h). fill_number ∙ rw (e, i, le-ltb n (length (its_members c)) h),
    )

  -- THROUGH ANY LIST: the property of the free result
  pub free : is_writable c ≡ true → (es : List Member) (key : List ℕ) → Free c es key (looked_through c es key)
  free e es key = go (index.through_any c.table c.rows c.text c.row (sound c.table c.rows c.text e w c.row) key es)
    where
      go : index.Answered c.table c.rows c.text c.row (sound c.table c.rows c.text e w c.row) key es (looked_through c es key)
          → Free c es key (looked_through c es key)
      go (index.as_front i h f g) = as_front (record { at = i; inside = h; has = has_by c key f }) g
      go (index.no_member g) = no_member (ap told g)

  -- so 18 if no entry names the key's two rows
  pub not_named : is_writable c ≡ true → (es : List Member) (key : List ℕ) → (Names c es key → ⊥) → told (looked_through c es key) ≡ 18
  not_named e es key n = go (free e es key)
    where
      go : Free c es key (looked_through c es key) → told (looked_through c es key) ≡ 18
      go (as_front i g) = absurd (n i)
      go (no_member g) = g

  -- and 11 exactly for an unwritable table
  pub through_eleven : (es : List Member) (key : List ℕ) → (told (looked_through c es key) ≡ 11) ↔ (is_writable c ≡ false)
  unfolding through through_if
  through_eleven es key = (λ h. go h (is_writable c) refl, λ e. rw e)
    where
      go : told (looked_through c es key) ≡ 11 → (b : Bool) → is_writable c ≡ b → is_writable c ≡ false
      go h false e = e
      go h true e = by (free e es key)
        where
          by : Free c es key (looked_through c es key) → is_writable c ≡ false
          by (as_front i g) = (eleven c w key).0 (sym (ap told g) ∙ h)
          by (no_member g) = absurd (omega arith)
