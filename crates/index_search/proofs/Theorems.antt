-- What an index is, and what is found through a list. The members stand one behind the other and have distinct keys, as those of every writable
-- table do (crate `meant`). Assumes nothing.
use mathlib.Core.Path.{◌≡◌, refl, sym, ap, ◌∙◌}
use mathlib.Core.Bool.{Bool, true, false, cond, ◌&&◌, ◌||◌}
use mathlib.Core.List.{List, []}
use Prim.Native.Nat.{ℕ, zero, suc, ◌+◌, ◌≤◌, ◌<◌}
use native.Mathlib.Omega.{arith}
use lib.Dec.{ltb}
use lib.ListN.{length, get_or}
use borrow.Author.Tests.{ne_eqb, lt-ltb, ltb-true, ltb-false}
use Rattle.std.specs.Prelude.{Some, None, Err}
use Rattle.draft.specs.declared.Row.{Row}
use Rattle.draft.specs.Table.{room_of, row_at, from}
use Rattle.draft.specs.Read.{text_of}
use Rattle.draft.specs.Writable.{writable}
use Rattle.member.specs.declared.Member.{Member}
use Rattle.member.specs.Members.{member_of, is_struct, members, find, is_among}
use Rattle.member.proofs.Apart.{Apart}
use Rattle.std.proofs.Common.{Ordering, Less, Equal, Greater}
use Rattle.order.specs.ByteOrder.{compared}
use Rattle.order.proofs.Ordering.{Earlier, turned, compared_self, compared_equal, compared_turned, after_less, less_le, le_less, before_after, equal_after}
use Rattle.lookup_answer.specs.declared.Refusal.TheVariants.{NoMember}
use Rattle.lookup_answer.specs.Answers.{Answer, answer_at, found_answer, look, lookup}
use Rattle.seeking.specs.Seeking.{over, begun, unused, searched}
use Rattle.seeking.proofs.Finding.{Outcome, nothing, found, any_list, InOrder, Sought, none, hit, in_order_finds}
use Rattle.sorting.specs.Sorting.{key_text, sorted, Rising}
use Rattle.sorting.proofs.Inserting.{before_not, sorted_rising, sorted_length, times, times_sorted, Stands, stands, times_at}
use Rattle.index.specs.Filling.{key_rows, refusal_in, order_in, refusal_of, order_of, entry_of, entries}
use Rattle.index.proofs.Arranging.{rows_length}
use Rattle.index.proofs.Storing.{get_d_past, entry_here}
use Rattle.index_search.specs.Through.{relation_to, is_member, found_row, row_answer, through_if, through}
use Rattle.index_search.proofs.Members.{KeyRow, key_row, of_key_row, apart_once, once_apart, Distinct, same_row, found_at, found_none}

-- ---- entries

pub get_d_from : {A : Type 0} (f : ℕ → A) (r n i : ℕ) (d : A) → i < n → get_or (from f r n) i d ≡ f (r + i)
unfolding from
get_d_from f r zero i d h = absurd (omega arith)
get_d_from f r (suc n) zero d h = let e : r + 0 ≡ r = omega arith in rw e
get_d_from f r (suc n) (suc i) d h = let e : suc r + i ≡ r + suc i = omega arith in get_d_from f (suc r) n i d (omega arith) ∙ rw e

pub from_length : {A : Type 0} (f : ℕ → A) (r n : ℕ) → length (from f r n) ≡ n
unfolding from
from_length f r zero = refl
from_length f r (suc n) = ap suc (from_length f (suc r) n)

pub entries_length : (ks : List ℕ) (n : ℕ) → length (entries ks n) ≡ n
unfolding entries
entries_length ks n = from_length (λ i. entry_of (get_or ks i 0)) 0 n

pub entries_at : (ks : List ℕ) (n i : ℕ) → i < n → get_or (entries ks n) i unused ≡ entry_of (get_or ks i 0)
unfolding entries
entries_at ks n i h = let e : 0 + i ≡ i = omega arith in get_d_from (λ j. entry_of (get_or ks j 0)) 0 n i unused h ∙ rw e

pub entries_past : (ks : List ℕ) (n i : ℕ) → i < n → length ks ≤ i → get_or (entries ks n) i unused ≡ unused
unfolding entry_of
entries_past ks n i h l = entries_at ks n i h ∙ rw (get_d_past ks i l)

-- ---- a table with room for so many rows

module _ (room : ℕ) (row : ℕ → Row) (rows : ℕ) (s : List ℕ) (ms : List Member) {first : ℕ} (apart : Apart rows first ms) (low : 1 ≤ first) (most : rows ≤ 4096) (within : rows ≤ room) where
  abbrev text : ℕ → List ℕ
  text = key_text room row s

  -- the key rows in order
  abbrev ks : List ℕ
  ks = sorted text (key_rows ms)

  is_text_lem : (k : ℕ) → k < room → text k ≡ text_of s (row k)
  unfolding key_text
  is_text_lem k h = rw (lt-ltb k room h)

  rises : Rising text ks
  rises = sorted_rising text (key_rows ms)

  kept : (k : ℕ) → times k ks ≡ times k (key_rows ms)
  unfolding times
  kept k = times_sorted text k (key_rows ms)

  pub sorted_count : length ks ≡ length ms
  sorted_count = sorted_length text (key_rows ms) ∙ rows_length ms

  known : (i : ℕ) → i < length ks → KeyRow rows ms (get_or ks i 0)
  known i h = key_row apart low (get_or ks i 0) (rw (kept (get_or ks i 0)) at (times_at ks i h))

  module _ (n : ℕ) where
    abbrev es : List Member
    es = entries ks n

    -- AN ENTRY for each member: entry i names key row i in order and the row behind it
    pub entry_used : (i : ℕ) → i < n → i < length ks → get_or es i unused ≡ member_of (get_or ks i 0) (get_or ks i 0 + 1)
    entry_used i h l =
        let w = known i l in
        entries_at ks n i h ∙ sym (entry_here (get_or ks i 0) (λ e. omega (arith, w.low)) (omega (arith, w.inside)))

    -- IN ORDER: no key is before the key of an earlier entry
    pub entries_rise : (i j : ℕ) → i ≤ j → j < length ks → Earlier (text_of s (row (get_or ks j 0))) (text_of s (row (get_or ks i 0))) → ⊥
    entries_rise i j h l e =
        let u = known i (omega arith) in
        let v = known j l in
        before_not text (get_or ks j 0) (get_or ks i 0) (rises.up i j h l) (rw (is_text_lem (get_or ks j 0) (omega (arith, v.inside)), is_text_lem (get_or ks i 0) (omega (arith, u.inside))) e)

    -- and none is the same: each key is before those of the later entries
    pub entries_ascend : Distinct row s ms → (i j : ℕ) → i < j → j < length ks → Earlier (text_of s (row (get_or ks i 0))) (text_of s (row (get_or ks j 0)))
    entries_ascend d i j h l = go (compared (text_of s (row (get_or ks i 0))) (text_of s (row (get_or ks j 0)))) refl
      where
        there : (x : ℕ) → x < length ks → 0 < times (get_or ks x 0) (key_rows ms)
        there x z = rw (kept (get_or ks x 0)) at (times_at ks x z)

        go : (c : Ordering) → compared (text_of s (row (get_or ks i 0))) (text_of s (row (get_or ks j 0))) ≡ c → c ≡ Less
        go Less e = refl
        go Equal e =
            absurd (once_apart ks (λ k. rw (kept k) (apart_once apart k)) i j h l
            (same_row row s ms d (get_or ks i 0) (get_or ks j 0) (there i (omega arith)) (there j l) (compared_equal _ _ e)))
        go Greater e = absurd (entries_rise i j (omega arith) l (after_less _ _ e))

    -- EACH MEMBER has its entry
    pub member_placed : length ms ≤ n → (m : Member) → is_among m ms ≡ true → (i : ℕ) × (i < length ms) × (get_or es i unused ≡ m)
    member_placed all m h =
        let u = of_key_row apart m h in
        let w = stands m.key ks (rw (kept m.key) u.there) in
        let l : w.place < length ms = omega (arith, w.inside, sorted_count) in
        (w.place, l, entry_used w.place (omega arith) w.inside ∙ ap (λ (k : ℕ). member_of k (k + 1)) w.is ∙ sym u.is)

    pub entry_member : (i : ℕ) → i < n → i < length ms → is_among (get_or es i unused) ms ≡ true
    entry_member i h l = let z : i < length ks = omega (arith, sorted_count) in rw (entry_used i h z) (known i z).among

    module _ (r : ℕ) (its : ms ≡ members row rows r) (key : List ℕ) where
      abbrev relation : Member → Ordering
      relation = relation_to room row s key

      abbrev named : Member → Bool
      named = is_member row rows r

      of : (i : ℕ) → List ℕ
      of i = text_of s (row (get_or ks i 0))

      used_is : (i : ℕ) → i < n → i < length ks → relation (get_or es i unused) ≡ compared (text_of s (row (get_or ks i 0))) key
      unfolding relation_to
      used_is i h l =
          let w = known i l in
          rw (entry_used i h l, ne_eqb (get_or ks i 0) 0 (λ e. omega (arith, w.low)), is_text_lem (get_or ks i 0) (omega (arith, w.inside)))

      past_is : (i : ℕ) → i < n → length ks ≤ i → relation (get_or es i unused) ≡ Greater
      unfolding relation_to
      past_is i h l = rw (entries_past ks n i h l)

      named_is : (i : ℕ) → i < n → i < length ks → named (get_or es i unused) ≡ true
      unfolding is_member
      named_is i h l = rw (entry_used i h l, ← its) (known i l).among

      -- whether an entry is a member's
      by : (i : ℕ) (P : Type 0) → (i < length ks → P) → (length ks ≤ i → P) → P
      by i P f g = go (ltb i (length ks)) refl
        where
          go : (b : Bool) → ltb i (length ks) ≡ b → P
          go true e = f (ltb-true i (length ks) e)
          go false e = g (ltb-false i (length ks) e)

      in_order : InOrder relation named es
      in_order = record { down = down; up = up; mine = mine }
        where
          bound : (j : ℕ) → j < length es → j < n
          bound j h = rw (entries_length ks n) at h

          down : (i j : ℕ) → i ≤ j → j < length es → relation (get_or es j unused) ≡ Less → relation (get_or es i unused) ≡ Less
          down i j h l e = by j _
              (λ a. used_is i (omega (arith, bound j l)) (omega arith)
              ∙ le_less (text_of s (row (get_or ks i 0))) (text_of s (row (get_or ks j 0))) key (entries_rise i j h a) (sym (used_is j (bound j l) a) ∙ e))
              (λ a. before_after e (past_is j (bound j l) a))

          up : (i j : ℕ) → i ≤ j → j < length es → relation (get_or es i unused) ≡ Greater → relation (get_or es j unused) ≡ Greater
          up i j h l e = by j _
              (λ a.
              let f : compared (text_of s (row (get_or ks i 0))) key ≡ Greater = sym (used_is i (omega (arith, bound j l)) (omega arith)) ∙ e in
              let g : Earlier key (text_of s (row (get_or ks j 0))) = less_le key (text_of s (row (get_or ks i 0))) (text_of s (row (get_or ks j 0))) (after_less (text_of s (row (get_or ks i 0))) key f) (entries_rise i j h a) in
              used_is j (bound j l) a ∙ compared_turned key (text_of s (row (get_or ks j 0))) ∙ ap turned g)
              (λ a. past_is j (bound j l) a)

          mine : (i : ℕ) → i < length es → relation (get_or es i unused) ≡ Equal → named (get_or es i unused) ≡ true
          mine i l e = by i _ (λ a. named_is i (bound i l) a) (λ a. equal_after e (past_is i (bound i l) a))

      -- a member stands among the entries, if there is room for all
      stood : (k : ℕ) → 0 < times k (key_rows ms) → Stands k ks
      stood k h = stands k ks (rw (kept k) h)

      -- what a row found answers
      abbrev row_found : ℕ → Answer
      row_found v = cond (ltb 0 v && ltb v rows) (answer_at row s v) (Err NoMember)

      row_found_lem : (k : ℕ) → k + 1 < rows → row_found (k + 1) ≡ answer_at row s (k + 1)
      row_found_lem k h = rw (lt-ltb 0 (k + 1) (omega arith), lt-ltb (k + 1) rows h)

      module _ (distinct : Distinct row s ms) (all : length ms ≤ n) where
        -- none stands equal: no member has the key
        none_finds : ((i : ℕ) → i < length es → relation (get_or es i unused) ≡ Equal → ⊥) → find row s key ms ≡ None
        none_finds f = found_none row s apart key absent
          where
            absent : (k : ℕ) → 0 < times k (key_rows ms) → text_of s (row k) ≡ key → ⊥
            absent k h i =
                let w = stood k h in
                let l : w.place < n = omega (arith, w.inside, all, sorted_count) in
                f w.place (rw (entries_length ks n) l)
                (used_is w.place l w.inside ∙ ap (λ (x : ℕ). compared (text_of s (row x)) key) w.is ∙ ap (λ (x : List ℕ). compared x key) i ∙ compared_self key)

        -- one does: it is the member with the key
        hit_finds : (i : ℕ) → i < n → relation (get_or es i unused) ≡ Equal → found_answer row s (find row s key ms) ≡ row_found (get_or es i unused).value
        hit_finds i h e = by i _
            (λ l.
            let k : ℕ = get_or ks i 0 in
            let u : text_of s (row k) ≡ key = compared_equal (text_of s (row k)) key (sym (used_is i h l) ∙ e) in
            let v : 0 < times k (key_rows ms) = rw (kept k) at (times_at ks i l) in
            rw (found_at row s apart key distinct k v u, entry_used i h l) (sym (row_found_lem k (known i l).inside)))
            (λ l. equal_after e (past_is i h l))

        -- WHAT THE SEARCH THROUGH THE INDEX FINDS is what the search from the front finds
        index_finds : n ≤ over → row_found (searched relation named es (length es) (begun true (length es))).value ≡ found_answer row s (find row s key ms)
        index_finds fits = go (in_order_finds relation named es in_order (rw (entries_length ks n) fits))
          where
            go : Sought relation named es (searched relation named es (length es) (begun true (length es)))
                → row_found (searched relation named es (length es) (begun true (length es))).value ≡ found_answer row s (find row s key ms)
            go (none f e) = rw (e, none_finds f)
            go (hit i l f e) = rw e (sym (hit_finds i (rw (entries_length ks n) at l) f))

  -- ANY LIST: what is found there is nothing, or what the search from the front finds, and then an entry names the key's two rows
  module _ (r : ℕ) (its : ms ≡ members row rows r) (key : List ℕ) (distinct : Distinct row s ms) (es : List Member) where
    pub data Through (v : ℕ) : Type 0 where
      nothing_there : v ≡ 0 → Through v
      named_there : (i : ℕ) → i < length es → find row s key ms ≡ Some (get_or es i unused) → v ≡ (get_or es i unused).value → v < rows → 0 < v → Through v

    entry_named : (e : Member) → relation_to room row s key e ≡ Equal → is_among e ms ≡ true → (find row s key ms ≡ Some e) × (e.value < rows) × (0 < e.value)
    unfolding relation_to
    entry_named e f a =
        let w = of_key_row apart e a in
        let u = key_row apart low e.key w.there in
        let c : compared (text_of s (row e.key)) key ≡ Equal = rw (ne_eqb e.key 0 (λ z. omega (arith, u.low)), is_text_lem e.key (omega (arith, u.inside))) at f in
        let v : e.value ≡ e.key + 1 = ap (λ (x : Member). x.value) w.is in
        (found_at row s apart key distinct e.key w.there (compared_equal _ key c) ∙ ap Some (sym w.is), omega (arith, u.inside), omega arith)

    any_finds : (wanted : Bool) → Through (searched (relation_to room row s key) (is_member row rows r) es (length es) (begun wanted (length es))).value
    unfolding is_member
    any_finds wanted = go (any_list (relation_to room row s key) (is_member row rows r) es wanted)
      where
        go : Outcome (relation_to room row s key) (is_member row rows r) es (searched (relation_to room row s key) (is_member row rows r) es (length es) (begun wanted (length es)))
            → Through (searched (relation_to room row s key) (is_member row rows r) es (length es) (begun wanted (length es))).value
        go (nothing e) = nothing_there e
        go (found i h f g e) = let w = entry_named (get_or es i unused) f (rw its g) in named_there i h w.0 e (rw e w.1) (rw e w.2)

-- ---- a table

module _ (T : List ℕ) (rows : ℕ) (s : List ℕ) (r : ℕ) where
  abbrev its_room : ℕ
  its_room = room_of 4096 (length T)

  abbrev its_row : ℕ → Row
  its_row = row_at its_room T

  abbrev pub its_members : List Member
  its_members = members its_row rows r

  abbrev pub its_order : List ℕ
  its_order = sorted (key_text its_room its_row s) (key_rows its_members)

  -- what the table's own rules give: it has room for its rows, and its members stand apart with distinct keys
  pub record Sound : Type 0 where
    pub writes : writable T rows s ≡ true
    pub first : ℕ
    pub low : 1 ≤ first
    pub apart : Apart rows first its_members
    pub distinct : Distinct its_row s its_members
    pub most : rows ≤ 4096
    pub within : rows ≤ its_room

  module _ (g : Sound) (key : List ℕ) where
    pub through_index : (n : ℕ) → length its_members ≤ n → n ≤ over → through T rows s r (entries its_order n) key ≡ lookup T rows s r key
    unfolding through through_if found_row row_answer lookup look
    through_index n all fits = rw g.writes (index_finds its_room its_row rows s its_members g.apart g.low g.most g.within n r refl key g.distinct all fits)

    pub data Answered (es : List Member) (a : Answer) : Type 0 where
      as_front : (i : ℕ) → i < length es → find its_row s key its_members ≡ Some (get_or es i unused) → a ≡ lookup T rows s r key → Answered es a
      no_member : a ≡ Err NoMember → Answered es a

    pub through_any : (es : List Member) → Answered es (through T rows s r es key)
    unfolding through through_if found_row row_answer lookup look
    through_any es = rw g.writes (go _ (any_finds its_room its_row rows s its_members g.apart g.low g.most g.within r refl key g.distinct es true))
      where
        go : (v : ℕ) → Through its_room its_row rows s its_members g.apart g.low g.most g.within r refl key g.distinct es v
            → Answered es (cond (ltb 0 v && ltb v rows) (answer_at its_row s v) (Err NoMember))
        go v (nothing_there e) = no_member (rw e)
        go v (named_there i h f e l p) = as_front i h f (rw (lt-ltb 0 v p, lt-ltb v rows l, f, e, g.writes))

-- ---- refused, or not

module _ (T : List ℕ) (rows : ℕ) (s : List ℕ) (r n : ℕ) where
  pub refused_none : (refusal_of T rows s r n ≡ 0 → ⊥) → order_of T rows s r n ≡ []
  unfolding refusal_of order_of order_in
  refused_none f = go (writable T rows s) refl
    where
      go : (b : Bool) → writable T rows s ≡ b → cond b (order_in (its_room T rows s r) (its_row T rows s r) rows s r n) [] ≡ []
      go true e = let g : refusal_in (its_room T rows s r) (its_row T rows s r) rows s r n ≡ 0 → ⊥ = rw e at f in rw (ne_eqb _ 0 g)
      go false e = refl

  -- the table is writable, the row is a Struct's, and the list has room
  pub record Accepted : Type 0 where
    pub writes : writable T rows s ≡ true
    pub structs : is_struct (its_row T rows s r) rows r ≡ true
    pub room : length (its_members T rows s r) ≤ n
    pub order : order_of T rows s r n ≡ its_order T rows s r

  pub accepted_so : refusal_of T rows s r n ≡ 0 → Accepted
  unfolding refusal_of refusal_in order_of order_in
  accepted_so f = go (writable T rows s) refl (is_struct (its_row T rows s r) rows r) refl (ltb n (length (its_members T rows s r))) refl f
    where
      go : (b : Bool) → writable T rows s ≡ b → (c : Bool) → is_struct (its_row T rows s r) rows r ≡ c → (d : Bool) → ltb n (length (its_members T rows s r)) ≡ d
          → ◌≡◌ {A = ℕ} (cond b (cond c (cond (d || ltb 2047 (length (its_members T rows s r))) 21 0) 18) 11) 0 → Accepted
      go false e c g d h f = absurd (omega arith)
      go true e false g d h f = absurd (omega arith)
      go true e true g true h f = absurd (omega arith)
      go true e true g false h f = record {
        writes = e;
        structs = g;
        room = ltb-false n (length (its_members T rows s r)) h;
        order = rw (e, g, h, f);
      }
