-- What a walk over rows accepts has a meaning that the grammar derives, whichever way its strings are sent: one law for each combinator of
-- walking, then one for each production. Assumes nothing.
use mathlib.Core.Path.{◌≡◌, refl, sym, ap, ◌∙◌}
use mathlib.Core.Bool.{true, false}
use mathlib.Core.List.{List, [], ◌∷◌, ◌++◌, append-nil}
use Prim.Native.Nat.{ℕ, zero, suc, ◌+◌, ◌-◌, ◌≤◌, ◌<◌, ◌%◌}
use native.Mathlib.Omega.{arith}
use lib.Dec.{eqb, leb, ltb}
use lib.ListN.{length, length-append}
use borrow.Author.Tests.{eqb-true, leb-true}
use Rattle.std.proofs.Common.{Option, Some}
use Rattle.draft.specs.declared.Row.{Row}
use Rattle.draft.specs.Verdict.{Verdict}
use Rattle.std.specs.Prelude.{Ok}
use Rattle.draft.specs.declared.Content.{Content as ContentOf}
use Rattle.draft.specs.declared.Content.TheVariants as content
use Rattle.draft.specs.declared.Item.{Item}
use Rattle.draft.specs.declared.Item.TheVariants as item
use Rattle.draft.specs.Bytes.{part}
use Rattle.draft.specs.Rows.{below, kind_of, item_of}
use Rattle.draft.specs.Content.{name_rule, key_rule, fault_rule}
use Rattle.draft.specs.Table.{from}
use Rattle.draft.specs.Read.{Texts, text_of, held_rows}
use Rattle.draft.specs.Writable.{fit, Walk, pair as walk_pair, items, alike, nothing, leaf, over, holding as walk-holding, integer_item, boolean_item, sized, Nest, floor, under, content_item, counted as walk-counted, array_item, only, string as walk-string, string_by, member, keeping, other_item, struct_item, item as walk-item, value, nested, fault_struct, first, call_or_response}
use Rattle.draft.specs.Written.{lsb, counted, string_bytes}
use Rattle.draft.specs.Grammar.{holding, number, Cell, cell, content_cell, held_cells, Sent, regular, recorded, recalled, Keeps, value_response, fault_response, fault, Value, integer_value, boolean_value, double_value, datetime_value, array_value, struct_value, integer, boolean_true, boolean_false, double, datetime, binary, Array, array, Values, no_values, more_values, Struct, struct, Pairs, no_pairs, more_pairs, pair, String, regular_string, recorded_string, recalled_string, string_data}
use Rattle.draft.specs.Meaning.{has_number, has_content, says_holding, says_number, says_contents, Means, means}
use Rattle.exact.proofs.Standing.{long}
use Rattle.exact.proofs.Realising.{content_has}
use Rattle.exact.proofs.Deriving.{Production, Joins, OneString, one_string, OneBy, one_by, Member, a_member, OneBinary, one_binary, OtherBody, CallBody, FaultStruct, CallOrResponse, of_call, of_response, other_join, call_join, member_join, other_make, call_make, binary_make, string_make}
use Rattle.written.proofs.Sending.{text_in, texts, none_sent, first_sent, split}
use Rattle.written.proofs.Forming.{strings, form, HasKind, item_kind, strings_append, form_append}
use Rattle.written.proofs.Limiting.{lsb_is}
use Rattle.written.proofs.Standing.{Stands, stands_none, stands_more, stands_one, stands_append, held_under}
use Rattle.written.proofs.Tests.{unfit_until, fit_by, ruled_by, closed_by, content_by, over_by, holding_by, only_by, then_by, until_same}

-- whichever way the strings of the cells are sent, P derives their form
pub record Writes (P : Production) (cs : List Cell) : Type 0 where
  pub derives : (gs : List Sent) → texts gs ≡ strings cs → P (form cs gs) cs gs

writes_join : {P Q T : Production} (us vs : List Cell) → Joins P Q T → Writes P us → Writes Q vs → Writes T (us ++ vs)
writes_join {P} {Q} {T} us vs make p q =
    record {
      derives = λ gs e.
          let h = split (strings us) (strings vs) gs (e ∙ strings_append us vs) in
          rw (h.is, form_append us vs h.front h.back h.first)
          (make (form us h.front) (form vs h.back) us vs h.front h.back (p.derives h.front h.first) (q.derives h.back h.second));
    }

writes_as : {P Q : Production} {cs : List Cell} → ((xs : List ℕ) (fs : List Sent) → P xs cs fs → Q xs cs fs) → Writes P cs → Writes Q cs
writes_as make p = record { derives = λ gs e. make _ _ (p.derives gs e) }

-- items of one row
sent_string : {t : List ℕ} (f : Sent) → text_in f ≡ t → length t < 4294967296 → Keeps content.Text t → String (string_bytes f) t f
unfolding string_bytes counted lsb
sent_string (regular u) e h k = rw e (regular_string (string_data (lsb_is _ h) refl k))
sent_string (recorded p u) e h k = rw e (recorded_string (string_data (lsb_is _ h) refl k))
sent_string (recalled p u) e h k = rw e recalled_string

writes_string : {t : List ℕ} → length t < 4294967296 → Keeps content.Text t → Writes OneString (content_cell content.Text t ∷ [])
unfolding form strings
writes_string {t} h k =
    record {
      derives = λ gs e.
          let f = first_sent gs e in
          let n = none_sent f.left f.rest in
          rw (f.is, n, append-nil) (one_string (sent_string f.sent f.stands h k));
    }

writes_string_by :
    (rule : List ℕ → Verdict) {t : List ℕ} → length t < 4294967296 → Keeps content.Text t → rule t ≡ Ok tt → Writes (OneBy rule) (content_cell content.Text t ∷ [])
writes_string_by rule {t} h k n = writes_as (λ xs fs x. go xs fs x) (writes_string h k)
  where
    go : (xs : List ℕ) (fs : List Sent) → OneString xs (content_cell content.Text t ∷ []) fs → OneBy rule xs (content_cell content.Text t ∷ []) fs
    go xs fs (one_string x) = one_by x n

writes_binary : {t : List ℕ} → length t < 4294967296 → Keeps content.Binary t → Writes OneBinary (content_cell content.Binary t ∷ [])
unfolding form strings counted lsb item_of
writes_binary {t} h k = record { derives = λ gs e. rw (none_sent gs e, append-nil) (one_binary (binary (lsb_is _ h) refl k)) }

writes_double : {d : ℕ} {t : List ℕ} → length t ≤ 255 → Keeps content.Double t → Writes (Value d) (content_cell content.Double t ∷ [])
unfolding form strings item_of
writes_double {d} {t} h k = let z : length t % 256 ≡ length t = omega arith in record { derives = λ gs e. rw (none_sent gs e, append-nil) (double_value (double z k)) }

writes_datetime : {d : ℕ} {t : List ℕ} → length t ≤ 255 → Keeps content.DateTime t → Writes (Value d) (content_cell content.DateTime t ∷ [])
unfolding form strings item_of
writes_datetime {d} {t} h k = let z : length t % 256 ≡ length t = omega arith in record { derives = λ gs e. rw (none_sent gs e, append-nil) (datetime_value (datetime z k)) }

writes_integer : {d n : ℕ} → n < 4294967296 → Writes (Value d) (cell 4 0 (number n) ∷ [])
unfolding form strings item_of lsb
writes_integer h = record { derives = λ gs e. rw (none_sent gs e) (integer_value (integer (lsb_is _ h))) }

writes_boolean : {d : ℕ} (n : ℕ) → n ≤ 1 → Writes (Value d) (cell 5 0 (number n) ∷ [])
unfolding form strings item_of
writes_boolean zero h = record { derives = λ gs e. rw (none_sent gs e) (boolean_value boolean_false) }
writes_boolean (suc zero) h = record { derives = λ gs e. rw (none_sent gs e) (boolean_value boolean_true) }
writes_boolean (suc (suc n)) h = absurd (omega arith)

-- items over others
writes_values : {d : ℕ} → Writes (Values d zero) []
unfolding form strings
writes_values = record { derives = λ gs e. rw (none_sent gs e) no_values }

writes_pairs : {d : ℕ} {seen : Texts} → Writes (Pairs d seen zero) []
unfolding form strings
writes_pairs = record { derives = λ gs e. rw (none_sent gs e) no_pairs }

module _ {d n : ℕ} (h : n < 4294967296) {cs : List Cell} where
  writes_array : Writes (Values d n) cs → Writes (Array (suc d)) (cell 9 (length cs) (holding n) ∷ cs)
  unfolding form strings item_of lsb
  writes_array p = record { derives = λ gs e. array (lsb_is n h) (p.derives gs e) refl }

  writes_struct : Writes (Pairs d [] n) cs → Writes (Struct (suc d)) (cell 10 (length cs) (holding n) ∷ cs)
  unfolding form strings item_of lsb
  writes_struct p = record { derives = λ gs e. struct (lsb_is n h) (p.derives gs e) refl }

writes_other : {d : ℕ} {cs : List Cell} → Writes OtherBody cs → Writes (Value d) (cell 12 (length cs) (holding 2) ∷ cs)
unfolding form strings item_of
writes_other p = record { derives = λ gs e. other_make (p.derives gs e) }

writes_call : {d : ℕ} {cs : List Cell} → Writes (CallBody d) cs → Writes (CallOrResponse d) (cell 1 (length cs) (holding 2) ∷ cs)
unfolding form strings item_of
writes_call p = record { derives = λ gs e. of_call (call_make (p.derives gs e)) }

writes_response : {d : ℕ} {cs : List Cell} → Writes (Value d) cs → Writes (CallOrResponse d) (cell 2 (length cs) (holding 1) ∷ cs)
unfolding form strings item_of
writes_response p = record { derives = λ gs e. of_response (value_response (p.derives gs e) refl) }

writes_fault : {d : ℕ} {cs : List Cell} → Writes (FaultStruct d) cs → Writes (CallOrResponse d) (cell 3 (length cs) (holding 1) ∷ cs)
unfolding form strings item_of
writes_fault p = record { derives = λ gs e. let x = p.derives gs e in of_response (fault_response (fault x.0 x.1) refl) }

-- a Value by its kind
pub value_is :
    (row : ℕ → Row) (rows : ℕ) (s : List ℕ) (d r : ℕ)
    → value row rows s d r ≡ fit (ltb r rows) (walk-item row rows s (item_of (row r).kind) (nested row rows s d) (row r) r)
unfolding value nested
value_is row rows s zero r = refl
value_is row rows s (suc d) r = refl

-- the rows by their numbers, how many there are, and the text bytes
module _ (row : ℕ → Row) (rows : ℕ) (s : List ℕ) where
  -- a row's numbers are words of 32 bits, which four bytes hold
  abbrev pub Words : Type 0
  Words = (r : ℕ) → ((row r).a < 4294967296) × ((row r).b < 4294967296)

  -- a walk that was accepted, over rows with a meaning; and P derives it if they are such words
  pub record Walked (P : Production) (r to : ℕ) : Type 0 where
    pub cells : List Cell
    pub ends : to ≡ r + length cells
    pub stands : Stands row s r cells
    pub writes : Words → Writes P cells

  -- whatever f accepts, P derives
  record Sound (f : Walk) (P : Production) : Type 0 where
    walked : (r to : ℕ) → f r ≡ Some to → Walked P r to

  -- the same, where a row of kind k stands
  record SoundAt (k : ℕ) (f : Row → Walk) (P : Production) : Type 0 where
    walked : (r to : ℕ) → (row r).kind ≡ k → f (row r) r ≡ Some to → Walked P r to

  -- an item of one row
  one : {P : Production} {r to : ℕ} {c : Cell} → leaf (row r) r ≡ Some to → ((row r).end ≡ r + 1 → Means s r (row r) c) → (Words → Writes P (c ∷ [])) → Walked P r to
  one {r = r} {to} {c} e m w =
      let f = closed_by (row r) (Some (r + 1)) e in
      let i : r + 1 ≡ to = until_same f.1 in
      record { cells = c ∷ []; ends = sym i; stands = stands_one (m (f.0 ∙ sym i)); writes = w }

  -- content, in the row's own words
  content_at :
      (c : ContentOf) {P : Production} (r to : ℕ)
      →
      (length (text_of s (row r)) < 4294967296 → sized c (length (text_of s (row r))) ≡ true → Keeps c (text_of s (row r)) → Writes P
      (content_cell c (text_of s (row r)) ∷ []))
      → (row r).kind ≡ kind_of c → content_item s c (row r) r ≡ Some to → Walked P r to
  content_at c r to make k e =
      let x = row r in
      let g = content_by s c x r e in
      let l : x.b ≡ length (part s x.a x.b) = long s x.a x.b g.1 in
      one g.3 (λ z. means k (omega (arith, z)) (says_contents (rw k (content_has c)) g.1 refl))
      (λ w. make (omega (arith, l, (w r).1)) (sym (ap (sized c) l) ∙ g.0) g.2)

  content_sound :
      (c : ContentOf) (P : Production)
      → ((t : List ℕ) → length t < 4294967296 → sized c (length t) ≡ true → Keeps c t → Writes P (content_cell c t ∷ []))
      → SoundAt (kind_of c) (content_item s c) P
  content_sound c P make = record { walked = λ r to k e. content_at c r to (make (text_of s (row r))) k e }

  only_sound : (k : ℕ) {f : Row → Walk} {P : Production} → SoundAt k f P → Sound (only row rows s k f) P
  only_sound k {f} g = record { walked = λ r to e. let h = only_by row rows s k f e in g.walked r to h.0 h.1 }

  string_sound : Sound (walk-string row rows s) OneString
  unfolding walk-string
  string_sound = only_sound 11 (content_sound content.Text OneString (λ t h z k. writes_string h k))

  -- a String that keeps a rule: an Other's name, a Struct's key
  string_by_sound : (rule : List ℕ → Verdict) → Sound (string_by row rows s rule) (OneBy rule)
  unfolding string_by walk-string
  string_by_sound rule =
      record {
        walked = λ r to e.
            let f = then_by (walk-string row rows s r) _ e in
            let g = ruled_by (rule (text_of s (row r))) _ f.next in
            let h = only_by row rows s 11 (content_item s content.Text) (f.is ∙ g.1) in
            content_at content.Text r to (λ l z k. writes_string_by rule l k g.0) h.0 h.1;
      }

  -- one after the other
  joined : {P Q T : Production} {r middle to : ℕ} → Joins P Q T → Walked P r middle → Walked Q middle to → Walked T r to
  joined {r = r} {middle} {to} make g t =
      let e = g.ends in
      record {
        cells = g.cells ++ t.cells;
        ends = omega (arith, e, t.ends, length-append g.cells t.cells);
        stands = stands_append g.stands (rw e at t.stands);
        writes = λ w. writes_join g.cells t.cells make (g.writes w) (t.writes w);
      }

  pair_sound : {P Q : Production} (T : Production) {f g : Walk} → Joins P Q T → Sound f P → Sound g Q → Sound (walk_pair f g) T
  unfolding walk_pair
  pair_sound T {f} {g} make p q =
      record { walked = λ r to e. let h = then_by (f r) g e in joined make (p.walked r h.middle h.is) (q.walked h.middle to h.next) }

  -- an item's own row, over what it holds
  over_walked :
      {P Q : Production} (k b : ℕ) {r to : ℕ} {o : Option ℕ} → has_number k ≡ false → has_content k ≡ false → (row r).kind ≡ k → (row r).b ≡ b
      → over (row r) o ≡ Some to → (o ≡ Some to → Walked P (r + 1) to)
      → (Words → (cs : List Cell) → Writes P cs → Writes Q (cell k (length cs) (holding b) ∷ cs)) → Walked Q r to
  over_walked k b {r} {to} {o} h i j l e p make =
      let f = over_by (row r) o e in
      let g = p f.2 in
      let z : r + 1 ≡ suc r = omega arith in
      record {
        cells = cell k (length g.cells) (holding b) ∷ g.cells;
        ends = omega (arith, g.ends);
        stands = stands_more (means j (f.1 ∙ g.ends) (says_holding (rw j h) (rw j i) f.0 l)) (rw z at g.stands);
        writes = λ w. make w g.cells (g.writes w);
      }

  -- the same, of a settled number of things
  held_walked :
      {P Q : Production} (k b : ℕ) {f : Walk} {r to : ℕ} → has_number k ≡ false → has_content k ≡ false → (row r).kind ≡ k → Sound f P
      → ((cs : List Cell) → Writes P cs → Writes Q (cell k (length cs) (holding b) ∷ cs)) → walk-holding b (row r) (f (r + 1)) ≡ Some to → Walked Q r to
  held_walked k b {f} {r} {to} h i j p make e =
      let g = holding_by b (row r) (f (r + 1)) e in
      over_walked k b h i j g.0 g.1 (p.walked (r + 1) to) (λ w. make)

  -- n items, one after the other, behind those whose texts were seen
  record SoundOn (f : Texts → Walk) (more : Texts → ℕ → Texts) (n : ℕ) (seen : Texts) (Q : Production) : Type 0 where
    walked : (r to : ℕ) → items f more n seen r ≡ Some to → Walked Q r to

  no_items : {f : Texts → Walk} {more : Texts → ℕ → Texts} {seen : Texts} (Q : Production) → Writes Q [] → SoundOn f more zero seen Q
  unfolding items
  no_items Q w = record { walked = λ r to e. record { cells = []; ends = omega (arith, until_same e); stands = stands_none; writes = λ z. w } }

  -- what is derived, with the rows where it stands
  with_rows : {P : Production} {r to : ℕ} → Walked P r to → Walked (λ xs us fs. P xs us fs × Stands row s r us) r to
  with_rows g = record { cells = g.cells; ends = g.ends; stands = g.stands; writes = λ w. writes_as (λ xs fs x. (x, g.stands)) (g.writes w) }

  -- the first, and the others behind what is kept of it
  more_items :
      {P : Production} {Q : Texts → Production} (T : Production) {f : Texts → Walk} {more : Texts → ℕ → Texts} {n : ℕ} {seen : Texts}
      → ((r : ℕ) → Joins (λ xs us fs. P xs us fs × Stands row s r us) (Q (more seen r)) T) → Sound (f seen) P
      → ((seen' : Texts) → SoundOn f more n seen' (Q seen')) → SoundOn f more (suc n) seen T
  unfolding items
  more_items T {f} {more} {n} {seen} make p q =
      record {
        walked = λ r to e.
            let h = then_by (f seen r) _ e in
            joined (make r) (with_rows (p.walked r h.middle h.is)) ((q (more seen r)).walked h.middle to h.next);
      }

  counted_sound :
      (k : ℕ) {f : Texts → Walk} {more : Texts → ℕ → Texts} (P : ℕ → Production) (Q : Production) → has_number k ≡ false → has_content k ≡ false
      → ((n : ℕ) → SoundOn f more n [] (P n))
      → ((n : ℕ) → n < 4294967296 → (cs : List Cell) → Writes (P n) cs → Writes Q (cell k (length cs) (holding n) ∷ cs))
      → SoundAt k (walk-counted f more) Q
  counted_sound k P Q h i run make =
      record {
        walked = λ r to j e.
            over_walked {P = P (row r).b} {Q = Q} k (row r).b h i j refl e (λ z. (run (row r).b).walked (r + 1) to z) (λ w. make (row r).b (w r).1);
      }

  -- the productions
  binary_sound : SoundAt 8 (content_item s content.Binary) OneBinary
  binary_sound = content_sound content.Binary OneBinary (λ t h z k. writes_binary h k)

  other_sound : (d : ℕ) → SoundAt 12 (other_item row rows s) (Value d)
  unfolding has_number has_content
  other_sound d =
      record {
        walked = λ r to j e.
            held_walked {P = OtherBody} {Q = Value d} 12 2 refl refl j (pair_sound OtherBody other_join (string_by_sound name_rule) (only_sound 8 binary_sound)) (λ cs w. writes_other w) e;
      }

  alike_sound : (d : ℕ) → Sound (value row rows s d) (Value d) → (seen : Texts) → Sound (alike (value row rows s d) seen) (Value d)
  unfolding alike
  alike_sound d sound seen = sound

  values_sound : (d : ℕ) → Sound (value row rows s d) (Value d) → (n : ℕ) (seen : Texts) → SoundOn (alike (value row rows s d)) nothing n seen (Values d n)
  values_sound d sound zero seen = no_items (Values d zero) writes_values
  values_sound d sound (suc n) seen =
      more_items {Q = λ seen'. Values d n} (Values d (suc n)) (λ r xs ys us vs fs gs x y. more_values x.0 y refl refl refl) (alike_sound d sound seen)
      (values_sound d sound n)

  -- the key of a pair is the text of its first row
  more_pairs_by :
      {d n r : ℕ} {seen : Texts} {xs ys : List ℕ} {us vs : List Cell} {fs gs : List Sent} → Member d seen xs us fs → Stands row s r us
      → Pairs d (keeping row rows s seen r) n ys vs gs → Pairs d seen (suc n) (xs ++ ys) (us ++ vs) (fs ++ gs)
  unfolding keeping
  more_pairs_by (a_member (pair x v e) k) (stands_more (means h f (says_contents i j l)) t) y = more_pairs (pair x v e) k (rw l at y) refl refl refl

  member_sound : (d : ℕ) → Sound (value row rows s d) (Value d) → (seen : Texts) → Sound (member row rows s (value row rows s d) seen) (Member d seen)
  unfolding member
  member_sound d sound seen = pair_sound (Member d seen) member_join (string_by_sound (key_rule seen)) sound

  pairs_sound :
      (d : ℕ) → Sound (value row rows s d) (Value d) → (n : ℕ) (seen : Texts)
      → SoundOn (member row rows s (value row rows s d)) (keeping row rows s) n seen (Pairs d seen n)
  pairs_sound d sound zero seen = no_items (Pairs d seen zero) writes_pairs
  pairs_sound d sound (suc n) seen =
      more_items {Q = λ seen'. Pairs d seen' n} (Pairs d seen (suc n)) (λ r xs ys us vs fs gs x y. more_pairs_by x.0 x.1 y) (member_sound d sound seen)
      (pairs_sound d sound n)

  -- nothing nests at the floor
  array_floor : SoundAt 9 (array_item floor) (Array zero)
  array_floor = record { walked = λ r to j e. unfit_until e }

  struct_floor : SoundAt 10 (struct_item row rows s floor) (Struct zero)
  struct_floor = record { walked = λ r to j e. unfit_until e }

  array_under : (d : ℕ) → Sound (value row rows s d) (Value d) → SoundAt 9 (array_item (under (value row rows s d))) (Array (suc d))
  unfolding has_number has_content
  array_under d sound = counted_sound 9 (Values d) (Array (suc d)) refl refl (λ n. values_sound d sound n []) (λ n h cs w. writes_array h w)

  struct_under : (d : ℕ) → Sound (value row rows s d) (Value d) → SoundAt 10 (struct_item row rows s (under (value row rows s d))) (Struct (suc d))
  unfolding has_number has_content
  struct_under d sound = counted_sound 10 (Pairs d []) (Struct (suc d)) refl refl (λ n. pairs_sound d sound n []) (λ n h cs w. writes_struct h w)

  as_value : {P Q : Production} {r to : ℕ} → ((xs : List ℕ) (cs : List Cell) (fs : List Sent) → P xs cs fs → Q xs cs fs) → Walked P r to → Walked Q r to
  as_value make g = record { cells = g.cells; ends = g.ends; stands = g.stands; writes = λ w. writes_as (λ xs fs x. make xs g.cells fs x) (g.writes w) }

  integer_sound : (d : ℕ) → SoundAt 4 integer_item (Value d)
  unfolding has_number
  integer_sound d =
      record {
        walked = λ r to j e.
            let f = fit_by (eqb (row r).b 0) _ e in
            one f.1 (λ z. means j (omega (arith, z)) (says_number (rw j) refl (eqb-true _ _ f.0))) (λ w. writes_integer (w r).0);
      }

  boolean_sound : (d : ℕ) → SoundAt 5 boolean_item (Value d)
  unfolding has_number
  boolean_sound d =
      record {
        walked = λ r to j e.
            let f = fit_by (leb (row r).a 1) _ e in
            let g = fit_by (eqb (row r).b 0) _ f.1 in
            one g.1 (λ z. means j (omega (arith, z)) (says_number (rw j) refl (eqb-true _ _ g.0))) (λ w. writes_boolean (row r).a (leb-true _ _ f.0));
      }

  item_sound :
      (d : ℕ) (nest : Nest) → SoundAt 9 (array_item nest) (Array d) → SoundAt 10 (struct_item row rows s nest) (Struct d)
      → (r to : ℕ) (i : Item) → HasKind i (row r).kind → walk-item row rows s i nest (row r) r ≡ Some to → Walked (Value d) r to
  item_sound d nest p q r to item.Call j e = unfit_until e
  item_sound d nest p q r to item.Response j e = unfit_until e
  item_sound d nest p q r to item.Fault j e = unfit_until e
  item_sound d nest p q r to item.Integer j e = (integer_sound d).walked r to j e
  item_sound d nest p q r to item.Boolean j e = (boolean_sound d).walked r to j e
  item_sound d nest p q r to (item.Content content.Double) j e =
      (content_sound content.Double (Value d) (λ t h z k. writes_double (leb-true _ _ z) k)).walked r to j e
  item_sound d nest p q r to (item.Content content.DateTime) j e =
      (content_sound content.DateTime (Value d) (λ t h z k. writes_datetime (leb-true _ _ z) k)).walked r to j e
  item_sound d nest p q r to (item.Content content.Binary) j e = as_value (λ xs cs fs x. binary_make x) (binary_sound.walked r to j e)
  item_sound d nest p q r to (item.Content content.Text) j e =
      as_value (λ xs cs fs x. string_make x) ((content_sound content.Text OneString (λ t h z k. writes_string h k)).walked r to j e)
  item_sound d nest p q r to item.Array j e = as_value (λ xs cs fs x. array_value x) (p.walked r to j e)
  item_sound d nest p q r to item.Struct j e = as_value (λ xs cs fs x. struct_value x) (q.walked r to j e)
  item_sound d nest p q r to item.Other j e = (other_sound d).walked r to j e
  item_sound d nest p q r to item.Unknown j e = unfit_until e

  by_kind :
      (d : ℕ) → SoundAt 9 (array_item (nested row rows s d)) (Array d) → SoundAt 10 (struct_item row rows s (nested row rows s d)) (Struct d)
      → Sound (value row rows s d) (Value d)
  by_kind d p q =
      record {
        walked = λ r to e.
            let f = fit_by (ltb r rows) _ (sym (value_is row rows s d r) ∙ e) in
            item_sound d (nested row rows s d) p q r to (item_of (row r).kind) (item_kind (row r).kind) f.1;
      }

  value_sound : (d : ℕ) → Sound (value row rows s d) (Value d)
  unfolding nested
  value_sound zero = by_kind zero array_floor struct_floor
  value_sound (suc d) = by_kind (suc d) (array_under d (value_sound d)) (struct_under d (value_sound d))

  array_sound : (d : ℕ) → SoundAt 9 (array_item (nested row rows s d)) (Array d)
  unfolding nested
  array_sound zero = array_floor
  array_sound (suc d) = array_under d (value_sound d)

  struct_sound : (d : ℕ) → SoundAt 10 (struct_item row rows s (nested row rows s d)) (Struct d)
  unfolding nested
  struct_sound zero = struct_floor
  struct_sound (suc d) = struct_under d (value_sound d)

  fault_sound : (d : ℕ) → Sound (fault_struct row rows s d) (FaultStruct d)
  unfolding fault_struct
  fault_sound d =
      record {
        walked = λ r to e.
            let f = then_by (only row rows s 10 (struct_item row rows s (nested row rows s d)) r) _ e in
            let g = fit_by (leb f.middle rows) _ f.next in
            let h = ruled_by (fault_rule (held_rows s (from row (r + 1) (f.middle - (r + 1))))) _ g.1 in
            let i : f.middle ≡ to = until_same h.1 in
            let w = (only_sound 10 (struct_sound d)).walked r to (f.is ∙ h.1) in
            let z : f.middle ≡ r + length w.cells = i ∙ w.ends in
            let k : fault_rule (held_cells (below w.cells)) ≡ Ok tt = rw (z, held_under w.stands) at h.0 in
            record {
              cells = w.cells;
              ends = w.ends;
              stands = w.stands;
              writes = λ q. record { derives = λ gs j. ((w.writes q).derives gs j, k) };
            };
      }

  first_sound :
      (d r to : ℕ) (i : Item) → HasKind i (row r).kind → first row rows s i d (row r) r ≡ Some to → Walked (CallOrResponse d) r to
  unfolding has_number has_content
  first_sound d r to item.Call j e =
      held_walked {P = CallBody d} {Q = CallOrResponse d} 1 2 refl refl j (pair_sound (CallBody d) call_join string_sound (only_sound 9 (array_sound d))) (λ cs w. writes_call w) e
  first_sound d r to item.Response j e =
      held_walked {P = Value d} {Q = CallOrResponse d} 2 1 refl refl j (value_sound d) (λ cs w. writes_response w) e
  first_sound d r to item.Fault j e =
      held_walked {P = FaultStruct d} {Q = CallOrResponse d} 3 1 refl refl j (fault_sound d) (λ cs w. writes_fault w) e
  first_sound d r to item.Integer j e = unfit_until e
  first_sound d r to item.Boolean j e = unfit_until e
  first_sound d r to (item.Content c) j e = unfit_until e
  first_sound d r to item.Array j e = unfit_until e
  first_sound d r to item.Struct j e = unfit_until e
  first_sound d r to item.Other j e = unfit_until e
  first_sound d r to item.Unknown j e = unfit_until e

  -- what is walked is derived
  pub walked : (d r to : ℕ) → call_or_response row rows s d r ≡ Some to → Walked (CallOrResponse d) r to
  unfolding call_or_response
  walked d r to e =
      let f = fit_by (ltb r rows) _ e in
      first_sound d r to (item_of (row r).kind) (item_kind (row r).kind) f.1
