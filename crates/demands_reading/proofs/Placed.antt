-- At the place of every refusal of a message stands what its number says: one law for each combinator of reading. Assumes nothing.
use mathlib.Core.Path.{◌≡◌, refl, sym, ap, ◌∙◌}
use mathlib.Core.Bool.{Bool, true, false, cond}
use mathlib.Core.Logic.{◌≢◌}
use mathlib.Core.List.{List, [], ◌∷◌, ◌++◌}
use Prim.Native.Nat.{ℕ, zero, suc, ◌+◌, ◌≤◌, ◌<◌}
use Prim.Native.Char.{code}
use native.Mathlib.Omega.{arith}
use lib.Dec.{eqb, ltb, leb}
use lib.ListN.{length}
use borrow.Author.Tests.{ltb-true, ltb-false, leb-true, leb-false, eqb-true}
use Rattle.text.specs.Rfc3629.{UTF8-octets}
use Rattle.text.specs.Utf8.{well_formed}
use Rattle.text.specs.Texts.{ascii, among, standard_name}
use Rattle.text.proofs.Comparing.{clash}
use Rattle.text.proofs.Grammar.{accepted}
use Rattle.lexical.specs.Double.{is_double}
use Rattle.lexical.specs.DateTime.{is_date_time}
use Rattle.lexical.proofs.Doubles.{double_exactly}
use Rattle.lexical.proofs.DateTimes.{datetime_exactly}
use Rattle.draft.specs.declared.Refusal.{Refusal}
use Rattle.draft.specs.declared.Refusal.TheVariants.{Ended, WrongPrefix, UnexpectedByte, BadText, UnsetPosition, StandardName, TooDeep, NoRow, BadFault, BadValue, RepeatedKey}
use Rattle.draft.specs.Verdict.{Verdict}
use Rattle.std.specs.Prelude.{Ok, Err}
use Rattle.draft.specs.declared.Content.{Content}
use Rattle.draft.specs.declared.Content.TheVariants as content
use Rattle.draft.specs.declared.Tag.{Tag}
use Rattle.draft.specs.declared.Tag.TheVariants as tag
use Rattle.draft.specs.declared.Plain.{Plain}
use Rattle.draft.specs.declared.Plain.TheVariants as plain
use Rattle.draft.specs.declared.Form.{Form}
use Rattle.draft.specs.declared.Form.TheVariants.{Regular, Recorded, Recalled}
use Rattle.std.specs.Prelude.{Some, None}
use Rattle.draft.specs.declared.Span.{Span}
use Rattle.draft.specs.declared.Row.{Row}
use Rattle.draft.specs.Bytes.{byte_at, unsigned_at, part}
use Rattle.draft.specs.Rows.{row, below, kind_of}
use Rattle.draft.specs.Refusals.{number_of}
use Rattle.draft.specs.Content.{content_rule, fine_if, ascii_then, bad_if, all_there, verdict, name_rule, key_rule, Held, is_fault, fault_rule}
use Rattle.draft.specs.Codebook.{Entry, span, Book, clear, recorded as record-text}
use Rattle.draft.specs.Read.{Reading, got, refused, then, judged, Reader, behind, over, leaf, pair as read-pair, Texts, items, alike, nothing as kept-nothing, tag_of, Nest, floor, under, present, opened, contents as read-contents, long_item, recalled as recalledEntry, string_item, if_string, string as read-string, only, first_text, string_by, name, key, member, keeping, counted, array_item, struct_item, plain_item, item, value, nested, call_item, held_rows, fault_struct, response_item, call_or_response, prefix, agree, message}
use Rattle.wanting.specs.Want.{fields_of, announced, want_of}
use Rattle.wanting.proofs.Wanting.{want_fields, want_content}
use Rattle.exact.proofs.Standing.{part_here}
use Rattle.exact.proofs.Replaying.{agrees_clear}
use Rattle.exact.proofs.Realising.{held_below}
use Rattle.exact.proofs.Deriving.{refused_got, struct_sound}
use Rattle.demands_reading.specs.Members.{TwoMembers}
use Rattle.demands_reading.specs.Placed.{Begun, Whole, short_text, long_text, recorded_text, Sends, by_regular, by_recorded, by_recalled, Stands, short, nothing, cut, differs, unexpected, regular_bad, recorded_bad, double_bad, datetime_bad, unset, standard, deep_array, deep_struct, no_row, bad_fault, no_double, no_datetime, repeated_key}
use Rattle.demands_reading.proofs.Reading.{two_members}

-- what the codebook holds was recorded before a place
record Booked (s : List ℕ) (at : ℕ) (book : Book) : Type 0 where
  each :
      (p o n : ℕ) → book p ≡ Some (span o n)
      → (q : ℕ) × Whole s q (tag.String Recorded) × (q < at) × (byte_at s (q + 1) ≡ p) × (part s o n ≡ recorded_text s q)

abbrev Reached : List ℕ → ℕ → Book → Type 0
Reached s at book = (at ≤ length s) × Booked s at book

booked_clear : {s : List ℕ} {at : ℕ} → Booked s at clear
booked_clear = record { each = λ p o n e. let z : ◌≡◌ {A = ℕ} 0 1 = cc in absurd (omega (arith, z)) }

later : {s : List ℕ} {at to : ℕ} {book : Book} → at ≤ to → Booked s at book → Booked s to book
later h b = record { each = λ p o n e. let g = b.each p o n e in (g.0, g.1, omega (arith, h, g.2), g.3, g.4) }

booked_more :
    {s : List ℕ} {at to : ℕ} {book : Book} → at < to → Whole s at (tag.String Recorded) → Booked s at book
    → Booked s to (record-text book (byte_at s (at + 1)) (at + 6) (unsigned_at s (at + 2)))
unfolding record-text
booked_more {s} {at} {to} {book} h w b = record { each = λ p o n e. go p o n (eqb p (byte_at s (at + 1))) refl e }
  where
    go :
        (p o n : ℕ) (x : Bool) → eqb p (byte_at s (at + 1)) ≡ x → cond x (Some (span (at + 6) (unsigned_at s (at + 2)))) (book p) ≡ Some (span o n)
        → (q : ℕ) × Whole s q (tag.String Recorded) × (q < to) × (byte_at s (q + 1) ≡ p) × (part s o n ≡ recorded_text s q)
    go p o n true i e =
        let z : span (at + 6) (unsigned_at s (at + 2)) ≡ span o n = cc in
        let j : o ≡ at + 6 = ap (λ (y : Span). y.offset) (sym z) in
        let k : n ≡ unsigned_at s (at + 2) = ap (λ (y : Span). y.length) (sym z) in
        (at, w, h, sym (eqb-true p (byte_at s (at + 1)) i), rw (j, k) refl)
    go p o n false i e = let g = b.each p o n e in (g.0, g.1, omega (arith, h, g.2), g.3, g.4)

-- a reading that ends within the bytes, or that is refused where what its number says stands
data Tells (s : List ℕ) : Reading → Type 0 where
  ends : {rows : List Row} {to : ℕ} {book : Book} → Reached s to book → Tells s (got rows to book)
  says : {m : Refusal} {p : ℕ} → Stands s (number_of m) p → Tells s (refused m p)

said : {s : List ℕ} {o : Reading} → Tells s o → {m : Refusal} {p : ℕ} → o ≡ refused m p → Stands s (number_of m) p
said (ends h) e = refused_got (sym e)
said (says {m = n} {p = q} h) {m} {p} e = let i : n ≡ m = cc in let j : q ≡ p = cc in rw (i, j) at h

-- the rules, by what they refuse
fine_is : (b : Bool) (n : Refusal) {m : Refusal} → fine_if b n ≡ Err m → (b ≡ false) × (n ≡ m)
fine_is true n e = let z : ◌≡◌ {A = ℕ} 0 1 = cc in absurd (omega arith)
fine_is false n e = (refl, cc)

bad_is : (b : Bool) (n : Refusal) {m : Refusal} → bad_if b n ≡ Err m → n ≡ m
bad_is true n e = cc
bad_is false n e = let z : ◌≡◌ {A = ℕ} 0 1 = cc in absurd (omega arith)

name_is : (t : List ℕ) {m : Refusal} → name_rule t ≡ Err m → StandardName ≡ m
unfolding name_rule
name_is t e = bad_is (standard_name t) StandardName e

key_is : (seen : Texts) (t : List ℕ) {m : Refusal} → key_rule seen t ≡ Err m → RepeatedKey ≡ m
unfolding key_rule
key_is seen t e = bad_is (among seen t) RepeatedKey e

fault_is : (held : List Held) {m : Refusal} → fault_rule held ≡ Err m → BadFault ≡ m
unfolding fault_rule
fault_is held e = (fine_is (is_fault held) BadFault e).1

not_two : (held : List Held) {m : Refusal} → fault_rule held ≡ Err m → TwoMembers held → ⊥
not_two held e two = let f = (two_members held).1 two in let z : ◌≡◌ {A = ℕ} 0 1 = cc in omega (arith, z)

tag_binary : tag_of (code "B") ≡ tag.Plain plain.Binary
unfolding tag_of
tag_binary = refl

tag_array : tag_of (code "A") ≡ tag.Array
unfolding tag_of
tag_array = refl

tag_struct : tag_of (code "S") ≡ tag.Struct
unfolding tag_of
tag_struct = refl

not_fine : {v : Verdict} {m : Refusal} → v ≡ Err m → v ≢ Ok tt
not_fine e f = let z : ◌≡◌ {A = ℕ} 0 1 = cc in omega (arith, z)

-- a message's bytes
module _ (s : List ℕ) where
  then_tells :
      {o : Reading} {k : List Row → ℕ → Book → Reading} → Tells s o
      → ((rows : List Row) (to : ℕ) (book : Book) → o ≡ got rows to book → Reached s to book → Tells s (k rows to book)) → Tells s (then o k)
  then_tells (ends {rows} {to} {book} h) f = f rows to book refl h
  then_tells (says {m = m} e) f = says {m = m} e

  behind_tells : (rows : List Row) {o : Reading} → Tells s o → Tells s (behind rows o)
  behind_tells rows (ends h) = ends h
  behind_tells rows (says {m = m} e) = says {m = m} e

  over_tells : (kind b r : ℕ) {o : Reading} → Tells s o → Tells s (over kind b r o)
  over_tells kind b r (ends h) = ends h
  over_tells kind b r (says {m = m} e) = says {m = m} e

  pick_tells : (b : Bool) {o u : Reading} → (b ≡ true → Tells s o) → (b ≡ false → Tells s u) → Tells s (cond b o u)
  pick_tells true f g = f refl
  pick_tells false f g = g refl

  judged_tells :
      (v : Verdict) (at : ℕ) {o : Reading} → Tells s o → ((m : Refusal) → v ≡ Err m → Stands s (number_of m) at) → Tells s (judged v at o)
  judged_tells (Ok tt) at t f = t
  judged_tells (Err m) at t f = says {m = m} (f m refl)

  -- the content of an item
  text_bad : (t : List ℕ) {at : ℕ} → ((UTF8-octets t → ⊥) → Stands s 5 at) → (m : Refusal) → content_rule content.Text t ≡ Err m → Stands s (number_of m) at
  unfolding content_rule
  text_bad t f m e = let i = fine_is (well_formed t) BadText e in rw (← i.1) (f (λ u. clash (accepted u) i.0))

  ascii_bad :
      (a b : Bool) {at : ℕ} → (a ≡ false → Stands s 5 at) → (a ≡ true → b ≡ false → Stands s 17 at) → (m : Refusal) → ascii_then a b ≡ Err m
      → Stands s (number_of m) at
  ascii_bad true b f g m e = let i = fine_is b BadValue e in rw (← i.1) (g refl i.0)
  ascii_bad false b f g m e = let i = fine_is false BadText e in rw (← i.1) (f refl)

  double_said : (at : ℕ) → Whole s at (tag.Plain plain.Double) → (m : Refusal) → content_rule content.Double (short_text s at) ≡ Err m → Stands s (number_of m) at
  unfolding content_rule
  double_said at b m e =
      ascii_bad (ascii (short_text s at)) (is_double (short_text s at)) (λ i. double_bad b i)
      (λ i j. no_double b i (λ d. clash ((double_exactly (short_text s at)).1 d) j)) m e

  datetime_said :
      (at : ℕ) → Whole s at (tag.Plain plain.DateTime) → (m : Refusal) → content_rule content.DateTime (short_text s at) ≡ Err m → Stands s (number_of m) at
  unfolding content_rule
  datetime_said at b m e =
      ascii_bad (ascii (short_text s at)) (is_date_time (short_text s at)) (λ i. datetime_bad b i)
      (λ i j. no_datetime b i (λ d. clash ((datetime_exactly (short_text s at)).1 d) j)) m e

  binary_said : (t : List ℕ) {at : ℕ} (m : Refusal) → content_rule content.Binary t ≡ Err m → Stands s (number_of m) at
  unfolding content_rule
  binary_said t m e = let z : ◌≡◌ {A = ℕ} 0 1 = cc in absurd (omega arith)

  -- an item whose fields, or whose content, end behind the bytes
  module _ (t : Tag) (at : ℕ) (b : Begun s at t) (h : at < length s) where
    fields_end : length s < at + fields_of t → length s < want_of s at
    fields_end k = omega (arith, k, want_fields s at t b h k)

    content_ends : at + fields_of t ≤ length s → length s < at + fields_of t + announced s at t → length s < want_of s at
    content_ends j k = omega (arith, k, want_content s at t b h j)

    whole : at + fields_of t ≤ length s → at + fields_of t + announced s at t ≤ length s → Whole s at t
    whole j k = (b, omega (arith, k, want_content s at t b h j))

  -- and the rows that there is room for
  module _ (room : ℕ) where
    present_tells : (at : ℕ) {o : Reading} → at ≤ length s → (at < length s → Tells s o) → Tells s (present s room at o)
    present_tells at h f =
        pick_tells (ltb at (length s)) (λ e. f (ltb-true at (length s) e))
        (λ e. says {m = Ended} (nothing (omega (arith, h, ltb-false at (length s) e))))

    opened_tells :
        (size at r : ℕ) {o : Reading} → at < length s → (length s < at + size → length s < want_of s at) → (at + size ≤ length s → Tells s o)
        → Tells s (opened s room size at r o)
    opened_tells size at r h w f =
        pick_tells (ltb r room)
        (λ e. pick_tells (leb (at + size) (length s)) (λ i. f (leb-true (at + size) (length s) i))
        (λ i. says {m = Ended} (cut h (w (leb-false (at + size) (length s) i)))))
        (λ e. says {m = NoRow} (no_row h))

    contents_tells :
        (c : Content) (o n at r : ℕ) (book : Book) → at < length s → (length s < o + n → length s < want_of s at)
        → (o + n ≤ length s → Booked s (o + n) book) → (o + n ≤ length s → (m : Refusal) → content_rule c (part s o n) ≡ Err m → Stands s (number_of m) at) → Tells s (read-contents s room c o n at r book)
    unfolding verdict read-contents
    contents_tells c o n at r book h w k f = go (leb (o + n) (length s)) refl
      where
        go :
            (b : Bool) → leb (o + n) (length s) ≡ b
            → Tells s (judged (all_there b (content_rule c (part s o n))) at (leaf (kind_of c) o n r (o + n) book))
        go true e = let i = leb-true (o + n) (length s) e in judged_tells (content_rule c (part s o n)) at (ends (i, k i)) (f i)
        go false e = says {m = Ended} (cut h (w (leb-false (o + n) (length s) e)))

    recalled_tells :
        (x : Entry) (at r : ℕ) (book : Book) → Whole s at (tag.String Recalled) → at + 2 ≤ length s → Booked s at book
        → Tells s (recalledEntry s room x at r book)
    recalled_tells None at r book b j k = says {m = UnsetPosition} (unset b)
    recalled_tells (Some y) at r book b j k = ends (j, later (omega arith) k)

    string_item_tells : (form : Form) (at r : ℕ) (book : Book) → Begun s at (tag.String form) → at < length s → Booked s at book → Tells s (string_item s room form at r book)
    string_item_tells Regular at r book b h z =
        opened_tells 5 at r h (fields_end (tag.String Regular) at b h)
        (λ j. contents_tells content.Text (at + 5) (unsigned_at s (at + 1)) at r book h (content_ends (tag.String Regular) at b h j) (λ i. later (omega arith) z)
        (λ k. text_bad (long_text s at) (λ f. regular_bad (whole (tag.String Regular) at b h j k) f)))
    string_item_tells Recorded at r book b h z =
        opened_tells 6 at r h (fields_end (tag.String Recorded) at b h)
        (λ j. contents_tells content.Text (at + 6) (unsigned_at s (at + 2)) at r
        (record-text book (byte_at s (at + 1)) (at + 6) (unsigned_at s (at + 2))) h (content_ends (tag.String Recorded) at b h j)
        (λ i. booked_more (omega arith) (whole (tag.String Recorded) at b h j i) z)
        (λ k. text_bad (recorded_text s at) (λ f. recorded_bad (whole (tag.String Recorded) at b h j k) f)))
    string_item_tells Recalled at r book b h z =
        opened_tells 2 at r h (fields_end (tag.String Recalled) at b h)
        (λ j. recalled_tells (book (byte_at s (at + 1))) at r book (whole (tag.String Recalled) at b h j (omega (arith, j))) j z)

    -- the text of a String that was read
    module _ {rows : List Row} {to : ℕ} {book' : Book} where
      picked_got : (b : Bool) (o : Reading) (m : Refusal) (p : ℕ) → cond b o (refused m p) ≡ got rows to book' → (b ≡ true) × (o ≡ got rows to book')
      picked_got true o m p e = (refl, e)
      picked_got false o m p e = refused_got e

      opened_got : (size at r : ℕ) (o : Reading) → opened s room size at r o ≡ got rows to book' → (at + size ≤ length s) × (o ≡ got rows to book')
      opened_got size at r o e =
          let f = picked_got (ltb r room) _ _ _ e in
          let g = picked_got (leb (at + size) (length s)) _ _ _ f.1 in
          (leb-true _ _ g.0, g.1)

      leaf_first : (kind o n r at : ℕ) (book : Book) → leaf kind o n r at book ≡ got rows to book' → first_text s room rows ≡ part s o n
      leaf_first kind o n r at book e = let i : rows ≡ row kind o n (r + 1) ∷ [] = cc in ap (first_text s room) i

      contents_first :
          (c : Content) (o n at r : ℕ) (book : Book) → read-contents s room c o n at r book ≡ got rows to book'
          → (o + n ≤ length s) × (first_text s room rows ≡ part s o n)
      unfolding verdict read-contents
      contents_first c o n at r book e = go (leb (o + n) (length s)) refl (content_rule c (part s o n)) e
        where
          go :
              (b : Bool) → leb (o + n) (length s) ≡ b → (v : Verdict) → judged (all_there b v) at (leaf (kind_of c) o n r (o + n) book) ≡ got rows to book'
              → (o + n ≤ length s) × (first_text s room rows ≡ part s o n)
          go true i (Ok tt) e = (leb-true (o + n) (length s) i, leaf_first (kind_of c) o n r (o + n) book e)
          go true i (Err m) e = refused_got e
          go false i v e = refused_got e

      string_sends :
          (form : Form) (at r : ℕ) (book : Book) → Begun s at (tag.String form) → at < length s → Booked s at book
          → string_item s room form at r book ≡ got rows to book' → Sends s at (first_text s room rows)
      string_sends Regular at r book b h z e =
          let f = opened_got 5 at r _ e in
          let g = contents_first content.Text (at + 5) (unsigned_at s (at + 1)) at r book f.1 in
          rw g.1 (by_regular (whole (tag.String Regular) at b h f.0 g.0))
      string_sends Recorded at r book b h z e =
          let f = opened_got 6 at r _ e in
          let g =
          contents_first content.Text (at + 6) (unsigned_at s (at + 2)) at r (record-text book (byte_at s (at + 1)) (at + 6) (unsigned_at s (at + 2))) f.1 in
          rw g.1 (by_recorded (whole (tag.String Recorded) at b h f.0 g.0))
      string_sends Recalled at r book b h z e =
          let f = opened_got 2 at r _ e in
          go (book (byte_at s (at + 1))) refl (whole (tag.String Recalled) at b h f.0 (omega (arith, f.0))) f.1
        where
          go :
              (x : Entry) → book (byte_at s (at + 1)) ≡ x → Whole s at (tag.String Recalled) → recalledEntry s room x at r book ≡ got rows to book' → Sends s at (first_text s room rows)
          go None i w e = refused_got e
          go (Some y) i w e =
              let g = z.each (byte_at s (at + 1)) y.offset y.length i in
              rw (leaf_first (kind_of content.Text) y.offset y.length r (at + 2) book e ∙ g.4) (by_recalled g.0 w g.1 g.2 g.3)

    -- a String, and one that is judged as soon as it is read
    if_string_tells : (t : Tag) (at r : ℕ) (book : Book) → Begun s at t → at < length s → Booked s at book → Tells s (if_string s room t at r book)
    if_string_tells (tag.String form) at r book b h z = string_item_tells form at r book b h z
    if_string_tells (tag.Plain x) at r book b h z = says {m = UnexpectedByte} (unexpected h)
    if_string_tells tag.Array at r book b h z = says {m = UnexpectedByte} (unexpected h)
    if_string_tells tag.Struct at r book b h z = says {m = UnexpectedByte} (unexpected h)
    if_string_tells tag.Unknown at r book b h z = says {m = UnexpectedByte} (unexpected h)

    string_tells : (at r : ℕ) (book : Book) → Reached s at book → Tells s (read-string s room at r book)
    unfolding read-string
    string_tells at r book h = present_tells at h.0 (λ k. if_string_tells (tag_of (byte_at s at)) at r book refl k h.1)

    string_by_tells :
        (rule : List ℕ → Verdict) (o at r : ℕ) (book : Book) → Reached s at book
        → ((t : List ℕ) → Sends s at t → (m : Refusal) → rule t ≡ Err m → Stands s (number_of m) o)
        → Tells s (string_by s room rule o at r book)
    unfolding string_by read-string
    string_by_tells rule o at r book h f = go (ltb at (length s)) refl (tag_of (byte_at s at)) refl
      where
        go :
            (b : Bool) → ltb at (length s) ≡ b → (t : Tag) → Begun s at t
            → Tells s (then (cond b (if_string s room t at r book) (refused Ended at))
            (λ rows to book'. judged (rule (first_text s room rows)) o (got rows to book')))
        go false e t i = says {m = Ended} (nothing {at = at} (omega (arith, h.0, ltb-false at (length s) e)))
        go true e (tag.String form) i =
            then_tells (string_item_tells form at r book i (ltb-true at (length s) e) h.1)
            (λ rows to book' g k. judged_tells (rule (first_text s room rows)) o (ends k)
            (f (first_text s room rows) (string_sends form at r book i (ltb-true at (length s) e) h.1 g)))
        go true e (tag.Plain x) i = says {m = UnexpectedByte} (unexpected (ltb-true at (length s) e))
        go true e tag.Array i = says {m = UnexpectedByte} (unexpected (ltb-true at (length s) e))
        go true e tag.Struct i = says {m = UnexpectedByte} (unexpected (ltb-true at (length s) e))
        go true e tag.Unknown i = says {m = UnexpectedByte} (unexpected (ltb-true at (length s) e))

    only_tells :
        (b : ℕ) (f : Reader) (at r : ℕ) (book : Book) → at ≤ length s → (byte_at s at ≡ b → at < length s → Tells s (f at r book))
        → Tells s (only s room b f at r book)
    unfolding only
    only_tells b f at r book h g =
        present_tells at h
        (λ k. pick_tells (eqb (byte_at s at) b) (λ e. g (eqb-true (byte_at s at) b e) k) (λ e. says {m = UnexpectedByte} (unexpected k)))

    pair_tells :
        (f g : Reader) (at r : ℕ) (book : Book) → Tells s (f at r book)
        → ((at r : ℕ) (book : Book) → Reached s at book → Tells s (g at r book)) → Tells s (read-pair f g at r book)
    unfolding read-pair
    pair_tells f g at r book p q = then_tells p (λ rows to book' g k. behind_tells rows (q to (r + length rows) book' k))

    items_tells :
        (f : Texts → Reader) (more : Texts → List Row → Texts)
        → ((seen : Texts) (at r : ℕ) (book : Book) → Reached s at book → Tells s (f seen at r book)) → (n : ℕ) (seen : Texts) (acc : List Row) (at r : ℕ)
        (book : Book) → Reached s at book → Tells s (items f more n seen acc at r book)
    unfolding items
    items_tells f more h zero seen acc at r book k = ends k
    items_tells f more h (suc n) seen acc at r book k =
        then_tells (h seen at (r + length acc) book k)
        (λ rows to book' g j. items_tells f more h n (more seen rows) (acc ++ rows) to r book' j)

    counted_tells :
        (kind : ℕ) (f : Texts → Reader) (more : Texts → List Row → Texts) (at r : ℕ) (book : Book) → at < length s → Booked s at book
        → (length s < at + 5 → length s < want_of s at)
        → ((seen : Texts) (at r : ℕ) (book : Book) → Reached s at book → Tells s (f seen at r book)) → Tells s (counted s room kind f more at r book)
    counted_tells kind f more at r book h z w p =
        opened_tells 5 at r h w
        (λ j. over_tells kind (unsigned_at s (at + 1)) r (items_tells f more p (unsigned_at s (at + 1)) [] [] (at + 5) (r + 1) book (j, later (omega arith) z)))

    -- what may nest tells it too
    data Nests : Nest → Type 0 where
      at_floor : Nests floor
      beneath : {f : Reader} → ((at r : ℕ) (book : Book) → Reached s at book → Tells s (f at r book)) → Nests (under f)

    array_tells : {nest : Nest} → Nests nest → (at r : ℕ) (book : Book) → Begun s at tag.Array → at < length s → Booked s at book → Tells s (array_item s room nest at r book)
    unfolding alike
    array_tells at_floor at r book b h z = says {m = TooDeep} (deep_array b)
    array_tells (beneath {f} p) at r book b h z = counted_tells 9 (alike f) kept-nothing at r book h z (fields_end tag.Array at b h) (λ seen. p)

    key_tells : (seen : Texts) (at r : ℕ) (book : Book) → Reached s at book → Tells s (key s room seen at r book)
    unfolding key
    key_tells seen at r book h =
        string_by_tells (key_rule seen) at at r book h
        (λ t b m e. let i = key_is seen t e in rw (← i) (repeated_key b))

    member_tells :
        {f : Reader} → ((at r : ℕ) (book : Book) → Reached s at book → Tells s (f at r book)) → (seen : Texts) (at r : ℕ) (book : Book) → Reached s at book
        → Tells s (member s room f seen at r book)
    unfolding member
    member_tells {f} p seen at r book h = pair_tells (key s room seen) f at r book (key_tells seen at r book h) p

    struct_tells :
        {nest : Nest} → Nests nest → (at r : ℕ) (book : Book) → Begun s at tag.Struct → at < length s → Booked s at book → Tells s (struct_item s room nest at r book)
    struct_tells at_floor at r book b h z = says {m = TooDeep} (deep_struct b)
    struct_tells (beneath {f} p) at r book b h z =
        counted_tells 10 (member s room f) (keeping s room) at r book h z (fields_end tag.Struct at b h) (member_tells p)

    binary_tells : (at r : ℕ) (book : Book) → Begun s at (tag.Plain plain.Binary) → at < length s → Booked s at book → Tells s (long_item s room content.Binary at r book)
    binary_tells at r book b h z =
        opened_tells 5 at r h (fields_end (tag.Plain plain.Binary) at b h)
        (λ j. contents_tells content.Binary (at + 5) (unsigned_at s (at + 1)) at r book h (content_ends (tag.Plain plain.Binary) at b h j) (λ i. later (omega arith) z)
        (λ k. binary_said (long_text s at)))

    plain_tells : (x : Plain) (at r : ℕ) (book : Book) → Begun s at (tag.Plain x) → at < length s → Booked s at book → Tells s (plain_item s room x at r book)
    plain_tells plain.Integer at r book b h z = opened_tells 5 at r h (fields_end (tag.Plain plain.Integer) at b h) (λ j. ends (j, later (omega arith) z))
    plain_tells plain.True at r book b h z = opened_tells 1 at r h (fields_end (tag.Plain plain.True) at b h) (λ j. ends (j, later (omega arith) z))
    plain_tells plain.False at r book b h z = opened_tells 1 at r h (fields_end (tag.Plain plain.False) at b h) (λ j. ends (j, later (omega arith) z))
    plain_tells plain.Double at r book b h z =
        opened_tells 2 at r h (fields_end (tag.Plain plain.Double) at b h)
        (λ j. contents_tells content.Double (at + 2) (byte_at s (at + 1)) at r book h (content_ends (tag.Plain plain.Double) at b h j)
        (λ i. later (omega arith) z)
        (λ k. double_said at (whole (tag.Plain plain.Double) at b h j k)))
    plain_tells plain.DateTime at r book b h z =
        opened_tells 2 at r h (fields_end (tag.Plain plain.DateTime) at b h)
        (λ j. contents_tells content.DateTime (at + 2) (byte_at s (at + 1)) at r book h (content_ends (tag.Plain plain.DateTime) at b h j)
        (λ i. later (omega arith) z)
        (λ k. datetime_said at (whole (tag.Plain plain.DateTime) at b h j k)))
    plain_tells plain.Binary at r book b h z = binary_tells at r book b h z
    plain_tells plain.Other at r book b h z =
        opened_tells 1 at r h (fields_end (tag.Plain plain.Other) at b h)
        (λ j. over_tells 12 2 r
        (pair_tells (name s room at) (only s room (code "B") (long_item s room content.Binary)) (at + 1) (r + 1) book
        (string_by_tells name_rule at (at + 1) (r + 1) book (j, later (omega arith) z) (λ t c m e. let i = name_is t e in rw (← i) (standard b c (not_fine e))))
        (λ to r' book' k. only_tells (code "B") (long_item s room content.Binary) to r' book' k.0
        (λ e l. binary_tells to r' book' (ap tag_of e ∙ tag_binary) l k.1))))

    item_tells : {nest : Nest} → Nests nest → (t : Tag) (at r : ℕ) (book : Book) → Begun s at t → at < length s → Booked s at book → Tells s (item s room t nest at r book)
    item_tells n (tag.Plain x) at r book b h z = plain_tells x at r book b h z
    item_tells n (tag.String form) at r book b h z = string_item_tells form at r book b h z
    item_tells n tag.Array at r book b h z = array_tells n at r book b h z
    item_tells n tag.Struct at r book b h z = struct_tells n at r book b h z
    item_tells n tag.Unknown at r book b h z = says {m = UnexpectedByte} (unexpected h)

    value_tells : (deep at r : ℕ) (book : Book) → Reached s at book → Tells s (value s room deep at r book)
    unfolding value
    value_tells zero at r book h = present_tells at h.0 (λ k. item_tells at_floor (tag_of (byte_at s at)) at r book refl k h.1)
    value_tells (suc deep) at r book h = present_tells at h.0 (λ k. item_tells (beneath (value_tells deep)) (tag_of (byte_at s at)) at r book refl k h.1)

    nests : (deep : ℕ) → Nests (nested s room deep)
    unfolding nested
    nests zero = at_floor
    nests (suc deep) = beneath (value_tells deep)

    -- the Call or Response, at 12
    call_tells : (deep : ℕ) → 12 < length s → Tells s (call_item s room deep 12 0 clear)
    call_tells deep h =
        opened_tells 1 12 0 h (λ k. absurd (omega (arith, h, k)))
        (λ j. over_tells 1 2 0
        (pair_tells (read-string s room) (only s room (code "A") (array_item s room (nested s room deep))) 13 1 clear (string_tells 13 1 clear (j, booked_clear))
        (λ to r book k. only_tells (code "A") (array_item s room (nested s room deep)) to r book k.0
        (λ e l. array_tells (nests deep) to r book (ap tag_of e ∙ tag_array) l k.1))))

    fault_tells : (deep : ℕ) → 14 ≤ length s → byte_at s 12 ≡ code "R" → byte_at s 13 ≡ code "F" → Tells s (fault_struct s room deep 14 1 clear)
    unfolding fault_struct only
    fault_tells deep h a b = go (ltb 14 (length s)) refl (eqb (byte_at s 14) (code "S")) refl
      where
        go :
            (x : Bool) → ltb 14 (length s) ≡ x → (y : Bool) → eqb (byte_at s 14) (code "S") ≡ y
            → Tells s (then (cond x (cond y (struct_item s room (nested s room deep) 14 1 clear) (refused UnexpectedByte 14)) (refused Ended 14))
            (λ rows to book. judged (fault_rule (held_rows s (below rows))) 14 (got rows to book)))
        go false e y i = says {m = Ended} (nothing {at = 14} (omega (arith, h, ltb-false 14 (length s) e)))
        go true e false i = says {m = UnexpectedByte} (unexpected (ltb-true 14 (length s) e))
        go true e true i =
            let c = eqb-true (byte_at s 14) (code "S") i in
            then_tells (struct_tells (nests deep) 14 1 clear (ap tag_of c ∙ tag_struct) (ltb-true 14 (length s) e) booked_clear)
            (λ rows to book f k. judged_tells (fault_rule (held_rows s (below rows))) 14 (ends k)
            (λ m z.
            let l = fault_is (held_rows s (below rows)) z in
            let g = (struct_sound s room deep).derived 14 1 clear [] rows to book c f agrees_clear in
            rw (← l) (bad_fault a b (part_here g.here refl) g.derives g.legal
            (λ two. not_two (held_rows s (below rows)) z (rw (held_below g.realises) two)))))

    response_tells : (deep : ℕ) → 12 < length s → byte_at s 12 ≡ code "R" → Tells s (response_item s room deep 12 0 clear)
    response_tells deep h a =
        opened_tells 1 12 0 h (λ k. absurd (omega (arith, h, k)))
        (λ j. present_tells 13 j
        (λ k. pick_tells (eqb (byte_at s 13) (code "F"))
        (λ e. over_tells 3 1 0 (fault_tells deep k a (eqb-true (byte_at s 13) (code "F") e)))
        (λ e. over_tells 2 1 0 (value_tells deep 13 1 clear (j, booked_clear)))))

    whole_tells : (deep : ℕ) → 12 ≤ length s → Tells s (call_or_response s room deep 12 0 clear)
    unfolding call_or_response
    whole_tells deep h =
        present_tells 12 h
        (λ k. pick_tells (eqb (byte_at s 12) (code "C")) (λ e. call_tells deep k)
        (λ e. pick_tells (eqb (byte_at s 12) (code "R")) (λ i. response_tells deep k (eqb-true (byte_at s 12) (code "R") i))
        (λ i. says {m = UnexpectedByte} (unexpected k))))

    message_tells : (deep : ℕ) → Tells s (message s room deep)
    unfolding message
    message_tells deep =
        pick_tells (agree s prefix)
        (λ e. pick_tells (leb 12 (length s)) (λ i. whole_tells deep (leb-true 12 (length s) i)) (λ i. says {m = Ended} (short (leb-false 12 (length s) i))))
        (λ e. says {m = WrongPrefix} (differs e))

    -- PLACES. Where a message is refused stands what the refusal's number says.
    pub stands : (deep : ℕ) {m : Refusal} {p : ℕ} → message s room deep ≡ refused m p → Stands s (number_of m) p
    stands deep e = said (message_tells deep) e
