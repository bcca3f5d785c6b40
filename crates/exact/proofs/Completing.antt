-- What the grammar derives with legal sendings is read, with its meaning, whatever follows it: one law for each combinator of reading, then one
-- for each production. Assumes nothing.
use mathlib.Core.Path.{◌≡◌, refl, sym, ap, ◌∙◌}
use mathlib.Core.Bool.{true, false}
use mathlib.Core.List.{List, [], ◌∷◌, ◌++◌, append_assoc, append-nil}
use Prim.Native.Nat.{ℕ, zero, suc, ◌+◌, ◌≤◌, ◌<◌}
use Prim.Native.Char.{code}
use native.Mathlib.Omega.{arith}
use native.Mathlib.Nat.{add-zero}
use lib.Dec.{eqb}
use lib.ListN.{length, get_or, length-append}
use borrow.Author.Tests.{lt-ltb, le-leb, eq-eqb}
use Rattle.draft.specs.declared.Row.{Row}
use Rattle.draft.specs.Verdict.{Verdict}
use Rattle.std.specs.Prelude.{Ok}
use Rattle.draft.specs.declared.Content.{Content}
use Rattle.draft.specs.declared.Content.TheVariants as content
use Rattle.draft.specs.declared.Tag.{Tag}
use Rattle.draft.specs.declared.Tag.TheVariants as tag
use Rattle.draft.specs.declared.Plain.TheVariants as plain
use Rattle.draft.specs.declared.Form.{Form}
use Rattle.draft.specs.declared.Form.TheVariants.{Regular, Recorded, Recalled}
use Rattle.draft.specs.Bytes.{byte_at, part}
use Rattle.draft.specs.Rows.{row, below, kind_of}
use Rattle.draft.specs.Content.{verdict, name_rule, key_rule, fault_rule}
use Rattle.draft.specs.Codebook.{Book, clear, recorded as record-text}
use Rattle.draft.specs.Read.{Reading, got, Reader, over, pair as read-pair, items, alike, leaf, tag_of, present, opened, contents as read-contents, integer_item, boolean_item, short_item, long_item, recorded_item, recalled as recalledEntry, recalled_item, string_item, string as read-string, only, first_text, string_by, name, Texts, nothing, key, member, keeping, other_item, counted, array_item, struct_item, item, value, nested, call_item, fault_struct, response_item, call_or_response, prefix, agree, message}
use Rattle.draft.specs.Grammar.{Cell, cell, holding, number, content_cell, held_cells, Sent, regular, recorded, recalled, LSB, Keeps, Message, call_message, response_message, Call, call, Response, value_response, fault_response, fault, Value, integer_value, boolean_value, double_value, datetime_value, binary_value, array_value, struct_value, string_value, other_value, integer, boolean_true, boolean_false, double, datetime, Binary, binary, Array, array, Values, no_values, more_values, Struct, struct, Pairs, no_pairs, more_pairs, Pair, pair, Other, other, String, regular_string, recorded_string, recalled_string, string_data, Recording, look, after, Legal, legal_recalled}
use Rattle.draft.specs.Meaning.{has_number, has_content, says_contents, Means, means, Realises, no_more, and_then}
use Rattle.exact.proofs.Standing.{Here, ends, front, back, byte_of, second, four, part_here}
use Rattle.exact.proofs.Replaying.{after_append, legal_front, legal_back, Agrees, agrees_clear, agrees_recorded, found}
use Rattle.exact.proofs.Realising.{content_means, over_means, number_means, counts, realises_append, held_below}

-- an accepted reading, with these meanings, up to `to`, that leaves a codebook which agrees with these recordings
pub record Reads (s : List ℕ) (o : Reading) (r : ℕ) (cs : List Cell) (to : ℕ) (R : List Recording) : Type 0 where
  pub rows : List Row
  pub book : Book
  pub is : o ≡ got rows to book
  pub realises : Realises s r rows cs
  pub agrees : Agrees s book R

-- the same of a run of items, behind the rows acc
pub record ReadsOn (s : List ℕ) (o : Reading) (acc : List Row) (r : ℕ) (cs : List Cell) (to : ℕ) (R : List Recording) : Type 0 where
  pub rows : List Row
  pub book : Book
  pub is : o ≡ got (acc ++ rows) to book
  pub realises : Realises s r rows cs
  pub agrees : Agrees s book R

-- wherever xs stands, and there is room, f reads it so
pub record ReadBy (s : List ℕ) (room : ℕ) (f : Reader) (xs : List ℕ) (cs : List Cell) (fs : List Sent) : Type 0 where
  pub reads :
      (at r : ℕ) (book : Book) (R : List Recording) → Here s at xs → Legal R fs → Agrees s book R → r + length cs ≤ room
      → Reads s (f at r book) r cs (at + length xs) (after R fs)

-- the same of a run of n items
pub record RunBy (s : List ℕ) (room : ℕ) (f : Texts → Reader) (more : Texts → List Row → Texts) (n : ℕ) (seen : Texts) (xs : List ℕ) (cs : List Cell) (fs : List Sent) : Type 0 where
  pub reads :
      (acc : List Row) (at r : ℕ) (book : Book) (R : List Recording) → Here s at xs → Legal R fs → Agrees s book R → r + length acc + length cs ≤ room
      → ReadsOn s (items f more n seen acc at r book) acc (r + length acc) cs (at + length xs) (after R fs)

by :
    {s : List ℕ} {o o' : Reading} {r : ℕ} {cs : List Cell} {to to' : ℕ} {R : List Recording} → o ≡ o' → to' ≡ to → Reads s o' r cs to' R
    → Reads s o r cs to R
by e f g = record { rows = g.rows; book = g.book; is = e ∙ g.is ∙ ap (λ (n : ℕ). got g.rows n g.book) f; realises = g.realises; agrees = g.agrees }

-- an item of one row
one :
    {s : List ℕ} {r : ℕ} {c : Cell} {R : List Recording} {x : Row} {to : ℕ} {book : Book} → Means s r x c → Agrees s book R
    → Reads s (got (x ∷ []) to book) r (c ∷ []) to R
one {x = x} {book = book} m a = record { rows = x ∷ []; book = book; is = refl; realises = and_then m no_more; agrees = a }

-- the first of some bytes
first_of : {s : List ℕ} {at : ℕ} {xs : List ℕ} → Here s at xs → 0 < length xs → byte_at s at ≡ get_or xs 0 0
first_of {at = at} h k = rw (← add-zero at) (byte_of h 0 k)

-- the form that a String is sent in
form_of : Sent → Form
form_of (regular t) = Regular
form_of (recorded p t) = Recorded
form_of (recalled p t) = Recalled

-- a message's bytes, and the rows that there is room for
module _ (s : List ℕ) (room : ℕ) where
  pub present_is : (at : ℕ) (o : Reading) → at < length s → present s room at o ≡ o
  present_is at o h = simp (lt-ltb _ _ h)

  pub opened_is : (size at r : ℕ) (o : Reading) → r < room → at + size ≤ length s → opened s room size at r o ≡ o
  opened_is size at r o h k = simp (lt-ltb _ _ h, le-leb _ _ k)

  contents_is :
      (c : Content) (o n at r : ℕ) (book : Book) → o + n ≤ length s → Keeps c (part s o n)
      → read-contents s room c o n at r book ≡ leaf (kind_of c) o n r (o + n) book
  unfolding verdict read-contents
  contents_is c o n at r book h k = rw (le-leb _ _ h, k)

  -- content that stands at o
  content_reads :
      (c : Content) (o n at r : ℕ) {t : List ℕ} (book : Book) {R : List Recording} → Here s o t → n ≡ length t → Keeps c t → Agrees s book R
      → Reads s (read-contents s room c o n at r book) r (content_cell c t ∷ []) (o + n) R
  content_reads c o n at r {t} book h e k a =
      by (contents_is c o n at r book (omega (arith, ends h, e)) (rw (part_here h e) k)) refl (one (content_means c r h e) a)

  -- what holds some bytes and rows: a row is left, and the fixed fields are there
  opened_read :
      {f : Reader} {xs : List ℕ} {cs : List Cell} {fs : List Sent} (size : ℕ) → size ≤ length xs → 0 < length cs → ReadBy s room f xs cs fs
      → ReadBy s room (λ at r book. opened s room size at r (f at r book)) xs cs fs
  opened_read {f} size h k g =
      record {
        reads = λ at r book R h' l a i. by (opened_is size at r (f at r book) (omega arith) (omega (arith, ends h'))) refl (g.reads at r book R h' l a i);
      }

  -- items of one row
  integer_read : {n x i j k l : ℕ} → LSB n i j k l → ReadBy s room (integer_item s room) (x ∷ i ∷ j ∷ k ∷ l ∷ []) (cell 4 0 (number n) ∷ []) []
  unfolding has_number
  integer_read {n} {x} {i} {j} {k} {l} e =
      opened_read 5 (omega arith) (omega arith)
      (record {
        reads = λ at r book R h _ a _. rw (four (back (x ∷ []) (i ∷ j ∷ k ∷ l ∷ []) h refl) e) (one (number_means 4 r refl) a);
      })

  boolean_read : (n : ℕ) {x : ℕ} → ReadBy s room (boolean_item s room n) (x ∷ []) (cell 5 0 (number n) ∷ []) []
  unfolding has_number
  boolean_read n = opened_read 1 (omega arith) (omega arith) (record { reads = λ at r book R h _ a _. one (number_means 5 r refl) a })

  -- a size byte and content
  short_read :
      (c : Content) {n x : ℕ} {t : List ℕ} → n ≡ length t → Keeps c t → ReadBy s room (short_item s room c) (x ∷ n ∷ t) (content_cell c t ∷ []) []
  short_read c {n} {x} {t} e k =
      opened_read 2 (omega arith) (omega arith)
      (record {
        reads = λ at r book R h _ a _. rw (second h) (by refl (omega (arith, e)) (content_reads c (at + 2) n at r book (back (x ∷ n ∷ []) t h refl) e k a));
      })

  -- a length and content, with Strings that record nothing
  long_read :
      (c : Content) {n x i j k l : ℕ} {t : List ℕ} {fs : List Sent} → LSB n i j k l → n ≡ length t → Keeps c t
      → ((R : List Recording) → after R fs ≡ R) → ReadBy s room (long_item s room c) (x ∷ i ∷ j ∷ k ∷ l ∷ t) (content_cell c t ∷ []) fs
  long_read c {n} {x} {i} {j} {k} {l} {t} e f g q =
      opened_read 5 (omega arith) (omega arith)
      (record {
        reads = λ at r book R h _ a _.
            rw (four (back (x ∷ []) (i ∷ j ∷ k ∷ l ∷ t) h refl) e, q R)
            (by refl (omega (arith, f)) (content_reads c (at + 5) n at r book (back (x ∷ i ∷ j ∷ k ∷ l ∷ []) t h refl) f g a));
      })

  recorded_read :
      {n x p i j k l : ℕ} {t : List ℕ} → LSB n i j k l → n ≡ length t → Keeps content.Text t
      → ReadBy s room (recorded_item s room) (x ∷ p ∷ i ∷ j ∷ k ∷ l ∷ t) (content_cell content.Text t ∷ []) (recorded p t ∷ [])
  recorded_read {n} {x} {p} {i} {j} {k} {l} {t} e f g =
      opened_read 6 (omega arith) (omega arith)
      (record {
        reads = λ at r book R h _ a _.
            let b = back (x ∷ p ∷ i ∷ j ∷ k ∷ l ∷ []) t h refl in
            rw (four (back (x ∷ p ∷ []) (i ∷ j ∷ k ∷ l ∷ t) h refl) e, second h)
            (by refl (omega (arith, f)) (content_reads content.Text (at + 6) n at r (record-text book p (at + 6) n) b f g (agrees_recorded p a b f)));
      })

  recalled_read : {x p : ℕ} {t : List ℕ} → ReadBy s room (recalled_item s room) (x ∷ p ∷ []) (content_cell content.Text t ∷ []) (recalled p t ∷ [])
  recalled_read {x} {p} {t} =
      opened_read 2 (omega arith) (omega arith) (record { reads = λ at r book R h l a _. rw (second h) (go at r book R l a) })
    where
      go :
          (at r : ℕ) (book : Book) (R : List Recording) → Legal R (recalled p t ∷ []) → Agrees s book R
          → Reads s (recalledEntry s room (book p) at r book) r (content_cell content.Text t ∷ []) (at + 2) R
      go at r book R (legal_recalled e l) a = let f = found (look p R) (a.each p) e in rw f.is (one (content_means content.Text r f.here f.long) a)

  string_item_read :
      {xs t : List ℕ} {f : Sent} → String xs t f → ReadBy s room (string_item s room (form_of f)) xs (content_cell content.Text t ∷ []) (f ∷ [])
  unfolding form_of
  string_item_read (regular_string (string_data e f k)) = long_read content.Text e f k (λ R. refl)
  string_item_read (recorded_string (string_data e f k)) = recorded_read e f k
  string_item_read recalled_string = recalled_read

  string_begins : {xs t : List ℕ} {f : Sent} → String xs t f → (0 < length xs) × (tag_of (get_or xs 0 0) ≡ tag.String (form_of f))
  unfolding tag_of form_of
  string_begins (regular_string x) = (omega arith, refl)
  string_begins (recorded_string x) = (omega arith, refl)
  string_begins recalled_string = (omega arith, refl)

  pub string_read : {xs t : List ℕ} {f : Sent} → String xs t f → ReadBy s room (read-string s room) xs (content_cell content.Text t ∷ []) (f ∷ [])
  unfolding read-string
  string_read {xs} {t} {f} x =
      record {
        reads = λ at r book R h l a i.
            by (present_is at _ (omega (arith, ends h, (string_begins x).0)) ∙ rw (first_of h (string_begins x).0, (string_begins x).1)) refl
            ((string_item_read x).reads at r book R h l a i);
      }

  -- what only one byte begins
  pub only_read :
      {f : Reader} {xs : List ℕ} {cs : List Cell} {fs : List Sent} (b : ℕ) → 0 < length xs → get_or xs 0 0 ≡ b → ReadBy s room f xs cs fs
      → ReadBy s room (only s room b f) xs cs fs
  unfolding only
  only_read {f} b k e g =
      record {
        reads = λ at r book R h l a i.
            by (present_is at _ (omega (arith, ends h)) ∙ rw (eq-eqb _ _ (first_of h k ∙ e))) refl (g.reads at r book R h l a i);
      }

  -- a Value by its tag
  pub value_is :
      (d at r : ℕ) (book : Book) → value s room d at r book ≡ present s room at (item s room (tag_of (byte_at s at)) (nested s room d) at r book)
  unfolding value nested
  value_is zero at r book = refl
  value_is (suc d) at r book = refl

  by_tag :
      (d : ℕ) (t : Tag) {xs : List ℕ} {cs : List Cell} {fs : List Sent} → 0 < length xs → tag_of (get_or xs 0 0) ≡ t
      → ReadBy s room (item s room t (nested s room d)) xs cs fs → ReadBy s room (value s room d) xs cs fs
  by_tag d t k e g =
      record {
        reads = λ at r book R h l a i.
            by (value_is d at r book ∙ present_is at _ (omega (arith, ends h)) ∙ rw (first_of h k, e)) refl (g.reads at r book R h l a i);
      }

  -- one after the other
  pair_reads :
      (f g : Reader) (at r : ℕ) (book : Book) {to : ℕ} {us vs : List Cell} {to₁ : ℕ} {R₁ R : List Recording} (h : Reads s (f at r book) r us to₁ R₁)
      → Reads s (g to₁ (r + length us) h.book) (r + length us) vs to R → Reads s (read-pair f g at r book) r (us ++ vs) to R
  unfolding read-pair
  pair_reads f g at r book h k =
      record {
        rows = h.rows ++ k.rows;
        book = k.book;
        is = rw (h.is, counts h.realises, k.is);
        realises = realises_append h.realises (rw (← counts h.realises) at k.realises) refl;
        agrees = k.agrees;
      }

  pair_read :
      {f f' : Reader} {xs ys zs : List ℕ} {us vs : List Cell} {fs gs : List Sent} → ReadBy s room f xs us fs → ReadBy s room f' ys vs gs
      → zs ≡ xs ++ ys → ReadBy s room (read-pair f f') zs (us ++ vs) (fs ++ gs)
  pair_read {f} {f'} {xs} {ys} {zs} {us} {vs} {fs} {gs} p q e =
      record {
        reads = λ at r book R h l a i.
            let j = length-append us vs in
            let z = ap length e ∙ length-append xs ys in
            let g = p.reads at r book R (front xs ys h e) (legal_front fs gs l) a (omega (arith, j)) in
            let k = q.reads (at + length xs) (r + length us) g.book (after R fs) (back xs ys h e) (legal_back fs gs l) g.agrees (omega (arith, j)) in
            rw after_append (by refl (omega (arith, z)) (pair_reads f f' at r book g k));
      }

  -- an item's own row, k bytes, and what it holds
  over_reads :
      (kind b r : ℕ) {o : Reading} {m : ℕ} {cs : List Cell} {to : ℕ} {R : List Recording} → has_number kind ≡ false → has_content kind ≡ false
      → Reads s o (r + 1) cs to R → m ≡ length cs → Reads s (over kind b r o) r (cell kind m (holding b) ∷ cs) to R
  over_reads kind b r {o} {m} {cs} {to} {R} h k g e =
      let i : r + 1 ≡ suc r = omega arith in
      record {
        rows = row kind 0 b (r + 1 + length g.rows) ∷ g.rows;
        book = g.book;
        is = ap (over kind b r) g.is;
        realises = and_then (over_means kind r h k (counts g.realises ∙ sym e)) (rw i at g.realises);
        agrees = g.agrees;
      }

  over_read :
      (kind b : ℕ) {f : Reader} (ps : List ℕ) {k m : ℕ} {xs zs : List ℕ} {cs : List Cell} {fs : List Sent} → has_number kind ≡ false
      → has_content kind ≡ false → ReadBy s room f xs cs fs → m ≡ length cs → zs ≡ ps ++ xs → k ≡ length ps
      → ReadBy s room (λ at r book. over kind b r (f (at + k) (r + 1) book)) zs (cell kind m (holding b) ∷ cs) fs
  over_read kind b {f} ps {k} {m} {xs} {zs} {cs} {fs} h i g e z n =
      record {
        reads = λ at r book R h' l a j.
            let y = ap length z ∙ length-append ps xs in
            over_reads kind b r {o = f (at + k) (r + 1) book} h i
            (rw n (by refl (omega (arith, y)) (g.reads (at + length ps) (r + 1) book R (back ps xs h' z) l a (omega arith)))) e;
      }

  -- the text of the first row
  pub first_text_lem :
      (rows : List Row) {r : ℕ} {t : List ℕ} {cs : List Cell} (c : Content) → Realises s r rows (content_cell c t ∷ cs) → first_text s room rows ≡ t
  first_text_lem (x ∷ rows) c (and_then (means k e (says_contents l i j)) m) = j
  first_text_lem [] {r = r} {t = t} {cs = cs} c x' = elim x' [ ]

  string_by_read :
      (rule : List ℕ → Verdict) {xs t : List ℕ} {f : Sent} → String xs t f → rule t ≡ Ok tt → (o : ℕ)
      → ReadBy s room (string_by s room rule o) xs (content_cell content.Text t ∷ []) (f ∷ [])
  unfolding string_by
  string_by_read rule x k o =
      record {
        reads = λ at r book R h l a i.
            let g = (string_read x).reads at r book R h l a i in
            by (rw (g.is, first_text_lem g.rows content.Text g.realises, k)) refl
            (record { rows = g.rows; book = g.book; is = refl; realises = g.realises; agrees = g.agrees });
      }

  name_read :
      (o : ℕ) {xs t : List ℕ} {f : Sent} → String xs t f → name_rule t ≡ Ok tt
      → ReadBy s room (name s room o) xs (content_cell content.Text t ∷ []) (f ∷ [])
  name_read o x k = string_by_read name_rule x k o

  key_read :
      (seen : Texts) {xs t : List ℕ} {f : Sent} → String xs t f → key_rule seen t ≡ Ok tt
      → ReadBy s room (key s room seen) xs (content_cell content.Text t ∷ []) (f ∷ [])
  unfolding key
  key_read seen x k = record { reads = λ at. (string_by_read (key_rule seen) x k at).reads at }

  -- a run of items: none, and one more in front
  no_items : {f : Texts → Reader} {more : Texts → List Row → Texts} {seen : Texts} → RunBy s room f more zero seen [] [] []
  unfolding items
  no_items = record { reads = λ acc at r book R h l a i. record { rows = []; book = book; is = rw (append-nil, add-zero); realises = no_more; agrees = a } }

  more_reads :
      (f : Texts → Reader) (more : Texts → List Row → Texts) (n : ℕ) (seen seen' : Texts) (acc : List Row) (at r : ℕ) (book : Book) {to to₁ : ℕ} {us vs ws : List Cell}
      {R R₁ : List Recording} (g : Reads s (f seen at (r + length acc) book) (r + length acc) us to₁ R₁) → more seen g.rows ≡ seen'
      → ReadsOn s (items f more n seen' (acc ++ g.rows) to₁ r g.book) (acc ++ g.rows) (r + length (acc ++ g.rows)) vs to R → ws ≡ us ++ vs
      → ReadsOn s (items f more (suc n) seen acc at r book) acc (r + length acc) ws to R
  unfolding items
  more_reads f more n seen seen' acc at r book g c t e =
      let a : r + length (acc ++ g.rows) ≡ r + length acc + length g.rows = omega (arith, length-append acc g.rows) in
      record {
        rows = g.rows ++ t.rows;
        book = t.book;
        is = rw (g.is, c) (t.is ∙ rw append_assoc);
        realises = realises_append g.realises (rw a at t.realises) e;
        agrees = t.agrees;
      }

  more_items :
      {f : Texts → Reader} {more : Texts → List Row → Texts} {n : ℕ} {seen seen' : Texts} {xs ys zs : List ℕ} {us vs ws : List Cell} {fs gs hs : List Sent}
      → ReadBy s room (f seen) xs us fs → ((r : ℕ) (rows : List Row) → Realises s r rows us → more seen rows ≡ seen') → RunBy s room f more n seen' ys vs gs
      → zs ≡ xs ++ ys → ws ≡ us ++ vs → hs ≡ fs ++ gs → RunBy s room f more (suc n) seen zs ws hs
  more_items {f} {more} {n} {seen} {seen'} {xs} {ys} {zs} {us} {vs} {ws} {fs} {gs} {hs} p c q e i j =
      record {
        reads = λ acc at r book R h l a k.
            let m = ap length i ∙ length-append us vs in
            let z = ap length e ∙ length-append xs ys in
            let l' : Legal R (fs ++ gs) = rw j at l in
            let g = p.reads at (r + length acc) book R (front xs ys h e) (legal_front fs gs l') a (omega (arith, m)) in
            let b = length-append acc g.rows in
            let t = q.reads (acc ++ g.rows) (at + length xs) r g.book (after R fs) (back xs ys h e) (legal_back fs gs l') g.agrees (omega (arith, b, m, counts g.realises)) in
            let y : at + length xs + length ys ≡ at + length zs = omega (arith, z) in
            rw (j, after_append) (more_reads f more n seen seen' acc at r book g (c (r + length acc) g.rows g.realises) (rw y at t) i);
      }

  -- a count, and that many items
  counted_read :
      (kind : ℕ) {f : Texts → Reader} {more : Texts → List Row → Texts} {x i j k l n m : ℕ} {xs : List ℕ} {cs : List Cell} {fs : List Sent} → has_number kind ≡ false → has_content kind ≡ false
      → LSB n i j k l → RunBy s room f more n [] xs cs fs → m ≡ length cs
      → ReadBy s room (counted s room kind f more) (x ∷ i ∷ j ∷ k ∷ l ∷ xs) (cell kind m (holding n) ∷ cs) fs
  counted_read kind {f} {more} {x} {i} {j} {k} {l} {n} {m} {xs} {cs} {fs} p q e g z =
      opened_read 5 (omega arith) (omega arith)
      (record {
        reads = λ at r book R h le a y.
            let t = g.reads [] (at + 5) (r + 1) book R (back (x ∷ i ∷ j ∷ k ∷ l ∷ []) xs h refl) le a (omega arith) in
            let u : r + 1 + 0 ≡ r + 1 = omega arith in
            let w : Reads s (items f more n [] [] (at + 5) (r + 1) book) (r + 1) cs (at + 5 + length xs) (after R fs) =
            record { rows = t.rows; book = t.book; is = t.is; realises = rw u at t.realises; agrees = t.agrees } in
            rw (four (back (x ∷ []) (i ∷ j ∷ k ∷ l ∷ xs) h refl) e) (by refl (omega arith) (over_reads kind n r p q w z));
      })

  -- the productions
  binary_read : {xs t : List ℕ} → Binary xs t → ReadBy s room (long_item s room content.Binary) xs (content_cell content.Binary t ∷ []) []
  binary_read (binary e f k) = long_read content.Binary e f k (λ R. refl)

  binary_begins : {xs t : List ℕ} → Binary xs t → (0 < length xs) × (get_or xs 0 0 ≡ code "B")
  binary_begins (binary e f k) = (omega arith, refl)

  other_read : {xs : List ℕ} {cs : List Cell} {f : Sent} → Other xs cs f → ReadBy s room (other_item s room) xs cs (f ∷ [])
  unfolding has_number has_content
  other_read (other {xs = xs} {ys} {zs} {t} {u} {f} x k y e) =
      opened_read 1 (omega arith) (omega arith)
      (record {
        reads = λ at r book R h l a i.
            (over_read 12 2 (code "O" ∷ []) refl refl
            (pair_read (name_read at x k) (only_read (code "B") (binary_begins y).0 (binary_begins y).1 (binary_read y)) e) refl refl refl).reads at r book R h l a i;
      })

  array_begins : {d : ℕ} {xs : List ℕ} {cs : List Cell} {fs : List Sent} → Array d xs cs fs → (0 < length xs) × (get_or xs 0 0 ≡ code "A")
  array_begins (array e vs m) = (omega arith, refl)

  pub struct_begins : {d : ℕ} {xs : List ℕ} {cs : List Cell} {fs : List Sent} → Struct d xs cs fs → (0 < length xs) × (get_or xs 0 0 ≡ code "S")
  struct_begins (struct e vs m) = (omega arith, refl)

  -- the key of a pair is the text of its first row
  pub key_text_lem : (rows : List Row) {d r : ℕ} {t xs : List ℕ} {cs : List Cell} {fs : List Sent} → Pair d t xs cs fs → Realises s r rows cs → first_text s room rows ≡ t
  key_text_lem rows (pair x v e) m = first_text_lem rows content.Text m

  mutual
    unfolding tag_of has_number has_content nested alike nothing member keeping

    value_read : {d : ℕ} {xs : List ℕ} {cs : List Cell} {fs : List Sent} → Value d xs cs fs → ReadBy s room (value s room d) xs cs fs
    value_read {d} (integer_value (integer e)) = by_tag d (tag.Plain plain.Integer) (omega arith) refl (integer_read e)
    value_read {d} (boolean_value boolean_true) = by_tag d (tag.Plain plain.True) (omega arith) refl (boolean_read 1)
    value_read {d} (boolean_value boolean_false) = by_tag d (tag.Plain plain.False) (omega arith) refl (boolean_read 0)
    value_read {d} (double_value (double e k)) = by_tag d (tag.Plain plain.Double) (omega arith) refl (short_read content.Double e k)
    value_read {d} (datetime_value (datetime e k)) = by_tag d (tag.Plain plain.DateTime) (omega arith) refl (short_read content.DateTime e k)
    value_read {d} (binary_value x) = by_tag d (tag.Plain plain.Binary) (binary_begins x).0 (rw (binary_begins x).1) (binary_read x)
    value_read {d} (array_value x) = by_tag d tag.Array (array_begins x).0 (rw (array_begins x).1) (array_read x)
    value_read {d} (struct_value x) = by_tag d tag.Struct (struct_begins x).0 (rw (struct_begins x).1) (struct_read x)
    value_read {d} (string_value {f = f} x) = by_tag d (tag.String (form_of f)) (string_begins x).0 (string_begins x).1 (string_item_read x)
    value_read {d} (other_value (other x k y e)) = by_tag d (tag.Plain plain.Other) (omega arith) refl (other_read (other x k y e))

    array_read :
        {d : ℕ} {xs : List ℕ} {cs : List Cell} {fs : List Sent} → Array d xs cs fs → ReadBy s room (array_item s room (nested s room d)) xs cs fs
    array_read (array e vs m) = counted_read 9 refl refl e (values_read vs) m

    values_read : {d n : ℕ} {xs : List ℕ} {cs : List Cell} {fs : List Sent} → Values d n xs cs fs → RunBy s room (alike (value s room d)) nothing n [] xs cs fs
    values_read no_values = no_items
    values_read (more_values v vs e f g) = more_items (value_read v) (λ r rows m. refl) (values_read vs) e f g

    pub struct_read :
        {d : ℕ} {xs : List ℕ} {cs : List Cell} {fs : List Sent} → Struct d xs cs fs → ReadBy s room (struct_item s room (nested s room d)) xs cs fs
    struct_read (struct e ps m) = counted_read 10 refl refl e (pairs_read ps) m

    pairs_read :
        {d n : ℕ} {seen : Texts} {xs : List ℕ} {cs : List Cell} {fs : List Sent} → Pairs d seen n xs cs fs
        → RunBy s room (member s room (value s room d)) (keeping s room) n seen xs cs fs
    pairs_read no_pairs = no_items
    pairs_read {seen = seen} (more_pairs p k ps e f g) =
        more_items (member_read p seen k) (λ r rows m. rw (key_text_lem rows p m)) (pairs_read ps) e f g

    pub member_read :
        {d : ℕ} {t xs : List ℕ} {cs : List Cell} {fs : List Sent} → Pair d t xs cs fs → (seen : Texts) → key_rule seen t ≡ Ok tt
        → ReadBy s room (member s room (value s room d) seen) xs cs fs
    member_read (pair x v e) seen k = pair_read (key_read seen x k) (value_read v) e

  call_read : {d : ℕ} {xs : List ℕ} {cs : List Cell} {fs : List Sent} → Call d xs cs fs → ReadBy s room (call_item s room d) xs cs fs
  unfolding has_number has_content
  call_read (call x y e m) =
      opened_read 1 (omega arith) (omega arith)
      (over_read 1 2 (code "C" ∷ []) refl refl
      (pair_read (string_read x) (only_read (code "A") (array_begins y).0 (array_begins y).1 (array_read y)) e) m refl refl)

  -- no Value begins with 'F'
  value_begins : {d : ℕ} {xs : List ℕ} {cs : List Cell} {fs : List Sent} → Value d xs cs fs → (0 < length xs) × (eqb (get_or xs 0 0) (code "F") ≡ false)
  value_begins (integer_value (integer e)) = (omega arith, refl)
  value_begins (boolean_value boolean_true) = (omega arith, refl)
  value_begins (boolean_value boolean_false) = (omega arith, refl)
  value_begins (double_value (double e k)) = (omega arith, refl)
  value_begins (datetime_value (datetime e k)) = (omega arith, refl)
  value_begins (binary_value (binary e f k)) = (omega arith, refl)
  value_begins (array_value (array e vs m)) = (omega arith, refl)
  value_begins (struct_value (struct e vs m)) = (omega arith, refl)
  value_begins (string_value (regular_string x)) = (omega arith, refl)
  value_begins (string_value (recorded_string x)) = (omega arith, refl)
  value_begins (string_value recalled_string) = (omega arith, refl)
  value_begins (other_value (other x k y e)) = (omega arith, refl)

  -- a fault's Struct that keeps its rule
  fault_read :
      {d : ℕ} {xs : List ℕ} {cs : List Cell} {fs : List Sent} → Struct d xs cs fs → fault_rule (held_cells (below cs)) ≡ Ok tt
      → ReadBy s room (fault_struct s room d) xs cs fs
  unfolding fault_struct
  fault_read x k =
      record {
        reads = λ at r book R h l a i.
            let g = (only_read (code "S") (struct_begins x).0 (struct_begins x).1 (struct_read x)).reads at r book R h l a i in
            by (rw (g.is, held_below g.realises, k)) refl
            (record { rows = g.rows; book = g.book; is = refl; realises = g.realises; agrees = g.agrees });
      }

  -- what stands after 'R': a Value, or 'F' and a Struct
  response_read : {d : ℕ} {xs : List ℕ} {cs : List Cell} {fs : List Sent} → Response d xs cs fs → ReadBy s room (response_item s room d) xs cs fs
  unfolding has_number has_content
  response_read (value_response {xs = xs} v m) =
      opened_read 1 (omega arith) (omega arith)
      (record {
        reads = λ at r book R h l a i.
            let b = back (code "R" ∷ []) xs h refl in
            by (present_is (at + 1) _ (omega (arith, ends b, (value_begins v).0)) ∙ rw (first_of b (value_begins v).0, (value_begins v).1)) refl
            ((over_read 2 1 (code "R" ∷ []) refl refl (value_read v) m refl refl).reads at r book R h l a i);
      })
  response_read (fault_response (fault {xs = xs} x k) m) =
      opened_read 1 (omega arith) (omega arith)
      (record {
        reads = λ at r book R h l a i.
            by (present_is (at + 1) _ (omega (arith, ends h)) ∙ rw (second h)) refl
            ((over_read 3 1 (code "R" ∷ code "F" ∷ []) refl refl (fault_read x k) m refl refl).reads at r book R h l a i);
      })

  call_begins : {d : ℕ} {xs : List ℕ} {cs : List Cell} {fs : List Sent} → Call d xs cs fs → (0 < length xs) × (get_or xs 0 0 ≡ code "C")
  call_begins (call x y e m) = (omega arith, refl)

  response_begins : {d : ℕ} {xs : List ℕ} {cs : List Cell} {fs : List Sent} → Response d xs cs fs → (0 < length xs) × (get_or xs 0 0 ≡ code "R")
  response_begins (value_response v m) = (omega arith, refl)
  response_begins (fault_response x m) = (omega arith, refl)

  whole_call : {d : ℕ} {xs : List ℕ} {cs : List Cell} {fs : List Sent} → Call d xs cs fs → ReadBy s room (call_or_response s room d) xs cs fs
  unfolding call_or_response
  whole_call x =
      record {
        reads = λ at r book R h l a i.
            by (present_is at _ (omega (arith, ends h, (call_begins x).0)) ∙ rw (first_of h (call_begins x).0, (call_begins x).1)) refl
            ((call_read x).reads at r book R h l a i);
      }

  whole_response : {d : ℕ} {xs : List ℕ} {cs : List Cell} {fs : List Sent} → Response d xs cs fs → ReadBy s room (call_or_response s room d) xs cs fs
  unfolding call_or_response
  whole_response x =
      record {
        reads = λ at r book R h l a i.
            by (present_is at _ (omega (arith, ends h, (response_begins x).0)) ∙ rw (first_of h (response_begins x).0, (response_begins x).1)) refl
            ((response_read x).reads at r book R h l a i);
      }

-- the prefix
pub agree_front : (xs ys : List ℕ) → agree (xs ++ ys) xs ≡ true
unfolding agree
agree_front [] [] = refl
agree_front [] (y ∷ ys) = refl
agree_front (x ∷ xs) ys = rw (eq-eqb x x refl) (agree_front xs ys)

message_is : {s : List ℕ} (room d : ℕ) → Here s 0 prefix → message s room d ≡ call_or_response s room d 12 0 clear
unfolding message
message_is {s} room d h =
    let e : s ≡ prefix ++ h.rest = h.from in
    rw (le-leb 12 (length s) (ends h)) (rw (e, agree_front prefix h.rest))

-- the Call or Response behind the prefix
from_prefix :
    {s : List ℕ} {room : ℕ} (d : ℕ) {xs zs : List ℕ} {cs : List Cell} {fs : List Sent} → ReadBy s room (call_or_response s room d) xs cs fs
    → Here s 0 zs → zs ≡ prefix ++ xs → Legal [] fs → length cs ≤ room → Reads s (message s room d) 0 cs (length zs) (after [] fs)
from_prefix {s} {room} d {xs} {zs} g h e l k =
    by (message_is room d (front prefix xs h e)) (omega (arith, ap length e))
    (g.reads 12 0 clear [] (back prefix xs h e) l agrees_clear (omega arith))

-- what the grammar derives is read, whatever follows it
pub complete :
    {d : ℕ} {zs : List ℕ} {cs : List Cell} {fs : List Sent} → Message d zs cs fs → Legal [] fs → (s : List ℕ) (room : ℕ) → Here s 0 zs
    → length cs ≤ room → Reads s (message s room d) 0 cs (length zs) (after [] fs)
complete {d} (call_message x e) l s room h k = from_prefix d (whole_call s room x) h e l k
complete {d} (response_message x e) l s room h k = from_prefix d (whole_response s room x) h e l k
