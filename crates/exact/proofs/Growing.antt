-- With more room, more nesting or more bytes at the end, an answer stays unless it said that there was too little: one law for each combinator
-- of reading. Assumes nothing.
use mathlib.Core.Path.{◌≡◌, refl, sym, ap, ◌∙◌}
use mathlib.Core.Bool.{Bool, true, false, ◌&&◌, cond}
use mathlib.Core.List.{List, [], ◌∷◌, ◌++◌, append-nil}
use Prim.Native.Nat.{ℕ, zero, suc, ◌+◌, ◌≤◌, ◌<◌}
use Prim.Native.Char.{code}
use native.Mathlib.Omega.{arith}
use lib.Dec.{eqb, ltb, leb}
use lib.ListN.{length, drop, length-append, length-drop, get_or-append}
use lib.Seq.{take-append-le, drop-append-le}
use borrow.Author.Tests.{ltb-true, ltb-false, leb-true, leb-false, lt-ltb, le-leb, eqb-true}
use Rattle.text.specs.Utf8.{well_formed}
use Rattle.text.proofs.Comparing.{clash}
use Rattle.text.specs.Texts.{ascii, among, standard_name}
use Rattle.lexical.specs.Double.{is_double}
use Rattle.lexical.specs.DateTime.{is_date_time}
use Rattle.draft.specs.declared.Refusal.{Refusal}
use Rattle.draft.specs.declared.Refusal.TheVariants.{Ended, WrongPrefix, UnexpectedByte, BadText, UnsetPosition, StandardName, TooDeep, NoRow, TooLong, NotWritable, FormTooLong, OutputTooShort, BadFault, BadValue, RepeatedKey, NoLimit}
use Rattle.draft.specs.declared.Row.{Row}
use Rattle.draft.specs.Verdict.{Verdict}
use Rattle.std.specs.Prelude.{Ok, Err}
use Rattle.draft.specs.declared.Content.{Content}
use Rattle.draft.specs.declared.Content.TheVariants as content
use Rattle.draft.specs.declared.Tag.{Tag}
use Rattle.draft.specs.declared.Tag.TheVariants as tag
use Rattle.draft.specs.declared.Plain.TheVariants as plain
use Rattle.draft.specs.declared.Form.{Form}
use Rattle.draft.specs.declared.Form.TheVariants.{Regular, Recorded, Recalled}
use Rattle.std.specs.Prelude.{Some, None}
use Rattle.draft.specs.Bytes.{bytes, byte_at, unsigned_at, part}
use Rattle.draft.specs.Rows.{below}
use Rattle.draft.specs.Content.{content_rule, fine_if, ascii_then, bad_if, all_there, verdict, name_rule, key_rule, Held, is_fault, fault_rule}
use Rattle.wanting.specs.Want.{fields_of, announced, want_of}
use Rattle.wanting.proofs.Wanting.{want_none, want_fields, want_content}
use Rattle.draft.specs.Codebook.{Entry, Book, clear, recorded as record-text}
use Rattle.draft.specs.Grammar.{Payload, Cell, Sent, Recording, after, Value, pair}
use Rattle.draft.specs.Meaning.{Realises, no_more, and_then, means, Says, says_holding, says_number, says_contents}
use Rattle.draft.specs.Read.{Reading, got, refused, then, judged, Reader, behind, over, pair as read-pair, items, alike, tag_of, Nest, floor, under, present, opened, contents as read-contents, short_item, long_item, recalled as recalledEntry, string_item, if_string, string as read-string, only, first_text, string_by, name, Texts, nothing, key, member, keeping, other_item, counted, array_item, struct_item, item, value, nested, call_item, held_rows, fault_struct, response_item, call_or_response, prefix, agree, message}
use Rattle.exact.proofs.Replaying.{Agrees, agrees_clear}
use Rattle.exact.proofs.Realising.{held_below}
use Rattle.exact.proofs.Completing.{value_is}
use Rattle.exact.proofs.Deriving.{Production, Sound, OneString, one_string, Member, a_member, string_sound, only_sound, name_sound, key_sound, member_sound, alike_sound, value_sound, struct_sound}

-- which limits may be higher
pub record Raised : Type 0 where
  pub nesting : Bool
  pub room : Bool

-- what says that there is too little: nesting or room only if there may be more of it; bytes only if there may be more of them, and are as many as
-- are wanted
pub data TooLittle (more : Bool) (limits : Raised) (s s' : List ℕ) : Refusal → ℕ → Type 0 where
  little_nesting : {at : ℕ} → limits.nesting ≡ true → TooLittle more limits s s' TooDeep at
  little_room : {at : ℕ} → limits.room ≡ true → TooLittle more limits s s' NoRow at
  few_bytes : {at : ℕ} → more ≡ true → want_of s at ≤ length s' → TooLittle more limits s s' Ended at

-- what reading a message says, without the test of the number of bytes
abbrev pub OfReading : Refusal → Type 0
OfReading Ended = Unit {0}
OfReading WrongPrefix = Unit {0}
OfReading UnexpectedByte = Unit {0}
OfReading BadText = Unit {0}
OfReading UnsetPosition = Unit {0}
OfReading StandardName = Unit {0}
OfReading TooDeep = Unit {0}
OfReading NoRow = Unit {0}
OfReading TooLong = ⊥
OfReading NotWritable = ⊥
OfReading FormTooLong = ⊥
OfReading OutputTooShort = ⊥
OfReading BadFault = Unit {0}
OfReading BadValue = Unit {0}
OfReading RepeatedKey = Unit {0}
OfReading NoLimit = ⊥

-- an answer, and the answer when there is more: acceptance stays, and so does a refusal that does not say that there is too little
pub data Stays (more : Bool) (limits : Raised) (s s' : List ℕ) : Reading → Reading → Type 0 where
  accepts : {rows : List Row} {to : ℕ} {book : Book} → Stays more limits s s' (got rows to book) (got rows to book)
  refuses : {m : Refusal} {at : ℕ} → OfReading m → Stays more limits s s' (refused m at) (refused m at)
  changes : {m : Refusal} {at : ℕ} {o : Reading} → TooLittle more limits s s' m at → Stays more limits s s' (refused m at) o

-- the same bytes, with more behind them if there may be more
pub record Longer (more : Bool) (s s' : List ℕ) : Type 0 where
  pub rest : List ℕ
  pub is : s' ≡ s ++ rest
  pub none : more ≡ false → rest ≡ []

pub no_longer : (s : List ℕ) → Longer false s s
no_longer s = record { rest = []; is = sym (append-nil s); none = λ e. refl }

pub longer : (s ys : List ℕ) → Longer true s (s ++ ys)
longer s ys = record { rest = ys; is = refl; none = λ e. clash refl e }

module _ {more : Bool} {s s' : List ℕ} (l : Longer more s s') where
  least : length s ≤ length s'
  least = omega (arith, ap length l.is ∙ length-append s l.rest)

  same_byte : (i : ℕ) → i < length s → byte_at s' i ≡ byte_at s i
  same_byte i h = rw l.is (get_or-append s l.rest 0 i h)

  same_part : (o n : ℕ) → o + n ≤ length s → part s' o n ≡ part s o n
  same_part o n h = rw (l.is, drop-append-le o s l.rest (omega arith)) (take-append-le n (drop o s) l.rest (omega (arith, length-drop o s)))

  same_short : length s' ≤ length s → s' ≡ s
  same_short h = l.is ∙ rw (none l.rest (omega (arith, ap length l.is ∙ length-append s l.rest))) (append-nil s)
    where
      none : (ys : List ℕ) → length ys ≤ 0 → ys ≡ []
      none [] k = refl
      none (y ∷ ys) k = absurd (omega arith)

  same_all : more ≡ false → s' ≡ s
  same_all e = l.is ∙ rw (l.none e) (append-nil s)

  cut : (limits : Raised) (n at : ℕ) → want_of s at ≤ n → length s < n → n ≤ length s' → TooLittle more limits s s' Ended at
  cut limits n at w h k = go more refl
    where
      go : (m : Bool) → more ≡ m → TooLittle more limits s s' Ended at
      go true e = few_bytes {at = at} e (omega arith)
      go false e = absurd (omega (arith, ap length (same_all e)))

module _ {more : Bool} {limits : Raised} {s s' : List ℕ} where
  then_stays :
      {o o' : Reading} {k k' : List Row → ℕ → Book → Reading} → Stays more limits s s' o o'
      → ((rows : List Row) (at : ℕ) (book : Book) → o ≡ got rows at book → Stays more limits s s' (k rows at book) (k' rows at book))
      → Stays more limits s s' (then o k) (then o' k')
  then_stays (accepts {rows} {to} {book}) h = h rows to book refl
  then_stays (refuses e) h = refuses e
  then_stays (changes e) h = changes e

  behind_stays : (rows : List Row) {o o' : Reading} → Stays more limits s s' o o' → Stays more limits s s' (behind rows o) (behind rows o')
  behind_stays rows accepts = accepts
  behind_stays rows (refuses e) = refuses e
  behind_stays rows (changes e) = changes e

  over_stays : (kind b r : ℕ) {o o' : Reading} → Stays more limits s s' o o' → Stays more limits s s' (over kind b r o) (over kind b r o')
  over_stays kind b r accepts = accepts
  over_stays kind b r (refuses e) = refuses e
  over_stays kind b r (changes e) = changes e

  pick_stays : (b : Bool) {o o' u u' : Reading} → Stays more limits s s' o o' → Stays more limits s s' u u' → Stays more limits s s' (cond b o u) (cond b o' u')
  pick_stays true h k = h
  pick_stays false h k = k

  pick_stays_if : (b : Bool) {o o' u u' : Reading} → (b ≡ true → Stays more limits s s' o o') → Stays more limits s s' u u' → Stays more limits s s' (cond b o u) (cond b o' u')
  pick_stays_if true h k = h refl
  pick_stays_if false h k = k

  -- a test of the bytes' number
  enough_stays :
      (at : ℕ) (b b' : Bool) {o o' : Reading} → (b ≡ true → (b' ≡ true) × Stays more limits s s' o o') → (b ≡ false → b' ≡ true → TooLittle more limits s s' Ended at)
      → Stays more limits s s' (cond b o (refused Ended at)) (cond b' o' (refused Ended at))
  enough_stays at true true h k = (h refl).1
  enough_stays at true false h k = clash (h refl).0 refl
  enough_stays at false true h k = changes (k refl refl)
  enough_stays at false false h k = refuses {m = Ended} tt

-- the rules give such alone
fine_of : (b : Bool) (m : Refusal) {n : Refusal} → OfReading m → fine_if b m ≡ Err n → OfReading n
fine_of true m h e = let z : ◌≡◌ {A = ℕ} 0 1 = cc in absurd (omega arith)
fine_of false m {n} h e = let i : m ≡ n = cc in rw i at h

bad_of : (b : Bool) (m : Refusal) {n : Refusal} → OfReading m → bad_if b m ≡ Err n → OfReading n
bad_of true m {n} h e = let i : m ≡ n = cc in rw i at h
bad_of false m h e = let z : ◌≡◌ {A = ℕ} 0 1 = cc in absurd (omega arith)

ascii_of : (a b : Bool) {n : Refusal} → ascii_then a b ≡ Err n → OfReading n
ascii_of true b e = fine_of b BadValue tt e
ascii_of false b e = fine_of false BadText tt e

content_of : (c : Content) (t : List ℕ) {m : Refusal} → content_rule c t ≡ Err m → OfReading m
unfolding content_rule
content_of content.Double t e = ascii_of (ascii t) (is_double t) e
content_of content.DateTime t e = ascii_of (ascii t) (is_date_time t) e
content_of content.Binary t e = let z : ◌≡◌ {A = ℕ} 0 1 = cc in absurd (omega arith)
content_of content.Text t e = fine_of (well_formed t) BadText tt e

name_of : (t : List ℕ) {m : Refusal} → name_rule t ≡ Err m → OfReading m
unfolding name_rule
name_of t e = bad_of (standard_name t) StandardName tt e

key_of : (seen : Texts) (t : List ℕ) {m : Refusal} → key_rule seen t ≡ Err m → OfReading m
unfolding key_rule
key_of seen t e = bad_of (among seen t) RepeatedKey tt e

fault_of : (items : List Held) {m : Refusal} → fault_rule items ≡ Err m → OfReading m
unfolding fault_rule
fault_of items e = fine_of (is_fault items) BadFault tt e

judged_stays :
    {more : Bool} {limits : Raised} {s s' : List ℕ} (v : Verdict) (at : ℕ) (rows : List Row) (to : ℕ) (book : Book) → ((m : Refusal) → v ≡ Err m → OfReading m)
    → Stays more limits s s' (judged v at (got rows to book)) (judged v at (got rows to book))
judged_stays (Ok tt) at rows to book h = accepts
judged_stays (Err m) at rows to book h = refuses (h m refl)

there_is : (b : Bool) (v : Verdict) (at : ℕ) (o : Reading) → judged (all_there b v) at o ≡ cond b (judged v at o) (refused Ended at)
there_is true v at o = refl
there_is false v at o = refl

-- the prefix, over as many bytes as are present
agree_off : (s ys p : List ℕ) → agree s p ≡ false → agree (s ++ ys) p ≡ false
unfolding agree
agree_off [] ys p e = clash refl e
agree_off (x ∷ s) ys [] e = e
agree_off (x ∷ s) ys (y ∷ p) e = go (eqb x y) e (agree_off s ys p)
  where
    go : (b : Bool) → b && agree s p ≡ false → (agree s p ≡ false → agree (s ++ ys) p ≡ false) → b && agree (s ++ ys) p ≡ false
    go true e h = h e
    go false e h = refl

agree_on : (s ys p : List ℕ) → agree s p ≡ true → length p ≤ length s → agree (s ++ ys) p ≡ true
unfolding agree
agree_on [] [] [] e h = refl
agree_on [] (y ∷ ys) [] e h = refl
agree_on [] ys (y ∷ p) e h = absurd (omega arith)
agree_on (x ∷ s) ys [] e h = refl
agree_on (x ∷ s) ys (y ∷ p) e h = go (eqb x y) e (λ i. agree_on s ys p i (omega arith))
  where
    go : (b : Bool) → b && agree s p ≡ true → (agree s p ≡ true → agree (s ++ ys) p ≡ true) → b && agree (s ++ ys) p ≡ true
    go true e h = h e
    go false e h = e

tag_b : tag_of (code "b") ≡ tag.Unknown
unfolding tag_of
tag_b = refl

-- no more than one byte is wanted in the prefix
want_prefix : (s : List ℕ) → agree s prefix ≡ true → want_of s 0 ≤ length s + 1
unfolding agree
want_prefix [] e = omega (arith, want_none [] 0 (omega arith))
want_prefix (x ∷ s) e = by (eqb x (code "b")) refl e
  where
    by : (b : Bool) → eqb x (code "b") ≡ b → b && agree s (bytes "inmode-rpc:") ≡ true → want_of (x ∷ s) 0 ≤ length (x ∷ s) + 1
    by true f g = omega (arith, want_content (x ∷ s) 0 tag.Unknown (ap tag_of (eqb-true x (code "b") f) ∙ tag_b) (omega arith) (omega arith))
    by false f g = clash g refl

tag_binary : tag_of (code "B") ≡ tag.Plain plain.Binary
unfolding tag_of
tag_binary = refl

tag_array : tag_of (code "A") ≡ tag.Array
unfolding tag_of
tag_array = refl

tag_struct : tag_of (code "S") ≡ tag.Struct
unfolding tag_of
tag_struct = refl

-- a message's bytes and room, and those when there is more
module _ {more : Bool} (limits : Raised) (s s' : List ℕ) (room room' : ℕ) (l : Longer more s s') (k : room ≤ room') (k' : limits.room ≡ false → room' ≤ room) where
  -- what makes a difference in the limits
  roomier : (r : ℕ) → room ≤ r → r < room' → limits.room ≡ true
  roomier r h j = by limits.room refl
    where
      by : (b : Bool) → limits.room ≡ b → limits.room ≡ true
      by true e = e
      by false e = let i = k' e in absurd (omega arith)

  deeper : (d : ℕ) → (limits.nesting ≡ false → suc d ≤ 0) → limits.nesting ≡ true
  deeper d h = by limits.nesting refl
    where
      by : (b : Bool) → limits.nesting ≡ b → limits.nesting ≡ true
      by true e = e
      by false e = let i = h e in absurd (omega arith)

  present_stays : (at : ℕ) {o o' : Reading} → (at < length s → Stays more limits s s' o o') → Stays more limits s s' (present s room at o) (present s' room' at o')
  present_stays at h =
      enough_stays at (ltb at (length s)) (ltb at (length s'))
      (λ e. let i = ltb-true at (length s) e in (lt-ltb at (length s') (omega (arith, least l)), h i))
      (λ e f. cut l limits (suc at) at (omega (arith, want_none s at (ltb-false at (length s) e), ltb-false at (length s) e)) (omega (arith, ltb-false at (length s) e)) (ltb-true at (length s') f))

  there_stays :
      (n at : ℕ) {o o' : Reading} → (length s < n → want_of s at ≤ n) → (n ≤ length s → Stays more limits s s' o o')
      → Stays more limits s s' (cond (leb n (length s)) o (refused Ended at)) (cond (leb n (length s')) o' (refused Ended at))
  there_stays n at w h =
      enough_stays at (leb n (length s)) (leb n (length s'))
      (λ e. let i = leb-true n (length s) e in (le-leb n (length s') (omega (arith, least l)), h i))
      (λ e f. cut l limits n at (w (leb-false n (length s) e)) (leb-false n (length s) e) (leb-true n (length s') f))

  opened_stays :
      (size at r : ℕ) {o o' : Reading} → (length s < at + size → want_of s at ≤ at + size) → (at + size ≤ length s → Stays more limits s s' o o')
      → Stays more limits s s' (opened s room size at r o) (opened s' room' size at r o')
  opened_stays size at r {o} {o'} w h = go (ltb r room) refl
    where
      go :
          (b : Bool) → ltb r room ≡ b
          → Stays more limits s s' (cond b (cond (leb (at + size) (length s)) o (refused Ended at)) (refused NoRow at)) (opened s' room' size at r o')
      go true e = rw (lt-ltb r room' (omega (arith, ltb-true r room e))) (there_stays (at + size) at w h)
      go false e = fuller (ltb r room') refl
        where
          fuller :
              (b : Bool) → ltb r room' ≡ b
              → Stays more limits s s' (refused NoRow at) (cond b (cond (leb (at + size) (length s')) o' (refused Ended at)) (refused NoRow at))
          fuller true f = changes (little_room (roomier r (ltb-false r room e) (ltb-true r room' f)))
          fuller false f = refuses {m = NoRow} tt

  contents_stays :
      (c : Content) (o n at r : ℕ) (book : Book) → (length s < o + n → want_of s at ≤ o + n) → Stays more limits s s' (read-contents s room c o n at r book) (read-contents s' room' c o n at r book)
  unfolding verdict read-contents
  contents_stays c o n at r book w =
      rw (there_is (leb (o + n) (length s)), there_is (leb (o + n) (length s')))
      (there_stays (o + n) at w (λ i. rw (same_part l o n i) (judged_stays (content_rule c (part s o n)) at _ _ _ (λ m. content_of c (part s o n)))))

  unsigned_same : (at : ℕ) → at + 4 ≤ length s → unsigned_at s' at ≡ unsigned_at s at
  unsigned_same at h = rw (same_byte l at (omega arith), same_byte l (at + 1) (omega arith), same_byte l (at + 2) (omega arith), same_byte l (at + 3) (omega arith))

  recalled_stays : (x : Entry) (at r : ℕ) (book : Book) → Stays more limits s s' (recalledEntry s room x at r book) (recalledEntry s' room' x at r book)
  recalled_stays None at r book = refuses {m = UnsetPosition} tt
  recalled_stays (Some x) at r book = accepts

  short_stays :
      (c : Content) (at r : ℕ) (book : Book) → (length s < at + 2 → want_of s at ≤ at + 2)
      → (at + 2 ≤ length s → want_of s at ≤ at + 2 + byte_at s (at + 1)) → Stays more limits s s' (short_item s room c at r book) (short_item s' room' c at r book)
  short_stays c at r book w v =
      opened_stays 2 at r w
      (λ h. rw (same_byte l (at + 1) (omega arith)) (contents_stays c (at + 2) (byte_at s (at + 1)) at r book (λ k. v h)))

  long_stays :
      (c : Content) (at r : ℕ) (book : Book) → (length s < at + 5 → want_of s at ≤ at + 5)
      → (at + 5 ≤ length s → want_of s at ≤ at + 5 + unsigned_at s (at + 1)) → Stays more limits s s' (long_item s room c at r book) (long_item s' room' c at r book)
  long_stays c at r book w v =
      opened_stays 5 at r w
      (λ h. rw (unsigned_same (at + 1) (omega arith)) (contents_stays c (at + 5) (unsigned_at s (at + 1)) at r book (λ k. v h)))

  -- the item at a place, by its tag: its fields and its content end where they are wanted
  record Tagged (t : Tag) (at : ℕ) : Type 0 where
    tagged : tag_of (byte_at s at) ≡ t
    there : at < length s

  fields_end : (t : Tag) (at : ℕ) → Tagged t at → length s < at + fields_of t → want_of s at ≤ at + fields_of t
  fields_end t at g h = omega (arith, want_fields s at t g.tagged g.there h)

  content_ends : (t : Tag) (at : ℕ) → Tagged t at → at + fields_of t ≤ length s → want_of s at ≤ at + fields_of t + announced s at t
  content_ends t at g h = omega (arith, want_content s at t g.tagged g.there h)

  string_item_stays : (form : Form) (at r : ℕ) (book : Book) → Tagged (tag.String form) at → Stays more limits s s' (string_item s room form at r book) (string_item s' room' form at r book)
  string_item_stays Regular at r book g =
      long_stays content.Text at r book (fields_end (tag.String Regular) at g) (content_ends (tag.String Regular) at g)
  string_item_stays Recorded at r book g =
      opened_stays 6 at r (fields_end (tag.String Recorded) at g)
      (λ h.
      let n = unsigned_at s (at + 2) in
      rw (same_byte l (at + 1) (omega arith), unsigned_same (at + 2) (omega arith))
      (contents_stays content.Text (at + 6) n at r (record-text book (byte_at s (at + 1)) (at + 6) n) (λ k. content_ends (tag.String Recorded) at g h)))
  string_item_stays Recalled at r book g = opened_stays 2 at r (fields_end (tag.String Recalled) at g) (λ h. rw (same_byte l (at + 1) (omega arith)) (recalled_stays (book (byte_at s (at + 1))) at r book))

  -- two readers, of which the second has more
  record Grows (f f' : Reader) : Type 0 where
    stays : (at r : ℕ) (book : Book) (R : List Recording) → Agrees s book R → Stays more limits s s' (f at r book) (f' at r book)

  -- the same where an item of a tag stands, and where any byte stands
  record GrowsAt (t : Tag) (f f' : Reader) : Type 0 where
    stays : (at r : ℕ) (book : Book) (R : List Recording) → Agrees s book R → Tagged t at → Stays more limits s s' (f at r book) (f' at r book)

  record GrowsThere (f f' : Reader) : Type 0 where
    stays : (at r : ℕ) (book : Book) (R : List Recording) → Agrees s book R → at < length s → Stays more limits s s' (f at r book) (f' at r book)

  string_grows : Grows (read-string s room) (read-string s' room')
  unfolding read-string
  string_grows =
      record { stays = λ at r book R a. present_stays at (λ h. rw (same_byte l at h) (go (tag_of (byte_at s at)) at r book (record { tagged = refl; there = h }))) }
    where
      go : (t : Tag) (at r : ℕ) (book : Book) → Tagged t at → Stays more limits s s' (if_string s room t at r book) (if_string s' room' t at r book)
      go (tag.String form) at r book g = string_item_stays form at r book g
      go (tag.Plain x) at r book g = refuses {m = UnexpectedByte} tt
      go tag.Array at r book g = refuses {m = UnexpectedByte} tt
      go tag.Struct at r book g = refuses {m = UnexpectedByte} tt
      go tag.Unknown at r book g = refuses {m = UnexpectedByte} tt

  only_grows : (b : ℕ) (t : Tag) → tag_of b ≡ t → {f f' : Reader} → GrowsAt t f f' → Grows (only s room b f) (only s' room' b f')
  unfolding only
  only_grows b t i g =
      record { stays = λ at r book R a. present_stays at (λ h. rw (same_byte l at h) (pick_stays_if (eqb (byte_at s at) b) (λ e. g.stays at r book R a (record { tagged = ap tag_of (eqb-true (byte_at s at) b e) ∙ i; there = h })) (refuses {m = UnexpectedByte} tt))) }

  -- the text of a String that was read lies in the bytes
  first_same :
      {r : ℕ} (rows : List Row) {used : List ℕ} {cells : List Cell} {sents : List Sent} → OneString used cells sents → Realises s r rows cells
      → first_text s' room' rows ≡ first_text s room rows
  first_same [] y m = refl
  first_same (x ∷ rows) (one_string y) (and_then (means i j (says_contents p q e)) m) = same_part l x.a x.b q

  string_by_grows : (rule : List ℕ → Verdict) (o : ℕ) → ((t : List ℕ) (m : Refusal) → rule t ≡ Err m → OfReading m) → Grows (string_by s room rule o) (string_by s' room' rule o)
  unfolding string_by
  string_by_grows rule o of =
      record {
        stays = λ at r book R a.
            then_stays (string_grows.stays at r book R a)
            (λ rows to book' e.
            let h = (string_sound s room).derived at r book R rows to book' e a in
            rw (first_same rows h.derives h.realises)
            (judged_stays (rule (first_text s room rows)) o rows to book' (of (first_text s room rows))));
      }

  name_grows : (o : ℕ) → Grows (name s room o) (name s' room' o)
  name_grows o = string_by_grows name_rule o (λ t m. name_of t)

  key_grows : (seen : Texts) → Grows (key s room seen) (key s' room' seen)
  unfolding key
  key_grows seen = record { stays = λ at. (string_by_grows (key_rule seen) at (λ t m. key_of seen t)).stays at }

  -- the key of a pair that was read lies in the bytes
  keeps_same :
      {d r : ℕ} {seen : Texts} (rows : List Row) {used : List ℕ} {cells : List Cell} {sents : List Sent} → Member d seen used cells sents → Realises s r rows cells
      → keeping s' room' seen rows ≡ keeping s room seen rows
  unfolding keeping
  keeps_same [] y m = refl
  keeps_same (x ∷ rows) (a_member (pair y v z) k) (and_then (means i j (says_contents p q e)) m) = rw (same_part l x.a x.b q)

  pair_grows :
      {P : Production} {f f' g g' : Reader} → Sound s room f P → Grows f f' → Grows g g'
      → Grows (read-pair f g) (read-pair f' g')
  unfolding read-pair
  pair_grows sound p q =
      record {
        stays = λ at r book R a.
            then_stays (p.stays at r book R a)
            (λ rows to book' e.
            let h = sound.derived at r book R rows to book' e a in
            behind_stays rows (q.stays to (r + length rows) book' (after R h.sents) h.agrees));
      }

  -- n items, where what is kept of each is the same
  module _
      (P : Texts → Production) {f f' : Texts → Reader} {more_of more-of' : Texts → List Row → Texts} (sound : (seen : Texts) → Sound s room (f seen) (P seen))
      (p : (seen : Texts) → Grows (f seen) (f' seen))
      (same : (seen : Texts) (r : ℕ) (rows : List Row) (used : List ℕ) (cells : List Cell) (sents : List Sent) → P seen used cells sents → Realises s r rows cells
      → more-of' seen rows ≡ more_of seen rows)
    where
      items_stay :
          (n : ℕ) (seen : Texts) (acc : List Row) (at r : ℕ) (book : Book) (R : List Recording) → Agrees s book R
          → Stays more limits s s' (items f more_of n seen acc at r book) (items f' more-of' n seen acc at r book)
      unfolding items
      items_stay zero seen acc at r book R a = accepts
      items_stay (suc n) seen acc at r book R a =
          then_stays ((p seen).stays at (r + length acc) book R a)
          (λ rows to book' e.
          let h = (sound seen).derived at (r + length acc) book R rows to book' e a in
          rw (same seen (r + length acc) rows h.used h.cells h.sents h.derives h.realises)
          (items_stay n (more_of seen rows) (acc ++ rows) to r book' (after R h.sents) h.agrees))

      counted_grows : (kind : ℕ) (t : Tag) → fields_of t ≡ 5 → GrowsAt t (counted s room kind f more_of) (counted s' room' kind f' more-of')
      counted_grows kind t five =
          record {
            stays = λ at r book R a g.
                opened_stays 5 at r (λ k. omega (arith, five, fields_end t at g (omega (arith, five))))
                (λ h. rw (unsigned_same (at + 1) (omega arith)) (over_stays kind (unsigned_at s (at + 1)) r (items_stay (unsigned_at s (at + 1)) [] [] (at + 5) (r + 1) book R a)));
          }

  binary_grows : GrowsAt (tag.Plain plain.Binary) (long_item s room content.Binary) (long_item s' room' content.Binary)
  binary_grows =
      record {
        stays = λ at r book R a g.
            long_stays content.Binary at r book (fields_end (tag.Plain plain.Binary) at g) (content_ends (tag.Plain plain.Binary) at g);
      }

  other_grows : GrowsThere (other_item s room) (other_item s' room')
  other_grows =
      record {
        stays = λ at r book R a i.
            opened_stays 1 at r (λ k. absurd (omega arith))
            (λ h. over_stays 12 2 r ((pair_grows (name_sound s room at) (name_grows at) (only_grows (code "B") (tag.Plain plain.Binary) tag_binary binary_grows)).stays (at + 1) (r + 1) book R a));
      }

  -- a Value by its tag
  item_stays :
      (nest nest' : Nest) → GrowsAt tag.Array (array_item s room nest) (array_item s' room' nest') → GrowsAt tag.Struct (struct_item s room nest) (struct_item s' room' nest')
      → (t : Tag) (at r : ℕ) (book : Book) (R : List Recording) → Agrees s book R → Tagged t at
      → Stays more limits s s' (item s room t nest at r book) (item s' room' t nest' at r book)
  item_stays nest nest' p q (tag.Plain plain.Integer) at r book R a g =
      opened_stays 5 at r (fields_end (tag.Plain plain.Integer) at g) (λ h. rw (unsigned_same (at + 1) (omega arith)) accepts)
  item_stays nest nest' p q (tag.Plain plain.True) at r book R a g = opened_stays 1 at r (fields_end (tag.Plain plain.True) at g) (λ h. accepts)
  item_stays nest nest' p q (tag.Plain plain.False) at r book R a g = opened_stays 1 at r (fields_end (tag.Plain plain.False) at g) (λ h. accepts)
  item_stays nest nest' p q (tag.Plain plain.Double) at r book R a g =
      short_stays content.Double at r book (fields_end (tag.Plain plain.Double) at g) (content_ends (tag.Plain plain.Double) at g)
  item_stays nest nest' p q (tag.Plain plain.DateTime) at r book R a g =
      short_stays content.DateTime at r book (fields_end (tag.Plain plain.DateTime) at g) (content_ends (tag.Plain plain.DateTime) at g)
  item_stays nest nest' p q (tag.Plain plain.Binary) at r book R a g = binary_grows.stays at r book R a g
  item_stays nest nest' p q (tag.Plain plain.Other) at r book R a g = other_grows.stays at r book R a g.there
  item_stays nest nest' p q (tag.String form) at r book R a g = string_item_stays form at r book g
  item_stays nest nest' p q tag.Array at r book R a g = p.stays at r book R a g
  item_stays nest nest' p q tag.Struct at r book R a g = q.stays at r book R a g
  item_stays nest nest' p q tag.Unknown at r book R a g = refuses {m = UnexpectedByte} tt

  by_tag :
      (d d' : ℕ) → GrowsAt tag.Array (array_item s room (nested s room d)) (array_item s' room' (nested s' room' d'))
      → GrowsAt tag.Struct (struct_item s room (nested s room d)) (struct_item s' room' (nested s' room' d')) → Grows (value s room d) (value s' room' d')
  by_tag d d' p q =
      record {
        stays = λ at r book R a.
            rw (value_is s room d at r book, value_is s' room' d' at r book)
            (present_stays at (λ h. rw (same_byte l at h) (item_stays (nested s room d) (nested s' room' d') p q (tag_of (byte_at s at)) at r book R a (record { tagged = refl; there = h }))));
      }

  -- Arrays and Structs, at the floor and under what grows
  array_floor : (d' : ℕ) → (limits.nesting ≡ false → d' ≤ 0) → GrowsAt tag.Array (array_item s room floor) (array_item s' room' (nested s' room' d'))
  unfolding nested
  array_floor zero i = record { stays = λ at r book R a g. refuses {m = TooDeep} tt }
  array_floor (suc d') i = record { stays = λ at r book R a g. changes (little_nesting (deeper d' i)) }

  struct_floor : (d' : ℕ) → (limits.nesting ≡ false → d' ≤ 0) → GrowsAt tag.Struct (struct_item s room floor) (struct_item s' room' (nested s' room' d'))
  unfolding nested
  struct_floor zero i = record { stays = λ at r book R a g. refuses {m = TooDeep} tt }
  struct_floor (suc d') i = record { stays = λ at r book R a g. changes (little_nesting (deeper d' i)) }

  module _ (d d' : ℕ) (g : Grows (value s room d) (value s' room' d')) where
    member_grows : (seen : Texts) → Grows (member s room (value s room d) seen) (member s' room' (value s' room' d') seen)
    unfolding member
    member_grows seen = pair_grows (key_sound s room seen) (key_grows seen) g

    alike_grows : (seen : Texts) → Grows (alike (value s room d) seen) (alike (value s' room' d') seen)
    unfolding alike
    alike_grows seen = g

    array_under : GrowsAt tag.Array (array_item s room (under (value s room d))) (array_item s' room' (under (value s' room' d')))
    unfolding nothing
    array_under =
        counted_grows (λ seen. Value d) (alike_sound s room d (value_sound s room d)) alike_grows
        (λ seen r rows used cells sents y m. refl) 9 tag.Array refl

    struct_under : GrowsAt tag.Struct (struct_item s room (under (value s room d))) (struct_item s' room' (under (value s' room' d')))
    struct_under =
        counted_grows (Member d) (member_sound s room d (value_sound s room d)) member_grows
        (λ seen r rows used cells sents y m. keeps_same rows y m) 10 tag.Struct refl

  value_grows : (d d' : ℕ) → d ≤ d' → (limits.nesting ≡ false → d' ≤ d) → Grows (value s room d) (value s' room' d')
  unfolding nested
  value_grows zero d' h eq = by_tag zero d' (array_floor d' eq) (struct_floor d' eq)
  value_grows (suc d) zero h eq = absurd (omega arith)
  value_grows (suc d) (suc d') h eq =
      by_tag (suc d) (suc d') (array_under d d' (value_grows d d' (omega arith) (λ e. let i = eq e in omega arith)))
      (struct_under d d' (value_grows d d' (omega arith) (λ e. let i = eq e in omega arith)))

  array_grows : (d d' : ℕ) → d ≤ d' → (limits.nesting ≡ false → d' ≤ d) → GrowsAt tag.Array (array_item s room (nested s room d)) (array_item s' room' (nested s' room' d'))
  unfolding nested
  array_grows zero d' h eq = array_floor d' eq
  array_grows (suc d) zero h eq = absurd (omega arith)
  array_grows (suc d) (suc d') h eq = array_under d d' (value_grows d d' (omega arith) (λ e. let i = eq e in omega arith))

  struct_grows : (d d' : ℕ) → d ≤ d' → (limits.nesting ≡ false → d' ≤ d) → GrowsAt tag.Struct (struct_item s room (nested s room d)) (struct_item s' room' (nested s' room' d'))
  unfolding nested
  struct_grows zero d' h eq = struct_floor d' eq
  struct_grows (suc d) zero h eq = absurd (omega arith)
  struct_grows (suc d) (suc d') h eq = struct_under d d' (value_grows d d' (omega arith) (λ e. let i = eq e in omega arith))

  call_grows : (d d' : ℕ) → d ≤ d' → (limits.nesting ≡ false → d' ≤ d) → GrowsThere (call_item s room d) (call_item s' room' d')
  call_grows d d' h eq =
      record {
        stays = λ at r book R a j.
            opened_stays 1 at r (λ k. absurd (omega arith))
            (λ i. over_stays 1 2 r ((pair_grows (string_sound s room) string_grows (only_grows (code "A") tag.Array tag_array (array_grows d d' h eq))).stays (at + 1) (r + 1) book R a));
      }

  -- rows that were read mean the same with more bytes behind them
  says_more : {x : Row} {p : Payload} → Says s x p → Says s' x p
  says_more (says_holding h i a b) = says_holding h i a b
  says_more (says_number h a b) = says_number h a b
  says_more {x} (says_contents h i j) = says_contents h (omega (arith, least l)) (same_part l x.a x.b i ∙ j)

  realises_more : {r : ℕ} {rows : List Row} {cells : List Cell} → Realises s r rows cells → Realises s' r rows cells
  realises_more no_more = no_more
  realises_more (and_then (means i e p) m) = and_then (means i e (says_more p)) (realises_more m)

  fault_grows : (d d' : ℕ) → d ≤ d' → (limits.nesting ≡ false → d' ≤ d) → Grows (fault_struct s room d) (fault_struct s' room' d')
  unfolding fault_struct
  fault_grows d d' h eq =
      record {
        stays = λ at r book R a.
            then_stays ((only_grows (code "S") tag.Struct tag_struct (struct_grows d d' h eq)).stays at r book R a)
            (λ rows to book' e.
            let g = (only_sound s room (code "S") (struct_sound s room d)).derived at r book R rows to book' e a in
            let i : held_rows s' (below rows) ≡ held_rows s (below rows) = held_below (realises_more g.realises) ∙ sym (held_below g.realises) in
            rw i (judged_stays (fault_rule (held_rows s (below rows))) at rows to book' (λ m. fault_of (held_rows s (below rows)))));
      }

  response_grows : (d d' : ℕ) → d ≤ d' → (limits.nesting ≡ false → d' ≤ d) → GrowsThere (response_item s room d) (response_item s' room' d')
  response_grows d d' h eq =
      record {
        stays = λ at r book R a i₀.
            opened_stays 1 at r (λ k. absurd (omega arith))
            (λ i. present_stays (at + 1)
            (λ j. rw (same_byte l (at + 1) j)
            (pick_stays (eqb (byte_at s (at + 1)) (code "F"))
            (over_stays 3 1 r ((fault_grows d d' h eq).stays (at + 2) (r + 1) book R a))
            (over_stays 2 1 r ((value_grows d d' h eq).stays (at + 1) (r + 1) book R a)))));
      }

  whole_grows : (d d' : ℕ) → d ≤ d' → (limits.nesting ≡ false → d' ≤ d) → Grows (call_or_response s room d) (call_or_response s' room' d')
  unfolding call_or_response
  whole_grows d d' h eq =
      record {
        stays = λ at r book R a.
            present_stays at
            (λ i. rw (same_byte l at i)
            (pick_stays (eqb (byte_at s at) (code "C")) ((call_grows d d' h eq).stays at r book R a i)
            (pick_stays (eqb (byte_at s at) (code "R")) ((response_grows d d' h eq).stays at r book R a i) (refuses {m = UnexpectedByte} tt))));
      }

  pub message_grows : (d d' : ℕ) → d ≤ d' → (limits.nesting ≡ false → d' ≤ d) → Stays more limits s s' (message s room d) (message s' room' d')
  unfolding message
  message_grows d d' h eq = go (agree s prefix) refl (leb 12 (length s)) refl more refl
    where
      go :
          (b : Bool) → agree s prefix ≡ b → (c : Bool) → leb 12 (length s) ≡ c → (m : Bool) → more ≡ m
          → Stays more limits s s' (cond b (cond c (call_or_response s room d 12 0 clear) (refused Ended 0)) (refused WrongPrefix 0)) (message s' room' d')
      go false e c f m g = rw (l.is, agree_off s l.rest prefix e) (refuses {m = WrongPrefix} tt)
      go true e true f m g =
          let i = leb-true 12 (length s) f in
          let j : agree s' prefix ≡ true = rw l.is (agree_on s l.rest prefix e i) in
          rw (j, le-leb 12 (length s') (omega (arith, least l))) ((whole_grows d d' h eq).stays 12 0 clear [] agrees_clear)
      go true e false f true g = waiting (leb (want_of s 0) (length s')) refl
        where
          waiting : (b : Bool) → leb (want_of s 0) (length s') ≡ b → Stays more limits s s' (refused Ended 0) (message s' room' d')
          waiting true i = changes (few_bytes {at = 0} g (leb-true (want_of s 0) (length s') i))
          waiting false i =
              let j : s' ≡ s = same_short l (omega (arith, leb-false (want_of s 0) (length s') i, want_prefix s e)) in
              rw (j, e, f) (refuses {m = Ended} tt)
      go true e false f false g = rw (same_all l g, e, f) (refuses {m = Ended} tt)

-- with more bytes, room or nesting
abbrev pub both : Raised
both = record { nesting = true; room = true }

pub message_stays :
    {more : Bool} (s s' : List ℕ) (room room' : ℕ) → Longer more s s' → room ≤ room' → (d d' : ℕ) → d ≤ d'
    → Stays more both s s' (message s room d) (message s' room' d')
message_stays s s' room room' l k d d' h = message_grows both s s' room room' l k (λ e. clash refl e) d d' h (λ e. clash refl e)

-- with more bytes alone: every answer stays but 1, and 1 as long as there are fewer bytes than are wanted
abbrev pub neither : Raised
neither = record { nesting = false; room = false }

pub message_waits : (s ys : List ℕ) (room d : ℕ) → Stays true neither s (s ++ ys) (message s room d) (message (s ++ ys) room d)
message_waits s ys room d =
    message_grows neither s (s ++ ys) room room (longer s ys) (omega arith) (λ e. omega arith) d d (omega arith) (λ e. omega arith)

pub waits :
    (s ys : List ℕ) (room d p : ℕ) → message s room d ≡ refused Ended p → length (s ++ ys) < want_of s p
    → message (s ++ ys) room d ≡ refused Ended p
waits s ys room d p e h = by (message_waits s ys room d) e
  where
    by : {o o' : Reading} → Stays true neither s (s ++ ys) o o' → o ≡ refused Ended p → o' ≡ refused Ended p
    by accepts f = f
    by (refuses g) f = f
    by (changes (little_nesting g)) f = clash g refl
    by (changes (little_room g)) f = clash g refl
    by (changes (few_bytes {at = q} g w)) f = let i : q ≡ p = cc in let j : want_of s p ≤ length (s ++ ys) = rw i at w in absurd (omega arith)

pub decided :
    (s ys : List ℕ) (room d : ℕ) → ((p : ℕ) → message s room d ≡ refused Ended p → ⊥) → message (s ++ ys) room d ≡ message s room d
decided s ys room d no_end = by (message_waits s ys room d) no_end
  where
    by : {o o' : Reading} → Stays true neither s (s ++ ys) o o' → ((p : ℕ) → o ≡ refused Ended p → ⊥) → o' ≡ o
    by accepts f = refl
    by (refuses g) f = refl
    by (changes (little_nesting g)) f = clash g refl
    by (changes (little_room g)) f = clash g refl
    by (changes (few_bytes {at = q} g w)) f = absurd (f q refl)
