-- What is read is derived, from exactly the bytes that were read, with legal sendings and the meaning of the rows: one law for each combinator
-- of reading, then one for each production. Assumes nothing.
use mathlib.Core.Path.{◌≡◌, refl, sym, ap₂, ◌∙◌}
use mathlib.Core.Bool.{Bool, true, false, ◌&&◌, cond}
use mathlib.Core.List.{List, [], ◌∷◌, ◌++◌, append_assoc, append-nil}
use Prim.Native.Nat.{ℕ, zero, suc, ◌+◌, ◌≤◌, ◌<◌}
use Prim.Native.Char.{code}
use native.Mathlib.Omega.{arith}
use lib.Dec.{eqb, ltb, leb}
use lib.ListN.{length, length-append}
use borrow.Author.Tests.{ltb-true, leb-true, eqb-true}
use Rattle.text.proofs.Comparing.{clash}
use Rattle.draft.specs.declared.Refusal.{Refusal}
use Rattle.draft.specs.declared.Refusal.TheVariants.{UnexpectedByte}
use Rattle.draft.specs.declared.Row.{Row}
use Rattle.draft.specs.Verdict.{Verdict}
use Rattle.std.specs.Prelude.{Ok, Err}
use Rattle.draft.specs.declared.Content.{Content}
use Rattle.draft.specs.declared.Content.TheVariants as content
use Rattle.draft.specs.declared.Tag.{Tag}
use Rattle.draft.specs.declared.Tag.TheVariants as tag
use Rattle.draft.specs.declared.Plain.{Plain}
use Rattle.draft.specs.declared.Plain.TheVariants as plain
use Rattle.draft.specs.declared.Form.{Form}
use Rattle.draft.specs.declared.Form.TheVariants.{Regular, Recorded, Recalled}
use Rattle.std.specs.Prelude.{Some, None}
use Rattle.draft.specs.Bytes.{byte_at, unsigned_at, part}
use Rattle.draft.specs.Rows.{row, below, kind_of}
use Rattle.draft.specs.Content.{content_rule, all_there, verdict, name_rule, key_rule, fault_rule}
use Rattle.draft.specs.Codebook.{Entry, Book, clear, recorded as record-text}
use Rattle.draft.specs.Read.{Reading, got, refused, then, judged, Reader, behind, over, pair as read-pair, items, alike, leaf, tag_of, Nest, floor, under, present, opened, contents as read-contents, integer_item, boolean_item, short_item, long_item, recorded_item, recalled as recalledEntry, recalled_item, string_item, if_string, string as read-string, only, first_text, string_by, name, Texts, nothing, key, member, keeping, other_item, counted, array_item, struct_item, item, value, nested, call_item, held_rows, fault_struct, response_item, call_or_response, prefix, agree, message}
use Rattle.draft.specs.Grammar.{Cell, cell, holding, content_cell, held_cells, Sent, regular, LSB, Keeps, Message, call_message, response_message, Call, call, Response, value_response, fault_response, fault, Value, integer_value, boolean_value, double_value, datetime_value, binary_value, array_value, struct_value, string_value, other_value, integer, Boolean, boolean_true, boolean_false, double, datetime, Binary, binary, Array, array, Values, no_values, more_values, Struct, struct, Pairs, no_pairs, more_pairs, Pair, pair, other, String, regular_string, recorded_string, recalled_string, string_data, Recording, after, Legal, legal_none, legal_regular, legal_recorded, legal_recalled}
use Rattle.draft.specs.Meaning.{has_number, has_content, Means, Realises, no_more, and_then}
use Rattle.exact.proofs.Standing.{Here, nothing_here, ends, join, bytes_at_lem, long, byte_before, two_before, five_before, six_before}
use Rattle.exact.proofs.Replaying.{after_append, legal_join, Agrees, agrees_clear, agrees_recorded, said}
use Rattle.exact.proofs.Realising.{content_means, over_means, number_means, counts, realises_append, held_below}
use Rattle.exact.proofs.Completing.{value_is, first_text_lem}

-- what an accepted reading says of the tests on its way
module _ {rows : List Row} {to : ℕ} {book' : Book} where
  pub refused_got : {A : Type 0} {m : Refusal} {q : ℕ} → refused m q ≡ got rows to book' → A
  refused_got e = let z : ◌≡◌ {A = ℕ} 0 1 = cc in absurd (omega arith)

  picked : (b : Bool) (x : Reading) (m : Refusal) (q : ℕ) → cond b x (refused m q) ≡ got rows to book' → (b ≡ true) × (x ≡ got rows to book')
  picked true x m q e = (refl, e)
  picked false x m q e = refused_got e

  judged_by : (v : Verdict) (at : ℕ) (o : Reading) → judged v at o ≡ got rows to book' → (v ≡ Ok tt) × (o ≡ got rows to book')
  judged_by (Ok tt) at o e = (refl, e)
  judged_by (Err m) at o e = refused_got e

  present_by : (s : List ℕ) (room at : ℕ) (o : Reading) → present s room at o ≡ got rows to book' → (at < length s) × (o ≡ got rows to book')
  present_by s room at o e = let f = picked (ltb at (length s)) _ _ _ e in (ltb-true _ _ f.0, f.1)

  opened_by :
      (s : List ℕ) (room size at r : ℕ) (o : Reading) → opened s room size at r o ≡ got rows to book'
      → (r < room) × (at + size ≤ length s) × (o ≡ got rows to book')
  opened_by s room size at r o e =
      let f = picked (ltb r room) _ _ _ e in
      let g = picked (leb (at + size) (length s)) _ _ _ f.1 in
      (ltb-true _ _ f.0, leb-true _ _ g.0, g.1)

-- a reading that was gone on from, or put in front or behind
record Then (o : Reading) (more : List Row → ℕ → Book → Reading) (rows : List Row) (to : ℕ) (book : Book) : Type 0 where
  new : List Row
  middle : ℕ
  between : Book
  is : o ≡ got new middle between
  next : more new middle between ≡ got rows to book

then_by :
    (o : Reading) (more : List Row → ℕ → Book → Reading) {rows : List Row} {to : ℕ} {book : Book} → then o more ≡ got rows to book
    → Then o more rows to book
then_by (refused m q) more e = refused_got e
then_by (got new at book₁) more e = record { new = new; middle = at; between = book₁; is = refl; next = e }

record After (o : Reading) (before : List Row → List Row) (rows : List Row) (to : ℕ) (book : Book) : Type 0 where
  new : List Row
  is : o ≡ got new to book
  all : before new ≡ rows

behind_by :
    (front : List Row) (o : Reading) {rows : List Row} {to : ℕ} {book : Book} → behind front o ≡ got rows to book
    → After o (λ new. front ++ new) rows to book
behind_by front (refused m q) e = refused_got e
behind_by front (got new at book₁) {rows} {to} {book} e =
    let i : at ≡ to = cc in
    let j : book₁ ≡ book = cc in
    record { new = new; is = cc; all = cc }

over_by :
    (kind b r : ℕ) (o : Reading) {rows : List Row} {to : ℕ} {book : Book} → over kind b r o ≡ got rows to book
    → After o (λ new. row kind 0 b (r + 1 + length new) ∷ new) rows to book
over_by kind b r (refused m q) e = refused_got e
over_by kind b r (got new at book₁) {rows} {to} {book} e =
    let i : at ≡ to = cc in
    let j : book₁ ≡ book = cc in
    record { new = new; is = cc; all = cc }

pub there_by : (b : Bool) (v : Verdict) → all_there b v ≡ Ok tt → (b ≡ true) × (v ≡ Ok tt)
there_by true v e = (refl, e)
there_by false v e = let z : ◌≡◌ {A = ℕ} 0 1 = cc in absurd (omega arith)

contents_by :
    (s : List ℕ) (room : ℕ) (c : Content) (o n at r : ℕ) (book : Book) {rows : List Row} {to : ℕ} {book' : Book}
    → read-contents s room c o n at r book ≡ got rows to book'
    → (o + n ≤ length s) × Keeps c (part s o n) × (leaf (kind_of c) o n r (o + n) book ≡ got rows to book')
unfolding verdict read-contents
contents_by s room c o n at r book e =
    let f = judged_by (verdict c s o n) at _ e in
    let g = there_by (leb (o + n) (length s)) (content_rule c (part s o n)) f.0 in
    (leb-true _ _ g.0, g.1, f.1)

-- what derives bytes with a meaning and Strings as sent
abbrev pub Production : Type 1
Production = List ℕ → List Cell → List Sent → Type 0

-- one after the other
abbrev pub Joins : Production → Production → Production → Type 0
Joins P Q T = (xs ys : List ℕ) (us vs : List Cell) (fs gs : List Sent) → P xs us fs → Q ys vs gs → T (xs ++ ys) (us ++ vs) (fs ++ gs)

-- an accepted reading that P derives from the bytes up to `to`
pub record Derived (P : Production) (s : List ℕ) (room at r : ℕ) (R : List Recording) (rows : List Row) (to : ℕ) (book : Book) : Type 0 where
  pub used : List ℕ
  pub cells : List Cell
  pub sents : List Sent
  pub derives : P used cells sents
  pub here : Here s at used
  pub ends : to ≡ at + length used
  pub legal : Legal R sents
  pub agrees : Agrees s book (after R sents)
  pub realises : Realises s r rows cells
  pub fits : r + length rows ≤ room

-- whatever f accepts, P derives
pub record Sound (s : List ℕ) (room : ℕ) (f : Reader) (P : Production) : Type 0 where
  pub derived :
      (at r : ℕ) (book : Book) (R : List Recording) (rows : List Row) (to : ℕ) (book' : Book) → f at r book ≡ got rows to book' → Agrees s book R
      → Derived P s room at r R rows to book'

-- the same, where the byte b stands
pub record SoundAt (s : List ℕ) (room : ℕ) (b : ℕ) (f : Reader) (P : Production) : Type 0 where
  pub derived :
      (at r : ℕ) (book : Book) (R : List Recording) (rows : List Row) (to : ℕ) (book' : Book) → byte_at s at ≡ b → f at r book ≡ got rows to book'
      → Agrees s book R → Derived P s room at r R rows to book'

-- an item of one row
one :
    {P : Production} {s : List ℕ} {room at r : ℕ} {R : List Recording} {rows : List Row} {to : ℕ} {book : Book} {x : Row}
    {to₀ : ℕ} {book₀ : Book} {used : List ℕ} {c : Cell} {sents : List Sent} → got (x ∷ []) to₀ book₀ ≡ got rows to book → P used (c ∷ []) sents
    → Here s at used → to₀ ≡ at + length used → Legal R sents → Agrees s book₀ (after R sents) → Means s r x c → r < room
    → Derived P s room at r R rows to book
one {P} {s} {room} {at} {r} {R} {rows} {to} {book} {x} {to₀} {book₀} {used} {c} {sents} e v h n l a m f =
    let i : x ∷ [] ≡ rows = cc in
    let j : to₀ ≡ to = cc in
    let k : book₀ ≡ book = cc in
    let t : Realises s r (x ∷ []) (c ∷ []) = and_then m no_more in
    record {
      used = used;
      cells = c ∷ [];
      sents = sents;
      derives = v;
      here = h;
      ends = sym j ∙ n;
      legal = l;
      agrees = rw k at a;
      realises = rw i at t;
      fits = rw (← i) (omega arith);
    }

-- productions of one row, and a String that keeps a rule
pub data OneString : List ℕ → List Cell → List Sent → Type 0 where
  one_string : {xs t : List ℕ} {f : Sent} → String xs t f → OneString xs (content_cell content.Text t ∷ []) (f ∷ [])

pub data OneBy (rule : List ℕ → Verdict) : List ℕ → List Cell → List Sent → Type 0 where
  one_by : {xs t : List ℕ} {f : Sent} → String xs t f → rule t ≡ Ok tt → OneBy rule xs (content_cell content.Text t ∷ []) (f ∷ [])

-- a pair whose key is none of those seen
pub data Member (d : ℕ) (seen : Texts) : List ℕ → List Cell → List Sent → Type 0 where
  a_member : {t xs : List ℕ} {us : List Cell} {fs : List Sent} → Pair d t xs us fs → key_rule seen t ≡ Ok tt → Member d seen xs us fs

pub data OneBinary : List ℕ → List Cell → List Sent → Type 0 where
  one_binary : {xs t : List ℕ} → Binary xs t → OneBinary xs (content_cell content.Binary t ∷ []) []

-- two of them, one after the other
pub data OtherBody : List ℕ → List Cell → List Sent → Type 0 where
  other_body :
      {xs ys zs t u : List ℕ} {f : Sent} → String xs t f → name_rule t ≡ Ok tt → Binary ys u → zs ≡ xs ++ ys
      → OtherBody zs (content_cell content.Text t ∷ content_cell content.Binary u ∷ []) (f ∷ [])

pub data CallBody (d : ℕ) : List ℕ → List Cell → List Sent → Type 0 where
  call_body :
      {xs ys zs t : List ℕ} {cs : List Cell} {f : Sent} {fs : List Sent} → String xs t f → Array d ys cs fs → zs ≡ xs ++ ys
      → CallBody d zs (content_cell content.Text t ∷ cs) (f ∷ fs)

-- a fault's Struct that keeps its rule
abbrev pub FaultStruct : ℕ → Production
FaultStruct d xs cs fs = Struct d xs cs fs × (fault_rule (held_cells (below cs)) ≡ Ok tt)

pub data CallOrResponse (d : ℕ) : List ℕ → List Cell → List Sent → Type 0 where
  of_call : {xs : List ℕ} {cs : List Cell} {fs : List Sent} → Call d xs cs fs → CallOrResponse d xs cs fs
  of_response : {xs : List ℕ} {cs : List Cell} {fs : List Sent} → Response d xs cs fs → CallOrResponse d xs cs fs

pub member_join : {d : ℕ} {seen : Texts} → Joins (OneBy (key_rule seen)) (Value d) (Member d seen)
member_join xs ys us vs fs gs (one_by x k) y = a_member (pair x y refl) k

pub other_join : Joins (OneBy name_rule) OneBinary OtherBody
other_join xs ys us vs fs gs (one_by x k) (one_binary y) = other_body x k y refl

pub call_join : {d : ℕ} → Joins OneString (Array d) (CallBody d)
call_join xs ys us vs fs gs (one_string x) y = call_body x y refl

pub other_make :
    {d : ℕ} {xs : List ℕ} {cs : List Cell} {fs : List Sent} → OtherBody xs cs fs → Value d (code "O" ∷ xs) (cell 12 (length cs) (holding 2) ∷ cs) fs
other_make (other_body x k y e) = other_value (other x k y e)

pub call_make :
    {d : ℕ} {xs : List ℕ} {cs : List Cell} {fs : List Sent} → CallBody d xs cs fs → Call d (code "C" ∷ xs) (cell 1 (length cs) (holding 2) ∷ cs) fs
call_make (call_body x y e) = call x y e refl

pub binary_make : {d : ℕ} {xs : List ℕ} {cs : List Cell} {fs : List Sent} → OneBinary xs cs fs → Value d xs cs fs
binary_make (one_binary x) = binary_value x

pub string_make : {d : ℕ} {xs : List ℕ} {cs : List Cell} {fs : List Sent} → OneString xs cs fs → Value d xs cs fs
string_make (one_string x) = string_value x

-- a byte by its tag
abbrev byte_of : Form → ℕ
byte_of Regular = code "U"
byte_of Recorded = code ">"
byte_of Recalled = code "<"

abbrev plain_byte : Plain → ℕ
plain_byte plain.Integer = code "I"
plain_byte plain.True = code "t"
plain_byte plain.False = code "f"
plain_byte plain.Double = code "D"
plain_byte plain.DateTime = code "8"
plain_byte plain.Binary = code "B"
plain_byte plain.Other = code "O"

abbrev Byte : Tag → ℕ → Type 0
Byte (tag.Plain x) b = b ≡ plain_byte x
Byte (tag.String form) b = b ≡ byte_of form
Byte tag.Array b = b ≡ code "A"
Byte tag.Struct b = b ≡ code "S"
Byte tag.Unknown b = Unit {0}

tag_or : (b k : ℕ) (x y : Tag) → (b ≡ k → Byte x b) → Byte y b → Byte (cond (eqb b k) x y) b
tag_or b k x y h i = go (eqb b k) refl
  where
    go : (c : Bool) → eqb b k ≡ c → Byte (cond c x y) b
    go true e = h (eqb-true b k e)
    go false e = i

tag_byte : (b : ℕ) → Byte (tag_of b) b
unfolding tag_of
tag_byte b =
    tag_or b (code "I") (tag.Plain plain.Integer) _ (λ e. e)
    (tag_or b (code "t") (tag.Plain plain.True) _ (λ e. e)
    (tag_or b (code "f") (tag.Plain plain.False) _ (λ e. e)
    (tag_or b (code "D") (tag.Plain plain.Double) _ (λ e. e)
    (tag_or b (code "8") (tag.Plain plain.DateTime) _ (λ e. e)
    (tag_or b (code "B") (tag.Plain plain.Binary) _ (λ e. e)
    (tag_or b (code "A") tag.Array _ (λ e. e)
    (tag_or b (code "S") tag.Struct _ (λ e. e)
    (tag_or b (code "O") (tag.Plain plain.Other) _ (λ e. e)
    (tag_or b (code "U") (tag.String Regular) _ (λ e. e)
    (tag_or b (code ">") (tag.String Recorded) _ (λ e. e)
    (tag_or b (code "<") (tag.String Recalled) _ (λ e. e) tt)))))))))))

module _ (s : List ℕ) (room : ℕ) where
  integer_sound : (d : ℕ) → SoundAt s room (code "I") (integer_item s room) (Value d)
  unfolding has_number
  integer_sound d =
      record {
        derived = λ at r book R rows to book' b e a.
            let f = opened_by s room 5 at r _ e in
            one f.2 (integer_value (integer refl)) (rw b at (five_before {s = s} {at = at} f.1 (nothing_here f.1))) refl legal_none a
            (number_means 4 r refl) f.0;
      }

  boolean_sound : (b n : ℕ) (d : ℕ) → Boolean (b ∷ []) n → SoundAt s room b (boolean_item s room n) (Value d)
  unfolding has_number
  boolean_sound b n d x =
      record {
        derived = λ at r book R rows to book' i e a.
            let f = opened_by s room 1 at r _ e in
            one f.2 (boolean_value x) (rw i at (byte_before {s = s} {at = at} (omega (arith, f.1)) (nothing_here f.1))) refl legal_none a
            (number_means 5 r refl) f.0;
      }

  -- a size byte and content
  short_sound :
      (b : ℕ) (c : Content) (P : Production)
      → ((n : ℕ) (t : List ℕ) → n ≡ length t → Keeps c t → P (b ∷ n ∷ t) (content_cell c t ∷ []) []) → SoundAt s room b (short_item s room c) P
  short_sound b c P make =
      record {
        derived = λ at r book R rows to book' i e a.
            let n = byte_at s (at + 1) in
            let f = opened_by s room 2 at r _ e in
            let g = contents_by s room c (at + 2) n at r book f.2 in
            let h = bytes_at_lem s (at + 2) n g.0 in
            let l = long s (at + 2) n g.0 in
            one {P = P} g.2 (make n (part s (at + 2) n) l g.1) (rw i at (two_before f.1 h)) (omega (arith, l)) legal_none a (content_means c r h l) f.0;
      }

  -- a length and content, with Strings that record nothing
  long_sound :
      (b : ℕ) (c : Content) (P : Production) (sent : List ℕ → List Sent)
      → ((n i j k l : ℕ) (t : List ℕ) → LSB n i j k l → n ≡ length t → Keeps c t → P (b ∷ i ∷ j ∷ k ∷ l ∷ t) (content_cell c t ∷ []) (sent t))
      → ((t : List ℕ) (R : List Recording) → Legal R (sent t) × (after R (sent t) ≡ R)) → SoundAt s room b (long_item s room c) P
  long_sound b c P sent make legal =
      record {
        derived = λ at r book R rows to book' i e a.
            let n = unsigned_at s (at + 1) in
            let f = opened_by s room 5 at r _ e in
            let g = contents_by s room c (at + 5) n at r book f.2 in
            let h = bytes_at_lem s (at + 5) n g.0 in
            let l = long s (at + 5) n g.0 in
            let q = legal (part s (at + 5) n) R in
            one {P = P} g.2 (make n _ _ _ _ _ refl l g.1) (rw i at (five_before f.1 h)) (omega (arith, l)) q.0 (rw q.1 a)
            (content_means c r h l) f.0;
      }

  recorded_sound : SoundAt s room (code ">") (recorded_item s room) OneString
  recorded_sound =
      record {
        derived = λ at r book R rows to book' i e a.
            let n = unsigned_at s (at + 2) in
            let p = byte_at s (at + 1) in
            let f = opened_by s room 6 at r _ e in
            let g = contents_by s room content.Text (at + 6) n at r (record-text book p (at + 6) n) f.2 in
            let h = bytes_at_lem s (at + 6) n g.0 in
            let l = long s (at + 6) n g.0 in
            one {P = OneString} g.2 (one_string (recorded_string (string_data refl l g.1))) (rw i at (six_before f.1 h)) (omega (arith, l))
            (legal_recorded legal_none) (agrees_recorded p a h l) (content_means content.Text r h l) f.0;
      }

  recalled_sound : SoundAt s room (code "<") (recalled_item s room) OneString
  recalled_sound =
      record {
        derived = λ at r book R rows to book' i e a.
            let f = opened_by s room 2 at r _ e in
            go at r book R rows to book' i f.0 f.1 (book (byte_at s (at + 1))) refl f.2 a;
      }
    where
      go :
          (at r : ℕ) (book : Book) (R : List Recording) (rows : List Row) (to : ℕ) (book' : Book) → byte_at s at ≡ code "<" → r < room
          → at + 2 ≤ length s → (x : Entry) → book (byte_at s (at + 1)) ≡ x → recalledEntry s room x at r book ≡ got rows to book' → Agrees s book R
          → Derived OneString s room at r R rows to book'
      go at r book R rows to book' b k h None i e a = refused_got e
      go at r book R rows to book' b k h (Some y) i e a =
          let f = said (book (byte_at s (at + 1))) (a.each (byte_at s (at + 1))) i in
          let j : Here s (at + 2) [] = nothing_here h in
          one {P = OneString} e (one_string recalled_string) (rw b at (two_before h j)) refl (legal_recalled f.is legal_none) a
          (content_means content.Text r f.here f.long) k

  string_item_sound : (form : Form) → SoundAt s room (byte_of form) (string_item s room form) OneString
  string_item_sound Regular =
      long_sound (code "U") content.Text OneString (λ t. regular t ∷ []) (λ n i j k l t e f g. one_string (regular_string (string_data e f g)))
      (λ t R. (legal_regular legal_none, refl))
  string_item_sound Recorded = recorded_sound
  string_item_sound Recalled = recalled_sound

  pub string_sound : Sound s room (read-string s room) OneString
  unfolding read-string
  string_sound =
      record {
        derived = λ at r book R rows to book' e a.
            let f = present_by s room at _ e in
            go at r book R rows to book' (tag_of (byte_at s at)) (tag_byte (byte_at s at)) f.1 a;
      }
    where
      go :
          (at r : ℕ) (book : Book) (R : List Recording) (rows : List Row) (to : ℕ) (book' : Book) (t : Tag) → Byte t (byte_at s at)
          → if_string s room t at r book ≡ got rows to book' → Agrees s book R → Derived OneString s room at r R rows to book'
      go at r book R rows to book' (tag.String form) b e a = (string_item_sound form).derived at r book R rows to book' b e a
      go at r book R rows to book' (tag.Plain x) b e a = refused_got e
      go at r book R rows to book' tag.Array b e a = refused_got e
      go at r book R rows to book' tag.Struct b e a = refused_got e
      go at r book R rows to book' tag.Unknown b e a = refused_got e

  -- what only one byte begins
  pub only_sound : (b : ℕ) {f : Reader} {P : Production} → SoundAt s room b f P → Sound s room (only s room b f) P
  unfolding only
  only_sound b g =
      record {
        derived = λ at r book R rows to book' e a.
            let f = present_by s room at _ e in
            let i = picked (eqb (byte_at s at) b) _ _ _ f.1 in
            g.derived at r book R rows to book' (eqb-true _ _ i.0) i.1 a;
      }

  -- a String that keeps a rule
  pub string_by_sound : (rule : List ℕ → Verdict) (o : ℕ) → Sound s room (string_by s room rule o) (OneBy rule)
  unfolding string_by
  string_by_sound rule o =
      record {
        derived = λ at r book R rows to book' e a.
            let f = then_by (read-string s room at r book) _ e in
            let g = judged_by (rule (first_text s room f.new)) o _ f.next in
            let h = string_sound.derived at r book R rows to book' (f.is ∙ g.1) a in
            let i : f.new ≡ rows = cc in
            let k : rule (first_text s room rows) ≡ Ok tt = rw i at g.0 in
            named h k;
      }
    where
      named :
          {at r : ℕ} {R : List Recording} {rows : List Row} {to : ℕ} {book : Book} → Derived OneString s room at r R rows to book
          → rule (first_text s room rows) ≡ Ok tt → Derived (OneBy rule) s room at r R rows to book
      named {at} {r} {R} {rows} {to} {book} h k = go h.used h.cells h.sents h.derives h.here h.ends h.legal h.agrees h.realises h.fits
        where
          go :
              (used : List ℕ) (cells : List Cell) (sents : List Sent) → OneString used cells sents → Here s at used → to ≡ at + length used
              → Legal R sents → Agrees s book (after R sents) → Realises s r rows cells → r + length rows ≤ room
              → Derived (OneBy rule) s room at r R rows to book
          go used cells sents (one_string x) p q l a m f =
              record {
                used = used;
                cells = cells;
                sents = sents;
                derives = one_by x (rw (first_text_lem s room rows content.Text m) at k);
                here = p;
                ends = q;
                legal = l;
                agrees = a;
                realises = m;
                fits = f;
              }

  -- an Other's name, a Struct's key
  pub name_sound : (o : ℕ) → Sound s room (name s room o) (OneBy name_rule)
  name_sound o = string_by_sound name_rule o

  pub key_sound : (seen : Texts) → Sound s room (key s room seen) (OneBy (key_rule seen))
  unfolding key
  key_sound seen = record { derived = λ at r book R rows to book' e a. (string_by_sound (key_rule seen) at).derived at r book R rows to book' e a }

  -- one after the other
  joined :
      {P Q : Production} (T : Production) {at r : ℕ} {R : List Recording}
      {new others : List Row} {middle to : ℕ} {between book : Book}
      → Joins P Q T
      → (g : Derived P s room at r R new middle between) → Derived Q s room middle (r + length new) (after R g.sents) others to book
      → Derived T s room at r R (new ++ others) to book
  joined T {at} {r} {new = new} {others} make g t =
      record {
        used = g.used ++ t.used;
        cells = g.cells ++ t.cells;
        sents = g.sents ++ t.sents;
        derives = make _ _ _ _ _ _ g.derives t.derives;
        here = join g.used t.used g.here (rw g.ends at t.here) refl;
        ends = omega (arith, t.ends, g.ends, length-append g.used t.used);
        legal = legal_join g.sents t.sents g.legal t.legal;
        agrees = rw after_append t.agrees;
        realises = realises_append g.realises t.realises refl;
        fits = omega (arith, t.fits, length-append new others);
      }

  pub pair_sound :
      {P Q : Production} (T : Production) {f f' : Reader}
      → Joins P Q T → Sound s room f P
      → Sound s room f' Q → Sound s room (read-pair f f') T
  unfolding read-pair
  pair_sound T {f} {f'} make p q =
      record {
        derived = λ at r book R rows to book' e a.
            let h = then_by (f at r book) _ e in
            let i = behind_by h.new (f' h.middle (r + length h.new) h.between) h.next in
            let g = p.derived at r book R h.new h.middle h.between h.is a in
            let t = q.derived h.middle (r + length h.new) h.between (after R g.sents) i.new to book' i.is g.agrees in
            rw (← i.all) (joined T make g t);
      }

  -- an item's own row and its first bytes, over what it holds
  over_derived :
      {P : Production} (Q : Production) (kind b : ℕ) (ps : List ℕ) {at r k : ℕ}
      {R : List Recording} {new rows : List Row} {to : ℕ} {book : Book} → has_number kind ≡ false → has_content kind ≡ false
      → ((xs : List ℕ) (cs : List Cell) (fs : List Sent) → P xs cs fs → Q (ps ++ xs) (cell kind (length cs) (holding b) ∷ cs) fs) → Here s at ps
      → k ≡ length ps → Derived P s room (at + k) (r + 1) R new to book → row kind 0 b (r + 1 + length new) ∷ new ≡ rows
      → Derived Q s room at r R rows to book
  over_derived Q kind b ps {at} {r} {new = new} h i make p n g e =
      let j : r + 1 ≡ suc r = omega arith in
      rw (← e)
      (record {
        used = ps ++ g.used;
        cells = cell kind (length g.cells) (holding b) ∷ g.cells;
        sents = g.sents;
        derives = make _ _ _ g.derives;
        here = join ps g.used p (rw n at g.here) refl;
        ends = omega (arith, g.ends, n, length-append ps g.used);
        legal = g.legal;
        agrees = g.agrees;
        realises = and_then (over_means kind r h i (counts g.realises)) (rw j at g.realises);
        fits = omega (arith, g.fits);
      })

  -- n items behind the rows acc, each derived by P
  record DerivedOn (Q : Production) (at : ℕ) (acc : List Row) (r : ℕ) (R : List Recording) (rows : List Row) (to : ℕ) (book : Book) : Type 0 where
    new : List Row
    all : rows ≡ acc ++ new
    derived : Derived Q s room at r R new to book

  record SoundOn (f : Texts → Reader) (more : Texts → List Row → Texts) (n : ℕ) (seen : Texts) (Q : Production) : Type 0 where
    derived :
        (acc : List Row) (at r : ℕ) (book : Book) (R : List Recording) (rows : List Row) (to : ℕ) (book' : Book)
        → items f more n seen acc at r book ≡ got rows to book' → Agrees s book R → at ≤ length s → r + length acc ≤ room
        → DerivedOn Q at acc (r + length acc) R rows to book'

  no_items : {f : Texts → Reader} {more : Texts → List Row → Texts} {seen : Texts} (Q : Production) → Q [] [] [] → SoundOn f more zero seen Q
  unfolding items
  no_items Q q =
      record {
        derived = λ acc at r book R rows to book' e a h k.
            let i : acc ≡ rows = cc in
            let j : at ≡ to = cc in
            let l : book ≡ book' = cc in
            record {
              new = [];
              all = sym i ∙ sym (append-nil acc);
              derived =
                  record {
                    used = [];
                    cells = [];
                    sents = [];
                    derives = q;
                    here = nothing_here h;
                    ends = omega (arith, j);
                    legal = legal_none;
                    agrees = rw l at a;
                    realises = no_more;
                    fits = omega arith;
                  };
            };
      }

  joined_on :
      {P Q : Production} (T : Production) (r : ℕ) {at middle : ℕ} {acc new : List Row}
      {R : List Recording} {rows : List Row} {to : ℕ} {between book : Book}
      → Joins P Q T
      → (g : Derived P s room at (r + length acc) R new middle between)
      → DerivedOn Q middle (acc ++ new) (r + length (acc ++ new)) (after R g.sents) rows to book
      → DerivedOn T at acc (r + length acc) R rows to book
  joined_on T r {acc = acc} {new} make g t =
      let b : r + length (acc ++ new) ≡ r + length acc + length new = omega (arith, length-append acc new) in
      record { new = new ++ t.new; all = t.all ∙ append_assoc acc new t.new; derived = joined T make g (rw b at t.derived) }

  -- what was derived, with the rows that it is in
  with_rows :
      {P : Production} {at r : ℕ} {R : List Recording} {rows : List Row} {to : ℕ} {book : Book} → Derived P s room at r R rows to book
      → Derived (λ xs us fs. P xs us fs × Realises s r rows us) s room at r R rows to book
  with_rows g =
      record {
        used = g.used;
        cells = g.cells;
        sents = g.sents;
        derives = (g.derives, g.realises);
        here = g.here;
        ends = g.ends;
        legal = g.legal;
        agrees = g.agrees;
        realises = g.realises;
        fits = g.fits;
      }

  more_items :
      {P : Production} {Q : Texts → Production} (T : Production) {f : Texts → Reader} {more : Texts → List Row → Texts} {n : ℕ} {seen : Texts}
      → ((r : ℕ) (rows : List Row) → Joins (λ xs us fs. P xs us fs × Realises s r rows us) (Q (more seen rows)) T) → Sound s room (f seen) P
      → ((seen' : Texts) → SoundOn f more n seen' (Q seen')) → SoundOn f more (suc n) seen T
  unfolding items
  more_items T {f} {more} {n} {seen} make p q =
      record {
        derived = λ acc at r book R rows to book' e a h k.
            let i = then_by (f seen at (r + length acc) book) _ e in
            let g = with_rows (p.derived at (r + length acc) book R i.new i.middle i.between i.is a) in
            joined_on T r (make (r + length acc) i.new) g
            ((q (more seen i.new)).derived (acc ++ i.new) i.middle r i.between (after R g.sents) rows to book' i.next g.agrees
            (omega (arith, ends g.here, g.ends))
            (omega (arith, length-append acc i.new, g.fits)));
      }

  -- a count, and that many items
  counted_sound :
      (b : ℕ) (kind : ℕ) {f : Texts → Reader} {more : Texts → List Row → Texts} (P : ℕ → Production) (Q : Production)
      → has_number kind ≡ false → has_content kind ≡ false → ((n : ℕ) → SoundOn f more n [] (P n))
      →
      ((n i j k l : ℕ) (xs : List ℕ) (cs : List Cell) (fs : List Sent) → LSB n i j k l → P n xs cs fs → Q (b ∷ i ∷ j ∷ k ∷ l ∷ xs)
      (cell kind (length cs) (holding n) ∷ cs) fs)
      → SoundAt s room b (counted s room kind f more) Q
  counted_sound b kind {f} {more} P Q h i run make =
      record {
        derived = λ at r book R rows to book' j e a.
            let n = unsigned_at s (at + 1) in
            let g = opened_by s room 5 at r _ e in
            let k = over_by kind n r (items f more n [] [] (at + 5) (r + 1) book) g.2 in
            let t = (run n).derived [] (at + 5) (r + 1) book R k.new to book' k.is a g.1 (omega (arith, g.0)) in
            let u : r + 1 + 0 ≡ r + 1 = omega arith in
            let ps = b ∷ byte_at s (at + 1) ∷ byte_at s (at + 1 + 1) ∷ byte_at s (at + 1 + 2) ∷ byte_at s (at + 1 + 3) ∷ [] in
            let p : Here s at ps = rw j at (five_before {s = s} {at = at} g.1 (nothing_here g.1)) in
            over_derived Q kind n ps h i (λ xs cs fs x. make n _ _ _ _ xs cs fs refl x) p refl (rw (u, ← t.all) at t.derived) k.all;
      }

  -- the productions
  binary_sound : SoundAt s room (code "B") (long_item s room content.Binary) OneBinary
  binary_sound = long_sound (code "B") content.Binary OneBinary (λ t. []) (λ n i j k l t e f g. one_binary (binary e f g)) (λ t R. (legal_none, refl))

  other_sound : (d : ℕ) → SoundAt s room (code "O") (other_item s room) (Value d)
  unfolding has_number has_content
  other_sound d =
      record {
        derived = λ at r book R rows to book' b e a.
            let f = opened_by s room 1 at r _ e in
            let g = over_by 12 2 r (read-pair (name s room at) (only s room (code "B") (long_item s room content.Binary)) (at + 1) (r + 1) book) f.2 in
            let h = (pair_sound OtherBody other_join (name_sound at) (only_sound (code "B") binary_sound)).derived (at + 1) (r + 1) book R g.new to book' g.is a in
            over_derived (Value d) 12 2 (code "O" ∷ []) refl refl (λ xs cs fs x. other_make x)
            (rw b at (byte_before {s = s} {at = at} (omega (arith, f.1)) (nothing_here f.1))) refl h g.all;
      }

  pub alike_sound : (d : ℕ) → Sound s room (value s room d) (Value d) → (seen : Texts) → Sound s room (alike (value s room d) seen) (Value d)
  unfolding alike
  alike_sound d sound seen = sound

  values_sound :
      (d : ℕ) → Sound s room (value s room d) (Value d) → (n : ℕ) (seen : Texts) → SoundOn (alike (value s room d)) nothing n seen (Values d n)
  values_sound d sound zero seen = no_items (Values d zero) no_values
  values_sound d sound (suc n) seen =
      more_items {Q = λ seen'. Values d n} (Values d (suc n)) (λ r rows xs ys us vs fs gs x y. more_values x.0 y refl refl refl) (alike_sound d sound seen)
      (values_sound d sound n)

  -- the key of a pair is the text of its first row
  more_pairs_by :
      {d n r : ℕ} {seen : Texts} (rows : List Row) {xs ys : List ℕ} {us vs : List Cell} {fs gs : List Sent} → Member d seen xs us fs → Realises s r rows us
      → Pairs d (keeping s room seen rows) n ys vs gs → Pairs d seen (suc n) (xs ++ ys) (us ++ vs) (fs ++ gs)
  unfolding keeping
  more_pairs_by rows (a_member (pair x v e) k) m y = more_pairs (pair x v e) k (rw (first_text_lem s room rows content.Text m) at y) refl refl refl

  pub member_sound : (d : ℕ) → Sound s room (value s room d) (Value d) → (seen : Texts) → Sound s room (member s room (value s room d) seen) (Member d seen)
  unfolding member
  member_sound d sound seen = pair_sound (Member d seen) member_join (key_sound seen) sound

  pairs_sound :
      (d : ℕ) → Sound s room (value s room d) (Value d) → (n : ℕ) (seen : Texts)
      → SoundOn (member s room (value s room d)) (keeping s room) n seen (Pairs d seen n)
  pairs_sound d sound zero seen = no_items (Pairs d seen zero) no_pairs
  pairs_sound d sound (suc n) seen =
      more_items {Q = λ seen'. Pairs d seen' n} (Pairs d seen (suc n)) (λ r rows xs ys us vs fs gs x y. more_pairs_by rows x.0 x.1 y) (member_sound d sound seen)
      (pairs_sound d sound n)

  -- nothing nests at the floor
  array_floor : SoundAt s room (code "A") (array_item s room floor) (Array zero)
  array_floor = record { derived = λ at r book R rows to book' b e a. refused_got e }

  struct_floor : SoundAt s room (code "S") (struct_item s room floor) (Struct zero)
  struct_floor = record { derived = λ at r book R rows to book' b e a. refused_got e }

  array_under :
      (d : ℕ) → Sound s room (value s room d) (Value d) → SoundAt s room (code "A") (array_item s room (under (value s room d))) (Array (suc d))
  unfolding has_number has_content
  array_under d sound = counted_sound (code "A") 9 (Values d) (Array (suc d)) refl refl (λ n. values_sound d sound n []) (λ n i j k l xs cs fs e x. array e x refl)

  struct_under :
      (d : ℕ) → Sound s room (value s room d) (Value d) → SoundAt s room (code "S") (struct_item s room (under (value s room d))) (Struct (suc d))
  unfolding has_number has_content
  struct_under d sound = counted_sound (code "S") 10 (Pairs d []) (Struct (suc d)) refl refl (λ n. pairs_sound d sound n []) (λ n i j k l xs cs fs e x. struct e x refl)

  -- one production for another
  as_value :
      {P Q : Production} {at r : ℕ} {R : List Recording} {rows : List Row} {to : ℕ} {book : Book}
      → ((xs : List ℕ) (cs : List Cell) (fs : List Sent) → P xs cs fs → Q xs cs fs) → Derived P s room at r R rows to book
      → Derived Q s room at r R rows to book
  as_value make g =
      record {
        used = g.used;
        cells = g.cells;
        sents = g.sents;
        derives = make _ _ _ g.derives;
        here = g.here;
        ends = g.ends;
        legal = g.legal;
        agrees = g.agrees;
        realises = g.realises;
        fits = g.fits;
      }

  item_sound :
      (d : ℕ) (nest : Nest) → SoundAt s room (code "A") (array_item s room nest) (Array d)
      → SoundAt s room (code "S") (struct_item s room nest) (Struct d)
      → (at r : ℕ) (book : Book) (R : List Recording) (rows : List Row) (to : ℕ) (book' : Book) (t : Tag) → Byte t (byte_at s at)
      → item s room t nest at r book ≡ got rows to book' → Agrees s book R → Derived (Value d) s room at r R rows to book'
  item_sound d nest p q at r book R rows to book' (tag.Plain plain.Integer) b e a = (integer_sound d).derived at r book R rows to book' b e a
  item_sound d nest p q at r book R rows to book' (tag.Plain plain.True) b e a = (boolean_sound (code "t") 1 d boolean_true).derived at r book R rows to book' b e a
  item_sound d nest p q at r book R rows to book' (tag.Plain plain.False) b e a = (boolean_sound (code "f") 0 d boolean_false).derived at r book R rows to book' b e a
  item_sound d nest p q at r book R rows to book' (tag.Plain plain.Double) b e a =
      (short_sound (code "D") content.Double (Value d) (λ n t f g. double_value (double f g))).derived at r book R rows to book' b e a
  item_sound d nest p q at r book R rows to book' (tag.Plain plain.DateTime) b e a =
      (short_sound (code "8") content.DateTime (Value d) (λ n t f g. datetime_value (datetime f g))).derived at r book R rows to book' b e a
  item_sound d nest p q at r book R rows to book' (tag.Plain plain.Binary) b e a =
      as_value (λ xs cs fs x. binary_make x) (binary_sound.derived at r book R rows to book' b e a)
  item_sound d nest p q at r book R rows to book' (tag.Plain plain.Other) b e a = (other_sound d).derived at r book R rows to book' b e a
  item_sound d nest p q at r book R rows to book' (tag.String form) b e a =
      as_value (λ xs cs fs x. string_make x) ((string_item_sound form).derived at r book R rows to book' b e a)
  item_sound d nest p q at r book R rows to book' tag.Array b e a = as_value (λ xs cs fs x. array_value x) (p.derived at r book R rows to book' b e a)
  item_sound d nest p q at r book R rows to book' tag.Struct b e a = as_value (λ xs cs fs x. struct_value x) (q.derived at r book R rows to book' b e a)
  item_sound d nest p q at r book R rows to book' tag.Unknown b e a = refused_got e

  by_tag :
      (d : ℕ) → SoundAt s room (code "A") (array_item s room (nested s room d)) (Array d)
      → SoundAt s room (code "S") (struct_item s room (nested s room d)) (Struct d) → Sound s room (value s room d) (Value d)
  by_tag d p q =
      record {
        derived = λ at r book R rows to book' e a.
            let f = present_by s room at _ (sym (value_is s room d at r book) ∙ e) in
            item_sound d (nested s room d) p q at r book R rows to book' (tag_of (byte_at s at)) (tag_byte (byte_at s at)) f.1 a;
      }

  pub value_sound : (d : ℕ) → Sound s room (value s room d) (Value d)
  unfolding nested
  value_sound zero = by_tag zero array_floor struct_floor
  value_sound (suc d) = by_tag (suc d) (array_under d (value_sound d)) (struct_under d (value_sound d))

  array_sound : (d : ℕ) → SoundAt s room (code "A") (array_item s room (nested s room d)) (Array d)
  unfolding nested
  array_sound zero = array_floor
  array_sound (suc d) = array_under d (value_sound d)

  pub struct_sound : (d : ℕ) → SoundAt s room (code "S") (struct_item s room (nested s room d)) (Struct d)
  unfolding nested
  struct_sound zero = struct_floor
  struct_sound (suc d) = struct_under d (value_sound d)

  call_sound : (d : ℕ) → SoundAt s room (code "C") (call_item s room d) (Call d)
  unfolding has_number has_content
  call_sound d =
      record {
        derived = λ at r book R rows to book' b e a.
            let f = opened_by s room 1 at r _ e in
            let g = over_by 1 2 r (read-pair (read-string s room) (only s room (code "A") (array_item s room (nested s room d))) (at + 1) (r + 1) book) f.2 in
            let h = (pair_sound (CallBody d) call_join string_sound (only_sound (code "A") (array_sound d))).derived (at + 1) (r + 1) book R g.new to book' g.is a in
            over_derived (Call d) 1 2 (code "C" ∷ []) refl refl (λ xs cs fs x. call_make x)
            (rw b at (byte_before {s = s} {at = at} (omega (arith, f.1)) (nothing_here f.1))) refl h g.all;
      }

  fault_sound : (d : ℕ) → Sound s room (fault_struct s room d) (FaultStruct d)
  unfolding fault_struct
  fault_sound d =
      record {
        derived = λ at r book R rows to book' e a.
            let f = then_by (only s room (code "S") (struct_item s room (nested s room d)) at r book) _ e in
            let g = judged_by (fault_rule (held_rows s (below f.new))) at _ f.next in
            let h = (only_sound (code "S") (struct_sound d)).derived at r book R rows to book' (f.is ∙ g.1) a in
            let i : f.new ≡ rows = cc in
            let k : fault_rule (held_rows s (below rows)) ≡ Ok tt = rw i at g.0 in
            record {
              used = h.used;
              cells = h.cells;
              sents = h.sents;
              derives = (h.derives, rw (held_below h.realises) at k);
              here = h.here;
              ends = h.ends;
              legal = h.legal;
              agrees = h.agrees;
              realises = h.realises;
              fits = h.fits;
            };
      }

  response_sound : (d : ℕ) → SoundAt s room (code "R") (response_item s room d) (Response d)
  unfolding has_number has_content
  response_sound d =
      record {
        derived = λ at r book R rows to book' b e a.
            let f = opened_by s room 1 at r _ e in
            let g = present_by s room (at + 1) _ f.2 in
            go at r book R rows to book' b g.0 (eqb (byte_at s (at + 1)) (code "F")) refl g.1 a;
      }
    where
      go :
          (at r : ℕ) (book : Book) (R : List Recording) (rows : List Row) (to : ℕ) (book' : Book) → byte_at s at ≡ code "R" → at + 1 < length s
          → (c : Bool) → eqb (byte_at s (at + 1)) (code "F") ≡ c
          → cond c (over 3 1 r (fault_struct s room d (at + 2) (r + 1) book))
          (over 2 1 r (value s room d (at + 1) (r + 1) book)) ≡ got rows to book'
          → Agrees s book R → Derived (Response d) s room at r R rows to book'
      go at r book R rows to book' b i true j e a =
          let g = over_by 3 1 r (fault_struct s room d (at + 2) (r + 1) book) e in
          let h = (fault_sound d).derived (at + 2) (r + 1) book R g.new to book' g.is a in
          let p = two_before {s = s} {at = at} (omega arith) (nothing_here (omega arith)) in
          over_derived (Response d) 3 1 (code "R" ∷ code "F" ∷ []) refl refl (λ xs cs fs x. fault_response (fault x.0 x.1) refl)
          (rw (b, eqb-true (byte_at s (at + 1)) (code "F") j) at p) refl h g.all
      go at r book R rows to book' b i false j e a =
          let g = over_by 2 1 r (value s room d (at + 1) (r + 1) book) e in
          let h = (value_sound d).derived (at + 1) (r + 1) book R g.new to book' g.is a in
          over_derived (Response d) 2 1 (code "R" ∷ []) refl refl (λ xs cs fs x. value_response x refl)
          (rw b at (byte_before {s = s} {at = at} (omega arith) (nothing_here (omega arith)))) refl h g.all

  whole_sound : (d : ℕ) → Sound s room (call_or_response s room d) (CallOrResponse d)
  unfolding call_or_response
  whole_sound d =
      record {
        derived = λ at r book R rows to book' e a.
            let f = present_by s room at _ e in
            go at r book R rows to book' (eqb (byte_at s at) (code "C")) refl f.1 a;
      }
    where
      go :
          (at r : ℕ) (book : Book) (R : List Recording) (rows : List Row) (to : ℕ) (book' : Book) (c : Bool) → eqb (byte_at s at) (code "C") ≡ c
          → cond c (call_item s room d at r book) (cond (eqb (byte_at s at) (code "R")) (response_item s room d at r book) (refused UnexpectedByte at)) ≡ got rows to book'
          → Agrees s book R → Derived (CallOrResponse d) s room at r R rows to book'
      go at r book R rows to book' true i e a = as_value (λ xs cs fs x. of_call x) ((call_sound d).derived at r book R rows to book' (eqb-true _ _ i) e a)
      go at r book R rows to book' false i e a =
          let f = picked (eqb (byte_at s at) (code "R")) _ _ _ e in
          as_value (λ xs cs fs x. of_response x) ((response_sound d).derived at r book R rows to book' (eqb-true _ _ f.0) f.1 a)

-- the prefix
pub record Prefixed (p s : List ℕ) : Type 0 where
  pub rest : List ℕ
  pub is : s ≡ p ++ rest

agree_by : (s p : List ℕ) → agree s p ≡ true → length p ≤ length s → Prefixed p s
unfolding agree
agree_by [] [] e h = record { rest = []; is = refl }
agree_by [] (y ∷ p) e h = absurd (omega arith)
agree_by (x ∷ s) [] e h = record { rest = x ∷ s; is = refl }
agree_by (x ∷ s) (y ∷ p) e h = go (eqb x y) refl e (λ i. agree_by s p i (omega arith))
  where
    go : (b : Bool) → eqb x y ≡ b → b && agree s p ≡ true → (agree s p ≡ true → Prefixed p s) → Prefixed (y ∷ p) (x ∷ s)
    go true i j k = let f = k j in record { rest = f.rest; is = ap₂ (λ (a : ℕ) (l : List ℕ). a ∷ l) (eqb-true x y i) f.is }
    go false i j k = clash j refl

pub message_make : {d : ℕ} {xs : List ℕ} {cs : List Cell} {fs : List Sent} → CallOrResponse d xs cs fs → Message d (prefix ++ xs) cs fs
message_make (of_call x) = call_message x refl
message_make (of_response x) = response_message x refl

-- what is read is derived
pub sound :
    (s : List ℕ) (room d : ℕ) {rows : List Row} {to : ℕ} {book : Book} → message s room d ≡ got rows to book
    → Derived (Message d) s room 0 0 [] rows to book
unfolding message
sound s room d {rows} {to} {book} e =
    let f = picked (agree s prefix) _ _ _ e in
    let g = picked (leb 12 (length s)) _ _ _ f.1 in
    let p = agree_by s prefix f.0 (leb-true _ _ g.0) in
    let h = (whole_sound s room d).derived 12 0 clear [] rows to book g.1 agrees_clear in
    let k : Here s 0 prefix = record { rest = p.rest; from = p.is; starts = omega arith } in
    record {
      used = prefix ++ h.used;
      cells = h.cells;
      sents = h.sents;
      derives = message_make h.derives;
      here = join prefix h.used k h.here refl;
      ends = omega (arith, h.ends);
      legal = h.legal;
      agrees = h.agrees;
      realises = h.realises;
      fits = h.fits;
    }
