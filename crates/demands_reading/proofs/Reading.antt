-- Demand 2 for reading: reading accepts exactly what the draft's grammar derives within the limits, and the rows say what was derived.
-- The grammar and the meaning of rows are crate draft's Grammar and Meaning; the long arguments are in crate exact. Assumes nothing.
use mathlib.Core.Path.{◌≡◌, refl, ap, ◌∙◌}
use mathlib.Core.Bool.{Bool, true, false}
use mathlib.Core.Logic.Iff
use mathlib.Core.Logic.{◌↔◌, ◌≢◌}
use mathlib.Core.List.{List, [], ◌∷◌, ◌++◌}
use Prim.Native.Nat.{ℕ, suc, ◌+◌, ◌≤◌}
use native.Mathlib.Omega.{arith}
use lib.ListN.{length}
use Rattle.text.specs.Rfc3629.{UTF8-octets}
use Rattle.text.specs.Utf8.{well_formed}
use Rattle.text.specs.Texts.{ascii, same, among, standard_name}
use Rattle.text.proofs.Comparing.{clash}
use Rattle.text.proofs.Grammar.{accepted, derived}
use Rattle.lexical.specs.Double.{is_double}
use Rattle.lexical.specs.DateTime.{is_date_time}
use Rattle.lexical.specs.Grammar.{Double, DateTime}
use Rattle.lexical.proofs.Doubles.{double_exactly, double_ascii}
use Rattle.lexical.proofs.DateTimes.{datetime_exactly, datetime_ascii}
use Rattle.draft.specs.declared.Refusal.{Refusal}
use Rattle.draft.specs.declared.Refusal.TheVariants.{Ended, BadText, StandardName, TooDeep, NoRow, BadFault, BadValue, RepeatedKey}
use Rattle.std.specs.Prelude.{Ok}
use Rattle.draft.specs.declared.Content.TheVariants as content
use Rattle.draft.specs.declared.Row.{Row}
use Rattle.draft.specs.Bytes.{bytes}
use Rattle.draft.specs.Content.{content_rule, ascii_then, bad_if, name_rule, key_rule, Held, is_code, is_message, is_fault, fault_rule}
use Rattle.draft.specs.Codebook.{Book}
use Rattle.draft.specs.Table.{room_of}
use Rattle.draft.specs.Read.{Reading, got, refused, Reader, behind, pair, string as readString, first_text, string_by, key, member, message, message_within}
use Rattle.draft.specs.Grammar.{Cell, Sent, Keeps, Begins, Pairs, no_pairs, more_pairs}
use Rattle.draft.specs.Meaning.{MeanSame, Realises}
use Rattle.read_answer.specs.Answers.{reading}
use Rattle.read_answer.proofs.Limited.{reading_within, reading_got, got_within}
use Rattle.draft.specs.Limits.{allowed}
use Rattle.exact.proofs.Members.{fine_by, fault_by}
use Rattle.exact.proofs.Keys.{Fresh, no_key, new_key, fresh_distinct, all_fresh}
use Rattle.exact.proofs.Realising.{counts, same_meaning, one_meaning as one_list}
use Rattle.exact.proofs.Deriving.{sound as derived-from}
use Rattle.exact.proofs.Growing.{no_longer, longer, message_stays}
use Rattle.demands_reading.specs.Members.{TwoMembers, code_first, message_first, PairsWith, no_pair, and_pair, Distinct}
use Rattle.exact.proofs.Concluding.{stays_but, reads, begins, begins_once, within_is, within_got}

-- an answer accepts s, with that many bytes used and rows of this meaning
pub record Accepts (answer : Reading) (s : List ℕ) (used : ℕ) (cells : List Cell) : Type 0 where
  pub rows : List Row
  pub book : Book
  pub is : answer ≡ got rows used book
  pub meaning : Realises s 0 rows cells

-- rows and bytes used are what the draft derives, within the limits
pub record Derived (most : ℕ) (s : List ℕ) (room deep : ℕ) (rows : List Row) (used : ℕ) : Type 0 where
  pub cells : List Cell
  pub begins : Begins s used deep cells
  pub meaning : Realises s 0 rows cells
  pub fits : length rows ≤ room
  pub bytes : length s ≤ most

-- SOUND. If reading accepts with rows and bytes used, the grammar derives exactly the used bytes, with the meaning that the rows and the
-- message have, within the limits.
pub sound :
    (most : ℕ) (s : List ℕ) (room deep : ℕ) {rows : List Row} {used : ℕ} {book : Book} → message_within most s room deep ≡ got rows used book
    → Derived most s room deep rows used
sound most s room deep e =
    let f = within_got most s room deep e in
    let g = derived-from s room deep f.1 in
    record { cells = g.cells; begins = begins s room deep g; meaning = g.realises; fits = omega (arith, g.fits); bytes = f.0 }

-- COMPLETE. If the grammar derives a beginning of the message within the limits, reading accepts it with that meaning and that number of bytes
-- used, whatever follows.
pub complete :
    (most : ℕ) (s : List ℕ) (room deep : ℕ) {used nesting : ℕ} {cells : List Cell} → Begins s used nesting cells → length s ≤ most
    → length cells ≤ room → nesting ≤ deep → Accepts (message_within most s room deep) s used cells
complete most s room deep b h i j =
    let g = reads s room deep b i j in
    record { rows = g.rows; book = g.book; is = within_is most s room deep h ∙ g.is; meaning = g.realises }

-- EXACTLY, with document 01's numbers and the limit that the call states: `reader::read` accepts a message into a table of so many words exactly
-- if the limit is one of 1 to 32 and the draft derives a beginning of the message within them, and then with that meaning.
pub exactly :
    (limit : ℕ) (s : List ℕ) (words used : ℕ) (cells : List Cell)
    → Accepts (reading limit s words) s used cells
    ↔ ((allowed limit ≡ true) × (length s ≤ 65536) × (length cells ≤ room_of 4096 words) × Begins s used limit cells)
exactly limit s words used cells = (
  λ a.
      let d = sound 65536 s (room_of 4096 words) limit (got_within limit s words a.is) in
      let e : d.cells ≡ cells = one_list d.meaning a.meaning in
      (reading_got limit s words a.is, d.bytes, omega (arith, counts a.meaning, d.fits), rw e at d.begins),
  λ h. rw (reading_within limit s words h.0) (complete 65536 s (room_of 4096 words) limit h.3 h.1 h.2 (omega arith)),
)

-- NESTING is spoken of by a bound: what nests to a depth of at most d nests to at most any greater one.
pub nesting_bound : {s : List ℕ} {used d e : ℕ} {cells : List Cell} → Begins s used d cells → d ≤ e → Begins s used e cells
nesting_bound {s} {used} {d} {e} {cells} b h =
    let g = reads s (length cells) e b (omega arith) h in
    let k = derived-from s (length cells) e g.is in
    let i : k.cells ≡ cells = one_list k.realises g.realises in
    rw i at (begins s (length cells) e k)

-- ONE MEANING. Two derivations of beginnings of one message have the same length and the same meaning.
pub one_meaning :
    {s : List ℕ} {used used' nesting nesting' : ℕ} {cells cells' : List Cell} → Begins s used nesting cells → Begins s used' nesting' cells'
    → (used ≡ used') × (cells ≡ cells')
one_meaning {s} b c = begins_once s b c

-- PUT ASIDE. With 8, 9 and 10 put aside, that is for some rows and nesting and with no test of the number of bytes, reading accepts exactly the
-- messages of which a beginning is derived; and with exactly the meaning and the bytes used that are derived.
pub put_aside_meaning :
    (s : List ℕ) (used : ℕ) (cells : List Cell)
    → ((room : ℕ) × (deep : ℕ) × Accepts (message s room deep) s used cells) ↔ ((nesting : ℕ) × Begins s used nesting cells)
put_aside_meaning s used cells = (
  λ h.
      let g = derived-from s h.0 h.1 h.2.is in
      let e : g.cells ≡ cells = one_list g.realises h.2.meaning in
      (h.1, rw e at (begins s h.0 h.1 g)),
  λ h.
      let g = reads s (length cells) h.0 h.1 (omega arith) (omega arith) in
      (length cells, h.0, record { rows = g.rows; book = g.book; is = g.is; meaning = g.realises }),
)

-- GROWTH of the limits. With no less room and no less nesting, an answer other than 8 and 9 stays, with its place, rows and bytes used.
pub growth_of_limits :
    (s : List ℕ) {room room' deep deep' : ℕ} → room ≤ room' → deep ≤ deep' → ((at : ℕ) → message s room deep ≢ refused TooDeep at)
    → ((at : ℕ) → message s room deep ≢ refused NoRow at) → message s room' deep' ≡ message s room deep
growth_of_limits s {room} {room'} {deep} {deep'} h k f g =
    stays_but (message_stays s s room room' (no_longer s) h deep deep' k) (λ i. clash i refl) f g

-- so an acceptance stays with a higher limit
pub got_deeper :
    (most : ℕ) (s : List ℕ) (room : ℕ) {deep deep' : ℕ} {rows : List Row} {used : ℕ} {book : Book} → deep ≤ deep'
    → message_within most s room deep ≡ got rows used book → message_within most s room deep' ≡ got rows used book
got_deeper most s room {deep} {deep'} {rows} {used} {book} k e =
    let f = within_got most s room deep e in
    let g : message s room deep ≡ got rows used book = f.1 in
    within_is most s room deep' f.0
    ∙ growth_of_limits s (omega arith) k (λ at z. let n : ◌≡◌ {A = ℕ} 0 1 = cc in omega arith) (λ at z. let n : ◌≡◌ {A = ℕ} 0 1 = cc in omega arith)
    ∙ g

-- GROWTH of the message. For a longer message that begins with this one, an answer other than 1, 8 and 9 stays so.
pub growth_of_message :
    (s more : List ℕ) {room room' deep deep' : ℕ} → room ≤ room' → deep ≤ deep' → ((at : ℕ) → message s room deep ≢ refused Ended at)
    → ((at : ℕ) → message s room deep ≢ refused TooDeep at) → ((at : ℕ) → message s room deep ≢ refused NoRow at)
    → message (s ++ more) room' deep' ≡ message s room deep
growth_of_message s more {room} {room'} {deep} {deep'} h k e f g =
    stays_but (message_stays s (s ++ more) room room' (longer s more) h deep deep' k) (λ i. e) f g

-- MEANING. Tables that realise cells mean the same, in document 01's words, exactly if the cells are equal.
pub mean_same : {s t : List ℕ} {xs ys : List Row} {cs ds : List Cell} → Realises s 0 xs cs → Realises t 0 ys ds → MeanSame s t xs ys ↔ (cs ≡ ds)
mean_same a b = same_meaning a b

-- UTF-8. What the grammar asks of a text is RFC 3629's syntax of UTF-8.
pub text_is_utf8 : (t : List ℕ) → Keeps content.Text t ↔ UTF8-octets t
unfolding content_rule
text_is_utf8 t = (λ h. derived t (fine_by (well_formed t) BadText h), λ h. rw (accepted h))

-- NAMES. An Other's name is none of the nine.
bad_fine : (b : Bool) (m : Refusal) → (bad_if b m ≡ Ok tt) ↔ (b ≡ false)
bad_fine true m = (λ e. let z : ◌≡◌ {A = ℕ} 0 1 = cc in absurd (omega arith), λ e. clash refl e)
bad_fine false m = (λ e. refl, λ e. refl)

pub other_name :
    (t : List ℕ)
    → (name_rule t ≡ Ok tt)
    ↔ (among (bytes "i4" ∷ bytes "int" ∷ bytes "boolean" ∷ bytes "string" ∷ bytes "double" ∷ bytes "dateTime.iso8601" ∷ bytes "base64" ∷ bytes "struct"
    ∷ bytes "array" ∷ []) t ≡ false)
unfolding name_rule standard_name
other_name t = bad_fine (standard_name t) StandardName

-- DOUBLES AND DATES. What the grammar asks of a Double's text and of a DateTime's are document 02's productions (crate lexical's Grammar): a sign or
-- none, digits, a point, digits; and 17 bytes, as in `19980717T14:08:55`, of a day that there is.
then_fine : (a b : Bool) → (b ≡ true → a ≡ true) → (ascii_then a b ≡ Ok tt) ↔ (b ≡ true)
then_fine true b h = (fine_by b BadValue, λ e. rw e)
then_fine false b h = (λ e. clash (fine_by false BadText e) refl, λ e. clash (h e) refl)

pub text_is_double : (t : List ℕ) → Keeps content.Double t ↔ Double t
unfolding content_rule
text_is_double t = Iff.trans (then_fine (ascii t) (is_double t) (double_ascii t)) (double_exactly t)

pub text_is_datetime : (t : List ℕ) → Keeps content.DateTime t ↔ DateTime t
unfolding content_rule
text_is_datetime t = Iff.trans (then_fine (ascii t) (is_date_time t) (datetime_ascii t)) (datetime_exactly t)

-- KEYS. The pairs of a Struct are n pairs whose keys are distinct: any two, at different places in the order of the pairs, differ as bytes,
-- whichever way each is sent. Nothing else is asked of them.
pub distinct_keys :
    {d n : ℕ} {xs : List ℕ} {cs : List Cell} {fs : List Sent}
    → Pairs d [] n xs cs fs ↔ ((keys : List (List ℕ)) × (length keys ≡ n) × PairsWith d keys xs cs fs × Distinct keys)
distinct_keys = (
  λ p. let h = taken p in (h.0, h.1, h.2, λ i j k l. fresh_distinct {ts = h.0} h.3 i j (omega arith) (omega arith)),
  λ h. rw h.1 at (made h.2 (all_fresh h.0 (λ i j k l. h.3 i j (omega arith) (omega arith)))),
)
  where
    taken :
        {d n : ℕ} {seen : List (List ℕ)} {xs : List ℕ} {cs : List Cell} {fs : List Sent} → Pairs d seen n xs cs fs
        → (keys : List (List ℕ)) × (length keys ≡ n) × PairsWith d keys xs cs fs × Fresh seen keys
    taken no_pairs = ([], refl, no_pair, no_key)
    taken (more_pairs {t = t} p k ps e f g) = let h = taken ps in (t ∷ h.0, ap suc h.1, and_pair p h.2 e f g, new_key k h.3)

    made :
        {d : ℕ} {seen keys : List (List ℕ)} {xs : List ℕ} {cs : List Cell} {fs : List Sent} → PairsWith d keys xs cs fs → Fresh seen keys
        → Pairs d seen (length keys) xs cs fs
    made no_pair no_key = no_pairs
    made (and_pair p ps e f g) (new_key k h) = more_pairs p k (made ps h) e f g

-- 20 IN ITS ORDER, of a pair behind those whose keys were seen, whatever reads its value: what the key itself gives comes first; then 20 at the
-- key's place if it was seen; and else the value is read behind it.
module _ (s : List ℕ) (room : ℕ) (value : Reader) (seen : List (List ℕ)) (at r : ℕ) (book : Book) where
  pub key_refused : {m : Refusal} {place : ℕ} → readString s room at r book ≡ refused m place → member s room value seen at r book ≡ refused m place
  unfolding member pair key string_by
  key_refused e = rw e

  module _ {rows : List Row} {to : ℕ} {book' : Book} (e : readString s room at r book ≡ got rows to book') where
    pub key_repeated : among seen (first_text s room rows) ≡ true → member s room value seen at r book ≡ refused RepeatedKey at
    unfolding member pair key string_by key_rule
    key_repeated h = rw (e, h)

    pub key_new : among seen (first_text s room rows) ≡ false → member s room value seen at r book ≡ behind rows (value to (r + length rows) book')
    unfolding member pair key string_by key_rule
    key_new h = rw (e, h)

-- FAULTS. What the grammar asks of a fault's Struct: the items below it are a faultCode, an Integer, and a faultString, a String, in either order,
-- and no more.
pub two_members : (items : List Held) → (fault_rule items ≡ Ok tt) ↔ TwoMembers items
unfolding fault_rule is_fault is_code is_message same
two_members items = (λ h. fault_by TwoMembers code_first message_first items (fine_by (is_fault items) BadFault h), back)
  where
    back : {items : List Held} → TwoMembers items → fault_rule items ≡ Ok tt
    back (code_first t) = refl
    back (message_first t) = refl
