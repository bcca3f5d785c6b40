-- What answers each return of the functions that read an item. Assumes nothing.
use mathlib.Core.Path.{◌≡◌, refl, sym, ap, ◌∙◌}
use mathlib.Core.Bool.{Bool, true, false, cond}
use mathlib.Core.List.{List, [], ◌∷◌}
use Prim.Native.Nat.{ℕ, ◌+◌, ◌*◌, ◌≤◌, ◌<◌}
use native.Mathlib.Omega.{arith}
use mir.Syntax.{w32, w64}
use mir.Val.{Fits}
use lib.Dec.{leb, ltb, eqb}
use lib.ListN.{length, get_or}
use borrow.Author.Tests.{lt-ltb, le-ltb, leb-true, ne_eqb}
use Rattle.draft.specs.declared.Refusal.{Refusal}
use Rattle.draft.specs.declared.Refused.{Refused}
use Rattle.draft.specs.declared.Refusal.TheVariants.{Ended, UnexpectedByte, UnsetPosition, NoRow}
use Rattle.draft.specs.Verdict.{Verdict}
use Rattle.std.specs.Prelude.{Ok, Err}
use Rattle.draft.specs.declared.Content.{Content}
use Rattle.draft.specs.declared.Content.TheVariants as content
use Rattle.std.specs.Prelude.{Some, None}
use Rattle.draft.specs.declared.Tag.{Tag}
use Rattle.draft.specs.declared.Tag.TheVariants.{Plain, String, Array, Struct, Unknown}
use Rattle.draft.specs.declared.Plain.TheVariants.{Integer, True, False, Double, DateTime, Binary, Other}
use Rattle.draft.specs.declared.Form.TheVariants.{Regular, Recorded, Recalled}
use Rattle.draft.specs.declared.Row.{Row}
use Rattle.draft.specs.Rows.{row, kind_of}
use Rattle.draft.specs.Content.{verdict, all_there, content_rule}
use Rattle.draft.specs.Bytes.{part}
use Rattle.draft.specs.Codebook.{span, Entry, Book, recorded}
use Rattle.draft.specs.Table.{set_row, put_rows, row_at}
use Rattle.draft.specs.Read.{Reading, got, refused, opened, then, judged, leaf, contents, long_item, recorded_item, recalled_item, recalled, if_string, string, text_of, first_text, string_by, tag_of}
use Rattle.codebook.specs.Words.{book_of}
use Rattle.table.proofs.Stored.{first_row}
use Rattle.item.specs.declared.Reached.{Reached}
use Rattle.item.specs.Contract.{Step, refused_at, reached, read_to, judged_at, Did, Stored}
use Rattle.item.proofs.Tags.{tag_regular, tag_recorded, tag_recalled}
use Rattle.item.proofs.Readings.{ok_not, Got, did_next, did_not, done, did_no, held, opened_full, opened_cut, opened_on, leaf_got, judged_bad, judged_fine, judged_did, only_short, only_no, only_on, pair_first, pair_both, over_closed, did_ends, at_in, row_in, only_held, pair_held}

-- content that its rule takes lies in the message
fine_there : (b : Bool) (w : Verdict) → all_there b w ≡ Ok tt → b ≡ true
fine_there true w e = refl
fine_there false w e = let z : ◌≡◌ {A = ℕ} 0 1 = cc in absurd (omega arith)

fine_within : (c : Content) (s : List ℕ) (o n : ℕ) {v : Verdict} → v ≡ verdict c s o n → v ≡ Ok tt → o + n ≤ length s
unfolding verdict
fine_within c s o n e i = leb-true (o + n) (length s) (fine_there (leb (o + n) (length s)) (content_rule c (part s o n)) (sym e ∙ i))

module _ (c : Content) (s : List ℕ) (o n : ℕ) {v : Verdict} (e : v ≡ verdict c s o n) (i : v ≡ Ok tt) (h : length s ≤ 65536) where
  pub end_fits : Fits w64 (o + n)
  end_fits = omega (arith, fine_within c s o n e i)

  pub offset_fits : Fits w32 o
  offset_fits = omega (arith, fine_within c s o n e i)

  pub length_fits : Fits w32 n
  length_fits = omega (arith, fine_within c s o n e i)

-- an item's content
module _ (s : List ℕ) (c : Content) (o n at : ℕ) {room r : ℕ} {T T' : List ℕ} {v : Verdict} (e : v ≡ verdict c s o n) where
  pub contents_bad : {bytes from : ℕ} {m : Refusal} {step : Step} → v ≡ Err m → step ≡ refused_at m at → Stored (contents s room c o n at r) bytes room from r T T' step
  unfolding contents
  contents_bad {m = m} i f = record { did = λ W. judged_bad at _ e m i f }

  pub contents_fine : {k : ℕ} {step : Step} → v ≡ Ok tt → k ≡ kind_of c → step ≡ read_to (o + n) (r + 1) → T' ≡ set_row room T r (row k o n (r + 1)) → at < o → r < room → Stored (contents s room c o n at r) (length s) room (at + 1) r T T' step
  unfolding contents
  contents_fine i k f w l h =
      record { did = λ W. judged_fine at _ e i (leaf_got f (w ∙ rw k) (omega arith) (fine_within c s o n e i) h refl) }

-- content whose length was read
module _ (s : List ℕ) (c : Content) (o at : ℕ) {m n : ℕ} (e : m ≡ n) {bytes room from r : ℕ} {T T' : List ℕ} {step : Step} (d : Stored (contents s room c o m at r) bytes room from r T T' step) where
  pub contents_read : (W : List ℕ) → Did (contents s room c o n at r (book_of W)) bytes room from r T T' W step
  contents_read W = rw (← e) (d.did W)

  -- and that was recorded
  pub contents_recorded : (book : Book) (p : ℕ) (W : List ℕ) → book_of W ≡ recorded book p o m → Did (contents s room c o n at r (recorded book p o n)) bytes room from r T T' W step
  contents_recorded book p W f = rw (← e, ← f) (d.did W)

-- content that was refused is refused with any codebook; content that was taken has an offset and a length that a word of the codebook holds
module _ (s : List ℕ) (c : Content) (o m at : ℕ) {bytes room from r : ℕ} {T T₁ : List ℕ} {step : Step} (d : Stored (contents s room c o m at r) bytes room from r T T₁ step) where
  pub contents_refused : {n : ℕ} (book : Book) {T' W' : List ℕ} {y : Refused Refusal} {answer : Step} → m ≡ n → step ≡ Err y → answer ≡ Err y → Did (contents s room c o n at r book) bytes room from r T T' W' answer
  unfolding contents
  contents_refused book {y = y} {answer = answer} e z f = rw (← e) (go (verdict c s o m) (d.did []))
    where
      go : {T' W' : List ℕ} (v : Verdict) → Did (judged v at (leaf (kind_of c) o m r (o + m) (book_of []))) bytes room from r T T₁ [] step → Did (judged v at (leaf (kind_of c) o m r (o + m) book)) bytes room from r T T' W' answer
      go (Ok tt) x = absurd (ok_not x.says z)
      go (Err why) x = did_no why (f ∙ sym z ∙ x.says) refl

  contents_in : {y : Reached} → step ≡ Ok y → o + m ≤ bytes
  unfolding contents
  contents_in e = go (verdict c s o m) (d.did [])
    where
      go : (v : Verdict) → Did (judged v at (leaf (kind_of c) o m r (o + m) (book_of []))) bytes room from r T T₁ [] step → o + m ≤ bytes
      go (Ok tt) x = x.leaves.within
      go (Err why) x = absurd (ok_not e x.says)

  module _ {y : Reached} (e : step ≡ Ok y) (h : bytes ≤ 65536) where
    pub word_offset : o ≤ 65536
    word_offset = omega (arith, contents_in e)

    pub word_length : 0 < o → m < 65536
    word_length l = omega (arith, contents_in e)

-- an Integer's bits, as they were read
pub integer_got : {m n to : ℕ} {bytes room from r : ℕ} {T T' W : List ℕ} {step : Step} → m ≡ n → step ≡ read_to to (r + 1) → T' ≡ set_row room T r (row 4 m 0 (r + 1)) → from ≤ to → to ≤ bytes → r < room → Did (leaf 4 n 0 r to (book_of W)) bytes room from r T T' W step
integer_got e i w f l h = rw (← e) (leaf_got i w f l h refl)

-- what stands at a position, as it was recalled
module _ (s : List ℕ) (at : ℕ) (W : List ℕ) {e x : Entry} (i : e ≡ x) {bytes room from r : ℕ} {T T' : List ℕ} where
  pub recalled_unset : {step : Step} → e ≡ None → step ≡ refused_at UnsetPosition at → Did (recalled s room x at r (book_of W)) bytes room from r T T' W step
  recalled_unset u f = did_no UnsetPosition f (rw (← i, u))

  pub recalled_got : {o n : ℕ} {step : Step} → e ≡ Some (span o n) → step ≡ read_to (at + 2) (r + 1) → T' ≡ set_row room T r (row 11 o n (r + 1)) → from ≤ at + 2 → at + 2 ≤ bytes → r < room → Did (recalled s room x at r (book_of W)) bytes room from r T T' W step
  recalled_got u f w l k h = rw (← i, u) (leaf_got f w l k h refl)

-- a byte that begins no String
no_string : (s : List ℕ) (room at r : ℕ) (book : Book) (b : ℕ) → (b ≡ 85 → ⊥) → (b ≡ 62 → ⊥) → (b ≡ 60 → ⊥) → if_string s room (tag_of b) at r book ≡ refused UnexpectedByte at
unfolding tag_of
no_string s room at r book b l m n =
    chosen (eqb b 73) (Plain Integer) _ refl (chosen (eqb b 116) (Plain True) _ refl (chosen (eqb b 102) (Plain False) _ refl (chosen (eqb b 68) (Plain Double) _ refl (chosen (eqb b 56) (Plain DateTime) _ refl (chosen (eqb b 66) (Plain Binary) _ refl (chosen (eqb b 65) Array _ refl (chosen (eqb b 83) Struct _ refl (chosen (eqb b 79) (Plain Other) _ refl (rw (ne_eqb b 85 l, ne_eqb b 62 m, ne_eqb b 60 n))))))))))
  where
    chosen : (x : Bool) (t u : Tag) → if_string s room t at r book ≡ refused UnexpectedByte at → if_string s room u at r book ≡ refused UnexpectedByte at → if_string s room (cond x t u) at r book ≡ refused UnexpectedByte at
    chosen true t u e f = e
    chosen false t u e f = f

-- a String, where nothing else is allowed
module _ (s : List ℕ) (at : ℕ) {bytes room from r : ℕ} {T T' : List ℕ} {step : Step} where
  pub string_short : (book : Book) {W' : List ℕ} → length s ≤ at → step ≡ refused_at Ended at → Did (string s room at r book) bytes room from r T T' W' step
  unfolding string
  string_short book h f = did_no Ended f (simp (le-ltb _ _ h))

  module _ (h : at < length s) where
    pub string_regular : (W : List ℕ) → get_or s at 0 ≡ 85 → Stored (long_item s room content.Text at r) bytes room from r T T' step → Did (string s room at r (book_of W)) bytes room from r T T' W step
    unfolding string
    string_regular W e d = done (rw (lt-ltb _ _ h, ← tag_regular _ e)) (d.did W)

    pub string_recorded : (book : Book) {W' : List ℕ} → get_or s at 0 ≡ 62 → Did (recorded_item s room at r book) bytes room from r T T' W' step → Did (string s room at r book) bytes room from r T T' W' step
    unfolding string
    string_recorded book e d = done (rw (lt-ltb _ _ h, ← tag_recorded _ e)) d

    pub string_recalled : (book : Book) {W' : List ℕ} → get_or s at 0 ≡ 60 → Did (recalled_item s room at r book) bytes room from r T T' W' step → Did (string s room at r book) bytes room from r T T' W' step
    unfolding string
    string_recalled book e d = done (rw (lt-ltb _ _ h, ← tag_recalled _ e)) d

    pub string_no : (book : Book) {W' : List ℕ} → (get_or s at 0 ≡ 85 → ⊥) → (get_or s at 0 ≡ 62 → ⊥) → (get_or s at 0 ≡ 60 → ⊥) → step ≡ refused_at UnexpectedByte at → Did (string s room at r book) bytes room from r T T' W' step
    unfolding string
    string_no book l m n f = did_no UnexpectedByte f (rw (lt-ltb _ _ h) (no_string s room at r book (get_or s at 0) l m n))

-- an accepted String has one row
abbrev One : Reading → Type 0
One (refused m q) = Unit {0}
One (got rows at book) = (x : Row) × (rows ≡ x ∷ [])

pick_one : (b : Bool) (o : Reading) (m : Refusal) (q : ℕ) → One o → One (cond b o (refused m q))
pick_one true o m q i = i
pick_one false o m q i = tt

judged_one : (v : Verdict) (at : ℕ) (o : Reading) → One o → One (judged v at o)
judged_one (Ok tt) at o i = i
judged_one (Err m) at o i = tt

module _ (s : List ℕ) (room at r : ℕ) (book : Book) where
  opened_one : (size : ℕ) (o : Reading) → One o → One (opened s room size at r o)
  opened_one size o i = pick_one (ltb r room) _ NoRow at (pick_one (leb (at + size) (length s)) o Ended at i)

  recalled_one : (e : Entry) → One (recalled s room e at r book)
  recalled_one None = tt
  recalled_one (Some x) = (_, refl)

  contents_one : (c : Content) (o n : ℕ) (b : Book) → One (contents s room c o n at r b)
  unfolding contents
  contents_one c o n b = judged_one (verdict c s o n) at _ (_, refl)

  if_string_one : (t : Tag) → One (if_string s room t at r book)
  if_string_one (String Regular) = opened_one 5 _ (contents_one _ _ _ _)
  if_string_one (String Recorded) = opened_one 6 _ (contents_one _ _ _ _)
  if_string_one (String Recalled) = opened_one 2 _ (recalled_one (book (get_or s (at + 1) 0)))
  if_string_one (Plain x) = tt
  if_string_one Array = tt
  if_string_one Struct = tt
  if_string_one Unknown = tt

  string_one : One (string s room at r book)
  unfolding string
  string_one = pick_one (ltb at (length s)) _ Ended at (if_string_one (tag_of (get_or s at 0)))

-- the text of a row that was fetched
pub row_text_is : (s : List ℕ) {x y : Row} {t : List ℕ} → t ≡ part s x.a x.b → x ≡ y → t ≡ text_of s y
row_text_is s e f = e ∙ rw f

-- what an accepted reading did, by itself
pub got_did : {o : Reading} {bytes room from r : ℕ} {T T₁ W₁ : List ℕ} {x : Reached} {step : Step} → step ≡ Ok x → (g : Got o bytes room from r T T₁ W₁ x) → Did (got g.rows x.at (book_of W₁)) bytes room from r T T₁ W₁ step
got_did {x = x} e g = record { says = e ∙ ap (λ n. Ok (reached x.at n)) g.next; leaves = record { wrote = g.wrote; ahead = g.ahead; within = g.within; fits = rw (sym g.next) g.fits; holds = refl } }

-- a String's refusal is that of one which is to keep a rule
pub name_refused : (s : List ℕ) (rule : List ℕ → Verdict) (q at : ℕ) (book : Book) {bytes room from from' r : ℕ} {T T₁ T' W₁ W' : List ℕ} {x : Refused Refusal} {step answer : Step} → Did (string s room at r book) bytes room from r T T₁ W₁ step → step ≡ Err x → answer ≡ Err x → Did (string_by s room rule q at r book) bytes room from' r T T' W' answer
unfolding string_by
name_refused s rule q at book {room = room} {r = r} {x = x} d n f =
    let e : string s room at r book ≡ refused x.refusal x.place = did_not d n in
    did_no x.refusal f (ap (λ (o : Reading). then o (λ rows at' book'. judged (rule (first_text s room rows)) q (got rows at' book'))) e)

first_there : (s : List ℕ) (room r : ℕ) (T T₁ : List ℕ) (rows : List Row) (x : Row) → T₁ ≡ put_rows room T r rows → rows ≡ x ∷ [] → r < room → room * 4 ≤ length T → text_of s (row_at room T₁ r) ≡ first_text s room rows
first_there s room r T T₁ rows x i e h l = rw (i, e, first_row room T r x [] h l)

name_by : (s : List ℕ) (rule : List ℕ → Verdict) (room q at r : ℕ) (book : Book) {rows : List Row} {to : ℕ} {book' : Book} {v : Verdict} → string s room at r book ≡ got rows to book' → v ≡ rule (first_text s room rows) → string_by s room rule q at r book ≡ judged v q (got rows to book')
unfolding string_by
name_by s rule room q at r book e f = rw (e, f)

-- a String that was read, whose row is in the table
module _ (s : List ℕ) (at : ℕ) (book : Book) {bytes room from r : ℕ} {T T₁ W₁ : List ℕ} {x : Reached} {step : Step} (d : Did (string s room at r book) bytes room from r T T₁ W₁ step) (e : step ≡ Ok x) where
  pub the_row : (y : Row) × ((did_next d e).rows ≡ y ∷ [])
  the_row = rw (did_next d e).reading at (string_one s room at r book)

  pub string_row : r < room
  string_row =
      let g = did_next d e in
      let n : length g.rows ≡ 1 = rw the_row.1 in
      omega (arith, g.next, g.fits)

  pub named : {t : List ℕ} → room * 4 ≤ length T → t ≡ text_of s (row_at room T₁ r) → t ≡ first_text s room (did_next d e).rows
  named l f = f ∙ first_there s room r T T₁ (did_next d e).rows the_row.0 (did_next d e).wrote the_row.1 string_row l

  -- as its rule says, at q
  module _ (rule : List ℕ → Verdict) (q : ℕ) {t : List ℕ} {v : Verdict} (l : room * 4 ≤ length T) (f : t ≡ text_of s (row_at room T₁ r)) (g : v ≡ rule t) where
    pub name_is : string_by s room rule q at r book ≡ judged v q (got (did_next d e).rows x.at (book_of W₁))
    name_is = name_by s rule room q at r book (did_next d e).reading (g ∙ ap rule (named l f))

    pub name_judged : {answer : Step} → answer ≡ judged_at v q (Ok x) → Did (string_by s room rule q at r book) bytes room from r T T₁ W₁ answer
    name_judged i = done name_is (judged_did v q (got_did e (did_next d e)) (i ∙ ap (judged_at v q) (sym e)))

-- an item's own row
-- small steps on
pub ahead_one : (n : ℕ) → n + 1 ≤ n + 1
ahead_one n = omega arith

pub ahead_next : (n : ℕ) → n + 1 ≤ n + 1 + 1
ahead_next n = omega arith

pub ahead_two : (n : ℕ) → n + 1 ≤ n + 2
ahead_two n = omega arith

pub ahead_five : (n : ℕ) → n + 1 ≤ n + 5
ahead_five n = omega arith

pub one_in : {n m : ℕ} → n < m → n + 1 ≤ m
one_in h = omega arith

pub ruleset leaves = (held, opened_full, opened_cut, opened_on, leaf_got, integer_got, contents_bad, contents_fine, contents_read, contents_recorded, contents_refused, word_offset, word_length, recalled_unset, recalled_got, end_fits, offset_fits, length_fits, ahead_one, ahead_two, ahead_five, one_in)

pub ruleset strings = (string_short, string_regular, string_recorded, string_recalled, string_no, only_short, only_no, only_on, only_held)

pub ruleset others = (string_row, name_refused, name_judged, pair_first, pair_both, pair_held, at_in, row_in, did_ends, row_text_is, opened_full, opened_on, over_closed, one_in, ahead_next)
