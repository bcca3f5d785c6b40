-- Demands 2 and 3 for the written form: a table is writable exactly if the draft derives its meaning, and its written form is derived, read back
-- with the same meaning, settled by it, and shortest. Writable tables and the written form are crate draft's Writable and Written; the long
-- arguments are in crate written. Assumes nothing.
use mathlib.Core.Path.{◌≡◌, refl, sym, ◌∙◌}
use mathlib.Core.Bool.{Bool, true, false, ◌||◌, cond}
use mathlib.Core.Logic.{◌↔◌}
use mathlib.Core.List.{List, [], ◌∷◌, ◌++◌}
use Prim.Native.Nat.{ℕ, ◌≤◌, ◌<◌}
use native.Mathlib.Omega.{arith}
use lib.Dec.{leb}
use lib.ListN.{length, get_or, length-take}
use Rattle.text.specs.Texts.{same, among}
use Rattle.draft.specs.declared.Row.{Row}
use Rattle.draft.specs.Bytes.{Below}
use Rattle.draft.specs.Table.{room_of}
use Rattle.draft.specs.Codebook.{Book}
use Rattle.draft.specs.Read.{Reading, got, message}
use Rattle.draft.specs.Meaning.{MeanSame}
use Rattle.draft.specs.Grammar.{Sent, regular, recorded, recalled}
use Rattle.draft.specs.Strings.{Text, repeated, kept, position, sents, plan, texts_of}
use Rattle.draft.specs.Limits.{allowed}
use Rattle.draft.specs.Writable.{writable_within, writable_to, writable}
use Rattle.draft.specs.Written.{written, rows_of}
use Rattle.read_answer.specs.Answers.{reading, table_of}
use Rattle.read_answer.proofs.Limited.{reading_within, got_within}
use Rattle.exact.proofs.Realising.{counts, same_meaning}
use Rattle.occurring.specs.Occurring.{bit, times}
use Rattle.written.specs.Derivable.{DerivesRows, Within}
use Rattle.occurring.proofs.Repeating.{repeated_once}
use Rattle.written.proofs.Concluding as conclude
use Rattle.written.proofs.Returning as return
use Rattle.written.proofs.Sending.{position_below}
use Rattle.demands_reading.proofs.Reading.{complete, got_deeper}

-- a table is words of 32 bits, and text bytes are bytes
abbrev pub Words : List ℕ → Type 0
Words T = Below 4294967296 T

abbrev pub Octets : List ℕ → Type 0
Octets s = Below 256 s

-- WRITABLE is derivable. A table with a stated number of rows is writable exactly if its limits are kept and its rows mean, with the text bytes,
-- what the draft derives from some bytes, nested to at most the limit.
pub writable_derivable :
    (bytes most deep : ℕ) {T s : List ℕ} (rows : ℕ) → Words T → Octets s
    → (writable_within bytes most deep T rows s ≡ true)
    ↔ (Within bytes most T rows s × ((xs : List ℕ) × Octets xs × DerivesRows deep xs s (rows_of most T rows)))
writable_derivable bytes most deep {T} {s} rows w o = (
  λ e.
      let g = conclude.writable_derived bytes most deep T rows s w e in
      (conclude.within bytes most deep T rows s e, (written s (rows_of most T rows), conclude.written_below o g.meaning, g)),
  λ h. conclude.derived_writable bytes most deep T rows s h.0 h.1.2 h.1.1,
)

-- the same with document 01's numbers
pub writable_to_lem :
    (limit : ℕ) {T s : List ℕ} (rows : ℕ) → Words T → Octets s
    → (writable_to limit T rows s ≡ true) ↔ (Within 65536 4096 T rows s × ((xs : List ℕ) × Octets xs × DerivesRows limit xs s (rows_of 4096 T rows)))
unfolding writable_to
writable_to_lem limit rows w o = writable_derivable 65536 4096 limit rows w o

-- an answer accepts the bytes t with so many bytes used and so many rows, which mean the same as those of s
pub record ReadsBack (answer : Reading) (t : List ℕ) (used rows : ℕ) (s : List ℕ) (others : List Row) : Type 0 where
  pub back : List Row
  pub book : Book
  pub is : answer ≡ got back used book
  pub as_many : length back ≡ rows
  pub same : MeanSame s t others back

-- for a table that is writable to a limit, by document 01's other limits
module _ (limit : ℕ) (T : List ℕ) (rows : ℕ) (s : List ℕ) (e : writable_to limit T rows s ≡ true) where
  -- its rows, and their written form
  abbrev pub its_rows : List Row
  its_rows = rows_of 4096 T rows

  abbrev pub its_form : List ℕ
  its_form = written s its_rows

  -- DERIVED. The draft derives the written form with the table's meaning, nested to at most the limit.
  pub form_derived : Words T → DerivesRows limit its_form s its_rows
  unfolding writable_to
  form_derived w = conclude.writable_derived 65536 4096 limit T rows s w e

  -- READING BACK. Whatever bytes follow it, up to 65,536 in all, the written form is read, with a limit that is not lower, into any table with
  -- room for its rows, with as many rows, its length used, and the same meaning.
  pub reading_back :
      Words T → (later : ℕ) → limit ≤ later → allowed later ≡ true → (more : List ℕ) (words : ℕ) → length (its_form ++ more) ≤ 65536
      → rows ≤ room_of 4096 words
      → ReadsBack (reading later (its_form ++ more) words) (its_form ++ more) (length its_form) rows s its_rows
  reading_back w later f l more words h k =
      let g = form_derived w in
      let n : length g.cells ≡ rows = sym (counts g.meaning) ∙ conclude.rows_length 4096 T rows in
      let a =
      complete 65536 (its_form ++ more) (room_of 4096 words) later (conclude.begins_with more g.derived) h (omega (arith, n)) (omega arith) in
      record {
        back = a.rows;
        book = a.book;
        is = reading_within later (its_form ++ more) words l ∙ a.is;
        as_many = counts a.meaning ∙ n;
        same = (same_meaning g.meaning a.meaning).1 refl;
      }

  -- SHORTEST (demand 3). If at most 256 different texts stand as strings twice or more, no byte string that reading accepts, with refusals 8, 9
  -- and 10 put aside, with rows that mean the same, is shorter: the written form is no longer than the bytes that it uses.
  pub shortest :
      length (repeated (texts_of s its_rows)) ≤ 256 → (t : List ℕ) (room deep : ℕ) {others : List Row} {used : ℕ} {book : Book}
      → message t room deep ≡ got others used book → MeanSame s t its_rows others → (length its_form ≤ used) × (used ≤ length t)
  unfolding writable_to
  shortest few t room deep i z = conclude.no_shorter room deep (conclude.writable_means 65536 4096 limit T rows s e).1 few i z

-- REPEATED texts are those that occur at least twice, each listed once.
pub repeated_texts : (u : Text) (ts : List Text) → times u (repeated ts) ≡ bit (leb 2 (times u ts))
repeated_texts u ts = repeated_once u ts

-- POSITIONS. 256 texts at most have one, which is below 256.
pub positions : (ts : List Text) → (length (kept ts) ≤ 256) × ((t : Text) → among (kept ts) t ≡ true → position (kept ts) t < 256)
positions ts =
    let h : length (kept ts) ≤ 256 = omega (arith, length-take 256 (repeated ts)) in
    (h, λ t a. omega (arith, h, position_below (kept ts) t a))

-- FORMS. A string behind those before it: if it has a position, recorded the first time and recalled from then on; else regular.
turned : (a b c : Bool) → b || (a || c) ≡ (a || b) || c
turned true true c = refl
turned true false c = refl
turned false true c = refl
turned false false c = refl

or_false : (a : Bool) → a || false ≡ a
or_false true = refl
or_false false = refl

sent_behind :
    (P seen before : List Text) (t : Text) (after : List Text) (d : Sent)
    → get_or (sents P seen (before ++ (t ∷ after))) (length before) d
    ≡ cond (among P t) (cond (among before t || among seen t) (recalled (position P t) t) (recorded (position P t) t)) (regular t)
unfolding sents among
sent_behind P seen [] t after d = refl
sent_behind P seen (x ∷ before) t after d = sent_behind P (x ∷ seen) before t after d ∙ rw (turned (same t x) (among before t) (among seen t))

pub sent_in_lem :
    (before : List Text) (t : Text) (after : List Text) (d : Sent)
    → get_or (plan (before ++ (t ∷ after))) (length before) d
    ≡ cond (among (kept (before ++ (t ∷ after))) t)
    (cond (among before t) (recalled (position (kept (before ++ (t ∷ after))) t) t) (recorded (position (kept (before ++ (t ∷ after))) t) t)) (regular t)
unfolding among
sent_in_lem before t after d = sent_behind (kept (before ++ (t ∷ after))) [] before t after d ∙ rw (or_false (among before t))

-- ONE FORM. Two writable tables, each with its text bytes, have the same written form exactly if they mean the same: with any number of repeated
-- texts, a form of any length, and whatever limit each was judged by.
pub one_form :
    (limit limit' : ℕ) (T : List ℕ) (rows : ℕ) (s : List ℕ) (T' : List ℕ) (rows' : ℕ) (s' : List ℕ) → Words T → Words T' → writable_to limit T rows s ≡ true
    → writable_to limit' T' rows' s' ≡ true
    → MeanSame s s' (rows_of 4096 T rows) (rows_of 4096 T' rows') ↔ (written s (rows_of 4096 T rows) ≡ written s' (rows_of 4096 T' rows'))
one_form limit limit' T rows s T' rows' s' w w' e e' = conclude.same_form (form_derived limit T rows s e w) (form_derived limit' T' rows' s' e' w')

-- JUDGED. Where a table is looked at and not written, it is judged as it would be to be written to 32.
pub judged : (T : List ℕ) (rows : ℕ) (s : List ℕ) → writable T rows s ≡ writable_to 32 T rows s
unfolding writable writable_to
judged T rows s = refl

-- FROM THE READER. A table that the reader made holds the rows that it read; with its message as text bytes it is writable to any limit that is not
-- lower; and if at most 256 texts repeat, its written form is no longer than the bytes that the message used.
module _ (limit : ℕ) (s : List ℕ) (words : ℕ) {rows : List Row} {used : ℕ} {book : Book} (e : reading limit s words ≡ got rows used book) where
  pub read_rows : rows_of 4096 (table_of words (got rows used book)) (length rows) ≡ rows
  read_rows = return.read_rows 65536 4096 limit s words (got_within limit s words e)

  pub read_writable : Octets s → (later : ℕ) → limit ≤ later → writable_to later (table_of words (got rows used book)) (length rows) s ≡ true
  unfolding writable_to
  read_writable o later h =
      return.read_writable 65536 4096 later s words (got_deeper 65536 s (room_of 4096 words) h (got_within limit s words e)) o

  pub read_short :
      length (repeated (texts_of s (rows_of 4096 (table_of words (got rows used book)) (length rows)))) ≤ 256
      → (length (written s (rows_of 4096 (table_of words (got rows used book)) (length rows))) ≤ used) × (used ≤ length s) × (length s ≤ 65536)
  read_short few = return.read_short 65536 4096 limit s words (got_within limit s words e) few
