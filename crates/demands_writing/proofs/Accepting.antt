-- Demands 1 and 2 for the writer: when it accepts and refuses, and what settles its answer and the output. `Did limit T rows s out₀ out a` is the
-- promise of `writer::write`, for a limit of nesting, a table T with so many stated rows, text bytes s, an output that is out₀ before the call and out after it, and the answer a.
-- Assumes nothing.
use mathlib.Core.Path.{◌≡◌, refl, sym, ap, ◌∙◌}
use mathlib.Core.Bool.{Bool, true, false}
use mathlib.Core.Logic.{◌↔◌}
use mathlib.Core.List.{List, [], ◌∷◌, ◌++◌}
use Prim.Native.Nat.{ℕ, ◌+◌, ◌-◌, ◌≤◌, ◌<◌}
use native.Mathlib.Omega.{arith}
use lib.Dec.{leb}
use lib.ListN.{length, take, replicate, length-append, length-replicate}
use borrow.Author.Tests.{leb-true, leb-false, le-leb, lt-leb}
use Rattle.draft.specs.declared.Refusal.{Refusal}
use Rattle.draft.specs.declared.Refusal.TheVariants.{TooLong, NotWritable, FormTooLong, OutputTooShort, NoLimit}
use Rattle.draft.specs.Limits.{allowed}
use Rattle.draft.specs.Writable.{writable_to}
use Rattle.draft.specs.declared.Row.{Row}
use Rattle.draft.specs.Refusals.{number_of, refusal_of}
use Rattle.draft.proofs.Naming.{number_some, number_own}
use Rattle.draft.specs.Codebook.{Book}
use Rattle.draft.specs.Read.{got}
use Rattle.draft.specs.Table.{room_of}
use Rattle.draft.specs.Strings.{repeated, texts_of}
use Rattle.draft.specs.Written.{written, rows_of}
use Rattle.read_answer.specs.declared.Answer.TheVariants.{Accepted}
use Rattle.read_answer.specs.Answers.{reading, table_of, Answers}
use Rattle.text.proofs.Comparing.{clash}
use Rattle.read_answer.proofs.Limited.{got_within}
use Rattle.written.specs.Derivable.{DerivesRows}
use Rattle.demands_reading.specs.Refusing.{one_of}
use Rattle.demands_reading.proofs.Settled.{accepted_read, accepted_rows_of}
use Rattle.demands_reading.proofs.Reading.{sound}
use Rattle.demands_writing.proofs.Writing.{Words, Octets, form_derived, read_writable, read_short}
use Rattle.write_answer.specs.Answers.{Answer}
use Rattle.std.specs.Prelude.{Ok, Err}
use Rattle.write_answer.specs.Answers.{given, answer_to, form_of, answer_of, Did, report_of}

-- an answer behind a test
given_written : (b : Bool) (m : Refusal) (o : Answer) {n : ℕ} → given b m o ≡ Ok n → (b ≡ true) × (o ≡ Ok n)
given_written true m o e = (refl, e)
given_written false m o e = let z : ◌≡◌ {A = ℕ} 0 1 = cc in absurd (omega arith)

-- what acceptance with length n asks: the limit is one of 1 to 32, the text bytes are at most 65,536, the table is writable to the limit, and the written form, which is n bytes long, is at
-- most 65,536 and fits the output
pub record AcceptedFor (limit : ℕ) (T : List ℕ) (rows : ℕ) (s : List ℕ) (room n : ℕ) : Type 0 where
  pub stated : allowed limit ≡ true
  pub text : length s ≤ 65536
  pub shape : writable_to limit T rows s ≡ true
  pub long : n ≡ length (written s (rows_of 4096 T rows))
  pub most : n ≤ 65536
  pub fits : n ≤ room

-- ACCEPTANCE IS EXACT: the writer accepts, with length n, exactly for that
pub accepted_exactly : (limit : ℕ) (T : List ℕ) (rows : ℕ) (s : List ℕ) (room n : ℕ) → (answer_of limit T rows s room ≡ Ok n) ↔ AcceptedFor limit T rows s room n
unfolding answer_of answer_to form_of
accepted_exactly limit T rows s room n = (there, back)
  where
    size : ℕ
    size = length (written s (rows_of 4096 T rows))

    there : answer_of limit T rows s room ≡ Ok n → AcceptedFor limit T rows s room n
    there e =
        let l = given_written (allowed limit) NoLimit _ e in
        let a = given_written (leb (length s) 65536) TooLong _ l.1 in
        let b = given_written (writable_to limit T rows s) NotWritable _ a.1 in
        let c = given_written (leb size 65536) FormTooLong _ b.1 in
        let d = given_written (leb size room) OutputTooShort _ c.1 in
        let i : n ≡ size = cc in
        record {
          stated = l.0;
          text = leb-true (length s) 65536 a.0;
          shape = b.0;
          long = i;
          most = omega (arith, i, leb-true size 65536 c.0);
          fits = omega (arith, i, leb-true size room d.0);
        }

    back : AcceptedFor limit T rows s room n → answer_of limit T rows s room ≡ Ok n
    back h =
        let c : size ≤ 65536 = omega (arith, h.long, h.most) in
        let d : size ≤ room = omega (arith, h.long, h.fits) in
        rw (h.stated, le-leb (length s) 65536 h.text, h.shape, le-leb size 65536 c, le-leb size room d, h.long)

-- why the writer refuses, in document 01's order: each test after those before it held
pub data RefusedFor (limit : ℕ) (T : List ℕ) (rows : ℕ) (s : List ℕ) (room : ℕ) : Refusal → Type 0 where
  no_limit : allowed limit ≡ false → RefusedFor limit T rows s room NoLimit
  long_text_lem : allowed limit ≡ true → 65536 < length s → RefusedFor limit T rows s room TooLong
  not_writable : allowed limit ≡ true → length s ≤ 65536 → writable_to limit T rows s ≡ false → RefusedFor limit T rows s room NotWritable
  long_form :
      allowed limit ≡ true → length s ≤ 65536 → writable_to limit T rows s ≡ true → 65536 < length (written s (rows_of 4096 T rows)) → RefusedFor limit T rows s room FormTooLong
  short_output :
      allowed limit ≡ true → length s ≤ 65536 → writable_to limit T rows s ≡ true → length (written s (rows_of 4096 T rows)) ≤ 65536
      → room < length (written s (rows_of 4096 T rows)) → RefusedFor limit T rows s room OutputTooShort

-- what a refusal says that comes from the first of five tests that does not hold
first_of :
    (l a b c d : Bool) (n : ℕ) {m : Refusal} (P : Refusal → Type 0)
    → given l NoLimit (given a TooLong (given b NotWritable (given c FormTooLong (given d OutputTooShort (Ok n))))) ≡ Err m
    → (l ≡ false → P NoLimit) → (l ≡ true → a ≡ false → P TooLong) → (l ≡ true → a ≡ true → b ≡ false → P NotWritable)
    → (l ≡ true → a ≡ true → b ≡ true → c ≡ false → P FormTooLong) → (l ≡ true → a ≡ true → b ≡ true → c ≡ true → d ≡ false → P OutputTooShort) → P m
first_of false a b c d n {m} P e i f g h k = let z : m ≡ NoLimit = cc in rw z (i refl)
first_of true false b c d n {m} P e i f g h k = let z : m ≡ TooLong = cc in rw z (f refl refl)
first_of true true false c d n {m} P e i f g h k = let z : m ≡ NotWritable = cc in rw z (g refl refl refl)
first_of true true true false d n {m} P e i f g h k = let z : m ≡ FormTooLong = cc in rw z (h refl refl refl refl)
first_of true true true true false n {m} P e i f g h k = let z : m ≡ OutputTooShort = cc in rw z (k refl refl refl refl refl)
first_of true true true true true n P e i f g h k = let z : ◌≡◌ {A = ℕ} 0 1 = cc in absurd (omega arith)

-- ORDER: the writer refuses with 23, 10, 11, 12 and 13 in this order, each exactly for its reason, and with no other number.
pub refused_exactly :
    (limit : ℕ) (T : List ℕ) (rows : ℕ) (s : List ℕ) (room : ℕ) {m : Refusal} → (answer_of limit T rows s room ≡ Err m) ↔ RefusedFor limit T rows s room m
unfolding answer_of answer_to form_of
refused_exactly limit T rows s room {m} = (there, back)
  where
    size : ℕ
    size = length (written s (rows_of 4096 T rows))

    there : answer_of limit T rows s room ≡ Err m → RefusedFor limit T rows s room m
    there e =
        first_of (allowed limit) (leb (length s) 65536) (writable_to limit T rows s) (leb size 65536) (leb size room) size (RefusedFor limit T rows s room) e
        (λ l. no_limit l)
        (λ l a. long_text_lem l (leb-false (length s) 65536 a))
        (λ l a b. not_writable l (leb-true (length s) 65536 a) b)
        (λ l a b c. long_form l (leb-true (length s) 65536 a) b (leb-false size 65536 c))
        (λ l a b c d. short_output l (leb-true (length s) 65536 a) b (leb-true size 65536 c) (leb-false size room d))

    back : {m : Refusal} → RefusedFor limit T rows s room m → answer_of limit T rows s room ≡ Err m
    back (no_limit l) = rw l
    back (long_text_lem l a) = rw (l, lt-leb (length s) 65536 a)
    back (not_writable l a b) = rw (l, le-leb (length s) 65536 a, b)
    back (long_form l a b c) = rw (l, le-leb (length s) 65536 a, b, lt-leb size 65536 c)
    back (short_output l a b c d) = rw (l, le-leb (length s) 65536 a, b, le-leb size 65536 c, lt-leb size room d)

-- BY NUMBER: the number that the writer reports, of the call's own answer
module _ (limit : ℕ) (T : List ℕ) (rows : ℕ) (s out₀ out : List ℕ) {a : Answer} (d : Did limit T rows s out₀ out a) where
  number_exactly : (m : Refusal) → ((report_of a).number ≡ number_of m) ↔ RefusedFor limit T rows s (length out₀) m
  number_exactly m = (there a refl, λ h. ap (λ (x : Answer). (report_of x).number) (d.says ∙ (refused_exactly limit T rows s (length out₀)).1 h))
    where
      there : (x : Answer) → a ≡ x → (report_of x).number ≡ number_of m → RefusedFor limit T rows s (length out₀) m
      there (Ok n) e f = absurd (number_some m (sym f))
      there (Err m') e f =
          let i : m' ≡ m = sym (number_own m') ∙ ap refusal_of f ∙ number_own m in
          rw i at ((refused_exactly limit T rows s (length out₀)).0 (sym d.says ∙ e))

  pub says_ten : ((report_of a).number ≡ 10) ↔ ((allowed limit ≡ true) × (65536 < length s))
  says_ten = (λ e. by ((number_exactly TooLong).0 e), λ h. (number_exactly TooLong).1 (long_text_lem h.0 h.1))
    where
      by : RefusedFor limit T rows s (length out₀) TooLong → (allowed limit ≡ true) × (65536 < length s)
      by (long_text_lem l k) = (l, k)

  pub says_eleven : ((report_of a).number ≡ 11) ↔ ((allowed limit ≡ true) × (length s ≤ 65536) × (writable_to limit T rows s ≡ false))
  says_eleven = (λ e. by ((number_exactly NotWritable).0 e), λ h. (number_exactly NotWritable).1 (not_writable h.0 h.1 h.2))
    where
      by : RefusedFor limit T rows s (length out₀) NotWritable → (allowed limit ≡ true) × (length s ≤ 65536) × (writable_to limit T rows s ≡ false)
      by (not_writable l k b) = (l, k, b)

  pub says_twelve :
      ((report_of a).number ≡ 12)
      ↔ ((allowed limit ≡ true) × (length s ≤ 65536) × (writable_to limit T rows s ≡ true) × (65536 < length (written s (rows_of 4096 T rows))))
  says_twelve = (λ e. by ((number_exactly FormTooLong).0 e), λ h. (number_exactly FormTooLong).1 (long_form h.0 h.1 h.2 h.3))
    where
      by :
          RefusedFor limit T rows s (length out₀) FormTooLong
          → (allowed limit ≡ true) × (length s ≤ 65536) × (writable_to limit T rows s ≡ true) × (65536 < length (written s (rows_of 4096 T rows)))
      by (long_form l k b c) = (l, k, b, c)

  pub says_thirteen :
      ((report_of a).number ≡ 13)
      ↔ ((allowed limit ≡ true) × (length s ≤ 65536) × (writable_to limit T rows s ≡ true) × (length (written s (rows_of 4096 T rows)) ≤ 65536)
      × (length out₀ < length (written s (rows_of 4096 T rows))))
  says_thirteen = (
    λ e. by ((number_exactly OutputTooShort).0 e),
    λ h. (number_exactly OutputTooShort).1 (short_output h.0 h.1 h.2 h.3 h.4),
  )
    where
      by :
          RefusedFor limit T rows s (length out₀) OutputTooShort
          → (allowed limit ≡ true) × (length s ≤ 65536) × (writable_to limit T rows s ≡ true) × (length (written s (rows_of 4096 T rows)) ≤ 65536)
          × (length out₀ < length (written s (rows_of 4096 T rows)))
      by (short_output l k b c g) = (l, k, b, c, g)

  -- 11 for a table that something keeps from being writable
  pub eleven : allowed limit ≡ true → length s ≤ 65536 → (writable_to limit T rows s ≡ true → ⊥) → (report_of a).number ≡ 11
  eleven l h f = says_eleven.1 (l, h, go (writable_to limit T rows s) refl)
    where
      go : (b : Bool) → writable_to limit T rows s ≡ b → writable_to limit T rows s ≡ false
      go false e = e
      go true e = absurd (f e)

-- SETTLED: two calls with the same material and equally long outputs answer alike and leave the same bytes, whatever lay there before
pub settled :
    (limit : ℕ) (T : List ℕ) (rows : ℕ) (s out₀ out₁ out out' : List ℕ) {a a' : Answer} → length out₀ ≡ length out₁ → Did limit T rows s out₀ out a → Did limit T rows s out₁ out' a'
    → (a ≡ a') × (out ≡ out')
settled limit T rows s out₀ out₁ out out' {a} {a'} l d d' =
    let e : a ≡ a' = d.says ∙ ap (answer_of limit T rows s) l ∙ sym d'.says in
    (e, d.leaves ∙ rw (e, l) (sym d'.leaves))

-- REFUSED: all zeros
pub refused_zeros : (limit : ℕ) (T : List ℕ) (rows : ℕ) (s out₀ out : List ℕ) {m : Refusal} → Did limit T rows s out₀ out (Err m) → out ≡ replicate (length out₀) 0
refused_zeros limit T rows s out₀ out d = d.leaves

-- WRITTEN: the message, and zeros behind it, as many bytes as there were
pub written_whole :
    (limit : ℕ) (T : List ℕ) (rows : ℕ) (s out₀ out : List ℕ) {n : ℕ} → Did limit T rows s out₀ out (Ok n)
    → (out ≡ written s (rows_of 4096 T rows) ++ replicate (length out₀ - n) 0) × (length out ≡ length out₀)
unfolding form_of
written_whole limit T rows s out₀ out {n} d =
    let h = (accepted_exactly limit T rows s (length out₀) n).0 (sym d.says) in
    let l : length (written s (rows_of 4096 T rows)) + length (replicate {A = ℕ} (length out₀ - n) 0) ≡ length out₀ =
    omega (arith, h.long, h.fits, length-replicate {A = ℕ} (length out₀ - n) 0) in
    (d.leaves, ap length d.leaves ∙ length-append (written s (rows_of 4096 T rows)) (replicate (length out₀ - n) 0) ∙ l)

-- WHOLE: an output keeps its length
pub whole : (limit : ℕ) (T : List ℕ) (rows : ℕ) (s out₀ out : List ℕ) {a : Answer} → Did limit T rows s out₀ out a → length out ≡ length out₀
whole limit T rows s out₀ out {a} d = go a d
  where
    go : (a : Answer) → Did limit T rows s out₀ out a → length out ≡ length out₀
    go (Ok n) d = (written_whole limit T rows s out₀ out d).1
    go (Err m) d = ap length d.leaves ∙ length-replicate (length out₀) 0

-- NUMBERS: the writer refuses with these and no other
pub refused_number : (limit : ℕ) (T : List ℕ) (rows : ℕ) (s out₀ out : List ℕ) {m : Refusal} → Did limit T rows s out₀ out (Err m) → one_of (10 ∷ 11 ∷ 12 ∷ 13 ∷ 23 ∷ []) (number_of m) ≡ true
refused_number limit T rows s out₀ out {m} d = go ((refused_exactly limit T rows s (length out₀)).0 (sym d.says))
  where
    go : {m : Refusal} → RefusedFor limit T rows s (length out₀) m → one_of (10 ∷ 11 ∷ 12 ∷ 13 ∷ 23 ∷ []) (number_of m) ≡ true
    go (no_limit l) = refl
    go (long_text_lem l a) = refl
    go (not_writable l a b) = refl
    go (long_form l a b c) = refl
    go (short_output l a b c e) = refl

-- MEANT: the rows of a table that was read, or that was written, mean what the draft derives
pub read_derives :
    (limit : ℕ) (s : List ℕ) (words : ℕ) {T : List ℕ} {n used : ℕ} → Answers (reading limit s words) words T (Accepted n used)
    → DerivesRows limit (take used s) s (rows_of 4096 T n)
read_derives limit s words d =
    let g = accepted_read limit s words d in
    let h = sound 65536 s (room_of 4096 words) limit (got_within limit s words g.is) in
    record { cells = h.cells; meaning = rw (accepted_rows_of limit s words d) h.meaning; derived = h.begins.derived }

pub written_derives :
    (limit : ℕ) (T : List ℕ) (rows : ℕ) (s out₀ out : List ℕ) {n : ℕ} → Did limit T rows s out₀ out (Ok n) → Words T
    → DerivesRows limit (written s (rows_of 4096 T rows)) s (rows_of 4096 T rows)
written_derives limit T rows s out₀ out {n} d w = form_derived limit T rows s ((accepted_exactly limit T rows s (length out₀) n).0 (sym d.says)).shape w

-- a refusal that is not 11, and not 12 either if at most 256 texts of so many rows repeat
abbrev Spares : List ℕ → List Row → Refusal → Type 0
Spares s rows m = (number_of m ≡ 11 → ⊥) × (length (repeated (texts_of s rows)) ≤ 256 → number_of m ≡ 12 → ⊥)

-- why a table is refused that holds the rows that were read, with their message as text bytes, by a call with a limit that is not lower
read_refused :
    (limit : ℕ) (s : List ℕ) (words later room : ℕ) {T : List ℕ} {n used : ℕ} {rows : List Row} {book : Book} {m : Refusal} → Octets s → limit ≤ later
    → (e : reading limit s words ≡ got rows used book) → T ≡ table_of words (got rows used book) → length rows ≡ n → RefusedFor later T n s room m
    → Spares s (rows_of 4096 T n) m
read_refused limit s words later room o h e t l (no_limit i) = (λ z. omega arith, λ few z. omega arith)
read_refused limit s words later room o h e t l (long_text_lem i a) = (λ z. omega arith, λ few z. omega arith)
read_refused limit s words later room o h e t l (not_writable i a b) = (
  λ z. clash (rw (t, sym l) (read_writable limit s words e o later h)) b,
  λ few z. omega arith,
)
read_refused limit s words later room o h e t l (long_form i a b c) = (
  λ z. omega arith,
  λ few z. let k = read_short limit s words e (rw (t, sym l) at few) in let g = rw (t, sym l) at c in omega (arith, g, k.0, k.1, k.2),
)
read_refused limit s words later room o h e t l (short_output i a b c d) = (λ z. omega arith, λ few z. omega arith)

-- FROM THE READER: a table that `reader::read` made, with the rows that it reports and its message as text bytes, is never refused with 11 by a call
-- whose limit is not lower; and if at most 256 texts repeat, not with 12 either
pub from_the_reader :
    (limit : ℕ) (s : List ℕ) (words later : ℕ) {T : List ℕ} {n used : ℕ} (out₀ out : List ℕ) {m : Refusal} → Octets s → limit ≤ later
    → Answers (reading limit s words) words T (Accepted n used) → Did later T n s out₀ out (Err m)
    → (number_of m ≡ 11 → ⊥) × (length (repeated (texts_of s (rows_of 4096 T n))) ≤ 256 → number_of m ≡ 12 → ⊥)
from_the_reader limit s words later {T} {n} out₀ out o h c d =
    let g = accepted_read limit s words c in
    read_refused limit s words later (length out₀) o h g.is (c.leaves ∙ ap (table_of words) g.is) g.count
    ((refused_exactly later T n s (length out₀)).0 (sym d.says))
