-- What the glyph writer's own answer and output say. `Did e limit T rows s out₀ out a` is the promise of `glyph_writer::write`, for an edition, a limit
-- of nesting, a table T with so many stated rows, text bytes s, an output that is out₀ before the call and out after it, and the answer a; and
-- `Answers` that of `glyph_reader::read`. Assumes nothing.
use mathlib.Core.Path.{◌≡◌, refl, sym, ap, ◌∙◌}
use mathlib.Core.Bool.{Bool, true, false}
use mathlib.Core.Logic.{◌↔◌}
use mathlib.Core.List.{List, ◌++◌}
use Prim.Native.Nat.{ℕ, ◌+◌, ◌-◌, ◌≤◌, ◌<◌}
use native.Mathlib.Omega.{arith}
use lib.Dec.{leb}
use lib.ListN.{length, replicate, length-append, length-replicate}
use borrow.Author.Tests.{leb-true, leb-false, le-leb, lt-leb}
use Rattle.std.proofs.Common.{Ok, Err}
use Rattle.text.proofs.Comparing.{clash}
use Rattle.draft.specs.declared.Refusal.{Refusal}
use Rattle.draft.specs.declared.Refusal.TheVariants.{TooLong, NotWritable, FormTooLong, OutputTooShort, NoLimit}
use Rattle.draft.specs.Refusals.{number_of}
use Rattle.draft.specs.Limits.{allowed}
use Rattle.draft.specs.Table.{room_of, row_at}
use Rattle.draft.proofs.Limiting.{limit_most}
use Rattle.glyph.specs.declared.Edition.{Edition}
use Rattle.glyph.specs.Answers.{accepted_as, reading, Answers}
use Rattle.glyph_form.specs.Writable.{writable}
use Rattle.glyph_form.specs.Form.{form_of}
use Rattle.glyph_form.specs.Answers.{given, answer_of, Did, Answer}
use Rattle.glyph_demands.specs.Answered.{has}
use Rattle.glyph_told.specs.Tables.{Words}
use Rattle.glyph_written.specs.RowKinds.{glyph_kinds}
use Rattle.glyph_written.proofs.RowKinds.{glyph_has}
use Rattle.glyph_writing_demands.specs.Accepting.{Says, AcceptedFor, RefusedFor, no_limit, long_text_lem, not_writable, long_form, short_output}
use Rattle.glyph_writing_demands.proofs.Tables.{read_writable, read_short}

-- an answer behind a test
given_written : (b : Bool) (m : Refusal) (o : Answer) {n : ℕ} → given b m o ≡ Ok n → (b ≡ true) × (o ≡ Ok n)
given_written true m o e = (refl, e)
given_written false m o e = let z : ◌≡◌ {A = ℕ} 0 1 = cc in absurd (omega arith)

-- what a refusal says that comes from the first of five tests that does not hold
first_of :
    (l a b c d : Bool) (n : ℕ) {m : Refusal} (P : Refusal → Type 0)
    → given l NoLimit (given a TooLong (given b NotWritable (given c FormTooLong (given d OutputTooShort (Ok n))))) ≡ Err m
    → (l ≡ false → P NoLimit) → (l ≡ true → a ≡ false → P TooLong) → (l ≡ true → a ≡ true → b ≡ false → P NotWritable)
    → (l ≡ true → a ≡ true → b ≡ true → c ≡ false → P FormTooLong) → (l ≡ true → a ≡ true → b ≡ true → c ≡ true → d ≡ false → P OutputTooShort) → P m
first_of false a b c d n {m} P e i f g h k = let z : m ≡ NoLimit = cc in rw z (i refl)
first_of true false b c d n {m} P e i f g h k = let z : m ≡ TooLong = cc in rw z (f refl refl)
first_of true true false c d n {m} P e i f g h k = let z : m ≡ NotWritable = cc in rw z (g refl refl refl)
first_of true true true false d n {m} P e i f g h k = let z : m ≡ FormTooLong = cc in rw z (h refl refl refl refl)
first_of true true true true false n {m} P e i f g h k = let z : m ≡ OutputTooShort = cc in rw z (k refl refl refl refl refl)
first_of true true true true true n P e i f g h k = let z : ◌≡◌ {A = ℕ} 0 1 = cc in absurd (omega arith)

module _ (e : Edition) (limit : ℕ) (T : List ℕ) (rows : ℕ) (s : List ℕ) (room : ℕ) where
  abbrev size : ℕ
  size = length (form_of e limit T s)

  -- ACCEPTANCE IS EXACT: the writer accepts, with length n, exactly for that.
  pub accepted_exactly : (n : ℕ) → (answer_of e limit T rows s room ≡ Ok n) ↔ AcceptedFor e limit T rows s room n
  unfolding answer_of
  accepted_exactly n = (there, back)
    where
      there : answer_of e limit T rows s room ≡ Ok n → AcceptedFor e limit T rows s room n
      there h =
          let l = given_written (allowed limit) NoLimit _ h in
          let a = given_written (leb (length s) 65536) TooLong _ l.1 in
          let b = given_written (writable e limit T rows s) NotWritable _ a.1 in
          let c = given_written (leb size 65536) FormTooLong _ b.1 in
          let d = given_written (leb size room) OutputTooShort _ c.1 in
          let i : n ≡ size = cc in
          record {
            stated = l.0;
            text = leb-true (length s) 65536 a.0;
            shape = b.0;
            long = i;
            most = omega (arith, i, leb-true size 65536 c.0);
            fits = omega (arith, i, leb-true size room d.0);
          }

      back : AcceptedFor e limit T rows s room n → answer_of e limit T rows s room ≡ Ok n
      back h =
          let c : size ≤ 65536 = omega (arith, h.long, h.most) in
          let d : size ≤ room = omega (arith, h.long, h.fits) in
          rw (h.stated, le-leb (length s) 65536 h.text, h.shape, le-leb size 65536 c, le-leb size room d, h.long)

  -- ORDER: the writer refuses with 23, 10, 11, 12 and 13 in this order, each exactly for its reason, and with no other number.
  pub refused_exactly : {n : ℕ} → Says n (answer_of e limit T rows s room) ↔ RefusedFor e limit T rows s room n
  unfolding answer_of
  refused_exactly {n} = (there, back)
    where
      there : Says n (answer_of e limit T rows s room) → RefusedFor e limit T rows s room n
      there h =
          rw (← h.number_is)
          (first_of (allowed limit) (leb (length s) 65536) (writable e limit T rows s) (leb size 65536) (leb size room) size (λ m. RefusedFor e limit T rows s room (number_of m)) h.is
          no_limit
          (λ l a. long_text_lem l (leb-false (length s) 65536 a))
          (λ l a b. not_writable l (leb-true (length s) 65536 a) b)
          (λ l a b c. long_form l (leb-true (length s) 65536 a) b (leb-false size 65536 c))
          (λ l a b c d. short_output l (leb-true (length s) 65536 a) b (leb-true size 65536 c) (leb-false size room d)))

      back : {n : ℕ} → RefusedFor e limit T rows s room n → Says n (answer_of e limit T rows s room)
      back (no_limit l) = record { refusal = NoLimit; is = rw l; number_is = refl }
      back (long_text_lem l a) = record { refusal = TooLong; is = rw (l, lt-leb (length s) 65536 a); number_is = refl }
      back (not_writable l a b) = record { refusal = NotWritable; is = rw (l, le-leb (length s) 65536 a, b); number_is = refl }
      back (long_form l a b c) = record { refusal = FormTooLong; is = rw (l, le-leb (length s) 65536 a, b, lt-leb size 65536 c); number_is = refl }
      back (short_output l a b c d) =
          record { refusal = OutputTooShort; is = rw (l, le-leb (length s) 65536 a, b, le-leb size 65536 c, lt-leb size room d); number_is = refl }

-- a call of the writer
module _ (e : Edition) (limit : ℕ) (T : List ℕ) (rows : ℕ) (s out₀ out : List ℕ) where
  -- REFUSED: all zeros.
  pub refused_zeros : {m : Refusal} → Did e limit T rows s out₀ out (Err m) → out ≡ replicate (length out₀) 0
  refused_zeros d = d.leaves

  -- 23 is said, with zeros, for a limit that is not 1 to 32.
  pub unlimited : allowed limit ≡ false → {a : Answer} → Did e limit T rows s out₀ out a → Says 23 a × (out ≡ replicate (length out₀) 0)
  unlimited h {a} d =
      let x : Says 23 a = rw d.says ((refused_exactly e limit T rows s (length out₀)).1 (no_limit h)) in
      (x, d.leaves ∙ rw x.is)

  -- LACKED. 11 is said, after 23 and 10, for a table with a stated row of a kind that the edition lacks.
  pub lacked :
      Words T → allowed limit ≡ true → length s ≤ 65536 → (r : ℕ) → r < rows → has (glyph_kinds e) (row_at (room_of 4096 (length T)) T r).kind ≡ false
      → {a : Answer} → Did e limit T rows s out₀ out a → Says 11 a
  lacked w ok short r k h d = rw d.says ((refused_exactly e limit T rows s (length out₀)).1 (not_writable ok short (go (writable e limit T rows s) refl)))
    where
      go : (b : Bool) → writable e limit T rows s ≡ b → writable e limit T rows s ≡ false
      go true i = absurd (clash (glyph_has limit T rows s w e i r k) h)
      go false i = i

  -- WRITTEN: the form, and zeros behind it, as many bytes as there were.
  pub written_whole :
      {n : ℕ} → Did e limit T rows s out₀ out (Ok n) → (out ≡ form_of e limit T s ++ replicate (length out₀ - n) 0) × (length out ≡ length out₀)
  written_whole {n} d =
      let h = (accepted_exactly e limit T rows s (length out₀) n).0 (sym d.says) in
      let l : length (form_of e limit T s) + length (replicate {A = ℕ} (length out₀ - n) 0) ≡ length out₀ =
      omega (arith, h.long, h.fits, length-replicate {A = ℕ} (length out₀ - n) 0) in
      (d.leaves, ap length d.leaves ∙ length-append (form_of e limit T s) (replicate (length out₀ - n) 0) ∙ l)

  -- SETTLED: two calls with the same material and equally long outputs answer alike and leave the same bytes, whatever lay there before.
  pub settled :
      (out₁ out' : List ℕ) {a a' : Answer} → length out₀ ≡ length out₁ → Did e limit T rows s out₀ out a → Did e limit T rows s out₁ out' a' → (a ≡ a') × (out ≡ out')
  settled out₁ out' {a} {a'} l d d' =
      let i : a ≡ a' = d.says ∙ ap (answer_of e limit T rows s) l ∙ sym d'.says in
      (i, d.leaves ∙ rw (i, l) (sym d'.leaves))

-- FROM THE READER: a table that `glyph_reader::read` made, with the rows that it reports and its message as text bytes, is refused neither with 11 nor
-- with 12 by a call in the same edition whose limit is not lower.
module _
    (e : Edition) (limit : ℕ) (s : List ℕ) (words : ℕ) {T : List ℕ} {n used : ℕ} (d : Answers (reading e limit s words) words T (accepted_as n used))
    (later : ℕ) (h : limit ≤ later)
  where
    neither : (room : ℕ) {m : ℕ} → RefusedFor e later T n s room m → (m ≡ 11 → ⊥) × (m ≡ 12 → ⊥)
    neither room (no_limit i) = (λ z. omega arith, λ z. omega arith)
    neither room (long_text_lem i a) = (λ z. omega arith, λ z. omega arith)
    neither room (not_writable i a b) = (λ z. clash (read_writable e limit s words d later h (limit_most later i)) b, λ z. omega arith)
    neither room (long_form i a b c) = (λ z. omega arith, λ z. let k = read_short e limit s words d later h (limit_most later i) in omega (arith, c, k.0, k.1, k.2))
    neither room (short_output i a b c g) = (λ z. omega arith, λ z. omega arith)

    pub from_the_reader : (out₀ out : List ℕ) {a : Answer} → Did e later T n s out₀ out a → (Says 11 a → ⊥) × (Says 12 a → ⊥)
    from_the_reader out₀ out {a} w = (λ x. (why x).0 refl, λ x. (why x).1 refl)
      where
        why : {k : ℕ} → Says k a → (k ≡ 11 → ⊥) × (k ≡ 12 → ⊥)
        why x = neither (length out₀) ((refused_exactly e later T n s (length out₀)).0 (rw w.says at x))

    -- WRITTEN OR 13, if that limit is one of 1 to 32; and an output as long as the bytes that the message used is long enough.
    pub written_or_short : allowed later ≡ true → (room : ℕ) → answer_of e later T n s room ≡ given (leb (length (form_of e later T s)) room) OutputTooShort (Ok (length (form_of e later T s)))
    unfolding answer_of
    written_or_short i room =
        let k = read_short e limit s words d later h (limit_most later i) in
        rw (i, le-leb (length s) 65536 k.2, read_writable e limit s words d later h (limit_most later i), le-leb (length (form_of e later T s)) 65536 (omega (arith, k.0, k.1, k.2)))

    pub used_enough : allowed later ≡ true → (out₀ out : List ℕ) {a : Answer} → used ≤ length out₀ → Did e later T n s out₀ out a → a ≡ Ok (length (form_of e later T s))
    used_enough i out₀ out l w =
        let k = read_short e limit s words d later h (limit_most later i) in
        w.says ∙ written_or_short i (length out₀) ∙ rw (le-leb (length (form_of e later T s)) (length out₀) (omega (arith, k.0)))
