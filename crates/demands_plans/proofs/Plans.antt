-- Laws of document 02's plans (E13): which are taken, what `plan_writer::write` answers and leaves with one, and what `certificate::proves` proves by prices.
-- `Did limit T rows s plan out₀ out a` is the promise of `plan_writer::write`, for a limit of nesting, a table T with so many stated rows, text bytes s, a plan, an output that
-- is out₀ before the call and out after it, and the answer a; `certified T rows s plan prices` is what `certificate::proves` answers. Assumes nothing.
use mathlib.Core.Path.{◌≡◌, refl, sym, ap, ◌∙◌}
use mathlib.Core.Bool.{Bool, true, false}
use mathlib.Core.Logic.{◌↔◌}
use mathlib.Core.List.{List, [], ◌∷◌, ◌++◌, append-nil}
use Prim.Native.Nat.{ℕ, suc, ◌+◌, ◌*◌, ◌-◌, ◌≤◌, ◌<◌}
use native.Mathlib.Omega.{arith}
use lib.Dec.{leb, eqb}
use lib.ListN.{length, take, drop, get_or, replicate, take-append-drop}
use lib.Seq.{take_at}
use borrow.Author.Tests.{leb-true, leb-false, le-leb, lt-leb}
use Rattle.text.proofs.Comparing.{both}
use Rattle.draft.specs.declared.Refusal.{Refusal}
use Rattle.draft.specs.declared.Refusal.TheVariants.{TooLong, NotWritable, FormTooLong, OutputTooShort, NoLimit}
use Rattle.draft.specs.declared.Row.{Row}
use Rattle.draft.specs.Bytes.{Below}
use Rattle.draft.specs.Codebook.{Book}
use Rattle.draft.specs.Table.{room_of, place}
use Rattle.draft.specs.Refusals.{number_of}
use Rattle.draft.specs.Read.{got, message}
use Rattle.draft.specs.Grammar.{Sent, regular, recorded, recalled}
use Rattle.draft.specs.Meaning.{MeanSame}
use Rattle.draft.specs.Strings.{Text, repeated, texts_of, costs}
use Rattle.draft.specs.Limits.{allowed}
use Rattle.draft.specs.Writable.{writable_to, writable}
use Rattle.draft.specs.Written.{message_of, written, rows_of}
use Rattle.read_answer.specs.declared.Answer.{Answer as ReaderAnswer}
use Rattle.read_answer.specs.declared.Answer.TheVariants.{Accepted}
use Rattle.read_answer.specs.Answers.{reading, table_of, Answers}
use Rattle.read_answer.specs.Answers as reader
use Rattle.read_answer.proofs.Limited.{reading_within}
use Rattle.plans.specs.Plans.{sent_at, sents_from, planned, taken}
use Rattle.plan_writer.specs.Answers.{Answer}
use Rattle.std.specs.Prelude.{Ok, Err}
use Rattle.plan_writer.specs.declared.PlanRefusal.TheVariants.{Refused, NotTaken}
use Rattle.plan_writer.specs.Answers.{given, shorter, chosen, message_for, answer_by, answer_of, Did, report_of}
use Rattle.prices.specs.Prices.{total, bound}
use Rattle.certificate.specs.Certificate.{proving, certified_texts, certified}
use Rattle.exact.proofs.Realising.{counts}
use Rattle.written.specs.Derivable.{DerivesRows}
use Rattle.written.proofs.Concluding.{rows_length, begins_with, writable_means}
use Rattle.planning.proofs.Taking.{sents_texts, taken_fit, fit_taken}
use Rattle.planning.proofs.Concluding as plan
use Rattle.demands_reading.proofs.Reading.{complete, mean_same}
use Rattle.text.proofs.Comparing.{clash}
use Rattle.written.specs.Derivable.{HoldAlike}
use Rattle.demands_reading.proofs.Settled.{accepted_read}
use Rattle.demands_plans.specs.Plans.{Taken, Chosen, Ready, AcceptedFor, RefusedFor, no_limit, long_text_lem, not_writable, not_taken, long_message, short_output}
use Rattle.demands_writing.proofs.Rows.{writable_alike, by_words, by_columns}
use Rattle.demands_writing.proofs.Writing.{ReadsBack, form_derived, shortest, one_form, read_rows, read_writable, read_short}

-- SENT: two bytes for each string, in row order, its form and its position.
pub by_form :
    (p : List ℕ) (j : ℕ) (t : Text)
    → (get_or p (j * 2) 0 ≡ 0 → sent_at p j t ≡ regular t)
    × (get_or p (j * 2) 0 ≡ 1 → sent_at p j t ≡ recorded (get_or p (j * 2 + 1) 0) t)
    × (get_or p (j * 2) 0 ≡ 2 → sent_at p j t ≡ recalled (get_or p (j * 2 + 1) 0) t)
unfolding sent_at
by_form p j t = (λ e. rw e, λ e. rw e, λ e. rw e)

sent_last : (p : List ℕ) (j : ℕ) (ts : List Text) (t : Text) → sents_from p j (ts ++ (t ∷ [])) ≡ sents_from p j ts ++ (sent_at p (j + length ts) t ∷ [])
unfolding sents_from
sent_last p j [] t = let e : j + 0 ≡ j = omega arith in rw e
sent_last p j (u ∷ ts) t = let e : suc j + length ts ≡ j + suc (length ts) = omega arith in rw e at (ap (λ (fs : List Sent). sent_at p j u ∷ fs) (sent_last p (suc j) ts t))

pub in_row_order : (p : List ℕ) (ts : List Text) (t : Text) → sents_from p 0 (ts ++ (t ∷ [])) ≡ sents_from p 0 ts ++ (sent_at p (length ts) t ∷ [])
in_row_order p ts t = let e : 0 + length ts ≡ length ts = omega arith in rw e at (sent_last p 0 ts t)

pub plan_message : (s : List ℕ) (rows : List Row) (p : List ℕ) → planned s rows p ≡ message_of s rows (sents_from p 0 (texts_of s rows))
unfolding planned
plan_message s rows p = refl

-- CHOSEN: the definition's message is the one that document 02 says.
pub chosen_so : (s : List ℕ) (rows : List Row) (p : List ℕ) → Chosen s rows p (chosen s rows p)
unfolding chosen shorter
chosen_so s rows p = record {
  form = λ h. rw (le-leb (length (written s rows)) (length (planned s rows p)) h);
  plan = λ h. rw (lt-leb (length (written s rows)) (length (planned s rows p)) h);
}

pub chosen_once : (s : List ℕ) (rows : List Row) (p : List ℕ) {m m' : List ℕ} → Chosen s rows p m → Chosen s rows p m' → m ≡ m'
chosen_once s rows p {m} {m'} c c' = go (leb (length (written s rows)) (length (planned s rows p))) refl
  where
    go : (b : Bool) → leb (length (written s rows)) (length (planned s rows p)) ≡ b → m ≡ m'
    go true e = let h = leb-true (length (written s rows)) (length (planned s rows p)) e in c.form h ∙ sym (c'.form h)
    go false e = let h = leb-false (length (written s rows)) (length (planned s rows p)) e in c.plan h ∙ sym (c'.plan h)

pub chosen_is : (s : List ℕ) (rows : List Row) (p : List ℕ) {m : List ℕ} → Chosen s rows p m → chosen s rows p ≡ m
chosen_is s rows p c = chosen_once s rows p (chosen_so s rows p) c

-- it is one of the two
chosen_one : (s : List ℕ) (rows : List Row) (p : List ℕ) (P : List ℕ → Type 0) → P (written s rows) → P (planned s rows p) → P (chosen s rows p)
chosen_one s rows p P f g = go (leb (length (written s rows)) (length (planned s rows p))) refl
  where
    go : (b : Bool) → leb (length (written s rows)) (length (planned s rows p)) ≡ b → P (chosen s rows p)
    go true e = rw ((chosen_so s rows p).form (leb-true (length (written s rows)) (length (planned s rows p)) e)) f
    go false e = rw ((chosen_so s rows p).plan (leb-false (length (written s rows)) (length (planned s rows p)) e)) g

-- it is no longer than either
chosen_least : (s : List ℕ) (rows : List Row) (p : List ℕ) {m : List ℕ} → Chosen s rows p m → (length m ≤ length (written s rows)) × (length m ≤ length (planned s rows p))
chosen_least s rows p {m} c = go (leb (length (written s rows)) (length (planned s rows p))) refl
  where
    go : (b : Bool) → leb (length (written s rows)) (length (planned s rows p)) ≡ b → (length m ≤ length (written s rows)) × (length m ≤ length (planned s rows p))
    go true e =
        let h = leb-true (length (written s rows)) (length (planned s rows p)) e in
        let i = ap length (c.form h) in
        (omega (arith, i), omega (arith, i, h))
    go false e =
        let h = leb-false (length (written s rows)) (length (planned s rows p)) e in
        let i = ap length (c.plan h) in
        (omega (arith, i, h), omega (arith, i))

-- for a table that is writable to a limit, whose words are of 32 bits
module _ (limit : ℕ) (T : List ℕ) (rows : ℕ) (s : List ℕ) (e : writable_to limit T rows s ≡ true) (w : Below 4294967296 T) where
  -- its rows, and the texts that stand as strings in them
  abbrev pub its_rows : List Row
  its_rows = rows_of 4096 T rows

  abbrev pub its_texts : List Text
  its_texts = texts_of s its_rows

  -- DERIVED. The draft derives the message of a plan that is taken, and the message that is written, with the table's meaning.
  pub plan_derived : (p : List ℕ) → taken p its_texts ≡ true → DerivesRows limit (planned s its_rows p) s its_rows
  unfolding writable_to planned
  plan_derived p t = plan.sent_derived 65536 4096 limit T rows s w e (sents_from p 0 its_texts) (sents_texts p 0 its_texts) (taken_fit p its_texts t).legal

  pub message_derived : (p : List ℕ) → taken p its_texts ≡ true → DerivesRows limit (message_for T rows s p) s its_rows
  unfolding message_for
  message_derived p t = chosen_one s its_rows p (λ (m : List ℕ). DerivesRows limit m s its_rows) (form_derived limit T rows s e w) (plan_derived p t)

  -- TAKEN EXACTLY, in document 02's words.
  pub taken_exactly : (p : List ℕ) → (taken p its_texts ≡ true) ↔ Taken s its_rows p
  unfolding writable_to planned
  taken_exactly p = (there, back)
    where
      there : taken p its_texts ≡ true → Taken s its_rows p
      there t =
          let f = taken_fit p its_texts t in
          let r = plan.derived_reads (plan_derived p t) [] (length its_rows) limit (omega arith) (omega arith) in
          let q : planned s its_rows p ++ [] ≡ planned s its_rows p = append-nil (planned s its_rows p) in
          record {
            long = f.long;
            values = f.values;
            reads = record { room = length its_rows; deep = limit; others = r.0; used = length (planned s its_rows p); book = r.1; is = rw q at r.2; same = rw q at r.3 };
          }

      back : Taken s its_rows p → taken p its_texts ≡ true
      back h =
          fit_taken p its_texts
          (record {
            long = h.long;
            values = h.values;
            legal = plan.read_legal 65536 4096 limit T rows s w e (sents_from p 0 its_texts) (sents_texts p 0 its_texts) h.reads.room h.reads.deep h.reads.is h.reads.same;
          })

  -- and the strings of its message are sent as the plan says
  pub sent_so : (p : List ℕ) → Taken s its_rows p → (g : DerivesRows limit (planned s its_rows p) s its_rows) × (g.derived.sents ≡ sents_from p 0 its_texts)
  unfolding writable_to planned plan_derived
  sent_so p h =
      let t = (taken_exactly p).1 h in
      (plan_derived p t, plan.sent_so 65536 4096 limit T rows s w e (sents_from p 0 its_texts) (sents_texts p 0 its_texts) (taken_fit p its_texts t).legal)

-- the tests that an accepted call passed
record Passed (limit : ℕ) (T : List ℕ) (rows : ℕ) (s p : List ℕ) (room n : ℕ) : Type 0 where
  pub stated : allowed limit ≡ true
  pub text : length s ≤ 65536
  pub shape : writable_to limit T rows s ≡ true
  pub takes : taken p (texts_of s (rows_of 4096 T rows)) ≡ true
  pub long : n ≡ length (message_for T rows s p)
  pub most : n ≤ 65536
  pub fits : n ≤ room

-- an answer behind a test
given_written : (b : Bool) (m o : Answer) {n : ℕ} → (m ≡ Ok n → ⊥) → given b m o ≡ Ok n → (b ≡ true) × (o ≡ Ok n)
given_written true m o h e = (refl, e)
given_written false m o h e = absurd (h e)

never : {m : Refusal} {n : ℕ} → Err (Refused m) ≡ Ok n → ⊥
never e = let z : ◌≡◌ {A = ℕ} 0 1 = cc in omega arith

never_taken : {n : ℕ} → (Err NotTaken) ≡ Ok n → ⊥
never_taken e = let z : ◌≡◌ {A = ℕ} 0 1 = cc in omega arith

passed : (limit : ℕ) (T : List ℕ) (rows : ℕ) (s p : List ℕ) (room n : ℕ) → answer_of limit T rows s p room ≡ Ok n → Passed limit T rows s p room n
unfolding answer_of answer_by message_for
passed limit T rows s p room n e =
    let size = length (chosen s (rows_of 4096 T rows) p) in
    let l = given_written (allowed limit) (Err (Refused NoLimit)) _ never e in
    let a = given_written (leb (length s) 65536) (Err (Refused TooLong)) _ never l.1 in
    let b = given_written (writable_to limit T rows s) (Err (Refused NotWritable)) _ never a.1 in
    let t = given_written (taken p (texts_of s (rows_of 4096 T rows))) (Err NotTaken) _ never_taken b.1 in
    let c = given_written (leb size 65536) (Err (Refused FormTooLong)) _ never t.1 in
    let d = given_written (leb size room) (Err (Refused OutputTooShort)) _ never c.1 in
    let i : n ≡ size = cc in
    record {
      stated = l.0;
      text = leb-true (length s) 65536 a.0;
      shape = b.0;
      takes = t.0;
      long = i;
      most = omega (arith, i, leb-true size 65536 c.0);
      fits = omega (arith, i, leb-true size room d.0);
    }

-- ACCEPTANCE AND REFUSALS ARE EXACT, for a table whose words are of 32 bits.
module _ (limit : ℕ) (T : List ℕ) (rows : ℕ) (s p : List ℕ) (room : ℕ) (w : Below 4294967296 T) where
  abbrev size : ℕ
  size = length (chosen s (rows_of 4096 T rows) p)

  takes_so : Ready limit T rows s → Taken s (rows_of 4096 T rows) p → taken p (texts_of s (rows_of 4096 T rows)) ≡ true
  takes_so r t = (taken_exactly limit T rows s r.2 w p).1 t

  long_so : {m : List ℕ} → Chosen s (rows_of 4096 T rows) p m → size ≡ length m
  long_so c = ap length (chosen_is s (rows_of 4096 T rows) p c)

  accepted_so : {n : ℕ} → AcceptedFor limit T rows s p room n → answer_of limit T rows s p room ≡ Ok n
  unfolding answer_of answer_by
  accepted_so h =
      let l = long_so h.chosen in
      let c : size ≤ 65536 = omega (arith, l, h.long, h.most) in
      let d : size ≤ room = omega (arith, l, h.long, h.fits) in
      rw (h.ready.0, le-leb (length s) 65536 h.ready.1, h.ready.2, takes_so h.ready h.takes, le-leb size 65536 c, le-leb size room d, l, h.long)

  abbrev number : ℕ
  number = (report_of (answer_of limit T rows s p room)).number

  not_taken_so : Ready limit T rows s → (Taken s (rows_of 4096 T rows) p → ⊥) → taken p (texts_of s (rows_of 4096 T rows)) ≡ false
  not_taken_so r n = go (taken p (texts_of s (rows_of 4096 T rows))) refl
    where
      go : (b : Bool) → taken p (texts_of s (rows_of 4096 T rows)) ≡ b → b ≡ false
      go true e = absurd (n ((taken_exactly limit T rows s r.2 w p).0 e))
      go false e = refl

  with_number : (a : Answer) → answer_of limit T rows s p room ≡ a → number ≡ (report_of a).number
  with_number a e = ap (λ (x : Answer). (report_of x).number) e

  refused_so : {k : ℕ} → RefusedFor limit T rows s p room k → number ≡ k
  unfolding answer_of answer_by
  refused_so (no_limit l) = with_number (Err (Refused NoLimit)) (rw l)
  refused_so (long_text_lem l a) = with_number (Err (Refused TooLong)) (rw (l, lt-leb (length s) 65536 a))
  refused_so (not_writable l a b) = with_number (Err (Refused NotWritable)) (rw (l, le-leb (length s) 65536 a, b))
  refused_so (not_taken r n) = with_number (Err NotTaken) (rw (r.0, le-leb (length s) 65536 r.1, r.2, not_taken_so r n))
  refused_so (long_message r t c l) =
      let k : 65536 < size = omega (arith, long_so c, l) in
      with_number (Err (Refused FormTooLong)) (rw (r.0, le-leb (length s) 65536 r.1, r.2, takes_so r t, lt-leb size 65536 k))
  refused_so (short_output r t c l f) =
      let k : size ≤ 65536 = omega (arith, long_so c, l) in
      let j : room < size = omega (arith, long_so c, f) in
      with_number (Err (Refused OutputTooShort)) (rw (r.0, le-leb (length s) 65536 r.1, r.2, takes_so r t, le-leb size 65536 k, lt-leb size room j))

  positive : {k : ℕ} → RefusedFor limit T rows s p room k → 0 < k
  positive (no_limit l) = omega arith
  positive (long_text_lem l a) = omega arith
  positive (not_writable l a b) = omega arith
  positive (not_taken r n) = omega arith
  positive (long_message r t c l) = omega arith
  positive (short_output r t c l f) = omega arith

  -- what an answer says of the call
  data Says : Answer → Type 0 where
    accepts : {n : ℕ} → AcceptedFor limit T rows s p room n → Says (Ok n)
    refuses : {m : Refusal} → RefusedFor limit T rows s p room (number_of m) → Says (Err (Refused m))
    takes_not : RefusedFor limit T rows s p room 24 → Says (Err NotTaken)

  say : Says (answer_of limit T rows s p room)
  unfolding answer_of answer_by
  say = go (allowed limit) refl (leb (length s) 65536) refl (writable_to limit T rows s) refl (taken p (texts_of s (rows_of 4096 T rows))) refl (leb size 65536) refl (leb size room) refl
    where
      the_choice : Chosen s (rows_of 4096 T rows) p (chosen s (rows_of 4096 T rows) p)
      the_choice = chosen_so s (rows_of 4096 T rows) p

      take_it : writable_to limit T rows s ≡ true → taken p (texts_of s (rows_of 4096 T rows)) ≡ true → Taken s (rows_of 4096 T rows) p
      take_it j t = (taken_exactly limit T rows s j w p).0 t

      take_not : writable_to limit T rows s ≡ true → taken p (texts_of s (rows_of 4096 T rows)) ≡ false → Taken s (rows_of 4096 T rows) p → ⊥
      take_not j k t = clash ((taken_exactly limit T rows s j w p).1 t) k

      go :
          (x : Bool) → allowed limit ≡ x → (a : Bool) → leb (length s) 65536 ≡ a → (b : Bool) → writable_to limit T rows s ≡ b
          → (c : Bool) → taken p (texts_of s (rows_of 4096 T rows)) ≡ c → (d : Bool) → leb size 65536 ≡ d → (f : Bool) → leb size room ≡ f
          → Says
          (given x (Err (Refused NoLimit))
          (given a (Err (Refused TooLong))
          (given b (Err (Refused NotWritable)) (given c (Err NotTaken) (given d (Err (Refused FormTooLong)) (given f (Err (Refused OutputTooShort)) (Ok size)))))))
      go false z a i b j c k d l f m = refuses (no_limit z)
      go true z false i b j c k d l f m = refuses (long_text_lem z (leb-false (length s) 65536 i))
      go true z true i false j c k d l f m = refuses (not_writable z (leb-true (length s) 65536 i) j)
      go true z true i true j false k d l f m = takes_not (not_taken (z, leb-true (length s) 65536 i, j) (take_not j k))
      go true z true i true j true k false l f m =
          refuses (long_message (z, leb-true (length s) 65536 i, j) (take_it j k) the_choice (leb-false size 65536 l))
      go true z true i true j true k true l false m =
          refuses (short_output (z, leb-true (length s) 65536 i, j) (take_it j k) the_choice (leb-true size 65536 l) (leb-false size room m))
      go true z true i true j true k true l true m =
          accepts
          (record {
            ready = (z, leb-true (length s) 65536 i, j);
            takes = take_it j k;
            message = chosen s (rows_of 4096 T rows) p;
            chosen = the_choice;
            long = refl;
            most = leb-true size 65536 l;
            fits = leb-true size room m;
          })

-- of the function's own answer
module _ (limit : ℕ) (T : List ℕ) (rows : ℕ) (s p out₀ out : List ℕ) {a : Answer} (w : Below 4294967296 T) (d : Did limit T rows s p out₀ out a) where
  pub accepted_exactly : (n : ℕ) → (((report_of a).number ≡ 0) × ((report_of a).length ≡ n)) ↔ AcceptedFor limit T rows s p (length out₀) n
  accepted_exactly n = (
    λ h. there (say limit T rows s p (length out₀) w) d.says h.0 h.1,
    λ h. let e : a ≡ Ok n = d.says ∙ accepted_so limit T rows s p (length out₀) w h in rw e (refl, refl),
  )
    where
      there : {b : Answer} → Says limit T rows s p (length out₀) w b → a ≡ b → (report_of a).number ≡ 0 → (report_of a).length ≡ n → AcceptedFor limit T rows s p (length out₀) n
      there (accepts {n = k} h) e z l = let i : k ≡ n = sym (ap (λ (x : Answer). (report_of x).length) e) ∙ l in rw i at h
      there (refuses {m = m} h) e z l =
          let i : (report_of a).number ≡ number_of m = ap (λ (x : Answer). (report_of x).number) e in
          absurd (omega (arith, i, z, positive limit T rows s p (length out₀) w h))
      there (takes_not h) e z l = let i : (report_of a).number ≡ 24 = ap (λ (x : Answer). (report_of x).number) e in absurd (omega (arith, i, z))

  pub refused_exactly : (k : ℕ) → (((report_of a).number ≡ k) × (0 < k)) ↔ RefusedFor limit T rows s p (length out₀) k
  refused_exactly k = (
    λ h. there (say limit T rows s p (length out₀) w) d.says h.0 h.1,
    λ h. (ap (λ (x : Answer). (report_of x).number) d.says ∙ refused_so limit T rows s p (length out₀) w h, positive limit T rows s p (length out₀) w h),
  )
    where
      there : {b : Answer} → Says limit T rows s p (length out₀) w b → a ≡ b → (report_of a).number ≡ k → 0 < k → RefusedFor limit T rows s p (length out₀) k
      there (accepts h) e z l = let i : (report_of a).number ≡ 0 = ap (λ (x : Answer). (report_of x).number) e in absurd (omega (arith, i, z, l))
      there (refuses {m = m} h) e z l = let i : number_of m ≡ k = sym (ap (λ (x : Answer). (report_of x).number) e) ∙ z in rw i at h
      there (takes_not h) e z l = let i : 24 ≡ k = sym (ap (λ (x : Answer). (report_of x).number) e) ∙ z in rw i at h

  -- 24 EXACTLY: for a plan that isn't taken, with a table that would be written but for it.
  pub twenty_four : ((report_of a).number ≡ 24) ↔ (Ready limit T rows s × (Taken s (rows_of 4096 T rows) p → ⊥))
  twenty_four = (λ e. only ((refused_exactly 24).0 (e, omega arith)) refl, λ h. ((refused_exactly 24).1 (not_taken h.0 h.1)).0)
    where
      only : {k : ℕ} → RefusedFor limit T rows s p (length out₀) k → k ≡ 24 → Ready limit T rows s × (Taken s (rows_of 4096 T rows) p → ⊥)
      only (not_taken r n) e = (r, n)
      only (no_limit l) e = absurd (omega arith)
      only (long_text_lem l a) e = absurd (omega arith)
      only (not_writable l a b) e = absurd (omega arith)
      only (long_message r t c l) e = absurd (omega arith)
      only (short_output r t c l f) e = absurd (omega arith)

  -- TAKEN EXACTLY, of the answer: with a table that would be written but for the plan, the answer is not 24 exactly if the plan is taken.
  pub taken_unless : Ready limit T rows s → ((report_of a).number ≡ 24 → ⊥) ↔ Taken s (rows_of 4096 T rows) p
  taken_unless r = (λ n. go n (taken p (texts_of s (rows_of 4096 T rows))) refl, λ t e. (twenty_four.0 e).1 t)
    where
      go : ((report_of a).number ≡ 24 → ⊥) → (b : Bool) → taken p (texts_of s (rows_of 4096 T rows)) ≡ b → Taken s (rows_of 4096 T rows) p
      go n true e = (taken_exactly limit T rows s r.2 w p).0 e
      go n false e = absurd (n (twenty_four.1 (r, λ t. clash ((taken_exactly limit T rows s r.2 w p).1 t) e)))

-- SETTLED: two calls with the same material and equally long outputs answer alike and leave the same bytes, whatever lay there before
pub settled :
    (limit : ℕ) (T T' : List ℕ) (rows : ℕ) (s p out₀ out₁ out out' : List ℕ) {a a' : Answer} → length out₀ ≡ length out₁ → T ≡ T'
    → Did limit T rows s p out₀ out a → Did limit T' rows s p out₁ out' a' → (a ≡ a') × (out ≡ out')
settled limit T T' rows s p out₀ out₁ out out' {a} {a'} l t d d' =
    let e : a ≡ a' = d.says ∙ rw (l, t) (sym d'.says) in
    (e, d.leaves ∙ rw (e, l, t) (sym d'.leaves))

-- REFUSED: length and place 0, and all zeros
pub refused_zeros :
    (limit : ℕ) (T : List ℕ) (rows : ℕ) (s p out₀ out : List ℕ) (a : Answer) → Did limit T rows s p out₀ out a → ((report_of a).number ≡ 0 → ⊥)
    → ((report_of a).length ≡ 0) × ((report_of a).place ≡ 0) × (out ≡ replicate (length out₀) 0)
refused_zeros limit T rows s p out₀ out (Ok n) d h = absurd (h refl)
refused_zeros limit T rows s p out₀ out (Err (Refused m)) d h = (refl, refl, d.leaves)
refused_zeros limit T rows s p out₀ out (Err NotTaken) d h = (refl, refl, d.leaves)

-- what is derived with the meaning of so many rows is read back with a limit that is not lower, whatever follows
derived_back :
    {limit : ℕ} {zs s : List ℕ} {xs : List Row} {rows : ℕ} → DerivesRows limit zs s xs → length xs ≡ rows → (later : ℕ) → limit ≤ later → allowed later ≡ true
    → (more : List ℕ) (words : ℕ) → length (zs ++ more) ≤ 65536
    → rows ≤ room_of 4096 words → ReadsBack (reading later (zs ++ more) words) (zs ++ more) (length zs) rows s xs
derived_back {zs = zs} g l later f j more words h k =
    let i = counts g.meaning in
    let a = complete 65536 (zs ++ more) (room_of 4096 words) later (begins_with more g.derived) h (omega (arith, i)) (omega arith) in
    record { back = a.rows; book = a.book; is = reading_within later (zs ++ more) words j ∙ a.is; as_many = counts a.meaning ∙ sym i ∙ l; same = (mean_same g.meaning a.meaning).1 refl }

-- a call that answered `Ok n`
module _ (limit : ℕ) (T : List ℕ) (rows : ℕ) (s p out₀ out : List ℕ) {n : ℕ} (d : Did limit T rows s p out₀ out (Ok n)) where
  was_accepted : Passed limit T rows s p (length out₀) n
  was_accepted = passed limit T rows s p (length out₀) n (sym d.says)

  was_writable : writable_to limit T rows s ≡ true
  was_writable = was_accepted.shape

  first_bytes : take n out ≡ message_for T rows s p
  first_bytes = ap (take n) d.leaves ∙ take_at (message_for T rows s p) (replicate (length out₀ - n) 0) n (sym was_accepted.long)

  bytes_chosen : Chosen s (rows_of 4096 T rows) p (take n out)
  unfolding message_for
  bytes_chosen = rw first_bytes (chosen_so s (rows_of 4096 T rows) p)

  -- WHICH. The first n bytes of the output are the message chosen, and behind them are zeros.
  pub which : {m : List ℕ} → Chosen s (rows_of 4096 T rows) p m → (n ≡ length m) × (out ≡ m ++ replicate (length out₀ - n) 0)
  unfolding message_for
  which c = let e = chosen_is s (rows_of 4096 T rows) p c in (was_accepted.long ∙ ap length e, d.leaves ∙ ap (λ (x : List ℕ). x ++ replicate (length out₀ - n) 0) e)

  -- NEVER LONGER than either: the plan's message, or document 01's form.
  pub never_longer : (n ≤ length (written s (rows_of 4096 T rows))) × (n ≤ length (planned s (rows_of 4096 T rows) p))
  never_longer =
      let h = chosen_least s (rows_of 4096 T rows) p bytes_chosen in
      let e : n ≡ length (take n out) = was_accepted.long ∙ sym (ap length first_bytes) in
      (omega (arith, e, h.0), omega (arith, e, h.1))

  -- DEMAND 3 STANDS up to 256 texts: a byte string that the draft reads with that table's meaning has n bytes at least.
  pub no_shorter :
      length (repeated (texts_of s (rows_of 4096 T rows))) ≤ 256 → (t : List ℕ) (room deep : ℕ) {others : List Row} {used : ℕ} {book : Book}
      → message t room deep ≡ got others used book → MeanSame s t (rows_of 4096 T rows) others → (n ≤ used) × (used ≤ length t)
  no_shorter few t room deep e z = let h = shortest limit T rows s was_writable few t room deep e z in (omega (arith, never_longer.0, h.0), h.1)

  -- THE FORM up to 256 texts: what is written is document 01's form, whatever plan is taken.
  pub form_written :
      Below 4294967296 T → length (repeated (texts_of s (rows_of 4096 T rows))) ≤ 256
      → (take n out ≡ written s (rows_of 4096 T rows)) × (n ≡ length (written s (rows_of 4096 T rows)))
  form_written w few =
      let other = planned s (rows_of 4096 T rows) p in
      let r = plan.derived_reads (plan_derived limit T rows s was_writable w p was_accepted.takes) [] (length (rows_of 4096 T rows)) limit (omega arith) (omega arith) in
      let q : other ++ [] ≡ other = append-nil other in
      let e : take n out ≡ written s (rows_of 4096 T rows) =
      bytes_chosen.form (shortest limit T rows s was_writable few other (length (rows_of 4096 T rows)) limit (rw q at r.2) (rw q at r.3)).0 in
      (e, was_accepted.long ∙ ap length (sym first_bytes ∙ e))

  -- READ BACK. Any message of at most 65,536 bytes that begins with those n bytes, whatever follows, is read by `reader::read` with any limit
  -- that is not lower, up to 32, into any table with room for the rows, with as many rows and n bytes used; and the rows that it leaves mean the same as the table that was written.
  pub read_back :
      Below 4294967296 T → (later : ℕ) → limit ≤ later → allowed later ≡ true → (t : List ℕ) (words : ℕ) {T' : List ℕ} {a : ReaderAnswer} → take n t ≡ take n out → length t ≤ 65536 → rows ≤ room_of 4096 words
      → Answers (reading later t words) words T' a
      → (a ≡ Accepted rows n) × MeanSame s t (rows_of 4096 T rows) (rows_of 4096 T' rows)
  read_back w later f i t words {T'} {a} b l k c =
      let e : t ≡ message_for T rows s p ++ drop n t = sym (take-append-drop n t) ∙ ap (λ (x : List ℕ). x ++ drop n t) (b ∙ first_bytes) in
      let g : ReadsBack (reading later t words) t n rows s (rows_of 4096 T rows) =
      rw (was_accepted.long, e)
      (derived_back (message_derived limit T rows s was_writable w p was_accepted.takes) (rows_length 4096 T rows) later f i (drop n t) words (rw e at l) k) in
      let m : T' ≡ table_of words (got g.back n g.book) = c.leaves ∙ ap (table_of words) g.is in
      let r : rows_of 4096 T' rows ≡ g.back =
      ap (λ (x : List ℕ). rows_of 4096 x rows) m ∙ ap (rows_of 4096 (table_of words (got g.back n g.book))) (sym g.as_many) ∙ read_rows later t words g.is in
      (c.says ∙ ap reader.answer_of g.is ∙ ap (λ (k : ℕ). Accepted k n) g.as_many, rw r g.same)

-- ONE MESSAGE. Meaning and plan settle the bytes, and equal bytes come only from equal meaning: two accepted calls with one plan wrote the same bytes
-- exactly if the tables, each with its text bytes, mean the same.
pub same_bytes :
    (limit limit' : ℕ) (T T' : List ℕ) (rows rows' : ℕ) (s s' p out₀ out₁ out out' : List ℕ) {n n' : ℕ} → Below 4294967296 T → Below 4294967296 T' → Did limit T rows s p out₀ out (Ok n)
    → Did limit' T' rows' s' p out₁ out' (Ok n') → MeanSame s s' (rows_of 4096 T rows) (rows_of 4096 T' rows') ↔ (take n out ≡ take n' out')
unfolding message_for chosen
same_bytes limit limit' T T' rows rows' s s' p out₀ out₁ out out' w w' d d' =
    let a = was_accepted limit T rows s p out₀ out d in
    let a' = was_accepted limit' T' rows' s' p out₁ out' d' in
    let g = message_derived limit T rows s a.shape w p a.takes in
    let g' = message_derived limit' T' rows' s' a'.shape w' p a'.takes in
    rw (first_bytes limit T rows s p out₀ out d, first_bytes limit' T' rows' s' p out₁ out' d') (
      λ z.
          let f : written s (rows_of 4096 T rows) ≡ written s' (rows_of 4096 T' rows') = (one_form limit limit' T rows s T' rows' s' w w' a.shape a'.shape).0 z in
          let h : planned s (rows_of 4096 T rows) p ≡ planned s' (rows_of 4096 T' rows') p = plan.planned_same p g.meaning g'.meaning z in
          rw (f, h),
      λ z. plan.derived_once g (rw (← z) at g'),
    )

-- CERTIFIED. If `certificate::proves` says yes of a table, a plan and prices, then the plan is taken, and no byte string that the draft reads with
-- that table's meaning, with refusals 8, 9 and 10 put aside, has fewer bytes than the plan's message: demand 3's own sentence, for any number of
-- repeated texts, whatever forms and positions its sender chose and whatever follows.
module _ (T : List ℕ) (rows : ℕ) (s p prices : List ℕ) (yes : certified T rows s p prices ≡ true) where
  pub certified_writable : writable T rows s ≡ true
  unfolding certified
  certified_writable = (both (writable T rows s) _ yes).0

  texts_certified : certified_texts p prices (texts_of s (rows_of 4096 T rows)) ≡ true
  unfolding certified
  texts_certified = (both (writable T rows s) _ yes).1

  pub certified_taken : taken p (texts_of s (rows_of 4096 T rows)) ≡ true
  unfolding certified_texts
  certified_taken = (both (taken p (texts_of s (rows_of 4096 T rows))) _ texts_certified).0

  -- the plan is taken, in document 02's words
  pub certified_plan : Below 4294967296 T → Taken s (rows_of 4096 T rows) p
  unfolding writable writable_to
  certified_plan w = (taken_exactly 32 T rows s certified_writable w p).0 certified_taken

  proven : costs (sents_from p 0 (texts_of s (rows_of 4096 T rows))) + 256 * total prices ≤ bound prices (texts_of s (rows_of 4096 T rows))
  unfolding certified_texts proving
  proven =
      let ts = texts_of s (rows_of 4096 T rows) in
      let a = both (taken p ts) _ texts_certified in
      let b = both (eqb (length prices) (length ts)) _ a.1 in
      let c = both (leb (costs (sents_from p 0 ts)) 65536) _ b.1 in
      leb-true (costs (sents_from p 0 ts) + 256 * total prices) (bound prices ts) c.1

  pub certified_shortest :
      (t : List ℕ) → Below 256 t → (room deep : ℕ) {others : List Row} {used : ℕ} {book : Book} → message t room deep ≡ got others used book
      → MeanSame s t (rows_of 4096 T rows) others → (length (planned s (rows_of 4096 T rows) p) ≤ used) × (used ≤ length t)
  unfolding writable planned
  certified_shortest t o room deep e z =
      let ts = texts_of s (rows_of 4096 T rows) in
      plan.no_shorter (sents_from p 0 ts) prices room deep (writable_means 65536 4096 32 T rows s certified_writable).1 (sents_texts p 0 ts) proven o e z

  -- and so has what `plan_writer::write` writes with that plan
  pub written_shortest :
      (limit : ℕ) (out₀ out : List ℕ) {n : ℕ} → Did limit T rows s p out₀ out (Ok n) → (t : List ℕ) → Below 256 t → (room deep : ℕ) {others : List Row} {used : ℕ} {book : Book}
      → message t room deep ≡ got others used book → MeanSame s t (rows_of 4096 T rows) others → (n ≤ used) × (used ≤ length t)
  written_shortest limit out₀ out d t o room deep e z =
      let h = certified_shortest t o room deep e z in
      (omega (arith, (never_longer limit T rows s p out₀ out d).1, h.0), h.1)

-- the table of rows that were read, with as many stated and their message as text bytes
read_still :
    (limit : ℕ) (s : List ℕ) (words later : ℕ) {T : List ℕ} {n used : ℕ} {xs : List Row} {book : Book} → Below 256 s → limit ≤ later
    → (e : reading limit s words ≡ got xs used book) → T ≡ table_of words (got xs used book) → length xs ≡ n
    → (writable_to later T n s ≡ true) × (length (repeated (texts_of s (rows_of 4096 T n))) ≤ 256 → length (written s (rows_of 4096 T n)) ≤ 65536)
read_still limit s words later {T} {n} {used} {xs} {book} o h e t l = rw (t, sym l) (read_writable limit s words e o later h, short)
  where
    short :
        length (repeated (texts_of s (rows_of 4096 (table_of words (got xs used book)) (length xs)))) ≤ 256
        → length (written s (rows_of 4096 (table_of words (got xs used book)) (length xs))) ≤ 65536
    short few = let k = read_short limit s words e few in omega (arith, k.0, k.1, k.2)

-- FROM THE READER: a table that `reader::read` made, with the rows that it reports and its message as text bytes, is never refused with 11 by a call
-- whose limit is not lower; and if at most 256 texts repeat, not with 12 either.
module _
    (limit : ℕ) (s : List ℕ) (words later : ℕ) {T : List ℕ} {n used : ℕ} (o : Below 256 s) (h : limit ≤ later)
    (c : Answers (reading limit s words) words T (Accepted n used))
  where
    still : (writable_to later T n s ≡ true) × (length (repeated (texts_of s (rows_of 4096 T n))) ≤ 256 → length (written s (rows_of 4096 T n)) ≤ 65536)
    still = let g = accepted_read limit s words c in read_still limit s words later o h g.is (c.leaves ∙ ap (table_of words) g.is) g.count

    spared : (p : List ℕ) {room k : ℕ} → RefusedFor later T n s p room k → (k ≡ 11 → ⊥) × (length (repeated (texts_of s (rows_of 4096 T n))) ≤ 256 → k ≡ 12 → ⊥)
    spared p (no_limit i) = (λ q. omega arith, λ few q. omega arith)
    spared p (long_text_lem i b) = (λ q. omega arith, λ few q. omega arith)
    spared p (not_writable i b f) = absurd (clash still.0 f)
    spared p (not_taken r f) = (λ q. omega arith, λ few q. omega arith)
    spared p (long_message r f m l) = (λ q. omega arith, λ few q. omega (arith, still.1 few, (chosen_least s (rows_of 4096 T n) p m).0, l))
    spared p (short_output r f m l k) = (λ q. omega arith, λ few q. omega arith)

    pub from_the_reader :
        (p out₀ out : List ℕ) {a : Answer} → Below 4294967296 T → Did later T n s p out₀ out a
        → ((report_of a).number ≡ 11 → ⊥) × (length (repeated (texts_of s (rows_of 4096 T n))) ≤ 256 → (report_of a).number ≡ 12 → ⊥)
    from_the_reader p out₀ out w d = (
      λ e. (spared p ((refused_exactly later T n s p out₀ out w d 11).0 (e, omega arith))).0 refl,
      λ few e. (spared p ((refused_exactly later T n s p out₀ out w d 12).0 (e, omega arith))).1 few refl,
    )

-- THE STATED ROWS ALONE, as without a plan (demands_writing's Writer): two calls with tables of whatever lengths that both hold the stated rows, or
-- neither does, answer alike and leave the same bytes if their stated rows have the same words, at their places or column by column.
module _
    (limit : ℕ) (T T' : List ℕ) (rows : ℕ) (s p out₀ out₁ out out' : List ℕ) {a a' : Answer} (w : Below 4294967296 T) (w' : Below 4294967296 T') (o : Below 256 s)
    (hold : HoldAlike rows T T') (l : length out₀ ≡ length out₁) (d : Did limit T rows s p out₀ out a) (d' : Did limit T' rows s p out₁ out' a')
  where
    pub stated_rows : rows_of 4096 T rows ≡ rows_of 4096 T' rows → (a ≡ a') × (out ≡ out')
    unfolding answer_of message_for
    stated_rows same =
        let e : a ≡ a' = d.says ∙ rw (l, writable_alike limit T T' rows s w w' o hold same, same) (sym d'.says) in
        (e, d.leaves ∙ rw (e, l, same) (sym d'.leaves))

    pub stated_words :
        ((r j : ℕ) → r < rows → j < 4 → get_or T (place (room_of 4096 (length T)) r j) 0 ≡ get_or T' (place (room_of 4096 (length T')) r j) 0)
        → (a ≡ a') × (out ≡ out')
    stated_words h = stated_rows (by_words T T' rows h)

    pub stated_columns :
        ((j : ℕ) → j < 4 → take rows (drop (room_of 4096 (length T) * j) T) ≡ take rows (drop (room_of 4096 (length T') * j) T'))
        → (a ≡ a') × (out ≡ out')
    stated_columns h = stated_rows (by_columns T T' rows h)
