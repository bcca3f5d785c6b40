-- Laws of job files (request E2): what `job::read_card` answers and leaves, by the file's records. `Reads s words (body_of s n) T a` is its promise, for
-- a file s, the card's number n, a table of so many words that is T after the call, and the answer a. Assumes nothing.
use mathlib.Core.Path.{◌≡◌, refl, sym, ap, ◌∙◌}
use mathlib.Core.Bool.{Bool, true, false, ◌||◌, cond}
use mathlib.Core.Logic.{◌↔◌}
use mathlib.Core.List.{List, ◌++◌}
use Prim.Native.Nat.{ℕ, ◌+◌, ◌≤◌, ◌<◌}
use native.Mathlib.Omega.{arith}
use lib.Dec.{eqb}
use lib.ListN.{length, drop, replicate}
use Rattle.std.specs.Prelude.{Err, Ok}
use Rattle.draft.specs.declared.Refusal.{Refusal}
use Rattle.draft.specs.declared.Refusal.TheVariants as refusal
use Rattle.draft.specs.Refusals.{number_of}
use Rattle.draft.specs.Bytes.{part}
use Rattle.draft.specs.Read.{Reading, got, refused}
use Rattle.read_answer.specs.declared.Answer.{Answer as ReaderAnswer}
use Rattle.read_answer.specs.declared.Answer.TheVariants as reader
use Rattle.read_answer.specs.Answers.{reading, answer_of, table_of, Answers}
use Rattle.read_answer.specs.Answers as reads
use Rattle.records.specs.declared.JobRefusal.{JobRefusal}
use Rattle.records.specs.declared.JobRefusal.TheVariants.{FileEnded, WrongEnd, NoCard}
use Rattle.records.specs.Job.{refusal_number, record_length, body_of, Found, body_at, missing_at}
use Rattle.records.specs.Records.{Due, CardAt, EndAt, Counts}
use Rattle.records.proofs.Standing.{lies, part_stands}
use Rattle.records.proofs.Records.{card_exactly, cut_exactly, wrong_exactly, none_exactly, card_before, card_below, found_on, ended_on}
use Rattle.job.specs.Cards.{Answer, accepted_at, located, answer_for, table_for, Reads, Report, report_of}
use Rattle.job.specs.declared.JobFault.TheVariants.{Refused, Missing}
use Rattle.demands_jobs.specs.Jobs.{own, Reported}

-- the numbers that a card's own refusal does not have: 0, and the job's
abbrev not_own : ℕ → Bool
not_own k = eqb k 0 || (eqb k 15 || (eqb k 16 || eqb k 26))

own_number : (m : Refusal) → not_own (number_of m) ≡ false
own_number refusal.Ended = refl
own_number refusal.WrongPrefix = refl
own_number refusal.UnexpectedByte = refl
own_number refusal.BadText = refl
own_number refusal.UnsetPosition = refl
own_number refusal.StandardName = refl
own_number refusal.TooDeep = refl
own_number refusal.NoRow = refl
own_number refusal.TooLong = refl
own_number refusal.NotWritable = refl
own_number refusal.FormTooLong = refl
own_number refusal.OutputTooShort = refl
own_number refusal.BadFault = refl
own_number refusal.BadValue = refl
own_number refusal.RepeatedKey = refl
own_number refusal.NoLimit = refl

not_own_lem : (m : Refusal) (k : ℕ) → not_own k ≡ true → number_of m ≡ k → ⊥
not_own_lem m k t e = let z : true ≡ false = sym t ∙ ap not_own (sym e) ∙ own_number m in let w : ◌≡◌ {A = ℕ} 0 1 = cc in omega arith

jobs_number : (m : JobRefusal) → not_own (refusal_number m) ≡ true
jobs_number FileEnded = refl
jobs_number WrongEnd = refl
jobs_number NoCard = refl

jobs_some : (m : JobRefusal) → 0 ≡ refusal_number m → ⊥
jobs_some FileEnded e = omega arith
jobs_some WrongEnd e = omega arith
jobs_some NoCard e = omega arith

-- the job's refusal of a number
abbrev refusal_by : ℕ → JobRefusal
refusal_by k = cond (eqb k 15) FileEnded (cond (eqb k 16) WrongEnd NoCard)

by_number : (m : JobRefusal) → refusal_by (refusal_number m) ≡ m
by_number FileEnded = refl
by_number WrongEnd = refl
by_number NoCard = refl

-- the job's refusals are those that are reported with its numbers
reported_missing : (m : JobRefusal) (place : ℕ) (a : Answer) → Reported a (refusal_number m) place → a ≡ Err (Missing m place)
reported_missing m place (Ok card) r = absurd (jobs_some m r.0)
reported_missing m place (Err (Refused own p)) r = absurd (not_own_lem own (refusal_number m) (jobs_number m) r.0)
reported_missing m place (Err (Missing m' p)) r =
    let e : m' ≡ m = sym (by_number m') ∙ ap refusal_by r.0 ∙ by_number m in
    rw (e, r.1)

missing_found : (s : List ℕ) (words : ℕ) (m : JobRefusal) (place : ℕ) (f : Found) → answer_for s words f ≡ Err (Missing m place) → f ≡ missing_at m place
missing_found s words m place (Err none) e =
    let f : Missing none.refusal none.place ≡ Missing m place = cc in
    let i : none.refusal ≡ m = cc in
    let j : none.place ≡ place = cc in
    rw (← i, ← j)
missing_found s words m place (Ok body) e = go (answer_of (reading 32 (part s body.start body.length) words)) e
  where
    go : (b : ReaderAnswer) → located body.start b ≡ Err (Missing m place) → Ok body ≡ missing_at m place
    go (reader.Accepted rows used) e = let z : ◌≡◌ {A = ℕ} 0 1 = cc in absurd (omega arith)
    go (reader.Refused refusal p) e = let z : ◌≡◌ {A = ℕ} 0 1 = cc in absurd (omega arith)

missing_exactly :
    (s : List ℕ) (words : ℕ) (m : JobRefusal) (place : ℕ) {f : Found} {T : List ℕ} {a : Answer} → Reads s words f T a
    → Reported a (refusal_number m) place ↔ (f ≡ missing_at m place)
missing_exactly s words m place {f} {a = a} d = (
  λ r. missing_found s words m place f (sym d.says ∙ reported_missing m place a r),
  λ e. let z : a ≡ Err (Missing m place) = d.says ∙ ap (answer_for s words) e in rw z (refl, refl),
)

-- 15, 16 AND 26, each with its place exactly where the file's records have it.
module _ (s : List ℕ) (n words : ℕ) {T : List ℕ} {a : Answer} (d : Reads s words (body_of s n) T a) (place : ℕ) where
  through : {P : Type 0} (m : JobRefusal) → (body_of s n ≡ missing_at m place) ↔ P → Reported a (refusal_number m) place ↔ P
  through m h = let g = missing_exactly s words m place d in (λ r. h.0 (g.0 r), λ p. g.1 (h.1 p))

  pub fifteen : Reported a 15 place ↔ ((cards : ℕ) × Due s cards place × (cards ≤ n) × (length (drop place s) < record_length (drop place s)))
  fifteen = through FileEnded (cut_exactly s n place)

  pub sixteen : Reported a 16 place ↔ ((cards : ℕ) × EndAt s cards place × (cards ≤ n) × (Counts (drop place s) cards → ⊥))
  sixteen = through WrongEnd (wrong_exactly s n place)

  pub twenty_six : Reported a 26 place ↔ ((cards : ℕ) × EndAt s cards place × (cards ≤ n) × Counts (drop place s) cards)
  twenty_six = through NoCard (none_exactly s n place)

-- SETTLED. Two calls with one file, one number and equally large tables answer alike and leave the same words: a retried card reads as it did.
pub settled : (s : List ℕ) (n words : ℕ) {T T' : List ℕ} {a a' : Answer} → Reads s words (body_of s n) T a → Reads s words (body_of s n) T' a' → (a ≡ a') × (T ≡ T')
settled s n words d d' = (d.says ∙ sym d'.says, d.leaves ∙ sym d'.leaves)

-- COUNTED. Before a kind 2 record exactly the numbers below the count of its cards are cards.
pub counted : (s : List ℕ) {cards at : ℕ} → EndAt s cards at → (n : ℕ) → (n < cards) ↔ ((start : ℕ) × (size : ℕ) × CardAt s n start size)
counted s d n = (λ l. card_before s d.due n l, λ c. card_below s d c.2)

-- a card, where its body lies
module _ {s : List ℕ} {n start size : ℕ} (c : CardAt s n start size) where
  at_body : body_of s n ≡ body_at start size
  at_body = (card_exactly s n start size).1 c

  -- IN THE FILE. The body is a part of the file.
  pub in_file : start + size ≤ length s
  in_file = lies s n at_body

  module _ (words : ℕ) {T : List ℕ} {a : Answer} (d : Reads s words (body_of s n) T a) where
    body_read : a ≡ located start (answer_of (reading 32 (part s start size) words))
    body_read = d.says ∙ ap (answer_for s words) at_body

    body_left : T ≡ table_of words (reading 32 (part s start size) words)
    body_left = d.leaves ∙ ap (table_for s words) at_body

    -- ALONE. A card reads as its body alone is read by `reader::read`, nested to at most 32, into a table as large.
    pub card_alone : {T' : List ℕ} {b : ReaderAnswer} → Answers (reading 32 (part s start size) words) words T' b → (own (report_of a) ≡ reads.report_of b) × (T ≡ T')
    card_alone {b = b} h = (ap (λ (x : Answer). own (report_of x)) (body_read ∙ ap (located start) (sym h.says)) ∙ kept b, body_left ∙ sym h.leaves)
      where
        kept : (b : ReaderAnswer) → own (report_of (located start b)) ≡ reads.report_of b
        kept (reader.Accepted rows used) = refl
        kept (reader.Refused refusal place) = refl

    -- NAMED. Its acceptance names the body's first byte.
    pub body_named : (report_of a).number ≡ 0 → (report_of a).body ≡ start
    body_named e = rw body_read (go (answer_of (reading 32 (part s start size) words)) (rw body_read at e))
      where
        go : (b : ReaderAnswer) → (report_of (located start b)).number ≡ 0 → (report_of (located start b)).body ≡ start
        go (reader.Accepted rows used) z = refl
        go (reader.Refused m place) z = absurd (not_own_lem m 0 refl z)

-- ALIKE. Reads of equal bodies into equally large tables answer alike, save where the body lies, and leave the same words, whatever else the two jobs
-- hold.
pub alike :
    (s s' : List ℕ) (n n' words : ℕ) {start size start' size' : ℕ} {T T' : List ℕ} {a a' : Answer} → CardAt s n start size → CardAt s' n' start' size'
    → part s start size ≡ part s' start' size' → Reads s words (body_of s n) T a → Reads s' words (body_of s' n') T' a'
    → (own (report_of a) ≡ own (report_of a')) × (T ≡ T')
alike s s' n n' words {start} {size} c c' p d d' =
    let alone : Answers (reading 32 (part s start size) words) words _ _ = record { says = refl; leaves = refl } in
    let g = card_alone c words d alone in
    let h = card_alone c' words d' (record { says = ap (λ (l : List ℕ). answer_of (reading 32 l words)) p; leaves = ap (λ (l : List ℕ). table_of words (reading 32 l words)) p }) in
    (g.0 ∙ sym h.0, g.1 ∙ sym h.1)

-- what is found in u alone is read there, whatever follows u
found_read :
    (u t : List ℕ) (words : ℕ) (f : Found) → ((start size : ℕ) → f ≡ body_at start size → start + size ≤ length u)
    → (answer_for (u ++ t) words f ≡ answer_for u words f) × (table_for (u ++ t) words f ≡ table_for u words f)
found_read u t words (Err none) h = (refl, refl)
found_read u t words (Ok body) h = rw (part_stands u t body.start body.length (h body.start body.length refl)) (refl, refl)

read_on :
    (u t : List ℕ) (n words : ℕ) {T T' : List ℕ} {a a' : Answer} → body_of (u ++ t) n ≡ body_of u n → Reads u words (body_of u n) T a
    → Reads (u ++ t) words (body_of (u ++ t) n) T' a' → (a ≡ a') × (T ≡ T')
read_on u t n words e d d' =
    let g = found_read u t words (body_of u n) (λ start size i. lies u n i) in
    (d.says ∙ sym (d'.says ∙ ap (answer_for (u ++ t) words) e ∙ g.0), d.leaves ∙ sym (d'.leaves ∙ ap (table_for (u ++ t) words) e ∙ g.1))

-- WHATEVER FOLLOWS. A card that stands whole in the bytes u reads the same whatever follows them, and so does any number once a kind 2 record stands.
module _ (u t : List ℕ) (n words : ℕ) {T T' : List ℕ} {a a' : Answer} (d : Reads u words (body_of u n) T a) (d' : Reads (u ++ t) words (body_of (u ++ t) n) T' a') where
  pub still_reads : {start size : ℕ} → CardAt u n start size → (a ≡ a') × (T ≡ T')
  still_reads c = read_on u t n words (found_on u t n c) d d'

  pub rest_ignored : {cards at : ℕ} → EndAt u cards at → (a ≡ a') × (T ≡ T')
  rest_ignored e = read_on u t n words (ended_on u t n e) d d'

-- REFUSED. A refusal, the job's or the card's own, has 0 for the body, and the table is all zeros.
pub refused_body : (a : Answer) → ((report_of a).number ≡ 0 → ⊥) → (report_of a).body ≡ 0
refused_body (Ok card) h = absurd (h refl)
refused_body (Err (Refused m p)) h = refl
refused_body (Err (Missing m p)) h = refl

pub refused_zeros : (s : List ℕ) (words : ℕ) (f : Found) {T : List ℕ} {a : Answer} → Reads s words f T a → ((report_of a).number ≡ 0 → ⊥) → T ≡ replicate words 0
refused_zeros s words f {T} {a} d h = d.leaves ∙ go f (rw d.says at h)
  where
    own_zeros : (start : ℕ) (o : Reading) → ((report_of (located start (answer_of o))).number ≡ 0 → ⊥) → table_of words o ≡ replicate words 0
    own_zeros start (refused n q) h = refl
    own_zeros start (got rows used book) h = absurd (h refl)

    go : (f : Found) → ((report_of (answer_for s words f)).number ≡ 0 → ⊥) → table_for s words f ≡ replicate words 0
    go (Err none) h = refl
    go (Ok body) h = own_zeros body.start (reading 32 (part s body.start body.length) words) h

-- by the answer's variant
pub job_refused_zeros : (s : List ℕ) (words : ℕ) (f : Found) {T : List ℕ} {m : JobRefusal} {p : ℕ} → Reads s words f T (Err (Missing m p)) → T ≡ replicate words 0
job_refused_zeros s words f {m = m} d = refused_zeros s words f d (λ e. jobs_some m (sym e))

pub card_refused_zeros : (s : List ℕ) (words : ℕ) (f : Found) {T : List ℕ} {m : Refusal} {p : ℕ} → Reads s words f T (Err (Refused m p)) → T ≡ replicate words 0
card_refused_zeros s words f {m = m} d = refused_zeros s words f d (not_own_lem m 0 refl)
