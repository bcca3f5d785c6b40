-- E2, whole job files. `card_search::find` answers `body_of s n` for a file s and a card's number n; `Reads s words (body_of s n) T a` is what `job::read_card`
-- promises, of a table of so many words that is T after the call, and its answer a. Records, cards and ends are those of records/specs/Records, by the
-- file's bytes. Neither function has a `requires`. That the fields hold is proofs/E2. Assumes nothing.
use Rattle.std.specs.Prelude.{◌≡◌, ◌↔◌, List, ◌++◌, ℕ, ◌+◌, ◌≤◌, ◌<◌, length, drop, replicate}
use Rattle.draft.specs.Bytes.{part}
use Rattle.read_answer.specs.declared.Answer.{Answer as ReaderAnswer}
use Rattle.read_answer.specs.Answers.{reading, Answers}
use Rattle.read_answer.specs.Answers as reader
use Rattle.records.specs.Job.{record_length, find, body_of, body_at}
use Rattle.records.specs.Records.{Due, CardAt, EndAt, Counts}
use Rattle.job.specs.Cards.{Answer, Reads, report_of}
use Rattle.demands_jobs.specs.Jobs.{own, Reported}

-- 'A job file is a row of records: four-byte body length, two-byte kind, then the body, little-endian. Kind 1 is one card message. Kind 2 ends the job;
-- its body is four bytes, the number of kind 1 records before it. Other kinds are stepped over, bytes after kind 2 ignored.'
pub record Records : Type 0 where
  pub card_found : (s : List ℕ) (n start size : ℕ) → (body_of s n ≡ body_at start size) ↔ CardAt s n start size
  pub rest_ignored :
      (u t : List ℕ) (n words : ℕ) {cards at : ℕ} {T T' : List ℕ} {a a' : Answer} → EndAt u cards at
      → Reads u words (body_of u n) T a → Reads (u ++ t) words (body_of (u ++ t) n) T' a' → (a ≡ a') × (T ≡ T')

-- 'Each card is read with an empty codebook, so reads of equal bodies into equally large tables answer alike, save where the body lies, whatever else
-- the job holds.' A card reads as its body alone is read by `reader::read`, whose codebook is empty when a message begins.
-- 'Cards are asked for by number, from 0, and a card whose record stands whole before a fault still reads.' The card stands whole in the bytes u; a
-- fault may be in t, or that nothing follows.
pub record Cards : Type 0 where
  pub card_alone :
      (s : List ℕ) (n words : ℕ) {start size : ℕ} {T T' : List ℕ} {a : Answer} {b : ReaderAnswer} → CardAt s n start size → Reads s words (body_of s n) T a
      → Answers (reading 32 (part s start size) words) words T' b → (own (report_of a) ≡ reader.report_of b) × (T ≡ T')
  pub alike :
      (s s' : List ℕ) (n n' words : ℕ) {start size start' size' : ℕ} {T T' : List ℕ} {a a' : Answer} → CardAt s n start size → CardAt s' n' start' size'
      → part s start size ≡ part s' start' size' → Reads s words (body_of s n) T a → Reads s' words (body_of s' n') T' a'
      → (own (report_of a) ≡ own (report_of a')) × (T ≡ T')
  pub numbered_from_zero : (s : List ℕ) {cards at : ℕ} → EndAt s cards at → (n : ℕ) → (n < cards) ↔ ((start : ℕ) × (size : ℕ) × CardAt s n start size)
  pub still_reads :
      (u t : List ℕ) (n words : ℕ) {start size : ℕ} {T T' : List ℕ} {a a' : Answer} → CardAt u n start size
      → Reads u words (body_of u n) T a → Reads (u ++ t) words (body_of (u ++ t) n) T' a' → (a ≡ a') × (T ≡ T')

-- 'Refusals: 15 if the file ends before or inside a record with no kind 2 yet, 16 for a kind 2 body of wrong length or number, both at that record's
-- first byte, 15 first;' (16 asks for the whole record) '26, at the kind 2 record's first byte, if a sound job ends before the card asked for;'
pub record Refusals (s : List ℕ) (n : ℕ) (a : Answer) (place : ℕ) : Type 0 where
  pub fifteen : Reported a 15 place ↔ ((cards : ℕ) × Due s cards place × (cards ≤ n) × (length (drop place s) < record_length (drop place s)))
  pub sixteen : Reported a 16 place ↔ ((cards : ℕ) × EndAt s cards place × (cards ≤ n) × (Counts (drop place s) cards → ⊥))
  pub twenty_six : Reported a 26 place ↔ ((cards : ℕ) × EndAt s cards place × (cards ≤ n) × Counts (drop place s) cards)

-- 'a card keeps 01's own, places and offsets counted from its body' (`Cards.card_alone`: number and place are those of the body alone, and so are the
-- offsets in its rows); 'acceptance also names the body's first byte in the file, a refusal 0.'
-- Demand 1: 'After every call the whole lent table is settled by that call's material and the buffer's length; on a refusal it is all zeros.'
pub record Told (s : List ℕ) (n words : ℕ) (T : List ℕ) (a : Answer) : Type 0 where
  pub body_named : {start size : ℕ} → CardAt s n start size → (report_of a).number ≡ 0 → (report_of a).body ≡ start
  pub refused_body : ((report_of a).number ≡ 0 → ⊥) → (report_of a).body ≡ 0
  pub settled : {T' : List ℕ} {a' : Answer} → Reads s words (body_of s n) T' a' → (a ≡ a') × (T ≡ T')
  pub refused_zeros : ((report_of a).number ≡ 0 → ⊥) → T ≡ replicate words 0

pub record E2 : Type 0 where
  pub records : Records
  pub cards : Cards
  pub refusals : (s : List ℕ) (n words : ℕ) {T : List ℕ} {a : Answer} → Reads s words (body_of s n) T a → (place : ℕ) → Refusals s n a place
  pub told : (s : List ℕ) (n words : ℕ) {T : List ℕ} {a : Answer} → Reads s words (body_of s n) T a → Told s n words T a
  -- 'Cards are asked for by number': also the next one, from the end of card n, for which `card_search::find_next` answers as `find` does from the start
  pub next_card :
      (s : List ℕ) (n : ℕ) {start size : ℕ} → CardAt s n start size → find (n + 1) (n + 1) (start + size) 0 (drop (start + size) s) ≡ body_of s (n + 1)
