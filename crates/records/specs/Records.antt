-- The records of a job file as document 02 (E2) says them, by their bytes: where a record is due, where a card's body lies, and where a kind 2 record
-- ends the job. No function uses these; that what is found in a file (`Job.body_of`) is what they say is proved (demands, E2). Assumes nothing.
use Rattle.std.specs.Prelude.{◌≡◌, List, ℕ, ◌+◌, ◌*◌, ◌≤◌, length, drop}
use Rattle.draft.specs.Bytes.{byte_at, unsigned_at}
use Rattle.records.specs.Job.{body_length, record_length}

-- the two-byte kind of the record that some bytes begin with
abbrev pub kind_number : List ℕ → ℕ
kind_number r = byte_at r 4 + 256 * byte_at r 5

-- all of the record is there; fewer than six bytes are no record
abbrev pub Stands : List ℕ → Type 0
Stands r = record_length r ≤ length r

-- A record is due at byte `at` of the file s: before it stand whole records, so many of kind 1 and none of kind 2.
pub data Due (s : List ℕ) : ℕ → ℕ → Type 0 where
  first : Due s 0 0
  past_card : {cards at : ℕ} → Due s cards at → Stands (drop at s) → kind_number (drop at s) ≡ 1 → Due s (cards + 1) (at + record_length (drop at s))
  past_other : {cards at : ℕ} → Due s cards at → Stands (drop at s) → (kind_number (drop at s) ≡ 1 → ⊥) → (kind_number (drop at s) ≡ 2 → ⊥) → Due s cards (at + record_length (drop at s))

-- card n: a whole kind 1 record with n of its kind before it; its body of `size` bytes has its first byte at `start`, behind length and kind
pub record CardAt (s : List ℕ) (n start size : ℕ) : Type 0 where
  pub at : ℕ
  pub due : Due s n at
  pub stands : Stands (drop at s)
  pub kind : kind_number (drop at s) ≡ 1
  pub behind : start ≡ at + 6
  pub long : size ≡ body_length (drop at s)

-- a whole kind 2 record at `at`, with so many of kind 1 before it
pub record EndAt (s : List ℕ) (cards at : ℕ) : Type 0 where
  pub due : Due s cards at
  pub stands : Stands (drop at s)
  pub kind : kind_number (drop at s) ≡ 2

-- 'its body is four bytes, the number of kind 1 records before it'
abbrev pub Counts : List ℕ → ℕ → Type 0
Counts r cards = (body_length r ≡ 4) × (unsigned_at r 6 ≡ cards)
