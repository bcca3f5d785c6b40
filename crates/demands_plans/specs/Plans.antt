-- Plans in document 02's words (E13), for its page: when one is taken, which message is written, and why a call of `plan_writer::write` is accepted or
-- refused. Assumes nothing.
use Rattle.std.specs.Prelude.{◌≡◌, true, false, List, ℕ, ◌+◌, ◌*◌, ◌≤◌, ◌<◌, length, get_or}
use Rattle.draft.specs.declared.Row.{Row}
use Rattle.draft.specs.Codebook.{Book}
use Rattle.draft.specs.Read.{got, message}
use Rattle.draft.specs.Meaning.{MeanSame}
use Rattle.draft.specs.Strings.{texts_of}
use Rattle.draft.specs.Limits.{allowed}
use Rattle.draft.specs.Writable.{writable_to}
use Rattle.draft.specs.Written.{written, rows_of}
use Rattle.plans.specs.Plans.{planned}

-- the byte string t is read, with refusals 8, 9 and 10 put aside, with the meaning that the rows have with their bytes s
pub record ReadAs (t s : List ℕ) (rows : List Row) : Type 0 where
  pub room : ℕ
  pub deep : ℕ
  pub others : List Row
  pub used : ℕ
  pub book : Book
  pub is : message t room deep ≡ got others used book
  pub same : MeanSame s t rows others

-- 'those values', of n strings: a form of 0, 1 or 2, and a position, 'which is 0 with form 0'
abbrev pub Values : List ℕ → ℕ → Type 0
Values p n = (j : ℕ) → j < n → (get_or p (j * 2) 0 ≤ 2) × (get_or p (j * 2) 0 ≡ 0 → get_or p (j * 2 + 1) 0 ≡ 0)

-- 'A plan is taken exactly if it has that length and those values, and its message reads, 8, 9 and 10 put aside, with the table's meaning'
pub record Taken (s : List ℕ) (rows : List Row) (p : List ℕ) : Type 0 where
  pub long : length p ≡ length (texts_of s rows) * 2
  pub values : Values p (length (texts_of s rows))
  pub reads : ReadAs (planned s rows p) s rows

-- m is 'the shorter of the plan's message and 01's form .., 01's if equal'
pub record Chosen (s : List ℕ) (rows : List Row) (p m : List ℕ) : Type 0 where
  pub form : length (written s rows) ≤ length (planned s rows p) → m ≡ written s rows
  pub plan : length (planned s rows p) < length (written s rows) → m ≡ planned s rows p

-- no refusal comes before 24
abbrev pub Ready : ℕ → List ℕ → ℕ → List ℕ → Type 0
Ready limit T rows s = (allowed limit ≡ true) × (length s ≤ 65536) × (writable_to limit T rows s ≡ true)

-- what acceptance with length n asks
pub record AcceptedFor (limit : ℕ) (T : List ℕ) (rows : ℕ) (s p : List ℕ) (room n : ℕ) : Type 0 where
  pub ready : Ready limit T rows s
  pub takes : Taken s (rows_of 4096 T rows) p
  pub message : List ℕ
  pub chosen : Chosen s (rows_of 4096 T rows) p message
  pub long : n ≡ length message
  pub most : n ≤ 65536
  pub fits : n ≤ room

-- why a call is refused with a number, each after the reasons before it did not hold
pub data RefusedFor (limit : ℕ) (T : List ℕ) (rows : ℕ) (s p : List ℕ) (room : ℕ) : ℕ → Type 0 where
  no_limit : allowed limit ≡ false → RefusedFor limit T rows s p room 23
  long_text_lem : allowed limit ≡ true → 65536 < length s → RefusedFor limit T rows s p room 10
  not_writable : allowed limit ≡ true → length s ≤ 65536 → writable_to limit T rows s ≡ false → RefusedFor limit T rows s p room 11
  not_taken : Ready limit T rows s → (Taken s (rows_of 4096 T rows) p → ⊥) → RefusedFor limit T rows s p room 24
  long_message :
      {m : List ℕ} → Ready limit T rows s → Taken s (rows_of 4096 T rows) p → Chosen s (rows_of 4096 T rows) p m → 65536 < length m
      → RefusedFor limit T rows s p room 12
  short_output :
      {m : List ℕ} → Ready limit T rows s → Taken s (rows_of 4096 T rows) p → Chosen s (rows_of 4096 T rows) p m → length m ≤ 65536 → room < length m
      → RefusedFor limit T rows s p room 13
