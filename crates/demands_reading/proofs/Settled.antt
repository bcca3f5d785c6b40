-- Demand 1 for reading: the answer, and every word of the table after a call of `reader::read`, are settled by the message, the limit of nesting
-- that the call states and the table's length. `Answers (reading limit s words) words T a` is the promise of that function, for a limit, a message
-- s, a table of so many words that is T after the call, and the answer a. Assumes nothing.
use mathlib.Core.Path.{◌≡◌, refl, sym, ap, ◌∙◌}
use mathlib.Core.List.{List}
use Prim.Native.Nat.{ℕ, zero, suc, ◌≤◌, ◌<◌}
use native.Mathlib.Omega.{arith}
use lib.ListN.{length, get_or, replicate, length-replicate}
use Rattle.draft.specs.declared.Refusal.{Refusal}
use Rattle.draft.specs.declared.Row.{Row}
use Rattle.draft.specs.Codebook.{Book}
use Rattle.draft.specs.Table.{room_of, place, put_rows, rows_at}
use Rattle.draft.specs.Read.{Reading, got, refused}
use Rattle.draft.specs.Written.{rows_of}
use Rattle.table.proofs.Rows.{length_put_rows}
use Rattle.table.proofs.Stored.{rows_there, words_other}
use Rattle.read_answer.specs.declared.Answer.{Answer}
use Rattle.read_answer.specs.declared.Answer.TheVariants.{Accepted, Refused}
use Rattle.read_answer.specs.Answers.{reading, answer_of, table_of, Answers}
use Rattle.read_answer.proofs.Limited.{got_within}
use Rattle.demands_reading.proofs.Reading.{sound}

-- SETTLED. Two calls with one message, one limit and equally large tables answer alike and leave the same words, whatever lay there before.
pub settled : (limit : ℕ) (s : List ℕ) (words : ℕ) {T T' : List ℕ} {a a' : Answer} → Answers (reading limit s words) words T a → Answers (reading limit s words) words T' a' → (a ≡ a') × (T ≡ T')
settled limit s words d d' = (d.says ∙ sym d'.says, d.leaves ∙ sym d'.leaves)

-- WHOLE. The table keeps its length.
pub whole : (limit : ℕ) (s : List ℕ) (words : ℕ) {T : List ℕ} {a : Answer} → Answers (reading limit s words) words T a → length T ≡ words
whole limit s words d = ap length d.leaves ∙ go (reading limit s words)
  where
    go : (o : Reading) → length (table_of words o) ≡ words
    go (refused m p) = length-replicate words 0
    go (got rows used book) = length_put_rows (room_of 4096 words) (replicate words 0) 0 rows ∙ length-replicate words 0

-- REFUSED. On a refusal the table is all zeros.
pub refused_zeros : (limit : ℕ) (s : List ℕ) (words : ℕ) {T : List ℕ} {m : Refusal} {p : ℕ} → Answers (reading limit s words) words T (Refused m p) → T ≡ replicate words 0
refused_zeros limit s words {T} {m} {p} d = d.leaves ∙ go (reading limit s words) d.says
  where
    go : (o : Reading) → Refused m p ≡ answer_of o → table_of words o ≡ replicate words 0
    go (refused n q) e = refl
    go (got rows used book) e = let z : ◌≡◌ {A = ℕ} 0 1 = cc in absurd (omega arith)

-- what an acceptance says: the rows that the definition gives, as many and with as many bytes used as the answer names
pub record Read (limit : ℕ) (s : List ℕ) (words n used : ℕ) : Type 0 where
  pub rows : List Row
  pub book : Book
  pub is : reading limit s words ≡ got rows used book
  pub count : length rows ≡ n

module _ (limit : ℕ) (s : List ℕ) (words : ℕ) {T : List ℕ} {n used : ℕ} (d : Answers (reading limit s words) words T (Accepted n used)) where
  -- MADE-UP NUMBERS are shut out: the rows and the bytes used are the definition's own.
  pub accepted_read : Read limit s words n used
  accepted_read = go (reading limit s words) refl d.says
    where
      go : (o : Reading) → reading limit s words ≡ o → Accepted n used ≡ answer_of o → Read limit s words n used
      go (refused m p) i e = let z : ◌≡◌ {A = ℕ} 0 1 = cc in absurd (omega arith)
      go (got rows to book) i e =
          let k : to ≡ used = cc in
          let l : length rows ≡ n = cc in
          record { rows = rows; book = book; is = i ∙ ap (λ (u : ℕ). got rows u book) k; count = l }

  stored : T ≡ put_rows (room_of 4096 words) (replicate words 0) 0 accepted_read.rows
  stored = d.leaves ∙ ap (table_of words) accepted_read.is

  fits : length accepted_read.rows ≤ room_of 4096 words
  fits = (sound 65536 s (room_of 4096 words) limit (got_within limit s words accepted_read.is)).fits

  -- ROWS. They stand in the table, from row 0 on.
  pub accepted_rows : rows_at (room_of 4096 words) T 0 n ≡ accepted_read.rows
  accepted_rows =
      ap (rows_at (room_of 4096 words) T 0) (sym accepted_read.count)
      ∙ ap (λ (l : List ℕ). rows_at (room_of 4096 words) l 0 (length accepted_read.rows)) stored
      ∙ rows_there (room_of 4096 words) (replicate words 0) 0 accepted_read.rows (omega (arith, fits)) (omega (arith, length-replicate {A = ℕ} words 0))

  -- The same by the table's own length.
  pub accepted_rows_of : rows_of 4096 T n ≡ accepted_read.rows
  unfolding rows_of
  accepted_rows_of = rw (whole limit s words d) accepted_rows

  -- SPARE. A word that is none of those rows' is 0: what no row uses, and what no row could.
  pub unused_zero : (i : ℕ) → ((r j : ℕ) → r < n → j < 4 → i ≡ place (room_of 4096 words) r j → ⊥) → get_or T i 0 ≡ 0
  unused_zero i h =
      ap (λ (l : List ℕ). get_or l i 0) stored
      ∙ words_other (room_of 4096 words) (replicate words 0) 0 accepted_read.rows i (λ r j a b. h r j (omega (arith, accepted_read.count)))
      ∙ zeros words i
    where
      zeros : (m k : ℕ) → ◌≡◌ {A = ℕ} (get_or (replicate m 0) k 0) 0
      zeros zero k = refl
      zeros (suc m) zero = refl
      zeros (suc m) (suc k) = zeros m k
