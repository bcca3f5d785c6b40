-- The table that any reading leaves: its rows stand in it, and every other word is 0. Assumes nothing.
use mathlib.Core.Path.{◌≡◌, refl, sym, ap, ◌∙◌}
use mathlib.Core.Logic.{◌≢◌}
use mathlib.Core.Bool.{Bool, true, false, ◌&&◌, cond}
use mathlib.Core.List.{List, [], ◌∷◌}
use Prim.Native.Nat.{ℕ, zero, suc, ◌+◌, ◌*◌, ◌≤◌, ◌<◌}
use native.Mathlib.Omega.{arith}
use lib.Dec.{ltb}
use lib.ListN.{length, get_or, take, replicate, length-replicate}
use Rattle.draft.specs.declared.Row.{Row}
use Rattle.draft.specs.declared.Refusal.TheVariants.{TooLong}
use Rattle.draft.specs.Table.{room_of, place, set_row, put_rows, row_at, from}
use Rattle.draft.specs.Read.{Reading, got, refused}
use Rattle.draft.specs.Written.{rows_of}
use Rattle.table.proofs.Rows.{length_put_rows, place_in, place_one}
use Rattle.table.proofs.Stored.{rows_there, words_other}
use Rattle.read_answer.specs.Answers.{reading, table_of}
use Rattle.read_answer.proofs.Limited.{got_within}
use Rattle.rereading.specs.Rereading.{refused_with_one}
use Rattle.pieces.specs.Pieces.{outcome}
use Rattle.index_search.proofs.Theorems.{get_d_from}
use Rattle.layouts.specs.Layouts.{by_rows, set_row_by, put_rows_by, table_by, FitsIn}
use Rattle.layouts.proofs.Storing.{rows_lay, columns_lay, read_same}
use Rattle.demands_reading.proofs.Reading.{sound}
use Rattle.demands_calls.specs.Growth.{Stays}
use Rattle.demands_calls.specs.Columns.{word_of, no_row, rows_in, Kept}

-- ---- what is read has room

pub fits : (limit : ℕ) (s : List ℕ) (words : ℕ) (o : Reading) → reading limit s words ≡ o → FitsIn words o
fits limit s words (refused m p) e = tt
fits limit s words (got rows used book) e = (sound 65536 s (room_of 4096 words) limit (got_within limit s words e)).fits

pub fits_outcome : (limit : ℕ) (s : List ℕ) (words : ℕ) → FitsIn words (outcome limit s words)
unfolding outcome
fits_outcome limit s words = go (refused_with_one (reading limit (take 65536 s) words) && ltb 65536 (length s))
  where
    go : (b : Bool) → FitsIn words (cond b (refused TooLong 0) (reading limit (take 65536 s) words))
    go true = tt
    go false = fits limit (take 65536 s) words (reading limit (take 65536 s) words) refl

pub fits_larger : {words words' : ℕ} → words ≤ words' → (o : Reading) → FitsIn words o → FitsIn words' o
fits_larger larger (refused m p) h = tt
fits_larger larger (got rows used book) h = omega arith

-- ---- the table

zeros : (m k : ℕ) → ◌≡◌ {A = ℕ} (get_or (replicate m 0) k 0) 0
zeros zero k = refl
zeros (suc m) zero = refl
zeros (suc m) (suc k) = zeros m k

module _ (words : ℕ) where
  pub table_length : (o : Reading) → length (table_of words o) ≡ words
  table_length (refused m p) = length-replicate words 0
  table_length (got rows used book) = length_put_rows (room_of 4096 words) (replicate words 0) 0 rows ∙ length-replicate words 0

  pub table_rows : (o : Reading) → FitsIn words o → rows_of 4096 (table_of words o) (length (rows_in o)) ≡ rows_in o
  unfolding rows_of from
  table_rows (refused m p) h = refl
  table_rows (got rows used book) h =
      rw (table_length (got rows used book))
      (rows_there (room_of 4096 words) (replicate words 0) 0 rows (omega arith) (omega (arith, length-replicate {A = ℕ} words 0)))

  pub table_spare :
      (o : Reading) (i : ℕ) → ((r j : ℕ) → r < length (rows_in o) → j < 4 → i ≢ place (room_of 4096 words) r j) → get_or (table_of words o) i 0 ≡ 0
  table_spare (refused m p) i h = zeros words i
  table_spare (got rows used book) i h = words_other (room_of 4096 words) (replicate words 0) 0 rows i (λ r j a b. h r j (omega arith)) ∙ zeros words i

-- WHAT STAYS: one reading, into a table and into a larger one
pub stays :
    {A : Type 0} {words words' : ℕ} → words ≤ words' → (o : Reading) → FitsIn words o → {T T' : List ℕ} → T ≡ table_of words o → T' ≡ table_of words' o
    → {a b : A} {n : ℕ} → b ≡ a → n ≡ length (rows_in o) → Stays a b n T T'
stays {words = words} {words' = words'} larger o h {T} {T'} d e {a} {b} {n} i k =
    record {
      answer = i;
      rows = rw (d, e, k) (table_rows words' o (fits_larger larger o h) ∙ sym (table_rows words o h));
      added = λ x f.
          let l : words' ≡ length T' = sym (ap length e ∙ table_length words' o) in
          ap (λ (U : List ℕ). get_or U x 0) e ∙ table_spare words' o x (λ r j p q z. f r j (omega arith) q (z ∙ ap (λ (w : ℕ). place (room_of 4096 w) r j) l));
    }

-- the draft's table is that by columns
put_is : (c : ℕ) (T : List ℕ) (r : ℕ) (xs : List Row) → put_rows_by place c T r xs ≡ put_rows c T r xs
unfolding put_rows_by put_rows set_row_by set_row
put_is c T r [] = refl
put_is c T r (x ∷ xs) = rw (put_is c T (suc r) xs)

pub table_is : (words : ℕ) (o : Reading) → table_by place words o ≡ table_of words o
table_is words (refused m p) = refl
table_is words (got rows used book) = put_is (room_of 4096 words) (replicate words 0) 0 rows

-- and the one before the request has its rows one after the other
rows_before : (words : ℕ) (o : Reading) → table_by by_rows words o ≡ put_rows_by by_rows (room_of 4096 words) (replicate words 0) 0 (rows_in o)
unfolding put_rows_by
rows_before words (refused m p) = refl
rows_before words (got rows used book) = refl

-- KEPT AS COLUMNS
module _ (words : ℕ) (o : Reading) (h : FitsIn words o) {T : List ℕ} (e : T ≡ table_of words o) where
  abbrev c : ℕ
  c = room_of 4096 words

  few : length (rows_in o) ≤ c
  few = go o h
    where
      go : (o : Reading) → FitsIn words o → length (rows_in o) ≤ room_of 4096 words
      go (refused m p) h = omega arith
      go (got rows used book) h = h

  its_row_lem : (r : ℕ) → r < length (rows_in o) → row_at c T r ≡ get_or (rows_in o) r no_row
  unfolding rows_of
  its_row_lem r k =
      let z : 0 + r ≡ r = omega arith in
      let l : length T ≡ words = ap length e ∙ table_length words o in
      let g : from (row_at (room_of 4096 (length T)) T) 0 (length (rows_in o)) ≡ rows_in o = rw e (table_rows words o h) in
      ap (row_at c T) (sym z) ∙ sym (get_d_from (row_at c T) 0 (length (rows_in o)) r no_row k) ∙ ap (λ (x : List Row). get_or x r no_row) (rw l at g)

  its_word : (r j : ℕ) → r < length (rows_in o) → j < 4 → get_or T (c * j + r) 0 ≡ word_of j (get_or (rows_in o) r no_row)
  unfolding row_at place
  its_word r j k l = go j l
    where
      go : (j : ℕ) → j < 4 → get_or T (c * j + r) 0 ≡ word_of j (get_or (rows_in o) r no_row)
      go zero l = ap (λ (x : Row). x.kind) (its_row_lem r k)
      go (suc zero) l = ap (λ (x : Row). x.a) (its_row_lem r k)
      go (suc (suc zero)) l = ap (λ (x : Row). x.b) (its_row_lem r k)
      go (suc (suc (suc zero))) l = ap (λ (x : Row). x.end) (its_row_lem r k)
      go (suc (suc (suc (suc j)))) l = absurd (omega arith)

  spare : (i : ℕ) → ((r j : ℕ) → r < length (rows_in o) → j < 4 → i ≢ place c r j) → get_or T i 0 ≡ 0
  spare i f = ap (λ (l : List ℕ). get_or l i 0) e ∙ table_spare words o i f

  pub kept : Kept words (rows_in o) T
  unfolding place
  kept =
      record {
        long = ap length e ∙ table_length words o;
        stands = its_word;
        spare = λ r j f g k. spare (c * j + r) (λ q i a b z. let y = (place_one c r q j i g (omega (arith, few)) k b z).0 in omega arith);
        behind = λ i f. spare i (λ q j a b z. omega (arith, place_in c q j (omega (arith, few)) b, z));
        as_before = rw (e, ← table_is words o, ← rows_before words o) (read_same rows_lay columns_lay words o h);
      }
