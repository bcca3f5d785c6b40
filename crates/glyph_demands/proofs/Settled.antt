-- The answer, and every word of the table after a call of `glyph_reader::read`, are settled by the edition, the limit, the message and the table's
-- length. `Answers (reading e limit s words) words T a` is the promise of that function, for a table of so many words that is T after the call, and the
-- answer a. Assumes nothing.
use mathlib.Core.Path.{◌≡◌, refl, sym, ap, ◌∙◌}
use mathlib.Core.Bool.{Bool, true, false}
use mathlib.Core.List.{List}
use Prim.Native.Nat.{ℕ, zero, suc, ◌+◌, ◌≤◌, ◌<◌}
use native.Mathlib.Omega.{arith}
use lib.ListN.{length, get_or, replicate, length-replicate}
use Rattle.draft.specs.declared.Row.{Row}
use Rattle.draft.specs.Rows.{row}
use Rattle.draft.specs.Limits.{allowed}
use Rattle.draft.specs.Table.{room_of, place, put_rows, row_at, from, rows_at}
use Rattle.draft.proofs.Limiting.{limit_least, limit_most}
use Rattle.table.proofs.Rows.{length_put_rows}
use Rattle.exact.proofs.Realising.{counts}
use Rattle.table.proofs.Stored.{rows_there, words_other}
use Rattle.glyph.specs.declared.Refusal.{Refusal}
use Rattle.glyph.specs.declared.Refusal.TheVariants.{TooDeep, NoRow, BadLimit}
use Rattle.std.specs.Prelude.{Ok, Err}
use Rattle.draft.specs.declared.Refused.{Refused}
use Rattle.glyph.specs.declared.Accepted.{Accepted}
use Rattle.glyph.specs.declared.Edition.{Edition}
use Rattle.glyph.specs.Refusals.{number_of}
use Rattle.glyph.specs.Read.{Reading, got, refused, message}
use Rattle.glyph.specs.Tree.{Tree, cells}
use Rattle.glyph.specs.Grammar.{Root}
use Rattle.glyph.specs.Answers.{reading, answer_of, table_of, Answers, Answer, accepted_as, refused_as}
use Rattle.glyph_demands.specs.Answered.{Allowed, Derived, RefusedFor, ended, unexpected_byte, bad_text, repeated_key, out_of_range, too_deep, no_row, too_long, no_limit, rows_in, Columns, Lasting}
use Rattle.glyph_demands.proofs.Reading.{sound, complete, refusals_true, growth_of_limits}

module _ (e : Edition) (limit : ℕ) (s : List ℕ) (words : ℕ) where
  -- SETTLED. Two calls with one edition, limit and message and equally large tables answer alike and leave the same words, whatever lay there before.
  pub settled : {T T' : List ℕ} {a a' : Answer} → Answers (reading e limit s words) words T a → Answers (reading e limit s words) words T' a' → (a ≡ a') × (T ≡ T')
  settled d d' = (d.says ∙ sym d'.says, d.leaves ∙ sym d'.leaves)

  -- WHOLE. The table keeps its length.
  pub whole : {T : List ℕ} {a : Answer} → Answers (reading e limit s words) words T a → length T ≡ words
  whole d = ap length d.leaves ∙ go (reading e limit s words)
    where
      go : (o : Reading) → length (table_of words o) ≡ words
      go (refused m p) = length-replicate words 0
      go (got rows used) = length_put_rows (room_of 4096 words) (replicate words 0) 0 rows ∙ length-replicate words 0

  -- what a refusal says: the definition's own
  pub refused_read : {T : List ℕ} {m : Refusal} {p : ℕ} → Answers (reading e limit s words) words T (refused_as m p) → reading e limit s words ≡ refused m p
  refused_read {m = m} {p} d = go (reading e limit s words) refl d.says
    where
      same : {x y : Refused Refusal} {a : Answer} → Err x ≡ a → a ≡ Err y → x ≡ y
      same i j = cc

      go : (o : Reading) → reading e limit s words ≡ o → refused_as m p ≡ answer_of o → reading e limit s words ≡ refused m p
      go (refused n q) i j =
          let x = same j refl in
          let a : m ≡ n = ap (λ (y : Refused Refusal). y.refusal) x in
          let b : p ≡ q = ap (λ (y : Refused Refusal). y.place) x in
          rw (a, b) i
      go (got rows used) i j = absurd (cc)

  -- REFUSED. On a refusal the table is all zeros, and the refusal's number is true of the message.
  pub refused_zeros : {T : List ℕ} {m : Refusal} {p : ℕ} → Answers (reading e limit s words) words T (refused_as m p) → T ≡ replicate words 0
  refused_zeros d = d.leaves ∙ ap (table_of words) (refused_read d)

  pub refused_true : {T : List ℕ} {m : Refusal} {p : ℕ} → Answers (reading e limit s words) words T (refused_as m p) → RefusedFor e limit s (room_of 4096 words) (number_of m) p
  unfolding reading
  refused_true d = refusals_true e limit s (room_of 4096 words) (refused_read d)

  -- what an acceptance says: the rows that the definition gives, as many and with as many bytes used as the answer names
  pub record Read (n used : ℕ) : Type 0 where
    pub rows : List Row
    pub is : reading e limit s words ≡ got rows used
    pub count : length rows ≡ n

  module _ {T : List ℕ} {n used : ℕ} (d : Answers (reading e limit s words) words T (accepted_as n used)) where
    -- MADE-UP NUMBERS are shut out: the rows and the bytes used are the definition's own.
    pub accepted_read : Read n used
    accepted_read = go (reading e limit s words) refl d.says
      where
        same : {x y : Accepted} {a : Answer} → Ok x ≡ a → a ≡ Ok y → x ≡ y
        same i j = cc

        go : (o : Reading) → reading e limit s words ≡ o → accepted_as n used ≡ answer_of o → Read n used
        go (refused m p) i j = absurd (cc)
        go (got rows to) i j =
            let x = same j refl in
            let k : used ≡ to = ap (λ (y : Accepted). y.used) x in
            let l : n ≡ length rows = ap (λ (y : Accepted). y.rows) x in
            record { rows = rows; is = rw k i; count = sym l }

    -- ROWS. They are all that is in the table, from row 0 on, and what the edition derives.
    pub stored : T ≡ put_rows (room_of 4096 words) (replicate words 0) 0 accepted_read.rows
    stored = d.leaves ∙ ap (table_of words) accepted_read.is

    pub derived : Derived e limit s (room_of 4096 words) accepted_read.rows used
    unfolding reading
    derived = sound e limit s (room_of 4096 words) accepted_read.is

    pub accepted_rows : rows_at (room_of 4096 words) T 0 n ≡ accepted_read.rows
    accepted_rows =
        ap (rows_at (room_of 4096 words) T 0) (sym accepted_read.count)
        ∙ ap (λ (l : List ℕ). rows_at (room_of 4096 words) l 0 (length accepted_read.rows)) stored
        ∙ rows_there (room_of 4096 words) (replicate words 0) 0 accepted_read.rows (omega (arith, derived.fits)) (omega (arith, length-replicate {A = ℕ} words 0))

    -- EXACTLY: an accepted message is derived within the limits, and the rows in the table mean what is derived;
    pub means : Derived e limit s (room_of 4096 words) (rows_at (room_of 4096 words) T 0 n) used
    means = rw accepted_rows derived

  -- and one that is derived within the limits is accepted, with as many rows as that means and the bytes used.
  pub taken :
      {used : ℕ} {t : Tree} → Allowed limit s → Root e limit s used t → length (cells t) ≤ room_of 4096 words → {T : List ℕ} {a : Answer}
      → Answers (reading e limit s words) words T a → a ≡ accepted_as (length (cells t)) used
  unfolding reading
  taken {used} ok g fits d = let x = complete (room_of 4096 words) g ok fits in d.says ∙ ap answer_of x.is ∙ ap (λ (k : ℕ). accepted_as k used) (counts x.meaning)

  -- 23, at place 0, exactly for a limit that is not 1 to 32; the table is zeros.
  pub unlimited : allowed limit ≡ false → {T : List ℕ} {a : Answer} → Answers (reading e limit s words) words T a → (a ≡ refused_as BadLimit 0) × (T ≡ replicate words 0)
  unfolding reading message allowed
  unlimited h d = (d.says ∙ rw h, d.leaves ∙ rw h)

  pub unlimited_only : {T : List ℕ} {p : ℕ} → Answers (reading e limit s words) words T (refused_as BadLimit p) → allowed limit ≡ false
  unlimited_only {T} {p} d = go (refused_true d) refl
    where
      no : (1 ≤ limit → limit ≤ 32 → ⊥) → (b : Bool) → allowed limit ≡ b → allowed limit ≡ false
      no h true i = absurd (h (limit_least limit i) (limit_most limit i))
      no h false i = i

      go : {n q : ℕ} → RefusedFor e limit s (room_of 4096 words) n q → n ≡ 23 → allowed limit ≡ false
      go (no_limit h) i = no h (allowed limit) refl
      go (ended h x) i = absurd (omega arith)
      go (unexpected_byte h x) i = absurd (omega arith)
      go (bad_text h x) i = absurd (omega arith)
      go (repeated_key h x) i = absurd (omega arith)
      go (out_of_range h x) i = absurd (omega arith)
      go (too_deep h) i = absurd (omega arith)
      go (no_row h) i = absurd (omega arith)
      go (too_long h) i = absurd (omega arith)

-- the table of a reading is its rows, stored in a table of zeros
table_of_lem : (words : ℕ) (o : Reading) → table_of words o ≡ put_rows (room_of 4096 words) (replicate words 0) 0 (rows_in o)
unfolding put_rows
table_of_lem words (refused m p) = refl
table_of_lem words (got rows used) = refl

from_at : (f : ℕ → Row) (r n i : ℕ) → i < n → get_or (from f r n) i (row 0 0 0 0) ≡ f (r + i)
unfolding from
from_at f r zero i h = absurd (omega arith)
from_at f r (suc n) zero h = ap f (omega arith)
from_at f r (suc n) (suc i) h = from_at f (suc r) n i (omega arith) ∙ ap f (omega arith)

zeros : (m k : ℕ) → ◌≡◌ {A = ℕ} (get_or (replicate m 0) k 0) 0
zeros zero k = refl
zeros (suc m) zero = refl
zeros (suc m) (suc k) = zeros m k

-- rows in a table that has room for them
stored_columns : (words : ℕ) (rows : List Row) → length rows ≤ room_of 4096 words → Columns words (put_rows (room_of 4096 words) (replicate words 0) 0 rows) rows
unfolding row_at place
stored_columns words rows fits =
    let c = room_of 4096 words in
    let T = put_rows c (replicate words 0) 0 rows in
    let there : rows_at c T 0 (length rows) ≡ rows = rows_there c (replicate words 0) 0 rows (omega arith) (omega (arith, length-replicate {A = ℕ} words 0)) in
    record {
      stands = λ r h.
          let z : 0 + r ≡ r = omega arith in
          sym (ap (row_at c T) z) ∙ sym (from_at (row_at c T) 0 (length rows) r h) ∙ ap (λ (l : List Row). get_or l r (row 0 0 0 0)) there;
      spare = λ i h. words_other c (replicate words 0) 0 rows i (λ r j k l. h r j (omega arith)) ∙ zeros words i;
    }

module _ (e : Edition) (limit : ℕ) (s : List ℕ) (words : ℕ) where
  -- no more rows are read than there is room for
  pub fits : length (rows_in (reading e limit s words)) ≤ room_of 4096 words
  unfolding reading
  fits = go (reading e limit s words) refl
    where
      go : (o : Reading) → reading e limit s words ≡ o → length (rows_in o) ≤ room_of 4096 words
      go (refused m p) i = omega arith
      go (got rows used) i = (sound e limit s (room_of 4096 words) i).fits

  pub rows_stored : {T : List ℕ} {a : Answer} → Answers (reading e limit s words) words T a → T ≡ put_rows (room_of 4096 words) (replicate words 0) 0 (rows_in (reading e limit s words))
  rows_stored d = d.leaves ∙ table_of_lem words (reading e limit s words)

  -- COLUMNS (E12). The rows of the reading stand in the table, and every other word is zero.
  pub columns : {T : List ℕ} {a : Answer} → Answers (reading e limit s words) words T a → Columns words T (rows_in (reading e limit s words))
  columns d = rw (rows_stored d) (stored_columns words (rows_in (reading e limit s words)) fits)

-- GROWTH (E11), of the function's own answers: an answer other than 8, 9 and 23 stays under a limit that is not lower, up to 32, and in a table that is
-- not smaller, with its place and rows; the words added are zero.
module _ (e : Edition) (s : List ℕ) {limit later words words' : ℕ} (higher : limit ≤ later) (most : later ≤ 32) (larger : words ≤ words') where
  reading_stays : {T : List ℕ} {a : Answer} → Answers (reading e limit s words) words T a → Lasting a → reading e later s words' ≡ reading e limit s words
  unfolding reading
  reading_stays {a = a} d l = growth_of_limits e s (omega arith) higher most (λ p z. (no TooDeep p z).0 refl) (λ p z. (no NoRow p z).1 refl) (λ p z. (no BadLimit p z).2 refl)
    where
      no : (m : Refusal) (p : ℕ) → reading e limit s words ≡ refused m p → Lasting (refused_as m p)
      no m p z = let i : a ≡ refused_as m p = d.says ∙ ap answer_of z in rw i at l

  pub stays :
      {T T' : List ℕ} {a b : Answer} → Answers (reading e limit s words) words T a → Answers (reading e later s words') words' T' b → Lasting a
      → (b ≡ a) × Columns words' T' (rows_in (reading e limit s words))
  stays d d' l =
      let o = reading_stays d l in
      (d'.says ∙ ap answer_of o ∙ sym d.says, rw o at (columns e later s words' d'))
