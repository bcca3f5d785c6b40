-- Rows fetched back from the table that they were stored in. Assumes nothing.
use mathlib.Core.Path.{◌≡◌, refl, ◌∙◌}
use mathlib.Core.List.{List, [], ◌∷◌}
use Prim.Native.Nat.{ℕ, zero, suc, ◌+◌, ◌*◌, ◌≤◌, ◌<◌}
use native.Mathlib.Omega.{arith}
use lib.Dec.{lit<}
use lib.Seq.{get_or-set_same, get_or-set_other}
use lib.ListN.{length, get_or, set, length-set}
use Rattle.draft.specs.declared.Row.{Row}
use Rattle.draft.specs.Table.{place, set_row, put_rows, row_at, from, rows_at}
use Rattle.table.proofs.Rows.{place_in, place_one, length_put_rows}

-- the words of a row that was stored
module _ (c : ℕ) (T : List ℕ) (r : ℕ) (x : Row) (h : r < c) (m : c * 4 ≤ length T) where
  apart : (k k' : ℕ) → k < 4 → k' < 4 → (k ≡ k' → ⊥) → place c r k ≡ place c r k' → ⊥
  apart k k' l l' n e = n (place_one c r r k k' h h l l' e).1

  in_table : (j : ℕ) → j < 4 → place c r j < length T
  in_table j l = omega (arith, place_in c r j h l)

  stored_end : get_or (set_row c T r x) (place c r 3) 0 ≡ x.end
  unfolding set_row
  stored_end =
      get_or-set_same (set (set (set T (place c r 0) x.kind) (place c r 1) x.a) (place c r 2) x.b) (place c r 3) x.end 0 (simp length-set (in_table 3 (lit< tt)))

  stored_b : get_or (set_row c T r x) (place c r 2) 0 ≡ x.b
  unfolding set_row
  stored_b =
      get_or-set_other (set (set (set T (place c r 0) x.kind) (place c r 1) x.a) (place c r 2) x.b) (place c r 3) (place c r 2) x.end 0 (apart 2 3 (lit< tt) (lit< tt) (λ e. omega arith))
      ∙ get_or-set_same (set (set T (place c r 0) x.kind) (place c r 1) x.a) (place c r 2) x.b 0 (simp length-set (in_table 2 (lit< tt)))

  stored_a : get_or (set_row c T r x) (place c r 1) 0 ≡ x.a
  unfolding set_row
  stored_a =
      get_or-set_other (set (set (set T (place c r 0) x.kind) (place c r 1) x.a) (place c r 2) x.b) (place c r 3) (place c r 1) x.end 0 (apart 1 3 (lit< tt) (lit< tt) (λ e. omega arith))
      ∙ get_or-set_other (set (set T (place c r 0) x.kind) (place c r 1) x.a) (place c r 2) (place c r 1) x.b 0 (apart 1 2 (lit< tt) (lit< tt) (λ e. omega arith))
      ∙ get_or-set_same (set T (place c r 0) x.kind) (place c r 1) x.a 0 (simp length-set (in_table 1 (lit< tt)))

  stored_kind : get_or (set_row c T r x) (place c r 0) 0 ≡ x.kind
  unfolding set_row
  stored_kind =
      get_or-set_other (set (set (set T (place c r 0) x.kind) (place c r 1) x.a) (place c r 2) x.b) (place c r 3) (place c r 0) x.end 0 (apart 0 3 (lit< tt) (lit< tt) (λ e. omega arith))
      ∙ get_or-set_other (set (set T (place c r 0) x.kind) (place c r 1) x.a) (place c r 2) (place c r 0) x.b 0 (apart 0 2 (lit< tt) (lit< tt) (λ e. omega arith))
      ∙ get_or-set_other (set T (place c r 0) x.kind) (place c r 1) (place c r 0) x.a 0 (apart 0 1 (lit< tt) (lit< tt) (λ e. omega arith))
      ∙ get_or-set_same T (place c r 0) x.kind 0 (in_table 0 (lit< tt))

  pub stored_row : row_at c (set_row c T r x) r ≡ x
  unfolding row_at
  stored_row = rw (stored_kind, stored_a, stored_b, stored_end)

-- a word that is none of a row's is as it was
word_other : (c : ℕ) (T : List ℕ) (r : ℕ) (x : Row) (i : ℕ) → ((j : ℕ) → j < 4 → i ≡ place c r j → ⊥) → get_or (set_row c T r x) i 0 ≡ get_or T i 0
unfolding set_row
word_other c T r x i n =
    get_or-set_other (set (set (set T (place c r 0) x.kind) (place c r 1) x.a) (place c r 2) x.b) (place c r 3) i x.end 0 (n 3 (lit< tt))
    ∙ get_or-set_other (set (set T (place c r 0) x.kind) (place c r 1) x.a) (place c r 2) i x.b 0 (n 2 (lit< tt))
    ∙ get_or-set_other (set T (place c r 0) x.kind) (place c r 1) i x.a 0 (n 1 (lit< tt))
    ∙ get_or-set_other T (place c r 0) i x.kind 0 (n 0 (lit< tt))

pub words_other : (c : ℕ) (T : List ℕ) (r : ℕ) (xs : List Row) (i : ℕ) → ((k j : ℕ) → r ≤ k → k < r + length xs → j < 4 → i ≡ place c k j → ⊥) → get_or (put_rows c T r xs) i 0 ≡ get_or T i 0
unfolding put_rows
words_other c T r [] i n = refl
words_other c T r (x ∷ xs) i n =
    word_other c (put_rows c T (suc r) xs) r x i (λ j l. n r j (omega arith) (omega arith) l)
    ∙ words_other c T (suc r) xs i (λ k j h l. n k j (omega arith) (omega arith))

-- another row is as it was
pub row_other : (c : ℕ) (T : List ℕ) (r q : ℕ) (x : Row) → r < c → q < c → (q ≡ r → ⊥) → row_at c (set_row c T r x) q ≡ row_at c T q
unfolding row_at
row_other c T r q x h k n = rw (word 0 (lit< tt), word 1 (lit< tt), word 2 (lit< tt), word 3 (lit< tt))
  where
    word : (j : ℕ) → j < 4 → get_or (set_row c T r x) (place c q j) 0 ≡ get_or T (place c q j) 0
    word j l = word_other c T r x (place c q j) (λ i m e. n (place_one c q r j i k h l m e).0)

-- and so are the rows before several that were stored
pub rows_kept : (c : ℕ) (T : List ℕ) (r q : ℕ) (xs : List Row) → q < r → r + length xs ≤ c → row_at c (put_rows c T r xs) q ≡ row_at c T q
unfolding put_rows
rows_kept c T r q [] h k = refl
rows_kept c T r q (x ∷ xs) h k =
    row_other c (put_rows c T (suc r) xs) r q x (omega arith) (omega arith) (λ e. omega arith)
    ∙ rows_kept c T (suc r) q xs (omega arith) (omega arith)

rows_other : (c : ℕ) (T : List ℕ) (r q n : ℕ) (x : Row) → r < q → q + n ≤ c → rows_at c (set_row c T r x) q n ≡ rows_at c T q n
unfolding from
rows_other c T r q zero x h k = refl
rows_other c T r q (suc n) x h k =
    rw (row_other c T r q x (omega arith) (omega arith) (λ e. omega arith), rows_other c T r (suc q) n x (omega arith) (omega arith))

-- the rows that were stored
pub rows_there : (c : ℕ) (T : List ℕ) (r : ℕ) (xs : List Row) → r + length xs ≤ c → c * 4 ≤ length T → rows_at c (put_rows c T r xs) r (length xs) ≡ xs
unfolding put_rows from
rows_there c T r [] h m = refl
rows_there c T r (x ∷ xs) h m =
    rw (stored_row c (put_rows c T (suc r) xs) r x (omega arith) (omega (arith, length_put_rows c T (suc r) xs)), rows_other c (put_rows c T (suc r) xs) r (suc r) (length xs) x (omega arith) (omega arith), rows_there c T (suc r) xs (omega arith) m)

-- the first of several rows
pub first_row : (c : ℕ) (T : List ℕ) (r : ℕ) (x : Row) (xs : List Row) → r < c → c * 4 ≤ length T → row_at c (put_rows c T r (x ∷ xs)) r ≡ x
unfolding put_rows
first_row c T r x xs h m = stored_row c (put_rows c T (suc r) xs) r x h (omega (arith, length_put_rows c T (suc r) xs))
