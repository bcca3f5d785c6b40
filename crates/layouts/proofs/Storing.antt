-- Rows stored and fetched by any layout with the two laws: two tables that have the same rows have them still after the same row is stored in both.
-- Assumes nothing.
use mathlib.Core.Path.{◌≡◌, refl, sym, ap, ◌∙◌}
use mathlib.Core.Bool.{Bool, true, false}
use mathlib.Core.List.{List, [], ◌∷◌}
use Prim.Native.Nat.{ℕ, zero, suc, ◌+◌, ◌*◌, ◌≤◌, ◌<◌}
use native.Mathlib.Omega.{arith}
use borrow.Author.Tests.{eqb-true, eqb-false}
use lib.Dec.{lit<, eqb}
use lib.Seq.{get_or-set_same, get_or-set_other}
use lib.ListN.{length, get_or, set, replicate, length-set, length-replicate}
use Rattle.draft.specs.declared.Row.{Row}
use Rattle.draft.specs.Table.{room_of, place, from}
use Rattle.draft.specs.Read.{Reading, got, refused}
use Rattle.table.proofs.Rows.{place_in, place_one}
use Rattle.layouts.specs.Layouts.{Layout, by_rows, Lays, set_row_by, put_rows_by, row_by, table_by, FitsIn, SameRows, turned}

-- both layouts have the laws
pub rows_lay : Lays by_rows
unfolding by_rows
rows_lay = record { inside = λ c r j h k. omega arith; apart = λ c i j k k' hi hj h h' e. omega arith }

pub columns_lay : Lays place
columns_lay = record { inside = place_in; apart = place_one }

module _ {at : Layout} (lays : Lays at) where
  -- the words of a row that was stored
  module _ (c : ℕ) (T : List ℕ) (r : ℕ) (x : Row) (h : r < c) (m : c * 4 ≤ length T) where
    apart : (k k' : ℕ) → k < 4 → k' < 4 → (k ≡ k' → ⊥) → at c r k ≡ at c r k' → ⊥
    apart k k' l l' n e = n (lays.apart c r r k k' h h l l' e).1

    in_table : (j : ℕ) → j < 4 → at c r j < length T
    in_table j l = omega (arith, lays.inside c r j h l)

    -- the table with the words up to the j-th stored
    abbrev one : List ℕ
    one = set T (at c r 0) x.kind

    abbrev two : List ℕ
    two = set one (at c r 1) x.a

    abbrev three : List ℕ
    three = set two (at c r 2) x.b

    stored_end : get_or (set_row_by at c T r x) (at c r 3) 0 ≡ x.end
    unfolding set_row_by
    stored_end = get_or-set_same three (at c r 3) x.end 0 (simp length-set (in_table 3 (lit< tt)))

    stored_b : get_or (set_row_by at c T r x) (at c r 2) 0 ≡ x.b
    unfolding set_row_by
    stored_b =
        get_or-set_other three (at c r 3) (at c r 2) x.end 0 (apart 2 3 (lit< tt) (lit< tt) (λ e. omega arith))
        ∙ get_or-set_same two (at c r 2) x.b 0 (simp length-set (in_table 2 (lit< tt)))

    stored_a : get_or (set_row_by at c T r x) (at c r 1) 0 ≡ x.a
    unfolding set_row_by
    stored_a =
        get_or-set_other three (at c r 3) (at c r 1) x.end 0 (apart 1 3 (lit< tt) (lit< tt) (λ e. omega arith))
        ∙ get_or-set_other two (at c r 2) (at c r 1) x.b 0 (apart 1 2 (lit< tt) (lit< tt) (λ e. omega arith))
        ∙ get_or-set_same one (at c r 1) x.a 0 (simp length-set (in_table 1 (lit< tt)))

    stored_kind : get_or (set_row_by at c T r x) (at c r 0) 0 ≡ x.kind
    unfolding set_row_by
    stored_kind =
        get_or-set_other three (at c r 3) (at c r 0) x.end 0 (apart 0 3 (lit< tt) (lit< tt) (λ e. omega arith))
        ∙ get_or-set_other two (at c r 2) (at c r 0) x.b 0 (apart 0 2 (lit< tt) (lit< tt) (λ e. omega arith))
        ∙ get_or-set_other one (at c r 1) (at c r 0) x.a 0 (apart 0 1 (lit< tt) (lit< tt) (λ e. omega arith))
        ∙ get_or-set_same T (at c r 0) x.kind 0 (in_table 0 (lit< tt))

    stored_row : row_by at c (set_row_by at c T r x) r ≡ x
    unfolding row_by
    stored_row = rw (stored_kind, stored_a, stored_b, stored_end)

  -- a word that is none of the row's is as it was
  word_other : (c : ℕ) (T : List ℕ) (r : ℕ) (x : Row) (i : ℕ) → ((j : ℕ) → j < 4 → i ≡ at c r j → ⊥) → get_or (set_row_by at c T r x) i 0 ≡ get_or T i 0
  unfolding set_row_by
  word_other c T r x i n =
      get_or-set_other (set (set (set T (at c r 0) x.kind) (at c r 1) x.a) (at c r 2) x.b) (at c r 3) i x.end 0 (n 3 (lit< tt))
      ∙ get_or-set_other (set (set T (at c r 0) x.kind) (at c r 1) x.a) (at c r 2) i x.b 0 (n 2 (lit< tt))
      ∙ get_or-set_other (set T (at c r 0) x.kind) (at c r 1) i x.a 0 (n 1 (lit< tt))
      ∙ get_or-set_other T (at c r 0) i x.kind 0 (n 0 (lit< tt))

  row_other : (c : ℕ) (T : List ℕ) (r q : ℕ) (x : Row) → r < c → q < c → (q ≡ r → ⊥) → row_by at c (set_row_by at c T r x) q ≡ row_by at c T q
  unfolding row_by
  row_other c T r q x h k n = rw (word 0 (lit< tt), word 1 (lit< tt), word 2 (lit< tt), word 3 (lit< tt))
    where
      word : (j : ℕ) → j < 4 → get_or (set_row_by at c T r x) (at c q j) 0 ≡ get_or T (at c q j) 0
      word j l = word_other c T r x (at c q j) (λ i m e. n (lays.apart c q r j i k h l m e).0)

  beyond_kept : (c : ℕ) (T : List ℕ) (r : ℕ) (x : Row) (i : ℕ) → r < c → c * 4 ≤ i → get_or (set_row_by at c T r x) i 0 ≡ get_or T i 0
  beyond_kept c T r x i h k = word_other c T r x i (λ j l e. omega (arith, lays.inside c r j h l, e))

  length_set_row : (c : ℕ) (T : List ℕ) (r : ℕ) (x : Row) → length (set_row_by at c T r x) ≡ length T
  unfolding set_row_by
  length_set_row c T r x = simp length-set

  pub length_put : (c : ℕ) (T : List ℕ) (r : ℕ) (xs : List Row) → length (put_rows_by at c T r xs) ≡ length T
  unfolding put_rows_by
  length_put c T r [] = refl
  length_put c T r (x ∷ xs) = length_set_row c (put_rows_by at c T (suc r) xs) r x ∙ length_put c T (suc r) xs

  -- words behind the rows stay
  pub beyond_put : (c : ℕ) (T : List ℕ) (r : ℕ) (xs : List Row) (i : ℕ) → r + length xs ≤ c → c * 4 ≤ i → get_or (put_rows_by at c T r xs) i 0 ≡ get_or T i 0
  unfolding put_rows_by
  beyond_put c T r [] i h k = refl
  beyond_put c T r (x ∷ xs) i h k =
      beyond_kept c (put_rows_by at c T (suc r) xs) r x i (omega arith) k ∙ beyond_put c T (suc r) xs i (omega arith) k

  later : (q r : ℕ) → r ≤ q → (q ≡ r → ⊥) → suc r ≤ q
  later q r h n = omega (arith, n)

  -- the rows that f gives, stored from row r on, are fetched
  pub put_from :
      (c : ℕ) (T : List ℕ) (f : ℕ → Row) (r n q : ℕ) → r + n ≤ c → c * 4 ≤ length T → r ≤ q → q < r + n → row_by at c (put_rows_by at c T r (from f r n)) q ≡ f q
  unfolding put_rows_by from
  put_from c T f r zero q h m l k = absurd (omega arith)
  put_from c T f r (suc n) q h m l k = go (λ i. put_from c T f (suc r) n q (omega arith) m i (omega arith)) (eqb q r) refl
    where
      rest : List ℕ
      rest = put_rows_by at c T (suc r) (from f (suc r) n)

      go : (suc r ≤ q → row_by at c (put_rows_by at c T (suc r) (from f (suc r) n)) q ≡ f q) → (b : Bool) → eqb q r ≡ b → row_by at c (set_row_by at c rest r (f r)) q ≡ f q
      go i true e =
          let z : q ≡ r = eqb-true q r e in
          rw z (stored_row c rest r (f r) (omega arith) (omega (arith, length_put c T (suc r) (from f (suc r) n))))
      go i false e = row_other c rest r q (f r) (omega arith) (omega arith) (eqb-false q r e) ∙ i (later q r l (eqb-false q r e))

from_length : {A : Type 0} (f : ℕ → A) (r n : ℕ) → length (from f r n) ≡ n
unfolding from
from_length f r zero = refl
from_length f r (suc n) = ap suc (from_length f (suc r) n)

-- two layouts
module _ {at at' : Layout} (lays : Lays at) (lays' : Lays at') where
  -- a row stored in both
  row_same :
      (c : ℕ) (T T' : List ℕ) (r : ℕ) (x : Row) → r < c → c * 4 ≤ length T → c * 4 ≤ length T'
      → ((q : ℕ) → q < c → row_by at c T q ≡ row_by at' c T' q) → (q : ℕ) → q < c → row_by at c (set_row_by at c T r x) q ≡ row_by at' c (set_row_by at' c T' r x) q
  row_same c T T' r x h m m' same q k = go (eqb q r) refl
    where
      go : (b : Bool) → eqb q r ≡ b → row_by at c (set_row_by at c T r x) q ≡ row_by at' c (set_row_by at' c T' r x) q
      go true e = let z : q ≡ r = eqb-true q r e in rw z (stored_row lays c T r x h m ∙ sym (stored_row lays' c T' r x h m'))
      go false e = row_other lays c T r q x h k (eqb-false q r e) ∙ same q k ∙ sym (row_other lays' c T' r q x h k (eqb-false q r e))

  rows_same :
      (c : ℕ) (T T' : List ℕ) (r : ℕ) (xs : List Row) → r + length xs ≤ c → c * 4 ≤ length T → c * 4 ≤ length T'
      → ((q : ℕ) → q < c → row_by at c T q ≡ row_by at' c T' q) → (q : ℕ) → q < c → row_by at c (put_rows_by at c T r xs) q ≡ row_by at' c (put_rows_by at' c T' r xs) q
  unfolding put_rows_by
  rows_same c T T' r [] h m m' same = same
  rows_same c T T' r (x ∷ xs) h m m' same =
      row_same c (put_rows_by at c T (suc r) xs) (put_rows_by at' c T' (suc r) xs) r x (omega arith)
      (omega (arith, length_put lays c T (suc r) xs)) (omega (arith, length_put lays' c T' (suc r) xs))
      (rows_same c T T' (suc r) xs (omega arith) m m' same)

  -- zeros have zero rows
  zero_word : (n i : ℕ) → ◌≡◌ {A = ℕ} (get_or (replicate n 0) i 0) 0
  zero_word zero i = refl
  zero_word (suc n) zero = refl
  zero_word (suc n) (suc i) = zero_word n i

  zero_rows : (c n q : ℕ) → row_by at c (replicate n 0) q ≡ row_by at' c (replicate n 0) q
  unfolding row_by
  zero_rows c n q =
      rw (
        zero_word n (at c q 0),
        zero_word n (at c q 1),
        zero_word n (at c q 2),
        zero_word n (at c q 3),
        zero_word n (at' c q 0),
        zero_word n (at' c q 1),
        zero_word n (at' c q 2),
        zero_word n (at' c q 3),
      )

  -- what a reading leaves, by both layouts
  pub read_same : (words : ℕ) (o : Reading) → FitsIn words o → SameRows at at' (table_by at words o) (table_by at' words o)
  read_same words (refused m p) h = record { long = refl; each = λ r k. zero_rows (room_of 4096 (length {A = ℕ} (replicate words 0))) words r; beyond = λ i k. refl }
  read_same words (got rows used book) h =
      let c = room_of 4096 words in
      let z : length {A = ℕ} (replicate words 0) ≡ words = length-replicate {A = ℕ} words 0 in
      let n : length (put_rows_by at c (replicate words 0) 0 rows) ≡ words = length_put lays c (replicate words 0) 0 rows ∙ z in
      let n' : length (put_rows_by at' c (replicate words 0) 0 rows) ≡ words = length_put lays' c (replicate words 0) 0 rows ∙ z in
      record {
        long = n ∙ sym n';
        each = rw (n, n') (rows_same c (replicate words 0) (replicate words 0) 0 rows (omega arith) (omega (arith, z)) (omega (arith, z)) (λ q k. zero_rows c words q));
        beyond = λ i k. beyond_put lays c (replicate words 0) 0 rows i (omega arith) (rw n at k) ∙ sym (beyond_put lays' c (replicate words 0) 0 rows i (omega arith) (rw n at k));
      }

  -- a table turned
  pub turned_same : (T : List ℕ) → SameRows at at' T (turned at at' T)
  unfolding turned
  turned_same T =
      let c = room_of 4096 (length T) in
      let f = row_by at c T in
      let n : length (put_rows_by at' c T 0 (from f 0 c)) ≡ length T = length_put lays' c T 0 (from f 0 c) in
      record {
        long = sym n;
        each = λ r k. rw n (sym (put_from lays' c T f 0 c r (omega arith) (omega arith) (omega arith) (omega arith)));
        beyond = λ i k. sym (beyond_put lays' c T 0 (from f 0 c) i (omega (arith, from_length f 0 c)) k);
      }
