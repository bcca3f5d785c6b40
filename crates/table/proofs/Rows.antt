-- Rows in the table: the two laws of `place`, and that rows stored apart can be stored in either order. Assumes nothing.
use mathlib.Core.Path.{◌≡◌, refl, sym, ap, ◌∙◌}
use mathlib.Core.List.{List, [], ◌∷◌, ◌++◌}
use Prim.Native.Nat.{ℕ, suc, ◌+◌, ◌*◌, ◌≤◌, ◌<◌}
use native.Mathlib.Omega.{arith}
use mathlib.Core.Bool.{Bool, true, false}
use native.Mathlib.Nat.{add-zero, mul-le-mul_left, mul-suc}
use borrow.Author.Tests.{ltb-true, ltb-false}
use lib.Dec.{lit<, ltb}
use lib.Seq.{set_comm}
use lib.ListN.{length, get_or, set, length-set}
use Rattle.draft.specs.declared.Row.{Row}
use Rattle.draft.specs.Rows.{row}
use Rattle.draft.specs.Table.{place, set_row, put_rows, row_at}

-- where a column begins
pub column : (c j : ℕ) → j < 4 → c * j ≤ c * 3
column c j h = mul-le-mul_left c (omega arith)

-- THE TWO LAWS OF `place`: a word of a row is in the table, and no two words share a place
pub place_in : (c r j : ℕ) → r < c → j < 4 → place c r j < c * 4
unfolding place
place_in c r j h k = omega (arith, column c j k)

pub place_one : (c i j k k' : ℕ) → i < c → j < c → k < 4 → k' < 4 → place c i k ≡ place c j k' → (i ≡ j) × (k ≡ k')
unfolding place
place_one c i j k k' hi hj h h' e = go (ltb k k') refl (ltb k' k) refl
  where
    go : (a : Bool) → ltb k k' ≡ a → (b : Bool) → ltb k' k ≡ b → (i ≡ j) × (k ≡ k')
    go true a b p = absurd (omega (arith, mul-le-mul_left c (ltb-true k k' a), mul-suc c k))
    go false a true p = absurd (omega (arith, mul-le-mul_left c (ltb-true k' k p), mul-suc c k'))
    go false a false p =
        let m : k ≡ k' = omega (arith, ltb-false k k' a, ltb-false k' k p) in
        (omega (arith, ap (λ (x : ℕ). c * x) m), m)

-- what follows speaks of `place` by these laws alone
place_apart : (c i j k k' : ℕ) → i < c → j < c → k < 4 → k' < 4 → (i ≡ j → ⊥) → place c i k ≡ place c j k' → ⊥
place_apart c i j k k' hi hj h h' n e = n (place_one c i j k k' hi hj h h' e).0

-- a word that is no word of row j can be stored before that row or after it
word_past : (c : ℕ) (T : List ℕ) (m a j : ℕ) (y : Row) → ((k : ℕ) → k < 4 → m ≡ place c j k → ⊥) → set (set_row c T j y) m a ≡ set_row c (set T m a) j y
unfolding set_row
word_past c T m a j y h =
    set_comm (set (set (set T (place c j 0) y.kind) (place c j 1) y.a) (place c j 2) y.b) (place c j 3) m y.end a (λ e. h 3 (lit< tt) (sym e))
    ∙ ap (λ (l : List ℕ). set l (place c j 3) y.end) (set_comm (set (set T (place c j 0) y.kind) (place c j 1) y.a) (place c j 2) m y.b a (λ e. h 2 (lit< tt) (sym e))
    ∙ ap (λ (l : List ℕ). set l (place c j 2) y.b) (set_comm (set T (place c j 0) y.kind) (place c j 1) m y.a a (λ e. h 1 (lit< tt) (sym e))
    ∙ ap (λ (l : List ℕ). set l (place c j 1) y.a) (set_comm T (place c j 0) m y.kind a (λ e. h 0 (lit< tt) (sym e)))))

row_past : (c : ℕ) (T : List ℕ) (i j : ℕ) (x y : Row) → i < c → j < c → (i ≡ j → ⊥) → set_row c (set_row c T j y) i x ≡ set_row c (set_row c T i x) j y
unfolding set_row
row_past c T i j x y hi hj n =
    let T₁ : List ℕ = set T (place c i 0) x.kind in
    let T₂ : List ℕ = set T₁ (place c i 1) x.a in
    let T₃ : List ℕ = set T₂ (place c i 2) x.b in
    ap (λ (l : List ℕ). set (set (set l (place c i 1) x.a) (place c i 2) x.b) (place c i 3) x.end) (word_past c T (place c i 0) x.kind j y (λ k h. place_apart c i j 0 k hi hj (lit< tt) h n))
    ∙ ap (λ (l : List ℕ). set (set l (place c i 2) x.b) (place c i 3) x.end) (word_past c T₁ (place c i 1) x.a j y (λ k h. place_apart c i j 1 k hi hj (lit< tt) h n))
    ∙ ap (λ (l : List ℕ). set l (place c i 3) x.end) (word_past c T₂ (place c i 2) x.b j y (λ k h. place_apart c i j 2 k hi hj (lit< tt) h n))
    ∙ word_past c T₃ (place c i 3) x.end j y (λ k h. place_apart c i j 3 k hi hj (lit< tt) h n)

rows_past : (c : ℕ) (T : List ℕ) (i j : ℕ) (x : Row) (ys : List Row) → i < j → j + length ys ≤ c → i < c → set_row c (put_rows c T j ys) i x ≡ put_rows c (set_row c T i x) j ys
unfolding put_rows
rows_past c T i j x [] h l k = refl
rows_past c T i j x (y ∷ ys) h l k =
    row_past c (put_rows c T (suc j) ys) i j x y k (omega arith) (λ e. omega arith)
    ∙ ap (λ (l : List ℕ). set_row c l j y) (rows_past c T i (suc j) x ys (omega arith) (omega arith) k)

pub put_append : (c : ℕ) (T : List ℕ) (r : ℕ) (xs ys : List Row) → r + length xs + length ys ≤ c → put_rows c (put_rows c T r xs) (r + length xs) ys ≡ put_rows c T r (xs ++ ys)
unfolding put_rows
put_append c T r [] ys h = simp add-zero
put_append c T r (x ∷ xs) ys h =
    let e : r + suc (length xs) ≡ suc r + length xs = omega arith in
    rw e
    (sym (rows_past c (put_rows c T (suc r) xs) r (suc r + length xs) x ys (omega arith) (omega arith) (omega arith))
    ∙ ap (λ (l : List ℕ). set_row c l r x) (put_append c T (suc r) xs ys (omega arith)))

length_set_row : (c : ℕ) (T : List ℕ) (r : ℕ) (x : Row) → length (set_row c T r x) ≡ length T
unfolding set_row
length_set_row c T r x = simp length-set

-- a row's words, stored at their places as the code found them
pub stored : (c r k a b e : ℕ) (T : List ℕ) (x : Row) → k ≡ place c r 0 → a ≡ place c r 1 → b ≡ place c r 2 → e ≡ place c r 3 → set (set (set (set T k x.kind) a x.a) b x.b) e x.end ≡ set_row c T r x
unfolding set_row
stored c r k a b e T x hk ha hb he = rw (hk, ha, hb, he)

pub length_put_rows : (c : ℕ) (T : List ℕ) (r : ℕ) (xs : List Row) → length (put_rows c T r xs) ≡ length T
unfolding put_rows
length_put_rows c T r [] = refl
length_put_rows c T r (x ∷ xs) = length_set_row c (put_rows c T (suc r) xs) r x ∙ length_put_rows c T (suc r) xs

-- a row's words, fetched from their places as the code found them
pub fetched : (c r k a b e : ℕ) (T : List ℕ) → k ≡ place c r 0 → a ≡ place c r 1 → b ≡ place c r 2 → e ≡ place c r 3 → row (get_or T k 0) (get_or T a 0) (get_or T b 0) (get_or T e 0) ≡ row_at c T r
unfolding row_at
fetched c r k a b e T hk ha hb he = rw (hk, ha, hb, he)
