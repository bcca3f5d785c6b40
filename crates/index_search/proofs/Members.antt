-- The members of a Struct by their key rows, where they stand one behind the other and have distinct keys. Assumes nothing.
use mathlib.Core.Path.{◌≡◌, refl, sym, ap, ◌∙◌}
use mathlib.Core.Bool.{Bool, true, false, cond, ◌||◌}
use mathlib.Core.List.{List, [], ◌∷◌}
use Prim.Native.Nat.{ℕ, zero, suc, ◌+◌, ◌≤◌, ◌<◌}
use native.Mathlib.Omega.{arith}
use lib.Dec.{eqb}
use lib.ListN.{length, get_or}
use borrow.Author.Tests.{eq-eqb, ne_eqb, eqb-true}
use Rattle.std.specs.Prelude.{Some, None}
use Rattle.text.proofs.Comparing.{clash, both, same_is, same_self}
use Rattle.draft.specs.declared.Row.{Row}
use Rattle.draft.specs.Read.{text_of}
use Rattle.member.specs.declared.Member.{Member}
use Rattle.member.specs.Members.{member_of, has_key, keys_of, find, same_member, is_among}
use Rattle.member.proofs.Apart.{Apart, none_apart, and_apart}
use Rattle.sorting.proofs.Inserting.{times, times_at, Stands, stands}
use Rattle.index.specs.Filling.{key_rows}

-- a key row, and what is known of it
pub record KeyRow (rows : ℕ) (ms : List Member) (k : ℕ) : Type 0 where
  pub low : 1 ≤ k
  pub inside : k + 1 < rows
  pub among : is_among (member_of k (k + 1)) ms ≡ true

same_one : (k : ℕ) → same_member (member_of k (k + 1)) (member_of k (k + 1)) ≡ true
unfolding same_member
same_one k = rw (eq-eqb k k refl, eq-eqb (k + 1) (k + 1) refl)

or_true : (b : Bool) → (b || true) ≡ true
or_true true = refl
or_true false = refl

-- A KEY ROW is a member's
pub key_row : {rows r : ℕ} {ms : List Member} → Apart rows r ms → 1 ≤ r → (k : ℕ) → 0 < times k (key_rows ms) → KeyRow rows ms k
unfolding key_rows times is_among
key_row none_apart h k t = absurd (omega arith)
key_row {rows} {r} (and_apart x ms i j a) h k t = go (eqb x k) refl t (λ u. key_row {r = x + 2} a (omega arith) k u)
  where
    go : (b : Bool) → eqb x k ≡ b → 0 < cond b 1 0 + times k (key_rows ms) → (0 < times k (key_rows ms) → KeyRow rows ms k) → KeyRow rows (member_of x (x + 1) ∷ ms) k
    go true e t ih = let f : x ≡ k = eqb-true x k e in rw (← f) (record { low = omega arith; inside = j; among = rw (same_one x) })
    go false e t ih = let w = ih (omega arith) in record { low = w.low; inside = w.inside; among = rw w.among (or_true (same_member (member_of x (x + 1)) (member_of k (k + 1)))) }

same_both : (m n : Member) → same_member m n ≡ true → m ≡ n
unfolding same_member
same_both m n e =
    let p = both (eqb m.key n.key) _ e in
    let u : m.key ≡ n.key = eqb-true _ _ p.0 in
    let v : m.value ≡ n.value = eqb-true _ _ p.1 in
    ap (λ (x : ℕ). member_of x m.value) u ∙ ap (λ (y : ℕ). member_of n.key y) v

-- A MEMBER is of a key row, and its value stands behind it
pub record OfKeyRow (ms : List Member) (e : Member) : Type 0 where
  pub is : e ≡ member_of e.key (e.key + 1)
  pub there : 0 < times e.key (key_rows ms)

pub of_key_row : {rows r : ℕ} {ms : List Member} → Apart rows r ms → (e : Member) → is_among e ms ≡ true → OfKeyRow ms e
unfolding key_rows times is_among
of_key_row none_apart e h = clash h refl
of_key_row (and_apart x ms i j a) e h = go (same_member (member_of x (x + 1)) e) refl h (λ u. of_key_row a e u)
  where
    go : (b : Bool) → same_member (member_of x (x + 1)) e ≡ b → (b || is_among e ms) ≡ true → (is_among e ms ≡ true → OfKeyRow ms e) → OfKeyRow (member_of x (x + 1) ∷ ms) e
    go true f h ih =
        let g : member_of x (x + 1) ≡ e = same_both (member_of x (x + 1)) e f in
        rw (← g) (record { is = refl; there = rw (eq-eqb x x refl) (omega arith) })
    go false f h ih = let w = ih h in record { is = w.is; there = omega (arith, w.there) }

-- EACH ONCE
below_none : {rows r : ℕ} {ms : List Member} → Apart rows r ms → (k : ℕ) → k < r → times k (key_rows ms) ≡ 0
unfolding key_rows times
below_none none_apart k h = refl
below_none (and_apart x ms i j a) k h = let n : x ≡ k → ⊥ = λ e. omega arith in rw (ne_eqb x k n) (omega (arith, below_none a k (omega arith)))

pub apart_once : {rows r : ℕ} {ms : List Member} → Apart rows r ms → (k : ℕ) → times k (key_rows ms) ≤ 1
unfolding key_rows times
apart_once none_apart k = omega arith
apart_once (and_apart x ms i j a) k = go (eqb x k) refl (apart_once a k)
  where
    go : (b : Bool) → eqb x k ≡ b → times k (key_rows ms) ≤ 1 → cond b 1 0 + times k (key_rows ms) ≤ 1
    go true e ih = let f : x ≡ k = eqb-true x k e in omega (arith, below_none a k (omega arith))
    go false e ih = omega arith

at_two : (xs : List ℕ) (i j : ℕ) → i < j → j < length xs → get_or xs i 0 ≡ get_or xs j 0 → 2 ≤ times (get_or xs i 0) xs
unfolding times
at_two [] i j h l e = absurd (omega arith)
at_two (x ∷ xs) zero zero h l e = absurd (omega arith)
at_two (x ∷ xs) zero (suc j) h l e = let u : 0 < times x xs = rw e (times_at xs j (omega arith)) in rw (eq-eqb x x refl) (omega (arith, u))
at_two (x ∷ xs) (suc i) zero h l e = absurd (omega arith)
at_two (x ∷ xs) (suc i) (suc j) h l e = omega (arith, at_two xs i j (omega arith) (omega arith) e)

-- of rows that are there once, two places have two
pub once_apart : (xs : List ℕ) → ((k : ℕ) → times k xs ≤ 1) → (i j : ℕ) → i < j → j < length xs → get_or xs i 0 ≡ get_or xs j 0 → ⊥
once_apart xs f i j h l e = omega (arith, f (get_or xs i 0), at_two xs i j h l e)

-- ---- distinct keys, and what is found

module _ (row : ℕ → Row) (s : List ℕ) where
  abbrev pub Distinct : List Member → Type 0
  Distinct ms = (i j : ℕ) → i < j → j < length (keys_of row s ms) → get_or (keys_of row s ms) i [] ≡ get_or (keys_of row s ms) j [] → ⊥

  key_at_lem : (ms : List Member) (i : ℕ) → i < length (key_rows ms) → get_or (keys_of row s ms) i [] ≡ text_of s (row (get_or (key_rows ms) i 0))
  unfolding keys_of key_rows
  key_at_lem [] i h = absurd (omega arith)
  key_at_lem (m ∷ ms) zero h = refl
  key_at_lem (m ∷ ms) (suc i) h = key_at_lem ms i (omega arith)

  keys_length : (ms : List Member) → length (keys_of row s ms) ≡ length (key_rows ms)
  unfolding keys_of key_rows
  keys_length [] = refl
  keys_length (m ∷ ms) = ap suc (keys_length ms)

  module _ (ms : List Member) (distinct : Distinct ms) where
    -- ONE KEY, one row
    pub same_row : (j k : ℕ) → 0 < times j (key_rows ms) → 0 < times k (key_rows ms) → text_of s (row j) ≡ text_of s (row k) → j ≡ k
    same_row j k a b e = go (stands j (key_rows ms) a) (stands k (key_rows ms) b)
      where
        apart : (x : Stands j (key_rows ms)) (y : Stands k (key_rows ms)) → x.place < y.place → ⊥
        apart x y h =
            distinct x.place y.place h (omega (arith, y.inside, keys_length ms))
            (key_at_lem ms x.place x.inside ∙ ap (λ (n : ℕ). text_of s (row n)) x.is ∙ e ∙ sym (ap (λ (n : ℕ). text_of s (row n)) y.is) ∙ sym (key_at_lem ms y.place y.inside))

        apart' : (x : Stands j (key_rows ms)) (y : Stands k (key_rows ms)) → y.place < x.place → ⊥
        apart' x y h =
            distinct y.place x.place h (omega (arith, x.inside, keys_length ms))
            (key_at_lem ms y.place y.inside ∙ ap (λ (n : ℕ). text_of s (row n)) y.is ∙ sym e ∙ sym (ap (λ (n : ℕ). text_of s (row n)) x.is) ∙ sym (key_at_lem ms x.place x.inside))

        go : Stands j (key_rows ms) → Stands k (key_rows ms) → j ≡ k
        go x y =
            let h : x.place ≡ y.place = omega (arith, apart x y, apart' x y) in
            sym x.is ∙ ap (λ (i : ℕ). get_or (key_rows ms) i 0) h ∙ y.is

  -- the first with a key, or that none has it
  data Search (key : List ℕ) (ms : List Member) : Type 0 where
    at : (k : ℕ) → 0 < times k (key_rows ms) → text_of s (row k) ≡ key → find row s key ms ≡ Some (member_of k (k + 1)) → Search key ms
    none : find row s key ms ≡ None → Search key ms

  search_in : (key : List ℕ) {rows r : ℕ} {ms : List Member} → Apart rows r ms → Search key ms
  unfolding find key_rows times has_key
  search_in key none_apart = none refl
  search_in key {rows} {r} (and_apart x ms i j a) = go (has_key row s key x) refl (search_in key a)
    where
      go : (b : Bool) → has_key row s key x ≡ b → Search key ms → Search key (member_of x (x + 1) ∷ ms)
      go true e w = at x (rw (eq-eqb x x refl) (omega arith)) (same_is _ key e) (rw e)
      go false e (at k t f g) = at k (omega (arith, t)) f (rw e g)
      go false e (none g) = none (rw e g)

  found_is : (key : List ℕ) {rows r : ℕ} {ms : List Member} → Apart rows r ms → (k : ℕ) → 0 < times k (key_rows ms) → text_of s (row k) ≡ key → find row s key ms ≡ None → ⊥
  unfolding find key_rows times has_key
  found_is key none_apart k t e f = omega arith
  found_is key {rows} {r} (and_apart x ms i j a) k t e f = go (has_key row s key x) refl (eqb x k) refl t (λ u v w. found_is key a k u v w)
    where
      go : (b : Bool) → has_key row s key x ≡ b → (c : Bool) → eqb x k ≡ c → 0 < cond c 1 0 + times k (key_rows ms)
          → (0 < times k (key_rows ms) → text_of s (row k) ≡ key → find row s key ms ≡ None → ⊥) → ⊥
      go true g c h t ih = let u : Some (member_of x (x + 1)) ≡ None = rw g at f in let z : ◌≡◌ {A = ℕ} 0 1 = cc in omega arith
      go false g true h t ih =
          let u : x ≡ k = eqb-true x k h in
          let v : has_key row s key x ≡ true = rw (u, e) (same_self key) in
          clash v g
      go false g false h t ih = ih (omega arith) e (rw g at f)

  module _ {rows r : ℕ} {ms : List Member} (a : Apart rows r ms) (key : List ℕ) where
    -- THE ONE with a key is found, and none if none has it
    pub found_at : Distinct ms → (k : ℕ) → 0 < times k (key_rows ms) → text_of s (row k) ≡ key → find row s key ms ≡ Some (member_of k (k + 1))
    found_at d k t e = go (search_in key a)
      where
        go : Search key ms → find row s key ms ≡ Some (member_of k (k + 1))
        go (at j u f g) = g ∙ ap (λ (n : ℕ). Some (member_of n (n + 1))) (same_row ms d j k u t (f ∙ sym e))
        go (none f) = absurd (found_is key a k t e f)

    pub found_none : ((k : ℕ) → 0 < times k (key_rows ms) → text_of s (row k) ≡ key → ⊥) → find row s key ms ≡ None
    found_none n = go (search_in key a)
      where
        go : Search key ms → find row s key ms ≡ None
        go (at j u f g) = absurd (n j u f)
        go (none f) = f
