-- What answers the entries' returns, and that a list stored one by one is the whole list. Assumes nothing.
use mathlib.Core.Path.{◌≡◌, refl, sym, ap, ◌∙◌}
use mathlib.Core.Bool.{Bool, true, false, cond, ◌||◌}
use mathlib.Core.List.{List, [], ◌∷◌, ◌++◌}
use Prim.Native.Nat.{ℕ, zero, suc, ◌+◌, ◌-◌, ◌≤◌, ◌<◌}
use native.Mathlib.Omega.{arith}
use native.Mathlib.Numerals.{add-one}
use lib.ListN.{length, get_or, set, replicate, length-set}
use lib.Dec.{ltb, eqb}
use borrow.Author.Tests.{ne_eqb, lt-ltb, le-ltb, ltb-true, ltb-false}
use Rattle.text.proofs.Comparing.{clash}
use Rattle.draft.specs.Table.{room_of, row_at, from}
use Rattle.draft.specs.Writable.{writable}
use Rattle.member.specs.declared.Member.{Member}
use Rattle.member.specs.Members.{member_of, is_struct, members}
use Rattle.seeking.specs.Seeking.{unused}
use Rattle.sorting.specs.Sorting.{key_text, sorted}
use Rattle.sorting.proofs.Inserting.{sorted_length}
use Rattle.index.proofs.Arranging.{rows_length}
use Rattle.index.specs.Filling.{key_rows, padded, refusal_in, order_in, order_of, Listed, narrowed, Ordered, entry_of, entries}

-- ---- one entry

pub get_d_past : (xs : List ℕ) (i : ℕ) → length xs ≤ i → get_or xs i 0 ≡ 0
get_d_past [] i h = refl
get_d_past (x ∷ xs) zero h = absurd (omega arith)
get_d_past (x ∷ xs) (suc i) h = get_d_past xs i (omega arith)

pub entry_past : (xs : List ℕ) (i : ℕ) → length xs ≡ 2112 → 2112 ≤ i → unused ≡ entry_of (get_or xs i 0)
unfolding entry_of
entry_past xs i l h = rw (get_d_past xs i (omega (arith, l)))

pub entry_none : (k : ℕ) → k ≡ 0 → unused ≡ entry_of k
unfolding entry_of
entry_none k e = rw e

pub entry_far : (k : ℕ) → (k ≡ 0 → ⊥) → 4096 < k → unused ≡ entry_of k
unfolding entry_of
entry_far k e h = rw (ne_eqb k 0 e, lt-ltb 4096 k h)

pub entry_here : (k : ℕ) → (k ≡ 0 → ⊥) → k ≤ 4096 → member_of k (k + 1) ≡ entry_of k
unfolding entry_of
entry_here k e h = rw (ne_eqb k 0 e, le-ltb 4096 k h)

pub ruleset entering = (entry_past, entry_none, entry_far, entry_here)

-- ---- the whole list: what f gives for each number, stored one by one

module _ {A : Type 0} where
  -- n more stored, from number i on: the loop's own form
  unfoldable pub stored : (ℕ → A) → ℕ → ℕ → List A → List A
  stored f i zero xs = xs
  stored f i (suc n) xs = stored f (suc i) n (set xs i (f i))

  -- the first stays where storing begins behind it
  shifted : (f : ℕ → A) (i n : ℕ) (x : A) (xs : List A) → stored f (suc i) n (x ∷ xs) ≡ x ∷ stored (λ j. f (suc j)) i n xs
  unfolding stored
  shifted f i zero x xs = refl
  shifted f i (suc n) x xs = shifted f (suc i) n x (set xs i (f (suc i)))

  later : (f : ℕ → A) (r n : ℕ) → from f (suc r) n ≡ from (λ j. f (suc j)) r n
  unfolding from
  later f r zero = refl
  later f r (suc n) = ap (λ (l : List A). f (suc r) ∷ l) (later f (suc r) n)

  pub stored_all : (f : ℕ → A) (xs : List A) → stored f 0 (length xs) xs ≡ from f 0 (length xs)
  unfolding stored from
  stored_all f [] = refl
  stored_all f (x ∷ xs) = shifted f 0 (length xs) (f 0) xs ∙ ap (λ (l : List A). f 0 ∷ l) (stored_all (λ j. f (suc j)) xs ∙ sym (later f 0 (length xs)))

  -- where the loop over a list xs stands: i are stored
  pub record Stored (f : ℕ → A) (xs : List A) : Type 0 where
    pub i : ℕ
    pub list : List A
    pub within : i ≤ length xs
    pub same : length list ≡ length xs
    pub comes : stored f i (length xs - i) list ≡ from f 0 (length xs)

  pub stored_first : (f : ℕ → A) (xs : List A) → stored f 0 (length xs - 0) xs ≡ from f 0 (length xs)
  stored_first f xs = let z : length xs - 0 ≡ length xs = omega arith in rw z (stored_all f xs)

  -- one more is stored
  pub stored_next :
      (f : ℕ → A) (xs : List A) (u : Stored f xs) (x : A) → u.i < length xs → x ≡ f u.i
      → stored f (u.i + 1) (length xs - (u.i + 1)) (set u.list u.i x) ≡ from f 0 (length xs)
  unfolding stored
  stored_next f xs u x h e =
      let k : length xs - u.i ≡ suc (length xs - suc u.i) = omega arith in
      rw (e, add-one) (rw k at u.comes)

  pub stored_done : (f : ℕ → A) (xs : List A) (u : Stored f xs) → length xs ≤ u.i → u.list ≡ from f 0 (length xs)
  unfolding stored
  stored_done f xs u h = let e : length xs - u.i ≡ 0 = omega (arith, u.within) in rw e at u.comes

-- ---- the zeros behind the key rows make unused entries, as none would

zeros : (m i : ℕ) → get_or {A = ℕ} (replicate m 0) i 0 ≡ 0
zeros zero i = refl
zeros (suc m) zero = refl
zeros (suc m) (suc i) = zeros m i

before_zeros : (m : ℕ) (ks : List ℕ) (i : ℕ) → get_or (ks ++ replicate m 0) i 0 ≡ get_or ks i 0
before_zeros m [] i = zeros m i
before_zeros m (k ∷ ks) zero = refl
before_zeros m (k ∷ ks) (suc i) = before_zeros m ks i

same_from : {A : Type 0} (f g : ℕ → A) → ((i : ℕ) → f i ≡ g i) → (r n : ℕ) → from f r n ≡ from g r n
unfolding from
same_from f g e r zero = refl
same_from {A} f g e r (suc n) = rw (e r, same_from f g e (suc r) n)

-- the entries of what is kept are the index
pub ordered_entries :
    {T s kept : List ℕ} {rows r n answer : ℕ} → Ordered T rows s r n answer kept → from (λ i. entry_of (get_or kept i 0)) 0 n ≡ entries (order_of T rows s r n) n
unfolding entries
ordered_entries {T} {s} {kept} {rows} {r} {n} o = same_from (λ i. entry_of (get_or kept i 0)) (λ i. entry_of (get_or (order_of T rows s r n) i 0)) o.entry 0 n

-- ---- key rows in two bytes

pub narrow_far : (k : ℕ) → 4096 < k → 0 ≡ narrowed k
unfolding narrowed
narrow_far k h = rw (lt-ltb 4096 k h)

pub narrow_near : (k : ℕ) → k ≤ 4096 → k ≡ narrowed k
unfolding narrowed
narrow_near k h = rw (le-ltb 4096 k h)

pub ruleset narrowing = (narrow_far, narrow_near)

-- n numbers, of which i are stored
pub record Narrowing (f : ℕ → ℕ) (xs : List ℕ) (i : ℕ) (list : List ℕ) : Type 0 where
  pub within : i ≤ length xs
  pub same : length list ≡ length xs
  pub comes : stored f i (length xs - i) list ≡ from f 0 (length xs)

pub all_first : (f : ℕ → ℕ) (xs : List ℕ) → Narrowing f xs 0 xs
all_first f xs = record { within = omega arith; same = refl; comes = stored_first f xs }

module _ {f : ℕ → ℕ} {xs : List ℕ} {i : ℕ} {list : List ℕ} (g : Narrowing f xs i list) where
  pub all_in : (w : List ℕ) → length xs ≤ length w → i < length list → i < length w
  all_in w l h = omega (arith, g.same)

  pub all_again : {x : ℕ} → i < length list → x ≡ f i → Narrowing f xs (i + 1) (set list i x)
  all_again {x} h e =
      let l : i < length xs = omega (arith, g.same) in
      record { within = omega arith; same = length-set list i x ∙ g.same; comes = stored_next f xs (record { i = i; list = list; within = g.within; same = g.same; comes = g.comes }) x l e }

  pub all_less : i < length list → length xs - (i + 1) < length xs - i
  all_less h = omega (arith, g.same)

  pub all_kept : length list ≡ length xs
  all_kept = g.same

  pub all_done : length list ≤ i → list ≡ from f 0 (length xs)
  all_done h = stored_done f xs (record { i = i; list = list; within = g.within; same = g.same; comes = g.comes }) (omega (arith, g.same))

pub ruleset all_narrowed = (all_first, all_in, all_again, all_less, all_kept, all_done)

entry_narrowed : (k : ℕ) → entry_of (narrowed k) ≡ entry_of k
unfolding entry_of narrowed
entry_narrowed k = go (ltb 4096 k) refl
  where
    go : (b : Bool) → ltb 4096 k ≡ b → entry_of (cond b 0 k) ≡ entry_of k
    go true h = far (eqb k 0)
      where
        far : (c : Bool) → unused ≡ cond (c || ltb 4096 k) unused (member_of k (k + 1))
        far true = refl
        far false = rw h
    go false h = refl

from_at : (f : ℕ → ℕ) (r m i : ℕ) → i < m → get_or (from f r m) i 0 ≡ f (r + i)
unfolding from
from_at f r zero i h = absurd (omega arith)
from_at f r (suc m) zero h = let e : r ≡ r + 0 = omega arith in ap f e
from_at f r (suc m) (suc i) h = let e : suc r + i ≡ r + suc i = omega arith in from_at f (suc r) m i (omega arith) ∙ ap f e

from_length : (f : ℕ → ℕ) (r m : ℕ) → length (from f r m) ≡ m
unfolding from
from_length f r zero = refl
from_length f r (suc m) = ap suc (from_length f (suc r) m)

-- no index has more entries
order_most : (T : List ℕ) (rows : ℕ) (s : List ℕ) (r n : ℕ) → length (order_of T rows s r n) ≤ 2047
unfolding order_of order_in refusal_in
order_most T rows s r n = table (writable T rows s)
  where
    room : ℕ
    room = room_of 4096 (length T)

    ms : List Member
    ms = members (row_at room T) rows r

    few : eqb (refusal_in room (row_at room T) rows s r n) 0 ≡ true → length ms ≤ 2047
    few h = go (is_struct (row_at room T) rows r) (ltb n (length ms)) (ltb 2047 (length ms)) refl h
      where
        go : (a b c : Bool) → ltb 2047 (length ms) ≡ c → eqb (cond a (cond (b || c) 21 0) 18) 0 ≡ true → length ms ≤ 2047
        go true false false q h = ltb-false 2047 (length ms) q
        go true true c q h = clash h refl
        go true false true q h = clash h refl
        go false b c q h = clash h refl

    its : (c : Bool) → eqb (refusal_in room (row_at room T) rows s r n) 0 ≡ c → length (cond c (sorted (key_text room (row_at room T) s) (key_rows ms)) []) ≤ 2047
    its true h = rw (sorted_length (key_text room (row_at room T) s) (key_rows ms), rows_length ms) (few h)
    its false h = omega arith

    table : (c : Bool) → length (cond c (order_in room (row_at room T) rows s r n) []) ≤ 2047
    table true = its (eqb (refusal_in room (row_at room T) rows s r n) 0) refl
    table false = omega arith

-- what sorting left, in two bytes each
pub ordered_so :
    {T s order : List ℕ} {rows r n answer : ℕ} {kept : List ℕ} → Listed T rows s r n answer order → kept ≡ from (λ i. narrowed (get_or order i 0)) 0 2112 → Ordered T rows s r n answer kept
unfolding padded
ordered_so {T} {s} {order} {rows} {r} {n} {kept = kept} l e = record { answers = l.answers; entry = λ i. there i (ltb i 2112) refl }
  where
    f : ℕ → ℕ
    f i = narrowed (get_or order i 0)

    padded_at : (i : ℕ) → get_or order i 0 ≡ get_or (order_of T rows s r n) i 0
    padded_at i = rw l.holds (before_zeros (3071 - length (order_of T rows s r n)) (order_of T rows s r n) i)

    nought : (i : ℕ) → 0 + i ≡ i
    nought i = omega arith

    there : (i : ℕ) (b : Bool) → ltb i 2112 ≡ b → entry_of (get_or kept i 0) ≡ entry_of (get_or (order_of T rows s r n) i 0)
    there i true h = ap entry_of (ap (λ (k : List ℕ). get_or k i 0) e ∙ from_at f 0 2112 i (ltb-true i 2112 h) ∙ ap f (nought i)) ∙ entry_narrowed (get_or order i 0) ∙ ap entry_of (padded_at i)
    there i false h =
        let p : 2112 ≤ i = ltb-false i 2112 h in
        let a : get_or kept i 0 ≡ 0 = get_d_past kept i (rw (e, from_length f 0 2112) p) in
        let b : get_or (order_of T rows s r n) i 0 ≡ 0 = get_d_past (order_of T rows s r n) i (omega (arith, p, order_most T rows s r n)) in
        ap entry_of (a ∙ sym b)
