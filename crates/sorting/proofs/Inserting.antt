-- Insertion at its place keeps the order of the texts, and the rows. Assumes nothing.
use mathlib.Core.Path.{◌≡◌, refl, ap, ◌∙◌}
use mathlib.Core.Bool.{Bool, true, false, cond}
use mathlib.Core.List.{List, [], ◌∷◌}
use Prim.Native.Nat.{ℕ, zero, suc, ◌+◌, ◌≤◌, ◌<◌}
use native.Mathlib.Omega.{arith}
use lib.ListN.{length, get_or}
use lib.Dec.{eqb}
use borrow.Author.Tests.{eq-eqb, eqb-true}
use Rattle.std.proofs.Common.{Ordering}
use Rattle.std.specs.declared.cmp.Ordering.TheVariants as relation
use Rattle.std.specs.Ordering.{is_lt}
use Rattle.order.specs.ByteOrder.{compared}
use Rattle.order.proofs.Ordering.{Earlier, compared_self, less_not, less_le, before_equal}
use Rattle.sorting.specs.Sorting.{insert_at, before, spot, inserted, sorted, Rising}

-- ---- what is where after an insertion

pub length_insert : (p k : ℕ) (xs : List ℕ) → length (insert_at p k xs) ≡ suc (length xs)
unfolding insert_at
length_insert zero k xs = refl
length_insert (suc p) k [] = refl
length_insert (suc p) k (x ∷ xs) = ap suc (length_insert p k xs)

insert_before : (p k i : ℕ) (xs : List ℕ) → i < p → p ≤ length xs → get_or (insert_at p k xs) i 0 ≡ get_or xs i 0
unfolding insert_at
insert_before zero k i xs h l = absurd (omega arith)
insert_before (suc p) k i [] h l = absurd (omega arith)
insert_before (suc p) k zero (x ∷ xs) h l = refl
insert_before (suc p) k (suc i) (x ∷ xs) h l = insert_before p k i xs (omega arith) (omega arith)

insert_here : (p k : ℕ) (xs : List ℕ) → p ≤ length xs → get_or (insert_at p k xs) p 0 ≡ k
unfolding insert_at
insert_here zero k xs l = refl
insert_here (suc p) k [] l = absurd (omega arith)
insert_here (suc p) k (x ∷ xs) l = insert_here p k xs (omega arith)

insert_after : (p k i : ℕ) (xs : List ℕ) → p ≤ i → p ≤ length xs → get_or (insert_at p k xs) (suc i) 0 ≡ get_or xs i 0
unfolding insert_at
insert_after zero k i xs h l = refl
insert_after (suc p) k i [] h l = absurd (omega arith)
insert_after (suc p) k zero (x ∷ xs) h l = absurd (omega arith)
insert_after (suc p) k (suc i) (x ∷ xs) h l = insert_after p k i xs (omega arith) (omega arith)

-- where i stands by p
data Where (p i : ℕ) : Type 0 where
  low : i < p → Where p i
  here : i ≡ p → Where p i
  high : (m : ℕ) → p ≤ m → i ≡ suc m → Where p i

where_is : (p i : ℕ) → Where p i
where_is zero zero = here refl
where_is zero (suc i) = high i (omega arith) refl
where_is (suc p) zero = low (omega arith)
where_is (suc p) (suc i) = go (where_is p i)
  where
    go : Where p i → Where (suc p) (suc i)
    go (low h) = low (omega arith)
    go (here e) = here (ap suc e)
    go (high m h e) = high (suc m) (omega arith) (ap suc e)

module _ (text : ℕ → List ℕ) where
  -- ---- before, as a test and as a fact

  pub before_less : (k j : ℕ) → before text k j ≡ true → Earlier (text k) (text j)
  unfolding before
  before_less k j e = go (compared (text k) (text j)) refl e
    where
      go : (r : Ordering) → compared (text k) (text j) ≡ r → is_lt r ≡ true → compared (text k) (text j) ≡ relation.Less
      go relation.Less f g = f
      go relation.Equal f g = absurd (let z : ◌≡◌ {A = ℕ} 0 1 = cc in omega arith)
      go relation.Greater f g = absurd (let z : ◌≡◌ {A = ℕ} 0 1 = cc in omega arith)

  pub less_before : (k j : ℕ) → Earlier (text k) (text j) → before text k j ≡ true
  unfolding before
  less_before k j e = rw e

  pub before_not : (k j : ℕ) → before text k j ≡ false → Earlier (text k) (text j) → ⊥
  before_not k j e f = let g = less_before k j f in let z : ◌≡◌ {A = ℕ} 0 1 = cc in omega arith

  pub not_before : (k j : ℕ) → (Earlier (text k) (text j) → ⊥) → before text k j ≡ false
  not_before k j f = go (before text k j) refl
    where
      go : (b : Bool) → before text k j ≡ b → b ≡ false
      go true e = absurd (f (before_less k j e))
      go false e = refl

  -- ---- the place

  pub spot_most : (k : ℕ) (xs : List ℕ) → spot text k xs ≤ length xs
  unfolding spot
  spot_most k [] = omega arith
  spot_most k (x ∷ xs) = go (spot_most k xs) (before text k x)
    where
      go : spot text k xs ≤ length xs → (b : Bool) → cond b 0 (suc (spot text k xs)) ≤ suc (length xs)
      go ih true = omega arith
      go ih false = omega arith

  -- k is before none of the rows that stand before its place, and before the one that stands there
  spot_below : (k : ℕ) (xs : List ℕ) (i : ℕ) → i < spot text k xs → before text k (get_or xs i 0) ≡ false
  unfolding spot
  spot_below k [] i h = absurd (omega arith)
  spot_below k (x ∷ xs) i h = go (spot_below k xs) (before text k x) refl i h
    where
      go : ((j : ℕ) → j < spot text k xs → before text k (get_or xs j 0) ≡ false) → (b : Bool) → before text k x ≡ b → (i : ℕ) → i < cond b 0 (suc (spot text k xs)) → before text k (get_or (x ∷ xs) i 0) ≡ false
      go ih true e i h = absurd (omega arith)
      go ih false e zero h = e
      go ih false e (suc i) h = ih i (omega arith)

  spot_there : (k : ℕ) (xs : List ℕ) → spot text k xs < length xs → before text k (get_or xs (spot text k xs) 0) ≡ true
  unfolding spot
  spot_there k [] h = absurd (omega arith)
  spot_there k (x ∷ xs) h = go (spot_there k xs) (before text k x) refl h
    where
      go : (spot text k xs < length xs → before text k (get_or xs (spot text k xs) 0) ≡ true) → (b : Bool) → before text k x ≡ b → cond b 0 (suc (spot text k xs)) < suc (length xs)
          → before text k (get_or (x ∷ xs) (cond b 0 (suc (spot text k xs))) 0) ≡ true
      go ih true e h = e
      go ih false e h = ih (omega arith)

  -- the place is the only one that stands so
  pub spot_is :
      (k : ℕ) (xs : List ℕ) (p : ℕ) → p ≤ length xs → ((i : ℕ) → i < p → before text k (get_or xs i 0) ≡ false) → (p < length xs → before text k (get_or xs p 0) ≡ true) → p ≡ spot text k xs
  unfolding spot
  spot_is k [] p h f g = omega arith
  spot_is k (x ∷ xs) zero h f g = simp (g (omega arith))
  spot_is k (x ∷ xs) (suc p) h f g =
      let e : before text k x ≡ false = f 0 (omega arith) in
      simp e (ap suc (spot_is k xs p (omega arith) (λ i l. f (suc i) (omega arith)) (λ l. g (omega arith))))

  -- ---- the order is kept

  pub rising_none : Rising text []
  rising_none = record { up = λ i j h l. absurd (omega arith) }

  module _ (k : ℕ) (xs : List ℕ) (rises : Rising text xs) where
    abbrev p : ℕ
    p = spot text k xs

    abbrev at : ℕ → ℕ
    at i = get_or (insert_at p k xs) i 0

    most : p ≤ length xs
    most = spot_most k xs

    ahead : (j : ℕ) → p ≤ j → j < length xs → before text (get_or xs j 0) k ≡ false
    ahead j h l =
        not_before (get_or xs j 0) k
        (less_not (text k) (text (get_or xs j 0))
        (less_le (text k) (text (get_or xs p 0)) (text (get_or xs j 0)) (before_less k (get_or xs p 0) (spot_there k xs (omega arith))) (before_not (get_or xs j 0) (get_or xs p 0) (rises.up p j h l))))

    same_up : {x y u v : ℕ} → u ≡ x → v ≡ y → before text y x ≡ false → before text v u ≡ false
    same_up e f g = rw (e, f) g

    self : before text k k ≡ false
    self = not_before k k (λ e. before_equal e (compared_self (text k)))

    ups : (i j : ℕ) → i ≤ j → j < suc (length xs) → Where p i → Where p j → before text (at j) (at i) ≡ false
    ups i j h l (low a) (low b) = same_up (insert_before p k i xs a most) (insert_before p k j xs b most) (rises.up i j h (omega (arith, most)))
    ups i j h l (low a) (here b) = same_up (insert_before p k i xs a most) (ap at b ∙ insert_here p k xs most) (spot_below k xs i a)
    ups i j h l (low a) (high m b c) = same_up (insert_before p k i xs a most) (ap at c ∙ insert_after p k m xs b most) (rises.up i m (omega arith) (omega arith))
    ups i j h l (here a) (low b) = absurd (omega arith)
    ups i j h l (here a) (here b) = same_up (ap at a ∙ insert_here p k xs most) (ap at b ∙ insert_here p k xs most) self
    ups i j h l (here a) (high m b c) = same_up (ap at a ∙ insert_here p k xs most) (ap at c ∙ insert_after p k m xs b most) (ahead m b (omega arith))
    ups i j h l (high m a c) (low b) = absurd (omega arith)
    ups i j h l (high m a c) (here b) = absurd (omega arith)
    ups i j h l (high m a c) (high n b d) = same_up (ap at c ∙ insert_after p k m xs a most) (ap at d ∙ insert_after p k n xs b most) (rises.up m n (omega arith) (omega arith))

    pub rising_inserted : Rising text (inserted text k xs)
    unfolding inserted
    rising_inserted = record { up = λ i j h l. ups i j h (rw (length_insert p k xs) at l) (where_is p i) (where_is p j) }

  pub length_inserted : (k : ℕ) (xs : List ℕ) → length (inserted text k xs) ≡ suc (length xs)
  unfolding inserted
  length_inserted k xs = length_insert (spot text k xs) k xs

  pub sorted_rising : (xs : List ℕ) → Rising text (sorted text xs)
  unfolding sorted
  sorted_rising [] = rising_none
  sorted_rising (x ∷ xs) = rising_inserted x (sorted text xs) (sorted_rising xs)

  pub sorted_length : (xs : List ℕ) → length (sorted text xs) ≡ length xs
  unfolding sorted
  sorted_length [] = refl
  sorted_length (x ∷ xs) = length_inserted x (sorted text xs) ∙ ap suc (sorted_length xs)

  -- step by step
  pub inserted_front : (k x : ℕ) (xs : List ℕ) → before text k x ≡ true → inserted text k (x ∷ xs) ≡ k ∷ (x ∷ xs)
  unfolding inserted spot insert_at
  inserted_front k x xs e = rw e

  pub inserted_behind : (k x : ℕ) (xs : List ℕ) → before text k x ≡ false → inserted text k (x ∷ xs) ≡ x ∷ inserted text k xs
  unfolding inserted spot insert_at
  inserted_behind k x xs e = rw e

  pub inserted_last : (k : ℕ) → inserted text k [] ≡ k ∷ []
  unfolding inserted spot insert_at
  inserted_last k = refl

-- ---- the rows are kept: each as often as it was there

unfoldable pub times : ℕ → List ℕ → ℕ
times y [] = 0
times y (x ∷ xs) = cond (eqb x y) 1 0 + times y xs

times_insert : (y p k : ℕ) (xs : List ℕ) → times y (insert_at p k xs) ≡ cond (eqb k y) 1 0 + times y xs
unfolding insert_at times
times_insert y zero k xs = refl
times_insert y (suc p) k [] = refl
times_insert y (suc p) k (x ∷ xs) = omega (arith, times_insert y p k xs)

pub times_sorted : (text : ℕ → List ℕ) (y : ℕ) (ks : List ℕ) → times y (sorted text ks) ≡ times y ks
unfolding sorted inserted times
times_sorted text y [] = refl
times_sorted text y (k ∷ ks) = omega (arith, times_sorted text y ks, times_insert y (spot text k (sorted text ks)) k (sorted text ks))

-- a row that is there stands somewhere, and what stands somewhere is there
pub record Stands (y : ℕ) (xs : List ℕ) : Type 0 where
  pub place : ℕ
  pub inside : place < length xs
  pub is : get_or xs place 0 ≡ y

pub stands : (y : ℕ) (xs : List ℕ) → 0 < times y xs → Stands y xs
unfolding times
stands y [] h = absurd (omega arith)
stands y (x ∷ xs) h = go (stands y xs) (eqb x y) refl h
  where
    go : (0 < times y xs → Stands y xs) → (b : Bool) → eqb x y ≡ b → 0 < cond b 1 0 + times y xs → Stands y (x ∷ xs)
    go ih true e h = record { place = 0; inside = omega arith; is = eqb-true x y e }
    go ih false e h = let w : Stands y xs = ih (omega arith) in record { place = suc w.place; inside = omega (arith, w.inside); is = w.is }

pub times_at : (xs : List ℕ) (i : ℕ) → i < length xs → 0 < times (get_or xs i 0) xs
unfolding times
times_at [] i h = absurd (omega arith)
times_at (x ∷ xs) zero h = let e : eqb x x ≡ true = eq-eqb x x refl in simp e (omega arith)
times_at (x ∷ xs) (suc i) h = omega (arith, times_at xs i (omega arith))
