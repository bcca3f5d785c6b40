-- Sorted runs merged are the whole, sorted. Assumes nothing.
use mathlib.Core.Path.{◌≡◌, refl, sym, ap, ◌∙◌}
use mathlib.Core.Bool.{Bool, true, false}
use mathlib.Core.List.{List, [], ◌∷◌, ◌++◌}
use Prim.Native.Nat.{ℕ, suc, ◌-◌, ◌<◌}
use native.Mathlib.Omega.{arith}
use lib.ListN.{length, get_or}
use Rattle.order.proofs.Ordering.{less_less, less_le, le_less}
use Rattle.sorting.specs.Sorting.{before, inserted, sorted, Rising}
use Rattle.sorting.proofs.Inserting.{before_less, less_before, before_not, inserted_front, inserted_behind, inserted_last}
use Rattle.merging.specs.Merging.{into, merged}

module _ (text : ℕ → List ℕ) where
  -- ---- step by step

  pub merged_none : (ys : List ℕ) → merged text [] ys ≡ ys
  unfolding merged
  merged_none ys = refl

  pub merged_first : (x y : ℕ) (xs ys : List ℕ) → before text x y ≡ true → merged text (x ∷ xs) (y ∷ ys) ≡ x ∷ merged text xs (y ∷ ys)
  unfolding merged into
  merged_first x y xs ys e = rw e

  pub merged_second : (x y : ℕ) (xs ys : List ℕ) → before text x y ≡ false → merged text (x ∷ xs) (y ∷ ys) ≡ y ∷ merged text (x ∷ xs) ys
  unfolding merged into
  merged_second x y xs ys e = rw e

  pub merged_one : (x : ℕ) (xs : List ℕ) → merged text (x ∷ xs) [] ≡ x ∷ merged text xs []
  unfolding merged into
  merged_one x xs = refl

  merged_all : (xs : List ℕ) → merged text xs [] ≡ xs
  merged_all [] = merged_none []
  merged_all (x ∷ xs) = merged_one x xs ∙ ap (λ (w : List ℕ). x ∷ w) (merged_all xs)

  -- ---- what is before what is before another, is before that
  first_on : (k x y : ℕ) → before text k x ≡ true → before text x y ≡ true → before text k y ≡ true
  first_on k x y a b = less_before text k y (less_less (text k) (text x) (text y) (before_less text k x a) (before_less text x y b))

  first_not : (k x y : ℕ) → before text k y ≡ true → before text x y ≡ false → before text k x ≡ true
  first_not k x y a b = less_before text k x (less_le (text k) (text y) (text x) (before_less text k y a) (before_not text x y b))

  -- ---- a row inserted into two merged runs is inserted into the first

  insert_one : (k : ℕ) (ys : List ℕ) → inserted text k ys ≡ merged text (k ∷ []) ys
  insert_one k [] = inserted_last text k ∙ sym (merged_one k [] ∙ ap (λ (w : List ℕ). k ∷ w) (merged_none []))
  insert_one k (y ∷ ys) = go (before text k y) refl (insert_one k ys)
    where
      go : (b : Bool) → before text k y ≡ b → inserted text k ys ≡ merged text (k ∷ []) ys → inserted text k (y ∷ ys) ≡ merged text (k ∷ []) (y ∷ ys)
      go true e ih = inserted_front text k y ys e ∙ sym (merged_first k y [] ys e ∙ ap (λ (w : List ℕ). k ∷ w) (merged_none (y ∷ ys)))
      go false e ih = inserted_behind text k y ys e ∙ ap (λ (w : List ℕ). y ∷ w) ih ∙ sym (merged_second k y [] ys e)

  insert_along :
      (k x : ℕ) (xs : List ℕ) → ((zs : List ℕ) → inserted text k (merged text xs zs) ≡ merged text (inserted text k xs) zs) → (ys : List ℕ)
      → inserted text k (merged text (x ∷ xs) ys) ≡ merged text (inserted text k (x ∷ xs)) ys
  insert_along k x xs outer [] = rw (merged_all (x ∷ xs)) (sym (merged_all (inserted text k (x ∷ xs))))
  insert_along k x xs outer (y ∷ ys) = go (before text x y) refl (before text k x) refl (before text k y) refl (insert_along k x xs outer ys)
    where
      go :
          (a : Bool) → before text x y ≡ a → (b : Bool) → before text k x ≡ b → (c : Bool) → before text k y ≡ c
          → inserted text k (merged text (x ∷ xs) ys) ≡ merged text (inserted text k (x ∷ xs)) ys
          → inserted text k (merged text (x ∷ xs) (y ∷ ys)) ≡ merged text (inserted text k (x ∷ xs)) (y ∷ ys)
      go true p true q c r ih =
          let m = merged_first x y xs ys p in
          ap (inserted text k) m ∙ inserted_front text k x (merged text xs (y ∷ ys)) q
          ∙ sym (ap (λ (w : List ℕ). merged text w (y ∷ ys)) (inserted_front text k x xs q) ∙ merged_first k y (x ∷ xs) ys (first_on k x y q p) ∙ ap (λ (w : List ℕ). k ∷ w) m)
      go true p false q c r ih =
          ap (inserted text k) (merged_first x y xs ys p) ∙ inserted_behind text k x (merged text xs (y ∷ ys)) q ∙ ap (λ (w : List ℕ). x ∷ w) (outer (y ∷ ys))
          ∙ sym (ap (λ (w : List ℕ). merged text w (y ∷ ys)) (inserted_behind text k x xs q) ∙ merged_first x y (inserted text k xs) ys p)
      go false p b q true r ih =
          let m = merged_second x y xs ys p in
          ap (inserted text k) m ∙ inserted_front text k y (merged text (x ∷ xs) ys) r
          ∙ sym (ap (λ (w : List ℕ). merged text w (y ∷ ys)) (inserted_front text k x xs (first_not k x y r p)) ∙ merged_first k y (x ∷ xs) ys r ∙ ap (λ (w : List ℕ). k ∷ w) m)
      go false p true q false r ih =
          ap (inserted text k) (merged_second x y xs ys p) ∙ inserted_behind text k y (merged text (x ∷ xs) ys) r ∙ ap (λ (w : List ℕ). y ∷ w) ih
          ∙ sym (ap (λ (w : List ℕ). merged text w (y ∷ ys)) (inserted_front text k x xs q) ∙ merged_second k y (x ∷ xs) ys r ∙ ap (λ (w : List ℕ). y ∷ merged text w ys) (sym (inserted_front text k x xs q)))
      go false p false q false r ih =
          ap (inserted text k) (merged_second x y xs ys p) ∙ inserted_behind text k y (merged text (x ∷ xs) ys) r ∙ ap (λ (w : List ℕ). y ∷ w) ih
          ∙ sym (ap (λ (w : List ℕ). merged text w (y ∷ ys)) (inserted_behind text k x xs q) ∙ merged_second x y (inserted text k xs) ys p ∙ ap (λ (w : List ℕ). y ∷ merged text w ys) (sym (inserted_behind text k x xs q)))

  insert_merged : (k : ℕ) (xs ys : List ℕ) → inserted text k (merged text xs ys) ≡ merged text (inserted text k xs) ys
  insert_merged k [] ys = rw (merged_none, inserted_last text k) (insert_one k ys)
  insert_merged k (x ∷ xs) ys = insert_along k x xs (insert_merged k xs) ys

  -- SORTED: two runs that are sorted, and merged
  pub sorted_both : (xs ys : List ℕ) → sorted text (xs ++ ys) ≡ merged text (sorted text xs) (sorted text ys)
  unfolding sorted
  sorted_both [] ys = sym (merged_none (sorted text ys))
  sorted_both (k ∷ xs) ys = ap (inserted text k) (sorted_both xs ys) ∙ insert_merged k (sorted text xs) (sorted text ys)

  -- ---- a run that belongs behind the other

  apart : (xs : List ℕ) (y : ℕ) (ys : List ℕ) → ((i : ℕ) → i < length xs → before text (get_or xs i 0) y ≡ true) → merged text xs (y ∷ ys) ≡ xs ++ (y ∷ ys)
  apart [] y ys h = merged_none (y ∷ ys)
  apart (x ∷ xs) y ys h = merged_first x y xs ys (h 0 (omega arith)) ∙ ap (λ (w : List ℕ). x ∷ w) (apart xs y ys (λ i l. h (suc i) (omega arith)))

  pub merged_apart : (xs : List ℕ) (y : ℕ) (ys : List ℕ) → Rising text xs → 0 < length xs → before text (get_or xs (length xs - 1) 0) y ≡ true → merged text xs (y ∷ ys) ≡ xs ++ (y ∷ ys)
  merged_apart xs y ys r h e = apart xs y ys (λ i l. less_before text (get_or xs i 0) y (le_less (text (get_or xs i 0)) (text (get_or xs (length xs - 1) 0)) (text y) (before_not text (get_or xs (length xs - 1) 0) (get_or xs i 0) (r.up i (length xs - 1) (omega arith) (omega arith))) (before_less text (get_or xs (length xs - 1) 0) y e)))
