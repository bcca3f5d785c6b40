-- Rows by their numbers that have the meanings of cells, taken apart and put together. Assumes nothing.
use mathlib.Core.Path.{◌≡◌, refl, ap}
use mathlib.Core.List.{List, [], ◌∷◌, ◌++◌}
use Prim.Native.Nat.{ℕ, zero, suc, ◌+◌, ◌-◌, ◌<◌}
use native.Mathlib.Omega.{arith}
use native.Mathlib.Nat.{add-zero}
use lib.ListN.{length}
use Rattle.draft.specs.declared.Row.{Row}
use Rattle.draft.specs.Rows.{below}
use Rattle.draft.specs.Table.{from}
use Rattle.draft.specs.Read.{held_rows}
use Rattle.draft.specs.Grammar.{Cell, held_cells}
use Rattle.draft.specs.Meaning.{Means, Realises, no_more, and_then}
use Rattle.exact.proofs.Realising.{held_same}

-- the rows from row r on have the meanings of the cells
pub data Stands (row : ℕ → Row) (s : List ℕ) : ℕ → List Cell → Type 0 where
  stands_none : {r : ℕ} → Stands row s r []
  stands_more : {r : ℕ} {c : Cell} {cs : List Cell} → Means s r (row r) c → Stands row s (suc r) cs → Stands row s r (c ∷ cs)

module _ {row : ℕ → Row} {s : List ℕ} where
  pub stands_one : {r : ℕ} {c : Cell} → Means s r (row r) c → Stands row s r (c ∷ [])
  stands_one m = stands_more m stands_none

  pub stands_append : {r : ℕ} {us vs : List Cell} → Stands row s r us → Stands row s (r + length us) vs → Stands row s r (us ++ vs)
  stands_append {r} stands_none b = rw add-zero at b
  stands_append (stands_more {r} {c} {cs} m t) b = stands_more m (let e : r + suc (length cs) ≡ suc r + length cs = omega arith in stands_append t (rw e at b))

  pub stands_front : {r : ℕ} (us vs : List Cell) → Stands row s r (us ++ vs) → Stands row s r us
  stands_front [] vs t = stands_none
  stands_front (u ∷ us) vs (stands_more m t) = stands_more m (stands_front us vs t)

  pub stands_back : {r : ℕ} (us vs : List Cell) → Stands row s r (us ++ vs) → Stands row s (r + length us) vs
  stands_back {r} [] vs t = rw add-zero t
  stands_back {r} (u ∷ us) vs (stands_more m t) = let e : r + suc (length us) ≡ suc r + length us = omega arith in rw e (stands_back us vs t)

  pub stands_head : {r : ℕ} {c : Cell} {cs : List Cell} → Stands row s r (c ∷ cs) → Means s r (row r) c
  stands_head (stands_more m t) = m

  pub stands_tail : {r : ℕ} {c : Cell} {cs : List Cell} → Stands row s r (c ∷ cs) → Stands row s (r + 1) cs
  stands_tail {r} (stands_more m t) = let e : r + 1 ≡ suc r = omega arith in rw e t

  pub stands_realises : {r : ℕ} {cs : List Cell} → Stands row s r cs → Realises s r (from row r (length cs)) cs
  unfolding from
  stands_realises stands_none = no_more
  stands_realises (stands_more m t) = and_then m (stands_realises t)

  pub realises_stands : {r : ℕ} (n : ℕ) {cs : List Cell} → Realises s r (from row r n) cs → Stands row s r cs
  unfolding from
  realises_stands {r} n t = go n t refl
    where
      go : {r : ℕ} {xs : List Row} {cs : List Cell} (n : ℕ) → Realises s r xs cs → xs ≡ from row r n → Stands row s r cs
      go n no_more e = stands_none
      go zero (and_then m t) e = let z : ◌≡◌ {A = ℕ} 0 1 = cc in absurd (omega arith)
      go (suc n) (and_then {r} {x} {c} {xs} {cs} m t) e =
          let i : x ≡ row r = cc in
          let j : xs ≡ from row (suc r) n = cc in
          stands_more (rw i at m) (go n t j)

  -- the rows below the first, as the rule for a fault's members sees them
  pub held_under : {r : ℕ} {cs : List Cell} → Stands row s r cs → held_rows s (from row (r + 1) (r + length cs - (r + 1))) ≡ held_cells (below cs)
  unfolding from held_rows held_cells
  held_under {r} stands_none = let e : r + 0 - (r + 1) ≡ 0 = omega arith in rw e
  held_under {r} (stands_more {cs = cs} m t) =
      let e : r + suc (length cs) - (r + 1) ≡ length cs = omega arith in
      let f : r + 1 ≡ suc r = omega arith in
      rw (e, f) (held_same (stands_realises t))

-- what a function gives for some numbers: as many, and the same as another that agrees with it there
pub from_length : {A : Type 0} (f : ℕ → A) (r n : ℕ) → length (from f r n) ≡ n
unfolding from
from_length f r zero = refl
from_length f r (suc n) = ap suc (from_length f (suc r) n)

pub from_same : {A : Type 0} (f g : ℕ → A) (r n : ℕ) → ((i : ℕ) → i < r + n → f i ≡ g i) → from f r n ≡ from g r n
unfolding from
from_same f g r zero h = refl
from_same f g r (suc n) h = rw (h r (omega arith), from_same f g (suc r) n (λ i l. h i (omega arith)))
