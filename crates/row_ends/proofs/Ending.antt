-- What answers each return of the functions that say where an item ends, by tests of its row. Assumes nothing.
use mathlib.Core.Path.{◌≡◌, refl, ◌∙◌}
use mathlib.Core.Bool.{Bool, true, false}
use Prim.Native.Nat.{ℕ, ◌≤◌, ◌<◌}
use lib.Dec.{leb, eqb}
use borrow.Author.Tests.{le-leb, lt-leb, eq-eqb, ne_eqb}
use Rattle.std.proofs.Common.{Option, Some, None}
use Rattle.draft.specs.declared.Row.{Row}
use Rattle.draft.specs.Writable.{fit, closed, over, holding}

-- a test that was made
module _ (a b : ℕ) (o : Option ℕ) where
  pub fit_eq : {e : Option ℕ} → a ≡ b → e ≡ o → e ≡ fit (eqb a b) o
  fit_eq h i = i ∙ rw (eq-eqb a b h)

  pub fit_ne : (a ≡ b → ⊥) → None ≡ fit (eqb a b) o
  fit_ne h = rw (ne_eqb a b h)

  pub fit_le : {e : Option ℕ} → a ≤ b → e ≡ o → e ≡ fit (leb a b) o
  fit_le h i = i ∙ rw (le-leb a b h)

  pub fit_gt : b < a → None ≡ fit (leb a b) o
  fit_gt h = rw (lt-leb a b h)

-- where an item's row says that it ends
module _ (x : Row) (n : ℕ) where
  pub closed_there : x.end ≡ n → Some n ≡ closed x (Some n)
  closed_there h = rw (eq-eqb x.end n h)

  pub closed_else : (x.end ≡ n → ⊥) → None ≡ closed x (Some n)
  closed_else h = rw (ne_eqb x.end n h)

-- what an item holds, as it was walked
pub holding_on : (x : Row) {o p e : Option ℕ} → o ≡ p → (b : ℕ) → e ≡ holding b x o → e ≡ holding b x p
holding_on x h b i = i ∙ rw h

-- an item that holds something else
pub fit_none : (b : Bool) → None ≡ fit b None
fit_none true = refl
fit_none false = refl

pub over_none : (x : Row) → None ≡ over x None
over_none x = fit_none (eqb x.a 0)

pub holding_no : (b : ℕ) (x : Row) {o e : Option ℕ} → None ≡ o → e ≡ None → e ≡ holding b x o
holding_no b x h i = i ∙ rw (← h, ← over_none x) (fit_none (eqb x.b b))

pub ruleset ending = (fit_eq, fit_ne, fit_le, fit_gt, closed_there, closed_else, holding_on, holding_no)
