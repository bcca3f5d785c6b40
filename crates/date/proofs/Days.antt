-- The months' days: the rule at each entry of the table, and what answers the returns of the functions that use it. Assumes nothing.
use mathlib.Core.Path.{◌≡◌, refl, sym, ap, ◌∙◌}
use mathlib.Core.Bool.{Bool, true, false, cond, ◌&&◌, ◌||◌, and-true}
use mathlib.Core.List.{List, []}
use Prim.Native.Nat.{ℕ, suc, ◌-◌, ◌≤◌, ◌<◌}
use native.Mathlib.Omega.{arith}
use lib.ListN.{get_or}
use lib.Dec.{leb, eqb}
use borrow.Author.Tests.{le-leb, lt-leb}
use Rattle.std.specs.Int.{from_bool}
use Rattle.listed.specs.Listed.{listed, at_listed}
use Rattle.lexical.specs.DateTime.{leap, month_days, is_day}

-- the table that the rule fills: the code's table is this one by computation
unfoldable pub table : List (List ℕ)
table = listed 2 (λ row. listed 12 (λ k. month_days (eqb row 1) (suc k)))

pub days_at : (year month : ℕ) {row : ℕ} {long : Bool} → long ≡ leap year → row ≡ cond long 1 0 → row < 2 → (1 ≤ month) × (month ≤ 12) → get_or (get_or table row []) (month - 1) 0 ≡ month_days (leap year) month
unfolding table
days_at year month {row} {long} e f l h =
    rw (at_listed 2 (λ r. listed 12 (λ k. month_days (eqb r 1) (suc k))) row [] l)
    (at_listed 12 (λ k. month_days (eqb row 1) (suc k)) (month - 1) 0 (omega arith) ∙ rw (f, ← e) (picked long (suc (month - 1)) (omega arith)))
  where
    picked : (b : Bool) (m : ℕ) → m ≡ month → month_days (eqb (cond b 1 0) 1) m ≡ month_days b month
    picked true m q = ap (month_days true) q
    picked false m q = ap (month_days false) q

-- the number of a yes or no
pub row_is : (long : Bool) → from_bool long ≡ cond long 1 0
row_is true = refl
row_is false = refl

pub row_below : (long : Bool) → from_bool long < 2
row_below true = omega arith
row_below false = omega arith

-- each month has 28 days
least : (inLeap : Bool) (month : ℕ) → 28 ≤ month_days inLeap month
unfolding month_days
least inLeap month = go (eqb month 2) inLeap (eqb month 4 || eqb month 6 || eqb month 9 || eqb month 11)
  where
    go : (a b c : Bool) → 28 ≤ cond a (cond b 29 28) (cond c 30 31)
    go true true c = omega arith
    go true false c = omega arith
    go false b true = omega arith
    go false b false = omega arith

module _ (year month d : ℕ) where
  pub month_zero : month < 1 → false ≡ is_day year month d
  unfolding is_day
  month_zero h = rw (lt-leb _ _ h)

  pub month_over : 12 < month → false ≡ is_day year month d
  unfolding is_day
  month_over h = rw (lt-leb month 12 h) (sym (none (leb 1 month)))
    where
      none : (b : Bool) → ((b && false) && (leb 1 d && leb d (month_days (leap year) month))) ≡ false
      none true = refl
      none false = refl

  module _ (h : 1 ≤ month) (l : month ≤ 12) where
    pub early_day : d ≤ 28 → leb 1 d ≡ is_day year month d
    unfolding is_day
    early_day k = rw (le-leb _ _ h, le-leb _ _ l, le-leb d (month_days (leap year) month) (omega (arith, least (leap year) month))) (sym (and-true (leb 1 d)))

    pub late_day : {n : ℕ} → 28 < d → n ≡ month_days (leap year) month → leb d n ≡ is_day year month d
    unfolding is_day
    late_day k e = rw (le-leb _ _ h, le-leb _ _ l, le-leb 1 d (omega arith), e)

pub ruleset dating = (month_zero, month_over, early_day, late_day)
