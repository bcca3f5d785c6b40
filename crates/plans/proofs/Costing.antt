-- What answers the returns and turns of the functions that say what the strings of a plan take. Assumes nothing.
use Prim.Native.Nat.{ℕ, zero, suc, ◌+◌, ◌-◌, ◌*◌, ◌≤◌, ◌<◌}
use mathlib.Core.Path.{◌≡◌, refl}
use mathlib.Core.List.{List}
use native.Mathlib.Omega.{arith}
use native.Mathlib.Numerals.{add-one}
use lib.ListN.{length}
use Rattle.draft.specs.declared.Row.{Row}
use Rattle.draft.specs.Table.{from}
use Rattle.draft.specs.Strings.{Text, cost, costs}
use Rattle.buckets.specs.Numbered.{numbered_text}
use Rattle.buckets.proofs.Numbered.{from_step, from_none}
use Rattle.buckets.proofs.Comparing.{text_short}
use Rattle.plans.specs.Plans.{form_at, position_at, sent_by, sent_at, sents_from}
use Rattle.plans.specs.Contract.{Takes}

-- a string by its form
module _ (row : ℕ → Row) (W s plan : List ℕ) (j : ℕ) {t : Text} {form : ℕ} (g : t ≡ numbered_text row W s j) (f : form ≡ form_at plan j) (h : length s ≤ 65536) where
  few : length t ≤ 65536
  few = rw g (omega (arith, text_short row W s j))

  pub takes_regular : form ≡ 0 → Takes plan j (numbered_text row W s j) (5 + length t)
  unfolding sent_at cost
  takes_regular e = record { is = rw (← f, e, g); most = omega (arith, few) }

  pub takes_recorded : form ≡ 1 → Takes plan j (numbered_text row W s j) (6 + length t)
  unfolding sent_at cost
  takes_recorded e = record { is = rw (← f, e, g); most = omega (arith, few) }

  pub takes_recalled : (form ≡ 0 → ⊥) → (form ≡ 1 → ⊥) → Takes plan j (numbered_text row W s j) 2
  unfolding sent_at cost
  takes_recalled a b = record { is = rw (← f) (two form a b); most = omega arith }
    where
      two : (form : ℕ) → (form ≡ 0 → ⊥) → (form ≡ 1 → ⊥) → 2 ≡ cost (sent_by form (position_at plan j) (numbered_text row W s j))
      two zero a b = absurd (a refl)
      two (suc zero) a b = absurd (b refl)
      two (suc (suc form)) a b = refl

  pub text_fits : length t ≤ 65536
  text_fits = few

pub ruleset taking_bytes = (takes_regular, takes_recorded, takes_recalled, text_fits)

-- how far the sum is
pub record Costing (t : ℕ → Text) (plan : List ℕ) (n j sum : ℕ) : Type 0 where
  pub so_far_lem : sum + costs (sents_from plan j (from t j (n - j))) ≡ costs (sents_from plan 0 (from t 0 n))
  pub small : sum ≤ j * 65542
  pub within : j ≤ n

pub cost_first : (t : ℕ → Text) (plan : List ℕ) (n : ℕ) → Costing t plan n 0 0
cost_first t plan n = let z : n - 0 ≡ n = omega arith in record { so_far_lem = rw z (omega arith); small = omega arith; within = omega arith }

module _ {t : ℕ → Text} {plan : List ℕ} {n j sum : ℕ} (i : Costing t plan n j sum) where
  pub cost_done : n ≤ j → sum ≡ costs (sents_from plan 0 (from t 0 n))
  unfolding sents_from costs
  cost_done h = let z : costs (sents_from plan j (from t j (n - j))) ≡ 0 = rw (from_none t j n h) in omega (arith, i.so_far_lem)

  module _ (h : j < n) {m : ℕ} (c : Takes plan j (t j) m) where
    pub cost_fits : n ≤ 4096 → sum + m < 18446744073709551616
    cost_fits l = omega (arith, i.small, c.most)

    pub cost_on : Costing t plan n (j + 1) (sum + m)
    unfolding sents_from costs
    cost_on =
        let z : costs (sents_from plan j (from t j (n - j))) ≡ cost (sent_at plan j (t j)) + costs (sents_from plan (suc j) (from t (suc j) (n - suc j))) = rw (from_step t j n h) in
        rw add-one (record { so_far_lem = omega (arith, i.so_far_lem, c.is); small = omega (arith, i.small, c.most); within = h })

pub ruleset costing = (cost_first, cost_done, cost_fits, cost_on)
