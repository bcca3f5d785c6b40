-- What answers the returns of the functions that step from byte to byte. Assumes nothing.
use Prim.Native.Nat.{ℕ, ◌+◌, ◌*◌, ◌/◌, ◌%◌, ◌^◌, ◌≤◌, ◌<◌}
use mathlib.Core.Path.{◌≡◌, refl, ap, ◌∙◌}
use mathlib.Core.Bool.{Bool, true, ◌&&◌}
use mathlib.Core.List.{List}
use native.Mathlib.Omega.{arith}
use native.Mathlib.Numerals.{add-one}
use lib.ListN.{length, get_or, drop}
use lib.Seq.{drop-cons}
use lib.Dec.{eqb, ltb}
use borrow.Author.Tests.{eqb-true, ltb-true}
use Rattle.text.specs.Utf8.{within, due_by, due_after, step, octets}
use Rattle.text.specs.Classes.{class_by, class_of}
use Rattle.text.proofs.Bytewise.{listed, agree}
use Rattle.text.proofs.Comparing.{both}
use Rattle.steps.specs.States.{State, Step, state_of, step_table, Stepped}

-- the state after state n and byte b
after : ℕ → ℕ → ℕ
after n b = get_or step_table (class_of b) 0 / 2 ^ n % 64

-- antt computes all states and bytes
means : (k : ℕ) → k < 9 → (b : ℕ) → b < 256 → state_of (after (k * 6) b) ≡ step (state_of (k * 6)) b
unfolding after state_of step_table step due_after due_by within class_of class_by
means k h b l = agree 256 (λ b. state_of (after (k * 6) b)) (λ b. step (state_of (k * 6)) b)
    (agree 9 (λ k. listed 256 (λ b. state_of (after (k * 6) b))) (λ k. listed 256 (λ b. step (state_of (k * 6)) b)) refl k h) b l

is_state : ℕ → Bool
is_state n = ltb n 54 && eqb (n % 6) 0

stays : (k : ℕ) → k < 9 → (b : ℕ) → b < 256 → is_state (after (k * 6) b) ≡ true
unfolding is_state after step_table class_of class_by within
stays k h b l = agree 256 (λ b. is_state (after (k * 6) b)) (λ b. true)
    (agree 9 (λ k. listed 256 (λ b. is_state (after (k * 6) b))) (λ k. listed 256 (λ b. true)) refl k h) b l

module _ {words : List ℕ} (n b : ℕ) {class : ℕ} (w : words ≡ step_table) (e : class ≡ class_of b) (l : b < 256) (g : State n) where
  sixth : n ≡ n / 6 * 6
  sixth = omega (arith, g.sixth)

  is_after : get_or words class 0 / 2 ^ n % 64 ≡ after (n / 6 * 6) b
  unfolding after
  is_after = rw (w, e, ← sixth)

  pub step_is : Step n b (get_or words class 0 / 2 ^ n % 64)
  unfolding is_state
  step_is =
      let h : is_state (after (n / 6 * 6) b) ≡ true = stays (n / 6) (omega (arith, g.below)) b l in
      let k = both (ltb (after (n / 6 * 6) b) 54) (eqb (after (n / 6 * 6) b % 6) 0) h in
      record {
        state = rw is_after (record { below = ltb-true _ _ k.0; sixth = eqb-true _ _ k.1 });
        means = ap state_of is_after ∙ means (n / 6) (omega (arith, g.below)) b l ∙ rw (← sixth);
      }

pub class_few : (b : ℕ) {class : ℕ} → class ≡ class_of b → b < 256 → class < 12
unfolding class_of class_by within
class_few b e l = ltb-true _ _ (rw e (agree 256 (λ b. ltb (class_of b) 12) (λ b. true) refl b l))

module _ (s : List ℕ) where
  one : (at next n m : ℕ) → at < length s → next ≡ at + 1 → state_of m ≡ step (state_of n) (get_or s at 0) → octets (state_of n) (drop at s) ≡ octets (state_of m) (drop next s)
  unfolding octets
  one at next n m h e f = rw (drop-cons s at 0 h, e, f, add-one)

  pub one_on : (at n m : ℕ) → at < length s → Step n (get_or s at 0) m → Stepped s at n (at + 1) m
  one_on at n m h g = record { state = g.state; rest = one at (at + 1) n m h refl g.means }

  pub four_on : (at n : ℕ) {p q r t : ℕ} → at + 4 ≤ length s → Step n (get_or s at 0) p → Step p (get_or s (at + 1) 0) q → Step q (get_or s (at + 2) 0) r → Step r (get_or s (at + 3) 0) t → Stepped s at n (at + 4) t
  four_on at n {p} {q} {r} {t} h a b c d =
      record {
        state = d.state;
        rest =
            one at (at + 1) n p (omega arith) refl a.means
            ∙ one (at + 1) (at + 2) p q (omega arith) (omega arith) b.means
            ∙ one (at + 2) (at + 3) q r (omega arith) (omega arith) c.means
            ∙ one (at + 3) (at + 4) r t (omega arith) (omega arith) d.means;
      }

  pub eight_on : (at n : ℕ) {m t : ℕ} → Stepped s at n (at + 4) m → Stepped s (at + 4) m (at + 4 + 4) t → Stepped s at n (at + 8) t
  eight_on at n a b = let e : at + 4 + 4 ≡ at + 8 = omega arith in record { state = b.state; rest = a.rest ∙ b.rest ∙ rw e }

pub ruleset stepping = (step_is, class_few, one_on, four_on, eight_on)
