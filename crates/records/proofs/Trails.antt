-- The way from record to record that leads to what is found. Assumes nothing.
use mathlib.Core.Path.{◌≡◌, ◌∙◌}
use mathlib.Core.Bool.{true, false}
use mathlib.Core.List.{List}
use Prim.Native.Nat.{ℕ, zero, suc, ◌+◌, ◌≤◌, ◌<◌}
use native.Mathlib.Omega.{arith}
use lib.ListN.{length, drop, length-drop}
use borrow.Author.Tests.{le-leb, lt-leb, eq-eqb, ne_eqb}
use Rattle.records.specs.declared.Kind.TheVariants.{Card, End, Other}
use Rattle.records.specs.declared.JobRefusal.TheVariants.{FileEnded, WrongEnd, NoCard}
use Rattle.records.specs.Job.{Found, Look, body_at, missing_at, kind_at, body_length, record_length, ends_with, look_at, onward, find}
use Rattle.records.proofs.Finding.{Looked, looked, find_step}
use Rattle.records.proofs.Finding as look

-- asking for card n, from the record at a place on, with so many cards before it
pub data Trail (n : ℕ) : ℕ → ℕ → List ℕ → Found → Type 0 where
  cut : {cards at : ℕ} {s : List ℕ} → length s < record_length s → Trail n cards at s (missing_at FileEnded at)
  asked : {cards at : ℕ} {s : List ℕ} → record_length s ≤ length s → kind_at s ≡ Card → cards ≡ n → Trail n cards at s (body_at (at + 6) (body_length s))
  ended : {cards at : ℕ} {s : List ℕ} → record_length s ≤ length s → kind_at s ≡ End → ends_with s cards ≡ true → Trail n cards at s (missing_at NoCard at)
  wrong : {cards at : ℕ} {s : List ℕ} → record_length s ≤ length s → kind_at s ≡ End → ends_with s cards ≡ false → Trail n cards at s (missing_at WrongEnd at)
  passed : {cards at : ℕ} {s : List ℕ} {f : Found} → record_length s ≤ length s → kind_at s ≡ Card → (cards ≡ n → ⊥) → Trail n (cards + 1) (at + record_length s) (drop (record_length s) s) f → Trail n cards at s f
  other : {cards at : ℕ} {s : List ℕ} {f : Found} → record_length s ≤ length s → kind_at s ≡ Other → Trail n cards (at + record_length s) (drop (record_length s) s) f → Trail n cards at s f

module _ (n cards at : ℕ) (s : List ℕ) (ih : (cards' at' : ℕ) (s' : List ℕ) → length s' < length s → Trail n cards' at' s' (find n cards' at' 0 s')) where
  behind : record_length s ≤ length s → (cards' : ℕ) → Trail n cards' (at + record_length s) (drop (record_length s) s) (find n cards' (at + record_length s) 0 (drop (record_length s) s))
  behind w cards' = ih cards' (at + record_length s) (drop (record_length s) s) (omega (arith, length-drop (record_length s) s))

  from_look : {l : Look} → Looked n cards at s l → Trail n cards at s (onward l (λ cards' size. find n cards' (at + (size + 6)) 0 (drop (size + 6) s)))
  from_look (look.cut h) = cut h
  from_look (look.asked w k e) = asked w k e
  from_look (look.passed w k e) = passed w k e (behind w (cards + 1))
  from_look (look.ended w k e) = ended w k e
  from_look (look.wrong w k e) = wrong w k e
  from_look (look.other w k) = other w k (behind w cards)

  trail_over : Trail n cards at s (find n cards at 0 s)
  trail_over = rw (find_step n cards at s) (from_look (looked n cards at s))

trail_within : (m n cards at : ℕ) (s : List ℕ) → length s ≤ m → Trail n cards at s (find n cards at 0 s)
trail_within zero n cards at s h = trail_over n cards at s (λ cards' at' s' l. absurd (omega arith))
trail_within (suc m) n cards at s h = trail_over n cards at s (λ cards' at' s' l. trail_within m n cards' at' s' (omega arith))

pub trail : (n cards at : ℕ) (s : List ℕ) → Trail n cards at s (find n cards at 0 s)
trail n cards at s = trail_within (length s) n cards at s (omega arith)

-- and back: each record that is passed is a step of the definition
module _ (n cards at : ℕ) (s : List ℕ) (w : record_length s ≤ length s) where
  pub step_asked : kind_at s ≡ Card → cards ≡ n → find n cards at 0 s ≡ body_at (at + 6) (body_length s)
  unfolding look_at
  step_asked k e = find_step n cards at s ∙ rw (le-leb _ _ w, k, eq-eqb _ _ e)

  pub step_passed : kind_at s ≡ Card → (cards ≡ n → ⊥) → find n cards at 0 s ≡ find n (cards + 1) (at + record_length s) 0 (drop (record_length s) s)
  unfolding look_at
  step_passed k e = find_step n cards at s ∙ rw (le-leb _ _ w, k, ne_eqb _ _ e)

  pub step_other : kind_at s ≡ Other → find n cards at 0 s ≡ find n cards (at + record_length s) 0 (drop (record_length s) s)
  unfolding look_at
  step_other k = find_step n cards at s ∙ rw (le-leb _ _ w, k)

  pub step_ended : kind_at s ≡ End → ends_with s cards ≡ true → find n cards at 0 s ≡ missing_at NoCard at
  unfolding look_at
  step_ended k e = find_step n cards at s ∙ rw (le-leb _ _ w, k, e)

  pub step_wrong : kind_at s ≡ End → ends_with s cards ≡ false → find n cards at 0 s ≡ missing_at WrongEnd at
  unfolding look_at
  step_wrong k e = find_step n cards at s ∙ rw (le-leb _ _ w, k, e)

pub step_cut : (n cards at : ℕ) (s : List ℕ) → length s < record_length s → find n cards at 0 s ≡ missing_at FileEnded at
unfolding look_at
step_cut n cards at s h = find_step n cards at s ∙ rw (lt-leb (record_length s) (length s) h)
