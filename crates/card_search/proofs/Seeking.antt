-- Going from record to record in search of a card: what answers the loop that does it. Assumes nothing.
use mathlib.Core.Path.{◌≡◌, sym, ◌∙◌}
use mathlib.Core.List.{List}
use Prim.Native.Nat.{ℕ, ◌+◌, ◌-◌, ◌≤◌, ◌<◌}
use native.Mathlib.Omega.{arith}
use lib.ListN.{length, take, drop, length-drop, drop_of_length-le}
use lib.Seq.{drop-drop, take_all}
use mir.Syntax.{w64}
use mir.Val.{Fits}
use Rattle.std.specs.declared.ops.ControlFlow.TheVariants.{Break, Continue}
use Rattle.records.specs.declared.JobRefusal.TheVariants.{FileEnded}
use Rattle.records.specs.declared.Onward.{Onward}
use Rattle.records.specs.Job.{body_length, look_at, find, Found, missing_at, Look, on_to}
use Rattle.records.proofs.Finding.{same_step, Looked, cut, asked, passed, ended, wrong, other, looked, find_ends, find_step}

-- a record that is stepped over stands whole, and the cards stay no more than the number asked for
pub record Stepped (n cards : ℕ) (s : List ℕ) (cards' size : ℕ) : Type 0 where
  pub fits : size + 6 ≤ length s
  pub counts : cards ≤ n → cards' ≤ n

pub stepped : (n cards at : ℕ) (s : List ℕ) {cards' size : ℕ} → on_to cards' size ≡ look_at n cards at s → Stepped n cards s cards' size
stepped n cards at s {cards'} {size} = go (looked n cards at s)
  where
    go : {look : Look} → Looked n cards at s look → on_to cards' size ≡ look → Stepped n cards s cards' size
    go (cut h) e = let z : ◌≡◌ {A = ℕ} 0 1 = cc in absurd (omega arith)
    go (asked w k m) e = let z : ◌≡◌ {A = ℕ} 0 1 = cc in absurd (omega arith)
    go (ended w k m) e = let z : ◌≡◌ {A = ℕ} 0 1 = cc in absurd (omega arith)
    go (wrong w k i) e = let z : ◌≡◌ {A = ℕ} 0 1 = cc in absurd (omega arith)
    go (passed w k m) e =
        let i = same_step e in
        record { fits = omega (arith, i.1); counts = λ h. omega (arith, i.0) }
    go (other w k) e =
        let i = same_step e in
        record { fits = omega (arith, i.1); counts = λ h. omega (arith, i.0) }

-- where the loop stands: what is sought from the start is what is sought from here
pub record Seeking (s : List ℕ) (n before from cards at : ℕ) : Type 0 where
  pub same : find n before from 0 (drop from s) ≡ find n cards at 0 (drop at s)
  pub counts : cards ≤ n

rest : (s : List ℕ) (at : ℕ) → take (length s - at) (drop at s) ≡ drop at s
rest s at = take_all (length s - at) (drop at s) (omega (arith, length-drop at s))

module _ (s : List ℕ) (n before from : ℕ) {cards at : ℕ} (i : Seeking s n before from cards at) where
  pub seek_past : length s ≤ at → missing_at FileEnded at ≡ find n before from 0 (drop from s)
  seek_past h = sym (i.same ∙ rw (drop_of_length-le s h) (find_ends n cards at 0))

  module _ {look : Look} (e : look ≡ look_at n cards at (take (length s - at) (drop at s))) where
    looks : look ≡ look_at n cards at (drop at s)
    looks = e ∙ rw (rest s at)

    pub seek_found : {found : Found} → look ≡ Break found → found ≡ find n before from 0 (drop from s)
    seek_found f = sym (i.same ∙ find_step n cards at (drop at s) ∙ rw (← looks, f))

    module _ {step : Onward} (f : look ≡ Continue step) where
      by : Stepped n cards (drop at s) step.cards step.length
      by = stepped n cards at (drop at s) (sym f ∙ looks)

      within : at < length s → at + (step.length + 6) ≤ length s
      within h = omega (arith, by.fits, length-drop at s)

      pub seek_again : Seeking s n before from step.cards (at + (step.length + 6))
      seek_again =
          record { same = i.same ∙ find_step n cards at (drop at s) ∙ rw (← looks, f, drop-drop (step.length + 6) at s); counts = by.counts i.counts }

      module _ (h : at < length s) where
        pub seek_size : length s < 18446744073709551616 → Fits w64 (step.length + 6)
        seek_size l = omega (arith, within h)

        pub seek_fits : length s < 18446744073709551616 → Fits w64 (at + (step.length + 6))
        seek_fits l = omega (arith, within h)

pub ruleset seeking = (seek_past, seek_found, seek_again, seek_size, seek_fits)
