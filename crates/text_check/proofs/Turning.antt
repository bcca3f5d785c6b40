-- What answers the turns of the walk by states. Assumes nothing.
use Prim.Native.Nat.{ℕ, ◌+◌, ◌-◌, ◌*◌, ◌/◌, ◌≤◌, ◌<◌}
use mathlib.Core.Path.{◌≡◌, refl, sym, ◌∙◌}
use mathlib.Core.Bool.{Bool, true, ◌&&◌}
use mathlib.Core.List.{List}
use native.Mathlib.Omega.{arith}
use lib.ListN.{length, get_or, take, drop}
use lib.Dec.{eqb}
use borrow.Author.Tests.{eqb-true}
use Rattle.text.specs.Utf8.{whole, octets, well_formed}
use Rattle.text.specs.Texts.{ascii}
use Rattle.text.specs.Runs.{Run}
use Rattle.text.proofs.Bytewise.{agree}
use Rattle.text.proofs.Comparing.{both, ended}
use Rattle.text.proofs.Passing.{run_after, passed}
use Rattle.steps.specs.States.{State, Step, state_of, Stepped}
use Rattle.steps.proofs.Stepping.{one_on}

-- the walk stands at a place, in a state: the answer lies with the rest
pub record At (s : List ℕ) (at n : ℕ) : Type 0 where
  pub state : State n
  pub rest : well_formed s ≡ octets (state_of n) (drop at s)

pub at_first : (s : List ℕ) (from : ℕ) → well_formed s ≡ well_formed (drop from s) → At s from 0
unfolding state_of well_formed
at_first s from e = record { state = record { below = omega arith; sixth = refl }; rest = e }

pub at_step : {s : List ℕ} {at n m : ℕ} → At s at n → at < length s → Step n (get_or s at 0) m → At s (at + 1) m
at_step {s} {at} {n} {m} a h g = let o = one_on s at n m h g in record { state = o.state; rest = a.rest ∙ o.rest }

pub at_steps : {s : List ℕ} {at n next m : ℕ} → At s at n → Stepped s at n next m → At s next m
at_steps a g = record { state = g.state; rest = a.rest ∙ g.rest }

-- a run, where a character may begin
pub at_run : {s : List ℕ} {at n next : ℕ} {below : Bool} → At s at n → at < length s → 8 ≤ length s - at → below ≡ ascii (take 8 (drop at s)) → (eqb n 0 && below) ≡ true → Run s (at + 8) next → At s next n
unfolding state_of well_formed
at_run {s} {at} {n} {next} {below} a l h e f r =
    let k = both (eqb n 0) below f in
    let z : n ≡ 0 = eqb-true n 0 k.0 in
    let p : well_formed (drop at s) ≡ well_formed (drop next s) = passed (run_after 8 h e k.1 (omega arith) r) in
    record { state = a.state; rest = a.rest ∙ rw z p }

ends : (k : ℕ) → k < 9 → whole (state_of (k * 6)) ≡ eqb (k * 6) 0
unfolding state_of
ends k h = agree 9 (λ k. whole (state_of (k * 6))) (λ k. eqb (k * 6) 0) refl k h

pub at_end : {s : List ℕ} {at n : ℕ} → At s at n → length s ≤ at → eqb n 0 ≡ well_formed s
unfolding octets
at_end {s} {at} {n} a h =
    let e : n ≡ n / 6 * 6 = omega (arith, a.state.sixth) in
    let w : whole (state_of (n / 6 * 6)) ≡ eqb (n / 6 * 6) 0 = ends (n / 6) (omega (arith, a.state.below)) in
    let v : whole (state_of n) ≡ eqb n 0 = rw e w in
    sym (a.rest ∙ rw (ended s at h) v)

pub ruleset turning = (at_first, at_step, at_steps, at_run, at_end)
