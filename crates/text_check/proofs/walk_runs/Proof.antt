-- `text_check::walk_runs` meets its contract: what is left of the bytes decides, by the state; the measure is their number. Assumes nothing.
use Prim.Native.Nat.{◌-◌}
use lib.ListN.{length}
use borrow.Author.Rules.{rules}
use Rattle.text_check.proofs.Turning.{At, at_run, turning}
use Rattle.text_check.proofs.walk_runs.Statement.{statement}
use Rattle.text_check.proofs.walk_runs.Tie as tie

abbrev invariant-loop-at : tie.invariant-loop-at
invariant-loop-at table words s from at₀ state₀ at state = At s at state

abbrev decreases-loop-at : tie.decreases-loop-at
decreases-loop-at table words s from at₀ state₀ at state = length s - at

pub walk_runs_spec : {M : Type 1} → statement M
walk_runs_spec = tie.close (tie.spec
    invariant-loop-at
    decreases-loop-at
    (λ c. search turning)  -- loop-holds
    (λ c. search rules)  -- sub-if1
    (λ c. search rules)  -- shared-slice-read-step
    (λ c κs. search rules)  -- step-requires
    (λ c. search rules)  -- add-at
    (λ c. search rules)  -- loop-less
    (λ c. search turning)  -- loop-again
    (λ c κs. search rules)  -- eight-below-requires
    (λ c. search rules)  -- add-past-more
    (λ c κs. search rules)  -- past-more-requires
    (λ c. search rules)  -- loop-less-2
    (λ c. at_run {below = c.eight_below.result} c.loop-at.invariant (search rules) (search rules) (search rules) (search rules) (search rules))  -- loop-again-2
    (λ c κs. search rules)  -- eight-steps-requires
    (λ c. search rules)  -- add-at-2
    (λ c. search rules)  -- loop-less-3
    (λ c. search turning)  -- loop-again-3
    (λ c. search turning))  -- returns
