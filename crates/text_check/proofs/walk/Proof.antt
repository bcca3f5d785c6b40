-- `text_check::walk` meets its contract: what is left of the bytes decides; the measure is their number. Assumes nothing.
use borrow.Author.Rules.{rules}
use Prim.Native.Nat.{◌-◌}
use lib.ListN.{length}
use Rattle.text.specs.Utf8.{well_formed}
use Rattle.text.proofs.Comparing.{Left}
use Rattle.text.proofs.Walking.{walking, placing}
use Rattle.text_check.proofs.walk.Statement.{statement}
use Rattle.text_check.proofs.walk.Tie as tie

abbrev invariant-loop-at : tie.invariant-loop-at
invariant-loop-at table s at₀ at = Left well_formed s at

abbrev decreases-loop-at : tie.decreases-loop-at
decreases-loop-at table s at₀ at = length s - at

pub walk_spec : {M : Type 1} → statement M
walk_spec = tie.close (tie.spec
    invariant-loop-at
    decreases-loop-at
    (λ c. search rules)  -- loop-holds
    (λ c. search rules)  -- shared-slice-read-is-single
    (λ c κs. search rules)  -- is-single-requires
    (λ c. search rules)  -- add-at
    (λ c. search rules)  -- loop-less
    (λ c. search walking)  -- loop-again
    (λ c κs. search rules)  -- width-at-requires
    (λ c. search walking)  -- returns
    (λ c. search placing)  -- add-at-2
    (λ c. search rules)  -- loop-less-2
    (λ c. search walking)  -- loop-again-2
    (λ c. search walking))  -- returns-2
