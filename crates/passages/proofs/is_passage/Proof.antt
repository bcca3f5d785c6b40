use borrow.Author.Rules.{rules}
use mathlib.Core.Path.{◌≡◌, refl}
use Prim.Native.Nat.{◌-◌}
use lib.ListN.{length}
use Rattle.passages.proofs.Passing.{passing, Going}
use Rattle.passages.proofs.is_passage.Statement.{statement}
use Rattle.passages.proofs.is_passage.Tie as tie

abbrev invariant-loop-here : tie.invariant-loop-here
invariant-loop-here s from to notes₀ here₀ notes here = Going s notes from to here × (length notes ≡ length notes₀)

abbrev decreases-loop-here : tie.decreases-loop-here
decreases-loop-here s from to notes₀ here₀ notes here = to - here

pub is_passage_spec : {M : Type 1} → statement M
is_passage_spec = tie.close (tie.spec
    invariant-loop-here
    decreases-loop-here
    (λ c. (search passing, refl))  -- loop-holds
    (λ c. search rules)  -- sub-loop
    (λ c κs. (search rules, search passing))  -- pass-requires
    (λ c. search rules)  -- sub-is-utf8
    (λ c. search rules)  -- part-is-utf8-start
    (λ c. search rules)  -- part-is-utf8-end
    (λ c κs. search rules)  -- is-utf8-requires
    (λ c. search rules)  -- same-length
    (λ c. search passing)  -- returns
    (λ c. search passing)  -- loop-less
    (λ c. (search passing, search rules))  -- loop-again
    (λ c. search rules)  -- sub-is-utf8-2
    (λ c. search rules)  -- part-is-utf8-start-2
    (λ c. search rules)  -- part-is-utf8-end-2
    (λ c κs. search rules)  -- is-utf8-requires-2
    (λ c. search rules)  -- same-length-2
    (λ c. search passing))  -- returns-2
