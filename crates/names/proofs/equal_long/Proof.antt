use Prim.Native.Nat.{◌-◌, ◌≤◌}
use lib.ListN.{length}
use Rattle.text.proofs.Comparing.{BothLeft}
use Rattle.names.proofs.Eights.{eights, eight_again}
use borrow.Author.Rules.{rules}
use Rattle.names.proofs.equal_long.Statement.{statement}
use Rattle.names.proofs.equal_long.Tie as tie

abbrev invariant-loop-k : tie.invariant-loop-k
invariant-loop-k a b k₀ k = BothLeft a b k × (k ≤ length a)

abbrev decreases-loop-k : tie.decreases-loop-k
decreases-loop-k a b k₀ k = length a - k

loop-again : tie.Need-loop-k-preserved invariant-loop-k decreases-loop-k
loop-again c =
    let start = c.before.before.before.before.before in (
      eight_again
          _
          _
          start.before.shared_slice_known-1.given
          start.shared_slice_known-2-1.given
          start.before.before.requires.0
          c.before.before.before.before.loop-k.invariant.0
          c.before.before.before.before.loop-k.invariant.1
          c.before.before.before.loop-k-test.true
          c.before.before.word_at.ensures
          c.before.word_at-in-loop-k.ensures
          c.if-word_at.false,
      search rules,
    )

pub equal_long_spec : {M : Type 1} → statement M
equal_long_spec = tie.close (tie.spec
    invariant-loop-k
    decreases-loop-k
    (λ c. search rules)  -- loop-holds
    (λ c. search rules)  -- sub-loop
    (λ c κs. search rules)  -- word-at-requires
    (λ c κs. search rules)  -- word-at-requires-2
    (λ c. search eights)  -- returns
    (λ c. search rules)  -- add-k
    (λ c. search rules)  -- loop-less
    loop-again
    (λ c. search rules)  -- sub-last
    (λ c κs. search rules)  -- word-at-requires-3
    (λ c κs. search rules)  -- word-at-requires-4
    (λ c. search eights))  -- returns-2
