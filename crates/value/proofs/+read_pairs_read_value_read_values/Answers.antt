use Rattle.std.proofs.Common.{rules, ◌≡◌, refl, Ok, Err, arith, length, ℕ, ◌+◌, ◌<◌}
use Rattle.draft.proofs.Naming.{number_some}
use Rattle.item.proofs.Readings.{passed}
use Rattle.heads.proofs.Values.{values}
use Rattle.scalar.proofs.Scalars.{fixing}
use Rattle.scalar.proofs.Words.{words}
use Rattle.value.proofs.Keys.{going, going_ready, going_done, done_ends}
use Rattle.value.proofs.Items.{pair_key_stops, pair_ended, pair_ready, pair_value_stops, pair_value_again, pair_flat_stops, pair_flat_again, ended, item_stops, item_again, item_flat_stops, item_flat_again}
use Rattle.value.proofs.Arrays.{arrays, head_level, head_count, head_row, head_ready, head_stops, struct_got, array_got}
use Rattle.value.proofs.+read_pairs_read_value_read_values.Goals as goal

pub read_pairs-loop-pairs-init : goal.read_pairs-loop-pairs-init
read_pairs-loop-pairs-init t c = (search going, refl, refl, refl)

pub read_pairs-returns-in_err-key : goal.read_pairs-returns-in_err-key
read_pairs-returns-in_err-key t c = let p : c.from_residual.result ≡ Err c.in_err-key.field-0.0 = passed _ c.from_residual.ensures.1 in
    rw p (pair_key_stops _ c.loop-pairs.invariant.0 c.loop-pairs-test.true c.in_err-key.ensures (number_some _))

pub read_pairs-returns-then-s-here : goal.read_pairs-returns-then-s-here
read_pairs-returns-then-s-here t c = pair_ended _ c.loop-pairs.invariant.0 c.loop-pairs-test.true c.in_ok-key.ensures refl c.if-s-here.true c.refuse.ensures

pub read_pairs-returns-in_err-step : goal.read_pairs-returns-in_err-step
read_pairs-returns-in_err-step t c = let p : c.from_residual-in_err-step.result ≡ Err c.in_err-step.field-0.0 = passed _ c.from_residual-in_err-step.ensures.1 in
    rw p (pair_value_stops _ c.loop-pairs.invariant.0 c.loop-pairs-test.true c.in_ok-key.ensures refl c.in_err-step.ensures (number_some _))

pub read_pairs-loop-pairs-preserved-then-holds_items : goal.read_pairs-loop-pairs-preserved-then-holds_items
read_pairs-loop-pairs-preserved-then-holds_items t c = (pair_value_again _ c.loop-pairs.invariant.0 c.loop-pairs-test.true c.in_ok-key.ensures refl c.in_ok-step.ensures refl c.requires.0, cc (c.loop-pairs.invariant.1), cc (c.loop-pairs.invariant.2), cc (c.loop-pairs.invariant.3))

pub read_pairs-read_scalar-requires : goal.read_pairs-read_scalar-requires
read_pairs-read_scalar-requires t c = (search rules, search values, search values, (pair_ready _ c.loop-pairs.invariant.0 c.loop-pairs-test.true c.in_ok-key.ensures refl (going_ready c.loop-pairs.invariant.0 c.requires.1 c.loop-pairs.invariant.1 c.loop-pairs.invariant.2 c.loop-pairs.invariant.3) (search (rules, c.read_key.auto.table)) (search (rules, c.read_key.auto.book)) (search (rules, c.read_key.auto.notes))).ready)

pub read_pairs-returns-in_err-step-2 : goal.read_pairs-returns-in_err-step-2
read_pairs-returns-in_err-step-2 t c = let p : c.from_residual-in_err-step-2.result ≡ Err c.in_err-step-2.field-0.0 = passed _ c.from_residual-in_err-step-2.ensures.1 in
    rw p (pair_flat_stops _ c.loop-pairs.invariant.0 c.loop-pairs-test.true c.in_ok-key.ensures refl c.if-s-here.false c.holds_items.ensures c.if-holds_items.false c.in_err-step-2.ensures (number_some _))

pub read_pairs-loop-pairs-preserved : goal.read_pairs-loop-pairs-preserved
read_pairs-loop-pairs-preserved t c = (pair_flat_again _ c.loop-pairs.invariant.0 c.loop-pairs-test.true c.in_ok-key.ensures refl c.if-s-here.false c.holds_items.ensures c.if-holds_items.false c.in_ok-step-2.ensures refl c.requires.0 (going_ready c.loop-pairs.invariant.0 c.requires.1 c.loop-pairs.invariant.1 c.loop-pairs.invariant.2 c.loop-pairs.invariant.3) (search (rules, c.read_key.auto.table)) (search (rules, c.read_key.auto.book)) (search (rules, c.read_key.auto.notes)), cc (c.loop-pairs.invariant.1), cc (c.loop-pairs.invariant.2), cc (c.loop-pairs.invariant.3))

pub read_pairs-returns : goal.read_pairs-returns
read_pairs-returns t c = going_done c.loop-pairs.invariant.0 c.loop-pairs-test.false

pub read_value-returns-then-s-at : goal.read_value-returns-then-s-at
read_value-returns-then-s-at t c = search arrays

pub read_value-returns-in_err-read_head : goal.read_value-returns-in_err-read_head
read_value-returns-in_err-read_head t c = let p : c.from_residual.result ≡ Err c.in_err-read_head.field-0.0 = passed _ c.from_residual.ensures.1 in
    rw p (head_stops _ _ _ _ _ c.in_err-read_head.ensures _ c.if-s-at.false c.holds_items.ensures c.if-holds_items.true (number_some _))

pub read_value-unsigned-n-requires : goal.read_value-unsigned-n-requires
read_value-unsigned-n-requires t c = head_count _ _ _ _ _ c.in_ok-read_head.ensures refl

pub read_value-overflow_sub-deep : goal.read_value-overflow_sub-deep
read_value-overflow_sub-deep t c = omega (arith, head_level _ _ _ _ _ c.in_ok-read_head.ensures refl)

pub read_value-read_pairs-step-requires : goal.read_value-read_pairs-step-requires
read_value-read_pairs-step-requires t c = (omega (arith, head_level _ _ _ _ _ c.in_ok-read_head.ensures refl, c.decreases), (search rules, head_ready _ _ _ _ _ c.in_ok-read_head.ensures refl c.requires))

pub read_value-close-requires : goal.read_value-close-requires
read_value-close-requires t c = (done_ends c.read_pairs-step.ensures, head_row _ _ _ _ _ c.in_ok-read_head.ensures refl c.requires, c.requires.ready.fitting.rows, search (rules, c.requires.ready.fitting.table, c.read_pairs-step.auto.table))

pub read_value-returns-then-s-at-eq83 : goal.read_value-returns-then-s-at-eq83
read_value-returns-then-s-at-eq83 t c = struct_got _ _ _ _ _ c.in_ok-read_head.ensures _ c.if-s-at.false c.holds_items.ensures c.if-holds_items.true refl c.requires c.unsigned-n.ensures.0 c.if-s-at-eq83.true c.read_pairs-step.ensures c.close.ensures

pub read_value-overflow_sub-deep-then-holds_items : goal.read_value-overflow_sub-deep-then-holds_items
read_value-overflow_sub-deep-then-holds_items t c = omega (arith, head_level _ _ _ _ _ c.in_ok-read_head.ensures refl)

pub read_value-read_values-step-requires : goal.read_value-read_values-step-requires
read_value-read_values-step-requires t c = (omega (arith, head_level _ _ _ _ _ c.in_ok-read_head.ensures refl, c.decreases), head_ready _ _ _ _ _ c.in_ok-read_head.ensures refl c.requires)

pub read_value-close-requires-then-holds_items : goal.read_value-close-requires-then-holds_items
read_value-close-requires-then-holds_items t c = (done_ends c.read_values-step.ensures, head_row _ _ _ _ _ c.in_ok-read_head.ensures refl c.requires, c.requires.ready.fitting.rows, search (rules, c.requires.ready.fitting.table, c.read_values-step.auto.table))

pub read_value-returns-then-holds_items : goal.read_value-returns-then-holds_items
read_value-returns-then-holds_items t c = array_got _ _ _ _ _ c.in_ok-read_head.ensures _ c.if-s-at.false c.holds_items.ensures c.if-holds_items.true refl c.requires c.unsigned-n.ensures.0 c.if-s-at-eq83.false c.read_values-step.ensures c.close-then-holds_items.ensures

pub read_value-returns-then-is_fixed : goal.read_value-returns-then-is_fixed
read_value-returns-then-is_fixed t c = search arrays

pub read_value-read_sized-requires : goal.read_value-read_sized-requires
read_value-read_sized-requires t c = (search rules, search values, search values, search fixing, search rules)

pub read_value-returns : goal.read_value-returns
read_value-returns t c = search (arrays, words)

pub read_values-loop-left-init : goal.read_values-loop-left-init
read_values-loop-left-init t c = (search going, refl, refl, refl)

pub read_values-returns-then-s-next : goal.read_values-returns-then-s-next
read_values-returns-then-s-next t c = ended _ c.loop-left.invariant.0 c.loop-left-test.true c.if-s-next.true c.refuse.ensures

pub read_values-returns-in_err-step : goal.read_values-returns-in_err-step
read_values-returns-in_err-step t c = let p : c.from_residual.result ≡ Err c.in_err-step.field-0.0 = passed _ c.from_residual.ensures.1 in
    rw p (item_stops _ c.loop-left.invariant.0 c.loop-left-test.true c.in_err-step.ensures (number_some _))

pub read_values-loop-left-preserved-then-holds_items : goal.read_values-loop-left-preserved-then-holds_items
read_values-loop-left-preserved-then-holds_items t c = (item_again _ c.loop-left.invariant.0 c.loop-left-test.true c.in_ok-step.ensures refl, cc (c.loop-left.invariant.1), cc (c.loop-left.invariant.2), cc (c.loop-left.invariant.3))

pub read_values-read_scalar-requires : goal.read_values-read_scalar-requires
read_values-read_scalar-requires t c = (search rules, search values, search values, (going_ready c.loop-left.invariant.0 c.requires c.loop-left.invariant.1 c.loop-left.invariant.2 c.loop-left.invariant.3).ready)

pub read_values-returns-in_err-step-2 : goal.read_values-returns-in_err-step-2
read_values-returns-in_err-step-2 t c = let p : c.from_residual-in_err-step-2.result ≡ Err c.in_err-step-2.field-0.0 = passed _ c.from_residual-in_err-step-2.ensures.1 in
    rw p (item_flat_stops _ c.loop-left.invariant.0 c.loop-left-test.true c.if-s-next.false c.holds_items.ensures c.if-holds_items.false c.in_err-step-2.ensures (number_some _))

pub read_values-loop-left-preserved : goal.read_values-loop-left-preserved
read_values-loop-left-preserved t c = (item_flat_again _ c.loop-left.invariant.0 c.loop-left-test.true c.if-s-next.false c.holds_items.ensures c.if-holds_items.false c.in_ok-step-2.ensures refl (going_ready c.loop-left.invariant.0 c.requires c.loop-left.invariant.1 c.loop-left.invariant.2 c.loop-left.invariant.3), cc (c.loop-left.invariant.1), cc (c.loop-left.invariant.2), cc (c.loop-left.invariant.3))

pub read_values-returns : goal.read_values-returns
read_values-returns t c = going_done c.loop-left.invariant.0 c.loop-left-test.false
