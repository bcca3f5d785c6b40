-- One more entry is stored each turn; at the end all are, and they are the index.
use Rattle.std.proofs.Common.{ℕ, ◌≡◌, ◌-◌, ◌∙◌, length, get_or, arith}
use Rattle.index.specs.Filling.{entry_of}
use Rattle.index.proofs.Storing.{stored_first, stored_next, stored_done, ordered_entries}
use Rattle.binmode.proofs.member_index.binmode_index_fill.Goals as goal

pub loop-i-init : goal.loop-i-init
loop-i-init c = record {
  within = omega arith;
  comes = stored_first (λ (k : ℕ). entry_of (get_or c.order_of-order.result.rows k 0)) c.args.list.now;
}

pub loop-i-preserved : goal.loop-i-preserved
loop-i-preserved c = record {
  within = omega arith;
  comes = stored_next (λ (k : ℕ). entry_of (get_or c.order_of-order.result.rows k 0)) c.args.list.now
      (record { i = c.loop-i.i; list = c.loop-i.list; within = c.loop-i.invariant.within; same = c.loop-i.auto.list; comes = c.loop-i.invariant.comes }) c.entry_in.result
      (omega arith) c.entry_in.ensures;
}

pub returns : goal.returns
returns c = record {
  answers = c.order_of-order.ensures.answers;
  list = stored_done (λ (k : ℕ). entry_of (get_or c.order_of-order.result.rows k 0)) c.args.list.now
      (record { i = c.loop-i.i; list = c.loop-i.list; within = c.loop-i.invariant.within; same = c.loop-i.auto.list; comes = c.loop-i.invariant.comes }) (omega arith)
      ∙ ordered_entries c.order_of-order.ensures;
}
