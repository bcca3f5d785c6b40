use Rattle.std.proofs.Common.{rules}
use Rattle.sending.proofs.Collecting.{strings_there}
use Rattle.plan_writer.proofs.Answering.{by_known, by_written, by_unwritten, by_refused}
use Rattle.plan_writer.proofs.write_rows.Goals as goal

pub taken-requires : goal.taken-requires
taken-requires c = search strings_there

pub fill_shorter-n-requires : goal.fill_shorter-n-requires
fill_shorter-n-requires c = (search rules, search rules, by_known _ _ c.collect-count.ensures c.taken.ensures c.if-taken.true (search rules))

pub returns-in_err-answer_for : goal.returns-in_err-answer_for
returns-in_err-answer_for c =
    by_unwritten _ _ c.collect-count.ensures c.taken.ensures c.if-taken.true c.fill_shorter-n.ensures _ c.from_residual.ensures.1 c.in_err-answer_for.ensures

pub returns-then-taken : goal.returns-then-taken
returns-then-taken c = by_written _ _ c.collect-count.ensures c.taken.ensures c.if-taken.true c.fill_shorter-n.ensures c.in_ok-answer_for.ensures

pub returns : goal.returns
returns c = search by_refused
