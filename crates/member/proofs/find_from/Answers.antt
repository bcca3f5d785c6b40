use Rattle.std.proofs.Common.{◌∙◌}
use Rattle.draft.specs.Table.{row_at}
use Rattle.member.proofs.Finding.{no_member, a_member, left_past, left_found, left_more, left_none}
use Rattle.member.proofs.find_from.Goals as goal

pub returns-in_err-member : goal.returns-in_err-member
returns-in_err-member c =
    c.from_residual.ensures
    ∙ left_past (row_at c.args.room c.args.table.now) c.args.rows c.args.text.now c.args.key.now c.loop.invariant c.loop-test.true (no_member c.args.rows c.loop.here c.member_among.ensures c.in_err-member.was)

pub returns-then-has_key : goal.returns-then-has_key
returns-then-has_key c =
    left_found (row_at c.args.room c.args.table.now) c.args.rows c.args.text.now c.args.key.now c.loop.invariant c.loop-test.true (a_member c.args.rows c.loop.here c.member_among.ensures c.in_ok-member.was) c.has_key.ensures c.if-has_key.true

pub loop-preserved : goal.loop-preserved
loop-preserved c =
    left_more (row_at c.args.room c.args.table.now) c.args.rows c.args.text.now c.args.key.now c.loop.invariant c.loop-test.true (a_member c.args.rows c.loop.here c.member_among.ensures c.in_ok-member.was) c.has_key.ensures c.if-has_key.false
    c.end_of-here.ensures

pub returns : goal.returns
returns c = left_none (row_at c.args.room c.args.table.now) c.args.rows c.args.text.now c.args.key.now c.loop.invariant c.loop-test.false
