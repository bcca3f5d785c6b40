use Rattle.std.proofs.Common.{◌∙◌, arith}
use Rattle.draft.specs.Table.{row_at}
use Rattle.member.proofs.Finding.{no_member, a_member}
use Rattle.member.proofs.Counting.{count_past, count_more, count_none}
use Rattle.member.proofs.count_from.Goals as goal

pub returns-in_default : goal.returns-in_default
returns-in_default c =
    c.loop.invariant.passed
    ∙ count_past (row_at c.args.room c.args.table.now) c.args.rows c.loop.invariant.left (no_member c.args.rows c.loop.here c.member_among.ensures c.in_default.is)

pub loop-preserved : goal.loop-preserved
loop-preserved c =
    record {
      passed = omega arith;
      left = count_more (row_at c.args.room c.args.table.now) c.args.rows c.loop.invariant.left c.loop-test.true (a_member c.args.rows c.loop.here c.member_among.ensures c.in-Some.is) c.end_of-here.ensures;
    }

pub returns : goal.returns
returns c = c.loop.invariant.passed ∙ count_none (row_at c.args.room c.args.table.now) c.args.rows c.loop.invariant.left c.loop-test.false
