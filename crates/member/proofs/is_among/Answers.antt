use Rattle.std.proofs.Common.{refl, sym, ◌∙◌}
use Rattle.draft.specs.Table.{row_at}
use Rattle.member.proofs.Finding.{no_member, a_member}
use Rattle.member.proofs.Counting.{seek_past, seek_found, seek_more, seek_none}
use Rattle.member.proofs.is_among.Goals as goal

pub returns-in_default : goal.returns-in_default
returns-in_default c = seek_past (row_at c.args.room c.args.table.now) c.args.rows c.args.m c.loop.invariant (no_member c.args.rows c.loop.here c.member_among.ensures c.in_default.is)

pub returns-then-is_at : goal.returns-then-is_at
returns-then-is_at c =
    let a = a_member c.args.rows c.loop.here c.member_among.ensures c.in-Some.is in
    seek_found (row_at c.args.room c.args.table.now) c.args.rows c.args.m c.loop.invariant c.loop-test.true (a.0, refl) (sym c.is_at.ensures ∙ c.if-is_at.true)

pub loop-preserved : goal.loop-preserved
loop-preserved c =
    let a = a_member c.args.rows c.loop.here c.member_among.ensures c.in-Some.is in
    seek_more (row_at c.args.room c.args.table.now) c.args.rows c.args.m c.loop.invariant c.loop-test.true (a.0, refl) (sym c.is_at.ensures ∙ c.if-is_at.false) c.end_of-here.ensures

pub returns : goal.returns
returns c = seek_none (row_at c.args.room c.args.table.now) c.args.rows c.args.m c.loop.invariant c.loop-test.false
