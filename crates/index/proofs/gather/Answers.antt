use Rattle.std.proofs.Common.{◌≡◌, arith}
use Rattle.draft.specs.Table.{row_at}
use Rattle.member.proofs.Finding.{no_member, a_member}
use Rattle.index.proofs.Arranging.{gather_past, gather_room, gather_again, gather_none}
use Rattle.index.proofs.gather.Goals as goal

pub returns-in_default : goal.returns-in_default
returns-in_default c =
    gather_past (row_at c.args.room c.args.table.now) c.args.rows c.loop-c.invariant (no_member c.args.rows c.loop-c.here c.member_among.ensures c.in_default.is)

pub loop-c-preserved : goal.loop-c-preserved
loop-c-preserved c =
    gather_again (row_at c.args.room c.args.table.now) c.args.rows c.loop-c.invariant c.loop-c-test.true
    (a_member c.args.rows c.loop-c.here c.member_among.ensures c.in-Some.is) c.end_of-here.ensures

pub bounds-order-c : goal.bounds-order-c
bounds-order-c c = gather_room (row_at c.args.room c.args.table.now) c.args.rows c.loop-c.invariant

pub returns : goal.returns
returns c =
    let z : c.loop-c.c ≡ c.args.n = omega arith in
    rw z at (gather_none (row_at c.args.room c.args.table.now) c.args.rows c.loop-c.invariant c.loop-c-test.false)
