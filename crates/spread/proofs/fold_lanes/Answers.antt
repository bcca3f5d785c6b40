use Rattle.std.proofs.Common.{rules}
use Rattle.spread.proofs.Mixing.{mixing, lanes_again}
use Rattle.spread.proofs.fold_lanes.Goals as goal

pub loop-i-init : goal.loop-i-init
loop-i-init c = search (rules, mixing)

pub loop-i-preserved : goal.loop-i-preserved
loop-i-preserved c =
    lanes_again
    _
    _
    _
    c.loop-i.invariant
    c.loop-i-test.true
    c.four.ensures.0
    c.four-in-loop-i.ensures.0
    c.four-in-loop-i-2.ensures.0
    c.four-in-loop-i-3.ensures.0
    c.fold-a.ensures
    c.fold-b.ensures
    c.fold-c.ensures
    c.fold-d.ensures

pub returns : goal.returns
returns c = search (rules, mixing)
