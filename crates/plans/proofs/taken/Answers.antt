use Rattle.std.proofs.Common.{rules, arith, refl}
use Rattle.plans.proofs.Judging.{taking, sends_other, take_no, take_on}
use Rattle.plans.proofs.taken.Goals as goal

pub returns-then-plan-count : goal.returns-then-plan-count
returns-then-plan-count c = search taking

pub loop-j-init : goal.loop-j-init
loop-j-init c = search taking

pub returns-in_default : goal.returns-in_default
returns-in_default c =
    take_no c.loop-j.invariant c.loop-j-test.true refl refl
    (sends_other _ _ _ c.loop-j.invariant.named _ (λ e. omega (arith, c.in_default.ensures)) (λ e. omega (arith, c.in_default.ensures)) (λ e. omega (arith, c.in_default.ensures)))
    refl
    c.if-plan-count.false

pub returns-then-not-send : goal.returns-then-not-send
returns-then-not-send c = take_no c.loop-j.invariant c.loop-j-test.true c.in-Ok.ensures refl c.send.ensures (search rules) c.if-plan-count.false

pub loop-j-preserved : goal.loop-j-preserved
loop-j-preserved c = take_on c.loop-j.invariant c.loop-j-test.true c.in-Ok.ensures refl c.send.ensures (search rules)

pub returns : goal.returns
returns c = search taking
