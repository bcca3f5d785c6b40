use Rattle.std.proofs.Common.{◌≡◌, ◌+◌, arith, ◌∙◌}
use borrow.Author.Tests.{le-ltb}
use Rattle.double.proofs.Passing.{no_whole, no_point, other_byte, no_fraction, whole_double}
use Rattle.double.proofs.is_double.Goals as goal
use Rattle.double.proofs.is_double.Goals.{then-point-start-via-then-point-start, then-point-start-via-else-point-start+then-s-point, then-point-start-via-else-point-start+else-s-point+then-s-point-ne46}

pub returns-then-point-start : goal.returns-then-point-start
returns-then-point-start c =
    elim c.then-point-start.branch [
      | then-point-start-via-then-point-start w ↦ no_whole c.args.s.now c.past_sign-start.ensures c.past_digits-point.ensures w.if-point-start.true
      | then-point-start-via-else-point-start+then-s-point w ↦
          no_point c.args.s.now c.past_sign-start.ensures c.past_digits-point.ensures w.if-point-start.false w.if-s-point.true
      | then-point-start-via-else-point-start+else-s-point+then-s-point-ne46 w ↦
          other_byte c.args.s.now c.past_sign-start.ensures c.past_digits-point.ensures w.if-point-start.false w.if-s-point.false w.if-s-point-ne46.true
    ]

pub returns-then-point-end : goal.returns-then-point-end
returns-then-point-end c =
    whole_double c.args.s.now c.past_sign-start.ensures c.past_digits-point.ensures c.if-point-start.false c.if-s-point.false c.if-s-point-ne46.false c.past_digits-end.ensures
    (λ e. omega arith)

pub returns-else-point-end : goal.returns-else-point-end
returns-else-point-end c =
    let e : c.past_digits-end.result ≡ c.past_digits-point.result + 1 = omega arith in
    le-ltb (c.past_digits-point.result + 1) c.past_digits-end.result (omega arith)
    ∙ no_fraction c.args.s.now c.past_sign-start.ensures c.past_digits-point.ensures c.if-point-start.false c.if-s-point.false c.if-s-point-ne46.false c.past_digits-end.ensures e
