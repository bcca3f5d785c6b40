use Rattle.std.proofs.Common.{rules, arith, refl, length-set}
use Rattle.prices.proofs.Pricing.{going_first, going_on, going_done, first_there, first_so}
use Rattle.prices.proofs.price.Goals as goal

pub loop-j-init : goal.loop-j-init
loop-j-init c = (going_first _ _ _ _, refl)

pub loop-j-preserved : goal.loop-j-preserved
loop-j-preserved c = (
  going_on c.loop-j.invariant.0
      (record {
        in_range_lem = c.loop-j-test.true;
        room = omega (arith, first_there _ c.requires.5 c.loop-j-test.true refl);
        first = first_so _ c.requires.5 c.loop-j-test.true refl;
        size_is = c.size_of-size.ensures;
        worth_is = c.worth_of-w.ensures;
        share_is = c.share_of-least.ensures;
        left_is = c.left_of.ensures;
        price_is = (refl, search rules);
      }),
  simp length-set c.loop-j.invariant.1,
)

pub returns : goal.returns
returns c = going_done c.loop-j.invariant.0 c.loop-j-test.false c.requires.3
