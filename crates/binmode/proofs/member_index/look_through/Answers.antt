-- Each turn comes nearer, and a search that is over has found what is answered.
use Rattle.std.proofs.Common.{ℕ, ◌≡◌, ◌-◌, ◌<◌, ◌∙◌, length, refl, arith}
use Rattle.seeking.specs.Seeking.{over}
use Rattle.index_search.proofs.Looking.{looking_first, looking_next, looking_nearer, looking_done}
use Rattle.binmode.proofs.member_index.look_through.Goals as goal

pub loop-at-init : goal.loop-at-init
loop-at-init c = record {
  left = length c.args.list.now;
  looking = rw c.begin-st.ensures (looking_first c.args.table.now c.args.text.now c.args.keys.now c.args.question c.args.list.now);
  at = refl;
}

pub loop-at-smaller : goal.loop-at-smaller
loop-at-smaller c =
    let near : c.loop-at.st.at < over = omega (arith, c.loop-at.invariant.at) in
    rw (c.step-st.ensures, c.loop-at.invariant.at)
    (looking_nearer c.args.table.now c.args.text.now c.args.keys.now c.args.question c.args.list.now c.loop-at.invariant.looking near)

pub loop-at-preserved : goal.loop-at-preserved
loop-at-preserved c =
    let near : c.loop-at.st.at < over = omega (arith, c.loop-at.invariant.at) in
    record {
      left = c.loop-at.invariant.left - 1;
      looking = rw (c.step-st.ensures, c.loop-at.invariant.at)
          (looking_next c.args.table.now c.args.text.now c.args.keys.now c.args.question c.args.list.now c.loop-at.invariant.left c.loop-at.st
          c.loop-at.invariant.looking (omega (arith, c.loop-at.invariant.at)) near);
      at = refl;
    }

pub returns : goal.returns
returns c =
    c.report.ensures
    ∙ looking_done c.args.table.now c.args.text.now c.args.keys.now c.args.question c.args.list.now c.loop-at.invariant.left c.loop-at.st c.loop-at.invariant.looking
    (omega (arith, c.loop-at.invariant.at))
