use Rattle.card_search.proofs.Seeking.{seek_again}
use Rattle.card_search.proofs.seek.Goals as goal

pub loop-at-preserved : goal.loop-at-preserved
loop-at-preserved c =
    seek_again c.args.file.now c.args.number c.args.before c.args.from c.loop-at.invariant c.look_at.ensures c.in-Continue.is
