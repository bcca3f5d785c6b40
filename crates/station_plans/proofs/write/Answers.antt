use Rattle.shares.proofs.Lent.{no_share_only}
use Rattle.station_plans.proofs.Answering.{write_there, write_nowhere}
use Rattle.station_plans.proofs.write.Goals as goal

pub returns-in_err-share : goal.returns-in_err-share
returns-in_err-share c =
    rw (no_share_only c.from_residual.result c.from_residual.ensures.0)
    (write_nowhere c.args.station c.args.split c.args.table.now c.share_of.ensures c.args.limit c.args.rows c.args.text.now c.args.plan.now c.args.output.now c.in_err-share.was)

pub returns : goal.returns
returns c = write_there c.args.station c.args.split c.args.table.now c.share_of.ensures c.args.limit c.args.rows c.args.text.now c.args.plan.now c.args.output.now c.in_ok-share.was c.write.ensures
