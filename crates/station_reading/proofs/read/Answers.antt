use Rattle.shares.proofs.Lent.{no_share_only}
use Rattle.station_reading.proofs.Reading.{read_there, read_nowhere}
use Rattle.station_reading.proofs.read.Goals as goal

pub returns-in_err-share : goal.returns-in_err-share
returns-in_err-share c =
    rw (no_share_only c.from_residual.result c.from_residual.ensures.0)
    (read_nowhere c.args.station c.args.split c.args.table.now c.share_of.ensures c.in_err-share.was c.args.limit c.args.message.now)

pub returns : goal.returns
returns c =
    read_there c.args.station c.args.split c.args.table.now c.share_of.ensures c.in_ok-share.was c.args.limit c.args.message.now c.read.ensures
