use Rattle.shares.proofs.Lent.{no_share_only}
use Rattle.station_tables.proofs.Answering.{lookup_there, lookup_nowhere}
use Rattle.station_tables.proofs.lookup.Goals as goal

pub returns-in_err-share : goal.returns-in_err-share
returns-in_err-share c =
    rw (no_share_only c.from_residual.result c.from_residual.ensures.0)
    (lookup_nowhere c.args.station c.args.split c.args.table.now c.share_of.ensures c.in_err-share.was c.args.rows c.args.text.now c.args.r c.args.key.now)

pub returns : goal.returns
returns c = lookup_there c.args.station c.args.split c.args.table.now c.share_of.ensures c.in_ok-share.was c.args.rows c.args.text.now c.args.r c.args.key.now c.lookup.ensures
