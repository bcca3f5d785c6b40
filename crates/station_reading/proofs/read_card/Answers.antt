use Rattle.shares.proofs.Lent.{no_share_only}
use Rattle.station_reading.proofs.Reading.{card_there, card_nowhere}
use Rattle.station_reading.proofs.read_card.Goals as goal

pub returns-in_err-words : goal.returns-in_err-words
returns-in_err-words c =
    rw (no_share_only c.from_residual.result c.from_residual.ensures.0)
    (card_nowhere c.args.station c.args.split c.args.table.now c.share_of.ensures c.in_err-words.was c.args.file.now c.args.number)

pub returns : goal.returns
returns c =
    card_there c.args.station c.args.split c.args.table.now c.share_of.ensures c.in_ok-words.was c.args.file.now c.args.number c.read_card.ensures
