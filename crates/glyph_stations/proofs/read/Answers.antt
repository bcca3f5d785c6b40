use Rattle.std.proofs.Common.{◌≡◌, ap, Result, Ok, Err, IsErrAnd}
use Rattle.glyph_stations.proofs.Reading.{read_there, read_nowhere}
use Rattle.glyph_stations.proofs.read.Goals as goal

-- an error that `?` passes on
passed : {T E : Type 0} {d : E} (r : Result T E) → IsErrAnd r (λ y. y ≡ d) → r ≡ Err d
passed (Ok x) h = absurd h
passed (Err e) h = ap Err h

pub returns-in_err-share : goal.returns-in_err-share
returns-in_err-share c = read_nowhere _ _ _ c.share_of.ensures c.in_err-share.was (passed _ c.from_residual.ensures.1) _ _ _

pub returns : goal.returns
returns c = read_there _ _ _ c.share_of.ensures c.in_ok-share.was _ _ _ c.read.ensures
