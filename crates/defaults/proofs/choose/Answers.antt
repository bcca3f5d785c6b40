use Rattle.shape.proofs.Judged.{rows_stated, room_most, room_inside}
use Rattle.defaults.proofs.choose.Goals as goal

pub choose_judged-requires : goal.choose_judged-requires
choose_judged-requires c = (search (rows_stated), search (room_most), search (room_inside), search (rows_stated), search (room_most), search (room_inside))
