use Rattle.shape.proofs.Judged.{rows_stated, room_most, room_inside}
use Rattle.position.proofs.position_of.Goals as goal

pub look-x-requires : goal.look-x-requires
look-x-requires c = (search (rows_stated), search (room_most), search (room_inside))

pub look-y-requires : goal.look-y-requires
look-y-requires c = (search (rows_stated), search (room_most), search (room_inside))

pub look-turn-requires : goal.look-turn-requires
look-turn-requires c = (search (rows_stated), search (room_most), search (room_inside))
