use Rattle.output.proofs.Putting.{front_four}
use Rattle.output.proofs.put_four.Goals as goal

pub returns : goal.returns
returns c = front_four c.args.n c.args.out.now c.to_le_bytes.ensures c.copy_from_slice.ensures.after
