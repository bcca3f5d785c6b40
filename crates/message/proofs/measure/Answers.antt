use Rattle.message.proofs.Writing.{measuring}
use Rattle.message.proofs.measure.Goals as goal

pub loop-r-init : goal.loop-r-init
loop-r-init c = search measuring

pub row_length-sum-requires : goal.row_length-sum-requires
row_length-sum-requires c = search measuring

pub overflow_add-sum : goal.overflow_add-sum
overflow_add-sum c = search measuring

pub next_string-j-requires : goal.next_string-j-requires
next_string-j-requires c = search measuring

pub loop-r-preserved : goal.loop-r-preserved
loop-r-preserved c = search measuring

pub returns : goal.returns
returns c = search measuring
