use Rattle.std.proofs.Common.{ap}
use Rattle.plans.specs.Forms.{byte_of}
use Rattle.plans.proofs.Judging.{sends_regular, sends_recorded, sends_unset, sends_recalled}
use Rattle.plans.proofs.send.Goals as goal

pub returns-in-Regular : goal.returns-in-Regular
returns-in-Regular c = sends_regular _ _ c.args.p c.requires.2 (ap byte_of c.in-Regular.is)

pub returns-in-Recorded : goal.returns-in-Recorded
returns-in-Recorded c = sends_recorded _ _ c.args.p c.requires.2 (ap byte_of c.in-Recorded.is) c.requires.0

pub returns-then-k-ne0 : goal.returns-then-k-ne0
returns-then-k-ne0 c = sends_recalled _ _ c.args.p c.requires.2 (ap byte_of c.in-Recalled.is) c.if-k-ne0.true c.equal_texts.ensures

pub returns-else-k-ne0 : goal.returns-else-k-ne0
returns-else-k-ne0 c = rw c.if-k-ne0.false (sends_unset _ _ c.args.p c.requires.2 (ap byte_of c.in-Recalled.is) c.if-k-ne0.false)
