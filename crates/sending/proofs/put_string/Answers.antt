use Rattle.std.proofs.Common.{rules}
use Rattle.sending.proofs.Sending.{sending}
use Rattle.sending.proofs.put_string.Goals as goal

pub try_long-requires : goal.try_long-requires
try_long-requires c = (search rules, search sending)

pub try_recorded-requires : goal.try_recorded-requires
try_recorded-requires c = (search rules, search sending)

pub returns-in-Regular : goal.returns-in-Regular
returns-in-Regular c = search sending

pub returns-in-Recorded : goal.returns-in-Recorded
returns-in-Recorded c = search sending

pub returns-in-Recalled : goal.returns-in-Recalled
returns-in-Recalled c = search sending
