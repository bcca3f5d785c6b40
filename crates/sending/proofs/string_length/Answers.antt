use Rattle.sending.proofs.Sending.{sending}
use Rattle.sending.proofs.string_length.Goals as goal

pub returns-in-Regular : goal.returns-in-Regular
returns-in-Regular c = search sending

pub returns-in-Recorded : goal.returns-in-Recorded
returns-in-Recorded c = search sending

pub returns-in-Recalled : goal.returns-in-Recalled
returns-in-Recalled c = search sending
