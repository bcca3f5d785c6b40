use Rattle.write_reports.proofs.Telling.{telling}
use Rattle.write_reports.proofs.written.Goals as goal

pub returns-in-Ok : goal.returns-in-Ok
returns-in-Ok c = search telling

pub returns-in-Err : goal.returns-in-Err
returns-in-Err c = search telling
