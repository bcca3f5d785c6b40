use Rattle.write_reports.proofs.Telling.{telling}
use Rattle.write_reports.proofs.by_plan.planned.Goals as goal

pub returns-in-Ok : goal.returns-in-Ok
returns-in-Ok c = search telling

pub returns-in-Refused : goal.returns-in-Refused
returns-in-Refused c = search telling

pub returns-in-NotTaken : goal.returns-in-NotTaken
returns-in-NotTaken c = search telling
