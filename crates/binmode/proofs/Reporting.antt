-- What answers each return of the exported functions that read and write. Assumes nothing.
use mathlib.Core.Path.{◌≡◌, ◌∙◌, ap}
use mathlib.Core.List.{List}
use Prim.Native.Nat.{ℕ}
use Rattle.records.specs.Job.{Found}
use Rattle.draft.specs.Read.{Reading}
use Rattle.read_answer.specs.declared.Answer.{Answer}
use Rattle.read_answer.specs.Answers.{report_of, Answers}
use Rattle.write_answer.specs.Answers as writer
use Rattle.job.specs.Cards as job
use Rattle.read_reports.specs.Numbers.{report, card_report, Finding, finding_of}
use Rattle.write_reports.specs.Numbers as writing
use Rattle.binmode.specs.Reported.{Reported, WriteReported}
use Rattle.binmode.specs.Cards.{CardReported}

pub reports_reading :
    (o : Reading) {words : ℕ} {T : List ℕ} {a : Answer} {n rows used place : ℕ} → Answers o words T a → report n rows used place ≡ report_of a
    → Reported o words T n rows used place
reports_reading o d e = record { numbers = e ∙ ap report_of d.says; table = d.leaves }

pub reports_writing :
    (limit : ℕ) (T : List ℕ) (rows : ℕ) (s out : List ℕ) {out' : List ℕ} {a : writer.Answer} {n size : ℕ} → writer.Did limit T rows s out out' a
    → writing.report n size ≡ writer.report_of a → WriteReported limit T rows s out out' n size
reports_writing limit T rows s out d e = record { numbers = e ∙ ap writer.report_of d.says; output = d.leaves ∙ rw d.says }

pub reports_card :
    (s : List ℕ) (f : Found) {words : ℕ} {T : List ℕ} {a : job.Answer} {n rows used place body : ℕ} → job.Reads s words f T a
    → card_report n rows used place body ≡ job.report_of a → CardReported s words f T n rows used place body
reports_card s f d e = record { numbers = e ∙ ap job.report_of d.says; table = d.leaves }

pub reports_found : {f g : Found} {t : Finding} → f ≡ g → t ≡ finding_of f → t ≡ finding_of g
reports_found e h = h ∙ ap finding_of e

pub ruleset reporting = (reports_reading, reports_writing, reports_card, reports_found)
