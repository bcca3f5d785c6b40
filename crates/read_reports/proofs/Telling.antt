-- What answers each return. Assumes nothing.
use mathlib.Core.Path.{◌≡◌}
use Prim.Native.Nat.{ℕ}
use Rattle.job.specs.Cards.{accepted_at}
use Rattle.std.specs.Prelude.{Err}
use Rattle.draft.specs.declared.Refusal.{Refusal}
use Rattle.draft.specs.Refusals.{number_of}
use Rattle.read_answer.specs.declared.Answer as R
use Rattle.read_answer.specs.declared.Answer.TheVariants as reader
use Rattle.read_answer.specs.Answers as readers
use Rattle.records.specs.declared.JobRefusal.{JobRefusal}
use Rattle.records.specs.Job.{refusal_number}
use Rattle.job.specs.declared.JobFault.TheVariants as job
use Rattle.job.specs.Cards as jobs
use Rattle.read_reports.specs.Numbers.{report, card_report}

module _ {a : R.Answer} where
  pub tells_read : {n m : ℕ} → a ≡ reader.Accepted n m → report 0 n m 0 ≡ readers.report_of a
  tells_read e = rw e

  pub tells_refusal : {m : Refusal} {p k : ℕ} → a ≡ reader.Refused m p → k ≡ number_of m → report k 0 0 p ≡ readers.report_of a
  tells_refusal e f = rw (e, f)

module _ {a : jobs.Answer} where
  pub tells_card_refusal : {m : Refusal} {p k : ℕ} → a ≡ Err (job.Refused m p) → k ≡ number_of m → card_report k 0 0 p 0 ≡ jobs.report_of a
  tells_card_refusal e f = rw (e, f)

  pub tells_missing : {m : JobRefusal} {p k : ℕ} → a ≡ Err (job.Missing m p) → k ≡ refusal_number m → card_report k 0 0 p 0 ≡ jobs.report_of a
  tells_missing e f = rw (e, f)

pub ruleset telling = (tells_read, tells_refusal, tells_card_refusal, tells_missing)
