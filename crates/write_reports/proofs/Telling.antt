-- What answers each return. Assumes nothing.
use mathlib.Core.Path.{◌≡◌}
use Prim.Native.Nat.{ℕ}
use Rattle.draft.specs.declared.Refusal.{Refusal}
use Rattle.draft.specs.Refusals.{number_of}
use Rattle.std.specs.Prelude.{Ok, Err}
use Rattle.write_answer.specs.Answers as writers
use Rattle.plan_writer.specs.declared.PlanRefusal.{PlanRefusal}
use Rattle.plan_writer.specs.declared.PlanRefusal.TheVariants.{Refused, NotTaken}
use Rattle.plan_writer.specs.Answers as planners
use Rattle.write_reports.specs.Numbers.{report, plan_report}

module _ {a : writers.Answer} where
  pub tells_written : {n : ℕ} → a ≡ Ok n → report 0 n ≡ writers.report_of a
  tells_written e = rw e

  pub tells_unwritten : {m : Refusal} {k : ℕ} → a ≡ Err m → k ≡ number_of m → report k 0 ≡ writers.report_of a
  tells_unwritten e f = rw (e, f)

module _ {a : planners.Answer} where
  pub tells_planned : {n : ℕ} → a ≡ Ok n → plan_report 0 n ≡ planners.report_of a
  tells_planned e = rw e

  module _ {r : PlanRefusal} (e : a ≡ Err r) where
    pub tells_unplanned : {m : Refusal} {k : ℕ} → r ≡ Refused m → k ≡ number_of m → plan_report k 0 ≡ planners.report_of a
    tells_unplanned f g = rw (e, f, g)

    pub tells_not_taken : r ≡ NotTaken → plan_report 24 0 ≡ planners.report_of a
    tells_not_taken f = rw (e, f)

pub ruleset telling = (tells_written, tells_unwritten, tells_planned, tells_unplanned, tells_not_taken)
