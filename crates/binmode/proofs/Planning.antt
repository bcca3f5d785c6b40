-- What answers each return of the exported functions on plans. Assumes nothing.
use mathlib.Core.Path.{◌≡◌, ◌∙◌, ap}
use mathlib.Core.Bool.{Bool, true, false}
use mathlib.Core.List.{List}
use Prim.Native.Nat.{ℕ}
use Rattle.plan_writer.specs.Answers.{Answer}
use Rattle.plan_writer.specs.Answers.{Did, report_of}
use Rattle.write_reports.specs.Numbers.{plan_report}
use Rattle.binmode.specs.Planned.{WritePlannedReported, answer_number}

pub reports_planned :
    (limit : ℕ) (T : List ℕ) (rows : ℕ) (s plan out : List ℕ) {out' : List ℕ} {a : Answer} {n size : ℕ} → Did limit T rows s plan out out' a
    → plan_report n size ≡ report_of a → WritePlannedReported limit T rows s plan out out' n size
reports_planned limit T rows s plan out d e = record { numbers = e ∙ ap report_of d.says; output = d.leaves ∙ rw d.says }

module _ {b c : Bool} (e : b ≡ c) where
  pub says_yes : b ≡ true → 1 ≡ answer_number c
  says_yes f = rw (← e, f)

  pub says_no : b ≡ false → 0 ≡ answer_number c
  says_no f = rw (← e, f)

pub ruleset planned = (reports_planned, says_yes, says_no)
