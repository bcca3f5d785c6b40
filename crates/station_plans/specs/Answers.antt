-- What writing a station's share with a plan gives: for the share's words W what the call without stations gives, or 22. Assumes nothing.
use Rattle.std.specs.Prelude.{◌≡◌, List, ℕ, length, Result, Ok, Err}
use Rattle.shares.specs.declared.Station.{Station}
use Rattle.shares.specs.declared.NotSplit.{NotSplit}
use Rattle.shares.specs.Share.{no_share, on_share}
use Rattle.plan_writer.specs.Answers.{Answer as PlannerAnswer}
use Rattle.plan_writer.specs.Answers as plan
use Rattle.plan_writer.specs.Answers.{answer_of, output_of, message_for}

-- what is answered: as for a whole table, or 22
abbrev pub Answer : Type 0
Answer = Result PlannerAnswer NotSplit

-- with a limit of nesting, so many stated rows, the text bytes s, a plan and an output of so many bytes
unfoldable pub write_answer : ℕ → ℕ → List ℕ → List ℕ → ℕ → List ℕ → Answer
write_answer limit rows s p room W = Ok (answer_of limit W rows s p room)

unfoldable pub written_bytes : ℕ → ℕ → List ℕ → List ℕ → ℕ → List ℕ → List ℕ
written_bytes limit rows s p room W = output_of (answer_of limit W rows s p room) (message_for W rows s p) room

pub record WroteFor (limit : ℕ) (T : List ℕ) (station : Station) (split rows : ℕ) (s p out out' : List ℕ) (a : Answer) : Type 0 where
  pub says : a ≡ on_share station split T (write_answer limit rows s p (length out)) (Err no_share)
  pub leaves : out' ≡ on_share station split T (written_bytes limit rows s p (length out)) out

-- the numbers that the papers give for an answer
abbrev pub report_of : Answer → plan.Report
report_of (Ok a) = plan.report_of a
report_of (Err e) = record { number = 22; length = 0; place = 0 }
