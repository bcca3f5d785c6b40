-- What answers the returns of the functions that say an answer in numbers. Assumes nothing.
use mathlib.Core.Path.{◌≡◌, ap}
use mathlib.Core.Bool.{Bool, true, false}
use Prim.Native.Nat.{ℕ}
use lib.IntN.{ℤ, pos}
use lib.Ieee.{Float, binary64, of_bits, of_fields, odd}
use mir.Syntax.{w32, w64}
use mir.Val.{Fits, SFits, to_z, of_z}
use mir.Facts.{to_z-of_z}
use Rattle.std.specs.Prelude.{Ok, Err}
use Rattle.lookup_answer.specs.declared.Refusal as Why
use Rattle.lookup_answer.specs.Answers.{Answer, number_of}
use Rattle.lookup_answer.specs.declared.Value.TheVariants.{Whole, Decimal, Truth, Text, Row}
use Rattle.lookup_answer.specs.declared.Report.{Report}
use Rattle.lookup_answer.specs.Reports.{plus_zero, reported, report_of}
use Rattle.lookup_answer.proofs.Answering.{wide}

pub whole_stored : {sort : ℕ} {z : ℤ} → SFits w64 z → reported 0 sort (to_z w64 (of_z w64 z)) (of_bits binary64 0) 0 0 ≡ reported 0 sort z plus_zero 0 0
unfolding of_bits of_fields odd
whole_stored {sort} f = ap (λ (n : ℤ). reported 0 sort n plus_zero 0 0) (to_z-of_z f)

module _ {a : Answer} where
  pub whole_report : {n : ℤ} {r : Report} → a ≡ Ok (Whole n) → SFits w64 n → r ≡ reported 0 1 (to_z w64 (of_z w64 n)) plus_zero 0 0 → r ≡ report_of a
  whole_report {n} e g f = rw (e, f) (ap (λ (z : ℤ). reported 0 1 z plus_zero 0 0) (to_z-of_z g))

  pub decimal_report : {x : Float} → a ≡ Ok (Decimal x) → reported 0 2 (pos 0) x 0 0 ≡ report_of a
  decimal_report e = rw e

  pub yes_report : {b : Bool} {r : Report} → a ≡ Ok (Truth b) → b ≡ true → r ≡ reported 0 3 (pos 1) plus_zero 0 0 → r ≡ report_of a
  yes_report e g f = rw (e, g, f)

  pub no_report : {b : Bool} {r : Report} → a ≡ Ok (Truth b) → b ≡ false → r ≡ reported 0 3 (pos 0) plus_zero 0 0 → r ≡ report_of a
  no_report e g f = rw (e, g, f)

  pub text_report_lem : {o n : ℕ} → a ≡ Ok (Text o n) → reported 0 4 (pos 0) (of_bits binary64 0) o n ≡ report_of a
  unfolding of_bits of_fields odd
  text_report_lem e = rw e

  pub row_report : {n : ℕ} {r : Report} → a ≡ Ok (Row n) → Fits w32 n → r ≡ reported 0 5 (to_z w64 n) plus_zero 0 0 → r ≡ report_of a
  row_report {n} e g f = rw (e, f, wide n g)

  pub refused_report : {why : Why.Refusal} {n : ℕ} → a ≡ Err why → n ≡ number_of why → reported n 0 (pos 0) (of_bits binary64 0) 0 0 ≡ report_of a
  unfolding of_bits of_fields odd
  refused_report e f = rw (e, f)

pub ruleset reporting = (whole_stored, whole_report, decimal_report, yes_report, no_report, text_report_lem, row_report, refused_report)
