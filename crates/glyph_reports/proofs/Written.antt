-- What answers each return, of writing. Assumes nothing.
use mathlib.Core.Path.{◌≡◌}
use Prim.Native.Nat.{ℕ}
use Rattle.draft.specs.declared.Refusal.{Refusal}
use Rattle.draft.specs.Refusals.{number_of}
use Rattle.std.proofs.Common.{Ok, Err}
use Rattle.glyph_form.specs.Answers.{Answer}
use Rattle.shares.specs.declared.NotSplit.{NotSplit}
use Rattle.glyph_stations.specs.Answers.{WriteAnswer}
use Rattle.glyph_reports.specs.Writing.{Report, report, report_of, station_report_of}

module _ {a : Answer} where
  pub tells_written : {n : ℕ} → a ≡ Ok n → report 0 n ≡ report_of a
  tells_written e = rw e

  pub tells_unwritten : {m : Refusal} {k : ℕ} → a ≡ Err m → k ≡ number_of m → report k 0 ≡ report_of a
  tells_unwritten e f = rw (e, f)

module _ {a : WriteAnswer} where
  pub tells_share : {b : Answer} {r : Report} → a ≡ Ok b → r ≡ report_of b → r ≡ station_report_of a
  tells_share e f = rw (e, f)

  pub tells_no_share : {why : NotSplit} → a ≡ Err why → report 22 0 ≡ station_report_of a
  tells_no_share e = rw e

pub ruleset telling_written = (tells_written, tells_unwritten, tells_share, tells_no_share)
