-- What answers each return. Assumes nothing.
use mathlib.Core.Path.{◌≡◌, refl, ap}
use Prim.Native.Nat.{ℕ}
use lib.IntN.{ℤ}
use mir.Syntax.{w64}
use mir.Val.{SFits, to_z, of_z}
use mir.Facts.{to_z-of_z}
use Rattle.lookup_answer.specs.declared.Report.{Report}
use Rattle.lookup_answer.specs.Reports.{reported}
use Rattle.placing.specs.declared.Placed.{Placed}
use Rattle.placing.specs.Placing.{outcome_number, at}
use Rattle.lookup_reports.specs.Numbers.{PositionReported}

pub tells_member : (r : Report) → SFits w64 r.whole
    → reported r.number r.sort (to_z w64 (of_z w64 r.whole)) r.decimal r.offset r.length ≡ r
tells_member r g = ap (λ (z : ℤ). reported r.number r.sort z r.decimal r.offset r.length) (to_z-of_z g)

pub tells_position : (p : Placed) {n : ℕ} → n ≡ outcome_number p.outcome
    → PositionReported p n (at p.position.x p.position.y p.position.turn)
tells_position p f = record { says = f; gives = refl }

pub ruleset telling = (tells_member, tells_position)
