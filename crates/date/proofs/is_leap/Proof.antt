-- `date::is_leap` meets its contract: by computation. Assumes nothing.
use mathlib.Core.Path.{refl}
use Rattle.lexical.specs.DateTime.{leap}
use Rattle.date.proofs.is_leap.Statement.{statement}
use Rattle.date.proofs.is_leap.Tie as tie

returns : tie.Need-returns
unfolding leap
returns c = refl

pub is_leap_spec : {M : Type 1} → statement M
is_leap_spec = tie.close (tie.spec returns)
