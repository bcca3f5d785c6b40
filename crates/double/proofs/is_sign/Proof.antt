-- `double::is_sign` meets its contract: by computation. Assumes nothing.
use mathlib.Core.Path.{refl}
use Rattle.lexical.specs.Double.{sign}
use Rattle.double.proofs.is_sign.Statement.{statement}
use Rattle.double.proofs.is_sign.Tie as tie

returns : tie.Need-returns
unfolding sign
returns c = refl

pub is_sign_spec : {M : Type 1} → statement M
is_sign_spec = tie.close (tie.spec returns)
