-- The byte of each form of a plan. Assumes nothing.
use Rattle.std.specs.Prelude.{ℕ, ◌≡◌, ◌<◌, Result, MatchResult}
use Rattle.plans.specs.declared.Form.{Form}
use Rattle.plans.specs.declared.Form.TheVariants.{Regular, Recorded, Recalled}
use Rattle.plans.specs.declared.NoForm.{NoForm}

abbrev pub byte_of : Form → ℕ
byte_of Regular = 0
byte_of Recorded = 1
byte_of Recalled = 2

-- the result is the form with this byte, or the byte is over 2
abbrev pub FormOf : ℕ → Result Form NoForm → Type 0
FormOf byte r = MatchResult r (λ form. byte_of form ≡ byte) (λ e. 2 < byte)
