-- What is wrong with bytes that are no Double, or no DateTime. Assumes nothing.
use Rattle.std.specs.Prelude.{Bool, true, false}
use Rattle.draft.specs.declared.Refusal.{Refusal}
use Rattle.draft.specs.declared.Refusal.TheVariants.{BadText, BadValue}

-- by whether they are ASCII: 5 if they are not, and only then 17
abbrev pub flaw : Bool → Refusal
flaw true = BadValue
flaw false = BadText
