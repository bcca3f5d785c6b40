-- What a rule says of some content: nothing against it, or a refusal. Assumes nothing.
use Rattle.std.specs.Prelude.{Result}
use Rattle.draft.specs.declared.Refusal.{Refusal}

abbrev pub Verdict : Type 0
Verdict = Result (Unit {0}) Refusal
