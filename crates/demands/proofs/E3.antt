-- E3 holds: both checks promise `well_formed`, which is RFC 3629's syntax. Assumes nothing.
use mathlib.Core.Path.{sym, ◌∙◌}
use Rattle.text.proofs.Grammar.{accepted, derived}
use Rattle.demands.specs.E3.{E3}

pub holds : E3
holds = record {
  answer = λ s r e. (λ f. derived s (sym e ∙ f), λ u. e ∙ accepted u);
  answer_same = λ s r r' e f. e ∙ sym f;
}
