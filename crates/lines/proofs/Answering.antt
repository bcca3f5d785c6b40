-- What answers each return of a card's answer. Assumes nothing.
use mathlib.Core.Path.{◌≡◌}
use mathlib.Core.List.{List, ◌∷◌}
use Prim.Native.Nat.{ℕ}
use Rattle.draft.specs.declared.Refusal.{Refusal}
use Rattle.draft.specs.Refusals.{number_of}
use Rattle.read_answer.specs.declared.Answer.{Answer}
use Rattle.read_answer.specs.declared.Answer.TheVariants.{Accepted, Refused}
use Rattle.spelling.specs.Line.{Puts, pairs}
use Rattle.lines.specs.Lines.{rows, used, refused, card_answer}
use Rattle.lines.specs.Lines as Lines

-- by the answer
module _ {a : Answer} {o o' : List ℕ} {from at : ℕ} where
  pub answers_acceptance : {n m : ℕ} → a ≡ Accepted n m → Puts (pairs (32 ∷ rows) n used m) o from o' at → Puts (card_answer a) o from o' at
  answers_acceptance e p = rw e p

  pub answers_refusal : {r : Refusal} {k p : ℕ} → a ≡ Refused r p → k ≡ number_of r → Puts (pairs (32 ∷ refused) k Lines.at p) o from o' at → Puts (card_answer a) o from o' at
  answers_refusal e f q = rw e (rw f at q)

pub ruleset answering = (answers_acceptance, answers_refusal)
