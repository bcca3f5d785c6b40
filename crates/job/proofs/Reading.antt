-- What answers each return of the functions that read a card. Assumes nothing.
use mathlib.Core.Path.{◌≡◌, ap, ◌∙◌}
use mathlib.Core.List.{List}
use Prim.Native.Nat.{ℕ}
use lib.ListN.{replicate}
use Rattle.std.specs.Prelude.{Err, Ok}
use Rattle.records.specs.Job.{Found}
use Rattle.draft.specs.declared.Refusal.{Refusal}
use Rattle.draft.specs.Bytes.{part}
use Rattle.read_answer.specs.declared.Answer.{Answer as ReaderAnswer}
use Rattle.read_answer.specs.declared.Answer.TheVariants as reader
use Rattle.read_answer.specs.Answers.{reading, Answers}
use Rattle.records.specs.declared.Body.{Body}
use Rattle.records.specs.declared.Missing as none
use Rattle.job.specs.Cards.{Answer, accepted_at, located, Reads}
use Rattle.job.specs.declared.JobFault.{JobFault}
use Rattle.job.specs.declared.JobFault.TheVariants.{Refused, Missing}

module _ {a : ReaderAnswer} (start : ℕ) where
  pub locate_accepted : {rows used : ℕ} → a ≡ reader.Accepted rows used → accepted_at rows used start ≡ located start a
  locate_accepted e = rw e

  pub locate_refused : {m : Refusal} {p : ℕ} → a ≡ reader.Refused m p → Err (Refused m p) ≡ located start a
  locate_refused e = rw e

module _ (s : List ℕ) {words : ℕ} {f g : Found} (i : f ≡ g) {T : List ℕ} where
  pub reads_missing :
      {m : none.Missing} {x : JobFault} → f ≡ Err m → T ≡ replicate words 0 → x ≡ Missing m.refusal m.place → Reads s words g T (Err x)
  reads_missing e t h = record { says = rw (← i, e, h); leaves = t ∙ rw (← i, e) }

  pub reads_body :
      {card : Body} {body : List ℕ} {r : ReaderAnswer} {a : Answer} → f ≡ Ok card → body ≡ part s card.start card.length
      → Answers (reading 32 body words) words T r → a ≡ located card.start r → Reads s words g T a
  reads_body {card} e b d l =
      record { says = l ∙ ap (located card.start) d.says ∙ rw (← i, e, b); leaves = d.leaves ∙ rw (← i, e, b) }

pub ruleset cards = (locate_accepted, locate_refused, reads_missing, reads_body)
