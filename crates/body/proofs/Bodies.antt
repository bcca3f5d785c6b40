-- What answers each return of the function that reads what follows the first bytes. Assumes nothing.
use mathlib.Core.Path.{◌≡◌, ◌∙◌}
use mathlib.Core.List.{List}
use Prim.Native.Nat.{ℕ}
use native.Mathlib.Nat.{zero-add}
use lib.ListN.{length, replicate}
use Rattle.draft.specs.declared.Refusal.{Refusal}
use Rattle.draft.specs.Codebook.{clear}
use Rattle.draft.specs.Table.{room_of}
use Rattle.draft.specs.Read.{call_or_response}
use Rattle.codebook.specs.Words.{book_of}
use Rattle.codebook.proofs.Recording.{clear_holds}
use Rattle.std.specs.Prelude.{Ok, Err}
use Rattle.draft.specs.declared.Refused.{Refused}
use Rattle.item.specs.declared.Reached.{Reached}
use Rattle.item.specs.Contract.{Step, Did}
use Rattle.item.proofs.Readings.{Got, did_next, did_not}
use Rattle.read_answer.specs.declared.Answer.TheVariants as answer
use Rattle.read_answer.specs.Answers.{Answers}

-- what follows the first bytes, read into zeros with an empty codebook
module _ (s : List ℕ) (deep words : ℕ) {room from : ℕ} {T T₁ W W₁ : List ℕ} {step : Step} (f : room ≡ room_of 4096 words) (w : W ≡ replicate 256 0) (d : Did (call_or_response s room deep 12 0 (book_of W)) (length s) room from 0 T T₁ W₁ step) where
  began : call_or_response s (room_of 4096 words) deep 12 0 clear ≡ call_or_response s room deep 12 0 (book_of W)
  began = simp (f, w, clear_holds 256)

  pub body_no : (words₁ : ℕ) {T' : List ℕ} {x : Refused Refusal} → step ≡ Err x → T' ≡ replicate words₁ 0 → words₁ ≡ words → Answers (call_or_response s (room_of 4096 words) deep 12 0 clear) words T' (answer.Refused x.refusal x.place)
  body_no words₁ n t k =
      let o = began ∙ did_not d n in
      record { says = simp o; leaves = t ∙ simp (o, k) }

  pub body_got : {x : Reached} → step ≡ Ok x → T ≡ replicate words 0 → Answers (call_or_response s (room_of 4096 words) deep 12 0 clear) words T₁ (answer.Accepted x.row x.at)
  body_got {x} e t = go (did_next d e)
    where
      go : Got (call_or_response s room deep 12 0 (book_of W)) (length s) room from 0 T T₁ W₁ x → Answers (call_or_response s (room_of 4096 words) deep 12 0 clear) words T₁ (answer.Accepted x.row x.at)
      go g =
          let o = began ∙ g.reading in
          let n : x.row ≡ length g.rows = g.next ∙ zero-add _ in
          record { says = simp (o, n); leaves = g.wrote ∙ simp (o, f, t) }

pub ruleset bodies = (body_no, body_got)
