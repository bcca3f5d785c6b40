-- What the writer's functions do: one that only refuses, and one that writes a form. Assumes nothing.
use Rattle.std.specs.Prelude.{◌≡◌, List, length, replicate, ℕ, Err}
use Rattle.draft.specs.declared.Refusal.{Refusal}
use Rattle.glyph_form.specs.Answers.{answer_for, output_of, Answer}

-- a refusal leaves zeros
pub record RefusedWith (refusal : Refusal) (out out' : List ℕ) (answer : Answer) : Type 0 where
  pub says : answer ≡ Err refusal
  pub leaves : out' ≡ replicate (length out) 0

-- the form's answer, and what it leaves
pub record Filled (form out out' : List ℕ) (answer : Answer) : Type 0 where
  pub says : answer ≡ answer_for (length form) (length out)
  pub leaves : out' ≡ output_of answer form (length out)
