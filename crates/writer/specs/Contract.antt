-- What the writer's functions do that only refuse. Assumes nothing.
use Rattle.std.specs.Prelude.{ℕ, ◌≡◌, List, length, replicate, Err}
use Rattle.draft.specs.declared.Refusal.{Refusal}
use Rattle.write_answer.specs.Answers.{Answer}

-- a refusal leaves zeros
pub record RefusedWith (refusal : Refusal) (out out' : List ℕ) (answer : Answer) : Type 0 where
  pub says : answer ≡ Err refusal
  pub leaves : out' ≡ replicate (length out) 0
