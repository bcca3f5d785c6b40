-- What the functions do that refuse, or that write rows which were judged before. Assumes nothing.
use Rattle.std.specs.Prelude.{ℕ, ◌≡◌, List, length, replicate, Err}
use Rattle.draft.specs.declared.Row.{Row}
use Rattle.plan_writer.specs.declared.PlanRefusal.{PlanRefusal}
use Rattle.plan_writer.specs.Answers.{Answer, chosen, answer_by, output_of}

-- a refusal leaves zeros
pub record RefusedWith (refusal : PlanRefusal) (out out' : List ℕ) (answer : Answer) : Type 0 where
  pub says : answer ≡ Err refusal
  pub leaves : out' ≡ replicate (length out) 0

-- rows written by a plan
pub record DidBy (s : List ℕ) (rows : List Row) (plan out out' : List ℕ) (answer : Answer) : Type 0 where
  pub says : answer ≡ answer_by s rows plan (length out)
  pub leaves : out' ≡ output_of answer (chosen s rows plan) (length out)
