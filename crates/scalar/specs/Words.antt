-- Which items have a fixed size, and a step in one word. Assumes nothing.
use Rattle.std.specs.Prelude.{ℕ, ◌≡◌, ◌<◌, ◌/◌, ◌%◌, Bool, ◌||◌, cond, eqb, Ok, Err}
use Rattle.draft.specs.declared.Refusal.{Refusal}
use Rattle.draft.specs.declared.Refused.{Refused}
use Rattle.draft.specs.Refusals.{refusal_of}
use Rattle.item.specs.declared.Reached.{Reached}
use Rattle.item.specs.Contract.{Step, read_to, refused_at}

-- an Integer, a Boolean or a recalled String
unfoldable pub fixed_size : ℕ → Bool
fixed_size b = eqb b 73 || eqb b 116 || eqb b 102 || eqb b 60

-- the place in the lowest 20 bits, the row in the next 20, and above them a refusal's number or 0
abbrev pub step_of : ℕ → Step
step_of w = cond (eqb (w / 1048576 / 1048576) 0) (read_to (w % 1048576) (w / 1048576 % 1048576)) (refused_at (refusal_of (w / 1048576 / 1048576)) (w % 1048576))

-- what a step that fits one word keeps to
pub record Small (step : Step) : Type 0 where
  pub place : (x : Reached) → step ≡ Ok x → x.at < 1048576
  pub row : (x : Reached) → step ≡ Ok x → x.row < 1048576
  pub refused : (x : Refused Refusal) → step ≡ Err x → x.place < 1048576
