-- The state of a message in pieces as six words that the caller keeps, and back. Assumes nothing.
use Rattle.std.specs.Prelude.{◌≡◌, cond, List, [], ◌∷◌, ℕ, get_or, eqb}
use Rattle.pieces.specs.declared.State.{State}
use Rattle.pieces.specs.declared.State.TheVariants.{More, Accepted, Refused}
use Rattle.pieces.specs.Pieces.{Told, more, accepted, refusal}
use Rattle.pieces.specs.Steps.{number_for, refusal_for}
use Rattle.pieces.specs.Runs.{begun}

-- the answer: 255 if more is wanted, 0 for acceptance, or the refusal's number
abbrev pub answer_for : State → ℕ
answer_for (More held wanted place) = 255
answer_for (Accepted rows used) = 0
answer_for (Refused m place) = number_for m

-- the answer, the rows, the bytes used, the place, the bytes held and the bytes wanted
abbrev pub words_of : State → List ℕ
words_of (More held wanted place) = 255 ∷ 0 ∷ 0 ∷ place ∷ held ∷ wanted ∷ []
words_of (Accepted rows used) = 0 ∷ rows ∷ used ∷ 0 ∷ 0 ∷ 0 ∷ []
words_of (Refused m place) = number_for m ∷ 0 ∷ 0 ∷ place ∷ 0 ∷ 0 ∷ []

-- a state that is kept as the words w, and answered with n
pub record Kept (state : State) (w : List ℕ) (n : ℕ) : Type 0 where
  pub words : w ≡ words_of state
  pub answer : n ≡ answer_for state

-- what six words tell their caller: more is wanted, or an answer with its numbers
abbrev pub told_by : List ℕ → Told
told_by w =
    cond (eqb (get_or w 0 0) 255) more
    (cond (eqb (get_or w 0 0) 0) (accepted (get_or w 1 0) (get_or w 2 0)) (refusal (get_or w 0 0) (get_or w 3 0)))

-- the state that some words are, which are any. No message is accepted with 0 rows: words that say so, as words of zeros do, are a message that has
-- just begun, whatever the others are
abbrev pub state_for : ℕ → ℕ → ℕ → ℕ → ℕ → ℕ → State
state_for answer rows used place held wanted =
    cond (eqb answer 255) (More held wanted place)
    (cond (eqb answer 0) (cond (eqb rows 0) begun (Accepted rows used)) (Refused (refusal_for answer) place))

unfoldable pub state_of : List ℕ → State
state_of w = state_for (get_or w 0 0) (get_or w 1 0) (get_or w 2 0) (get_or w 3 0) (get_or w 4 0) (get_or w 5 0)
