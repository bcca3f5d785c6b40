-- A run of calls over some pieces, each with one limit of nesting, the state as last returned, and one room and one table untouched
-- in between. Assumes nothing.
use Rattle.std.specs.Prelude.{List, [], ◌∷◌, ℕ}
use Rattle.pieces.specs.declared.State.{State}
use Rattle.pieces.specs.declared.State.TheVariants.{More}
use Rattle.pieces.specs.Steps.{Went}

-- the state of a message of which nothing has come
abbrev pub begun : State
begun = More 0 0 0

-- the pieces, the state, room and table before the calls, and those after them
pub data Runs (limit : ℕ) : List (List ℕ) → State → List ℕ → List ℕ → State → List ℕ → List ℕ → Type 0 where
  none : {state : State} {R T : List ℕ} → Runs limit [] state R T state R T
  piece :
      {p : List ℕ} {ps : List (List ℕ)} {state between last : State} {R T R' T' R'' T'' : List ℕ}
      → Went limit state p R T R' T' between → Runs limit ps between R' T' last R'' T'' → Runs limit (p ∷ ps) state R T last R'' T''
