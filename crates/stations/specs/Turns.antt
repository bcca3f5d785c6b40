-- A station's calls over some pieces of a message, each with one limit of nesting, the state as last returned and one room untouched in between. The table may change in
-- between, as the other station's calls change it, as long as the share's words do not. Assumes nothing.
use Rattle.std.specs.Prelude.{◌≡◌, true, List, [], ◌∷◌, ℕ, length, Ok}
use Rattle.shares.specs.declared.Station.{Station}
use Rattle.shares.specs.Share.{splits, share_of}
use Rattle.pieces.specs.declared.State.{State}
use Rattle.station_pieces.specs.Steps.{NextFor}

-- the pieces; the state, the room and the share's words before the calls, and those after them
pub data Turns (limit : ℕ) (station : Station) : List (List ℕ) → State → List ℕ → List ℕ → State → List ℕ → List ℕ → Type 0 where
  none : {state : State} {R W : List ℕ} → Turns limit station [] state R W state R W
  piece :
      {p : List ℕ} {ps : List (List ℕ)} {state between last : State} {R W R' W' R'' W'' : List ℕ} {split : ℕ} {T T' : List ℕ}
      → splits split (length T) ≡ true → W ≡ share_of station split T → NextFor limit state p station split R T R' T' (Ok between)
      → W' ≡ share_of station split T' → Turns limit station ps between R' W' last R'' W'' → Turns limit station (p ∷ ps) state R W last R'' W''
