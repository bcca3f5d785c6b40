-- Exported calls over some pieces, each with one limit of nesting, the six words as last returned, and one room and one table untouched in between;
-- and the end call. Assumes nothing.
use Rattle.std.specs.Prelude.{List, [], ◌∷◌, ℕ}
use Rattle.piece_reports.specs.Reported.{PieceReported, EndReported}

-- the pieces, the words, room and table before the calls, and those after them; n is what a call returns
pub data Calls (limit : ℕ) : List (List ℕ) → List ℕ → List ℕ → List ℕ → List ℕ → List ℕ → List ℕ → Type 0 where
  none : {w R T : List ℕ} → Calls limit [] w R T w R T
  piece :
      {p : List ℕ} {ps : List (List ℕ)} {n : ℕ} {w R T w' R' T' w'' R'' T'' : List ℕ}
      → PieceReported limit w p R T w' R' T' n → Calls limit ps w' R' T' w'' R'' T'' → Calls limit (p ∷ ps) w R T w'' R'' T''

-- an end call with a room of so many bytes
pub record EndCall (limit : ℕ) (w : List ℕ) (bytes : ℕ) (T T' w' : List ℕ) : Type 0 where
  pub n : ℕ
  pub reported : EndReported limit w bytes T w' T' n
