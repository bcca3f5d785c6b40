-- What the exported functions on messages in pieces promise: `binmode_pieces_next_within` and `_end_within`, and with the limit 8 those that state
-- none. Assumes nothing.
use Rattle.std.specs.Prelude.{List, ℕ}
use Rattle.pieces.specs.declared.State.{State}
use Rattle.pieces.specs.Steps.{Went, Closed}
use Rattle.piece_reports.specs.Words.{state_of, Kept}

-- of a piece p, with a limit of nesting, a state that is w before the call and w' after it, a room R and R', and a table T and T'
pub record PieceReported (limit : ℕ) (w p R T w' R' T' : List ℕ) (n : ℕ) : Type 0 where
  pub state : State
  pub went : Went limit (state_of w) p R T R' T' state
  pub kept : Kept state w' n

-- of the end, with a room of so many bytes
pub record EndReported (limit : ℕ) (w : List ℕ) (bytes : ℕ) (T w' T' : List ℕ) (n : ℕ) : Type 0 where
  pub state : State
  pub closed : Closed limit (state_of w) bytes T T' state
  pub kept : Kept state w' n
