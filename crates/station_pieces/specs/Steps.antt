-- What each call for a message in pieces does for a station: on the share's words W what the call without stations does there, or 22. Assumes
-- nothing.
use Rattle.std.specs.Prelude.{◌≡◌, List, ℕ, length, replicate, Result, Ok, Err}
use Rattle.shares.specs.declared.Station.{Station}
use Rattle.shares.specs.declared.NotSplit.{NotSplit}
use Rattle.shares.specs.Share.{no_share, on_share, table_on}
use Rattle.pieces.specs.declared.State.{State}
use Rattle.pieces.specs.Steps.{at_first, then_left, state_went, room_went, table_went, state_closed, table_closed}

-- what is answered: the state, or 22
abbrev pub Answer : Type 0
Answer = Result State NotSplit

-- a piece p
unfoldable pub next_answer : ℕ → State → List ℕ → List ℕ → List ℕ → Answer
next_answer limit state p R W = Ok (at_first limit (length R) (state_went limit state p R (length W)))

unfoldable pub next_room : ℕ → State → List ℕ → List ℕ → List ℕ → List ℕ
next_room limit state p R W = then_left limit (length R) R (room_went state p R)

unfoldable pub next_words : ℕ → State → List ℕ → List ℕ → List ℕ → List ℕ
next_words limit state p R W = then_left limit (length R) (replicate (length W) 0) (table_went limit state p R W)

-- what a call did for a station with a piece p, a room R that is R' after it, and a table T that is T'
pub record NextFor (limit : ℕ) (state : State) (p : List ℕ) (station : Station) (split : ℕ) (R T R' T' : List ℕ) (a : Answer) : Type 0 where
  pub says : a ≡ on_share station split T (next_answer limit state p R) (Err no_share)
  pub room : R' ≡ on_share station split T (next_room limit state p R) R
  pub table : T' ≡ table_on station split T (next_words limit state p R)

-- the end, with a room of so many bytes
unfoldable pub end_answer : ℕ → State → ℕ → List ℕ → Answer
end_answer limit state bytes W = Ok (at_first limit bytes (state_closed state))

unfoldable pub end_words : ℕ → State → ℕ → List ℕ → List ℕ
end_words limit state bytes W = then_left limit bytes (replicate (length W) 0) (table_closed state W)

pub record EndFor (limit : ℕ) (state : State) (bytes : ℕ) (station : Station) (split : ℕ) (T T' : List ℕ) (a : Answer) : Type 0 where
  pub says : a ≡ on_share station split T (end_answer limit state bytes) (Err no_share)
  pub table : T' ≡ table_on station split T (end_words limit state bytes)
