-- The calls that a station may make on the table, each with its promise: what is asked, and what is told. Assumes nothing.
use Rattle.std.specs.Prelude.{List, ℕ, Err}
use Rattle.shares.specs.declared.Station.{Station}
use Rattle.shares.specs.Share.{no_share}
use Rattle.pieces.specs.declared.State.{State}
use Rattle.station_reading.specs.Answers.{Answer, CardAnswer, ReadFor, CardFor}
use Rattle.station_pieces.specs.Steps.{Answer as PieceAnswer, NextFor, EndFor}

-- a message, with a limit of nesting; a card of a job file, by its number; a piece, with a limit, the state before it and the room; the end, with
-- a limit, the state and the room's length
pub data Asked : Type 0 where
  a_message : ℕ → List ℕ → Asked
  a_card : List ℕ → ℕ → Asked
  a_piece : ℕ → State → List ℕ → List ℕ → Asked
  an_end : ℕ → State → ℕ → Asked

-- the answer; after a piece also the room
pub data Told : Type 0 where
  of_message : Answer → Told
  of_card : CardAnswer → Told
  of_piece : PieceAnswer → List ℕ → Told
  of_end : PieceAnswer → Told

-- a call on a table T, which is T' after it
pub data Called (station : Station) (split : ℕ) (T T' : List ℕ) : Asked → Told → Type 0 where
  reads : {limit : ℕ} {s : List ℕ} {a : Answer} → ReadFor limit s station split T T' a → Called station split T T' (a_message limit s) (of_message a)
  reads_card :
      {s : List ℕ} {n : ℕ} {a : CardAnswer} → CardFor s n station split T T' a → Called station split T T' (a_card s n) (of_card a)
  takes :
      {limit : ℕ} {state : State} {p R R' : List ℕ} {a : PieceAnswer} → NextFor limit state p station split R T R' T' a
      → Called station split T T' (a_piece limit state p R) (of_piece a R')
  ends :
      {limit : ℕ} {state : State} {bytes : ℕ} {a : PieceAnswer} → EndFor limit state bytes station split T T' a
      → Called station split T T' (an_end limit state bytes) (of_end a)

-- what is told with 22: that, and the room as it was
abbrev pub not_split : Asked → Told
not_split (a_message limit s) = of_message (Err no_share)
not_split (a_card s n) = of_card (Err no_share)
not_split (a_piece limit state p R) = of_piece (Err no_share) R
not_split (an_end limit state bytes) = of_end (Err no_share)
