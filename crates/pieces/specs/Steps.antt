-- What each call does, for any limit of nesting, state, room and table. Assumes nothing.
use Rattle.std.specs.Prelude.{◌≡◌, cond, List, ℕ, ◌+◌, ◌-◌, min, length, take, replicate, ltb, eqb}
use Rattle.draft.specs.declared.Refusal.TheVariants.{TooLong, Ended, NoLimit}
use Rattle.draft.specs.Refusals.{number_of, refusal_of}
use Rattle.draft.specs.Limits.{allowed}
use Rattle.draft.specs.Read.{Reading, got, refused}
use Rattle.wanting.specs.Want.{want_of}
use Rattle.read_answer.specs.Answers.{reading}
use Rattle.rereading.specs.Rereading.{table_read}
use Rattle.room.specs.Room.{taken, room_after}
use Rattle.pieces.specs.declared.PieceRefusal.{PieceRefusal}
use Rattle.pieces.specs.declared.PieceRefusal.TheVariants.{Message, ShortRoom}
use Rattle.pieces.specs.declared.State.{State}
use Rattle.pieces.specs.declared.State.TheVariants.{More, Accepted, Refused}
use Rattle.pieces.specs.Pieces.{Told, more, accepted, refusal}

-- the papers' number of a refusal
abbrev pub number_for : PieceRefusal → ℕ
number_for (Message m) = number_of m
number_for ShortRoom = 4

-- the refusal that has a number
abbrev pub refusal_for : ℕ → PieceRefusal
refusal_for n = cond (eqb n 4) ShortRoom (Message (refusal_of n))

-- what a state tells
abbrev pub told : State → Told
told (More held wanted place) = more
told (Accepted rows used) = accepted rows used
told (Refused m place) = refusal (number_for m) place

-- after n bytes more, with `held` held before: more is wanted; or 10, if there is no room for one of them
abbrev pub still_more : ℕ → ℕ → ℕ → ℕ → State
still_more held n wanted place =
    cond (ltb (65536 - held) n) (Refused (Message TooLong) 0) (More (held + n) wanted place)

-- how many bytes are wanted where the bytes s are refused with 1 at a place: as many as the item there has, and at most 65,537, since
-- with that byte there is an answer
abbrev pub wanted_of : List ℕ → ℕ → ℕ
wanted_of s place = min 65537 (want_of s place)

-- what reading the bytes s in the room comes to
abbrev pub state_of : ℕ → ℕ → List ℕ → Reading → State
state_of held n s (got rows used book) = Accepted (length rows) used
state_of held n s (refused m place) =
    cond (eqb (number_of m) 1) (still_more held n (wanted_of s place) place) (Refused (Message m) place)

-- the bytes held after a piece
abbrev pub bytes_held : ℕ → List ℕ → List ℕ → List ℕ
bytes_held held p R = take (held + taken held p) (room_after held p R)

-- the state after a piece, where the room is long enough. Nothing is read while fewer bytes are held than are wanted. A state that no call
-- gives, with more than 65,536 bytes held, is refused with 10
unfoldable pub state_went : ℕ → State → List ℕ → List ℕ → ℕ → State
state_went limit (More held wanted place) p R words =
    cond (ltb 65536 held) (Refused (Message TooLong) 0)
    (cond (ltb (held + taken held p) wanted) (still_more held (length p) wanted place)
    (state_of held (length p) (bytes_held held p R) (reading limit (bytes_held held p R) words)))
state_went limit (Accepted rows used) p R words = Accepted rows used
state_went limit (Refused m place) p R words = Refused m place

-- the room after it
unfoldable pub room_went : State → List ℕ → List ℕ → List ℕ
room_went (More held wanted place) p R = cond (ltb 65536 held) R (room_after held p R)
room_went (Accepted rows used) p R = R
room_went (Refused m place) p R = R

-- the table after it
unfoldable pub table_went : ℕ → State → List ℕ → List ℕ → List ℕ → List ℕ
table_went limit (More held wanted place) p R T =
    cond (ltb 65536 held) T
    (cond (ltb (held + taken held p) wanted) T (table_read limit wanted (bytes_held held p R) T))
table_went limit (Accepted rows used) p R T = T
table_went limit (Refused m place) p R T = T

-- what reading the bytes s in the room did
pub record Settled (limit held n wanted : ℕ) (s T T' : List ℕ) (state : State) : Type 0 where
  pub says : state ≡ state_of held n s (reading limit s (length T))
  pub table : T' ≡ table_read limit wanted s T

-- what is refused before all else, whatever the state: 23, then 4
abbrev pub at_first : ℕ → ℕ → State → State
at_first limit bytes state =
    cond (allowed limit) (cond (ltb bytes 65536) (Refused ShortRoom 0) state) (Refused (Message NoLimit) 0)

-- what is left of lent words or bytes: where that is refused, the first
abbrev pub then_left : ℕ → ℕ → List ℕ → List ℕ → List ℕ
then_left limit bytes first left = cond (allowed limit) (cond (ltb bytes 65536) first left) first

-- what a call with a piece p did
pub record Went (limit : ℕ) (state : State) (p R T R' T' : List ℕ) (state' : State) : Type 0 where
  pub says : state' ≡ at_first limit (length R) (state_went limit state p R (length T))
  pub room : R' ≡ then_left limit (length R) R (room_went state p R)
  pub table : T' ≡ then_left limit (length R) (replicate (length T) 0) (table_went limit state p R T)

-- the end: where more is wanted, 1 at the place it would have
abbrev pub state_closed : State → State
state_closed (More held wanted place) = Refused (Message Ended) place
state_closed (Accepted rows used) = Accepted rows used
state_closed (Refused m place) = Refused m place

abbrev pub table_closed : State → List ℕ → List ℕ
table_closed (More held wanted place) T = replicate (length T) 0
table_closed (Accepted rows used) T = T
table_closed (Refused m place) T = T

-- what an end call did, with a room of so many bytes
pub record Closed (limit : ℕ) (state : State) (bytes : ℕ) (T T' : List ℕ) (state' : State) : Type 0 where
  pub says : state' ≡ at_first limit bytes (state_closed state)
  pub table : T' ≡ then_left limit bytes (replicate (length T) 0) (table_closed state T)
