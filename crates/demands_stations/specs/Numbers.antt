-- What is told of a call, in the papers' numbers: of a message in pieces, and of any call of a station that may change the table. Assumes nothing.
use Rattle.std.specs.Prelude.{ℕ, Ok, Err}
use Rattle.pieces.specs.Pieces as pieces
use Rattle.pieces.specs.Steps.{told}
use Rattle.station_reading.specs.Answers.{report_of, card_report_of}
use Rattle.station_pieces.specs.Steps.{Answer as PieceAnswer}
use Rattle.stations.specs.Calls.{Told, of_message, of_card, of_piece, of_end}

-- in pieces: the refusal's number, 0 if there is none; and how many rows were accepted
abbrev pub number_told : pieces.Told → ℕ
number_told pieces.more = 0
number_told (pieces.accepted rows used) = 0
number_told (pieces.refusal n place) = n

abbrev pub rows_told : pieces.Told → ℕ
rows_told pieces.more = 0
rows_told (pieces.accepted rows used) = rows
rows_told (pieces.refusal n place) = 0

-- in pieces, for a station
abbrev pub piece_number : PieceAnswer → ℕ
piece_number (Ok state) = number_told (told state)
piece_number (Err why) = 22

-- of a message, a card, a piece or the end
abbrev pub call_number : Told → ℕ
call_number (of_message a) = (report_of a).number
call_number (of_card a) = (card_report_of a).number
call_number (of_piece a R) = piece_number a
call_number (of_end a) = piece_number a
