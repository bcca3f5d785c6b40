-- What answers each return of the exported functions that take a station. Assumes nothing.
use Rattle.std.specs.Prelude.{Err}
use mathlib.Core.Path.{◌≡◌, ◌∙◌, ap}
use mathlib.Core.List.{List}
use Prim.Native.Nat.{ℕ}
use Rattle.shares.specs.declared.Station.{Station}
use Rattle.shares.specs.Share.{no_share, station_of, split_for, on_share}
use Rattle.read_answer.specs.Answers as readers
use Rattle.job.specs.Cards as jobs
use Rattle.write_answer.specs.Answers as writers
use Rattle.lookup_answer.specs.declared.Report.{Report}
use Rattle.placing.specs.declared.Position.{Position}
use Rattle.pieces.specs.declared.State.{State}
use Rattle.station_reading.specs.Answers as SR
use Rattle.station_reading.specs.Answers.{ReadFor, CardFor, report_of, card_report_of}
use Rattle.station_pieces.specs.Steps as SP
use Rattle.station_pieces.specs.Steps.{NextFor, EndFor}
use Rattle.station_tables.specs.Answers as SW
use Rattle.station_tables.specs.Answers.{WroteFor, write_report_of, lookup_answer, lookup_report_of, position_answer}
use Rattle.plan_writer.specs.Answers as planners
use Rattle.station_plans.specs.Answers as planned
use Rattle.piece_reports.specs.Words.{state_of}
use Rattle.station_reports.specs.Numbers.{PieceKept, StationPlaced}
use Rattle.binmode.specs.Stations.{StationRead, StationCard, StationPiece, StationEnd, StationWrote, StationPlanned}

-- the station and the row are those of a number
module _ (number split : ℕ) {row : ℕ} {station : Station} (i : row ≡ split_for number split) (k : station ≡ station_of number) where
  pub station_read :
      (limit : ℕ) (s : List ℕ) {T T' : List ℕ} {a : SR.Answer} {r : readers.Report} → ReadFor limit s station row T T' a → r ≡ report_of a
      → StationRead limit s number split T T' r
  station_read limit s d e = let g = rw (i, k) at d in record { numbers = e ∙ ap report_of g.says; table = g.leaves }

  pub station_card :
      (s : List ℕ) (n : ℕ) {T T' : List ℕ} {a : SR.CardAnswer} {r : jobs.Report} → CardFor s n station row T T' a → r ≡ card_report_of a
      → StationCard s n number split T T' r
  station_card s n d e = let g = rw (i, k) at d in record { numbers = e ∙ ap card_report_of g.says; table = g.leaves }

  module _ (limit : ℕ) (w : List ℕ) {before : State} (b : before ≡ state_of w) {a : SP.Answer} {w' : List ℕ} {n : ℕ} where
    pub station_piece :
        {p R T R' T' : List ℕ} → NextFor limit before p station row R T R' T' a → PieceKept a w w' n → StationPiece limit w p number split R T w' R' T' n
    station_piece d e = record { answer = a; went = rw (b, i, k) at d; kept = e }

    pub station_end : {bytes : ℕ} {T T' : List ℕ} → EndFor limit before bytes station row T T' a → PieceKept a w w' n → StationEnd limit w bytes number split T w' T' n
    station_end d e = record { answer = a; closed = rw (b, i, k) at d; kept = e }

  module _ (T : List ℕ) (rows : ℕ) (s : List ℕ) where
    pub station_written :
        (limit : ℕ) (out : List ℕ) {out' : List ℕ} {a : SW.WriteAnswer} {r : writers.Report} → WroteFor limit T station row rows s out out' a → r ≡ write_report_of a
        → StationWrote limit T number split rows s out out' r
    station_written limit out d e = let g = rw (i, k) at d in record { numbers = e ∙ ap write_report_of g.says; output = g.leaves }

    pub station_planned :
        (limit : ℕ) (p out : List ℕ) {out' : List ℕ} {a : planned.Answer} {r : planners.Report} → planned.WroteFor limit T station row rows s p out out' a
        → r ≡ planned.report_of a → StationPlanned limit T number split rows s p out out' r
    station_planned limit p out d e = let g = rw (i, k) at d in record { numbers = e ∙ ap planned.report_of g.says; output = g.leaves }

    pub station_member :
        (r : ℕ) (key : List ℕ) {a : SW.LookupAnswer} {x : Report} → a ≡ on_share station row T (lookup_answer rows s r key) (Err no_share)
        → x ≡ lookup_report_of a → x ≡ lookup_report_of (on_share (station_of number) (split_for number split) T (lookup_answer rows s r key) (Err no_share))
    station_member r key d f = let g = rw (i, k) at d in f ∙ ap lookup_report_of g

    pub station_position :
        (r : ℕ) {a : SW.PositionAnswer} {n : ℕ} {v : Position} → a ≡ on_share station row T (position_answer rows s r) (Err no_share)
        → StationPlaced a n v → StationPlaced (on_share (station_of number) (split_for number split) T (position_answer rows s r) (Err no_share)) n v
    station_position r d f = let g = rw (i, k) at d in rw g at f

pub ruleset at_stations = (station_read, station_card, station_piece, station_end, station_written, station_planned, station_member, station_position)
