-- Request E12: a table is four columns, and every answer is as it was when a table was one row after the other. `SameRows by_rows place T₀ T` ties a table
-- T₀ of that layout to a table T of columns: as long, with the same rows as far as there is room, and with the same words behind them. `table_by`, `write_by`,
-- `lookup_by` .. are crate layouts' definitions with the layout as a parameter; by `place` they are those that the functions promise. Assumes nothing.
use Rattle.std.specs.Prelude.{Ok, Err}
use mathlib.Core.Path.{◌≡◌, refl, sym, ap, ◌∙◌, fun_ext}
use mathlib.Core.Bool.{true}
use mathlib.Core.List.{List, [], ◌∷◌}
use Prim.Native.Nat.{ℕ, ◌+◌, ◌*◌, ◌≤◌, ◌<◌}
use native.Mathlib.Omega.{arith}
use lib.Seq.{get_or-take, get_or-drop}
use lib.ListN.{length, get_or, drop}
use Rattle.draft.specs.declared.Refusal.TheVariants.{TooLong}
use Rattle.draft.specs.Bytes.{part}
use Rattle.draft.specs.Table.{room_of, place, row_at, from}
use Rattle.draft.specs.Read.{refused}
use Rattle.draft.specs.Limits.{allowed}
use Rattle.draft.specs.Writable.{writable_within, writable_to, writable}
use Rattle.draft.specs.Written.{rows_of}
use Rattle.table.proofs.Rows.{place_in}
use Rattle.read_answer.specs.declared.Answer.{Answer as ReaderAnswer}
use Rattle.read_answer.specs.Answers.{reading, Answers}
use Rattle.records.specs.Job.{body_of, Found, body_at, missing_at}
use Rattle.job.specs.Cards.{Answer as JobAnswer, Reads}
use Rattle.pieces.specs.declared.State.{State}
use Rattle.pieces.specs.Pieces.{through as throughPieces}
use Rattle.pieces.specs.Steps.{Closed}
use Rattle.pieces.specs.Runs.{begun, Runs}
use Rattle.shares.specs.declared.Station.{Station}
use Rattle.shares.specs.Share.{splits, first_word, size_of, share_of}
use Rattle.station_reading.specs.Answers.{Answer as StationAnswer, CardAnswer, ReadFor, CardFor}
use Rattle.station_pieces.specs.Steps.{EndFor}
use Rattle.stations.specs.Turns.{Turns}
use Rattle.stations.proofs.Owning.{turns_run}
use Rattle.cuts.proofs.Holding.{same_room}
use Rattle.cuts.proofs.Running as run
use Rattle.write_answer.specs.Answers.{Answer as WriterAnswer}
use Rattle.write_answer.specs.Answers as writer
use Rattle.plan_writer.specs.Answers.{Answer as PlanAnswer}
use Rattle.plan_writer.specs.Answers as plan_writer
use Rattle.certificate.specs.Certificate.{certified}
use Rattle.lookup_answer.specs.Answers.{lookup}
use Rattle.lookup_answer.specs.Reports.{report_of}
use Rattle.placing.specs.Placing.{position}
use Rattle.member.specs.declared.Member.{Member}
use Rattle.index.specs.Filling.{refusal_of, order_of, entries, Filled}
use Rattle.index_search.specs.Through.{found_row, row_answer, through_if, through, key_at, reports_of}
use Rattle.defaults.specs.Defaults.{Source, chosen}
use Rattle.layouts.specs.Layouts.{by_rows, Lays, row_by, SameRows, turned}
use Rattle.layouts.specs.Asking.{rows_by, writable_by, write_by, written_by, plan_by, planned_by, certified_by, lookup_by, position_by, refusal_by, order_by, found_row_by, row_answer_by, through_by, chosen_by}
use Rattle.layouts.proofs.Storing.{rows_lay, columns_lay, turned_same}
use Rattle.layouts.proofs.Tying as tying
use Rattle.layouts.proofs.Tying.{with_table}
use Rattle.demands_writing.proofs.Writing.{Words, Octets}
use Rattle.demands_pieces.proofs.Pieces.{table_settled}
use Rattle.demands_stations.proofs.Stations.{own_read, own_card, its_end}
use Rattle.demands_calls.specs.Columns.{rows_in, decided, card_rows, Kept}
use Rattle.demands_calls.proofs.Tables.{fits, fits_outcome, kept}

-- ---- columns

-- WHERE A WORD STANDS. In a table with room for c rows, word j of row r, 0 to 3 for kind, a, b and end, stands at c times j plus r.
pub word_stands : (c r j : ℕ) → place c r j ≡ c * j + r
unfolding place
word_stands c r j = refl

-- THE TABLE AFTER A CALL THAT READS keeps the rows as columns, and has those of the table before the request. Its answer has no layout in it.
pub read_kept : (limit : ℕ) (s : List ℕ) (words : ℕ) {T : List ℕ} {a : ReaderAnswer} → Answers (reading limit s words) words T a → Kept words (rows_in (reading limit s words)) T
read_kept limit s words d = kept words (reading limit s words) (fits limit s words (reading limit s words) refl) d.leaves

-- a card of a job file
pub card_kept : (s : List ℕ) (words : ℕ) (f : Found) {T : List ℕ} {a : JobAnswer} → Reads s words f T a → Kept words (card_rows s words f) T
card_kept s words (Ok body) d = kept words (reading 32 (part s body.start body.length) words) (fits 32 (part s body.start body.length) words _ refl) d.leaves
card_kept s words (Err none) d = kept words (refused TooLong 0) tt d.leaves

-- in pieces: after a piece, however the message is cut, and after the end call
module _ (limit : ℕ) (ok : allowed limit ≡ true) (R₀ T₀ : List ℕ) (long : 65536 ≤ length R₀) where
  pub piece_kept :
      (p : List ℕ) (ps : List (List ℕ)) {state : State} {R T : List ℕ} → Runs limit (p ∷ ps) begun R₀ T₀ state R T
      → Kept (length T₀) (rows_in (decided limit (length T₀) (p ∷ ps))) T
  piece_kept p ps calls =
      kept (length T₀) (decided limit (length T₀) (p ∷ ps)) (fits_outcome limit (throughPieces limit (length T₀) [] (p ∷ ps)) (length T₀))
      (table_settled limit ok R₀ T₀ long p ps calls)

  pub end_kept :
      (ps : List (List ℕ)) {state last : State} {R T T' : List ℕ} → Runs limit ps begun R₀ T₀ state R T → Closed limit state (length R) T T' last
      → Kept (length T₀) (rows_in (decided limit (length T₀) ps)) T'
  end_kept ps {R = R} {T = T} {T' = T'} calls c =
      let n = run.run_stands limit ok R₀ T₀ ps long calls in
      let k : 65536 ≤ length R = omega (arith, ap length n.room, same_room (throughPieces limit (length T₀) [] ps) R₀ long) in
      kept (length T₀) (decided limit (length T₀) ps) (fits_outcome limit (throughPieces limit (length T₀) [] ps) (length T₀))
      (run.end_is limit ok (length T₀) (length R) T T' _ k n.size n.is c).table

  -- FOR A STATION: the share's words, as a table of their own
  pub station_piece_kept :
      (station : Station) (p : List ℕ) (ps : List (List ℕ)) {state : State} {R W : List ℕ} → Turns limit station (p ∷ ps) begun R₀ T₀ state R W
      → Kept (length T₀) (rows_in (decided limit (length T₀) (p ∷ ps))) W
  station_piece_kept station p ps ts = piece_kept p ps (turns_run ts)

  pub station_end_kept :
      (station : Station) (split : ℕ) (T : List ℕ) (ps : List (List ℕ)) {state last : State} {R T' : List ℕ}
      → Turns limit station ps begun R₀ T₀ state R (share_of station split T) → EndFor limit state (length R) station split T T' (Ok last)
      → Kept (length T₀) (rows_in (decided limit (length T₀) ps)) (share_of station split T')
  station_end_kept station split T ps ts c = end_kept ps (turns_run ts) (its_end station split T c)

module _ (station : Station) (split : ℕ) (T : List ℕ) (ok : splits split (length T) ≡ true) {T' : List ℕ} where
  pub station_kept :
      (limit : ℕ) (s : List ℕ) {a : StationAnswer} → ReadFor limit s station split T T' a
      → Kept (size_of station split (length T)) (rows_in (reading limit s (size_of station split (length T)))) (share_of station split T')
  station_kept limit s d = read_kept limit s (size_of station split (length T)) (own_read station split T ok limit s d).did

  pub station_card_kept :
      (s : List ℕ) (number : ℕ) {a : CardAnswer} → CardFor s number station split T T' a
      → Kept (size_of station split (length T)) (card_rows s (size_of station split (length T)) (body_of s number)) (share_of station split T')
  station_card_kept s number d = card_kept s (size_of station split (length T)) (body_of s number) (own_card station split T ok s number d).did

-- IN A SHARE the columns are inside its own words, and as long as its own room: word j of its row r stands at that room times j plus r from its first word.
module _ (station : Station) (split : ℕ) (T : List ℕ) where
  abbrev own : ℕ
  own = room_of 4096 (size_of station split (length T))

  pub share_inside : (r j : ℕ) → r < own → j < 4 → own * j + r < size_of station split (length T)
  unfolding place
  share_inside r j h k = omega (arith, place_in own r j h k)

  pub share_word : (r j : ℕ) → r < own → j < 4 → get_or (share_of station split T) (own * j + r) 0 ≡ get_or T (first_word station split + (own * j + r)) 0
  unfolding share_of
  share_word r j h k =
      get_or-take (size_of station split (length T)) (drop (first_word station split) T) (own * j + r) 0 (share_inside r j h k)
      ∙ get_or-drop (first_word station split) T (own * j + r) 0

-- ---- as before

-- BOTH LAYOUTS have a word of each row in the table, and no two at one place.
pub by_rows_lays : Lays by_rows
by_rows_lays = rows_lay

pub by_columns_lays : Lays place
by_columns_lays = columns_lay

-- TURNED. Any table of rows is turned into a table of columns with the same rows, and any of columns into one of rows.
pub turned_columns : (T₀ : List ℕ) → SameRows by_rows place T₀ (turned by_rows place T₀)
turned_columns T₀ = turned_same rows_lay columns_lay T₀

pub turned_rows : (T : List ℕ) → SameRows place by_rows T (turned place by_rows T)
turned_rows T = turned_same columns_lay rows_lay T

-- A TABLE T₀ OF ROWS AND A TABLE T OF COLUMNS that has its rows, with one stated number of rows and the same text bytes: every call that is lent T answers
-- what it answered for T₀.
module _ {T₀ T : List ℕ} (tie : SameRows by_rows place T₀ T) (w₀ : Words T₀) (w : Words T) (rows : ℕ) (s : List ℕ) (o : Octets s) where
  -- JUDGED, to be written to a limit and to be looked at.
  pub writable_tied : (limit : ℕ) → writable_to limit T rows s ≡ writable_by by_rows limit T₀ rows s
  unfolding writable_to writable_within writable_by row_by row_at
  writable_tied limit = sym (tying.writable_same tie w₀ w rows s o limit)

  -- WRITTEN: the answer, and every byte of the output.
  write_says : (limit room : ℕ) → writer.answer_of limit T rows s room ≡ write_by by_rows limit T₀ rows s room
  unfolding writer.answer_of writer.form_of write_by writable_to writable_within writable_by rows_by rows_of row_by row_at
  write_says limit room = sym (tying.write_same tie w₀ w rows s o limit room)

  write_leaves : (limit room : ℕ) → writer.output_of (writer.answer_of limit T rows s room) (writer.form_of T rows s) room ≡ written_by by_rows limit T₀ rows s room
  unfolding writer.answer_of writer.form_of written_by write_by writable_to writable_within writable_by rows_by rows_of row_by row_at
  write_leaves limit room = sym (tying.written_same tie w₀ w rows s o limit room)

  pub write_tied :
      (limit : ℕ) (out : List ℕ) {out' : List ℕ} {a : WriterAnswer} → writer.Did limit T rows s out out' a
      → (a ≡ write_by by_rows limit T₀ rows s (length out)) × (out' ≡ written_by by_rows limit T₀ rows s (length out))
  write_tied limit out d = (
    d.says ∙ write_says limit (length out),
    d.leaves ∙ ap (λ (x : WriterAnswer). writer.output_of x (writer.form_of T rows s) (length out)) d.says ∙ write_leaves limit (length out),
  )

  -- WITH A PLAN, and what prices prove.
  plan_says : (limit : ℕ) (plan : List ℕ) (room : ℕ) → plan_writer.answer_of limit T rows s plan room ≡ plan_by by_rows limit T₀ rows s plan room
  unfolding plan_writer.answer_of plan_by writable_to writable_within writable_by rows_by rows_of row_by row_at
  plan_says limit plan room = sym (tying.plan_same tie w₀ w rows s o limit plan room)

  plan_leaves :
      (limit : ℕ) (plan : List ℕ) (room : ℕ)
      → plan_writer.output_of (plan_writer.answer_of limit T rows s plan room) (plan_writer.message_for T rows s plan) room ≡ planned_by by_rows limit T₀ rows s plan room
  unfolding plan_writer.answer_of plan_writer.message_for planned_by plan_by writable_to writable_within writable_by rows_by rows_of row_by row_at
  plan_leaves limit plan room = sym (tying.planned_same tie w₀ w rows s o limit plan room)

  pub plan_tied :
      (limit : ℕ) (plan out : List ℕ) {out' : List ℕ} {a : PlanAnswer} → plan_writer.Did limit T rows s plan out out' a
      → (a ≡ plan_by by_rows limit T₀ rows s plan (length out)) × (out' ≡ planned_by by_rows limit T₀ rows s plan (length out))
  plan_tied limit plan out d = (
    d.says ∙ plan_says limit plan (length out),
    d.leaves ∙ ap (λ (x : PlanAnswer). plan_writer.output_of x (plan_writer.message_for T rows s plan) (length out)) d.says ∙ plan_leaves limit plan (length out),
  )

  pub certified_tied : (plan prices : List ℕ) → certified T rows s plan prices ≡ certified_by by_rows T₀ rows s plan prices
  unfolding certified certified_by writable writable_within writable_by rows_by rows_of row_by row_at
  certified_tied plan prices = sym (tying.certified_same tie w₀ w rows s o plan prices)

  -- LOOKED UP, a member and a position.
  pub lookup_tied : (r : ℕ) (key : List ℕ) → lookup T rows s r key ≡ lookup_by by_rows T₀ rows s r key
  unfolding lookup lookup_by writable writable_within writable_by row_by row_at
  lookup_tied r key = sym (tying.lookup_same tie w₀ w rows s o r key)

  pub position_tied : (r : ℕ) → position T rows s r ≡ position_by by_rows T₀ rows s r
  unfolding position position_by lookup lookup_by writable writable_within writable_by row_by row_at
  position_tied r = sym (tying.position_same tie w₀ w rows s o r)

  -- AN INDEX: filled, with its entries; and keys looked up through any list.
  fill_number : (r n : ℕ) → refusal_of T rows s r n ≡ refusal_by by_rows T₀ rows s r n
  unfolding refusal_of refusal_by writable writable_within writable_by row_by row_at
  fill_number r n = sym (tying.fill_same tie w₀ w rows s o r n)

  fill_order : (r n : ℕ) → order_of T rows s r n ≡ order_by by_rows T₀ rows s r n
  unfolding order_of order_by writable writable_within writable_by row_by row_at
  fill_order r n = sym (tying.order_same_by tie w₀ w rows s o r n)

  pub fill_tied : (r n : ℕ) {answer : ℕ} {es : List Member} → Filled T rows s r n answer es → (answer ≡ refusal_by by_rows T₀ rows s r n) × (es ≡ entries (order_by by_rows T₀ rows s r n) n)
  fill_tied r n f = (f.answers ∙ fill_number r n, f.list ∙ ap (λ (ks : List ℕ). entries ks n) (fill_order r n))

  pub through_tied : (r : ℕ) (es : List Member) (key : List ℕ) → through T rows s r es key ≡ through_by by_rows T₀ rows s r es key
  unfolding through through_if found_row row_answer through_by found_row_by row_answer_by writable writable_within writable_by row_by row_at
  through_tied r es key = sym (tying.through_same tie w₀ w rows s o r es key)

  pub reports_tied :
      (r : ℕ) (es : List Member) (keys ends : List ℕ) (n : ℕ)
      → reports_of T rows s r es keys ends n ≡ from (λ i. report_of (through_by by_rows T₀ rows s r es (key_at keys ends i))) 0 n
  unfolding reports_of
  reports_tied r es keys ends n = ap (λ (f : ℕ → _). from f 0 n) (fun_ext (λ i. ap report_of (through_tied r es (key_at keys ends i))))

-- DEFAULTS behind a card: whose text it is and where it lies, and so the part that is handed out.
pub chosen_tied :
    (card defaults : Source) {T U : List ℕ} → SameRows by_rows place card.table T → SameRows by_rows place defaults.table U
    → Words card.table → Words T → Words defaults.table → Words U → Octets card.text → Octets defaults.text
    → (key : List ℕ) → chosen (with_table card T) (with_table defaults U) key ≡ chosen_by by_rows card defaults key
unfolding chosen chosen_by writable writable_within writable_by row_by row_at
chosen_tied card defaults tie tie' w x w' x' o o' key = sym (tying.chosen_same card defaults tie tie' w x w' x' o o' key)
