-- Request E11, a limit of nesting by choice: each sentence a field, over the promises of the calls that take a limit, and of those that judge a table.
-- `Answers`, `Did`, `planner.Did`, `Reads`, `Went`, `Closed` are those of `reader::read`, `writer::write`, `plan_writer::write`, `job::read_card`,
-- `pieces::next` and `end`; `ReadFor` and the other names that end so are those of the same calls for a station. `Runs` and `Turns` are calls over pieces
-- from the first on, without stations and for one. A call's number is its refusal's, 0 if there is none. Assumes nothing.
use Rattle.records.specs.Job.{Found, body_at}
use Rattle.std.specs.Prelude.{◌≡◌, true, false, cond, ◌↔◌, List, ◌∷◌, ℕ, ◌≤◌, length, take, replicate, Ok, Err}
use Rattle.draft.specs.declared.Refusal.{Refusal}
use Rattle.draft.specs.declared.Refusal.TheVariants.{NoLimit}
use Rattle.draft.specs.Refusals.{number_of}
use Rattle.draft.specs.Limits.{allowed}
use Rattle.draft.specs.Bytes.{Below, part}
use Rattle.draft.specs.Table.{room_of, row_at}
use Rattle.draft.specs.Meaning.{MeanSame}
use Rattle.draft.specs.Strings.{repeated, texts_of}
use Rattle.draft.specs.Writable.{writable_to}
use Rattle.draft.specs.Written.{rows_of}
use Rattle.read_answer.specs.declared.Answer.{Answer as Read}
use Rattle.read_answer.specs.declared.Answer.TheVariants as read
use Rattle.read_answer.specs.Answers.{reading, answer_of, table_of, Answers, report_of}
use Rattle.job.specs.Cards.{Answer as Card, located, Reads}
use Rattle.job.specs.Cards as job
use Rattle.pieces.specs.declared.State.{State}
use Rattle.pieces.specs.Pieces.{joined, refusal}
use Rattle.pieces.specs.Steps.{told, Went, Closed}
use Rattle.pieces.specs.Runs.{begun, Runs}
use Rattle.write_answer.specs.Answers.{Answer as Write}
use Rattle.std.specs.declared.result.Result.TheVariants as write
use Rattle.write_answer.specs.Answers as writer
use Rattle.write_answer.specs.Answers.{Did}
use Rattle.plan_writer.specs.Answers.{Answer as Planned}
use Rattle.std.specs.Prelude.{Ok}
use Rattle.plan_writer.specs.declared.PlanRefusal.TheVariants as plan
use Rattle.plan_writer.specs.Answers as planner
use Rattle.member.specs.declared.Member.{Member}
use Rattle.lookup_answer.specs.declared.Refusal.TheVariants as why
use Rattle.lookup_answer.specs.Answers.{lookup, look}
use Rattle.index.specs.Filling.{refusal_of, refusal_in}
use Rattle.index_search.specs.Through.{through_if, through}
use Rattle.choice.specs.declared.Refusal.TheVariants as unfit
use Rattle.defaults.specs.Defaults.{Source, chosen, unless, structs_then, row_in}
use Rattle.shares.specs.declared.Station.{Station}
use Rattle.shares.specs.Share.{splits, size_of, share_of}
use Rattle.station_reading.specs.Answers.{Answer as StationRead, CardAnswer as StationCard, ReadFor, CardFor}
use Rattle.station_reading.specs.Answers as at-station
use Rattle.station_pieces.specs.Steps.{Answer as StationPiece, NextFor, EndFor}
use Rattle.station_tables.specs.Answers.{WriteAnswer as StationWrite, WroteFor, write_report_of}
use Rattle.station_plans.specs.Answers.{Answer as StationPlanned}
use Rattle.station_plans.specs.Answers as planned
use Rattle.stations.specs.Turns.{Turns}
use Rattle.demands_stations.specs.Numbers.{number_told, rows_told, piece_number}
use Rattle.demands_calls.specs.Growth.{Lasts, Stays}

-- 'lookup, index and defaults judge tables at 32': the one test that each makes of a table, and 11 where it fails
pub record Judged : Type 0 where
  pub looked_up :
      (T : List ℕ) (rows : ℕ) (s : List ℕ) (r : ℕ) (key : List ℕ)
      → lookup T rows s r key ≡ cond (writable_to 32 T rows s) (look (row_at (room_of 4096 (length T)) T) rows s r key) (Err why.NotWritable)
  pub index_filled :
      (T : List ℕ) (rows : ℕ) (s : List ℕ) (r n : ℕ)
      → refusal_of T rows s r n ≡ cond (writable_to 32 T rows s) (refusal_in (room_of 4096 (length T)) (row_at (room_of 4096 (length T)) T) rows s r n) 11
  pub looked_through_lem :
      (T : List ℕ) (rows : ℕ) (s : List ℕ) (r : ℕ) (es : List Member) (key : List ℕ)
      → through T rows s r es key ≡ through_if T s (writable_to 32 T rows s) rows r es key
  pub defaulted :
      (card defaults : Source) (key : List ℕ)
      → chosen card defaults key
      ≡ unless (writable_to 32 card.table card.rows card.text) unfit.NotWritable
      (unless (writable_to 32 defaults.table defaults.rows defaults.text) unfit.NotWritable
      (structs_then (row_in card) card.rows card.text card.row (row_in defaults) defaults.rows defaults.text defaults.row key))

-- 'What 01 says of tables made by the reader, and reading back, hold where the later call's limit is not lower': never 11, nor 12 if at most 256 texts
-- repeat; and the same meaning, whatever follows the message
pub record NotLower : Type 0 where
  pub from_the_reader :
      (limit : ℕ) (s : List ℕ) (words later : ℕ) {T : List ℕ} {n used : ℕ} (out₀ out : List ℕ) {m : Refusal} → Below 256 s → limit ≤ later
      → Answers (reading limit s words) words T (read.Accepted n used) → Did later T n s out₀ out (write.Err m)
      → (number_of m ≡ 11 → ⊥) × (length (repeated (texts_of s (rows_of 4096 T n))) ≤ 256 → number_of m ≡ 12 → ⊥)
  pub from_the_reader_planned :
      (limit : ℕ) (s : List ℕ) (words later : ℕ) {T : List ℕ} {n used : ℕ} (p out₀ out : List ℕ) {a : Planned} → Below 256 s → Below 4294967296 T
      → limit ≤ later → Answers (reading limit s words) words T (read.Accepted n used) → planner.Did later T n s p out₀ out a
      → ((planner.report_of a).number ≡ 11 → ⊥)
      × (length (repeated (texts_of s (rows_of 4096 T n))) ≤ 256 → (planner.report_of a).number ≡ 12 → ⊥)
  pub read_back :
      (limit : ℕ) (T : List ℕ) (rows : ℕ) (s out₀ out : List ℕ) {n : ℕ} → Did limit T rows s out₀ out (write.Ok n) → Below 4294967296 T
      → (later : ℕ) → limit ≤ later → allowed later ≡ true → (t : List ℕ) (words : ℕ) {T' : List ℕ} {a : Read} → take n t ≡ take n out → length t ≤ 65536
      → rows ≤ room_of 4096 words → Answers (reading later t words) words T' a
      → (a ≡ read.Accepted rows n) × MeanSame s t (rows_of 4096 T rows) (rows_of 4096 T' rows)
  pub read_back_planned :
      (limit : ℕ) (T : List ℕ) (rows : ℕ) (s p out₀ out : List ℕ) {n : ℕ} → planner.Did limit T rows s p out₀ out (Ok n) → Below 4294967296 T
      → (later : ℕ) → limit ≤ later → allowed later ≡ true → (t : List ℕ) (words : ℕ) {T' : List ℕ} {a : Read} → take n t ≡ take n out → length t ≤ 65536
      → rows ≤ room_of 4096 words → Answers (reading later t words) words T' a
      → (a ≡ read.Accepted rows n) × MeanSame s t (rows_of 4096 T rows) (rows_of 4096 T' rows)

-- 'for one message, an answer other than 8, 9, 22 or 23 stays, with its place and rows, under a higher limit up to 32, a larger table (under E10, share) or
-- both, the added words being zero.' Cards are read at 32, so that for them it is a larger table alone.
pub record Growth : Type 0 where
  pub read_grows :
      (s : List ℕ) {limit later words words' : ℕ} → limit ≤ later → allowed later ≡ true → words ≤ words' → {T T' : List ℕ} {a b : Read}
      → Answers (reading limit s words) words T a → Answers (reading later s words') words' T' b → Lasts (report_of a).number
      → Stays a b (report_of a).rows T T'
  pub card_grows :
      (s : List ℕ) (f : Found) {words words' : ℕ} → words ≤ words' → {T T' : List ℕ} {a b : Card} → Reads s words f T a → Reads s words' f T' b
      → Lasts (job.report_of a).number → Stays a b (job.report_of a).rows T T'
  pub station_grows :
      (here there : Station) (split split' : ℕ) (T U : List ℕ) → splits split' (length U) ≡ true → (s : List ℕ)
      → size_of here split (length T) ≤ size_of there split' (length U) → {T' U' : List ℕ} {limit later : ℕ} → limit ≤ later → allowed later ≡ true
      → {a b : StationRead} → ReadFor limit s here split T T' a → ReadFor later s there split' U U' b → Lasts (at-station.report_of a).number
      → Stays a b (at-station.report_of a).rows (share_of here split T') (share_of there split' U')
  pub station_card_grows :
      (here there : Station) (split split' : ℕ) (T U : List ℕ) → splits split' (length U) ≡ true → (s : List ℕ)
      → size_of here split (length T) ≤ size_of there split' (length U) → {T' U' : List ℕ} (number : ℕ) {a b : StationCard}
      → CardFor s number here split T T' a → CardFor s number there split' U U' b → Lasts (at-station.card_report_of a).number
      → Stays a b (at-station.card_report_of a).rows (share_of here split T') (share_of there split' U')
  -- in pieces: after each piece, and after the end call however the message is cut; with rooms of at least 65,536 bytes, since 4 speaks of the room alone
  pub piece_grows :
      {limit later : ℕ} → limit ≤ later → allowed later ≡ true → (R₀ T₀ Q₀ U₀ : List ℕ) → 65536 ≤ length R₀ → 65536 ≤ length Q₀ → length T₀ ≤ length U₀
      → (p : List ℕ) (ps : List (List ℕ)) {a b : State} {R T Q U : List ℕ} → Runs limit (p ∷ ps) begun R₀ T₀ a R T → Runs later (p ∷ ps) begun Q₀ U₀ b Q U
      → Lasts (number_told (told a)) → Stays (told a) (told b) (rows_told (told a)) T U
  pub end_grows :
      {limit later : ℕ} → limit ≤ later → allowed later ≡ true → (R₀ T₀ Q₀ U₀ : List ℕ) → 65536 ≤ length R₀ → 65536 ≤ length Q₀ → length T₀ ≤ length U₀
      → (ps qs : List (List ℕ)) → joined ps ≡ joined qs → length (joined ps) ≤ 65536 → {a b a' b' : State} {R T T' Q U U' : List ℕ}
      → Runs limit ps begun R₀ T₀ a R T → Closed limit a (length R) T T' a' → Runs later qs begun Q₀ U₀ b Q U → Closed later b (length Q) U U' b'
      → Lasts (number_told (told a')) → Stays (told a') (told b') (rows_told (told a')) T' U'
  pub station_piece_grows :
      {limit later : ℕ} → limit ≤ later → allowed later ≡ true → (R₀ W₀ Q₀ X₀ : List ℕ) → 65536 ≤ length R₀ → 65536 ≤ length Q₀ → length W₀ ≤ length X₀
      → (here there : Station) (p : List ℕ) (ps : List (List ℕ)) {a b : State} {R W Q X : List ℕ} → Turns limit here (p ∷ ps) begun R₀ W₀ a R W
      → Turns later there (p ∷ ps) begun Q₀ X₀ b Q X → Lasts (number_told (told a)) → Stays (told a) (told b) (rows_told (told a)) W X
  pub station_end_grows :
      {limit later : ℕ} → limit ≤ later → allowed later ≡ true → (R₀ W₀ Q₀ X₀ : List ℕ) → 65536 ≤ length R₀ → 65536 ≤ length Q₀ → length W₀ ≤ length X₀
      → (here there : Station) (split split' : ℕ) (T U : List ℕ) (ps qs : List (List ℕ)) → joined ps ≡ joined qs → length (joined ps) ≤ 65536
      → {a b a' b' : State} {R Q T' U' : List ℕ} → Turns limit here ps begun R₀ W₀ a R (share_of here split T)
      → EndFor limit a (length R) here split T T' (Ok a') → Turns later there qs begun Q₀ X₀ b Q (share_of there split' U)
      → EndFor later b (length Q) there split' U U' (Ok b') → Lasts (number_told (told a'))
      → Stays (told a') (told b') (rows_told (told a')) (share_of here split T') (share_of there split' U')

-- 'Refusals: 23 for a limit outside 1 to 32, before all but 22, with table or output zeroed and E6's room unchanged.' So exactly then, whatever else is
-- asked; in pieces from the first call on, since a state that the caller hands in may be one that was refused with 23.
pub record Outside : Type 0 where
  pub read :
      (limit : ℕ) (s : List ℕ) (words : ℕ) {T : List ℕ} {a : Read} → Answers (reading limit s words) words T a
      → (((report_of a).number ≡ 23) ↔ (allowed limit ≡ false)) × (allowed limit ≡ false → (a ≡ read.Refused NoLimit 0) × (T ≡ replicate words 0))
  pub write :
      (limit : ℕ) (T : List ℕ) (rows : ℕ) (s out₀ out : List ℕ) {a : Write} → Did limit T rows s out₀ out a
      → (((writer.report_of a).number ≡ 23) ↔ (allowed limit ≡ false)) × (allowed limit ≡ false → out ≡ replicate (length out₀) 0)
  pub write_planned :
      (limit : ℕ) (T : List ℕ) (rows : ℕ) (s p out₀ out : List ℕ) {a : Planned} → planner.Did limit T rows s p out₀ out a
      → (((planner.report_of a).number ≡ 23) ↔ (allowed limit ≡ false)) × (allowed limit ≡ false → out ≡ replicate (length out₀) 0)
  pub pieces :
      (limit : ℕ) (R₀ T₀ : List ℕ) → 65536 ≤ length R₀ → (p : List ℕ) (ps : List (List ℕ)) {state : State} {R T : List ℕ}
      → Runs limit (p ∷ ps) begun R₀ T₀ state R T → (number_told (told state) ≡ 23) ↔ (allowed limit ≡ false)
  pub next :
      (limit : ℕ) (state : State) {p R T R' T' : List ℕ} {state' : State} → Went limit state p R T R' T' state' → allowed limit ≡ false
      → (told state' ≡ refusal 23 0) × (R' ≡ R) × (T' ≡ replicate (length T) 0)
  pub end :
      (limit : ℕ) (state : State) {bytes : ℕ} {T T' : List ℕ} {state' : State} → Closed limit state bytes T T' state' → allowed limit ≡ false
      → (told state' ≡ refusal 23 0) × (T' ≡ replicate (length T) 0)

-- and for a station with a share
pub record OutsideOnShare (at : Station) (split : ℕ) (T : List ℕ) (limit : ℕ) : Type 0 where
  pub read :
      (s : List ℕ) {T' : List ℕ} {a : StationRead} → ReadFor limit s at split T T' a
      → (((at-station.report_of a).number ≡ 23) ↔ (allowed limit ≡ false))
      × (allowed limit ≡ false → (a ≡ Ok (read.Refused NoLimit 0)) × (share_of at split T' ≡ replicate (size_of at split (length T)) 0))
  pub next :
      (state : State) (p R : List ℕ) {R' T' : List ℕ} {a : StationPiece} → NextFor limit state p at split R T R' T' a → allowed limit ≡ false
      → (piece_number a ≡ 23) × (R' ≡ R) × (share_of at split T' ≡ replicate (size_of at split (length T)) 0)
  pub end :
      (state : State) (bytes : ℕ) {T' : List ℕ} {a : StationPiece} → EndFor limit state bytes at split T T' a → allowed limit ≡ false
      → (piece_number a ≡ 23) × (share_of at split T' ≡ replicate (size_of at split (length T)) 0)
  pub write :
      (rows : ℕ) (s out : List ℕ) {out' : List ℕ} {a : StationWrite} → WroteFor limit T at split rows s out out' a
      → (((write_report_of a).number ≡ 23) ↔ (allowed limit ≡ false)) × (allowed limit ≡ false → out' ≡ replicate (length out) 0)
  pub write_planned :
      (rows : ℕ) (s p out : List ℕ) {out' : List ℕ} {a : StationPlanned} → planned.WroteFor limit T at split rows s p out out' a
      → (((planned.report_of a).number ≡ 23) ↔ (allowed limit ≡ false)) × (allowed limit ≡ false → out' ≡ replicate (length out) 0)

pub record E11 : Type 0 where
  -- 'No real card nests more than 5 deep.' Nothing is said of answers.
  -- 'Reader and writer take a limit of 1 to 32;'
  pub limits : (limit : ℕ) → (allowed limit ≡ true) ↔ ((1 ≤ limit) × (limit ≤ 32))
  -- 'calls that state none now get 8.' They are the functions of binmode/src/usual.rt, which binmode_c exports and whose contracts are those of the calls that state a limit, with 8.
  -- 'The listing and the job file reader state 32;' the listing in listings/specs/Listing.Lists, whose contract is `reading 32`
  pub job_states :
      (s : List ℕ) (words start size : ℕ) {T : List ℕ} {a : Card} → Reads s words (body_at start size) T a
      → (a ≡ located start (answer_of (reading 32 (part s start size) words))) × (T ≡ table_of words (reading 32 (part s start size) words))
  -- 'lookup, index and defaults judge tables at 32.'
  pub judged : Judged
  -- 'What 01 says of tables made by the reader, and reading back, hold where the later call's limit is not lower.'
  pub not_lower : NotLower
  -- 'Also show: for one message, an answer other than 8, 9, 22 or 23 stays, ..'
  pub growth : Growth
  -- 'E6's law has one limit in all its calls; with more, its results are free.' `Runs` and `Turns` have one; E6's own page has its law.
  -- 'Refusals: 23 for a limit outside 1 to 32, before all but 22, with table or output zeroed and E6's room unchanged.' Behind 22: E10.refused is for any limit
  pub outside : Outside
  pub outside_on_share : (at : Station) (split : ℕ) (T : List ℕ) → splits split (length T) ≡ true → (limit : ℕ) → OutsideOnShare at split T limit
  -- 'E10's answers depend on the limit too.' In E10's fields the two calls that are compared have one limit.
