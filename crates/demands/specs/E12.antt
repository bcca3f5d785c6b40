-- Request E12, rows kept as columns: each sentence a field, over the promises of the calls that leave a table and the definitions that those which are lent
-- one are equated with. `Kept words rows T` is a table of so many words that has these rows as columns, zeros in all other words, and the rows of the table
-- before the request. `SameRows by_rows place T₀ T` ties a table T₀ of the layout before to a table T of columns: as long, with the same rows as far as there
-- is room, and with the same words behind them; `write_by`, `lookup_by` .. are the definitions by any layout, of crate layouts. Assumes nothing.
use Rattle.std.specs.Prelude.{◌≡◌, true, List, ◌∷◌, ℕ, ◌+◌, ◌*◌, ◌≤◌, ◌<◌, length, get_or, take, drop, Ok}
use Rattle.draft.specs.Bytes.{Below}
use Rattle.draft.specs.Limits.{allowed}
use Rattle.draft.specs.Table.{room_of, place, from}
use Rattle.draft.specs.Writable.{writable_to}
use Rattle.read_answer.specs.declared.Answer.{Answer as Read}
use Rattle.read_answer.specs.Answers.{reading, Answers}
use Rattle.records.specs.Job.{body_of, Found}
use Rattle.job.specs.Cards.{Answer as Card, Reads}
use Rattle.pieces.specs.declared.State.{State}
use Rattle.pieces.specs.Steps.{Closed}
use Rattle.pieces.specs.Runs.{begun, Runs}
use Rattle.shares.specs.declared.Station.{Station}
use Rattle.shares.specs.declared.Station.TheVariants.{Four, Five}
use Rattle.shares.specs.Share.{splits, first_word, size_of, share_of}
use Rattle.station_reading.specs.Answers.{Answer as StationRead, CardAnswer as StationCard, ReadFor, CardFor}
use Rattle.station_pieces.specs.Steps.{EndFor}
use Rattle.stations.specs.Turns.{Turns}
use Rattle.write_answer.specs.Answers.{Answer as Write}
use Rattle.write_answer.specs.Answers.{Did}
use Rattle.plan_writer.specs.Answers.{Answer as Planned}
use Rattle.plan_writer.specs.Answers as planner
use Rattle.certificate.specs.Certificate.{certified}
use Rattle.lookup_answer.specs.Answers.{lookup}
use Rattle.lookup_answer.specs.Reports.{report_of}
use Rattle.placing.specs.Placing.{position}
use Rattle.member.specs.declared.Member.{Member}
use Rattle.index.specs.Filling.{entries, Filled}
use Rattle.index_search.specs.Through.{through, key_at, reports_of}
use Rattle.defaults.specs.Defaults.{source, chosen}
use Rattle.written.specs.Derivable.{HoldAlike}
use Rattle.layouts.specs.Layouts.{by_rows, SameRows, turned}
use Rattle.layouts.specs.Asking.{writable_by, write_by, written_by, plan_by, planned_by, certified_by, lookup_by, position_by, refusal_by, order_by, through_by, chosen_by}
use Rattle.demands_calls.specs.Columns.{rows_in, decided, card_rows, Kept}

-- the table after each call that reads has the rows of its reading as columns; the share's words do, after each such call for a station
pub record AfterReading : Type 0 where
  pub read :
      (limit : ℕ) (s : List ℕ) (words : ℕ) {T : List ℕ} {a : Read} → Answers (reading limit s words) words T a
      → Kept words (rows_in (reading limit s words)) T
  pub card : (s : List ℕ) (words : ℕ) (f : Found) {T : List ℕ} {a : Card} → Reads s words f T a → Kept words (card_rows s words f) T
  pub piece :
      (limit : ℕ) → allowed limit ≡ true → (R₀ T₀ : List ℕ) → 65536 ≤ length R₀ → (p : List ℕ) (ps : List (List ℕ)) {state : State} {R T : List ℕ}
      → Runs limit (p ∷ ps) begun R₀ T₀ state R T → Kept (length T₀) (rows_in (decided limit (length T₀) (p ∷ ps))) T
  pub end :
      (limit : ℕ) → allowed limit ≡ true → (R₀ T₀ : List ℕ) → 65536 ≤ length R₀ → (ps : List (List ℕ)) {state last : State} {R T T' : List ℕ}
      → Runs limit ps begun R₀ T₀ state R T → Closed limit state (length R) T T' last → Kept (length T₀) (rows_in (decided limit (length T₀) ps)) T'
  pub station_read :
      (station : Station) (split : ℕ) (T : List ℕ) → splits split (length T) ≡ true → {T' : List ℕ} (limit : ℕ) (s : List ℕ) {a : StationRead}
      → ReadFor limit s station split T T' a
      → Kept (size_of station split (length T)) (rows_in (reading limit s (size_of station split (length T)))) (share_of station split T')
  pub station_card :
      (station : Station) (split : ℕ) (T : List ℕ) → splits split (length T) ≡ true → {T' : List ℕ} (s : List ℕ) (number : ℕ) {a : StationCard}
      → CardFor s number station split T T' a
      → Kept (size_of station split (length T)) (card_rows s (size_of station split (length T)) (body_of s number)) (share_of station split T')
  pub station_piece :
      (limit : ℕ) → allowed limit ≡ true → (R₀ W₀ : List ℕ) → 65536 ≤ length R₀ → (station : Station) (p : List ℕ) (ps : List (List ℕ)) {state : State}
      → {R W : List ℕ} → Turns limit station (p ∷ ps) begun R₀ W₀ state R W → Kept (length W₀) (rows_in (decided limit (length W₀) (p ∷ ps))) W
  pub station_end :
      (limit : ℕ) → allowed limit ≡ true → (R₀ W₀ : List ℕ) → 65536 ≤ length R₀ → (station : Station) (split : ℕ) (T : List ℕ) (ps : List (List ℕ))
      → {state last : State} {R T' : List ℕ} → Turns limit station ps begun R₀ W₀ state R (share_of station split T)
      → EndFor limit state (length R) station split T T' (Ok last) → Kept (length W₀) (rows_in (decided limit (length W₀) ps)) (share_of station split T')

-- each call that is lent a table T of columns answers what it answered for the table T₀ with the same rows, the same stated number of them and the same text
-- bytes
pub record AsBefore (T₀ T : List ℕ) (rows : ℕ) (s : List ℕ) : Type 0 where
  pub judged : (limit : ℕ) → writable_to limit T rows s ≡ writable_by by_rows limit T₀ rows s
  pub write :
      (limit : ℕ) (out : List ℕ) {out' : List ℕ} {a : Write} → Did limit T rows s out out' a
      → (a ≡ write_by by_rows limit T₀ rows s (length out)) × (out' ≡ written_by by_rows limit T₀ rows s (length out))
  pub write_planned :
      (limit : ℕ) (plan out : List ℕ) {out' : List ℕ} {a : Planned} → planner.Did limit T rows s plan out out' a
      → (a ≡ plan_by by_rows limit T₀ rows s plan (length out)) × (out' ≡ planned_by by_rows limit T₀ rows s plan (length out))
  pub proved_shortest : (plan prices : List ℕ) → certified T rows s plan prices ≡ certified_by by_rows T₀ rows s plan prices
  pub looked_up : (r : ℕ) (key : List ℕ) → lookup T rows s r key ≡ lookup_by by_rows T₀ rows s r key
  pub placed : (r : ℕ) → position T rows s r ≡ position_by by_rows T₀ rows s r
  pub index_filled :
      (r n : ℕ) {answer : ℕ} {es : List Member} → Filled T rows s r n answer es
      → (answer ≡ refusal_by by_rows T₀ rows s r n) × (es ≡ entries (order_by by_rows T₀ rows s r n) n)
  pub looked_through_lem : (r : ℕ) (es : List Member) (key : List ℕ) → through T rows s r es key ≡ through_by by_rows T₀ rows s r es key
  pub many_looked_through :
      (r : ℕ) (es : List Member) (keys ends : List ℕ) (n : ℕ)
      → reports_of T rows s r es keys ends n ≡ from (λ i. report_of (through_by by_rows T₀ rows s r es (key_at keys ends i))) 0 n

pub record E12 : Type 0 where
  -- 'The new heads fetch all kinds in one sweep.' Nothing is said of answers.
  -- 'With room for c rows, the table becomes c kinds, then c a's, then c b's, then c ends; spare words stay zero.' and 'word j of row r stands at c times j
  -- plus r.'
  pub word_stands : (c r j : ℕ) → place c r j ≡ c * j + r
  pub after_reading : AfterReading
  -- 'Show that every answer is as before': an answer to a call that reads has no layout in it, and the table's rows are `Kept.as_before`; of calls that are
  -- lent a table, for any two tables with the same rows, and there is one for each
  pub turned_to_columns : (T₀ : List ℕ) → SameRows by_rows place T₀ (turned by_rows place T₀)
  pub turned_to_rows : (T : List ℕ) → SameRows place by_rows T (turned place by_rows T)
  pub as_before :
      {T₀ T : List ℕ} → SameRows by_rows place T₀ T → Below 4294967296 T₀ → Below 4294967296 T → (rows : ℕ) (s : List ℕ) → Below 256 s
      → AsBefore T₀ T rows s
  pub defaults_as_before :
      (T₀ U₀ T U : List ℕ) (rows rows' : ℕ) (s s' : List ℕ) (r r' : ℕ) → SameRows by_rows place T₀ T → SameRows by_rows place U₀ U → Below 4294967296 T₀
      → Below 4294967296 T → Below 4294967296 U₀ → Below 4294967296 U → Below 256 s → Below 256 s' → (key : List ℕ)
      → chosen (source T rows s r) (source U rows' s' r') key ≡ chosen_by by_rows (source T₀ rows s r) (source U₀ rows' s' r') key
  -- 'E11 then compares rows, not words in place.' So does its `Stays`.
  -- 'A share under E10 has its columns inside its own words, station four's first.'
  pub share_inside :
      (station : Station) (split : ℕ) (T : List ℕ) (r j : ℕ) → r < room_of 4096 (size_of station split (length T)) → j < 4
      → (room_of 4096 (size_of station split (length T)) * j + r < size_of station split (length T))
      × (get_or (share_of station split T) (room_of 4096 (size_of station split (length T)) * j + r) 0
      ≡ get_or T (first_word station split + (room_of 4096 (size_of station split (length T)) * j + r)) 0)
  pub four_first :
      (split words : ℕ) → splits split words ≡ true
      → (first_word Four split ≡ 0) × (first_word Four split + size_of Four split words ≡ first_word Five split)
  -- 'Writer, lookup, index and defaults go over, the writer not looking past the stated rows in any column;' they are in `as_before`
  pub stated_columns :
      (limit : ℕ) (T T' : List ℕ) (rows : ℕ) (s out₀ out₁ out out' : List ℕ) {a a' : Write} → Below 4294967296 T → Below 4294967296 T' → Below 256 s
      → HoldAlike rows T T' → length out₀ ≡ length out₁ → Did limit T rows s out₀ out a → Did limit T' rows s out₁ out' a'
      → ((j : ℕ) → j < 4 → take rows (drop (room_of 4096 (length T) * j) T) ≡ take rows (drop (room_of 4096 (length T') * j) T')) → (a ≡ a') × (out ≡ out')
  -- 'the listing's output stays byte for byte.' Its lines are listings/specs/Listing of the rows; what is stored of every example did not change.
