-- Request E10, stations four and five on one table: each sentence a field, over the promises of the calls for a station. `ReadFor limit s station split T T'
-- a` is that of `station_reading::read`, of a message s into a table T that is split at a row and is T' after the call; `CardFor` that of `read_card`;
-- `NextFor` and `EndFor` those of `station_pieces::next` and `end`, with a room R that is R'; `WroteFor` that of `station_tables::write`, `planned.WroteFor`
-- that of `station_plans::write`; `lookup` and `position_of` equate their answer with `on_share`. `Called station split T T' q a` is any of the first four,
-- asked q and told a. None has a `requires`. Assumes nothing.
use Rattle.std.specs.Prelude.{◌≡◌, true, false, ◌↔◌, List, [], ◌∷◌, ℕ, ◌+◌, ◌*◌, ◌/◌, ◌≤◌, ◌<◌, pos, Ok, Err, length, take, drop}
use Rattle.draft.specs.Limits.{allowed}
use Rattle.shares.specs.declared.Station.{Station}
use Rattle.shares.specs.declared.Station.TheVariants.{Four, Five}
use Rattle.shares.specs.Share.{no_share, other, splits, first_word, size_of, share_of, on_share}
use Rattle.read_answer.specs.Answers.{reading, table_of}
use Rattle.lookup_answer.specs.Answers as lookups
use Rattle.lookup_answer.specs.Reports.{plus_zero, reported as lookedUp}
use Rattle.placing.specs.Placing.{at, position}
use Rattle.pieces.specs.declared.State.{State}
use Rattle.pieces.specs.Pieces.{joined, told_of, outcome, through, room_with, so_far}
use Rattle.pieces.specs.Steps.{told}
use Rattle.pieces.specs.Runs.{begun}
use Rattle.station_reading.specs.Answers.{Answer as Read, CardAnswer as Card, ReadFor, CardFor}
use Rattle.station_reading.specs.Answers as report
use Rattle.station_pieces.specs.Steps.{Answer as Piece, NextFor, EndFor}
use Rattle.station_plans.specs.Answers.{Answer as Planned}
use Rattle.station_plans.specs.Answers as planned
use Rattle.station_tables.specs.Answers.{WriteAnswer as Write, WroteFor, lookup_answer, position_answer, write_report_of, lookup_report_of, position_number, position_values}
use Rattle.stations.specs.Calls.{Asked, Told, Called, not_split}
use Rattle.stations.specs.Owned.{OwnRead, OwnCard, OwnPiece, OwnEnd, OwnWrite, OwnPlanned}
use Rattle.stations.specs.Turns.{Turns}
use Rattle.demands_stations.specs.Numbers.{call_number}

-- two calls at whatever stations, on tables split at whatever rows, with shares of one size: the same is answered, and the shares have the same words after it
pub record OfOneSize (here there : Station) (split split' : ℕ) (T U : List ℕ) : Type 0 where
  pub read :
      (limit : ℕ) (s : List ℕ) {T' U' : List ℕ} {a b : Read} → ReadFor limit s here split T T' a → ReadFor limit s there split' U U' b
      → (a ≡ b) × (share_of here split T' ≡ share_of there split' U')
  pub card :
      (s : List ℕ) (number : ℕ) {T' U' : List ℕ} {a b : Card} → CardFor s number here split T T' a → CardFor s number there split' U U' b
      → (a ≡ b) × (share_of here split T' ≡ share_of there split' U')

-- and with shares of the same words, which are then its material: the same is answered, and equally long outputs have the same bytes after it
pub record OfTheSameWords (here there : Station) (split split' : ℕ) (T U : List ℕ) : Type 0 where
  pub write :
      (limit rows : ℕ) (s out out₁ : List ℕ) → length out ≡ length out₁ → {out' out₁' : List ℕ} {a b : Write}
      → WroteFor limit T here split rows s out out' a → WroteFor limit U there split' rows s out₁ out₁' b → (a ≡ b) × (out' ≡ out₁')
  pub plan :
      (limit rows : ℕ) (s p out out₁ : List ℕ) → length out ≡ length out₁ → {out' out₁' : List ℕ} {a b : Planned}
      → planned.WroteFor limit T here split rows s p out out' a → planned.WroteFor limit U there split' rows s p out₁ out₁' b → (a ≡ b) × (out' ≡ out₁')
  pub looked_up :
      (rows : ℕ) (s : List ℕ) (r : ℕ) (key : List ℕ)
      → on_share here split T (lookup_answer rows s r key) (Err no_share) ≡ on_share there split' U (lookup_answer rows s r key) (Err no_share)
  pub placed :
      (rows : ℕ) (s : List ℕ) (r : ℕ)
      → on_share here split T (position_answer rows s r) (Err no_share) ≡ on_share there split' U (position_answer rows s r) (Err no_share)

-- what the call without stations does on a table of the share's size is what a station's call does on its share: the answer, and the share's words after it
pub record AsAlone (station : Station) (split : ℕ) (T : List ℕ) : Type 0 where
  pub read :
      (limit : ℕ) (s : List ℕ) {T' : List ℕ} {a : Read} → ReadFor limit s station split T T' a
      → OwnRead limit s (size_of station split (length T)) (share_of station split T') a
  pub card :
      (s : List ℕ) (number : ℕ) {T' : List ℕ} {a : Card} → CardFor s number station split T T' a
      → OwnCard s number (size_of station split (length T)) (share_of station split T') a
  pub piece :
      (limit : ℕ) (state : State) (p R : List ℕ) {R' T' : List ℕ} {a : Piece} → NextFor limit state p station split R T R' T' a
      → OwnPiece limit state p R (share_of station split T) R' (share_of station split T') a
  pub end :
      (limit : ℕ) (state : State) (bytes : ℕ) {T' : List ℕ} {a : Piece} → EndFor limit state bytes station split T T' a
      → OwnEnd limit state bytes (share_of station split T) (share_of station split T') a
  pub write :
      (limit rows : ℕ) (s out : List ℕ) {out' : List ℕ} {a : Write} → WroteFor limit T station split rows s out out' a
      → OwnWrite limit (share_of station split T) rows s out out' a
  pub plan :
      (limit rows : ℕ) (s p out : List ℕ) {out' : List ℕ} {a : Planned} → planned.WroteFor limit T station split rows s p out out' a
      → OwnPlanned limit (share_of station split T) rows s p out out' a
  pub looked_up :
      (rows : ℕ) (s : List ℕ) (r : ℕ) (key : List ℕ)
      → on_share station split T (lookup_answer rows s r key) (Err no_share) ≡ Ok (lookups.lookup (share_of station split T) rows s r key)
  pub placed :
      (rows : ℕ) (s : List ℕ) (r : ℕ)
      → on_share station split T (position_answer rows s r) (Err no_share) ≡ Ok (position (share_of station split T) rows s r)

pub record E10 : Type 0 where
  -- 'There is one table. The job names a row: rows below it are station four's, the rest five's.'
  pub side_by_side :
      (split words : ℕ) → splits split words ≡ true
      → (first_word Four split ≡ 0) × (size_of Four split words ≡ split * 4) × (first_word Five split ≡ split * 4)
      × (first_word Five split + size_of Five split words ≡ words / 4 * 4)
  pub share_is :
      (station : Station) (split : ℕ) (T : List ℕ) → share_of station split T ≡ take (size_of station split (length T)) (drop (first_word station split) T)
  -- 'A station changes no word of the other's share,'
  pub others_stay :
      {station : Station} {split : ℕ} {T T' : List ℕ} {q : Asked} {a : Told} → Called station split T T' q a → splits split (length T) ≡ true
      → share_of (other station) split T' ≡ share_of (other station) split T
  -- 'and, 22 and E6's free results apart, its answers and its share's words depend only on its own material and the share's size.' In pieces that is after
  -- each piece and after the end call, with any calls of the other station in between; so that calls of the two can be made in either order.
  pub size_settles :
      (here there : Station) (split split' : ℕ) (T U : List ℕ) → splits split (length T) ≡ true → splits split' (length U) ≡ true
      → size_of here split (length T) ≡ size_of there split' (length U) → OfOneSize here there split split' T U
  pub words_settle :
      (here there : Station) (split split' : ℕ) (T U : List ℕ) → splits split (length T) ≡ true → splits split' (length U) ≡ true
      → share_of here split T ≡ share_of there split' U → OfTheSameWords here there split split' T U
  pub pieces_settle :
      (limit : ℕ) (here there : Station) (R₀ W₀ X₀ : List ℕ) → length W₀ ≡ length X₀ → (p : List ℕ) (ps : List (List ℕ)) {a b : State} {R Q W X : List ℕ}
      → Turns limit here (p ∷ ps) begun R₀ W₀ a R W → Turns limit there (p ∷ ps) begun R₀ X₀ b Q X → (a ≡ b) × (R ≡ Q) × (W ≡ X)
  pub end_settled :
      (limit : ℕ) (here there : Station) (split split' : ℕ) (T U : List ℕ) → splits split (length T) ≡ true → splits split' (length U) ≡ true
      → (R₀ W₀ X₀ : List ℕ) → length W₀ ≡ length X₀ → (p : List ℕ) (ps : List (List ℕ)) {a b : State} {R Q T' U' : List ℕ} {x y : Piece}
      → Turns limit here (p ∷ ps) begun R₀ W₀ a R (share_of here split T) → EndFor limit a (length R) here split T T' x
      → Turns limit there (p ∷ ps) begun R₀ X₀ b Q (share_of there split' U) → EndFor limit b (length Q) there split' U U' y
      → (x ≡ y) × (share_of here split T' ≡ share_of there split' U')
  pub either_order :
      (split : ℕ) {T A B C D : List ℕ} {q r : Asked} {x x' y y' : Told} → Called Four split T A q x → Called Five split A B r y
      → Called Five split T C r y' → Called Four split C D q x' → (B ≡ D) × (x ≡ x') × (y ≡ y')
  -- 'Demand 1, E6's table and 01's zeroing, room and 4,096 rows here speak of the share;'
  pub as_alone : (station : Station) (split : ℕ) (T : List ℕ) → splits split (length T) ≡ true → AsAlone station split T
  pub after_each_piece :
      (limit : ℕ) → allowed limit ≡ true → (station : Station) (R₀ W₀ : List ℕ) → 65536 ≤ length R₀ → (p : List ℕ) (ps : List (List ℕ)) {state : State}
      → {R W : List ℕ} → Turns limit station (p ∷ ps) begun R₀ W₀ state R W
      → (told state ≡ so_far (outcome limit (through limit (length W₀) [] (p ∷ ps)) (length W₀))) × (R ≡ room_with (through limit (length W₀) [] (p ∷ ps)) R₀)
      × (W ≡ table_of (length W₀) (outcome limit (through limit (length W₀) [] (p ∷ ps)) (length W₀)))
  pub at_the_end :
      (limit : ℕ) → allowed limit ≡ true → (station : Station) (split : ℕ) (T R₀ W₀ : List ℕ) → 65536 ≤ length R₀ → (ps : List (List ℕ)) {state last : State}
      → {R T' : List ℕ} → Turns limit station ps begun R₀ W₀ state R (share_of station split T) → length (joined ps) ≤ 65536
      → EndFor limit state (length R) station split T T' (Ok last)
      → (told last ≡ told_of (reading limit (joined ps) (length W₀))) × (share_of station split T' ≡ table_of (length W₀) (reading limit (joined ps) (length W₀)))
  -- 'words beyond the table's last whole row belong to neither and stay.'
  pub beyond_stays :
      {station : Station} {split : ℕ} {T T' : List ℕ} {q : Asked} {a : Told} → Called station split T T' q a
      → (drop (length T / 4 * 4) T' ≡ drop (length T / 4 * 4) T) × (length T' ≡ length T)
  -- 'Refusals: 22, before all others, if the row number is 0 or not below the table's whole rows (not cut to 4,096);' so exactly then, whatever else is asked
  pub splits_exactly : (split words : ℕ) → (splits split words ≡ true) ↔ ((0 < split) × (split < words / 4))
  pub refused :
      {station : Station} {split : ℕ} {T T' : List ℕ} {q : Asked} {a : Told} → Called station split T T' q a
      → (call_number a ≡ 22) ↔ (splits split (length T) ≡ false)
  pub looked_up_refused :
      (station : Station) (split : ℕ) (T : List ℕ) (rows : ℕ) (s : List ℕ) (r : ℕ) (key : List ℕ)
      → ((lookup_report_of (on_share station split T (lookup_answer rows s r key) (Err no_share))).number ≡ 22) ↔ (splits split (length T) ≡ false)
  pub placed_refused :
      (station : Station) (split : ℕ) (T : List ℕ) (rows : ℕ) (s : List ℕ) (r : ℕ)
      → (position_number (on_share station split T (position_answer rows s r) (Err no_share)) ≡ 22) ↔ (splits split (length T) ≡ false)
  -- 'A refusal with no place given, here and later, has place 0' (E5); nor is a row, a byte or a value reported with 22
  pub reported :
      (report.report_of (Err no_share) ≡ record { number = 22; rows = 0; used = 0; place = 0 })
      × (report.card_report_of (Err no_share) ≡ record { number = 22; rows = 0; used = 0; place = 0; body = 0 })
      × (write_report_of (Err no_share) ≡ record { number = 22; length = 0; place = 0 })
      × (planned.report_of (Err no_share) ≡ record { number = 22; length = 0; place = 0 })
      × (lookup_report_of (Err no_share) ≡ lookedUp 22 0 (pos 0) plus_zero 0 0) × (position_values (Err no_share) ≡ at plus_zero plus_zero plus_zero)
  -- 'then nothing lent is changed, in place of demand 1's zeros.' After a piece `not_split` has the room as it was; of what is written both sentences
  pub nothing_changed :
      {station : Station} {split : ℕ} {T T' : List ℕ} {q : Asked} {a : Told} → Called station split T T' q a → call_number a ≡ 22
      → (T' ≡ T) × (a ≡ not_split q)
  pub write_refused :
      (station : Station) (split : ℕ) (T : List ℕ) (rows : ℕ) (s : List ℕ) (limit : ℕ) (out : List ℕ) {out' : List ℕ} {a : Write}
      → WroteFor limit T station split rows s out out' a
      → (((write_report_of a).number ≡ 22) ↔ (splits split (length T) ≡ false)) × (splits split (length T) ≡ false → out' ≡ out)
  pub plan_refused :
      (station : Station) (split : ℕ) (T : List ℕ) (rows : ℕ) (s : List ℕ) (limit : ℕ) (out : List ℕ) {out' : List ℕ} (p : List ℕ) {a : Planned}
      → planned.WroteFor limit T station split rows s p out out' a
      → (((planned.report_of a).number ≡ 22) ↔ (splits split (length T) ≡ false)) × (splits split (length T) ≡ false → out' ≡ out)
