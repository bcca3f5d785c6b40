-- Stations four and five on one table (request E10). `ReadFor limit s station split T T' a` is the promise of `station_reading::read`, for a limit of
-- nesting, a message s, a table T that is split at a row and is T' after the call, and the answer a; `CardFor` that of `read_card`; `NextFor` and `EndFor`
-- those of `station_pieces::next` and `end`; `WroteFor` that of `station_tables::write`, and `planned.WroteFor` that of `station_plans::write`. `Called
-- station split T T' q a` is any of the first four, asked q and told a. `share_of station split T` are the share's words. Assumes nothing.
use Rattle.std.specs.Prelude.{Ok, Err}
use mathlib.Core.Path.{◌≡◌, refl, sym, ap, ◌∙◌}
use mathlib.Core.Bool.{true, false}
use mathlib.Core.Logic.{◌↔◌}
use mathlib.Core.List.{List, [], ◌∷◌}
use Prim.Native.Nat.{ℕ, ◌+◌, ◌*◌, ◌/◌, ◌≤◌, ◌<◌}
use native.Mathlib.Omega.{arith}
use lib.ListN.{length, drop}
use Rattle.draft.specs.Limits.{allowed}
use Rattle.shares.specs.declared.Station.{Station}
use Rattle.shares.specs.declared.Station.TheVariants.{Four, Five}
use Rattle.shares.specs.Share.{no_share, other, splits, first_word, size_of, share_of, on_share}
use Rattle.shares.proofs.Sharing as sharing
use Rattle.read_answer.specs.Answers.{reading, table_of}
use Rattle.lookup_answer.specs.Answers as lookups
use Rattle.placing.specs.Placing.{position}
use Rattle.pieces.specs.declared.State.{State}
use Rattle.pieces.specs.Pieces.{joined, outcome, through, room_with, so_far}
use Rattle.pieces.specs.Steps.{told, Closed}
use Rattle.pieces.specs.Runs.{begun}
use Rattle.cuts.proofs.Running.{Ends}
use Rattle.station_reading.specs.Answers.{Answer, CardAnswer, ReadFor, CardFor}
use Rattle.station_pieces.specs.Steps.{Answer as PieceAnswer, NextFor, EndFor}
use Rattle.station_plans.specs.Answers.{Answer as PlanAnswer}
use Rattle.station_plans.specs.Answers as planned
use Rattle.station_tables.specs.Answers.{WriteAnswer, write_answer, written_bytes, WroteFor, lookup_answer, position_answer, write_report_of, lookup_report_of, position_number}
use Rattle.write_answer.specs.Answers as writer
use Rattle.plan_writer.specs.Answers as planner
use Rattle.stations.specs.Calls.{Asked, Told, Called, ends, not_split}
use Rattle.stations.specs.Owned.{OwnRead, OwnCard, OwnPiece, OwnEnd, OwnWrite, OwnPlanned}
use Rattle.stations.specs.Turns.{Turns}
use Rattle.stations.proofs.Calling as calls
use Rattle.stations.proofs.Calling.{Same}
use Rattle.stations.proofs.Owning as owning
use Rattle.demands_reading.proofs.Settled as whole-table
use Rattle.demands_pieces.proofs.Pieces as pieces
use Rattle.demands_stations.specs.Numbers.{call_number}
use Rattle.demands_stations.proofs.Numbers.{exactly, called_exactly, has_share, told_not, write_not, plan_not, lookup_not, position_not}
use Rattle.demands_stations.proofs.Alike.{runs_same}

-- A ROW SPLITS a table exactly if it is not 0 and is below the number of whole rows, however many those are.
pub splits_exactly : (split words : ℕ) → (splits split words ≡ true) ↔ ((0 < split) × (split < words / 4))
splits_exactly = sharing.splits_exactly

-- SHARES. They lie side by side in the whole rows: four's from the first word on, five's behind it up to the last whole row's end.
pub shares_lie :
    (split words : ℕ) → splits split words ≡ true
    → (first_word Four split ≡ 0) × (first_word Four split + size_of Four split words ≡ first_word Five split)
    × (first_word Five split + size_of Five split words ≡ words / 4 * 4)
unfolding size_of
shares_lie split words ok = let h = (splits_exactly split words).0 ok in (refl, omega arith, omega (arith, h.1))

-- ---- 22

module _ {station : Station} {split : ℕ} {T T' : List ℕ} {q : Asked} {a : Told} (c : Called station split T T' q a) where
  -- 22 is told exactly if the row does not split the table.
  pub told_exactly : (call_number a ≡ 22) ↔ (splits split (length T) ≡ false)
  told_exactly = called_exactly c

  -- Then nothing is changed: no word of the table; nor is the room, which `not_split` has as it was.
  pub nothing_changed : call_number a ≡ 22 → (T' ≡ T) × (a ≡ not_split q)
  nothing_changed e =
      let h = told_exactly.0 e in
      (calls.leaves c ∙ sharing.unsplit_words station split T (calls.after q) h, (calls.told_exactly c).1 h)

-- and by the calls that only look at the table: written, by a plan too, the output stays as it was
module _ (station : Station) (split : ℕ) (T : List ℕ) (rows : ℕ) (s : List ℕ) where
  module _ (limit : ℕ) (out : List ℕ) {out' : List ℕ} where
    pub write_exactly :
        {a : WriteAnswer} → WroteFor limit T station split rows s out out' a
        → (((write_report_of a).number ≡ 22) ↔ (splits split (length T) ≡ false)) × (splits split (length T) ≡ false → out' ≡ out)
    unfolding write_answer
    write_exactly d = (
      exactly (λ a. (write_report_of a).number) station split T (write_answer limit rows s (length out)) (Err no_share) refl
          (λ W e. write_not (writer.answer_of limit W rows s (length out)) e) d.says,
      λ h. d.leaves ∙ sharing.unsplit_told station split T (written_bytes limit rows s (length out)) out h,
    )

    pub planned_exactly :
        (p : List ℕ) {a : PlanAnswer} → planned.WroteFor limit T station split rows s p out out' a
        → (((planned.report_of a).number ≡ 22) ↔ (splits split (length T) ≡ false)) × (splits split (length T) ≡ false → out' ≡ out)
    unfolding planned.write_answer
    planned_exactly p d = (
      exactly (λ a. (planned.report_of a).number) station split T (planned.write_answer limit rows s p (length out)) (Err no_share) refl
          (λ W e. plan_not (planner.answer_of limit W rows s p (length out)) e) d.says,
      λ h. d.leaves ∙ sharing.unsplit_told station split T (planned.written_bytes limit rows s p (length out)) out h,
    )

  module _ (r : ℕ) where
    pub lookup_exactly :
        (key : List ℕ) → ((lookup_report_of (on_share station split T (lookup_answer rows s r key) (Err no_share))).number ≡ 22) ↔ (splits split (length T) ≡ false)
    unfolding lookup_answer
    lookup_exactly key =
        exactly (λ a. (lookup_report_of a).number) station split T (lookup_answer rows s r key) (Err no_share) refl
        (λ W e. lookup_not (lookups.lookup W rows s r key) e) refl

    pub position_exactly :
        (position_number (on_share station split T (position_answer rows s r) (Err no_share)) ≡ 22) ↔ (splits split (length T) ≡ false)
    unfolding position_answer
    position_exactly =
        exactly position_number station split T (position_answer rows s r) (Err no_share) refl (λ W e. position_not (position W rows s r).outcome e) refl

-- ---- the share

-- OWN. On its share a station's call does what the call without stations does on a table of the share's size: the answer is that call's, and so are
-- the share's words after it.
module _ (station : Station) (split : ℕ) (T : List ℕ) (ok : splits split (length T) ≡ true) where
  module _ {T' : List ℕ} where
    pub own_read :
        (limit : ℕ) (s : List ℕ) {a : Answer} → ReadFor limit s station split T T' a → OwnRead limit s (size_of station split (length T)) (share_of station split T') a
    own_read = owning.own_read station split T ok

    pub own_card :
        (s : List ℕ) (number : ℕ) {a : CardAnswer} → CardFor s number station split T T' a
        → OwnCard s number (size_of station split (length T)) (share_of station split T') a
    own_card = owning.own_card station split T ok

    pub own_piece :
        (limit : ℕ) (state : State) (p R : List ℕ) {R' : List ℕ} {a : PieceAnswer} → NextFor limit state p station split R T R' T' a
        → OwnPiece limit state p R (share_of station split T) R' (share_of station split T') a
    own_piece = owning.own_piece station split T ok

    pub own_end :
        (limit : ℕ) (state : State) (bytes : ℕ) {a : PieceAnswer} → EndFor limit state bytes station split T T' a
        → OwnEnd limit state bytes (share_of station split T) (share_of station split T') a
    own_end = owning.own_end station split T ok

  pub own_write :
      (limit rows : ℕ) (s out : List ℕ) {out' : List ℕ} {a : WriteAnswer} → WroteFor limit T station split rows s out out' a
      → OwnWrite limit (share_of station split T) rows s out out' a
  own_write = owning.own_write station split T ok

  pub own_planned :
      (limit rows : ℕ) (s p out : List ℕ) {out' : List ℕ} {a : PlanAnswer} → planned.WroteFor limit T station split rows s p out out' a
      → OwnPlanned limit (share_of station split T) rows s p out out' a
  own_planned = owning.own_planned station split T ok

  pub own_lookup :
      (rows : ℕ) (s : List ℕ) (r : ℕ) (key : List ℕ)
      → on_share station split T (lookup_answer rows s r key) (Err no_share)
      ≡ Ok (lookups.lookup (share_of station split T) rows s r key)
  unfolding lookup_answer
  own_lookup rows s r key = sharing.given_there station split T ok (lookup_answer rows s r key) (Err no_share)

  pub own_position :
      (rows : ℕ) (s : List ℕ) (r : ℕ)
      → on_share station split T (position_answer rows s r) (Err no_share) ≡ Ok (position (share_of station split T) rows s r)
  unfolding position_answer
  own_position rows s r = sharing.given_there station split T ok (position_answer rows s r) (Err no_share)

-- ALIKE. Answer and share's words depend on the message and the limit, or the job file and the card's number, and on the share's size: for any two tables,
-- rows and stations.
module _
    (station other-station : Station) (split other-split : ℕ) (T U : List ℕ) (ok : splits split (length T) ≡ true)
    (ok' : splits other-split (length U) ≡ true)
    (size : size_of station split (length T) ≡ size_of other-station other-split (length U)) {T' U' : List ℕ} where
  pub read_alike :
      (limit : ℕ) (s : List ℕ) {a b : Answer} → ReadFor limit s station split T T' a → ReadFor limit s other-station other-split U U' b
      → (a ≡ b) × (share_of station split T' ≡ share_of other-station other-split U')
  read_alike limit s {a} {b} d e =
      let x = own_read station split T ok limit s d in
      let y = rw (← size) at (own_read other-station other-split U ok' limit s e) in
      let z = whole-table.settled limit s (size_of station split (length T)) x.did y.did in
      (x.is ∙ ap Ok z.0 ∙ sym y.is, z.1)

  pub card_alike :
      (s : List ℕ) (number : ℕ) {a b : CardAnswer} → CardFor s number station split T T' a → CardFor s number other-station other-split U U' b
      → (a ≡ b) × (share_of station split T' ≡ share_of other-station other-split U')
  card_alike s number {a} {b} d e =
      let x = own_card station split T ok s number d in
      let y = rw (← size) at (own_card other-station other-split U ok' s number e) in
      let f : x.own ≡ y.own = x.did.says ∙ sym y.did.says in
      (x.is ∙ (rw f (sym y.is)), x.did.leaves ∙ sym y.did.leaves)

-- and what a call answers that only looks at the share, by its words
pub given_alike :
    {A : Type 0} (station other-station : Station) (split other-split : ℕ) (T U : List ℕ) → splits split (length T) ≡ true → splits other-split (length U) ≡ true
    → share_of station split T ≡ share_of other-station other-split U → (given : List ℕ → A) (unsplit unsplit' : A)
    → on_share station split T given unsplit ≡ on_share other-station other-split U given unsplit'
given_alike station other-station split other-split T U ok ok' e given unsplit unsplit' =
    sharing.given_there station split T ok given unsplit
    ∙ ap given e
    ∙ sym (sharing.given_there other-station other-split U ok' given unsplit')

module _
    (station other-station : Station) (split other-split : ℕ) (T U : List ℕ) (ok : splits split (length T) ≡ true)
    (ok' : splits other-split (length U) ≡ true) (same : share_of station split T ≡ share_of other-station other-split U)
    (limit rows : ℕ) (s out out₁ : List ℕ) (l : length out ≡ length out₁) {out' out₁' : List ℕ}
  where
    pub write_alike :
        {a b : WriteAnswer} → WroteFor limit T station split rows s out out' a → WroteFor limit U other-station other-split rows s out₁ out₁' b
        → (a ≡ b) × (out' ≡ out₁')
    write_alike d e = (
      d.says
          ∙ given_alike station other-station split other-split T U ok ok' same (write_answer limit rows s (length out)) (Err no_share) (Err no_share)
          ∙ rw l (sym e.says),
      d.leaves
          ∙ given_alike station other-station split other-split T U ok ok' same (written_bytes limit rows s (length out)) out out₁
          ∙ rw l (sym e.leaves),
    )

    pub planned_alike :
        (p : List ℕ) {a b : PlanAnswer} → planned.WroteFor limit T station split rows s p out out' a
        → planned.WroteFor limit U other-station other-split rows s p out₁ out₁' b → (a ≡ b) × (out' ≡ out₁')
    planned_alike p d e = (
      d.says
          ∙ given_alike station other-station split other-split T U ok ok' same (planned.write_answer limit rows s p (length out)) (Err no_share) (Err no_share)
          ∙ rw l (sym e.says),
      d.leaves
          ∙ given_alike station other-station split other-split T U ok ok' same (planned.written_bytes limit rows s p (length out)) out out₁
          ∙ rw l (sym e.leaves),
    )

-- ---- all other words

module _ {station : Station} {split : ℕ} {T T' : List ℕ} {q : Asked} {a : Told} (c : Called station split T T' q a) where
  -- OTHER'S. No word of the other station's share is changed.
  pub others_stay : splits split (length T) ≡ true → share_of (other station) split T' ≡ share_of (other station) split T
  others_stay ok =
      ap (share_of (other station) split) (calls.leaves c)
      ∙ sharing.other_words station split T ok (calls.after q) (calls.keeps q (share_of station split T))

  -- BEYOND. Nor is a word beyond the last whole row.
  pub beyond_stays : drop (length T / 4 * 4) T' ≡ drop (length T / 4 * 4) T
  beyond_stays = calls.beyond c

  -- The table keeps its length, so that the shares are the same after it.
  pub length_stays : length T' ≡ length T
  length_stays = calls.same_length c

-- IN TURN. A call of each station, in either order: the same table, and the same is told.
pub in_turn :
    (split : ℕ) {T A B C D : List ℕ} {q r : Asked} {x x' y y' : Told} → Called Four split T A q x → Called Five split A B r y
    → Called Five split T C r y' → Called Four split C D q x' → Same B D x x' y y'
in_turn split c d e f = calls.in_turn split c d e f

-- ---- messages in pieces

-- An end call that was answered with a state is `pieces::end` on the share.
pub its_end :
    {limit bytes : ℕ} {state last : State} (station : Station) (split : ℕ) (T : List ℕ) {T' : List ℕ} → EndFor limit state bytes station split T T' (Ok last)
    → Closed limit state bytes (share_of station split T) (share_of station split T') last
its_end {limit} {bytes} {state} {last} station split T d =
    let o = own_end station split T (has_share (ends d) (told_not last)) limit state bytes d in
    let e : o.own ≡ last = sym (cc) in
    rw e at o.did

-- WHOLE. A station's message in pieces, with any calls of the other station in between: what is told and the share's words are those of the whole
-- message.
pub pieces_whole :
    (limit : ℕ) (fine : allowed limit ≡ true) (station : Station) (split : ℕ) (T R₀ W₀ : List ℕ) → 65536 ≤ length R₀
    → (ps : List (List ℕ)) {state last : State} {R T' : List ℕ} → Turns limit station ps begun R₀ W₀ state R (share_of station split T)
    → length (joined ps) ≤ 65536 → EndFor limit state (length R) station split T T' (Ok last)
    → Ends (reading limit (joined ps) (length W₀)) (length W₀) last (share_of station split T')
pieces_whole limit fine station split T R₀ W₀ long ps ts few d = pieces.as_whole limit fine R₀ W₀ long ps (owning.turns_run ts) few (its_end station split T d)

-- AFTER EACH PIECE: what is told, the room, and the share's words are those of the bytes through the deciding piece.
pub share_after_each :
    (limit : ℕ) (fine : allowed limit ≡ true) (station : Station) (R₀ W₀ : List ℕ) → 65536 ≤ length R₀ → (p : List ℕ) (ps : List (List ℕ)) {state : State} {R W : List ℕ}
    → Turns limit station (p ∷ ps) begun R₀ W₀ state R W
    → (told state ≡ so_far (outcome limit (through limit (length W₀) [] (p ∷ ps)) (length W₀)))
    × (R ≡ room_with (through limit (length W₀) [] (p ∷ ps)) R₀)
    × (W ≡ table_of (length W₀) (outcome limit (through limit (length W₀) [] (p ∷ ps)) (length W₀)))
share_after_each limit fine station R₀ W₀ long p ps ts = (
  pieces.after_each limit fine R₀ W₀ long (p ∷ ps) (owning.turns_run ts),
  pieces.room_holds limit fine R₀ W₀ long (p ∷ ps) (owning.turns_run ts),
  pieces.table_settled limit fine R₀ W₀ long p ps (owning.turns_run ts),
)

-- ALIKE AFTER EACH. The same pieces and the same room, at whatever stations and tables with equally large shares: the same state, room and words of the share
-- after each piece, whatever the limit, the room's length and the other station's calls in between.
pub turns_alike :
    (limit : ℕ) (station other-station : Station) (R₀ W₀ X₀ : List ℕ) → length W₀ ≡ length X₀ → (p : List ℕ) (ps : List (List ℕ))
    → {a b : State} {R Q W X : List ℕ} → Turns limit station (p ∷ ps) begun R₀ W₀ a R W → Turns limit other-station (p ∷ ps) begun R₀ X₀ b Q X
    → (a ≡ b) × (R ≡ Q) × (W ≡ X)
turns_alike limit station other-station R₀ W₀ X₀ l p ps x y =
    let s = runs_same l (owning.turns_run x) (owning.turns_run y) in
    (s.state, s.room, s.table)

-- and after the end call
pub end_alike :
    (limit : ℕ) (station other-station : Station) (split other-split : ℕ) (T U : List ℕ) → splits split (length T) ≡ true → splits other-split (length U) ≡ true
    → (R₀ W₀ X₀ : List ℕ) → length W₀ ≡ length X₀ → (p : List ℕ) (ps : List (List ℕ)) {a b : State} {R Q T' U' : List ℕ} {x y : PieceAnswer}
    → Turns limit station (p ∷ ps) begun R₀ W₀ a R (share_of station split T) → EndFor limit a (length R) station split T T' x
    → Turns limit other-station (p ∷ ps) begun R₀ X₀ b Q (share_of other-station other-split U) → EndFor limit b (length Q) other-station other-split U U' y
    → (x ≡ y) × (share_of station split T' ≡ share_of other-station other-split U')
end_alike limit station other-station split other-split T U ok ok' R₀ W₀ X₀ l p ps {a} {b} {R} {Q} ts c us d =
    let s = runs_same l (owning.turns_run ts) (owning.turns_run us) in
    let i = own_end station split T ok limit a (length R) c in
    let j = own_end other-station other-split U ok' limit b (length Q) d in
    let e : i.own ≡ j.own = i.did.says ∙ rw (s.state, s.room) (sym j.did.says) in (
      i.is ∙ rw e (sym j.is),
      i.did.table ∙ rw (s.state, s.room, s.table) (sym j.did.table),
    )
