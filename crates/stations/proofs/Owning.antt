-- What a call for a station did on its share is what the call without stations promises there. Assumes nothing.
use mathlib.Core.Path.{◌≡◌, refl, sym, ◌∙◌, ap}
use mathlib.Core.Bool.{true}
use mathlib.Core.List.{List}
use Prim.Native.Nat.{ℕ}
use Rattle.std.specs.Prelude.{Ok, Err}
use lib.ListN.{length}
use Rattle.shares.specs.declared.Station.{Station}
use Rattle.shares.specs.Share.{no_share, splits, size_of, share_of}
use Rattle.shares.proofs.Sharing.{share_size, given_there, own_words}
use Rattle.read_answer.specs.Answers as reader
use Rattle.read_answer.specs.Answers.{reading}
use Rattle.records.specs.Job.{body_of}
use Rattle.job.specs.Cards.{answer_for}
use Rattle.pieces.specs.declared.State.{State}
use Rattle.pieces.specs.Steps.{at_first, state_went, Went, state_closed}
use Rattle.pieces.specs.Runs as run
use Rattle.pieces.specs.Runs.{Runs}
use Rattle.write_answer.specs.Answers.{answer_of}
use Rattle.station_reading.specs.Answers.{Answer, CardAnswer, read_answer, read_words, ReadFor, card_answer, card_words, CardFor}
use Rattle.station_pieces.specs.Steps.{Answer as PieceAnswer, next_answer, next_room, next_words, NextFor, end_answer, end_words, EndFor}
use Rattle.plan_writer.specs.Answers as planner
use Rattle.station_plans.specs.Answers.{Answer as PlanAnswer}
use Rattle.station_plans.specs.Answers as planned
use Rattle.station_tables.specs.Answers.{WriteAnswer, write_answer, written_bytes, WroteFor}
use Rattle.stations.specs.Owned.{OwnRead, OwnCard, OwnPiece, OwnEnd, OwnWrite, OwnPlanned}
use Rattle.stations.specs.Turns.{Turns, none, piece}
use Rattle.stations.proofs.Keeping.{read_keeps, card_keeps, next_keeps, end_keeps}

module _ (station : Station) (split : ℕ) (T : List ℕ) (ok : splits split (length T) ≡ true) where
  module _ {T' : List ℕ} where
    pub own_read :
        (limit : ℕ) (s : List ℕ) {a : Answer} → ReadFor limit s station split T T' a → OwnRead limit s (size_of station split (length T)) (share_of station split T') a
    unfolding read_answer read_words
    own_read limit s d =
        let n : length (share_of station split T) ≡ size_of station split (length T) = share_size station split T ok in
        record {
          own = reader.answer_of (reading limit s (size_of station split (length T)));
          is = d.says ∙ given_there station split T ok (read_answer limit s) (Err no_share) ∙ rw n;
          did =
              record {
                says = refl;
                leaves =
                    ap (share_of station split) d.leaves
                    ∙ own_words station split T ok (read_words limit s) (read_keeps limit s (share_of station split T)) ∙ rw n;
              };
        }

    pub own_card :
        (s : List ℕ) (number : ℕ) {a : CardAnswer} → CardFor s number station split T T' a
        → OwnCard s number (size_of station split (length T)) (share_of station split T') a
    unfolding card_answer card_words
    own_card s number d =
        let n : length (share_of station split T) ≡ size_of station split (length T) = share_size station split T ok in
        record {
          own = answer_for s (size_of station split (length T)) (body_of s number);
          is = d.says ∙ given_there station split T ok (card_answer s number) (Err no_share) ∙ rw n;
          did =
              record {
                says = refl;
                leaves =
                    ap (share_of station split) d.leaves
                    ∙ own_words station split T ok (card_words s number) (card_keeps s number (share_of station split T)) ∙ rw n;
              };
        }

    pub own_piece :
        (limit : ℕ) (state : State) (p R : List ℕ) {R' : List ℕ} {a : PieceAnswer} → NextFor limit state p station split R T R' T' a
        → OwnPiece limit state p R (share_of station split T) R' (share_of station split T') a
    unfolding next_answer next_room next_words
    own_piece limit state p R d =
        record {
          own = at_first limit (length R) (state_went limit state p R (length (share_of station split T)));
          is = d.says ∙ given_there station split T ok (next_answer limit state p R) (Err no_share);
          did =
              record {
                says = refl;
                room = d.room ∙ given_there station split T ok (next_room limit state p R) R;
                table =
                    ap (share_of station split) d.table
                    ∙ own_words station split T ok (next_words limit state p R) (next_keeps limit state p R (share_of station split T));
              };
        }

    pub own_end :
        (limit : ℕ) (state : State) (bytes : ℕ) {a : PieceAnswer} → EndFor limit state bytes station split T T' a
        → OwnEnd limit state bytes (share_of station split T) (share_of station split T') a
    unfolding end_answer end_words
    own_end limit state bytes d =
        record {
          own = at_first limit bytes (state_closed state);
          is = d.says ∙ given_there station split T ok (end_answer limit state bytes) (Err no_share);
          did =
              record {
                says = refl;
                table =
                    ap (share_of station split) d.table
                    ∙ own_words station split T ok (end_words limit state bytes) (end_keeps limit state bytes (share_of station split T));
              };
        }

  pub own_write :
      (limit rows : ℕ) (s out : List ℕ) {out' : List ℕ} {a : WriteAnswer} → WroteFor limit T station split rows s out out' a
      → OwnWrite limit (share_of station split T) rows s out out' a
  unfolding write_answer written_bytes
  own_write limit rows s out d =
      record {
        own = answer_of limit (share_of station split T) rows s (length out);
        is = d.says ∙ given_there station split T ok (write_answer limit rows s (length out)) (Err no_share);
        did = record { says = refl; leaves = d.leaves ∙ given_there station split T ok (written_bytes limit rows s (length out)) out };
      }

  pub own_planned :
      (limit rows : ℕ) (s p out : List ℕ) {out' : List ℕ} {a : PlanAnswer} → planned.WroteFor limit T station split rows s p out out' a
      → OwnPlanned limit (share_of station split T) rows s p out out' a
  unfolding planned.write_answer planned.written_bytes
  own_planned limit rows s p out d =
      record {
        own = planner.answer_of limit (share_of station split T) rows s p (length out);
        is = d.says ∙ given_there station split T ok (planned.write_answer limit rows s p (length out)) (Err no_share);
        did = record { says = refl; leaves = d.leaves ∙ given_there station split T ok (planned.written_bytes limit rows s p (length out)) out };
      }

-- a piece that was answered with a state
own_state :
    {limit : ℕ} {state between : State} {p R W R' W' : List ℕ} → OwnPiece limit state p R W R' W' (Ok between) → Went limit state p R W R' W' between
own_state {limit} {state} {between} {p} {R} {W} {R'} {W'} o =
    let e : o.own ≡ between = sym (cc) in
    rw e at o.did

-- a station's turns are a run of calls on its share
pub turns_run :
    {limit : ℕ} {station : Station} {ps : List (List ℕ)} {state last : State} {R W R' W' : List ℕ} → Turns limit station ps state R W last R' W'
    → Runs limit ps state R W last R' W'
turns_run none = run.none
turns_run {limit} {station} (piece {p = p} {state = state} {between = between} {R = R} {W = W} {R' = R₁} {W' = W₁} {split = split} {T = T} ok e d f ts) =
    let w : Went limit state p R W R₁ W₁ between = rw (e, f) (own_state (own_piece station split T ok limit state p R d)) in
    run.piece w (turns_run ts)
