-- What answers each return of the functions on messages in pieces for a station. Assumes nothing.
use mathlib.Core.Path.{◌≡◌, ap}
use mathlib.Core.List.{List, ◌++◌}
use Prim.Native.Nat.{ℕ, ◌-◌}
use lib.ListN.{length, take, drop}
use Rattle.std.specs.Prelude.{Result, Ok, Err}
use Rattle.std.specs.declared.ops.Range.{Range}
use Rattle.shares.specs.declared.Station.{Station}
use Rattle.shares.specs.declared.NotSplit.{NotSplit}
use Rattle.shares.specs.Share.{no_share, share_for}
use Rattle.shares.proofs.Lent.{lending, lent_answer, lent_table, unlent_answer, unlent_table}
use Rattle.pieces.specs.declared.State.{State}
use Rattle.pieces.specs.Steps.{Went, Closed}
use Rattle.station_pieces.specs.Steps.{next_answer, next_room, next_words, NextFor, end_answer, end_words, EndFor}

module _ (station : Station) (split : ℕ) (T : List ℕ) {found : Result (Range ℕ) NotSplit} (i : found ≡ share_for (length T) split station) where
  module _ {part : Range ℕ} (e : found ≡ Ok part) {X : List ℕ} (limit : ℕ) (state : State) {state' : State} where
    pub piece_there :
        (p R : List ℕ) {R' : List ℕ} → Went limit state p R (take (part.end - part.start) (drop part.start T)) R' X state'
        → NextFor limit state p station split R T R' (take part.start T ++ (X ++ drop (part.end - part.start) (drop part.start T))) (Ok state')
    unfolding next_answer next_room next_words
    piece_there p R d =
        record {
          says = lent_answer split station T i e (next_answer limit state p R) _ (ap Ok d.says);
          room = lent_answer split station T i e (next_room limit state p R) _ d.room;
          table = lent_table split station T i e (next_words limit state p R) d.table;
        }

    pub end_there :
        (bytes : ℕ) → Closed limit state bytes (take (part.end - part.start) (drop part.start T)) X state'
        → EndFor limit state bytes station split T (take part.start T ++ (X ++ drop (part.end - part.start) (drop part.start T))) (Ok state')
    unfolding end_answer end_words
    end_there bytes d =
        record {
          says = lent_answer split station T i e (end_answer limit state bytes) _ (ap Ok d.says);
          table = lent_table split station T i e (end_words limit state bytes) d.table;
        }

  module _ {why : NotSplit} (e : found ≡ Err why) (limit : ℕ) (state : State) where
    pub piece_nowhere : (p R : List ℕ) → NextFor limit state p station split R T R T (Err no_share)
    piece_nowhere p R =
        record {
          says = unlent_answer split station T i e (next_answer limit state p R) (Err no_share);
          room = unlent_answer split station T i e (next_room limit state p R) R;
          table = unlent_table split station T i e (next_words limit state p R);
        }

    pub end_nowhere : (bytes : ℕ) → EndFor limit state bytes station split T T (Err no_share)
    end_nowhere bytes =
        record {
          says = unlent_answer split station T i e (end_answer limit state bytes) (Err no_share);
          table = unlent_table split station T i e (end_words limit state bytes);
        }

pub ruleset station_piecing = (lending, piece_there, end_there, piece_nowhere, end_nowhere)
