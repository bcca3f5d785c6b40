-- What answers each return of the functions on a station's share that stands. Assumes nothing.
use mathlib.Core.Path.{◌≡◌, ap, ◌∙◌}
use mathlib.Core.List.{List}
use Prim.Native.Nat.{ℕ, ◌-◌}
use lib.ListN.{length, take, drop}
use Rattle.std.specs.Prelude.{Result, Ok, Err}
use Rattle.std.specs.declared.ops.Range.{Range}
use Rattle.shares.specs.declared.Station.{Station}
use Rattle.shares.specs.declared.NotSplit.{NotSplit}
use Rattle.shares.specs.Share.{no_share, share_for, on_share}
use Rattle.shares.proofs.Lent.{lending, lent_answer, unlent_answer}
use Rattle.write_answer.specs.Answers.{Answer as WriterAnswer}
use Rattle.write_answer.specs.Answers.{form_of, output_of, Did}
use Rattle.lookup_answer.specs.Answers.{Answer as FoundAnswer}
use Rattle.lookup_answer.specs.Answers as lookups
use Rattle.placing.specs.declared.Placed.{Placed}
use Rattle.placing.specs.Placing.{position}
use Rattle.station_tables.specs.Answers.{write_answer, written_bytes, WroteFor, lookup_answer, position_answer}

module _ (station : Station) (split : ℕ) (T : List ℕ) {share : Result (Range ℕ) NotSplit} (i : share ≡ share_for (length T) split station) where
  module _ {part : Range ℕ} (e : share ≡ Ok part) (rows : ℕ) (s : List ℕ) where
    pub write_there :
        (limit : ℕ) (out : List ℕ) {out' : List ℕ} {a : WriterAnswer} → Did limit (take (part.end - part.start) (drop part.start T)) rows s out out' a
        → WroteFor limit T station split rows s out out' (Ok a)
    unfolding write_answer written_bytes
    write_there limit out d =
        record {
          says = lent_answer split station T i e (write_answer limit rows s (length out)) _ (ap Ok d.says);
          leaves =
              lent_answer split station T i e (written_bytes limit rows s (length out)) _
              (d.leaves ∙ ap (λ (x : WriterAnswer). output_of x (form_of (take (part.end - part.start) (drop part.start T)) rows s) (length out)) d.says);
        }

    pub lookup_there :
        (r : ℕ) (key : List ℕ) {a : FoundAnswer} → a ≡ lookups.lookup (take (part.end - part.start) (drop part.start T)) rows s r key
        → Ok a ≡ on_share station split T (lookup_answer rows s r key) (Err no_share)
    unfolding lookup_answer
    lookup_there r key d = lent_answer split station T i e (lookup_answer rows s r key) _ (ap Ok d)

    pub position_there :
        (r : ℕ) {p : Placed} → p ≡ position (take (part.end - part.start) (drop part.start T)) rows s r
        → Ok p ≡ on_share station split T (position_answer rows s r) (Err no_share)
    unfolding position_answer
    position_there r d = lent_answer split station T i e (position_answer rows s r) _ (ap Ok d)

  module _ {why : NotSplit} (e : share ≡ Err why) (rows : ℕ) (s : List ℕ) where
    pub write_nowhere : (limit : ℕ) (out : List ℕ) → WroteFor limit T station split rows s out out (Err no_share)
    write_nowhere limit out =
        record {
          says = unlent_answer split station T i e (write_answer limit rows s (length out)) (Err no_share);
          leaves = unlent_answer split station T i e (written_bytes limit rows s (length out)) _;
        }

    pub lookup_nowhere : (r : ℕ) (key : List ℕ) → (Err no_share) ≡ on_share station split T (lookup_answer rows s r key) (Err no_share)
    lookup_nowhere r key = unlent_answer split station T i e (lookup_answer rows s r key) (Err no_share)

    pub position_nowhere : (r : ℕ) → (Err no_share) ≡ on_share station split T (position_answer rows s r) (Err no_share)
    position_nowhere r = unlent_answer split station T i e (position_answer rows s r) (Err no_share)

pub ruleset station_answering = (lending, write_there, lookup_there, position_there, write_nowhere, lookup_nowhere, position_nowhere)
