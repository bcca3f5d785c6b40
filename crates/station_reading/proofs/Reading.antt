-- What answers each return of the functions that read for a station. Assumes nothing.
use mathlib.Core.Path.{◌≡◌, ap}
use mathlib.Core.List.{List, ◌++◌}
use Prim.Native.Nat.{ℕ, ◌-◌}
use lib.ListN.{length, take, drop}
use Rattle.std.specs.Prelude.{Result, Ok, Err}
use Rattle.std.specs.declared.ops.Range.{Range}
use Rattle.shares.specs.declared.Station.{Station}
use Rattle.shares.specs.declared.NotSplit.{NotSplit}
use Rattle.shares.specs.Share.{no_share, share_for}
use Rattle.shares.proofs.Lent.{lending, lent_answer, lent_table, unlent_answer, unlent_table}
use Rattle.read_answer.specs.declared.Answer.{Answer as ReaderAnswer}
use Rattle.read_answer.specs.Answers.{reading, Answers}
use Rattle.records.specs.Job.{body_of}
use Rattle.job.specs.Cards.{Answer as JobAnswer, Reads}
use Rattle.station_reading.specs.Answers.{read_answer, read_words, ReadFor, card_answer, card_words, CardFor}

module _ (station : Station) (split : ℕ) (T : List ℕ) {share : Result (Range ℕ) NotSplit} (i : share ≡ share_for (length T) split station) where
  module _ {part : Range ℕ} (e : share ≡ Ok part) {X : List ℕ} where
    pub read_there :
        (limit : ℕ) (s : List ℕ) {a : ReaderAnswer}
        → Answers (reading limit s (length (take (part.end - part.start) (drop part.start T)))) (length (take (part.end - part.start) (drop part.start T))) X a
        → ReadFor limit s station split T (take part.start T ++ (X ++ drop (part.end - part.start) (drop part.start T))) (Ok a)
    unfolding read_answer read_words
    read_there limit s d =
        record {
          says = lent_answer split station T i e (read_answer limit s) _ (ap Ok d.says);
          leaves = lent_table split station T i e (read_words limit s) d.leaves;
        }

    pub card_there :
        (s : List ℕ) (n : ℕ) {a : JobAnswer} → Reads s (length (take (part.end - part.start) (drop part.start T))) (body_of s n) X a
        → CardFor s n station split T (take part.start T ++ (X ++ drop (part.end - part.start) (drop part.start T))) (Ok a)
    unfolding card_answer card_words
    card_there s n d =
        record {
          says = lent_answer split station T i e (card_answer s n) _ (ap Ok d.says);
          leaves = lent_table split station T i e (card_words s n) d.leaves;
        }

  module _ {why : NotSplit} (e : share ≡ Err why) where
    pub read_nowhere : (limit : ℕ) (s : List ℕ) → ReadFor limit s station split T T (Err no_share)
    read_nowhere limit s =
        record { says = unlent_answer split station T i e (read_answer limit s) (Err no_share); leaves = unlent_table split station T i e (read_words limit s) }

    pub card_nowhere : (s : List ℕ) (n : ℕ) → CardFor s n station split T T (Err no_share)
    card_nowhere s n =
        record { says = unlent_answer split station T i e (card_answer s n) (Err no_share); leaves = unlent_table split station T i e (card_words s n) }

pub ruleset station_reading = (lending, read_there, card_there, read_nowhere, card_nowhere)
