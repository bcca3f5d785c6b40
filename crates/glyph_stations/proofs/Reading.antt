-- What answers each return of the function that reads a glyph message for a station. Assumes nothing.
use Rattle.std.proofs.Common.{◌≡◌, ◌∙◌, ap, Result, Ok, Err, List, ◌++◌, ℕ, ◌-◌, length, take, drop}
use Rattle.std.specs.declared.ops.Range.{Range}
use Rattle.shares.specs.declared.Station.{Station}
use Rattle.shares.specs.declared.NotSplit.{NotSplit}
use Rattle.shares.specs.Share.{no_share, share_for}
use Rattle.shares.proofs.Lent.{lending, lent_answer, lent_table, unlent_answer, unlent_table}
use Rattle.glyph.specs.declared.Edition.{Edition}
use Rattle.glyph.specs.Answers.{Answer, reading, Answers}
use Rattle.glyph_stations.specs.Answers.{read_answer, read_words, ReadFor}

module _ (station : Station) (split : ℕ) (T : List ℕ) {share : Result (Range ℕ) NotSplit} (i : share ≡ share_for (length T) split station) where
  pub read_there :
      {part : Range ℕ} → share ≡ Ok part → {X : List ℕ} (e : Edition) (limit : ℕ) (s : List ℕ) {a : Answer}
      → Answers (reading e limit s (length (take (part.end - part.start) (drop part.start T)))) (length (take (part.end - part.start) (drop part.start T))) X a
      → ReadFor e limit s station split T (take part.start T ++ (X ++ drop (part.end - part.start) (drop part.start T))) (Ok a)
  unfolding read_answer read_words
  read_there f e limit s d =
      record {
        says = lent_answer split station T i f (read_answer e limit s) _ (ap Ok d.says);
        leaves = lent_table split station T i f (read_words e limit s) d.leaves;
      }

  pub read_nowhere : {why : NotSplit} → share ≡ Err why → {a : Result Answer NotSplit} → a ≡ Err why → (e : Edition) (limit : ℕ) (s : List ℕ) → ReadFor e limit s station split T T a
  read_nowhere f z e limit s =
      record {
        says = z ∙ unlent_answer split station T i f (read_answer e limit s) (Err no_share);
        leaves = unlent_table split station T i f (read_words e limit s);
      }

pub ruleset station_reading = (lending, read_there, read_nowhere)
