-- What answers each return of the function that writes a share with a plan. Assumes nothing.
use mathlib.Core.Path.{◌≡◌, ap, ◌∙◌}
use mathlib.Core.List.{List}
use Prim.Native.Nat.{ℕ, ◌-◌}
use lib.ListN.{length, take, drop}
use Rattle.std.specs.Prelude.{Result, Ok, Err}
use Rattle.std.specs.declared.ops.Range.{Range}
use Rattle.shares.specs.declared.Station.{Station}
use Rattle.shares.specs.declared.NotSplit.{NotSplit}
use Rattle.shares.specs.Share.{no_share, share_for}
use Rattle.shares.proofs.Lent.{lending, lent_answer, unlent_answer}
use Rattle.plan_writer.specs.Answers.{Answer as WriterAnswer}
use Rattle.plan_writer.specs.Answers.{message_for, output_of, Did}
use Rattle.station_plans.specs.Answers.{write_answer, written_bytes, WroteFor}

module _ (station : Station) (split : ℕ) (T : List ℕ) {found : Result (Range ℕ) NotSplit} (i : found ≡ share_for (length T) split station) (limit rows : ℕ) (s p out : List ℕ) where
  pub write_there :
      {part : Range ℕ} → found ≡ Ok part → {out' : List ℕ} {a : WriterAnswer}
      → Did limit (take (part.end - part.start) (drop part.start T)) rows s p out out' a → WroteFor limit T station split rows s p out out' (Ok a)
  unfolding write_answer written_bytes
  write_there {part} e d =
      record {
        says = lent_answer split station T i e (write_answer limit rows s p (length out)) _ (ap Ok d.says);
        leaves =
            lent_answer split station T i e (written_bytes limit rows s p (length out)) _
            (d.leaves ∙ ap (λ (x : WriterAnswer). output_of x (message_for (take (part.end - part.start) (drop part.start T)) rows s p) (length out)) d.says);
      }

  pub write_nowhere : {why : NotSplit} → found ≡ Err why → WroteFor limit T station split rows s p out out (Err no_share)
  write_nowhere e =
      record {
        says = unlent_answer split station T i e (write_answer limit rows s p (length out)) (Err no_share);
        leaves = unlent_answer split station T i e (written_bytes limit rows s p (length out)) _;
      }

pub ruleset station_planning = (lending, write_there, write_nowhere)
