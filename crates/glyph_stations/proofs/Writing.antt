-- What answers each return of the function that writes a station's share as a glyph message. Assumes nothing.
use mathlib.Core.Path.{◌≡◌, ap, ◌∙◌}
use mathlib.Core.List.{List}
use Prim.Native.Nat.{ℕ, ◌-◌}
use lib.ListN.{length, take, drop}
use Rattle.shares.specs.declared.Station.{Station}
use Rattle.std.specs.Prelude.{Result, Ok, Err}
use Rattle.std.specs.declared.ops.Range.{Range}
use Rattle.shares.specs.declared.NotSplit as shares
use Rattle.shares.specs.Share.{no_share, share_for}
use Rattle.shares.proofs.Lent.{lending, lent_answer, unlent_answer}
use Rattle.glyph.specs.declared.Edition.{Edition}
use Rattle.glyph_form.specs.Form.{form_of}
use Rattle.glyph_form.specs.Answers.{Answer, output_of, Did}
use Rattle.glyph_stations.specs.Answers.{write_answer, written_bytes, WroteFor}

module _ (station : Station) (split : ℕ) (T : List ℕ) {found : Result (Range ℕ) shares.NotSplit} (i : found ≡ share_for (length T) split station) (e : Edition) (limit rows : ℕ) (s out : List ℕ) where
  pub write_there :
      {part : Range ℕ} → found ≡ Ok part → {out' : List ℕ} {a : Answer} → Did e limit (take (part.end - part.start) (drop part.start T)) rows s out out' a
      → WroteFor e limit T station split rows s out out' (Ok a)
  unfolding write_answer written_bytes
  write_there {part} f d =
      record {
        says = lent_answer split station T i f (write_answer e limit rows s (length out)) _ (ap Ok d.says);
        leaves =
            lent_answer split station T i f (written_bytes e limit rows s (length out)) _
            (d.leaves ∙ ap (λ (x : Answer). output_of x (form_of e limit (take (part.end - part.start) (drop part.start T)) s) (length out)) d.says);
      }

  pub write_nowhere : {why : shares.NotSplit} → found ≡ Err why → WroteFor e limit T station split rows s out out (Err no_share)
  write_nowhere f =
      record {
        says = unlent_answer split station T i f (write_answer e limit rows s (length out)) (Err no_share);
        leaves = unlent_answer split station T i f (written_bytes e limit rows s (length out)) _;
      }

pub ruleset station_writing = (lending, write_there, write_nowhere)
