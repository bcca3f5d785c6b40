-- E9 holds, by the laws of demands_lookups.
use mathlib.Core.Path.{◌≡◌, refl, ap}
use Rattle.std.specs.Prelude.{Ok, Err}
use Rattle.choice.specs.Choosing.{Choice, choice_number}
use Rattle.lookup_reports.specs.Numbers.{text_report, text_report_of}
use Rattle.defaults.specs.Defaults.{chosen}
use Rattle.demands_lookups.proofs.Defaults as defaults
use Rattle.demands.specs.E9.{E9}

pub holds : E9
holds = record {
  card_text = λ card d key o n. defaults.card_text card d key;
  defaults_text = λ card d key o n w. defaults.defaults_text card d key w;
  card_alone = λ card key m h e w d d' f f'. defaults.defaults_change_nothing card key h e w d d' f f';
  card_part = λ card behind key s d r number from o n h w t e. defaults.card_part card behind key h w t e;
  defaults_part = λ card behind key s d r number from o n h w w' t e. defaults.defaults_part card behind key h w w' t e;
  card_report_lem = λ card behind key o n e. ap text_report_of e;
  defaults_report = λ card behind key o n e. ap text_report_of e;
  eleven = defaults.eleven;
  eighteen = defaults.eighteen;
  number_told_lem = λ card behind key s d r number from h. h.says;
  refused_part = λ card behind key s d r number from h. defaults.refused_part card behind key h;
  refused_report = λ card behind key. refused_only (chosen card behind key);
}
  where
    refused_only : (c : Choice) → (choice_number c ≡ 0 → ⊥) → text_report_of c ≡ text_report (choice_number c) 0 0 0
    refused_only (Ok text) h = absurd (h refl)
    refused_only (Err why) h = refl
