-- E5 holds, by the laws of demands_lookups.
use mathlib.Core.Path.{◌≡◌, refl}
use mathlib.Core.List.{List}
use Prim.Native.Nat.{ℕ}
use lib.IntN.{pos}
use Rattle.std.specs.Prelude.{Ok, Err}
use Rattle.lookup_answer.specs.Answers.{Answer}
use Rattle.lookup_answer.specs.declared.Value.TheVariants as answer
use Rattle.lookup_answer.specs.Reports.{plus_zero, reported, report_of}
use Rattle.demands_lookups.specs.Asked.{looked, told}
use Rattle.demands_lookups.proofs.Lookups as lookups
use Rattle.demands_lookups.proofs.Refusals as refusals
use Rattle.demands_lookups.proofs.Positions as positions
use Rattle.demands_lookups.proofs.Spelled as spelled
use Rattle.meant.specs.Parts.{Parts}
use Rattle.demands.specs.E5.{E5, Written}

pub holds : E5
holds = record {
  position_taken = positions.position_exactly;
  yields = λ c e w key m h. refusals.yields c e w key h;
  table_says = λ c e deep xs g key. lookups.table_says c.table c.rows c.text e g c.row key;
  message_says = λ limit s words rows used book e o to nesting cells b r key. lookups.message_says limit s words e o b r key;
  whole_number = spelled.twos_complement;
  reports = λ z x o n r. (refl, refl, refl, refl, refl, refl);
  only_one = λ c e w key m m' h i. refusals.only_one c e w key h i;
  decimal_holds = λ sign before fraction t ds d z. spelled.holds_digits (parts d) z;
  decimal_value = λ sign before fraction t n d w e m. spelled.value_plain (parts d) w e d.signed m;
  decimal_minus = λ before fraction t n d w e. spelled.value_minus (parts d) w e refl;
  powers = lookups.powers_exact;
  refused_zeros = positions.refused_zeros;
  eleven = refusals.eleven;
  position_eleven = positions.position_eleven;
  eighteen = refusals.eighteen;
  position_eighteen = positions.position_eighteen;
  nineteen = refusals.nineteen;
  position_nineteen = positions.position_nineteen;
  nothing_else = λ c key n. refused_only (looked c key) n;
}
  where
    parts : {sign before fraction t : List ℕ} → Written sign before fraction t → Parts sign before fraction t
    parts d = lookups.decimal_parts d.signed d.digits d.places d.is

    refused_only : (a : Answer) → (told a ≡ 0 → ⊥) → report_of a ≡ reported (told a) 0 (pos 0) plus_zero 0 0
    refused_only (Ok (answer.Whole k)) n = absurd (n refl)
    refused_only (Ok (answer.Decimal x)) n = absurd (n refl)
    refused_only (Ok (answer.Truth b)) n = absurd (n refl)
    refused_only (Ok (answer.Text o k)) n = absurd (n refl)
    refused_only (Ok (answer.Row r)) n = absurd (n refl)
    refused_only (Err why) n = refl
