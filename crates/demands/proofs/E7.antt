-- E7 holds, by the laws of a Struct's keys in what is derived, in rows and in reading. Assumes nothing.
use mathlib.Core.Path.{◌≡◌, sym, ap, ◌∙◌}
use mathlib.Core.List.{List}
use Prim.Native.Nat.{ℕ, suc}
use Prim.Native.Char.{code}
use native.Mathlib.Omega.{arith}
use lib.ListN.{length}
use Rattle.draft.specs.declared.Refusal.{Refusal}
use Rattle.draft.specs.Codebook.{Book}
use Rattle.draft.specs.Table.{room_of, row_at}
use Rattle.draft.specs.Read.{refused, only, struct_item, nested, fault_struct}
use Rattle.draft.specs.Written.{rows_of}
use Rattle.read_answer.specs.Answers.{report_of, answer_of}
use Rattle.exact.proofs.Realising.{counts}
use Rattle.written.specs.Derivable.{DerivesRows}
use Rattle.written.proofs.Concluding.{rows_length}
use Rattle.meant.proofs.Saying.{standing}
use Rattle.meant.proofs.Only.{members_distinct}
use Rattle.demands_reading.proofs.Reading as reading-laws
use Rattle.demands_reading.proofs.Answering.{answered, refused_stands}
use Rattle.demands_reading.proofs.Keys.{key_said}
use Rattle.demands_writing.proofs.Writing.{form_derived}
use Rattle.demands_writing.proofs.Accepting.{read_derives, eleven}
use Rattle.demands_lookups.proofs.Lookups as lookups
use Rattle.demands_lookups.proofs.Refusals as refusals
use Rattle.demands.specs.E7.{E7, KeysDistinct, struct_sent}
use Rattle.demands.proofs.Demands.{third}

-- rows that mean what is derived
meant : {deep : ℕ} {xs : List ℕ} (T : List ℕ) (n : ℕ) (s : List ℕ) → DerivesRows deep xs s (rows_of 4096 T n) → (r : ℕ) → KeysDistinct T n s r
unfolding rows_of
meant T n s g r =
    members_distinct (row_at (room_of 4096 (length T)) T) s (standing (row_at (room_of 4096 (length T)) T) s n g.meaning) n
    (sym (counts g.meaning) ∙ rows_length 4096 T n) g.derived r

before_fourteen :
    (s : List ℕ) (room deep at r : ℕ) (book : Book) {m : Refusal} {place : ℕ}
    → only s room (code "S") (struct_item s room (nested s room deep)) at r book ≡ refused m place
    → fault_struct s room deep at r book ≡ refused m place
unfolding fault_struct
before_fourteen s room deep at r book e = rw e

pub holds : E7
holds = record {
  distinct_keys = reading-laws.distinct_keys;
  read_distinct = λ limit s words {T} {n} d r. meant T n s (read_derives limit s words d) r;
  writable_distinct = λ T rows s w e r. lookups.distinct_members T rows s e w r;
  only_one = λ c e w key m m' h i. refusals.only_one c e w key h i;
  demand_three = third;
  twenty = λ d i j k l {n} {keys} {xs} {ys} more words v h r e p u x m o q z.
      ap report_of (answered (suc d) (struct_sent i j k l xs ys more) words v h z ∙ ap answer_of (key_said d (room_of 4096 words) i j k l more e p u x m o q r));
  twenty_only = λ limit s words d e. rw e at (refused_stands limit s words d (λ f. omega (arith, e, f)) (λ f. omega (arith, e, f)));
  key_repeated = λ s room value seen at r book e h. reading-laws.key_repeated s room value seen at r book e h;
  key_new = λ s room value seen at r book e h. reading-laws.key_new s room value seen at r book e h;
  key_refused = λ s room value seen at r book e. reading-laws.key_refused s room value seen at r book e;
  before_fourteen = λ s room deep at r book e. before_fourteen s room deep at r book e;
  writer_eleven = λ limit T rows s out₀ out l h w d r f.
      eleven limit T rows s out₀ out d l h (λ v. f (meant T rows s (form_derived limit T rows s v w) r));
}
