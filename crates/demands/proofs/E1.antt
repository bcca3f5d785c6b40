-- E1 holds, by the laws of what a fault's rows mean and of what its message says. Assumes nothing.
use mathlib.Core.Path.{ap, ◌∙◌}
use mathlib.Core.List.{List, ◌++◌}
use Prim.Native.Nat.{ℕ}
use native.Mathlib.Omega.{arith}
use lib.ListN.{length}
use Rattle.draft.specs.Bytes.{bytes}
use Rattle.draft.specs.Table.{room_of, row_at}
use Rattle.draft.specs.Written.{rows_of}
use Rattle.read_answer.specs.Answers.{report_of, answer_of}
use Rattle.written.specs.Derivable.{DerivesRows}
use Rattle.demands_reading.proofs.Reading as reading-laws
use Rattle.demands_reading.proofs.Answering.{answered, refused_stands}
use Rattle.demands_reading.proofs.Values.{derived_fault, fault_said}
use Rattle.demands_writing.proofs.Writing.{form_derived}
use Rattle.demands_writing.proofs.Accepting.{read_derives, written_derives, eleven}
use Rattle.demands.specs.E1.{E1, IsFault, HasTwo}

-- rows that mean what is derived
meant : {deep : ℕ} {xs : List ℕ} (T : List ℕ) (n : ℕ) (s : List ℕ) → DerivesRows deep xs s (rows_of 4096 T n) → IsFault T → HasTwo T n s
unfolding rows_of
meant T n s g e = derived_fault (row_at (room_of 4096 (length T)) T) s n g.derived g.meaning e

pub holds : E1
holds = record {
  two_members = reading-laws.two_members;
  read_two = λ limit s words {T} {n} d e. meant T n s (read_derives limit s words d) e;
  written_two = λ limit T rows s out₀ out w d e. meant T rows s (written_derives limit T rows s out₀ out d w) e;
  fourteen = λ limit xs more words l h x k r f d.
      ap report_of (answered limit (bytes "binmode-rpc:RF" ++ (xs ++ more)) words l h d ∙ ap answer_of (fault_said xs more (room_of 4096 words) limit x k r f));
  fourteen_only = λ limit s words d e. rw e at (refused_stands limit s words d (λ f. omega (arith, e, f)) (λ f. omega (arith, e, f)));
  writer_eleven = λ limit T rows s out₀ out l h w d e f.
      eleven limit T rows s out₀ out d l h (λ v. f (meant T rows s (form_derived limit T rows s v w) e));
}
