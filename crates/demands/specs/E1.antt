-- REQUEST E1: faults carry two members and no more. Each sentence is a field, over the definitions and the promises of `reader::read` and `writer::write`
-- (`Answers`, `Did`: see Demands). That the fields hold is proofs/E1. Assumes nothing.
use Rattle.std.specs.Prelude.{◌≡◌, true, ◌↔◌, List, [], ◌++◌, ℕ, ◌+◌, ◌-◌, ◌≤◌, length}
use Rattle.draft.specs.declared.Refusal.{Refusal}
use Rattle.std.specs.Prelude.{Ok}
use Rattle.draft.specs.Bytes.{bytes, Below}
use Rattle.draft.specs.Rows.{below}
use Rattle.draft.specs.Refusals.{number_of}
use Rattle.draft.specs.Content.{Held, fault_rule}
use Rattle.draft.specs.Table.{room_of, row_at, rows_at}
use Rattle.draft.specs.Limits.{allowed}
use Rattle.draft.specs.Read.{held_rows}
use Rattle.draft.specs.Grammar.{Cell, held_cells, Sent, Struct, Legal}
use Rattle.read_answer.specs.declared.Answer.{Answer as Read}
use Rattle.read_answer.specs.declared.Answer.TheVariants as read
use Rattle.read_answer.specs.Answers.{reading, Answers, report_of}
use Rattle.write_answer.specs.Answers.{Answer as Write}
use Rattle.std.specs.declared.result.Result.TheVariants as write
use Rattle.write_answer.specs.Answers.{Did}
use Rattle.write_answer.specs.Answers as writer
use Rattle.demands_reading.specs.Members.{TwoMembers}
use Rattle.demands_reading.specs.Placed.{Stands}

-- row 0 of a table is a fault's
abbrev pub IsFault : List ℕ → Type 0
IsFault T = (row_at (room_of 4096 (length T)) T 0).kind ≡ 3

-- the n rows of a table that has a fault: row 1 is its Struct's, and those from row 2 on, with their texts, are its two members
abbrev pub HasTwo : List ℕ → ℕ → List ℕ → Type 0
HasTwo T n s = TwoMembers (held_rows s (rows_at (room_of 4096 (length T)) T 2 (n - 2)))

pub record E1 : Type 0 where
  -- 'By the XML-RPC specification the Struct holds exactly faultCode, an Integer, and faultString, a String, in either order.'
  -- The grammar's rule of a fault's Struct is that; and so it is in every table that is read
  pub two_members : (items : List Held) → (fault_rule items ≡ Ok tt) ↔ TwoMembers items
  pub read_two :
      (limit : ℕ) (s : List ℕ) (words : ℕ) {T : List ℕ} {n used : ℕ} → Answers (reading limit s words) words T (read.Accepted n used) → IsFault T
      → HasTwo T n s
  -- 'This replaces 01's "any members".': also where a table is written
  pub written_two :
      (limit : ℕ) (T : List ℕ) (rows : ℕ) (s out₀ out : List ℕ) {n : ℕ} → Below 4294967296 T → Did limit T rows s out₀ out (write.Ok n) → IsFault T
      → HasTwo T rows s
  -- 'Refusals: 14, once the Struct is fully read, at its `S`': a Struct xs, derived from an empty codebook, for whose rows there is room, and that does not
  -- hold the two members, whatever follows it
  pub fourteen :
      (limit : ℕ) (xs more : List ℕ) (words : ℕ) {cells : List Cell} {sents : List Sent} {T : List ℕ} {a : Read} → allowed limit ≡ true
      → length (bytes "binmode-rpc:RF" ++ (xs ++ more)) ≤ 65536 → Struct limit xs cells sents → Legal [] sents → 1 + length cells ≤ room_of 4096 words
      → (TwoMembers (held_cells (below cells)) → ⊥) → Answers (reading limit (bytes "binmode-rpc:RF" ++ (xs ++ more)) words) words T a
      → report_of a ≡ record { number = 14; rows = 0; used = 0; place = 14 }
  -- and 14 comes for such a Struct alone: behind `R` and `F`, all of it derived, without the two members
  pub fourteen_only :
      (limit : ℕ) (s : List ℕ) (words : ℕ) {T : List ℕ} {m : Refusal} {place : ℕ} → Answers (reading limit s words) words T (read.Refused m place)
      → number_of m ≡ 14 → Stands s 14 place
  -- 'the writer says 11'
  pub writer_eleven :
      (limit : ℕ) (T : List ℕ) (rows : ℕ) (s out₀ out : List ℕ) {a : Write} → allowed limit ≡ true → length s ≤ 65536 → Below 4294967296 T
      → Did limit T rows s out₀ out a → IsFault T → (HasTwo T rows s → ⊥) → (writer.report_of a).number ≡ 11
