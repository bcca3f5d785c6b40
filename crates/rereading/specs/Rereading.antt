-- Reading the bytes of a message again that was refused with 1 when there were fewer, with the same limit of nesting: the table after it. Assumes
-- nothing.
use Rattle.std.specs.Prelude.{◌≡◌, Bool, false, ◌&&◌, cond, List, ◌++◌, ℕ, ◌*◌, ◌/◌, length, drop, replicate, ltb, eqb}
use Rattle.draft.specs.Refusals.{number_of}
use Rattle.draft.specs.Read.{Reading, got, refused}
use Rattle.read_answer.specs.declared.Answer.{Answer}
use Rattle.read_answer.specs.Answers.{reading, answer_of, table_of}

-- refused with 1
abbrev pub refused_with_one : Reading → Bool
refused_with_one (got rows used book) = false
refused_with_one (refused m place) = eqb (number_of m) 1

-- the table after the bytes s were read, first with k words of it: refused with 1, the other words are left as they were
abbrev pub table_tried : ℕ → ℕ → List ℕ → List ℕ → List ℕ
table_tried limit k s T = cond (refused_with_one (reading limit s k)) (replicate k 0 ++ drop k T) (table_of (length T) (reading limit s (length T)))

-- at first with all words; then, if there is room for more rows than there are bytes, with four words for each
abbrev pub table_read : ℕ → ℕ → List ℕ → List ℕ → List ℕ
table_read limit wanted s T =
    cond (ltb 0 wanted && ltb (length s) (length T / 4)) (table_tried limit (4 * length s) s T) (table_of (length T) (reading limit s (length T)))

-- what reading the bytes s into the first k words of the table did
pub record PartRead (limit : ℕ) (s : List ℕ) (k : ℕ) (T T' : List ℕ) (a : Answer) : Type 0 where
  pub says : a ≡ answer_of (reading limit s k)
  pub leaves : T' ≡ table_of k (reading limit s k) ++ drop k T

-- what reading the bytes s did, with the table X after it: the answer is that of reading them into the whole table
pub record Reread (limit : ℕ) (s T X T' : List ℕ) (a : Answer) : Type 0 where
  pub says : a ≡ answer_of (reading limit s (length T))
  pub leaves : T' ≡ X
