-- What writing a table gives: its answer, and the output after it. Both depend on the edition, the limit of nesting, the table, its stated
-- rows, the text bytes and the output's length alone. Assumes nothing.
use Rattle.std.specs.Prelude.{ℕ, ◌-◌, ◌≡◌, Bool, true, false, Result, Ok, Err, List, ◌++◌, length, replicate, leb}
use Rattle.draft.specs.declared.Refusal.{Refusal}
use Rattle.draft.specs.declared.Refusal.TheVariants.{TooLong, NotWritable, FormTooLong, OutputTooShort, NoLimit}
use Rattle.draft.specs.Limits.{allowed}
use Rattle.glyph.specs.declared.Edition.{Edition}
use Rattle.glyph_form.specs.Writable.{writable}
use Rattle.glyph_form.specs.Form.{form_of}

-- how many bytes were written, or why not
abbrev pub Answer : Type 0
Answer = Result ℕ Refusal

-- where a test holds, and otherwise a refusal
abbrev pub given : Bool → Refusal → Answer → Answer
given true refusal o = o
given false refusal o = Err refusal

-- the answer for a form of n bytes, with so much room: 12, 13, or its length
abbrev pub answer_for : ℕ → ℕ → Answer
answer_for n room = given (leb n 65536) FormTooLong (given (leb n room) OutputTooShort (Ok n))

-- the answer to a call that states a limit of nesting: 23, 10, 11, then as the written form has it
unfoldable pub answer_of : Edition → ℕ → List ℕ → ℕ → List ℕ → ℕ → Answer
answer_of e limit T rows s room =
    given (allowed limit) NoLimit
    (given (leb (length s) 65536) TooLong
    (given (writable e limit T rows s) NotWritable
    (answer_for (length (form_of e limit T s)) room)))

-- the output after an answer: the form and zeros behind it; on a refusal all zeros
abbrev pub output_of : Answer → List ℕ → ℕ → List ℕ
output_of (Ok n) form room = form ++ replicate (room - n) 0
output_of (Err refusal) form room = replicate room 0

-- what a call of the writer did
pub record Did (e : Edition) (limit : ℕ) (T : List ℕ) (rows : ℕ) (s out out' : List ℕ) (answer : Answer) : Type 0 where
  pub says : answer ≡ answer_of e limit T rows s (length out)
  pub leaves : out' ≡ output_of answer (form_of e limit T s) (length out)
