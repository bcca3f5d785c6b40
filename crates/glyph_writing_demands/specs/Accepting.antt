-- Why the glyph writer accepts, and why it refuses, by documents 01's and 02's numbers. Assumes nothing.
use Rattle.glyph_form.specs.Answers.{Answer}
use Rattle.std.specs.Prelude.{◌≡◌, true, false, List, ℕ, ◌≤◌, ◌<◌, length, Err}
use Rattle.draft.specs.declared.Refusal.{Refusal}
use Rattle.draft.specs.Refusals.{number_of}
use Rattle.draft.specs.Limits.{allowed}
use Rattle.glyph.specs.declared.Edition.{Edition}
use Rattle.glyph_form.specs.Writable.{writable}
use Rattle.glyph_form.specs.Form.{form_of}

-- an answer that is the refusal with this number
pub record Says (number : ℕ) (a : Answer) : Type 0 where
  pub refusal : Refusal
  pub is : a ≡ Err refusal
  pub number_is : number_of refusal ≡ number

module _ (e : Edition) (limit : ℕ) (T : List ℕ) (rows : ℕ) (s : List ℕ) (room : ℕ) where
  -- what acceptance with length n asks: the limit is one of 1 to 32, the text bytes are at most 65,536, the table is writable, and its form, which is
  -- n bytes long, is at most 65,536 and fits the output
  pub record AcceptedFor (n : ℕ) : Type 0 where
    pub stated : allowed limit ≡ true
    pub text : length s ≤ 65536
    pub shape : writable e limit T rows s ≡ true
    pub long : n ≡ length (form_of e limit T s)
    pub most : n ≤ 65536
    pub fits : n ≤ room

  -- why the writer refuses, in order: each test after those before it held
  pub data RefusedFor : ℕ → Type 0 where
    no_limit : allowed limit ≡ false → RefusedFor 23
    long_text_lem : allowed limit ≡ true → 65536 < length s → RefusedFor 10
    not_writable : allowed limit ≡ true → length s ≤ 65536 → writable e limit T rows s ≡ false → RefusedFor 11
    long_form : allowed limit ≡ true → length s ≤ 65536 → writable e limit T rows s ≡ true → 65536 < length (form_of e limit T s) → RefusedFor 12
    short_output :
        allowed limit ≡ true → length s ≤ 65536 → writable e limit T rows s ≡ true → length (form_of e limit T s) ≤ 65536 → room < length (form_of e limit T s)
        → RefusedFor 13
