-- What is reported of a position: document 02's number of its outcome, and the three values. And of a text asked for by key: the number, which of the
-- two has it, and where it lies there. Assumes nothing.
use Rattle.std.specs.Prelude.{◌≡◌, ℕ, Ok, Err}
use Rattle.placing.specs.declared.Position.{Position}
use Rattle.placing.specs.declared.Placed.{Placed}
use Rattle.placing.specs.Placing.{outcome_number}
use Rattle.choice.specs.Choosing.{Choice, choice_number, source_of}

pub record PositionReported (p : Placed) (number : ℕ) (values : Position) : Type 0 where
  pub says : number ≡ outcome_number p.outcome
  pub gives : values ≡ p.position

pub record TextReport : Type 0 where
  pub number : ℕ
  pub source : ℕ
  pub offset : ℕ
  pub length : ℕ

abbrev pub text_report : ℕ → ℕ → ℕ → ℕ → TextReport
text_report number source offset size = record { number = number; source = source; offset = offset; length = size }

abbrev pub offset_of : Choice → ℕ
offset_of (Ok text) = text.offset
offset_of (Err why) = 0

abbrev pub length_of : Choice → ℕ
length_of (Ok text) = text.length
length_of (Err why) = 0

-- refused: no text, and the card is named
abbrev pub text_report_of : Choice → TextReport
text_report_of c = text_report (choice_number c) (source_of c) (offset_of c) (length_of c)
