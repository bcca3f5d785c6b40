-- An answer in numbers: what programs in C and Rust are told. Assumes nothing.
use Rattle.std.specs.Prelude.{Bool, true, false, ℕ, ℤ, pos, Float, Ok, Err}
use Rattle.std.specs.Float.{fin}
use Rattle.lookup_answer.specs.Answers.{Answer, number_of}
use Rattle.lookup_answer.specs.declared.Value.TheVariants.{Whole, Decimal, Truth, Text, Row}
use Rattle.lookup_answer.specs.declared.Report.{Report}

-- +0.0
abbrev pub plus_zero : Float
plus_zero = fin false 0 (pos 0)

abbrev pub reported : ℕ → ℕ → ℤ → Float → ℕ → ℕ → Report
reported number sort whole decimal offset size =
    record { number = number; sort = sort; whole = whole; decimal = decimal; offset = offset; length = size }

abbrev pub bit : Bool → ℤ
bit true = pos 1
bit false = pos 0

-- 0 or the refusal's number; the sort, 0 for a refusal; and the answer's own numbers, the others 0
abbrev pub report_of : Answer → Report
report_of (Ok (Whole n)) = reported 0 1 n plus_zero 0 0
report_of (Ok (Decimal x)) = reported 0 2 (pos 0) x 0 0
report_of (Ok (Truth b)) = reported 0 3 (bit b) plus_zero 0 0
report_of (Ok (Text offset size)) = reported 0 4 (pos 0) plus_zero offset size
report_of (Ok (Row r)) = reported 0 5 (pos r) plus_zero 0 0
report_of (Err why) = reported (number_of why) 0 (pos 0) plus_zero 0 0
