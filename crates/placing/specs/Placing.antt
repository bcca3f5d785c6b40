-- A position: the members x, y and turn of one Struct, looked up, and what they are together. Assumes nothing.
use Rattle.std.specs.Prelude.{Bool, ◌||◌, cond, List, ℕ, eqb, Float, Ok, Err, Result}
use Rattle.draft.specs.Bytes.{bytes}
use Rattle.lookup_answer.specs.declared.Refusal as Why
use Rattle.lookup_answer.specs.declared.Refusal.TheVariants.{NotWritable, NoMember, TooManyDigits}
use Rattle.lookup_answer.specs.Answers.{Answer, number_of, lookup}
use Rattle.lookup_answer.specs.declared.Value.TheVariants.{Whole, Decimal, Truth, Text, Row}
use Rattle.lookup_answer.specs.Reports.{plus_zero}
use Rattle.placing.specs.declared.Position.{Position}
use Rattle.placing.specs.declared.Placed.{Placed}

-- 'each from a Double': 0, or the number of the refusal
abbrev pub coordinate_number : Answer → ℕ
coordinate_number (Ok (Decimal x)) = 0
coordinate_number (Ok (Whole n)) = 18
coordinate_number (Ok (Truth b)) = 18
coordinate_number (Ok (Text o n)) = 18
coordinate_number (Ok (Row r)) = 18
coordinate_number (Err why) = number_of why

abbrev pub coordinate_value : Answer → Float
coordinate_value (Ok (Decimal x)) = x
coordinate_value (Ok (Whole n)) = plus_zero
coordinate_value (Ok (Truth b)) = plus_zero
coordinate_value (Ok (Text o n)) = plus_zero
coordinate_value (Ok (Row r)) = plus_zero
coordinate_value (Err why) = plus_zero

-- that there is a position, or why there is none
abbrev pub Outcome : Type 0
Outcome = Result (Unit {0}) Why.Refusal

-- 0, or the refusal's number
abbrev pub outcome_number : Outcome → ℕ
outcome_number (Ok done) = 0
outcome_number (Err why) = number_of why

abbrev pub at : Float → Float → Float → Position
at x y turn = record { x = x; y = y; turn = turn }

abbrev pub accepted_at : Position → Placed
accepted_at p = record { outcome = Ok tt; position = p }

-- 'a refused one is three plus zeros'
abbrev pub refused_with : Why.Refusal → Placed
refused_with why = record { outcome = Err why; position = at plus_zero plus_zero plus_zero }

unfoldable pub is_any : ℕ → ℕ → ℕ → ℕ → Bool
is_any n x y turn = eqb x n || eqb y n || eqb turn n

-- 11 first; 18 'over all members asked for; then 19'
unfoldable pub together : ℕ → ℕ → ℕ → Position → Placed
together x y turn p =
    cond (is_any 11 x y turn) (refused_with NotWritable)
    (cond (is_any 18 x y turn) (refused_with NoMember)
    (cond (is_any 19 x y turn) (refused_with TooManyDigits) (accepted_at p)))

unfoldable pub settled : Answer → Answer → Answer → Placed
settled x y turn =
    together (coordinate_number x) (coordinate_number y) (coordinate_number turn)
    (at (coordinate_value x) (coordinate_value y) (coordinate_value turn))

-- the position in the Struct of row r: three lookups
unfoldable pub position : List ℕ → ℕ → List ℕ → ℕ → Placed
position T rows s r = settled (lookup T rows s r (bytes "x")) (lookup T rows s r (bytes "y")) (lookup T rows s r (bytes "turn"))
