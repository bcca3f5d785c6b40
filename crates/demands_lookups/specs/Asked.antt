-- What E5's answers and refusals speak of, in a table's own terms: the member of a Struct with a key, and the kind of its value. A `Source` is a table
-- with its stated rows, its text bytes, and the row that the caller names. Assumes nothing.
use Rattle.std.specs.Prelude.{◌≡◌, true, false, List, ℕ, eqb, Float, Ok, Err}
use Rattle.decimal.specs.Decimal.{held, decimal_of}
use Rattle.draft.specs.Bytes.{bytes}
use Rattle.draft.specs.Read.{text_of}
use Rattle.member.specs.declared.Member.{Member}
use Rattle.member.specs.Members.{is_struct, members, is_among}
use Rattle.lookup_answer.specs.declared.Refusal.TheVariants.{TooManyDigits}
use Rattle.lookup_answer.specs.Answers.{Answer, signed, lookup}
use Rattle.lookup_answer.specs.declared.Value.TheVariants.{Whole, Decimal, Truth, Text, Row}
use Rattle.lookup_answer.specs.Reports.{report_of}
use Rattle.placing.specs.declared.Placed.{Placed}
use Rattle.placing.specs.Placing.{outcome_number, position}
use Rattle.defaults.specs.Defaults.{Source, row_in}

-- what `lookup::lookup` answers, and its number: 0, or the refusal's
abbrev pub looked : Source → List ℕ → Answer
looked c key = lookup c.table c.rows c.text c.row key

abbrev pub told : Answer → ℕ
told a = (report_of a).number

-- what `position::position_of` answers, and its number
abbrev pub placed : Source → Placed
placed c = position c.table c.rows c.text c.row

abbrev pub placed_number : Source → ℕ
placed_number c = outcome_number (placed c).outcome

-- the members of the Struct that the source names, and none if its row is no Struct's
abbrev pub its_members : Source → List Member
its_members c = members (row_in c) c.rows c.row

-- the row named is no Struct's
abbrev pub NoStruct : Source → Type 0
NoStruct c = is_struct (row_in c) c.rows c.row ≡ false

-- m is one of the Struct's members, and its key has the bytes of the key asked for
pub record Has (c : Source) (key : List ℕ) (m : Member) : Type 0 where
  pub among : is_among m (its_members c) ≡ true
  pub named : text_of c.text (row_in c m.key) ≡ key

-- no member has that key
abbrev pub Without : Source → List ℕ → Type 0
Without c key = (m : Member) → Has c key m → ⊥

abbrev pub kind_in : Source → Member → ℕ
kind_in c m = (row_in c m.value).kind

-- the text of a member's value
abbrev pub value_text : Source → Member → List ℕ
value_text c m = text_of c.text (row_in c m.value)

-- 'a whole number, a decimal, a yes or no, a text, or another item's row', by the kind of the member's value; of a Double with too many digits, why not
pub data Yields (c : Source) (m : Member) : Answer → Type 0 where
  integer : kind_in c m ≡ 4 → Yields c m (Ok (Whole (signed (row_in c m.value).a)))
  boolean : kind_in c m ≡ 5 → Yields c m (Ok (Truth (eqb (row_in c m.value).a 1)))
  double : {x : Float} → kind_in c m ≡ 6 → decimal_of (value_text c m) ≡ Ok x → Yields c m (Ok (Decimal x))
  long_double : kind_in c m ≡ 6 → held (value_text c m) ≡ false → Yields c m (Err TooManyDigits)
  string : kind_in c m ≡ 11 → Yields c m (Ok (Text (row_in c m.value).a (row_in c m.value).b))
  datetime : kind_in c m ≡ 7 → Yields c m (Ok (Row m.value))
  binary : kind_in c m ≡ 8 → Yields c m (Ok (Row m.value))
  array : kind_in c m ≡ 9 → Yields c m (Ok (Row m.value))
  struct : kind_in c m ≡ 10 → Yields c m (Ok (Row m.value))
  other : kind_in c m ≡ 12 → Yields c m (Ok (Row m.value))

-- 'a row that is no Struct, an absent member'
pub data Missing (c : Source) (key : List ℕ) : Type 0 where
  no_struct : NoStruct c → Missing c key
  absent : Without c key → Missing c key

-- the same, or a member 'of the wrong sort' for one who asks for a Double
pub data NoDouble (c : Source) (key : List ℕ) : Type 0 where
  missing : Missing c key → NoDouble c key
  wrong_sort : (m : Member) → Has c key m → (kind_in c m ≡ 6 → ⊥) → NoDouble c key

-- the member with the key is a Double, of the text t
pub record Double (c : Source) (key t : List ℕ) : Type 0 where
  pub member : Member
  pub has : Has c key member
  pub kind : kind_in c member ≡ 6
  pub text : value_text c member ≡ t

-- it is one; it is one with too many digits; it is one whose decimal is x
pub record IsDouble (c : Source) (key : List ℕ) : Type 0 where
  pub text : List ℕ
  pub double : Double c key text

pub record LongDouble (c : Source) (key : List ℕ) : Type 0 where
  pub text : List ℕ
  pub double : Double c key text
  pub long : held text ≡ false

pub record DoubleOf (c : Source) (key : List ℕ) (x : Float) : Type 0 where
  pub text : List ℕ
  pub double : Double c key text
  pub value : decimal_of text ≡ Ok x

-- for one of the members asked for, and for all three
pub data OneOf (P : List ℕ → Type 0) : Type 0 where
  for_x : P (bytes "x") → OneOf P
  for_y : P (bytes "y") → OneOf P
  for_turn : P (bytes "turn") → OneOf P

abbrev pub AllOf : (List ℕ → Type 0) → Type 0
AllOf P = P (bytes "x") × P (bytes "y") × P (bytes "turn")
