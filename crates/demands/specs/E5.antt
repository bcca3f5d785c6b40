-- E5: POSITIONS FOR THE LASER STATION (document 02), over what `lookup::lookup` and `position::position_of` answer: their `ensures` are `a ≡ lookup ..`
-- and `p ≡ position ..`, for any table; neither has a `requires`. A source c is a table with its stated rows, its text bytes and the row named;
-- `looked c key` and `placed c` are the two answers there, `told` and `placed_number c` their numbers: 0, or the refusal's. A table is words of 32
-- bits. That the fields hold is proofs/E5. Assumes nothing.
use Rattle.std.specs.Prelude.{◌≡◌, true, false, ◌↔◌, List, [], ◌∷◌, ◌++◌, ℕ, ◌^◌, ◌≤◌, ◌<◌, ℤ, pos, ◌-ℤ◌, length, Float, Ok}
use Prim.Native.Char.{code}
use Rattle.std.specs.Float.{binary64}
use Rattle.std.specs.Float.Ieee.{of_int, div, neg}
use Rattle.std.specs.Float.Ieee.Exact.{HasValue}
use Rattle.lexical.specs.Grammar.{Sign, Digits}
use Rattle.decimal.specs.Decimal.{power, held, decimal_of}
use Rattle.draft.specs.declared.Row.{Row as TableRow}
use Rattle.draft.specs.Bytes.{Below, bytes}
use Rattle.draft.specs.Codebook.{Book}
use Rattle.draft.specs.Read.{got}
use Rattle.draft.specs.Grammar.{Cell, Begins}
use Rattle.draft.specs.Written.{rows_of}
use Rattle.read_answer.specs.Answers.{reading, table_of}
use Rattle.member.specs.declared.Member.{Member}
use Rattle.lookup_answer.specs.declared.Value.TheVariants.{Whole, Decimal, Truth, Text, Row}
use Rattle.lookup_answer.specs.Answers.{signed, lookup}
use Rattle.lookup_answer.specs.Reports.{plus_zero, reported, report_of}
use Rattle.placing.specs.Placing.{at, accepted_at}
use Rattle.defaults.specs.Defaults.{Source, is_writable}
use Rattle.written.specs.Derivable.{DerivesRows}
use Rattle.meant.specs.Meant.{Answered}
use Rattle.demands_lookups.specs.Asked.{looked, told, placed, placed_number, Has, Yields, Missing, NoDouble, IsDouble, LongDouble, DoubleOf, OneOf, AllOf}
use Rattle.demands_lookups.specs.Spelled.{ZerosDropped, WholeNumber}

-- what a Double's text is: a sign or none, digits, a point, digits
pub record Written (sign before fraction t : List ℕ) : Type 0 where
  pub signed : Sign sign
  pub digits : Digits before
  pub places : Digits fraction
  pub is : t ≡ sign ++ (before ++ (code "." ∷ fraction))

-- 'divided once by the power of ten'
abbrev pub divided : ℕ → ℕ → Float
divided n places = div binary64 (of_int binary64 (pos n)) (power places)

pub record E5 : Type 0 where
  -- 'The laser takes members x, y and turn of one Struct, named by its row.'
  pub position_taken :
      (c : Source) → Below 4294967296 c.table → (x y turn : Float)
      → (placed c ≡ accepted_at (at x y turn))
      ↔ ((is_writable c ≡ true) × DoubleOf c (bytes "x") x × DoubleOf c (bytes "y") y × DoubleOf c (bytes "turn") turn)
  -- 'Looking up a member yields a whole number, a decimal, a yes or no, a text, or another item's row; [..] A DateTime, Binary, Array, Struct or Other
  -- answers with its row; a text is a String's offset and length.' By the kind of the member's value; by what the draft derives with the table's
  -- meaning, as it does for every writable table (page Rules); and, of a message that was read, by what it derives for the message.
  pub yields :
      (c : Source) → is_writable c ≡ true → Below 4294967296 c.table → (key : List ℕ) (m : Member) → Has c key m → Yields c m (looked c key)
  pub table_says :
      (c : Source) → is_writable c ≡ true → (deep : ℕ) (xs : List ℕ) (g : DerivesRows deep xs c.text (rows_of 4096 c.table c.rows)) → (key : List ℕ)
      → Answered c.text g.cells c.row key (looked c key)
  pub message_says :
      (limit : ℕ) (s : List ℕ) (words : ℕ) (rows : List TableRow) (used : ℕ) (book : Book) → reading limit s words ≡ got rows used book → Below 256 s
      → (to nesting : ℕ) (cells : List Cell) → Begins s to nesting cells → (r : ℕ) (key : List ℕ)
      → Answered s cells r key (lookup (table_of words (got rows used book)) (length rows) s r key)
  -- A whole number is 01's Integer, 'signed two's complement'; and an answer as it is reported: 0, its sort, and its own numbers.
  pub whole_number : (n : ℕ) → (n < 2147483648 → signed n ≡ pos n) × (2147483648 ≤ n → signed n ≡ pos n -ℤ pos 4294967296)
  pub reports :
      (z : ℤ) (x : Float) (o n r : ℕ)
      → (report_of (Ok (Whole z)) ≡ reported 0 1 z plus_zero 0 0)
      × (report_of (Ok (Decimal x)) ≡ reported 0 2 (pos 0) x 0 0)
      × (report_of (Ok (Truth true)) ≡ reported 0 3 (pos 1) plus_zero 0 0)
      × (report_of (Ok (Truth false)) ≡ reported 0 3 (pos 0) plus_zero 0 0)
      × (report_of (Ok (Text o n)) ≡ reported 0 4 (pos 0) plus_zero o n)
      × (report_of (Ok (Row r)) ≡ reported 0 5 (pos r) plus_zero 0 0)
  -- 'with repeated keys the first wins': E7 leaves none, so of a writable table the member with a key is the only one.
  pub only_one :
      (c : Source) → is_writable c ≡ true → Below 4294967296 c.table → (key : List ℕ) (m m' : Member) → Has c key m → Has c key m' → m ≡ m'
  -- 'A decimal holds at most 15 digits after leading zeros are dropped and at most 22 after the point.'
  pub decimal_holds :
      (sign before fraction t ds : List ℕ) → Written sign before fraction t → ZerosDropped (before ++ fraction) ds
      → (held t ≡ true) ↔ ((length ds ≤ 15) × (length fraction ≤ 22))
  -- 'Its f64 is the digits as a whole number divided once by the power of ten, then negated if the sign is minus.'
  pub decimal_value :
      (sign before fraction t : List ℕ) (n : ℕ) → Written sign before fraction t → WholeNumber (before ++ fraction) n → held t ≡ true
      → (sign ≡ code "-" ∷ [] → ⊥) → decimal_of t ≡ Ok (divided n (length fraction))
  pub decimal_minus :
      (before fraction t : List ℕ) (n : ℕ) → Written (code "-" ∷ []) before fraction t → WholeNumber (before ++ fraction) n → held t ≡ true
      → decimal_of t ≡ Ok (neg (divided n (length fraction)))
  -- 'Powers come from a table of the powers of ten up to 22.' The table is `decimal`'s POWERS, whose entry k `decimal::power` equates with `power k`.
  pub powers : (k : ℕ) → k ≤ 22 → HasValue (power k) false (10 ^ k) 1
  -- 'A position keeps x, y and turn together as decimals, each from a Double.' This is position-taken. 'A refused one is three plus zeros.'
  pub refused_zeros : (c : Source) → Below 4294967296 c.table → (placed_number c ≡ 0 → ⊥) → (placed c).position ≡ at plus_zero plus_zero plus_zero
  -- 'Refusals: 11 first, for an unwritable table;'
  pub eleven : (c : Source) → Below 4294967296 c.table → (key : List ℕ) → (told (looked c key) ≡ 11) ↔ (is_writable c ≡ false)
  pub position_eleven : (c : Source) → Below 4294967296 c.table → (placed_number c ≡ 11) ↔ (is_writable c ≡ false)
  -- '18 for a row that is no Struct, an absent member or one of the wrong sort, over all members asked for;' No sort is wrong for a lookup.
  pub eighteen : (c : Source) → Below 4294967296 c.table → (key : List ℕ) → (told (looked c key) ≡ 18) ↔ ((is_writable c ≡ true) × Missing c key)
  pub position_eighteen : (c : Source) → Below 4294967296 c.table → (placed_number c ≡ 18) ↔ ((is_writable c ≡ true) × OneOf (NoDouble c))
  -- 'then 19 for too many digits.'
  pub nineteen : (c : Source) → Below 4294967296 c.table → (key : List ℕ) → (told (looked c key) ≡ 19) ↔ ((is_writable c ≡ true) × LongDouble c key)
  pub position_nineteen :
      (c : Source) → Below 4294967296 c.table
      → (placed_number c ≡ 19) ↔ ((is_writable c ≡ true) × AllOf (IsDouble c) × OneOf (LongDouble c))
  -- 'A refusal with no place given, here and later, has place 0.' No place is reported, and of a refusal every number but its own is 0.
  pub nothing_else :
      (c : Source) (key : List ℕ) → (told (looked c key) ≡ 0 → ⊥) → report_of (looked c key) ≡ reported (told (looked c key)) 0 (pos 0) plus_zero 0 0
