-- The classes of byte values by which RFC 3629's ranges tell bytes apart, and the class of each. Assumes nothing.
use Rattle.std.specs.Prelude.{cond, List, [], ◌∷◌, ℕ, zero, suc, ◌≤◌, get_or}
use Rattle.text.specs.Utf8.{Range, ◌to◌, within}

-- a character by itself
abbrev pub single : ℕ
single = 0

-- a tail, but not the second byte after E0 or F0
abbrev pub low_tail : ℕ
low_tail = 1

-- a tail, but not the second byte after E0 or F4
abbrev pub middle_tail : ℕ
middle_tail = 2

-- a tail, but not the second byte after ED or F4
abbrev pub high_tail : ℕ
high_tail = 3

-- in no character
abbrev pub never : ℕ
never = 4

-- begins a character of two bytes
abbrev pub lead_two : ℕ
lead_two = 5

-- begins one of three bytes; with a low or middle tail next its length would be surplus
abbrev pub lead_three_least : ℕ
lead_three_least = 6

-- begins one of three bytes
abbrev pub lead_three : ℕ
lead_three = 7

-- begins one of three bytes; with a high tail next it would be a surrogate
abbrev pub lead_three_surrogate : ℕ
lead_three_surrogate = 8

-- begins one of four bytes; with a low tail next its length would be surplus
abbrev pub lead_four_least : ℕ
lead_four_least = 9

-- begins one of four bytes
abbrev pub lead_four : ℕ
lead_four = 10

-- begins one of four bytes; with a middle or high tail next it would be above U+10FFFF
abbrev pub lead_four_most : ℕ
lead_four_most = 11

infix 70 ◌is◌
-- a range of byte values, and its class
pub data Row : Type 0 where
  ◌is◌ : Range → ℕ → Row

-- all byte values but F5 to FF, which are in no character
abbrev pub rows : List Row
rows =
    0x00 to 0x7F is single
    ∷ 0x80 to 0x8F is low_tail
    ∷ 0x90 to 0x9F is middle_tail
    ∷ 0xA0 to 0xBF is high_tail
    ∷ 0xC0 to 0xC1 is never
    ∷ 0xC2 to 0xDF is lead_two
    ∷ 0xE0 to 0xE0 is lead_three_least
    ∷ 0xE1 to 0xEC is lead_three
    ∷ 0xED to 0xED is lead_three_surrogate
    ∷ 0xEE to 0xEF is lead_three
    ∷ 0xF0 to 0xF0 is lead_four_least
    ∷ 0xF1 to 0xF3 is lead_four
    ∷ 0xF4 to 0xF4 is lead_four_most
    ∷ []

-- the class of the first range that has the byte
unfoldable pub class_by : List Row → ℕ → ℕ
class_by [] byte = never
class_by ((range is class) ∷ rs) byte = cond (within range byte) class (class_by rs byte)

-- the class of a byte value
unfoldable pub class_of : ℕ → ℕ
class_of byte = class_by rows byte

-- the table of n entries that a rule fills, from its value at k on
abbrev pub filled : (ℕ → ℕ) → ℕ → ℕ → List ℕ
filled rule k zero = []
filled rule k (suc n) = rule k ∷ filled rule (suc k) n

-- the class of each byte value
unfoldable pub class_table : List ℕ
class_table = filled class_of 0 256

-- the least and the greatest byte of a class up to the high tails
unfoldable pub least : ℕ → ℕ
least class = get_or (0x00 ∷ 0x80 ∷ 0x90 ∷ 0xA0 ∷ []) class 0

unfoldable pub greatest : ℕ → ℕ
greatest class = get_or (0x7F ∷ 0x8F ∷ 0x9F ∷ 0xBF ∷ []) class 0

-- the bytes of the classes from low to high, which are classes up to the high tails
unfoldable pub classes : ℕ → ℕ → Range
classes low high = least low to greatest high

-- UTF8-tail
abbrev pub tails : Range
tails = classes low_tail high_tail

-- both are classes up to the high tails
pub record UpToTails (low high : ℕ) : Type 0 where
  pub first : low ≤ high_tail
  pub last : high ≤ high_tail
