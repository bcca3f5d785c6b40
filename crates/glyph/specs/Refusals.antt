-- The refusals of a glyph message and the numbers that documents 01 and 02 give them. Assumes nothing.
use Rattle.std.specs.Prelude.{ℕ}
use Rattle.glyph.specs.declared.Refusal.{Refusal}
use Rattle.glyph.specs.declared.Refusal.TheVariants.{Ended, UnexpectedByte, BadText, TooDeep, NoRow, TooLong, RepeatedKey, BadLimit, OutOfRange}

abbrev pub number_of : Refusal → ℕ
-- the bytes end inside or before a needed object
number_of Ended = 1
-- a byte that begins nothing allowed there, a wrong byte inside an item, or one after the root that is no blank
number_of UnexpectedByte = 3
-- bad UTF-8
number_of BadText = 5
-- nesting over the limit
number_of TooDeep = 8
-- no row left
number_of NoRow = 9
-- message bytes over the limit
number_of TooLong = 10
-- a key that its dict has already
number_of RepeatedKey = 20
-- a limit of nesting outside 1 to 32
number_of BadLimit = 23
-- an integer outside 32 bits
number_of OutOfRange = 25
