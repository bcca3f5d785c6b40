-- The refusals of a message or a table and the numbers that documents 01 and 02 give them; 4, of a room that is too short (E6), is none of
-- these: crate pieces has it. Assumes nothing.
use Rattle.std.specs.Prelude.{ℕ, cond, eqb}
use Rattle.draft.specs.declared.Refusal.{Refusal}
use Rattle.draft.specs.declared.Refusal.TheVariants.{
  Ended,
  WrongPrefix,
  UnexpectedByte,
  BadText,
  UnsetPosition,
  StandardName,
  TooDeep,
  NoRow,
  TooLong,
  NotWritable,
  FormTooLong,
  OutputTooShort,
  BadFault,
  BadValue,
  RepeatedKey,
  NoLimit,
}

abbrev pub number_of : Refusal → ℕ
-- the bytes end inside or before a needed item
number_of Ended = 1
-- the first bytes differ from `binmode-rpc:`
number_of WrongPrefix = 2
-- a byte that begins nothing allowed there
number_of UnexpectedByte = 3
-- bad UTF-8, or a byte of 128 or more in a Double or DateTime
number_of BadText = 5
-- recall of a position never set in this message
number_of UnsetPosition = 6
-- an Other with a standard name
number_of StandardName = 7
-- nesting over the limit
number_of TooDeep = 8
-- no row left
number_of NoRow = 9
-- message or text bytes over the limit
number_of TooLong = 10
-- the table is not writable
number_of NotWritable = 11
-- the written form is over the limit
number_of FormTooLong = 12
-- the output is shorter than the written form
number_of OutputTooShort = 13
-- 02: a fault whose Struct does not hold the two members of a fault, and no more
number_of BadFault = 14
-- 02: a Double or a DateTime in ASCII that is no such text
number_of BadValue = 17
-- 02: a key that its Struct has already
number_of RepeatedKey = 20
-- 02: a limit of nesting outside 1 to 32
number_of NoLimit = 23

-- the refusal that has a number
unfoldable pub refusal_of : ℕ → Refusal
refusal_of n =
    cond (eqb n 1) Ended
    (cond (eqb n 2) WrongPrefix
    (cond (eqb n 3) UnexpectedByte
    (cond (eqb n 5) BadText
    (cond (eqb n 6) UnsetPosition
    (cond (eqb n 7) StandardName
    (cond (eqb n 8) TooDeep
    (cond (eqb n 9) NoRow
    (cond (eqb n 10) TooLong
    (cond (eqb n 11) NotWritable
    (cond (eqb n 12) FormTooLong
    (cond (eqb n 13) OutputTooShort
    (cond (eqb n 14) BadFault
    (cond (eqb n 17) BadValue
    (cond (eqb n 20) RepeatedKey
    NoLimit))))))))))))))
