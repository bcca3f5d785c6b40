-- What looking up a member answers, and document 02's numbers of its refusals. Defined for any table. Assumes nothing.
use Rattle.std.specs.Prelude.{cond, List, ℕ, ltb, eqb, ℤ, pos, ◌-ℤ◌, length, Option, Some, None, Result, Ok, Err}
use Rattle.decimal.specs.Decimal as D
use Rattle.decimal.specs.Decimal.{decimal_of}
use Rattle.draft.specs.declared.Row as R
use Rattle.draft.specs.declared.Content as C
use Rattle.draft.specs.declared.Content.TheVariants as content
use Rattle.draft.specs.declared.Item.{Item}
use Rattle.draft.specs.declared.Item.TheVariants as item
use Rattle.draft.specs.Rows.{item_of}
use Rattle.draft.specs.Read.{text_of}
use Rattle.draft.specs.Table.{room_of, row_at}
use Rattle.draft.specs.Writable.{writable}
use Rattle.member.specs.declared.Member.{Member}
use Rattle.member.specs.Members.{members, find}
use Rattle.lookup_answer.specs.declared.Refusal as Why
use Rattle.lookup_answer.specs.declared.Refusal.TheVariants as why
use Rattle.lookup_answer.specs.declared.Value as V
use Rattle.lookup_answer.specs.declared.Value.TheVariants.{Whole, Decimal, Truth, Text, Row}

-- what is answered, or why nothing is
abbrev pub Answer : Type 0
Answer = Result V.Value Why.Refusal

abbrev pub number_of : Why.Refusal → ℕ
-- 'for an unwritable table'
number_of why.NotWritable = 11
-- 'for a row that is no Struct, an absent member or one of the wrong sort'
number_of why.NoMember = 18
-- 'for too many digits'
number_of why.TooManyDigits = 19

-- 32 bits as a signed number, two's complement
unfoldable pub signed : ℕ → ℤ
signed n = cond (ltb n 2147483648) (pos n) (pos n -ℤ pos 4294967296)

abbrev pub decimal_answer : D.Decimal → Answer
decimal_answer (Ok x) = Ok (Decimal x)
decimal_answer (Err e) = Err why.TooManyDigits

-- 'a text is a String's offset and length'; a DateTime and a Binary answer with their row
abbrev pub content_answer : C.Content → List ℕ → R.Row → ℕ → Answer
content_answer content.Double s x r = decimal_answer (decimal_of (text_of s x))
content_answer content.DateTime s x r = Ok (Row r)
content_answer content.Binary s x r = Ok (Row r)
content_answer content.Text s x r = Ok (Text x.a x.b)

-- 'a whole number, a decimal, a yes or no, a text, or another item's row', by the item of row r; what is no Value is of the wrong sort
abbrev pub item_answer : Item → List ℕ → R.Row → ℕ → Answer
item_answer item.Integer s x r = Ok (Whole (signed x.a))
item_answer item.Boolean s x r = Ok (Truth (eqb x.a 1))
item_answer (item.Content c) s x r = content_answer c s x r
item_answer item.Array s x r = Ok (Row r)
item_answer item.Struct s x r = Ok (Row r)
item_answer item.Other s x r = Ok (Row r)
item_answer item.Call s x r = Err why.NoMember
item_answer item.Response s x r = Err why.NoMember
item_answer item.Fault s x r = Err why.NoMember
item_answer item.Unknown s x r = Err why.NoMember

-- the rows by their numbers, and the text bytes
module _ (row : ℕ → R.Row) where
  -- what row r answers
  unfoldable pub answer_at : List ℕ → ℕ → Answer
  answer_at s r = item_answer (item_of (row r).kind) s (row r) r

  abbrev pub found_answer : List ℕ → Option Member → Answer
  found_answer s (Some m) = answer_at s m.value
  found_answer s None = Err why.NoMember

  -- what the member with a key answers in the Struct of row r, among so many rows
  unfoldable pub look : ℕ → List ℕ → ℕ → List ℕ → Answer
  look rows s r key = found_answer s (find row s key (members row rows r))

-- '11 first, for an unwritable table'
unfoldable pub lookup : List ℕ → ℕ → List ℕ → ℕ → List ℕ → Answer
lookup T rows s r key = cond (writable T rows s) (look (row_at (room_of 4096 (length T)) T) rows s r key) (Err why.NotWritable)
