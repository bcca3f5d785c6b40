-- The index of a Struct's members: the entries in byte order of their keys, unused ones behind them; and why there is none. Defined for any table.
-- Assumes nothing.
use Rattle.std.specs.Prelude.{◌≡◌, cond, ◌||◌, List, [], ◌∷◌, ◌++◌, ℕ, ◌+◌, ◌-◌, ◌/◌, ◌≤◌, ltb, eqb, length, get_or, replicate, Result, Ok, Err}
use Rattle.draft.specs.declared.Row.{Row}
use Rattle.draft.specs.Table.{room_of, row_at, from}
use Rattle.draft.specs.Writable.{writable}
use Rattle.member.specs.declared.Member.{Member}
use Rattle.member.specs.Members.{member_of, is_struct, members}
use Rattle.seeking.specs.Seeking.{unused}
use Rattle.sorting.specs.Sorting.{key_text, sorted}
use Rattle.index.specs.declared.Refusal.{Refusal}
use Rattle.index.specs.declared.Refusal.TheVariants.{NotWritable, NoStruct, ShortList}

-- document 02's numbers of the refusals
abbrev pub number_of : Refusal → ℕ
number_of NotWritable = 11
number_of NoStruct = 18
number_of ShortList = 21

-- 0, or the refusal's number
abbrev pub told : Result (Unit {0}) Refusal → ℕ
told (Ok done) = 0
told (Err why) = number_of why

-- the key rows of members
unfoldable pub key_rows : List Member → List ℕ
key_rows [] = []
key_rows (m ∷ ms) = m.key ∷ key_rows ms

-- key rows, and zeros behind them: those of 2,047 members, and half as many words
unfoldable pub padded : List ℕ → List ℕ
padded xs = xs ++ replicate (3071 - length xs) 0

-- c key rows, as they stand, and half as many words
pub record Gathered (ks : List ℕ) (c : ℕ) (order : List ℕ) : Type 0 where
  pub count : c ≡ length ks
  pub room : c + c / 2 ≤ length order
  pub holds : order ≡ padded ks

-- the rows by their numbers, of a table with so much room
module _ (room : ℕ) (row : ℕ → Row) (rows : ℕ) (s : List ℕ) (r n : ℕ) where
  -- '18 as in E5, then 21 if the list is shorter than the member count'; no Struct of a writable table has more than 2,047 members
  unfoldable pub refusal_in : ℕ
  refusal_in = cond (is_struct row rows r) (cond (ltb n (length (members row rows r)) || ltb 2047 (length (members row rows r))) 21 0) 18

  -- the key rows of the members in byte order of their texts; none if the call is refused
  unfoldable pub order_in : List ℕ
  order_in = cond (eqb refusal_in 0) (sorted (key_text room row s) (key_rows (members row rows r))) []

  pub record Arranged (answer : ℕ) (order : List ℕ) : Type 0 where
    pub answers : answer ≡ refusal_in
    pub holds : order ≡ padded order_in

-- table, stated rows, text bytes, the Struct's row, and the length of the list
module _ (T : List ℕ) (rows : ℕ) (s : List ℕ) (r n : ℕ) where
  -- 0, or the number of the refusal: '11, 18 as in E5, then 21'
  unfoldable pub refusal_of : ℕ
  refusal_of = cond (writable T rows s) (refusal_in (room_of 4096 (length T)) (row_at (room_of 4096 (length T)) T) rows s r n) 11

  unfoldable pub order_of : List ℕ
  order_of = cond (writable T rows s) (order_in (room_of 4096 (length T)) (row_at (room_of 4096 (length T)) T) rows s r n) []

  pub record Listed (answer : ℕ) (order : List ℕ) : Type 0 where
    pub answers : answer ≡ refusal_of
    pub holds : order ≡ padded order_of

-- the entry of key row k: the value's row is the one behind it. Row 0 is no key's, nor is one that no table has
unfoldable pub entry_of : ℕ → Member
entry_of k = cond (eqb k 0 || ltb 4096 k) unused (member_of k (k + 1))

-- a number that has an entry, as it is kept
unfoldable pub narrowed : ℕ → ℕ
narrowed k = cond (ltb 4096 k) 0 k

-- the rows that are kept have the entries of the key rows
pub record Ordered (T : List ℕ) (rows : ℕ) (s : List ℕ) (r n answer : ℕ) (kept : List ℕ) : Type 0 where
  pub answers : answer ≡ refusal_of T rows s r n
  pub entry : (i : ℕ) → entry_of (get_or kept i 0) ≡ entry_of (get_or (order_of T rows s r n) i 0)

-- n entries: entry i is that of key row i, and behind them stand unused ones
unfoldable pub entries : List ℕ → ℕ → List Member
entries ks n = from (λ i. entry_of (get_or ks i 0)) 0 n

-- WHAT FILLING a list of n entries answers, and what is in the list then: settled by the table, its text bytes, the row and n
pub record Filled (T : List ℕ) (rows : ℕ) (s : List ℕ) (r n answer : ℕ) (es : List Member) : Type 0 where
  pub answers : answer ≡ refusal_of T rows s r n
  pub list : es ≡ entries (order_of T rows s r n) n
