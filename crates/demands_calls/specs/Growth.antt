-- Request E11: which answers stay under a higher limit of nesting, a larger table or both, and what it is that one stays. Assumes nothing.
use Rattle.std.specs.Prelude.{◌≡◌, ◌≢◌, List, ℕ, ◌<◌, length, get_or}
use Rattle.draft.specs.Table.{room_of, place}
use Rattle.draft.specs.Written.{rows_of}

-- 'an answer other than 8, 9, 22 or 23', by its number
pub record Lasts (number : ℕ) : Type 0 where
  pub not_deep : number ≢ 8
  pub not_full : number ≢ 9
  pub not_split_lem : number ≢ 22
  pub not_limit : number ≢ 23

-- 'stays, with its place and rows, .. the added words being zero': the answer a is b too, the n rows of the table T are those of T', row by row, and a word
-- of T' that is none of theirs is 0. A refusal has no rows, so that every word of T' is
pub record Stays {A : Type 0} (a b : A) (n : ℕ) (T T' : List ℕ) : Type 0 where
  pub answer : b ≡ a
  pub rows : rows_of 4096 T' n ≡ rows_of 4096 T n
  pub added : (i : ℕ) → ((r j : ℕ) → r < n → j < 4 → i ≢ place (room_of 4096 (length T')) r j) → get_or T' i 0 ≡ 0
