-- What the functions on a message ask, the strings being known, and what they do. Assumes nothing.
use Rattle.std.specs.Prelude.{ℕ, suc, ◌≤◌, ◌<◌, ◌≡◌, cond, List, length}
use Rattle.draft.specs.declared.Row.{Row}
use Rattle.draft.specs.Table.{from}
use Rattle.draft.specs.Strings.{is_string, texts_of, kept, plan}
use Rattle.draft.specs.Written.{items_of, item_bytes, string_bytes}
use Rattle.buckets.specs.Numbered.{numbered_text, Through, Firsts}
use Rattle.positions.specs.Contract.{Slots, told, Ready as Told}
use Rattle.output.specs.Contract.{Put}
use Rattle.sending.specs.Contract.{Collected}

-- the items of the written form
unfoldable pub planned : List ℕ → List Row → List ℕ
planned s rows = items_of s rows (plan (texts_of s rows))

-- the words W have the rows of the strings, and of those strings the first of each text and the positions are known
pub record Known (row : ℕ → Row) (rows : ℕ) (s W fs sp : List ℕ) : Type 0 where
  pub count : ℕ
  pub strings : Collected row rows W count
  pub firsts : Firsts (numbered_text row W s) count fs
  pub slots : Slots (kept (texts_of s (from row 0 rows))) (numbered_text row W s) count sp
  pub room : count ≤ length fs
  pub room_spots : count ≤ length sp
  pub short : length s ≤ 65536

-- the bytes of row x, where string j is the next
unfoldable pub row_bytes : (ℕ → Row) → List ℕ → List ℕ → List ℕ → List ℕ → ℕ → Row → List ℕ
row_bytes row s W fs sp j x = cond (is_string x) (string_bytes (told fs sp j (numbered_text row W s j))) (item_bytes s x)

-- the next string behind row x
unfoldable pub next_string : ℕ → Row → ℕ
next_string j x = cond (is_string x) (suc j) j

-- how string j is sent is told, if row x is that string's
pub record Asked (room words : ℕ) (s W fs sp : List ℕ) (j : ℕ) (x : Row) : Type 0 where
  pub told : x.kind ≡ 11 → Told fs sp j
  pub there : x.kind ≡ 11 → Through room words j W
  pub short : length s ≤ 65536

-- xs has n bytes, which are few
pub record Long (xs : List ℕ) (n : ℕ) : Type 0 where
  pub is : n ≡ length xs
  pub few : n ≤ 65542

-- xs was put, if it has at most so many bytes; and if it has more, n is over that
pub record Fitted (xs : List ℕ) (most : ℕ) (out out' : List ℕ) (n : ℕ) : Type 0 where
  pub put : n ≤ most → Put xs out out' n
  pub over : most < n → most < length xs
