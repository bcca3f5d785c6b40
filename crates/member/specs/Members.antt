-- The members of a Struct, by rows, and the one that has a key. Defined for any rows: a row past the stated ones ends the members, and a row
-- that is no Struct has none. Assumes nothing.
use Rattle.std.specs.Prelude.{Bool, false, cond, ◌&&◌, ◌||◌, List, [], ◌∷◌, ℕ, zero, suc, ◌+◌, ltb, eqb, Option, Some, None}
use Rattle.text.specs.Texts.{same}
use Rattle.draft.specs.declared.Row.{Row}
use Rattle.draft.specs.Read.{text_of}
use Rattle.member.specs.declared.Member.{Member}

abbrev pub member_of : ℕ → ℕ → Member
member_of key value = record { key = key; value = value }

-- the member whose key is row r, among so many rows
abbrev pub member_in : ℕ → ℕ → Option Member
member_in rows r = cond (ltb (r + 1) rows) (Some (member_of r (r + 1))) None

-- the rows by their numbers, and how many there are
module _ (row : ℕ → Row) (rows : ℕ) where
  -- n members, the first key at row r: a key's row, then its value's, whose end is the row of the next key
  unfoldable pub members_from : ℕ → ℕ → List Member
  members_from zero r = []
  members_from (suc n) r = cond (ltb (r + 1) rows) (member_of r (r + 1) ∷ members_from n (row (r + 1)).end) []

  -- row r is a Struct's
  unfoldable pub is_struct : ℕ → Bool
  is_struct r = ltb r rows && eqb (row r).kind 10

  -- the members of the Struct of row r, in order: b pairs
  unfoldable pub members : ℕ → List Member
  members r = cond (is_struct r) (members_from (row r).b (r + 1)) []

-- two members with the same two rows
unfoldable pub same_member : Member → Member → Bool
same_member m n = eqb m.key n.key && eqb m.value n.value

unfoldable pub is_among : Member → List Member → Bool
is_among m [] = false
is_among m (x ∷ xs) = same_member x m || is_among m xs

-- the rows by their numbers, and the bytes that their texts lie in
module _ (row : ℕ → Row) (s : List ℕ) where
  -- the text of row r has the bytes of a key
  unfoldable pub has_key : List ℕ → ℕ → Bool
  has_key key r = same (text_of s (row r)) key

  -- the texts of members' keys, in order
  unfoldable pub keys_of : List Member → List (List ℕ)
  keys_of [] = []
  keys_of (m ∷ ms) = text_of s (row m.key) ∷ keys_of ms

  -- the first with a key; in a writable table it is the only one
  unfoldable pub find : List ℕ → List Member → Option Member
  find key [] = None
  find key (m ∷ ms) = cond (has_key key m.key) (Some m) (find key ms)
