-- Rows in byte order of their texts, by insertion from the last to the first: each behind those that it is not before. Assumes nothing.
use Rattle.std.specs.Prelude.{◌≡◌, Bool, false, cond, List, [], ◌∷◌, ℕ, zero, suc, ◌≤◌, ◌<◌, ltb, length, get_or}
use Rattle.std.specs.Ordering.{is_lt}
use Rattle.order.specs.ByteOrder.{compared}
use Rattle.draft.specs.declared.Row.{Row}
use Rattle.draft.specs.Read.{text_of}

-- the text of row r in a table with room for so many rows; behind them stands none
unfoldable pub key_text : ℕ → (ℕ → Row) → List ℕ → ℕ → List ℕ
key_text room row s r = cond (ltb r room) (text_of s (row r)) []

-- k put in front of the element at place p
unfoldable pub insert_at : ℕ → ℕ → List ℕ → List ℕ
insert_at zero k xs = k ∷ xs
insert_at (suc p) k [] = k ∷ []
insert_at (suc p) k (x ∷ xs) = x ∷ insert_at p k xs

-- the texts of rows by their numbers
module _ (text : ℕ → List ℕ) where
  -- the text of row k is before that of row j
  unfoldable pub before : ℕ → ℕ → Bool
  before k j = is_lt (compared (text k) (text j))

  -- the place of k: behind all rows up to the first that k is before
  unfoldable pub spot : ℕ → List ℕ → ℕ
  spot k [] = 0
  spot k (x ∷ xs) = cond (before k x) 0 (suc (spot k xs))

  unfoldable pub inserted : ℕ → List ℕ → List ℕ
  inserted k xs = insert_at (spot k xs) k xs

  -- the first of some rows inserted among the others
  unfoldable pub settled : List ℕ → List ℕ
  settled [] = []
  settled (k ∷ ks) = inserted k ks

  -- IN ORDER: each inserted among those behind it
  unfoldable pub sorted : List ℕ → List ℕ
  sorted [] = []
  sorted (k ∷ ks) = inserted k (sorted ks)

  -- no text is before an earlier one
  pub record Rising (xs : List ℕ) : Type 0 where
    pub up : (i j : ℕ) → i ≤ j → j < length xs → before (get_or xs j 0) (get_or xs i 0) ≡ false
