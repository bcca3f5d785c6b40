-- The rows of a dict's keys, put in byte order of their texts. Assumes nothing.
use Rattle.std.specs.Prelude.{◌≡◌, Bool, true, false, cond, List, [], ◌∷◌, ℕ, zero, suc, ◌+◌, ◌-◌, ◌<◌, length, take, ltb}
use Rattle.draft.specs.declared.Row.{Row}
use Rattle.sorting.specs.Sorting.{sorted}

-- n keys from row r on, behind each of which stands its value
unfoldable pub key_rows : (ℕ → Row) → ℕ → ℕ → List ℕ
key_rows row zero r = []
key_rows row (suc n) r = r ∷ key_rows row n (row (r + 1)).end

-- each with its value among the rows that there are
pub data Keys (row : ℕ → Row) (room : ℕ) : ℕ → ℕ → Type 0 where
  no_key : {r : ℕ} → Keys row room 0 r
  key : {n r : ℕ} → r + 1 < room → Keys row room n (row (r + 1)).end → Keys row room (suc n) r

-- the texts of rows by their numbers
module _ (text : ℕ → List ℕ) where
  -- their texts have more bytes together than so many
  unfoldable pub over : ℕ → List ℕ → Bool
  over left [] = false
  over left (k ∷ ks) = cond (ltb left (length (text k))) true (over (left - length (text k)) ks)

  -- put in order, unless they are too long to be written
  unfoldable pub arranged : ℕ → List ℕ → List ℕ
  arranged most ks = cond (over most ks) ks (sorted text ks)

-- the first n of rows are ks, arranged
pub record Laid (text : ℕ → List ℕ) (most : ℕ) (ks : List ℕ) (n : ℕ) (rows : List ℕ) : Type 0 where
  pub is : take n rows ≡ arranged text most ks
