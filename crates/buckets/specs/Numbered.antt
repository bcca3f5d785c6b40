-- Strings by their numbers: the text of each, those before it, the first string that has its text, and which texts come again. Assumes nothing.
use Rattle.std.specs.Prelude.{ℕ, zero, suc, ◌-◌, ◌*◌, ◌≤◌, ◌<◌, ◌≡◌, List, [], ◌∷◌, length, get_or, ltb}
use Rattle.text.specs.Texts.{among}
use Rattle.draft.specs.declared.Row.{Row}
use Rattle.draft.specs.Read.{text_of}
use Rattle.draft.specs.Table.{from}
use Rattle.draft.specs.Strings.{Text}

-- the text of string j, whose row the words have
unfoldable pub numbered_text : (ℕ → Row) → List ℕ → List ℕ → ℕ → Text
numbered_text row W s j = text_of s (row (get_or W j 0))

-- of n strings the words have the rows, which a table of so many words has
pub record Strings (room words n : ℕ) (W : List ℕ) : Type 0 where
  pub table : room * 4 ≤ words
  pub most : room ≤ 4096
  pub few : n ≤ 4096
  pub there : n ≤ length W
  pub rows : (k : ℕ) → k < n → get_or W k 0 < room

-- the same of string j and those before it
pub record Through (room words j : ℕ) (W : List ℕ) : Type 0 where
  pub table : room * 4 ≤ words
  pub most : room ≤ 4096
  pub few : j < 4096
  pub there : j < length W
  pub rows : (k : ℕ) → k ≤ j → get_or W k 0 < room

-- the texts before string j, the newest first
unfoldable pub before : (ℕ → Text) → ℕ → List Text
before t zero = []
before t (suc j) = t j ∷ before t j

-- string f is the first whose text is that of string j
pub record First (t : ℕ → Text) (j f : ℕ) : Type 0 where
  pub within : f ≤ j
  pub equal : t f ≡ t j
  pub none : (k : ℕ) → k < f → t k ≡ t j → ⊥

-- the first n words say of each string which is the first of its text
pub record Firsts (t : ℕ → Text) (n : ℕ) (fs : List ℕ) : Type 0 where
  pub at : (k : ℕ) → k < n → First t k (get_or fs k 0)

-- of each string that is the first of its text, the words say whether the text comes again before string n
pub record Marks (t : ℕ → Text) (n : ℕ) (tw : List ℕ) : Type 0 where
  pub at : (k : ℕ) → k < n → First t k k → ltb 0 (get_or tw k 0) ≡ among (from t (suc k) (n - suc k)) (t k)
