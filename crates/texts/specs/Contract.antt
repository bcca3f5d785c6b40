-- What the functions that find the first string of each text do. Assumes nothing.
use Rattle.std.specs.Prelude.{ℕ, ◌+◌, ◌≤◌, ◌≡◌, Bool, true, false, not, List, [], ◌∷◌, length, leb, eqb}
use Rattle.text.specs.Texts.{among}
use Rattle.draft.specs.Table.{from}
use Rattle.draft.specs.Strings.{Text}
use Rattle.buckets.specs.Numbered.{Firsts}

-- what a text costs at least, if it is new
abbrev pub new_cost : Bool → ℕ → ℕ
new_cost true n = 5 + n
new_cost false n = 0

pub record NewCost (t : ℕ → Text) (j f x : ℕ) : Type 0 where
  pub is : x ≡ new_cost (eqb f j) (length (t j))

-- the cost of the texts of ts that are new after those seen
unfoldable pub news : List Text → List Text → ℕ
news seen [] = 0
news seen (t ∷ ts) = new_cost (not (among seen t)) (length t) + news (t ∷ seen) ts

-- the answer of the pass over n strings: whether the new texts' cost is within 65,536; and if so, what it left
pub record Scanned (t : ℕ → Text) (n : ℕ) (fs : List ℕ) (cheap : Bool) : Type 0 where
  pub says : cheap ≡ leb (news [] (from t 0 n)) 65536
  pub firsts : cheap ≡ true → Firsts t n fs
  pub room : cheap ≡ true → n ≤ length fs
