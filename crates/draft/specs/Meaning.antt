-- What the rows of a table mean, with the bytes that their content lies in: document 01's 'mean the same', literally; and rows that have the
-- meaning of cells. That the two agree is proved in crate exact. Assumes nothing.
use Rattle.std.specs.Prelude.{◌≡◌, Bool, true, false, ◌||◌, List, [], ◌∷◌, ℕ, suc, ◌+◌, ◌≤◌, eqb, length}
use Rattle.draft.specs.declared.Row.{Row}
use Rattle.draft.specs.Bytes.{part}
use Rattle.draft.specs.Grammar.{Payload, holding, number, contents, Cell, cell}

-- Integer and Boolean: a is a number
unfoldable pub has_number : ℕ → Bool
has_number kind = eqb kind 4 || eqb kind 5

-- Double, DateTime, Binary and String: a and b say where content bytes lie
unfoldable pub has_content : ℕ → Bool
has_content kind = eqb kind 6 || (eqb kind 7 || (eqb kind 8 || eqb kind 11))

-- two rows, each with its own bytes: 'equal kind, b and end, equal a for kinds 4 and 5, and equal content bytes for kinds 6, 7, 8 and 11'
pub record SameRow (s : List ℕ) (x : Row) (t : List ℕ) (y : Row) : Type 0 where
  pub kind : x.kind ≡ y.kind
  pub b : x.b ≡ y.b
  pub end : x.end ≡ y.end
  pub a : has_number x.kind ≡ true → x.a ≡ y.a
  pub content : has_content x.kind ≡ true → part s x.a x.b ≡ part t y.a y.b

-- 'Two tables, each with its own bytes, mean the same if they have as many rows', and the rows are so
pub data MeanSame (s : List ℕ) (t : List ℕ) : List Row → List Row → Type 0 where
  no_rows : MeanSame s t [] []
  and_row : {x y : Row} {xs ys : List Row} → SameRow s x t y → MeanSame s t xs ys → MeanSame s t (x ∷ xs) (y ∷ ys)

-- a row's a and b, by its kind: none and how many it holds; a number and 0; where content bytes lie, all of them inside s
pub data Says (s : List ℕ) (x : Row) : Payload → Type 0 where
  says_holding : {n : ℕ} → has_number x.kind ≡ false → has_content x.kind ≡ false → x.a ≡ 0 → x.b ≡ n → Says s x (holding n)
  says_number : {n : ℕ} → has_number x.kind ≡ true → x.a ≡ n → x.b ≡ 0 → Says s x (number n)
  says_contents : {t : List ℕ} → has_content x.kind ≡ true → x.a + x.b ≤ length s → part s x.a x.b ≡ t → Says s x (contents t)

-- row r has the meaning of a cell
pub data Means (s : List ℕ) (r : ℕ) (x : Row) : Cell → Type 0 where
  means : {kind below : ℕ} {p : Payload} → x.kind ≡ kind → x.end ≡ r + 1 + below → Says s x p → Means s r x (cell kind below p)

-- the rows from row r on have the meanings of the cells, one each
pub data Realises (s : List ℕ) : ℕ → List Row → List Cell → Type 0 where
  no_more : {r : ℕ} → Realises s r [] []
  and_then : {r : ℕ} {x : Row} {c : Cell} {xs : List Row} {cs : List Cell} → Means s r x c → Realises s (suc r) xs cs → Realises s r (x ∷ xs) (c ∷ cs)
