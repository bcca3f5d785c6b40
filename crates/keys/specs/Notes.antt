-- Notes of keys in lent words, by which a key that comes again in its Struct is found. Entry i has three words: the head of bucket i, and of
-- row i its link and its owner. A key is noted at its row. Its owner is its Struct, named by the row of the Struct's first key, which is
-- not 0; a row that is no key has owner 0. In a head or a link, r + 1 stands for row r and 0 for none. Assumes nothing.
use Rattle.std.specs.Prelude.{ℕ, zero, suc, ◌+◌, ◌*◌, ◌/◌, ◌≤◌, ◌<◌, ◌≡◌, Bool, true, false, List, [], ◌∷◌, length, get_or, set, eqb}
use Rattle.text.specs.Texts.{among}
use Rattle.draft.specs.Strings.{Text}
use Rattle.draft.specs.Table.{row_at}
use Rattle.draft.specs.Read.{text_of}
use Rattle.spread.specs.Buckets.{whole_bucket_of}

abbrev pub head_of : List ℕ → ℕ → ℕ
head_of W b = get_or W (b * 3) 0

abbrev pub link_of : List ℕ → ℕ → ℕ
link_of W r = get_or W (r * 3 + 1) 0

abbrev pub owner_of : List ℕ → ℕ → ℕ
owner_of W r = get_or W (r * 3 + 2) 0

-- the text that row r names
unfoldable pub named : List ℕ → ℕ → List ℕ → ℕ → Text
named s room T r = text_of s (row_at room T r)

abbrev pub keep_if : Bool → Text → List Text → List Text
keep_if true u us = u ∷ us
keep_if false u us = us

-- the texts of an owner's keys among the first n rows, the newest first, where t r is the text that row r names
unfoldable pub keys_of : (ℕ → Text) → List ℕ → ℕ → ℕ → List Text
keys_of t W owner zero = []
keys_of t W owner (suc n) = keep_if (eqb (owner_of W n) owner) (t n) (keys_of t W owner n)

-- row k is on the chain from c on
pub data On (W : List ℕ) : ℕ → ℕ → Type 0 where
  here : {k : ℕ} → On W (suc k) k
  next : (c k : ℕ) → On W (link_of W c) k → On W (suc c) k

-- the keys below row `free` are noted, and no others: each is on the chain of its bucket, and chains lead to earlier rows
pub record Noted (t : ℕ → Text) (W : List ℕ) (free : ℕ) : Type 0 where
  pub heads : (b : ℕ) → head_of W b ≤ free
  pub links : (k : ℕ) → link_of W k ≤ k
  pub owners : (k : ℕ) → owner_of W k ≤ k
  pub blank : (k : ℕ) → free ≤ k → owner_of W k ≡ 0
  pub on : (k : ℕ) → 0 < owner_of W k → On W (head_of W (whole_bucket_of (length W / 3) (owner_of W k) (t k))) k

-- what noting the key of a row asks: of the table, and of the words
pub record Rows (row room words : ℕ) : Type 0 where
  pub inside : row < room
  pub most : room ≤ 4096
  pub table : room * 4 ≤ words

pub record Entry (owner row words : ℕ) : Type 0 where
  pub some : 0 < owner
  pub before : owner ≤ row
  pub inside : row < words / 3
  pub most : words ≤ 12288

-- h is the bucket of a row's key
pub record Placed (t : ℕ → Text) (words owner row h : ℕ) : Type 0 where
  pub bucket : h ≡ whole_bucket_of (words / 3) owner (t row)
  pub inside : h < words / 3

-- the words once a row is put in front on a bucket's chain
unfoldable pub joined : List ℕ → ℕ → ℕ → ℕ → List ℕ
joined W owner row h = set (set (set W (row * 3 + 1) (head_of W h)) (row * 3 + 2) owner) (h * 3) (row + 1)

-- the key of a row is noted for its owner: the owner's keys are one more, and those of others what they were
pub record Added (t : ℕ → Text) (W W' : List ℕ) (owner row : ℕ) : Type 0 where
  pub noted : Noted t W' (row + 1)
  pub owners : (k : ℕ) → k < row → owner_of W' k ≡ owner_of W k
  pub mine : keys_of t W' owner (row + 1) ≡ t row ∷ keys_of t W owner row
  pub others : (o : ℕ) → (o ≡ owner → ⊥) → keys_of t W' o (row + 1) ≡ keys_of t W o row

-- the key of a row is looked for among its owner's, and noted if it is new; else nothing is changed
pub record Noting (t : ℕ → Text) (W W' : List ℕ) (owner row : ℕ) (again : Bool) : Type 0 where
  pub says : again ≡ among (keys_of t W owner row) (t row)
  pub added : again ≡ false → Added t W W' owner row
  pub kept : again ≡ true → W' ≡ W

-- the chain from c on has all the owner's keys below `row` that may be u
pub record Ahead (t : ℕ → Text) (W : List ℕ) (owner row c : ℕ) (u : Text) : Type 0 where
  pub within : c ≤ row
  pub links : (k : ℕ) → link_of W k ≤ k
  pub owners : (k : ℕ) → owner_of W k ≤ k
  pub on : (k : ℕ) → k < row → owner_of W k ≡ owner → t k ≡ u → On W c k

-- what happens to the notes while rows from `first` up to `free` are read or walked: the keys of Structs outside stay what they were
pub record Keeps (t t' : ℕ → Text) (W W' : List ℕ) (first free : ℕ) : Type 0 where
  pub noted : Noted t' W' free
  pub owners : (k : ℕ) → k < first → owner_of W' k ≡ owner_of W k
  pub keys : (o : ℕ) → 0 < o → o < first → keys_of t' W' o free ≡ keys_of t W o first

-- rows from `first` up to `free` that begin with an owner's key: it is noted, and the keys of others stay what they were
pub record Joins (t t' : ℕ → Text) (W W' : List ℕ) (owner first free : ℕ) : Type 0 where
  pub on : first < free
  pub noted : Noted t' W' free
  pub owners : (k : ℕ) → k < first → owner_of W' k ≡ owner_of W k
  pub mine : keys_of t' W' owner free ≡ t' first ∷ keys_of t W owner first
  pub others : (o : ℕ) → 0 < o → o < first → (o ≡ owner → ⊥) → keys_of t' W' o free ≡ keys_of t W o first
