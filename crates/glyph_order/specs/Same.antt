-- That two objects mean the same, a plain dict's pair order aside, which is what document 02 says of meaning; and distinct keys. Assumes nothing.
use Rattle.std.specs.Prelude.{◌≡◌, Bool, true, false, cond, List, ℕ}
use Rattle.std.specs.declared.cmp.Ordering.{Ordering}
use Rattle.std.specs.declared.cmp.Ordering.TheVariants.{Less, Equal, Greater}
use Rattle.order.specs.ByteOrder.{compared}
use Rattle.draft.specs.Grammar.{Payload}
use Rattle.glyph.specs.Tree.{Tree, leaf, many, plain, ordered, Trees, none, also, Pairs, no_pairs, pair}

abbrev pub is_before : Ordering → Bool
is_before Less = true
is_before Equal = false
is_before Greater = false

-- byte order of keys
unfoldable pub before : List ℕ → List ℕ → Bool
before k l = is_before (compared k l)

-- the pairs whose keys come after a key
unfoldable pub above : List ℕ → Pairs → Pairs
above b no_pairs = no_pairs
above b (pair k t ps) = cond (before b k) (pair k t (above b ps)) (above b ps)

-- pairs in another order
pub data Shuffled : Pairs → Pairs → Type 0 where
  as_is : {ps : Pairs} → Shuffled ps ps
  keep : {k : List ℕ} {t : Tree} {ps qs : Pairs} → Shuffled ps qs → Shuffled (pair k t ps) (pair k t qs)
  swap : {k l : List ℕ} {t u : Tree} {ps : Pairs} → (k ≡ l → ⊥) → Shuffled (pair k t (pair l u ps)) (pair l u (pair k t ps))
  both : {ps qs rs : Pairs} → Shuffled ps qs → Shuffled qs rs → Shuffled ps rs

-- MEAN THE SAME, a plain dict's pair order aside
mutual
  pub data Same : Tree → Tree → Type 0 where
    same_leaf : {kind : ℕ} {load : Payload} → Same (leaf kind load) (leaf kind load)
    same_many : {kind : ℕ} {ts us : Trees} → Sames ts us → Same (many kind ts) (many kind us)
    same_ordered : {ps qs : Pairs} → SamePairs ps qs → Same (ordered ps) (ordered qs)
    same_plain : {ps qs rs : Pairs} → SamePairs ps qs → Shuffled qs rs → Same (plain ps) (plain rs)

  pub data Sames : Trees → Trees → Type 0 where
    same_none : Sames none none
    same_also : {t u : Tree} {ts us : Trees} → Same t u → Sames ts us → Sames (also t ts) (also u us)

  pub data SamePairs : Pairs → Pairs → Type 0 where
    same_no_pairs : SamePairs no_pairs no_pairs
    same_pair : {k : List ℕ} {t u : Tree} {ps qs : Pairs} → Same t u → SamePairs ps qs → SamePairs (pair k t ps) (pair k u qs)

-- keys of a plain dict are distinct, at every depth
pub data Apart (k : List ℕ) : Pairs → Type 0 where
  apart_none : Apart k no_pairs
  apart_and : {l : List ℕ} {u : Tree} {ps : Pairs} → (k ≡ l → ⊥) → Apart k ps → Apart k (pair l u ps)

mutual
  pub data Distinct : Tree → Type 0 where
    distinct_leaf : {kind : ℕ} {load : Payload} → Distinct (leaf kind load)
    distinct_many : {kind : ℕ} {ts : Trees} → Distincts ts → Distinct (many kind ts)
    distinct_ordered : {ps : Pairs} → DistinctPairs ps → Distinct (ordered ps)
    distinct_plain : {ps : Pairs} → DistinctPairs ps → Distinct (plain ps)

  pub data Distincts : Trees → Type 0 where
    distinct_none : Distincts none
    distinct_also : {t : Tree} {ts : Trees} → Distinct t → Distincts ts → Distincts (also t ts)

  pub data DistinctPairs : Pairs → Type 0 where
    distinct_no_pairs : DistinctPairs no_pairs
    distinct_pair : {k : List ℕ} {t : Tree} {ps : Pairs} → Apart k ps → Distinct t → DistinctPairs ps → DistinctPairs (pair k t ps)
