-- What putting the objects of a table asks, and the bytes that are put. Assumes nothing.
use Rattle.std.specs.Prelude.{◌≡◌, cond, List, [], ◌∷◌, ◌++◌, ℕ, suc, ◌+◌, ◌*◌, ◌≤◌, eqb, length, Some}
use Prim.Native.Char.{code}
use Rattle.draft.specs.declared.Row.{Row}
use Rattle.draft.specs.Read.{text_of}
use Rattle.glyph.specs.declared.Edition.{Edition}
use Rattle.glyph.specs.declared.Want.{Want}
use Rattle.glyph.specs.Tree.{Tree, Pairs, no_pairs, pair}
use Rattle.glyph_output.specs.Contract.{Adds}
use Rattle.glyph_form.specs.Writable.{object}
use Rattle.glyph_form.specs.Told.{trees, pairs, tree_at}
use Rattle.glyph_form.specs.Form.{sort, canon_all, canon_pairs, integer_bytes, boolean_bytes, content_bytes, bytes_of_all, bytes_of_pairs, written}

-- the table has words for so many rows, and the texts are short
pub record Ready (room words bytes : ℕ) : Type 0 where
  pub most : room ≤ 4096
  pub table : room * 4 ≤ words
  pub short : bytes ≤ 65536

-- the object at row r is writable among the rows that there are, and three words of `order` are left for each four of its rows below the first
pub record Fit (row : ℕ → Row) (room : ℕ) (s : List ℕ) (e : Edition) (deep spare r : ℕ) : Type 0 where
  pub rows : ℕ
  pub stated : rows ≤ room
  pub want : Want
  pub stop : ℕ
  pub walk : object row rows s e deep want r ≡ Some stop
  pub span : 3 * stop ≤ 3 * (r + 1) + 4 * spare

module _ (row : ℕ → Row) (room : ℕ) (s : List ℕ) (e : Edition) (deep spare : ℕ) where
  -- n of them, one after the other
  pub data Children : ℕ → ℕ → Type 0 where
    no_child : {r : ℕ} → Children 0 r
    child : {n r : ℕ} → Fit row room s e deep spare r → Children n (row r).end → Children (suc n) r

  -- n values, each behind its key
  pub data Members : ℕ → ℕ → Type 0 where
    no_member : {r : ℕ} → Members 0 r
    member : {n r : ℕ} → Fit row room s e deep spare (r + 1) → Members n (row (r + 1)).end → Members (suc n) r

  -- the values of the keys at these rows
  pub data Ranked : List ℕ → Type 0 where
    no_key : Ranked []
    key : {k : ℕ} {ks : List ℕ} → Fit row room s e deep spare (k + 1) → Ranked ks → Ranked (k ∷ ks)

-- the pairs of the keys at these rows
unfoldable pub pairs_by : (ℕ → List ℕ) → (ℕ → Tree) → List ℕ → Pairs
pairs_by text f [] = no_pairs
pairs_by text f (k ∷ ks) = pair (text k) (f (k + 1)) (pairs_by text f ks)

-- the written form of an object without children, by its row
unfoldable pub leaf_form : List ℕ → Row → List ℕ
leaf_form s x =
    cond (eqb x.kind 4) (integer_bytes x.a)
    (cond (eqb x.kind 5) (boolean_bytes x.a)
    (cond (eqb x.kind 8) (code "b" ∷ content_bytes (text_of s x))
    (cond (eqb x.kind 11) (code "u" ∷ content_bytes (text_of s x))
    (code "N" ∷ code ";" ∷ []))))

-- the written forms: of the object at row r, of n objects, of the pair of a key, of n pairs,
-- as they stand and in byte order of keys, and of the pairs of keys
module _ (row : ℕ → Row) (s : List ℕ) (e : Edition) (deep : ℕ) where
  unfoldable pub object_bytes : ℕ → List ℕ
  object_bytes r = written e (tree_at row s e deep r)

  unfoldable pub entries_bytes : ℕ → ℕ → List ℕ
  entries_bytes n r = bytes_of_all e (canon_all (trees row s (tree_at row s e deep) n r))

  unfoldable pub pair_bytes : (ℕ → List ℕ) → ℕ → List ℕ
  pair_bytes text k = (code "u" ∷ content_bytes (text k)) ++ object_bytes (k + 1)

  unfoldable pub pairs_bytes : ℕ → ℕ → List ℕ
  pairs_bytes n r = bytes_of_pairs e (canon_pairs (pairs row s (tree_at row s e deep) n r))

  unfoldable pub dict_bytes : ℕ → ℕ → List ℕ
  dict_bytes n r = bytes_of_pairs e (sort (canon_pairs (pairs row s (tree_at row s e deep) n r)))

  unfoldable pub ranked_bytes : (ℕ → List ℕ) → List ℕ → List ℕ
  ranked_bytes text ks = bytes_of_pairs e (canon_pairs (pairs_by text (tree_at row s e deep) ks))

-- xs was to be put, and the words of `order` are as many as they were
pub record Paired (xs : List ℕ) (most : ℕ) (out : List ℕ) (at : ℕ) (out' : List ℕ) (stop : ℕ) (order order' : List ℕ) : Type 0 where
  pub adds : Adds xs most out at out' stop
  pub long : length order' ≡ length order
