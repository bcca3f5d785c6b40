-- What the rows of a table tell: the tree of the object at a row. Children are found by 'end'. Assumes nothing.
use Rattle.std.specs.Prelude.{ℕ, zero, suc, ◌+◌, List}
use Rattle.draft.specs.declared.Row.{Row}
use Rattle.draft.specs.Rows.{kind_of}
use Rattle.draft.specs.Read.{text_of}
use Rattle.draft.specs.Grammar.{holding, number, contents}
use Rattle.glyph.specs.declared.Edition.{Edition}
use Rattle.glyph.specs.declared.Many.{Many as ManyLetter}
use Rattle.glyph.specs.declared.Many.TheVariants.{List as ListOf, Dict, Ordered}
use Rattle.glyph.specs.Letters.{three_kind}
use Rattle.glyph.specs.Tree.{Tree, leaf, many, plain, ordered, Trees, none, also, Pairs, no_pairs, pair}
use Rattle.glyph_form.specs.declared.Sort.{Sort}
use Rattle.glyph_form.specs.declared.Sort.TheVariants.{Integer, Boolean, Content, Nil, Many, Three, Unknown}
use Rattle.glyph_form.specs.Sorts.{sort_of}

-- the rows by their numbers, and the text bytes
module _ (row : ℕ → Row) (s : List ℕ) where
  -- n objects from row r on, each told by f
  unfoldable pub trees : (ℕ → Tree) → ℕ → ℕ → Trees
  trees f zero r = none
  trees f (suc n) r = also (f r) (trees f n (row r).end)

  -- n pairs of a key, which is one row, and a value
  unfoldable pub pairs : (ℕ → Tree) → ℕ → ℕ → Pairs
  pairs f zero r = no_pairs
  pairs f (suc n) r = pair (text_of s (row r)) (f (r + 1)) (pairs f n (row (r + 1)).end)

  abbrev pub many_told : ManyLetter → (ℕ → Tree) → ℕ → ℕ → Tree
  many_told ListOf f n r = many 9 (trees f n r)
  many_told Dict f n r = plain (pairs f n r)
  many_told Ordered f n r = ordered (pairs f n r)

  -- no writable table has an Unknown
  abbrev pub told : Sort → (ℕ → Tree) → Row → ℕ → Tree
  told Integer f x r = leaf 4 (number x.a)
  told Boolean f x r = leaf 5 (number x.a)
  told (Content c) f x r = leaf (kind_of c) (contents (text_of s x))
  told Nil f x r = leaf 13 (holding 0)
  told (Many l) f x r = many_told l f x.b (r + 1)
  told (Three l) f x r = many (three_kind l) (trees f 3 (r + 1))
  told Unknown f x r = leaf 13 (holding 0)

  -- the object at row r, in which others nest to a depth of at most `deep`; no writable table nests deeper
  unfoldable pub tree_at : Edition → ℕ → ℕ → Tree
  tree_at e zero r = told (sort_of e (row r).kind) (λ k. leaf 13 (holding 0)) (row r) r
  tree_at e (suc deep) r = told (sort_of e (row r).kind) (tree_at e deep) (row r) r
