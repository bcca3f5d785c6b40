-- The written form of an object, by document 02: no blanks; 'integers and lengths are written without plus or leading zeros, zero as `i0;`,
-- empty texts as `u;` and `b;`, plain dicts in byte order of keys'. Assumes nothing.
use Rattle.std.specs.Prelude.{ℕ, zero, suc, ◌+◌, ◌-◌, ◌/◌, ◌%◌, cond, List, [], ◌∷◌, ◌++◌, length, ltb, eqb}
use Prim.Native.Char.{code}
use Rattle.std.specs.declared.cmp.Ordering.{Ordering}
use Rattle.std.specs.declared.cmp.Ordering.TheVariants.{Less, Equal, Greater}
use Rattle.order.specs.ByteOrder.{compared}
use Rattle.draft.specs.Grammar.{Payload, holding, number, contents}
use Rattle.draft.specs.Table.{room_of, row_at}
use Rattle.glyph.specs.declared.Edition.{Edition}
use Rattle.glyph.specs.declared.Edition.TheVariants.{New, Old}
use Rattle.glyph.specs.Tree.{Tree, leaf, many, plain, ordered, Trees, none, also, Pairs, no_pairs, pair}
use Rattle.glyph_form.specs.Told.{tree_at}

-- the pair of a key k put in front of the first whose key k is before
abbrev pub put : Ordering → List ℕ → Tree → List ℕ → Tree → Pairs → Pairs → Pairs
put Less k t l u ps qs = pair k t (pair l u ps)
put Equal k t l u ps qs = pair l u qs
put Greater k t l u ps qs = pair l u qs

unfoldable pub insert : List ℕ → Tree → Pairs → Pairs
insert k t no_pairs = pair k t no_pairs
insert k t (pair l u ps) = put (compared k l) k t l u ps (insert k t ps)

-- pairs in byte order of keys
unfoldable pub sort : Pairs → Pairs
sort no_pairs = no_pairs
sort (pair k t ps) = insert k t (sort ps)

-- each plain dict's pairs in byte order of keys, at every depth
unfoldable mutual
  pub canon : Tree → Tree
  canon (leaf kind load) = leaf kind load
  canon (many kind ts) = many kind (canon_all ts)
  canon (plain ps) = plain (sort (canon_pairs ps))
  canon (ordered ps) = ordered (canon_pairs ps)

  pub canon_all : Trees → Trees
  canon_all none = none
  canon_all (also t ts) = also (canon t) (canon_all ts)

  pub canon_pairs : Pairs → Pairs
  canon_pairs no_pairs = no_pairs
  canon_pairs (pair k t ps) = pair k (canon t) (canon_pairs ps)

-- a number's digits, the first not 0 unless it is the only one, in front of some bytes: of `most` digits at most, which is no limit where the
-- number has no more
unfoldable pub digits_before : ℕ → ℕ → List ℕ → List ℕ
digits_before zero n xs = xs
digits_before (suc most) n xs = cond (ltb n 10) ((code "0" + n) ∷ xs) (digits_before most (n / 10) ((code "0" + n % 10) ∷ xs))

-- a word of 32 bits has ten digits at most
abbrev pub number_before : ℕ → List ℕ → List ℕ
number_before n xs = digits_before 10 n xs

-- 32 bits, two's complement
unfoldable pub integer_bytes : ℕ → List ℕ
integer_bytes n =
    code "i"
    ∷ cond (ltb n 2147483648) (number_before n (code ";" ∷ [])) (code "-" ∷ number_before (4294967296 - n) (code ";" ∷ []))

unfoldable pub boolean_bytes : ℕ → List ℕ
boolean_bytes n = cond (eqb n 0) (code "F") (code "T") ∷ code ";" ∷ []

-- behind the letter: a length, `:` and the content, or nothing; then `;`
unfoldable pub content_bytes : List ℕ → List ℕ
content_bytes [] = code ";" ∷ []
content_bytes (x ∷ xs) = number_before (length (x ∷ xs)) (code ":" ∷ ((x ∷ xs) ++ (code ";" ∷ [])))

unfoldable pub leaf_bytes : ℕ → Payload → List ℕ
leaf_bytes kind (holding n) = code "N" ∷ code ";" ∷ []
leaf_bytes kind (number n) = cond (eqb kind 4) (integer_bytes n) (boolean_bytes n)
leaf_bytes kind (contents t) = cond (eqb kind 11) (code "u") (code "b") ∷ content_bytes t

-- 'In 1.0 `X` is an extension; in 0.5 `X` is a node and `H` an extension'
abbrev pub extension_letter : Edition → ℕ
extension_letter New = code "X"
extension_letter Old = code "H"

-- a list, an extension or a node
unfoldable pub letter_for : Edition → ℕ → ℕ
letter_for e kind = cond (eqb kind 9) (code "L") (cond (eqb kind 15) (extension_letter e) (code "X"))

-- a tree's bytes, its pairs as they stand
unfoldable mutual
  pub bytes_of : Edition → Tree → List ℕ
  bytes_of e (leaf kind load) = leaf_bytes kind load
  bytes_of e (many kind ts) = letter_for e kind ∷ (bytes_of_all e ts ++ (code ";" ∷ []))
  bytes_of e (plain ps) = code "D" ∷ (bytes_of_pairs e ps ++ (code ";" ∷ []))
  bytes_of e (ordered ps) = code "O" ∷ (bytes_of_pairs e ps ++ (code ";" ∷ []))

  pub bytes_of_all : Edition → Trees → List ℕ
  bytes_of_all e none = []
  bytes_of_all e (also t ts) = bytes_of e t ++ bytes_of_all e ts

  pub bytes_of_pairs : Edition → Pairs → List ℕ
  bytes_of_pairs e no_pairs = []
  bytes_of_pairs e (pair k t ps) = (code "u" ∷ content_bytes k) ++ (bytes_of e t ++ bytes_of_pairs e ps)

-- the written form of a tree
unfoldable pub written : Edition → Tree → List ℕ
written e t = bytes_of e (canon t)

-- and of a table that has room for `most` rows at most, nested to at most `deep`
unfoldable pub form_within : Edition → ℕ → ℕ → List ℕ → List ℕ → List ℕ
form_within e most deep T s = written e (tree_at (row_at (room_of most (length T)) T) s e deep 0)

unfoldable pub form_of : Edition → ℕ → List ℕ → List ℕ → List ℕ
form_of e limit T s = form_within e 4096 limit T s
