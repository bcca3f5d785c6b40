-- Reading, by document 02's E14 and document 01's rules: from a place in the message to rows and bytes used, or to a refusal and its place.
-- Objects are read from left to right, and the first failure decides. Limits and the edition are parameters. Assumes nothing.
use Rattle.std.specs.Prelude.{ℕ, zero, suc, ◌+◌, Bool, true, false, ◌&&◌, cond, List, [], ◌∷◌, ◌++◌, length, drop, ltb, leb, eqb}
use Prim.Native.Char.{code}
use Rattle.text.specs.Utf8.{well_formed}
use Rattle.text.specs.Texts.{among}
use Rattle.draft.specs.declared.Row.{Row}
use Rattle.draft.specs.Bytes.{byte_at, part}
use Rattle.draft.specs.Rows.{row}
use Rattle.glyph.specs.declared.Refusal.{Refusal}
use Rattle.glyph.specs.declared.Refusal.TheVariants.{Ended, UnexpectedByte, BadText, TooDeep, NoRow, TooLong, RepeatedKey, BadLimit, OutOfRange}
use Rattle.glyph.specs.declared.Edition.{Edition}
use Rattle.glyph.specs.declared.Leaf.{Leaf as LeafLetter}
use Rattle.glyph.specs.declared.Leaf.TheVariants.{Integer, Unicode, Bytes, True, False, Nil}
use Rattle.glyph.specs.declared.Many.{Many as ManyLetter}
use Rattle.glyph.specs.declared.Three.{Three as ThreeLetter}
use Rattle.glyph.specs.declared.Letter.{Letter}
use Rattle.glyph.specs.declared.Letter.TheVariants.{Leaf, Many, Three, Unknown}
use Rattle.glyph.specs.declared.Want.{Want}
use Rattle.glyph.specs.declared.Want.TheVariants.{Any, Text}
use Rattle.glyph.specs.Letters.{letter_of, wanted, many_kind, keyed_by, three_kind, name_want, attributes_want}
use Rattle.glyph.specs.Numbers.{past, digits, decimal, is_minus, signs, in_range, word}

-- the rows and where the next byte stands; or why and where it is refused
pub data Reading : Type 0 where
  got : List Row → ℕ → Reading
  refused : Refusal → ℕ → Reading

-- a reading, and what goes on from its rows and its end
abbrev pub then : Reading → (List Row → ℕ → Reading) → Reading
then (refused m p) more = refused m p
then (got rows at) more = more rows at

-- the rows of what stands before, in front of a reading's rows
abbrev pub behind : List Row → Reading → Reading
behind rows (refused m p) = refused m p
behind rows (got others at) = got (rows ++ others) at

-- reads at a byte, for a row
abbrev pub Reader : Type 0
Reader = ℕ → ℕ → Reading

-- an object of one row
abbrev pub leaf : ℕ → ℕ → ℕ → ℕ → ℕ → Reading
leaf kind a b r to = got (row kind a b (r + 1) ∷ []) to

-- texts of the keys that were read so far, the newest first
abbrev pub Texts : Type 0
Texts = List (List ℕ)

-- what may nest here: nothing more, or what f reads where such an object may stand
pub data Nest : Type 0 where
  floor : Nest
  under : (Want → Reader) → Nest

-- 9: a row is left
abbrev pub opened : ℕ → ℕ → ℕ → Reading → Reading
opened room at r o = cond (ltb r room) o (refused NoRow at)

-- a unicode is UTF-8 and has kind 11; a bytearray is any bytes and has kind 8
abbrev pub text_kind : Bool → ℕ
text_kind true = 11
text_kind false = 8

unfoldable pub good_text : Bool → List ℕ → Bool
good_text true t = well_formed t
good_text false t = true

-- a message's bytes
module _ (s : List ℕ) where
  -- no byte there is 1
  abbrev pub present : ℕ → Reading → Reading
  present at o = cond (ltb at (length s)) o (refused Ended at)

  -- in the item at `at`, the byte at i is there and is b; or 1, or 3, at the item's first byte
  abbrev pub expected : ℕ → ℕ → ℕ → Reading → Reading
  expected b at i o = cond (ltb i (length s)) (cond (eqb (byte_at s i) b) o (refused UnexpectedByte at)) (refused Ended at)

  -- the same behind digits, of which there is one at least: 'Numbers need a digit'
  abbrev pub numbered : ℕ → ℕ → ℕ → ℕ → Reading → Reading
  numbered b at from n o =
      cond (ltb (from + n) (length s)) (cond (ltb 0 n && eqb (byte_at s (from + n)) b) o (refused UnexpectedByte at)) (refused Ended at)

  -- T, F and N: a letter and `;`
  unfoldable pub single : ℕ → ℕ → Reader
  single kind a at r = expected (code ";") at (at + 1) (leaf kind a 0 r (at + 2))

  -- integer :== 'i' sign ascii_number ';' whose digits begin at `from`; 25 once the `;` is read
  unfoldable pub number_from : Bool → ℕ → Reader
  number_from minus from at r =
      numbered (code ";") at from (digits (drop from s))
      (cond (in_range minus (decimal 0 (drop from s)))
      (leaf 4 (word minus (decimal 0 (drop from s))) 0 r (from + digits (drop from s) + 1))
      (refused OutOfRange at))

  abbrev pub integer : Reader
  integer at r = number_from (is_minus (byte_at s (at + 1))) (at + 1 + signs (byte_at s (at + 1))) at r

  -- the content of the item at `at`, n bytes at o and `;`: 1 if they are not all there, however large n is; 5 once the `;` is read
  unfoldable pub content : Bool → ℕ → ℕ → Reader
  content unicode o n at r =
      expected (code ";") at (o + n)
      (cond (good_text unicode (part s o n)) (leaf (text_kind unicode) o n r (o + n + 1)) (refused BadText at))

  -- a length, `:` and the content
  unfoldable pub lengthened : Bool → Reader
  lengthened unicode at r =
      numbered (code ":") at (at + 1) (digits (drop (at + 1) s))
      (content unicode (at + 1 + digits (drop (at + 1) s) + 1) (decimal 0 (drop (at + 1) s)) at r)

  -- 'u' ascii_number ':' utf8_bytes ';' or 'u;', whose offset is that of its `;`; alike with 'b'
  unfoldable pub text : Bool → Reader
  text unicode at r =
      cond (eqb (byte_at s (at + 1)) (code ";")) (leaf (text_kind unicode) (at + 1) 0 r (at + 2)) (lengthened unicode at r)

  -- the objects without children, behind their row
  abbrev pub leaf_of : LeafLetter → Reader
  leaf_of Integer at r = integer at r
  leaf_of Unicode at r = text true at r
  leaf_of Bytes at r = text false at r
  leaf_of True at r = single 5 1 at r
  leaf_of False at r = single 5 0 at r
  leaf_of Nil at r = single 13 0 at r

  -- from what was read for row r on: blanks, and then what f reads
  abbrev pub next : Reading → ℕ → Reader → Reading
  next o r f = then o (λ rows at. behind rows (f (past s at) (r + length rows)))

  -- THE RUN. What f reads, until a `;`: the container of this kind at row r that holds n things so far, whose rows are acc; the place is past
  -- blanks. f sees the keys `seen`, to which `more` adds what it keeps of a reading's rows. Each thing takes a byte at least, so with more
  -- `fuel` than bytes left the first case is never reached: it is no limit.
  unfoldable pub run : (Texts → Reader) → (Texts → List Row → Texts) → ℕ → ℕ → ℕ → Texts → List Row → Reader
  run f more kind zero n seen acc at r = refused Ended at
  run f more kind (suc fuel) n seen acc at r =
      cond (eqb (byte_at s at) (code ";"))
      (got (row kind 0 n (r + 1 + length acc) ∷ acc) (at + 1))
      (then (f seen at (r + 1 + length acc)) (λ rows at'. run f more kind fuel (n + 1) (more seen rows) (acc ++ rows) (past s at') r))

  -- the text of the first row
  abbrev pub first_text : List Row → List ℕ
  first_text [] = []
  first_text (x ∷ rows) = part s x.a x.b

  -- 20: a key that is among those seen, once it is read, at its first byte
  unfoldable pub distinct : Texts → ℕ → Reading → Reading
  distinct seen at o = then o (λ rows at'. cond (among seen (first_text rows)) (refused RepeatedKey at) (got rows at'))

  -- a key, and behind it what f reads; or what f reads alone
  unfoldable pub entry : Bool → (Want → Reader) → Texts → Reader
  entry true f seen at r = next (distinct seen at (f Text at r)) r (f Any)
  entry false f seen at r = f Any at r

  -- the keys seen with it: a pair's first row is its key
  unfoldable pub kept : Bool → Texts → List Row → Texts
  kept true seen rows = first_text rows ∷ seen
  kept false seen rows = seen

  -- the `;` of an object with three children at row r: any other byte is 3 there
  abbrev pub closing : ℕ → ℕ → Reading → Reading
  closing kind r o =
      then o
      (λ rows at. present (past s at)
      (cond (eqb (byte_at s (past s at)) (code ";"))
      (got (row kind 0 3 (r + 1 + length rows) ∷ rows) (past s at + 1))
      (refused UnexpectedByte (past s at))))

  -- what an object with children holds, and its own row in front, for the letter at `at`
  unfoldable pub many : ManyLetter → (Want → Reader) → Reader
  many l f at r = run (entry (keyed_by l) f) (kept (keyed_by l)) (many_kind l) (length s) 0 [] [] (past s (at + 1)) r

  unfoldable pub three : ThreeLetter → (Want → Reader) → Reader
  three l f at r =
      closing (three_kind l) r (next (next (next (got [] (at + 1)) (r + 1) (f (name_want l))) (r + 1) (f (attributes_want l))) (r + 1) (f Any))

-- and the rows that there is room for
module _ (s : List ℕ) (room : ℕ) where
  -- 8 where nothing more may nest; then 9
  abbrev pub nested : Nest → ℕ → ℕ → ((Want → Reader) → Reader) → Reading
  nested floor at r o = refused TooDeep at
  nested (under f) at r o = opened room at r (o f at r)

  abbrev pub item : Letter → Nest → Reader
  item (Leaf l) nest at r = opened room at r (leaf_of s l at r)
  item (Many l) nest at r = nested nest at r (many s l)
  item (Three l) nest at r = nested nest at r (three s l)
  item Unknown nest at r = refused UnexpectedByte at

  -- an object that may stand here, in which containers, extensions and nodes nest to a depth of at most `deep`
  unfoldable pub object : Edition → ℕ → Want → Reader
  object e zero want at r = present s at (item (wanted want (letter_of e (byte_at s at))) floor at r)
  object e (suc deep) want at r = present s at (item (wanted want (letter_of e (byte_at s at))) (under (object e deep)) at r)

  -- root :== ws object ws. 'After the root only blanks may follow, not counted as used'; another byte is 3 there
  abbrev pub rooted : Reading → Reading
  rooted o = then o (λ rows at. cond (leb (length s) (past s at)) (got rows at) (refused UnexpectedByte (past s at)))

  unfoldable pub root : Edition → ℕ → Reading
  root e deep = rooted (object e deep Any (past s 0) 0)

-- 23 for the limit, 10 for the bytes, both at 0; then the root
unfoldable pub message : Edition → ℕ → List ℕ → ℕ → Reading
message e limit s room =
    cond (leb 1 limit && leb limit 32) (cond (leb (length s) 65536) (root s room e limit) (refused TooLong 0)) (refused BadLimit 0)
