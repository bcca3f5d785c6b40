-- Writable tables of an edition, by document 01's rules over document 02's rows: where the rows of an object end that begins at row r, if they
-- are such an object's rows. Every word of every row is judged. Limits are parameters. Assumes nothing.
use Rattle.std.specs.Prelude.{ℕ, zero, suc, ◌+◌, ◌*◌, Bool, true, false, ◌&&◌, List, [], length, ltb, leb, Some, None}
use Rattle.draft.specs.declared.Row.{Row}
use Rattle.draft.specs.Table.{room_of, row_at}
use Rattle.draft.specs.Read.{Texts}
use Rattle.draft.specs.Writable.{fit, Walk, pair, items, alike, nothing, over, holding, integer_item, boolean_item, content_item, member, keeping, wholly}
use Rattle.glyph.specs.declared.Edition.{Edition}
use Rattle.glyph.specs.declared.Many.{Many as ManyLetter}
use Rattle.glyph.specs.declared.Three.{Three as ThreeLetter}
use Rattle.glyph.specs.declared.Want.{Want}
use Rattle.glyph.specs.declared.Want.TheVariants.{Any}
use Rattle.glyph.specs.Letters.{keyed_by, name_want, attributes_want}
use Rattle.glyph_form.specs.declared.Sort.{Sort}
use Rattle.glyph_form.specs.declared.Sort.TheVariants.{Integer, Boolean, Content, Nil, Many, Three, Unknown}
use Rattle.glyph_form.specs.Sorts.{sort_of, meets}

-- what may nest here: nothing more, or what f walks where such an object may stand
pub data Nest : Type 0 where
  floor : Nest
  under : (Want → Walk) → Nest

-- 'nil (b 0)'
abbrev pub nil_item : Row → Walk
nil_item x r = holding 0 x (Some (r + 1))

-- the rows by their numbers, how many there are, and the text bytes
module _ (row : ℕ → Row) (rows : ℕ) (s : List ℕ) where
  -- what f walks, in a dict behind its key, which is a unicode and none of those before it
  unfoldable pub entry : Bool → Walk → Texts → Walk
  entry true f = member row rows s f
  entry false f = alike f

  unfoldable pub kept : Bool → Texts → ℕ → Texts
  kept true = keeping row rows s
  kept false = nothing

  -- n of them
  unfoldable pub entries : Bool → Walk → ℕ → Walk
  entries keyed f n r = items (entry keyed f) (kept keyed) n [] r

  -- a list's b objects, a dict's b pairs
  abbrev pub many_item : ManyLetter → Nest → Row → Walk
  many_item l floor x r = None
  many_item l (under f) x r = over x (entries (keyed_by l) (f Any) x.b (r + 1))

  -- name, attributes and content: 'both b 3'
  abbrev pub three_item : ThreeLetter → Nest → Row → Walk
  three_item l floor x r = None
  three_item l (under f) x r = holding 3 x (pair (f (name_want l)) (pair (f (attributes_want l)) (f Any)) (r + 1))

  abbrev pub item : Sort → Nest → Row → Walk
  item Integer nest x r = integer_item x r
  item Boolean nest x r = boolean_item x r
  item (Content c) nest x r = content_item s c x r
  item Nil nest x r = nil_item x r
  item (Many l) nest x r = many_item l nest x r
  item (Three l) nest x r = three_item l nest x r
  item Unknown nest x r = None

  -- what stands at row r, where only such an object may
  abbrev pub here : Edition → Nest → Want → Walk
  here e nest want r = fit (ltb r rows) (fit (meets want (row r).kind) (item (sort_of e (row r).kind) nest (row r) r))

  -- an object in which containers, extensions and nodes nest to a depth of at most `deep`
  unfoldable pub object : Edition → ℕ → Want → Walk
  object e zero want r = here e floor want r
  object e (suc deep) want r = here e (under (object e deep)) want r

-- with text bytes, rows and nesting of at most so much: the number of rows is 1 at least, the words hold them, and row 0 is an object that
-- ends at that number
unfoldable pub writable_within : Edition → ℕ → ℕ → ℕ → List ℕ → ℕ → List ℕ → Bool
writable_within e bytes most deep T rows s =
    leb (length s) bytes
    && (leb 1 rows
    && (leb rows most
    && (leb (rows * 4) (length T)
    && wholly rows (object (row_at (room_of most (length T)) T) rows s e deep Any 0))))

-- 65,536 text bytes and 4,096 rows, and nesting to the limit that the writer's call states (02, E11)
unfoldable pub writable : Edition → ℕ → List ℕ → ℕ → List ℕ → Bool
writable e limit T rows s = writable_within e 65536 4096 limit T rows s
