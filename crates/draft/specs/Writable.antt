-- Writable tables, by document 01's rules: where the rows of an item end that begins at row r, if they are such an item's rows.
-- Every word of every row is judged. Limits are parameters. Assumes nothing.
use Rattle.std.specs.Prelude.{ℕ, zero, suc, ◌+◌, ◌*◌, ◌-◌, Bool, true, false, ◌&&◌, List, [], ◌∷◌, length, ltb, leb, eqb, Option, Some, None}
use Rattle.draft.specs.Verdict.{Verdict}
use Rattle.std.specs.Prelude.{Ok, Err}
use Rattle.draft.specs.declared.Content.{Content as ContentOf}
use Rattle.draft.specs.declared.Content.TheVariants.{Double, DateTime, Binary, Text}
use Rattle.draft.specs.declared.Item.{Item}
use Rattle.draft.specs.declared.Item.TheVariants.{
  Call,
  Response,
  Fault,
  Integer,
  Boolean,
  Content,
  Array,
  Struct,
  Other,
  Unknown,
}
use Rattle.draft.specs.declared.Row.{Row}
use Rattle.draft.specs.Rows.{kind_of, item_of}
use Rattle.draft.specs.Content.{verdict, name_rule, key_rule, fault_rule}
use Rattle.draft.specs.Table.{room_of, row_at, from}
use Rattle.draft.specs.Read.{Texts, text_of, held_rows}

abbrev pub fit : Bool → Option ℕ → Option ℕ
fit true o = o
fit false o = None

-- what a rule says
abbrev pub ruled : Verdict → Option ℕ → Option ℕ
ruled (Ok tt) o = o
ruled (Err refusal) o = None

-- an extent, and what goes on from the row that it ends at
abbrev pub then : Option ℕ → (ℕ → Option ℕ) → Option ℕ
then None more = None
then (Some r) more = more r

-- where an item that begins at a row ends
abbrev pub Walk : Type 0
Walk = ℕ → Option ℕ

-- two items, one after the other
unfoldable pub pair : Walk → Walk → Walk
pair f g r = then (f r) g

-- n more items by f, the next at row r. f sees the texts `seen`, to which `more` adds what it keeps of the item at a row
unfoldable pub items : (Texts → Walk) → (Texts → ℕ → Texts) → ℕ → Texts → Walk
items f more zero seen r = Some r
items f more (suc n) seen r = then (f seen r) (λ next. items f more n (more seen r) next)

-- each alike, whatever was seen, and nothing is kept
unfoldable pub alike : Walk → Texts → Walk
alike f seen = f

unfoldable pub nothing : Texts → ℕ → Texts
nothing seen r = seen

-- 'end' is the row number just after the item's last descendant
abbrev pub closed : Row → Option ℕ → Option ℕ
closed x None = None
closed x (Some r) = fit (eqb x.end r) (Some r)

-- an item with nothing below it
abbrev pub leaf : Row → Walk
leaf x r = closed x (Some (r + 1))

-- an item that holds others: a is 0, and b how many, where that is settled
abbrev pub over : Row → Option ℕ → Option ℕ
over x o = fit (eqb x.a 0) (closed x o)

abbrev pub holding : ℕ → Row → Option ℕ → Option ℕ
holding b x o = fit (eqb x.b b) (over x o)

abbrev pub integer_item : Row → Walk
integer_item x r = fit (eqb x.b 0) (leaf x r)

abbrev pub boolean_item : Row → Walk
boolean_item x r = fit (leb x.a 1) (fit (eqb x.b 0) (leaf x r))

-- a Double's and a DateTime's length goes into one size byte
abbrev pub sized : ContentOf → ℕ → Bool
sized Double n = leb n 255
sized DateTime n = leb n 255
sized Binary n = true
sized Text n = true

-- what may nest here: nothing more, or what f walks
pub data Nest : Type 0 where
  floor : Nest
  under : Walk → Nest

-- content lies inside the text bytes s and keeps its rule
unfoldable pub content_item : List ℕ → ContentOf → Row → Walk
content_item s c x r = fit (sized c x.b) (ruled (verdict c s x.a x.b) (leaf x r))

-- b items, each walked by f
abbrev pub counted : (Texts → Walk) → (Texts → ℕ → Texts) → Row → Walk
counted f more x r = over x (items f more x.b [] (r + 1))

abbrev pub array_item : Nest → Row → Walk
array_item floor x r = None
array_item (under f) x r = counted (alike f) nothing x r

-- the rows by their numbers, how many there are, and the text bytes
module _ (row : ℕ → Row) (rows : ℕ) (s : List ℕ) where
  -- what f walks, where only a row of kind k may stand
  unfoldable pub only : ℕ → (Row → Walk) → Walk
  only k f r = fit (ltb r rows) (fit (eqb (row r).kind k) (f (row r) r))

  unfoldable pub string : Walk
  string r = only (kind_of Text) (content_item s Text) r

  -- a String that keeps a rule
  unfoldable pub string_by : (List ℕ → Verdict) → Walk
  string_by rule r = then (string r) (λ next. ruled (rule (text_of s (row r))) (Some next))

  -- an Other's name
  abbrev pub name : Walk
  name r = string_by name_rule r

  -- a key and its value, behind pairs with the keys seen
  unfoldable pub member : Walk → Texts → Walk
  member f seen = pair (string_by (key_rule seen)) f

  -- the key is the first row of its pair
  unfoldable pub keeping : Texts → ℕ → Texts
  keeping seen r = text_of s (row r) ∷ seen

  abbrev pub other_item : Row → Walk
  other_item x r = holding 2 x (pair name (only (kind_of Binary) (content_item s Binary)) (r + 1))

  -- b pairs of key and value
  abbrev pub struct_item : Nest → Row → Walk
  struct_item floor x r = None
  struct_item (under f) x r = counted (member f) keeping x r

  abbrev pub item : Item → Nest → Row → Walk
  item Integer nest x r = integer_item x r
  item Boolean nest x r = boolean_item x r
  item (Content c) nest x r = content_item s c x r
  item Array nest x r = array_item nest x r
  item Struct nest x r = struct_item nest x r
  item Other nest x r = other_item x r
  item Call nest x r = None
  item Response nest x r = None
  item Fault nest x r = None
  item Unknown nest x r = None

  -- a Value in which Arrays and Structs nest to a depth of at most `deep`
  unfoldable pub value : ℕ → Walk
  value zero r = fit (ltb r rows) (item (item_of (row r).kind) floor (row r) r)
  value (suc deep) r = fit (ltb r rows) (item (item_of (row r).kind) (under (value deep)) (row r) r)

  unfoldable pub nested : ℕ → Nest
  nested zero = floor
  nested (suc deep) = under (value deep)

  -- a fault's Struct, which ends among the rows, and what its rule says of the rows below its own
  unfoldable pub fault_struct : ℕ → Walk
  fault_struct deep r =
      then (only 10 (struct_item (nested deep)) r)
      (λ next. fit (leb next rows) (ruled (fault_rule (held_rows s (from row (r + 1) (next - (r + 1))))) (Some next)))

  -- a Call holds its method and an Array, a Response a Value, a fault a Struct
  abbrev pub call_item : ℕ → Row → Walk
  call_item deep x r = holding 2 x (pair string (only 9 (array_item (nested deep))) (r + 1))

  abbrev pub response_item : ℕ → Row → Walk
  response_item deep x r = holding 1 x (value deep (r + 1))

  abbrev pub fault_item : ℕ → Row → Walk
  fault_item deep x r = holding 1 x (fault_struct deep (r + 1))

  abbrev pub first : Item → ℕ → Row → Walk
  first Call deep x r = call_item deep x r
  first Response deep x r = response_item deep x r
  first Fault deep x r = fault_item deep x r
  first Integer deep x r = None
  first Boolean deep x r = None
  first (Content c) deep x r = None
  first Array deep x r = None
  first Struct deep x r = None
  first Other deep x r = None
  first Unknown deep x r = None

  unfoldable pub call_or_response : ℕ → Walk
  call_or_response deep r = fit (ltb r rows) (first (item_of (row r).kind) deep (row r) r)

-- all the rows, and no other
abbrev pub wholly : ℕ → Option ℕ → Bool
wholly rows (Some r) = eqb r rows
wholly rows None = false

-- with text bytes, rows and nesting of at most so much: the number of rows is 1 at least, the words hold them, and row 0 is a Call or a
-- Response that ends at that number
unfoldable pub writable_within : ℕ → ℕ → ℕ → List ℕ → ℕ → List ℕ → Bool
writable_within bytes most deep T rows s =
    leb (length s) bytes
    && (leb 1 rows
    && (leb rows most
    && (leb (rows * 4) (length T)
    && wholly rows (call_or_response (row_at (room_of most (length T)) T) rows s deep 0))))

-- document 01's limits, 65,536 text bytes and 4,096 rows, and nesting to the limit that the writer's call states (02, E11)
unfoldable pub writable_to : ℕ → List ℕ → ℕ → List ℕ → Bool
writable_to limit T rows s = writable_within 65536 4096 limit T rows s

-- nesting to 32: where a table is looked at and not written ('lookup, index and defaults judge tables at 32')
unfoldable pub writable : List ℕ → ℕ → List ℕ → Bool
writable T rows s = writable_within 65536 4096 32 T rows s
