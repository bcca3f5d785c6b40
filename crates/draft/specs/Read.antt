-- Reading, by document 01's rules: from a place in the message to rows, bytes used and the codebook, or to a refusal and its place.
-- Items are read from left to right, and the first failure decides. Limits are parameters. Assumes nothing.
use Rattle.std.specs.Prelude.{ℕ, zero, suc, ◌+◌, Bool, true, ◌&&◌, cond, List, [], ◌∷◌, ◌++◌, length, ltb, leb, eqb}
use Prim.Native.Char.{code}
use Rattle.draft.specs.declared.Refusal.{Refusal}
use Rattle.draft.specs.declared.Refusal.TheVariants.{Ended, WrongPrefix, UnexpectedByte, UnsetPosition, TooDeep, NoRow, TooLong}
use Rattle.draft.specs.Verdict.{Verdict}
use Rattle.std.specs.Prelude.{Ok, Err, Some, None}
use Rattle.draft.specs.declared.Content.{Content}
use Rattle.draft.specs.declared.Content.TheVariants as content
use Rattle.draft.specs.declared.Tag.{Tag}
use Rattle.draft.specs.declared.Tag.TheVariants.{Plain, String, Array, Struct, Unknown}
use Rattle.draft.specs.declared.Plain.{Plain as PlainItem}
use Rattle.draft.specs.declared.Plain.TheVariants.{Integer, True, False, Double, DateTime, Binary, Other}
use Rattle.draft.specs.declared.Form.{Form}
use Rattle.draft.specs.declared.Form.TheVariants.{Regular, Recorded, Recalled}
use Rattle.draft.specs.declared.Row.{Row}
use Rattle.draft.specs.Bytes.{bytes, byte_at, unsigned_at, part}
use Rattle.draft.specs.Rows.{row, below, kind_of}
use Rattle.draft.specs.Content.{verdict, name_rule, key_rule, Held, held_of, fault_rule}
use Rattle.draft.specs.Codebook.{Entry, Book, clear, recorded}

-- the rows, where the next byte stands, and the codebook; or why and where it is refused
pub data Reading : Type 0 where
  got : List Row → ℕ → Book → Reading
  refused : Refusal → ℕ → Reading

-- a reading, and what goes on from its rows, its end and its codebook
abbrev pub then : Reading → (List Row → ℕ → Book → Reading) → Reading
then (refused m p) more = refused m p
then (got rows at book) more = more rows at book

-- reads at a byte, for a row
abbrev pub Reader : Type 0
Reader = ℕ → ℕ → Book → Reading

-- what a rule says, for the item at `at`
abbrev pub judged : Verdict → ℕ → Reading → Reading
judged (Ok tt) at o = o
judged (Err m) at o = refused m at

-- the rows of what stands before, in front of a reading's rows
abbrev pub behind : List Row → Reading → Reading
behind rows (refused m p) = refused m p
behind rows (got others at book) = got (rows ++ others) at book

-- two readings, one after the other
unfoldable pub pair : Reader → Reader → Reader
pair f g at r book = then (f at r book) (λ rows at' book'. behind rows (g at' (r + length rows) book'))

-- texts of what was read so far, the newest first
abbrev pub Texts : Type 0
Texts = List (List ℕ)

-- n more readings by f, one after the other, behind the rows `acc`, the first of which is row r. f sees the texts `seen`, to which `more`
-- adds what it keeps of a reading's rows
unfoldable pub items : (Texts → Reader) → (Texts → List Row → Texts) → ℕ → Texts → List Row → Reader
items f more zero seen acc at r book = got acc at book
items f more (suc n) seen acc at r book =
    then (f seen at (r + length acc) book) (λ rows at' book'. items f more n (more seen rows) (acc ++ rows) at' r book')

-- each alike, whatever was seen, and nothing is kept
unfoldable pub alike : Reader → Texts → Reader
alike f seen = f

unfoldable pub nothing : Texts → List Row → Texts
nothing seen rows = seen

-- an item's own row, in front of the rows of what it holds
abbrev pub over : ℕ → ℕ → ℕ → Reading → Reading
over kind b r (refused m p) = refused m p
over kind b r (got rows at book) = got (row kind 0 b (r + 1 + length rows) ∷ rows) at book

-- an item of one row
abbrev pub leaf : ℕ → ℕ → ℕ → ℕ → ℕ → Book → Reading
leaf kind a b r to book = got (row kind a b (r + 1) ∷ []) to book

-- what a byte begins where a Value is looked for
unfoldable pub tag_of : ℕ → Tag
tag_of b =
    cond (eqb b (code "I")) (Plain Integer)
    (cond (eqb b (code "t")) (Plain True)
    (cond (eqb b (code "f")) (Plain False)
    (cond (eqb b (code "D")) (Plain Double)
    (cond (eqb b (code "8")) (Plain DateTime)
    (cond (eqb b (code "B")) (Plain Binary)
    (cond (eqb b (code "A")) Array
    (cond (eqb b (code "S")) Struct
    (cond (eqb b (code "O")) (Plain Other)
    (cond (eqb b (code "U")) (String Regular)
    (cond (eqb b (code ">")) (String Recorded)
    (cond (eqb b (code "<")) (String Recalled)
    Unknown)))))))))))

-- what may nest here: nothing more, or what f reads
pub data Nest : Type 0 where
  floor : Nest
  under : Reader → Nest

-- the text that a row names
abbrev pub text_of : List ℕ → Row → List ℕ
text_of s x = part s x.a x.b

-- rows, as the rule for a fault's members sees them
abbrev pub held_row : List ℕ → Row → Held
held_row s x = held_of x.kind (text_of s x)

unfoldable pub held_rows : List ℕ → List Row → List Held
held_rows s [] = []
held_rows s (x ∷ rows) = held_row s x ∷ held_rows s rows

-- a message's bytes, and the rows that there is room for
module _ (s : List ℕ) (room : ℕ) where
  -- no byte there is 1
  abbrev pub present : ℕ → Reading → Reading
  present at o = cond (ltb at (length s)) o (refused Ended at)

  -- 9, then 1 for the fixed fields: a row is left, and the item's first `size` bytes are there
  abbrev pub opened : ℕ → ℕ → ℕ → Reading → Reading
  opened size at r o = cond (ltb r room) (cond (leb (at + size) (length s)) o (refused Ended at)) (refused NoRow at)

  -- 1 for the content, then what its rule says: the n bytes at o, for the item at `at`
  unfoldable pub contents : Content → ℕ → ℕ → ℕ → ℕ → Book → Reading
  contents c o n at r book = judged (verdict c s o n) at (leaf (kind_of c) o n r (o + n) book)

  abbrev pub integer_item : Reader
  integer_item at r book = opened 5 at r (leaf 4 (unsigned_at s (at + 1)) 0 r (at + 5) book)

  abbrev pub boolean_item : ℕ → Reader
  boolean_item a at r book = opened 1 at r (leaf 5 a 0 r (at + 1) book)

  -- a Double or a DateTime: a size byte
  abbrev pub short_item : Content → Reader
  short_item c at r book = opened 2 at r (contents c (at + 2) (byte_at s (at + 1)) at r book)

  -- a Binary or a regular String: a length
  abbrev pub long_item : Content → Reader
  long_item c at r book = opened 5 at r (contents c (at + 5) (unsigned_at s (at + 1)) at r book)

  -- a position and a length; the text is recorded there
  abbrev pub recorded_item : Reader
  recorded_item at r book =
      opened 6 at r
      (contents content.Text (at + 6) (unsigned_at s (at + 2)) at r
      (recorded book (byte_at s (at + 1)) (at + 6) (unsigned_at s (at + 2))))

  -- the text set last at a position, or 6
  abbrev pub recalled : Entry → ℕ → ℕ → Book → Reading
  recalled None at r book = refused UnsetPosition at
  recalled (Some x) at r book = leaf (kind_of content.Text) x.offset x.length r (at + 2) book

  abbrev pub recalled_item : Reader
  recalled_item at r book = opened 2 at r (recalled (book (byte_at s (at + 1))) at r book)

  abbrev pub string_item : Form → Reader
  string_item Regular at r book = long_item content.Text at r book
  string_item Recorded at r book = recorded_item at r book
  string_item Recalled at r book = recalled_item at r book

  -- a String, where nothing else is allowed
  abbrev pub if_string : Tag → Reader
  if_string (String form) at r book = string_item form at r book
  if_string (Plain item) at r book = refused UnexpectedByte at
  if_string Array at r book = refused UnexpectedByte at
  if_string Struct at r book = refused UnexpectedByte at
  if_string Unknown at r book = refused UnexpectedByte at

  unfoldable pub string : Reader
  string at r book = present at (if_string (tag_of (byte_at s at)) at r book)

  -- what f reads, where only the byte b may begin it
  unfoldable pub only : ℕ → Reader → Reader
  only b f at r book = present at (cond (eqb (byte_at s at) b) (f at r book) (refused UnexpectedByte at))

  -- the text of the first row
  abbrev pub first_text : List Row → List ℕ
  first_text [] = []
  first_text (x ∷ rows) = text_of s x

  -- a String, judged as soon as it is read, with the place o for what its rule says
  unfoldable pub string_by : (List ℕ → Verdict) → ℕ → Reader
  string_by rule o at r book = then (string at r book) (λ rows at' book'. judged (rule (first_text rows)) o (got rows at' book'))

  -- an Other's name, with the place of the Other
  abbrev pub name : ℕ → Reader
  name o at r book = string_by name_rule o at r book

  -- a Struct's key behind those seen, with its own place
  unfoldable pub key : Texts → Reader
  key seen at r book = string_by (key_rule seen) at at r book

  -- a key and its value
  unfoldable pub member : Reader → Texts → Reader
  member f seen = pair (key seen) f

  -- the key is the first row of its pair
  unfoldable pub keeping : Texts → List Row → Texts
  keeping seen rows = first_text rows ∷ seen

  abbrev pub other_item : Reader
  other_item at r book = opened 1 at r (over 12 2 r (pair (name at) (only (code "B") (long_item content.Binary)) (at + 1) (r + 1) book))

  abbrev pub plain_item : PlainItem → Reader
  plain_item Integer at r book = integer_item at r book
  plain_item True at r book = boolean_item 1 at r book
  plain_item False at r book = boolean_item 0 at r book
  plain_item Double at r book = short_item content.Double at r book
  plain_item DateTime at r book = short_item content.DateTime at r book
  plain_item Binary at r book = long_item content.Binary at r book
  plain_item Other at r book = other_item at r book

  -- a count, and that many items, each read by f. Counts are not judged beforehand
  abbrev pub counted : ℕ → (Texts → Reader) → (Texts → List Row → Texts) → Reader
  counted kind f more at r book =
      opened 5 at r (over kind (unsigned_at s (at + 1)) r (items f more (unsigned_at s (at + 1)) [] [] (at + 5) (r + 1) book))

  -- 8 where nothing more may nest
  abbrev pub array_item : Nest → Reader
  array_item floor at r book = refused TooDeep at
  array_item (under f) at r book = counted 9 (alike f) nothing at r book

  abbrev pub struct_item : Nest → Reader
  struct_item floor at r book = refused TooDeep at
  struct_item (under f) at r book = counted 10 (member f) keeping at r book

  abbrev pub item : Tag → Nest → Reader
  item (Plain plain) nest at r book = plain_item plain at r book
  item (String form) nest at r book = string_item form at r book
  item Array nest at r book = array_item nest at r book
  item Struct nest at r book = struct_item nest at r book
  item Unknown nest at r book = refused UnexpectedByte at

  -- a Value in which Arrays and Structs nest to a depth of at most `deep`
  unfoldable pub value : ℕ → Reader
  value zero at r book = present at (item (tag_of (byte_at s at)) floor at r book)
  value (suc deep) at r book = present at (item (tag_of (byte_at s at)) (under (value deep)) at r book)

  unfoldable pub nested : ℕ → Nest
  nested zero = floor
  nested (suc deep) = under (value deep)

  -- `C`, a String (method), an Array
  abbrev pub call_item : ℕ → Reader
  call_item deep at r book =
      opened 1 at r (over 1 2 r (pair string (only (code "A") (array_item (nested deep))) (at + 1) (r + 1) book))

  -- a fault's Struct, judged once it is read, with the place of its `S`
  unfoldable pub fault_struct : ℕ → Reader
  fault_struct deep at r book =
      then (only (code "S") (struct_item (nested deep)) at r book)
      (λ rows at' book'. judged (fault_rule (held_rows s (below rows))) at (got rows at' book'))

  -- `R`, then `F` and a Struct, or a Value
  abbrev pub response_item : ℕ → Reader
  response_item deep at r book =
      opened 1 at r
      (present (at + 1)
      (cond (eqb (byte_at s (at + 1)) (code "F"))
      (over 3 1 r (fault_struct deep (at + 2) (r + 1) book))
      (over 2 1 r (value deep (at + 1) (r + 1) book))))

  unfoldable pub call_or_response : ℕ → Reader
  call_or_response deep at r book =
      present at
      (cond (eqb (byte_at s at) (code "C")) (call_item deep at r book)
      (cond (eqb (byte_at s at) (code "R")) (response_item deep at r book)
      (refused UnexpectedByte at)))

-- the 12 bytes that every message begins with
abbrev pub prefix : List ℕ
prefix = bytes "binmode-rpc:"

-- two byte strings agree as far as both go
unfoldable pub agree : List ℕ → List ℕ → Bool
agree [] ys = true
agree (x ∷ xs) [] = true
agree (x ∷ xs) (y ∷ ys) = eqb x y && agree xs ys

-- a message with room for so many rows and so much nesting: 2, over as many of the 12 bytes as are present; 1 if fewer than 12;
-- then the Call or Response, with an empty codebook
unfoldable pub message : List ℕ → ℕ → ℕ → Reading
message s room deep =
    cond (agree s prefix)
    (cond (leb 12 (length s)) (call_or_response s room deep 12 0 clear) (refused Ended 0))
    (refused WrongPrefix 0)

-- the same, of at most so many bytes: else 10
unfoldable pub message_within : ℕ → List ℕ → ℕ → ℕ → Reading
message_within most s room deep = cond (leb (length s) most) (message s room deep) (refused TooLong 0)
