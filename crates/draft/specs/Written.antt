-- The written form of a table's rows: the prefix, and one item for each row, in row order. Assumes nothing.
use Rattle.std.specs.Prelude.{ℕ, ◌/◌, ◌%◌, Bool, true, false, List, [], ◌∷◌, ◌++◌, length, eqb}
use Prim.Native.Char.{code}
use Rattle.draft.specs.declared.Row.{Row}
use Rattle.draft.specs.declared.Content.{Content as ContentOf}
use Rattle.draft.specs.declared.Content.TheVariants.{Double, DateTime, Binary, Text}
use Rattle.draft.specs.declared.Item.{Item}
use Rattle.draft.specs.declared.Item.TheVariants.{
  Call,
  Response,
  Fault,
  Integer,
  Boolean,
  Content,
  Array,
  Struct,
  Other,
  Unknown,
}
use Rattle.draft.specs.Rows.{item_of}
use Rattle.draft.specs.Table.{room_of, row_at, from}
use Rattle.draft.specs.Read.{prefix, text_of}
use Rattle.draft.specs.Grammar.{Sent, regular, recorded, recalled}
use Rattle.draft.specs.Strings.{is_string, texts_of, plan}

-- four bytes, least significant first
unfoldable pub lsb : ℕ → List ℕ
lsb n = n % 256 ∷ n / 256 % 256 ∷ n / 65536 % 256 ∷ n / 16777216 % 256 ∷ []

-- bytes with their number before them
unfoldable pub counted : List ℕ → List ℕ
counted t = lsb (length t) ++ t

-- a String, as it is sent
unfoldable pub string_bytes : Sent → List ℕ
string_bytes (regular t) = code "U" ∷ counted t
string_bytes (recorded p t) = code ">" ∷ p ∷ counted t
string_bytes (recalled p t) = code "<" ∷ p ∷ []

abbrev pub letter : Bool → ℕ
letter true = code "f"
letter false = code "t"

-- a size byte: a length, which is 255 at most in a writable table
abbrev pub size : List ℕ → ℕ
size t = length t % 256

-- content in an item that is no String
abbrev pub content_bytes : ContentOf → List ℕ → List ℕ
content_bytes Double t = code "D" ∷ size t ∷ t
content_bytes DateTime t = code "8" ∷ size t ∷ t
content_bytes Binary t = code "B" ∷ counted t
content_bytes Text t = []

-- an item that is no String, without the items that it holds
abbrev pub bytes_of : List ℕ → Item → Row → List ℕ
bytes_of s Call x = code "C" ∷ []
bytes_of s Response x = code "R" ∷ []
bytes_of s Fault x = code "R" ∷ code "F" ∷ []
bytes_of s Integer x = code "I" ∷ lsb x.a
bytes_of s Boolean x = letter (eqb x.a 0) ∷ []
bytes_of s (Content c) x = content_bytes c (text_of s x)
bytes_of s Array x = code "A" ∷ lsb x.b
bytes_of s Struct x = code "S" ∷ lsb x.b
bytes_of s Other x = code "O" ∷ []
bytes_of s Unknown x = []

unfoldable pub item_bytes : List ℕ → Row → List ℕ
item_bytes s x = bytes_of s (item_of x.kind) x

-- a row's item, which is the next String as sent if the row is a string's, and what follows with the strings left
abbrev pub next : Bool → List ℕ → List Sent → (List Sent → List ℕ) → List ℕ
next false xs fs more = xs ++ more fs
next true xs [] more = more []
next true xs (f ∷ fs) more = string_bytes f ++ more fs

-- the items of rows, whose strings are sent as fs says
unfoldable pub items_of : List ℕ → List Row → List Sent → List ℕ
items_of s [] fs = []
items_of s (x ∷ rows) fs = next (is_string x) (item_bytes s x) fs (λ left. items_of s rows left)

-- a message of these rows
unfoldable pub message_of : List ℕ → List Row → List Sent → List ℕ
message_of s rows fs = prefix ++ items_of s rows fs

-- the written form
unfoldable pub written : List ℕ → List Row → List ℕ
written s rows = message_of s rows (plan (texts_of s rows))

-- the first so many rows of a table that has room for `most` at most
unfoldable pub rows_of : ℕ → List ℕ → ℕ → List Row
rows_of most T rows = from (row_at (room_of most (length T)) T) 0 rows
