-- What the answer to a glyph message says: what was derived, or why it is refused; where the rows stand in the table; and which answers stay under
-- a higher limit and in a larger table. Assumes nothing.
use Rattle.std.specs.Prelude.{◌≡◌, ◌≢◌, Bool, true, false, ◌||◌, List, [], ◌∷◌, ℕ, ◌+◌, ◌*◌, ◌≤◌, ◌<◌, eqb, length, get_or}
use Prim.Native.Char.{code}
use Rattle.draft.specs.declared.Row.{Row}
use Rattle.draft.specs.Bytes.{byte_at}
use Rattle.draft.specs.Rows.{row}
use Rattle.draft.specs.Table.{room_of}
use Rattle.draft.specs.Meaning.{Realises}
use Rattle.std.specs.Prelude.{Ok, Err}
use Rattle.glyph.specs.declared.Edition.{Edition}
use Rattle.glyph.specs.Refusals.{number_of}
use Rattle.glyph.specs.Answers.{Answer}
use Rattle.glyph.specs.declared.Edition.TheVariants.{New, Old}
use Rattle.glyph.specs.Read.{Reading, got, refused}
use Rattle.glyph.specs.Tree.{Tree, cells}
use Rattle.glyph.specs.Grammar.{Root}
use Rattle.glyph_exact.specs.Reasons.{Cut, IllFormed, Twice, Beyond}

abbrev pub has : List ℕ → ℕ → Bool
has [] n = false
has (x ∷ xs) n = eqb n x || has xs n

-- the letters of each edition
abbrev pub letters_of : Edition → List ℕ
letters_of New = code "i" ∷ code "u" ∷ code "b" ∷ code "T" ∷ code "F" ∷ code "N" ∷ code "L" ∷ code "D" ∷ code "O" ∷ code "X" ∷ []
letters_of Old = code "i" ∷ code "u" ∷ code "b" ∷ code "T" ∷ code "F" ∷ code "N" ∷ code "L" ∷ code "D" ∷ code "O" ∷ code "X" ∷ code "H" ∷ []

-- the tests before the root: the limit is 1 to 32, and there are no more than 65,536 bytes
pub record Allowed (limit : ℕ) (s : List ℕ) : Type 0 where
  pub least : 1 ≤ limit
  pub most : limit ≤ 32
  pub bytes : length s ≤ 65536

-- rows and bytes used are what the edition derives, within the limits
pub record Derived (e : Edition) (limit : ℕ) (s : List ℕ) (room : ℕ) (rows : List Row) (used : ℕ) : Type 0 where
  pub tree : Tree
  pub root : Root e limit s used tree
  pub meaning : Realises s 0 rows (cells tree)
  pub fits : length rows ≤ room
  pub allowed : Allowed limit s

-- the byte behind the bytes that a unicode's or a bytearray's row names is `;`: so an empty one's offset is that of a `;`
abbrev pub Ends : List ℕ → Row → Type 0
Ends s x = has (8 ∷ 11 ∷ []) x.kind ≡ true → byte_at s (x.a + x.b) ≡ code ";"

abbrev pub AllEnd : List ℕ → List Row → Type 0
AllEnd s [] = Unit {0}
AllEnd s (x ∷ rows) = Ends s x × AllEnd s rows

-- the edition does not derive the message at all
abbrev pub Underived : Edition → List ℕ → Type 0
Underived e s = (used nesting : ℕ) (t : Tree) → Root e nesting s used t → ⊥

-- what a refusal says of a message, by its number; its place is 0 where nothing of the message was read
pub data RefusedFor (e : Edition) (limit : ℕ) (s : List ℕ) (room : ℕ) : ℕ → ℕ → Type 0 where
  -- the bytes end at the place, or in the item there
  ended : {place : ℕ} → Underived e s → Cut s place → RefusedFor e limit s room 1 place
  -- a byte stands at the place
  unexpected_byte : {place : ℕ} → Underived e s → place < length s → RefusedFor e limit s room 3 place
  -- at the place stands, up to its `;`, a unicode that is not well-formed, or whose text an earlier one has, or an integer out of range
  bad_text : {place : ℕ} → Underived e s → IllFormed s place → RefusedFor e limit s room 5 place
  repeated_key : {place : ℕ} → Underived e s → Twice s place → RefusedFor e limit s room 20 place
  out_of_range : {place : ℕ} → Underived e s → Beyond s place → RefusedFor e limit s room 25 place
  -- what is derived, if anything is, nests deeper than the limit
  too_deep : {place : ℕ} → ((used nesting : ℕ) (t : Tree) → Root e nesting s used t → limit < nesting) → RefusedFor e limit s room 8 place
  -- and has more rows than there is room for
  no_row : {place : ℕ} → ((used nesting : ℕ) (t : Tree) → Root e nesting s used t → room < length (cells t)) → RefusedFor e limit s room 9 place
  too_long : 65536 < length s → RefusedFor e limit s room 10 0
  no_limit : (1 ≤ limit → limit ≤ 32 → ⊥) → RefusedFor e limit s room 23 0

-- the rows of a reading
abbrev pub rows_in : Reading → List Row
rows_in (got rows used) = rows
rows_in (refused refusal place) = []

-- a row by its words
abbrev pub row_in : (ℕ → ℕ) → Row
row_in word = row (word 0) (word 1) (word 2) (word 3)

-- rows in a table of so many words (02, E12): with room for c rows, word j of row r stands at c times j plus r, and every other word is zero
pub record Columns (words : ℕ) (T : List ℕ) (rows : List Row) : Type 0 where
  pub stands : (r : ℕ) → r < length rows → row_in (λ j. get_or T (room_of 4096 words * j + r) 0) ≡ get_or rows r (row 0 0 0 0)
  pub spare : (i : ℕ) → ((r j : ℕ) → r < length rows → j < 4 → i ≢ room_of 4096 words * j + r) → get_or T i 0 ≡ 0

-- an answer other than 8, 9 and 23 (02, E11)
abbrev pub Lasting : Answer → Type 0
Lasting (Ok x) = Unit {0}
Lasting (Err x) = (number_of x.refusal ≢ 8) × (number_of x.refusal ≢ 9) × (number_of x.refusal ≢ 23)
