-- The texts that stand as strings, which of them have positions, and how each string is sent. Assumes nothing.
use Rattle.std.specs.Prelude.{ℕ, suc, ◌+◌, Bool, true, false, ◌&&◌, not, cond, List, [], ◌∷◌, length, take, eqb}
use Rattle.text.specs.Texts.{same, among}
use Rattle.draft.specs.declared.Row.{Row}
use Rattle.draft.specs.declared.Content.TheVariants as content
use Rattle.draft.specs.Rows.{kind_of}
use Rattle.draft.specs.Read.{text_of}
use Rattle.draft.specs.Grammar.{Sent, regular, recorded, recalled}

-- a text is a list of bytes; two are different if their bytes are
abbrev pub Text : Type 0
Text = List ℕ

abbrev pub keep : Bool → Text → List Text → List Text
keep true t ts = t ∷ ts
keep false t ts = ts

abbrev pub is_string : Row → Bool
is_string x = eqb x.kind (kind_of content.Text)

-- the texts that stand as strings, in row order: method, keys and type names too
unfoldable pub texts_of : List ℕ → List Row → List Text
texts_of s [] = []
texts_of s (x ∷ rows) = keep (is_string x) (text_of s x) (texts_of s rows)

-- of the texts ts after those seen: each that is new and comes again, once, in order of first occurrence
unfoldable pub repeats : List Text → List Text → List Text
repeats seen [] = []
repeats seen (t ∷ ts) = keep (not (among seen t) && among ts t) t (repeats (t ∷ seen) ts)

-- the texts that occur at least twice, in order of first occurrence
abbrev pub repeated : List Text → List Text
repeated ts = repeats [] ts

-- those that have a position: 256 at most
abbrev pub kept : List Text → List Text
kept ts = take 256 (repeated ts)

abbrev pub onward : Bool → ℕ → ℕ
onward true n = 0
onward false n = suc n

-- a text's position is its place among those
unfoldable pub position : List Text → Text → ℕ
position [] t = 0
position (u ∷ us) t = onward (same t u) (position us t)

-- the string t after the strings seen, where the texts P have positions: recorded the first time and recalled from then on
abbrev pub sent_of : List Text → List Text → Text → Sent
sent_of P seen t = cond (among P t) (cond (among seen t) (recalled (position P t) t) (recorded (position P t) t)) (regular t)

unfoldable pub sents : List Text → List Text → List Text → List Sent
sents P seen [] = []
sents P seen (t ∷ ts) = sent_of P seen t ∷ sents P (t ∷ seen) ts

-- how the written form sends its strings
abbrev pub plan : List Text → List Sent
plan ts = sents (kept ts) [] ts

-- the bytes that a sent string takes
unfoldable pub cost : Sent → ℕ
cost (regular t) = 5 + length t
cost (recorded p t) = 6 + length t
cost (recalled p t) = 2

unfoldable pub costs : List Sent → ℕ
costs [] = 0
costs (f ∷ fs) = cost f + costs fs
