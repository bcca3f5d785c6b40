-- What stands at the place of a refusal, by its number: the first byte of the item that fails, or the end of the bytes. Assumes nothing.
use Rattle.std.specs.Prelude.{◌≡◌, true, false, ◌≢◌, List, [], ℕ, ◌+◌, ◌≤◌, ◌<◌, length}
use Prim.Native.Char.{code}
use Rattle.text.specs.Rfc3629.{UTF8-octets}
use Rattle.text.specs.Texts.{ascii}
use Rattle.lexical.specs.Grammar.{Double, DateTime}
use Rattle.draft.specs.declared.Tag.{Tag}
use Rattle.draft.specs.declared.Tag.TheVariants as tag
use Rattle.draft.specs.declared.Plain.TheVariants as plain
use Rattle.std.specs.Prelude.{Ok}
use Rattle.draft.specs.declared.Form.TheVariants.{Regular, Recorded, Recalled}
use Rattle.draft.specs.Bytes.{byte_at, unsigned_at, part}
use Rattle.draft.specs.Rows.{below}
use Rattle.draft.specs.Content.{name_rule}
use Rattle.draft.specs.Grammar.{Cell, held_cells, Sent, Struct, Legal}
use Rattle.draft.specs.Read.{tag_of, prefix, agree}
use Rattle.wanting.specs.Want.{want_of}
use Rattle.demands_reading.specs.Members.{TwoMembers}

-- the item that begins at a place, by its first byte
abbrev pub Begun : List ℕ → ℕ → Tag → Type 0
Begun s at t = tag_of (byte_at s at) ≡ t

-- and its fields and content are all there
abbrev pub Whole : List ℕ → ℕ → Tag → Type 0
Whole s at t = Begun s at t × (want_of s at ≤ length s)

-- the text of a Double or a DateTime, of a regular String, and of a recorded one
abbrev pub short_text : List ℕ → ℕ → List ℕ
short_text s at = part s (at + 2) (byte_at s (at + 1))

abbrev pub long_text : List ℕ → ℕ → List ℕ
long_text s at = part s (at + 5) (unsigned_at s (at + 1))

abbrev pub recorded_text : List ℕ → ℕ → List ℕ
recorded_text s at = part s (at + 6) (unsigned_at s (at + 2))

-- the text of a String that stands whole at a place: sent there, or, recalled, that of a String recorded before it with its position
pub data Sends (s : List ℕ) (at : ℕ) : List ℕ → Type 0 where
  by_regular : Whole s at (tag.String Regular) → Sends s at (long_text s at)
  by_recorded : Whole s at (tag.String Recorded) → Sends s at (recorded_text s at)
  by_recalled :
      (q : ℕ) → Whole s at (tag.String Recalled) → Whole s q (tag.String Recorded) → q < at → byte_at s (q + 1) ≡ byte_at s (at + 1)
      → Sends s at (recorded_text s q)

pub data Stands (s : List ℕ) : ℕ → ℕ → Type 0 where
  -- 1: fewer than 12 bytes; nothing, at the end of the bytes; or an item whose fields or content end behind the bytes
  short : length s < 12 → Stands s 1 0
  nothing : {at : ℕ} → at ≡ length s → Stands s 1 at
  cut : {at : ℕ} → at < length s → length s < want_of s at → Stands s 1 at
  -- 2: other first bytes
  differs : agree s prefix ≡ false → Stands s 2 0
  -- 3: a byte
  unexpected : {at : ℕ} → at < length s → Stands s 3 at
  -- 5: a String whose text is not UTF-8, or a Double or DateTime with a byte of 128 or more
  regular_bad : {at : ℕ} → Whole s at (tag.String Regular) → (UTF8-octets (long_text s at) → ⊥) → Stands s 5 at
  recorded_bad : {at : ℕ} → Whole s at (tag.String Recorded) → (UTF8-octets (recorded_text s at) → ⊥) → Stands s 5 at
  double_bad : {at : ℕ} → Whole s at (tag.Plain plain.Double) → ascii (short_text s at) ≡ false → Stands s 5 at
  datetime_bad : {at : ℕ} → Whole s at (tag.Plain plain.DateTime) → ascii (short_text s at) ≡ false → Stands s 5 at
  -- 6: a recall
  unset : {at : ℕ} → Whole s at (tag.String Recalled) → Stands s 6 at
  -- 7: an Other, and behind its `O` a String whose text may not be its name
  standard : {at : ℕ} {t : List ℕ} → Begun s at (tag.Plain plain.Other) → Sends s (at + 1) t → name_rule t ≢ Ok tt → Stands s 7 at
  -- 8: an Array or a Struct
  deep_array : {at : ℕ} → Begun s at tag.Array → Stands s 8 at
  deep_struct : {at : ℕ} → Begun s at tag.Struct → Stands s 8 at
  -- 9: a byte
  no_row : {at : ℕ} → at < length s → Stands s 9 at
  -- 14: a fault's Struct, behind `R` and `F`, all of which is derived, and which does not hold the two members
  bad_fault :
      {limit : ℕ} {xs : List ℕ} {cells : List Cell} {sents : List Sent} → byte_at s 12 ≡ code "R" → byte_at s 13 ≡ code "F" → part s 14 (length xs) ≡ xs
      → Struct limit xs cells sents → Legal [] sents → (TwoMembers (held_cells (below cells)) → ⊥) → Stands s 14 14
  -- 17: an ASCII Double or DateTime that is no such text
  no_double : {at : ℕ} → Whole s at (tag.Plain plain.Double) → ascii (short_text s at) ≡ true → (Double (short_text s at) → ⊥) → Stands s 17 at
  no_datetime : {at : ℕ} → Whole s at (tag.Plain plain.DateTime) → ascii (short_text s at) ≡ true → (DateTime (short_text s at) → ⊥) → Stands s 17 at
  -- 20: a String, all of which is there
  repeated_key : {at : ℕ} {t : List ℕ} → Sends s at t → Stands s 20 at
