-- How many bytes a message that was refused with 1 wants, by the tag at the refusal's place. Assumes nothing.
use Rattle.std.specs.Prelude.{ℕ, ◌+◌, cond, List, length, leb}
use Rattle.draft.specs.declared.Tag.{Tag}
use Rattle.draft.specs.declared.Tag.TheVariants as tag
use Rattle.draft.specs.declared.Plain.TheVariants as plain
use Rattle.draft.specs.declared.Form.TheVariants.{Regular, Recorded, Recalled}
use Rattle.draft.specs.Bytes.{byte_at, unsigned_at}
use Rattle.draft.specs.Read.{tag_of}

-- how many bytes an item's fixed fields end behind, by its tag
abbrev pub fields_of : Tag → ℕ
fields_of (tag.Plain plain.Integer) = 5
fields_of (tag.Plain plain.True) = 1
fields_of (tag.Plain plain.False) = 1
fields_of (tag.Plain plain.Double) = 2
fields_of (tag.Plain plain.DateTime) = 2
fields_of (tag.Plain plain.Binary) = 5
fields_of (tag.Plain plain.Other) = 1
fields_of (tag.String Regular) = 5
fields_of (tag.String Recorded) = 6
fields_of (tag.String Recalled) = 2
fields_of tag.Array = 5
fields_of tag.Struct = 5
fields_of tag.Unknown = 1

-- how many bytes of content its fields announce
abbrev pub announced : List ℕ → ℕ → Tag → ℕ
announced s at (tag.Plain plain.Integer) = 0
announced s at (tag.Plain plain.True) = 0
announced s at (tag.Plain plain.False) = 0
announced s at (tag.Plain plain.Double) = byte_at s (at + 1)
announced s at (tag.Plain plain.DateTime) = byte_at s (at + 1)
announced s at (tag.Plain plain.Binary) = unsigned_at s (at + 1)
announced s at (tag.Plain plain.Other) = 0
announced s at (tag.String Regular) = unsigned_at s (at + 1)
announced s at (tag.String Recorded) = unsigned_at s (at + 2)
announced s at (tag.String Recalled) = 0
announced s at tag.Array = 0
announced s at tag.Struct = 0
announced s at tag.Unknown = 0

-- how many bytes there are at least when anything changes of a message that was refused with 1 at a place: the end of the fields, or of
-- the content, that was cut
unfoldable pub want_of : List ℕ → ℕ → ℕ
want_of s at =
    cond (leb (length s) at) (length s + 1)
    (cond (leb (at + fields_of (tag_of (byte_at s at))) (length s))
    (at + fields_of (tag_of (byte_at s at)) + announced s at (tag_of (byte_at s at)))
    (at + fields_of (tag_of (byte_at s at))))
