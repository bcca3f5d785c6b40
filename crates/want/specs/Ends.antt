-- Where an item's content ends, or its fields if they are cut. Assumes nothing.
use Rattle.std.specs.Prelude.{cond, ℕ, ◌+◌, List, length, leb}
use Rattle.draft.specs.Bytes.{byte_at, unsigned_at}

-- with a size byte behind the tag
unfoldable pub short_end : List ℕ → ℕ → ℕ
short_end s at = cond (leb (at + 2) (length s)) (at + 2 + byte_at s (at + 1)) (at + 2)

-- with a length that stands p bytes behind the tag
unfoldable pub long_end : List ℕ → ℕ → ℕ → ℕ
long_end s at p = cond (leb (at + (p + 4)) (length s)) (at + (p + 4) + unsigned_at s (at + p)) (at + (p + 4))
