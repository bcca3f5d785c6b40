-- The codebook in 256 words. Assumes nothing.
use Rattle.std.specs.Prelude.{cond, ℕ, ◌+◌, ◌/◌, ◌%◌, List, get_or, eqb}
use Rattle.std.specs.Prelude.{Some, None}
use Rattle.draft.specs.Codebook.{Entry, span, Book}

-- Position p has one word: the offset less 1, which is below 65,536 even of an empty text at the end of the longest message, and behind it
-- the length in 16 bits. No text lies at offset 1, within the prefix, so the word 0 says unset. The length alone says nothing of that: an
-- empty text may be recorded
abbrev pub entry : ℕ → Entry
entry w = cond (eqb w 0) None (Some (span (w / 65536 + 1) (w % 65536)))

unfoldable pub book_of : List ℕ → Book
book_of words p = entry (get_or words p 0)
