-- The codebook: what is recorded at each position, Assumes nothing.
use Rattle.std.specs.Prelude.{ℕ, cond, eqb, Option, Some, None}
use Rattle.draft.specs.declared.Span.{Span}

-- what a position holds: nothing, or a text by where its bytes lie
abbrev pub Entry : Type 0
Entry = Option Span

abbrev pub span : ℕ → ℕ → Span
span o n = record { offset = o; length = n }

abbrev pub Book : Type 0
Book = ℕ → Entry

-- the codebook when a message begins
abbrev pub clear : Book
clear p = None

-- the text of n bytes at o recorded at position p: what stood there before is hidden, and nothing else changes
unfoldable pub recorded : Book → ℕ → ℕ → ℕ → Book
recorded book p o n q = cond (eqb q p) (Some (span o n)) (book q)
