-- Tables with the same stated rows: they are writable alike, and they have the same rows if they have the same words for them, word by word or column by
-- column, whatever their other words are. Assumes nothing.
use mathlib.Core.Path.{◌≡◌, sym, ap, ◌∙◌}
use mathlib.Core.Bool.{true}
use mathlib.Core.List.{List}
use Prim.Native.Nat.{ℕ, ◌+◌, ◌*◌, ◌≤◌, ◌<◌}
use native.Mathlib.Omega.{arith}
use lib.ListN.{length, take, drop, get_or}
use lib.Seq.{get_or-take, get_or-drop}
use Rattle.draft.specs.Bytes.{Below}
use Rattle.draft.specs.Table.{room_of, place, row_at}
use Rattle.draft.specs.Writable.{writable_to}
use Rattle.draft.specs.Written.{rows_of}
use Rattle.written.specs.Derivable.{HoldAlike}
use Rattle.written.proofs.Standing.{from_same}
use Rattle.written.proofs.Tests.{agreeing}
use Rattle.demands_writing.proofs.Writing.{writable_derivable}

writable_over :
    (limit : ℕ) (T T' : List ℕ) (rows : ℕ) (s : List ℕ) → Below 4294967296 T → Below 4294967296 T' → Below 256 s → (rows * 4 ≤ length T → rows * 4 ≤ length T')
    → rows_of 4096 T rows ≡ rows_of 4096 T' rows → writable_to limit T rows s ≡ true → writable_to limit T' rows s ≡ true
unfolding writable_to
writable_over limit T T' rows s w w' o over same e =
    let h = (writable_derivable 65536 4096 limit rows w o).0 e in
    (writable_derivable 65536 4096 limit rows w' o).1
    (record { text = h.0.text; some_row = h.0.some_row; few = h.0.few; there = over h.0.there }, rw same at h.1)

-- both writable or neither
pub writable_alike :
    (limit : ℕ) (T T' : List ℕ) (rows : ℕ) (s : List ℕ) → Below 4294967296 T → Below 4294967296 T' → Below 256 s → HoldAlike rows T T'
    → rows_of 4096 T rows ≡ rows_of 4096 T' rows → writable_to limit T rows s ≡ writable_to limit T' rows s
writable_alike limit T T' rows s w w' o hold same =
    agreeing (writable_to limit T rows s) (writable_to limit T' rows s) (writable_over limit T T' rows s w w' o hold.0 same)
    (writable_over limit T' T rows s w' w o hold.1 (sym same))

module _ (T T' : List ℕ) (rows : ℕ) where
  -- each word of each stated row, at its place by its own table's room, is the same
  pub by_words :
      ((r j : ℕ) → r < rows → j < 4 → get_or T (place (room_of 4096 (length T)) r j) 0 ≡ get_or T' (place (room_of 4096 (length T')) r j) 0)
      → rows_of 4096 T rows ≡ rows_of 4096 T' rows
  unfolding rows_of row_at
  by_words h =
      from_same (row_at (room_of 4096 (length T)) T) (row_at (room_of 4096 (length T')) T') 0 rows
      (λ r k. rw (h r 0 (omega arith) (omega arith), h r 1 (omega arith) (omega arith), h r 2 (omega arith) (omega arith), h r 3 (omega arith) (omega arith)))

  -- each column, c words from c * j on in a table with room for c rows, begins with the same words for the stated rows
  pub by_columns :
      ((j : ℕ) → j < 4 → take rows (drop (room_of 4096 (length T) * j) T) ≡ take rows (drop (room_of 4096 (length T') * j) T'))
      → rows_of 4096 T rows ≡ rows_of 4096 T' rows
  unfolding place
  by_columns h =
      by_words
      (λ r j k i. column_word T (room_of 4096 (length T) * j) r k ∙ ap (λ (x : List ℕ). get_or x r 0) (h j i) ∙ sym (column_word T' (room_of 4096 (length T') * j) r k))
    where
      -- word r of the column from word f on, of the first `rows`
      column_word : (U : List ℕ) (f r : ℕ) → r < rows → get_or U (f + r) 0 ≡ get_or (take rows (drop f U)) r 0
      column_word U f r k = sym (get_or-drop f U r 0) ∙ sym (get_or-take rows (drop f U) r 0 k)
