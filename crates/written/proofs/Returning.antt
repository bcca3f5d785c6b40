-- A table that the reader made: it holds the rows that were read, and with the message as text bytes it is writable. Assumes nothing.
use mathlib.Core.Path.{◌≡◌, refl, ap, ◌∙◌}
use mathlib.Core.Bool.{true}
use mathlib.Core.List.{List}
use Prim.Native.Nat.{ℕ, ◌≤◌}
use native.Mathlib.Omega.{arith}
use lib.ListN.{length, replicate, length-replicate}
use Rattle.draft.specs.declared.Row.{Row}
use Rattle.draft.specs.Bytes.{Below}
use Rattle.draft.specs.Table.{room_of, row_at, put_rows, from}
use Rattle.draft.specs.Codebook.{Book}
use Rattle.draft.specs.Read.{got, message_within}
use Rattle.draft.specs.Strings.{repeated, texts_of}
use Rattle.draft.specs.Writable.{writable_within}
use Rattle.draft.specs.Written.{written, rows_of}
use Rattle.table.proofs.Rows.{length_put_rows}
use Rattle.table.proofs.Stored.{rows_there}
use Rattle.exact.proofs.Realising.{counts, same_meaning}
use Rattle.exact.proofs.Deriving.{sound}
use Rattle.exact.proofs.Concluding.{begins, within_got}
use Rattle.written.proofs.Limiting.{below_take}
use Rattle.written.proofs.Concluding.{some_cell, derived_writable, no_shorter}

-- the table after rows were stored in zeros
abbrev pub table_with : ℕ → ℕ → List Row → List ℕ
table_with most words rows = put_rows (room_of most words) (replicate words 0) 0 rows

-- a message read into a table of so many words, within these limits
module _ (bytes most deep : ℕ) (s : List ℕ) (words : ℕ) {rows : List Row} {used : ℕ} {book : Book} (e : message_within bytes s (room_of most words) deep ≡ got rows used book) where
  table_length : length (table_with most words rows) ≡ words
  table_length = length_put_rows (room_of most words) (replicate words 0) 0 rows ∙ length-replicate words 0

  fits : length rows ≤ room_of most words
  fits = omega (arith, (sound s (room_of most words) deep (within_got bytes s (room_of most words) deep e).1).fits)

  pub read_rows : rows_of most (table_with most words rows) (length rows) ≡ rows
  unfolding rows_of
  read_rows =
      ap (λ (n : ℕ). from (row_at (room_of most n) (table_with most words rows)) 0 (length rows)) table_length
      ∙ rows_there (room_of most words) (replicate words 0) 0 rows (omega (arith, fits)) (omega (arith, length-replicate {A = ℕ} words 0))

  pub read_writable : Below 256 s → writable_within bytes most deep (table_with most words rows) (length rows) s ≡ true
  read_writable o =
      let h = within_got bytes s (room_of most words) deep e in
      let d = sound s (room_of most words) deep h.1 in
      let b = begins s (room_of most words) deep d in
      derived_writable bytes most deep (table_with most words rows) (length rows) s
      (record {
        text = h.0;
        some_row = omega (arith, some_cell b.derived, counts d.realises);
        few = omega (arith, fits);
        there = omega (arith, fits, table_length);
      })
      (record { cells = d.cells; meaning = rw read_rows d.realises; derived = b.derived }) (below_take used o)

  pub read_short :
      length (repeated (texts_of s (rows_of most (table_with most words rows) (length rows)))) ≤ 256
      → (length (written s (rows_of most (table_with most words rows) (length rows))) ≤ used) × (used ≤ length s) × (length s ≤ bytes)
  read_short few =
      let h = within_got bytes s (room_of most words) deep e in
      let d = sound s (room_of most words) deep h.1 in
      let f = no_shorter (room_of most words) deep d.realises (rw read_rows at few) h.1 ((same_meaning d.realises d.realises).1 refl) in
      (rw read_rows f.0, f.1, h.0)
