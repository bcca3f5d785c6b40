-- A table is writable exactly if its rows realise a tree that the edition derives, and then it tells that tree. Assumes nothing.
use mathlib.Core.Path.{◌≡◌, refl, sym, ap, ◌∙◌}
use mathlib.Core.Bool.{true}
use mathlib.Core.List.{List}
use Prim.Native.Nat.{ℕ, ◌+◌, ◌*◌}
use native.Mathlib.Omega.{arith}
use lib.Dec.{leb}
use lib.ListN.{length}
use borrow.Author.Tests.{leb-true, le-leb, eq-eqb}
use Rattle.std.proofs.Common.{Some}
use Rattle.text.proofs.Comparing.{both}
use Rattle.draft.specs.declared.Row.{Row}
use Rattle.draft.specs.Table.{room_of, row_at}
use Rattle.draft.specs.Meaning.{Realises}
use Rattle.draft.specs.Written.{rows_of}
use Rattle.exact.proofs.Realising.{counts}
use Rattle.written.specs.Derivable.{Within}
use Rattle.written.proofs.Limiting.{below_at}
use Rattle.written.proofs.Standing.{stands_realises, realises_stands, from_length}
use Rattle.written.proofs.Tests.{wholly_by}
use Rattle.glyph.specs.declared.Edition.{Edition}
use Rattle.glyph.specs.declared.Want.TheVariants.{Any}
use Rattle.glyph.specs.Tree.{Tree, cells}
use Rattle.glyph.specs.Grammar.{any, Object}
use Rattle.glyph_form.specs.Writable.{object, writable_within, writable}
use Rattle.glyph_form.specs.Form.{bytes_of}
use Rattle.glyph_back.specs.Brief.{Brief}
use Rattle.glyph_told.specs.Tables.{Words, tree_of}
use Rattle.glyph_told.proofs.Telling.{tells}
use Rattle.glyph_told.proofs.Fitting.{fits}
use Rattle.glyph_told.proofs.Walking.{walked}
use Rattle.glyph_told.proofs.Texts.{brief}

-- the rows of a table by their numbers
abbrev row_in : List ℕ → ℕ → Row
row_in T = row_at (room_of 4096 (length T)) T

pub rows_length : (T : List ℕ) (rows : ℕ) → length (rows_of 4096 T rows) ≡ rows
unfolding rows_of
rows_length T rows = from_length (row_in T) 0 rows

module _ (e : Edition) (limit : ℕ) (T : List ℕ) (rows : ℕ) (s : List ℕ) where
  tests : writable e limit T rows s ≡ true → Within 65536 4096 T rows s × (object (row_in T) rows s e limit Any 0 ≡ Some rows)
  unfolding writable writable_within
  tests h =
      let f = both (leb (length s) 65536) _ h in
      let g = both (leb 1 rows) _ f.1 in
      let i = both (leb rows 4096) _ g.1 in
      let j = both (leb (rows * 4) (length T)) _ i.1 in (
        record {
          text = leb-true (length s) 65536 f.0;
          some_row = leb-true 1 rows g.0;
          few = leb-true rows 4096 i.0;
          there = leb-true (rows * 4) (length T) j.0;
        },
        wholly_by rows _ j.1,
      )

  pub within : writable e limit T rows s ≡ true → Within 65536 4096 T rows s
  within h = (tests h).0

  -- a writable table tells a tree that its rows realise and that the edition derives
  pub writable_told : Words T → writable e limit T rows s ≡ true → Object e limit (bytes_of e (tree_of e limit T s)) (tree_of e limit T s) × Realises s 0 (rows_of 4096 T rows) (cells (tree_of e limit T s))
  unfolding rows_of row_at
  writable_told w h =
      let t = tests h in
      let g = (walked (row_in T) rows s (λ r. below_at _ (omega arith) w) (omega (arith, t.0.text)) e limit Any 0 rows t.1).0 in
      let i : length (cells (tree_of e limit T s)) ≡ rows = omega (arith, g.ends) in
      (g.derived, rw i at (stands_realises g.stands))

  -- its texts are as short as the text bytes
  pub writable_brief : Words T → writable e limit T rows s ≡ true → Brief (tree_of e limit T s)
  unfolding rows_of
  writable_brief w h = brief (row_in T) s (omega (arith, (within h).text)) (tree_of e limit T s) (realises_stands rows (writable_told w h).1)

  -- rows that realise what the edition derives tell it
  pub realised_told : {xs : List ℕ} {t : Tree} → Object e limit xs t → Realises s 0 (rows_of 4096 T rows) (cells t) → tree_of e limit T s ≡ t
  unfolding rows_of
  realised_told o m = tells (row_in T) s o (realises_stands rows m)

  -- and are writable
  pub realised_writable : {xs : List ℕ} {t : Tree} → Within 65536 4096 T rows s → Object e limit xs t → Realises s 0 (rows_of 4096 T rows) (cells t) → writable e limit T rows s ≡ true
  unfolding writable writable_within rows_of
  realised_writable {t = t} w o m =
      let n : length (cells t) ≡ rows = sym (counts m) ∙ rows_length T rows in
      let g : object (row_in T) rows s e limit Any 0 ≡ Some (0 + length (cells t)) = (fits (row_in T) rows s o any).walks 0 (realises_stands rows m) (omega (arith, n)) in
      let i : object (row_in T) rows s e limit Any 0 ≡ Some rows = g ∙ ap Some (omega (arith, n)) in
      rw (le-leb _ _ w.text, le-leb _ _ w.some_row, le-leb _ _ w.few, le-leb _ _ w.there, i) (eq-eqb rows rows refl)
