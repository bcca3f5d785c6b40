-- What answers each return of the functions that judge a whole table. Assumes nothing.
use mathlib.Core.Path.{◌≡◌, refl, ◌∙◌}
use mathlib.Core.Bool.{Bool, false}
use mathlib.Core.List.{List}
use Prim.Native.Nat.{ℕ, ◌*◌, ◌≤◌, ◌<◌}
use native.Mathlib.Omega.{arith}
use lib.ListN.{length, replicate}
use borrow.Author.Tests.{le-leb, lt-leb}
use Rattle.std.proofs.Common.{Option, Some, None, nat_eq}
use Rattle.std.specs.Option.{option_eq}
use Rattle.draft.specs.Table.{room_of, row_at}
use Rattle.draft.specs.Writable.{wholly}
use Rattle.extents.specs.Asked.{Ready, Walkable}
use Rattle.keys.proofs.Keeping.{noted_blank}
use Rattle.key_rows.specs.Contract.{Entries}
use Rattle.glyph.specs.declared.Edition.{Edition}
use Rattle.glyph.specs.declared.Want.TheVariants.{Any}
use Rattle.glyph_form.specs.Writable.{object, writable_within, writable}
use Rattle.glyph_walks.specs.Contract.{Met}

-- the notes as they are laid out
pub blank_met : {s : List ℕ} {room rows : ℕ} {T : List ℕ} {good : ℕ} (r : ℕ) {N : List ℕ} → Walkable s room rows T good → Entries rows (length N) → N ≡ replicate (length N) 0 → Met s room rows T good r N
blank_met r a b e = record { ready = a.ready; checked = a.checked; entries = b; noted = noted_blank e }

-- where an object ends, as against the stated rows
wholly_is : (o : Option ℕ) (rows : ℕ) → option_eq nat_eq o (Some rows) ≡ wholly rows o
wholly_is None rows = refl
wholly_is (Some n) rows = refl

-- the whole table
module _ (e : Edition) (deep : ℕ) (T : List ℕ) (rows : ℕ) (s : List ℕ) where
  pub table_long : 65536 < length s → false ≡ writable e deep T rows s
  unfolding writable writable_within
  table_long h = rw (lt-leb _ _ h)

  module _ (h : length s ≤ 65536) where
    pub table_empty : rows ≡ 0 → false ≡ writable e deep T rows s
    unfolding writable writable_within
    table_empty i = rw (le-leb _ _ h, i)

    module _ (n : rows ≡ 0 → ⊥) where
      some_rows : 1 ≤ rows
      some_rows = omega arith

      pub table_many : 4096 < rows → false ≡ writable e deep T rows s
      unfolding writable writable_within
      table_many j = rw (le-leb _ _ h, le-leb 1 rows some_rows, lt-leb rows 4096 j)

      module _ (j : rows ≤ 4096) where
        pub table_short : length T < rows * 4 → false ≡ writable e deep T rows s
        unfolding writable writable_within
        table_short k = rw (le-leb _ _ h, le-leb 1 rows some_rows, le-leb rows 4096 j, lt-leb (rows * 4) (length T) k)

        pub table_walked : {o : Option ℕ} {room : ℕ} {b : Bool} → rows * 4 ≤ length T → room ≡ room_of 4096 (length T) → o ≡ object (row_at room T) rows s e deep Any 0 → b ≡ option_eq nat_eq o (Some rows) → b ≡ writable e deep T rows s
        unfolding writable writable_within
        table_walked {o} k l m f = f ∙ wholly_is o rows ∙ rw (le-leb _ _ h, le-leb 1 rows some_rows, le-leb rows 4096 j, le-leb (rows * 4) (length T) k, m, l)

pub ready_table : {rows room : ℕ} (words : ℕ) → rows ≤ 4096 → rows * 4 ≤ words → room ≡ room_of 4096 words → Ready rows room words
ready_table words h i e = record { stated = omega (arith, e); most = omega (arith, e); table = omega (arith, e) }

-- notes for as many rows as there may be
pub rows_few : {rows room words : ℕ} → Ready rows room words → rows ≤ 4096
rows_few h = omega (arith, h.stated, h.most)

pub ruleset whole = (blank_met, rows_few, table_long, table_empty, table_many, table_short, table_walked, ready_table)
