-- Glyph tables and what they mean: a table is writable in an edition exactly if its rows realise a tree that the edition derives, and that is the tree
-- it tells; a table that the reader made tells what its message means and is writable; and the form is settled by the meaning. Said once, over the
-- edition. The long arguments are in crate glyph_told. Assumes nothing.
use mathlib.Core.Path.{◌≡◌, refl, sym, ap, ◌∙◌}
use mathlib.Core.Bool.{true}
use mathlib.Core.Logic.{◌↔◌}
use mathlib.Core.List.{List, ◌++◌}
use Prim.Native.Nat.{ℕ, ◌≤◌, max}
use native.Mathlib.Omega.{arith}
use lib.ListN.{length, replicate, length-replicate, length-append}
use Rattle.draft.specs.declared.Row.{Row}
use Rattle.draft.specs.Table.{room_of, row_at, from}
use Rattle.draft.specs.Meaning.{MeanSame, Realises}
use Rattle.draft.specs.Written.{rows_of}
use Rattle.table.proofs.Stored.{rows_there}
use Rattle.exact.proofs.Realising.{counts, same_meaning}
use Rattle.written.specs.Derivable.{Within}
use Rattle.glyph.specs.declared.Edition.{Edition}
use Rattle.glyph.specs.Read.{got, message}
use Rattle.glyph.specs.Tree.{Tree, leaf, many, plain, ordered, cells}
use Rattle.glyph.specs.Answers.{accepted_as, reading, answer_of, table_of, Answers}
use Rattle.glyph_demands.proofs.Reading.{one_meaning, growth_of_limits}
use Rattle.glyph_demands.proofs.Settled.{whole, accepted_read, stored, derived}
use Rattle.glyph_form.specs.Writable.{writable}
use Rattle.glyph_form.specs.Form.{bytes_of, written, form_within, form_of}
use Rattle.glyph_order.specs.Same.{Same}
use Rattle.glyph_told.specs.Tables.{Words, tree_of, Derivable}
use Rattle.glyph_told.proofs.Concluding as conclude
use Rattle.glyph_told.proofs.Deeper.{deeper}
use Rattle.glyph_told.proofs.Shorter.{no_longer}
use Rattle.glyph_written.proofs.Back.{Means, one_form_one_meaning}

-- a table with a stated number of rows, and text bytes
module _ (e : Edition) (limit : ℕ) (T : List ℕ) (rows : ℕ) (s : List ℕ) where
  -- WRITABLE, EXACTLY. There are at most 65,536 text bytes and 1 to 4,096 rows, which the words hold, and the rows realise a tree that the edition
  -- derives from some bytes, nested to at most the limit.
  pub writable_exactly : Words T → (writable e limit T rows s ≡ true) ↔ (Within 65536 4096 T rows s × Derivable e limit s (rows_of 4096 T rows))
  writable_exactly w = (
    λ h.
        let g = conclude.writable_told e limit T rows s w h in
        let t = tree_of e limit T s in
        (conclude.within e limit T rows s h, record { tree = t; bytes = bytes_of e t; object = g.0; meaning = g.1 }),
    λ h. conclude.realised_writable e limit T rows s h.0 h.1.object h.1.meaning,
  )

  -- TOLD. Such a tree is the one that the table tells.
  pub told : (d : Derivable e limit s (rows_of 4096 T rows)) → tree_of e limit T s ≡ d.tree
  told d = conclude.realised_told e limit T rows s d.object d.meaning

  -- a writable table means something
  pub writable_means : Words T → writable e limit T rows s ≡ true → Means e limit (tree_of e limit T s)
  writable_means w h =
      record { bytes = bytes_of e (tree_of e limit T s); object = (conclude.writable_told e limit T rows s w h).0; texts = conclude.writable_brief e limit T rows s w h }

  -- and has as many rows as it states
  pub writable_rows : Words T → writable e limit T rows s ≡ true → length (cells (tree_of e limit T s)) ≡ rows
  writable_rows w h = sym (counts (conclude.writable_told e limit T rows s w h).1) ∙ conclude.rows_length T rows

-- MEANING, as document 01 has it. Two writable tables, each with its text bytes and whatever limit it was judged by, mean the same in its words exactly
-- if they tell the same tree; `Same` puts a plain dict's pair order aside besides.
pub mean_same :
    (e : Edition) (limit limit' : ℕ) (T : List ℕ) (rows : ℕ) (s : List ℕ) (T' : List ℕ) (rows' : ℕ) (s' : List ℕ) → Words T → Words T'
    → writable e limit T rows s ≡ true → writable e limit' T' rows' s' ≡ true
    → MeanSame s s' (rows_of 4096 T rows) (rows_of 4096 T' rows') ↔ (tree_of e limit T s ≡ tree_of e limit' T' s')
mean_same e limit limit' T rows s T' rows' s' w w' h h' =
    let g = conclude.writable_told e limit T rows s w h in
    let g' = conclude.writable_told e limit' T' rows' s' w' h' in
    let c = same_meaning g.1 g'.1 in (
      λ z.
          let l : limit ≤ max limit limit' = omega arith in
          let l' : limit' ≤ max limit limit' = omega arith in
          let m : Realises s' 0 (rows_of 4096 T' rows') (cells (tree_of e limit T s)) = rw (c.0 z) g'.1 in
          sym (conclude.realised_told e (max limit limit') T' rows' s' (deeper g.0 (max limit limit') l) m)
          ∙ conclude.realised_told e (max limit limit') T' rows' s' (deeper g'.0 (max limit limit') l') g'.1,
      λ q. c.1 (ap cells q),
    )

-- the form of a table is that of the tree it tells
pub form_told : (e : Edition) (limit : ℕ) (T s : List ℕ) → form_of e limit T s ≡ written e (tree_of e limit T s)
unfolding form_of form_within
form_told e limit T s = refl

-- ONE FORM. Within an edition, two writable tables, each with its text bytes and whatever limit it was judged by, have the same form exactly if they
-- mean the same, a plain dict's pair order aside.
pub one_form :
    (e : Edition) (limit limit' : ℕ) (T : List ℕ) (rows : ℕ) (s : List ℕ) (T' : List ℕ) (rows' : ℕ) (s' : List ℕ) → Words T → Words T'
    → writable e limit T rows s ≡ true → writable e limit' T' rows' s' ≡ true
    → Same (tree_of e limit T s) (tree_of e limit' T' s') ↔ (form_of e limit T s ≡ form_of e limit' T' s')
unfolding form_of form_within
one_form e limit limit' T rows s T' rows' s' w w' h h' = one_form_one_meaning (writable_means e limit T rows s w h) (writable_means e limit' T' rows' s' w' h')

-- a limit that is not lower, up to 32, reads the same
read_higher :
    (e : Edition) (limit later : ℕ) (s : List ℕ) (room : ℕ) {rows : List Row} {used : ℕ} → limit ≤ later → later ≤ 32
    → message e limit s room ≡ got rows used → message e later s room ≡ got rows used
read_higher e limit later s room h k i =
    growth_of_limits e s (omega arith) h k (λ at j. let q = sym j ∙ i in let z : ◌≡◌ {A = ℕ} 0 1 = cc in omega arith)
    (λ at j. let q = sym j ∙ i in let z : ◌≡◌ {A = ℕ} 0 1 = cc in omega arith) (λ at j. let q = sym j ∙ i in let z : ◌≡◌ {A = ℕ} 0 1 = cc in omega arith)
    ∙ i

some_cell : (t : Tree) → 1 ≤ length (cells t)
unfolding cells
some_cell (leaf k p) = omega arith
some_cell (many k ts) = omega arith
some_cell (plain ps) = omega arith
some_cell (ordered ps) = omega arith

-- FROM THE READER. A table that `glyph_reader::read` made of a message that it accepted, with the message as text bytes.
module _ (e : Edition) (limit : ℕ) (s : List ℕ) (words : ℕ) {T : List ℕ} {n used : ℕ} (d : Answers (reading e limit s words) words T (accepted_as n used)) where
  -- It holds the rows that were read.
  pub read_rows : rows_of 4096 T n ≡ (accepted_read e limit s words d).rows
  unfolding rows_of
  read_rows =
      let g = accepted_read e limit s words d in
      let t = stored e limit s words d in
      let l : length T ≡ words = whole e limit s words d in
      ap (λ (w : ℕ). from (row_at (room_of 4096 w) T) 0 n) l
      ∙ ap (λ (x : List ℕ). from (row_at (room_of 4096 words) x) 0 n) t
      ∙ ap (from (row_at (room_of 4096 words) _) 0) (sym g.count)
      ∙ rows_there (room_of 4096 words) (replicate words 0) 0 g.rows (omega (arith, (derived e limit s words d).fits)) (omega (arith, length-replicate {A = ℕ} words 0))

  -- as a message of a limit that is not lower
  higher : (later : ℕ) → limit ≤ later → later ≤ 32 → Answers (reading e later s words) words T (accepted_as n used)
  unfolding reading
  higher later h k =
      let g = accepted_read e limit s words d in
      let i = read_higher e limit later s (room_of 4096 words) h k g.is in
      let j : reading e later s words ≡ reading e limit s words = i ∙ sym g.is in
      record { says = d.says ∙ ap answer_of (sym j); leaves = d.leaves ∙ ap (table_of words) (sym j) }

  -- They realise the tree that the edition derives the message with.
  pub read_derivable : Derivable e limit s (rows_of 4096 T n)
  read_derivable =
      let g = derived e limit s words d in
      record { tree = g.tree; bytes = g.root.bytes; object = g.root.object; meaning = rw read_rows g.meaning }

  read_limits : Within 65536 4096 T n s × (length read_derivable.bytes ≤ used) × (used ≤ length s)
  unfolding read_derivable
  read_limits =
      let g = derived e limit s words d in
      let r = g.root in
      let c : length (rows_of 4096 T n) ≡ n = conclude.rows_length T n in
      let m = counts read_derivable.meaning in
      let l : length T ≡ words = whole e limit s words d in
      let f : n ≤ room_of 4096 words = omega (arith, g.fits, (accepted_read e limit s words d).count) in (
        record { text = g.allowed.bytes; some_row = omega (arith, c, m, some_cell read_derivable.tree); few = omega (arith, f); there = omega (arith, f, l) },
        omega (arith, r.ends),
        omega (arith, r.ends, ap length r.is, length-append r.before (r.bytes ++ r.after), length-append r.bytes r.after),
      )

-- the same table, looked at by a limit that is not lower, up to 32
module _
    (e : Edition) (limit : ℕ) (s : List ℕ) (words : ℕ) {T : List ℕ} {n used : ℕ} (d : Answers (reading e limit s words) words T (accepted_as n used))
    (later : ℕ) (h : limit ≤ later) (k : later ≤ 32)
  where
    as_later : Derivable e later s (rows_of 4096 T n)
    as_later = read_derivable e later s words (higher e limit s words d later h k)

    -- WHAT IT TELLS is what the message means: the tree of SOUND, whatever the limit.
    pub read_told : tree_of e later T s ≡ (derived e limit s words d).tree
    unfolding as_later read_derivable
    read_told =
        told e later T n s as_later
        ∙ (one_meaning (derived e later s words (higher e limit s words d later h k)).root (derived e limit s words d).root).1

    -- IT IS WRITABLE, so never 11.
    pub read_writable : writable e later T n s ≡ true
    read_writable = conclude.realised_writable e later T n s (read_limits e limit s words d).0 as_later.object as_later.meaning

    -- ITS FORM is no longer than the bytes that the message used, so never 12.
    pub read_short : (length (form_of e later T s) ≤ used) × (used ≤ length s) × (length s ≤ 65536)
    unfolding as_later
    read_short =
        let c = higher e limit s words d later h k in
        let l : length (form_of e later T s) ≤ length as_later.bytes = rw (form_told e later T s, told e later T n s as_later) (no_longer as_later.object) in
        let m = read_limits e later s words c in
        (omega (arith, l, m.1), m.2, m.0.text)
