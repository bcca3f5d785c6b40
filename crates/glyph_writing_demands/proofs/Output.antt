-- The bytes that the glyph writer leaves: if it answers `Written n`, the first n are the form, are read back with the table's meaning, and are settled
-- by it; and the words of the stated rows are all that is looked at. `Did` and `Answers` are as in Writer. Assumes nothing.
use mathlib.Core.Path.{◌≡◌, refl, sym, ap, ◌∙◌}
use mathlib.Core.Bool.{Bool, true, false}
use mathlib.Core.Logic.{◌↔◌}
use mathlib.Core.List.{List, [], ◌++◌}
use Prim.Native.Nat.{ℕ, ◌+◌, ◌*◌, ◌-◌, ◌≤◌, ◌<◌}
use native.Mathlib.Omega.{arith}
use lib.Dec.{leb}
use lib.ListN.{length, take, drop, get_or, replicate, take-append-drop}
use lib.Seq.{take_at, get_or-take, get_or-drop}
use Rattle.std.proofs.Common.{Ok, Err}
use Rattle.draft.specs.declared.Refusal.{Refusal}
use Rattle.draft.specs.declared.Refusal.TheVariants.{TooLong, NotWritable, NoLimit}
use Rattle.draft.specs.Limits.{allowed}
use Rattle.draft.specs.Table.{room_of, place, row_at}
use Rattle.draft.specs.Written.{rows_of}
use Rattle.draft.proofs.Limiting.{limit_least, limit_most}
use Rattle.exact.proofs.Realising.{counts}
use Rattle.written.specs.Derivable.{HoldAlike}
use Rattle.written.proofs.Standing.{from_same}
use Rattle.written.proofs.Tests.{agreeing}
use Rattle.glyph.specs.declared.Edition.{Edition}
use Rattle.glyph.specs.Tree.{Tree, cells}
use Rattle.glyph.specs.Grammar.{Blanks, no_blanks, Root}
use Rattle.glyph.specs.Answers as reader
use Rattle.glyph.specs.Answers.{Answer as ReaderAnswer, accepted_as, reading, Answers}
use Rattle.glyph_demands.proofs.Reading.{complete, one_meaning}
use Rattle.glyph_demands.proofs.Settled.{derived}
use Rattle.glyph_form.specs.Writable.{writable}
use Rattle.glyph_form.specs.Form.{canon, written, form_of, form_within}
use Rattle.glyph_form.specs.Answers.{given, answer_of, Did, Answer}
use Rattle.glyph_order.specs.Same.{Same}
use Rattle.glyph_back.proofs.Back.{read_back as read-form}
use Rattle.glyph_back.proofs.Sizes.{size}
use Rattle.glyph_told.proofs.Deeper.{deeper}
use Rattle.glyph_told.specs.Tables.{Words, tree_of, Derivable}
use Rattle.glyph_written.proofs.Back.{Means, read_back_same}
use Rattle.glyph_writing_demands.specs.Accepting.{AcceptedFor}
use Rattle.glyph_writing_demands.proofs.Tables.{writable_exactly, told, writable_means, writable_rows, form_told, one_form, read_told}
use Rattle.glyph_writing_demands.proofs.Writer.{accepted_exactly, written_whole}

-- what a table tells that was made of a message with this meaning
read_of :
    (e : Edition) (limit : ℕ) (u : List ℕ) (words : ℕ) {T : List ℕ} {n used used' : ℕ} {t : Tree} → limit ≤ 32 → Root e limit u used' t
    → Answers (reading e limit u words) words T (accepted_as n used) → tree_of e limit T u ≡ t
read_of e limit u words h g c = read_told e limit u words c limit (omega arith) h ∙ (one_meaning (derived e limit u words c).root g).1

-- the form of what an edition derives, with blanks behind it or not, read with a limit that is not lower into a table with room
form_read :
    {e : Edition} {limit : ℕ} {t : Tree} → Means e limit t → (after : List ℕ) → Blanks after → (u : List ℕ) → u ≡ written e t ++ after → length u ≤ 65536
    → (later : ℕ) → limit ≤ later → allowed later ≡ true → (words : ℕ) {rows : ℕ} {T' : List ℕ} {a : ReaderAnswer} → length (cells t) ≡ rows
    → rows ≤ room_of 4096 words → Answers (reading e later u words) words T' a → (a ≡ accepted_as rows (length (written e t))) × Same t (tree_of e later T' u)
unfolding reading
form_read {e} {limit} {t} m after b u is l later h i words {rows} {T'} {a} r k c =
    let f = limit_most later i in
    let g : Root e later u (length (written e t)) (canon t) =
    record { before = []; bytes = written e t; after = after; blanks_before = no_blanks; object = deeper (read-form m.object m.texts) later h; blanks_after = b; is = is; ends = omega arith } in
    let x = complete (room_of 4096 words) g (record { least = limit_least later i; most = f; bytes = l }) (omega (arith, size t, r, k)) in
    let z : length x.rows ≡ rows = counts x.meaning ∙ size t ∙ r in
    let q : a ≡ accepted_as rows (length (written e t)) = c.says ∙ ap reader.answer_of x.is ∙ ap (λ (n : ℕ). accepted_as n (length (written e t))) z in
    let v : tree_of e later T' u ≡ canon t = read_of e later u words f g (rw q at c) in
    (q, rw v (read_back_same m))

-- a call that answered `Written n`
module _ (e : Edition) (limit : ℕ) (T : List ℕ) (rows : ℕ) (s out₀ out : List ℕ) {n : ℕ} (d : Did e limit T rows s out₀ out (Ok n)) where
  accepted : AcceptedFor e limit T rows s (length out₀) n
  accepted = (accepted_exactly e limit T rows s (length out₀) n).0 (sym d.says)

  pub was_writable : writable e limit T rows s ≡ true
  was_writable = accepted.shape

  -- THE FORM. The first n bytes of the output are the written form of the tree that the table tells.
  pub first_bytes : take n out ≡ written e (tree_of e limit T s)
  unfolding form_of form_within
  first_bytes =
      ap (take n) (written_whole e limit T rows s out₀ out d).0 ∙ take_at (form_of e limit T s) (replicate (length out₀ - n) 0) n (sym accepted.long)

  form_long : n ≡ length (written e (tree_of e limit T s))
  form_long = accepted.long ∙ ap length (form_told e limit T s)

  -- READ BACK. Any message of at most 65,536 bytes that is those n bytes, with blanks behind them or not, is read by `glyph_reader::read` in the same
  -- edition, with any limit that is not lower, up to 32, into any table with room for the rows, with as many rows and n bytes used; and the table that
  -- it leaves tells the same, a plain dict's pair order aside.
  pub read_back :
      Words T → (later : ℕ) → limit ≤ later → allowed later ≡ true → (t : List ℕ) (words : ℕ) {T' : List ℕ} {a : ReaderAnswer} → take n t ≡ take n out
      → Blanks (drop n t) → length t ≤ 65536 → rows ≤ room_of 4096 words → Answers (reading e later t words) words T' a
      → (a ≡ accepted_as rows n) × Same (tree_of e limit T s) (tree_of e later T' t)
  read_back w later h i t words {T'} {a} f b l k c =
      let m = writable_means e limit T rows s w was_writable in
      let q : t ≡ written e (tree_of e limit T s) ++ drop n t = sym (take-append-drop n t) ∙ ap (λ (x : List ℕ). x ++ drop n t) (f ∙ first_bytes) in
      let g = form_read m (drop n t) b t q l later h i words (writable_rows e limit T rows s w was_writable) k c in
      (g.0 ∙ ap (accepted_as rows) (sym form_long), g.1)

-- ONE FORM. Two accepted calls in one edition wrote the same bytes exactly if the tables, each with its text bytes, mean the same, a plain dict's pair
-- order aside.
pub same_bytes :
    (e : Edition) (limit limit' : ℕ) (T T' : List ℕ) (rows rows' : ℕ) (s s' out₀ out₁ out out' : List ℕ) {n n' : ℕ} → Words T → Words T'
    → Did e limit T rows s out₀ out (Ok n) → Did e limit' T' rows' s' out₁ out' (Ok n')
    → Same (tree_of e limit T s) (tree_of e limit' T' s') ↔ (take n out ≡ take n' out')
unfolding form_of form_within
same_bytes e limit limit' T T' rows rows' s s' out₀ out₁ out out' w w' d d' =
    rw (first_bytes e limit T rows s out₀ out d, first_bytes e limit' T' rows' s' out₁ out' d')
    (one_form e limit limit' T rows s T' rows' s' w w' (was_writable e limit T rows s out₀ out d) (was_writable e limit' T' rows' s' out₁ out' d'))

-- the answer for a table that is not writable
abbrev unwritten : Bool → Bool → Answer
unwritten l x = given l NoLimit (given x TooLong (Err NotWritable))

unwritten_refuses : (l x : Bool) → (m : Refusal) × (unwritten l x ≡ Err m)
unwritten_refuses false x = (NoLimit, refl)
unwritten_refuses true false = (TooLong, refl)
unwritten_refuses true true = (NotWritable, refl)

-- a table with the rows of a writable one is writable, and tells the same
writable_over :
    (e : Edition) (limit : ℕ) (T T' : List ℕ) (rows : ℕ) (s : List ℕ) → Words T → Words T' → (rows * 4 ≤ length T → rows * 4 ≤ length T')
    → rows_of 4096 T rows ≡ rows_of 4096 T' rows → writable e limit T rows s ≡ true → (writable e limit T' rows s ≡ true) × (tree_of e limit T s ≡ tree_of e limit T' s)
writable_over e limit T T' rows s w w' over same h =
    let g = (writable_exactly e limit T rows s w).0 h in
    let f = g.1 in
    let c : Derivable e limit s (rows_of 4096 T' rows) = record { tree = f.tree; bytes = f.bytes; object = f.object; meaning = rw same at f.meaning } in
    let l = g.0 in (
      (writable_exactly e limit T' rows s w').1 (record { text = l.text; some_row = l.some_row; few = l.few; there = over l.there }, c),
      told e limit T rows s f ∙ sym (told e limit T' rows s c),
    )

-- Two calls, with tables of whatever lengths that both hold the stated rows, or neither does; in one edition, with one limit, one stated number of rows,
-- the same text bytes and equally long outputs.
module _
    (e : Edition) (limit : ℕ) (T T' : List ℕ) (rows : ℕ) (s out₀ out₁ out out' : List ℕ) {a a' : Answer} (w : Words T) (w' : Words T')
    (hold : HoldAlike rows T T') (l : length out₀ ≡ length out₁) (d : Did e limit T rows s out₀ out a) (d' : Did e limit T' rows s out₁ out' a')
  where
    -- THE STATED ROWS ALONE. If their stated rows are the same, the calls answer alike and leave the same bytes.
    pub stated_rows : rows_of 4096 T rows ≡ rows_of 4096 T' rows → (a ≡ a') × (out ≡ out')
    unfolding answer_of form_of form_within
    stated_rows same = go (writable e limit T rows s) refl
      where
        v : writable e limit T rows s ≡ writable e limit T' rows s
        v = agreeing (writable e limit T rows s) (writable e limit T' rows s) (λ h. (writable_over e limit T T' rows s w w' hold.0 same h).0) (λ h. (writable_over e limit T' T rows s w' w hold.1 (sym same) h).0)

        go : (b : Bool) → writable e limit T rows s ≡ b → (a ≡ a') × (out ≡ out')
        go true h =
            let t = (writable_over e limit T T' rows s w w' hold.0 same h).1 in
            let q : a ≡ a' = d.says ∙ rw (l, v, t) (sym d'.says) in
            (q, d.leaves ∙ rw (q, l, t) (sym d'.leaves))
        go false h =
            let u = unwritten_refuses (allowed limit) (leb (length s) 65536) in
            let q : a ≡ Err u.0 = d.says ∙ rw h u.1 in
            let q' : a' ≡ Err u.0 = d'.says ∙ rw (← v, h) u.1 in
            (q ∙ sym q', d.leaves ∙ rw (q, l) (sym (d'.leaves ∙ rw q')))

    -- NO OTHER WORD. So they do if each word of each stated row, at its place by its own table's room, is the same in both, whatever the other words
    -- are.
    pub stated_words :
        ((r j : ℕ) → r < rows → j < 4 → get_or T (place (room_of 4096 (length T)) r j) 0 ≡ get_or T' (place (room_of 4096 (length T')) r j) 0)
        → (a ≡ a') × (out ≡ out')
    unfolding rows_of row_at
    stated_words h =
        stated_rows
        (from_same (row_at (room_of 4096 (length T)) T) (row_at (room_of 4096 (length T')) T') 0 rows
        (λ r k. rw (h r 0 (omega arith) (omega arith), h r 1 (omega arith) (omega arith), h r 2 (omega arith) (omega arith), h r 3 (omega arith) (omega arith))))

    -- PAST THE STATED ROWS IN NO COLUMN (E12). So they do if each column, c words from c * j on in a table with room for c rows, begins with the same
    -- words for the stated rows: neither what follows them in a column, nor how long the columns are, nor what follows the columns is looked at.
    pub stated_columns :
        ((j : ℕ) → j < 4 → take rows (drop (room_of 4096 (length T) * j) T) ≡ take rows (drop (room_of 4096 (length T') * j) T'))
        → (a ≡ a') × (out ≡ out')
    unfolding place
    stated_columns h =
        stated_words
        (λ r j k i. column_word T (room_of 4096 (length T) * j) r k ∙ ap (λ (x : List ℕ). get_or x r 0) (h j i) ∙ sym (column_word T' (room_of 4096 (length T') * j) r k))
      where
        -- word r of the column from word f on, of the first `rows`
        column_word : (U : List ℕ) (f r : ℕ) → r < rows → get_or U (f + r) 0 ≡ get_or (take rows (drop f U)) r 0
        column_word U f r k = sym (get_or-drop f U r 0) ∙ sym (get_or-take rows (drop f U) r 0 k)
