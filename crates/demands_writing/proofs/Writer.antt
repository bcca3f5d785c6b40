-- Demands 2 and 3, said of the writer's own answer and output: if `writer::write` answers `Ok n`, the first n bytes of the output are read
-- back with the table's meaning, are settled by it, and no message with it is shorter; and the words of the stated rows are all that is looked
-- at. `Did limit T rows s out₀ out a` is the promise of that function, as in Accepting. Assumes nothing.
use mathlib.Core.Path.{◌≡◌, refl, sym, ap, ◌∙◌}
use mathlib.Core.Bool.{true}
use mathlib.Core.Logic.{◌↔◌}
use mathlib.Core.List.{List, ◌++◌}
use Prim.Native.Nat.{ℕ, ◌*◌, ◌-◌, ◌≤◌, ◌<◌}
use native.Mathlib.Omega.{arith}
use lib.ListN.{length, take, drop, get_or, replicate, take-append-drop}
use lib.Seq.{take_at, take-take}
use Rattle.draft.specs.declared.Row.{Row}
use Rattle.draft.specs.Codebook.{Book}
use Rattle.draft.specs.Table.{room_of, place}
use Rattle.draft.specs.Read.{got, message}
use Rattle.draft.specs.Grammar.{Cell, Begins}
use Rattle.draft.specs.Meaning.{MeanSame, Realises}
use Rattle.draft.specs.Strings.{repeated, texts_of}
use Rattle.draft.specs.Limits.{allowed}
use Rattle.draft.specs.Writable.{writable_to}
use Rattle.draft.specs.Written.{written, rows_of}
use Rattle.read_answer.specs.declared.Answer.{Answer as ReaderAnswer}
use Rattle.read_answer.specs.declared.Answer.TheVariants.{Accepted}
use Rattle.read_answer.specs.Answers.{reading, table_of, Answers}
use Rattle.read_answer.specs.Answers as reader
use Rattle.write_answer.specs.Answers.{Answer}
use Rattle.std.specs.Prelude.{Ok}
use Rattle.write_answer.specs.Answers.{form_of, answer_of, Did}
use Rattle.exact.proofs.Realising.{same_meaning}
use Rattle.exact.proofs.Concluding.{reads}
use Rattle.written.specs.Derivable.{HoldAlike}
use Rattle.demands_writing.proofs.Writing.{Words, Octets, ReadsBack, reading_back, shortest, one_form, read_rows}
use Rattle.demands_writing.proofs.Accepting.{AcceptedFor, accepted_exactly, written_whole}
use Rattle.demands_writing.proofs.Rows.{writable_alike, by_words, by_columns}

-- a call that answered `Ok n`
module _ (limit : ℕ) (T : List ℕ) (rows : ℕ) (s out₀ out : List ℕ) {n : ℕ} (d : Did limit T rows s out₀ out (Ok n)) where
  accepted : AcceptedFor limit T rows s (length out₀) n
  accepted = (accepted_exactly limit T rows s (length out₀) n).0 (sym d.says)

  was_writable : writable_to limit T rows s ≡ true
  was_writable = accepted.shape

  -- THE FORM. The first n bytes of the output are the written form, so that nothing follows the message in them.
  pub first_bytes : take n out ≡ written s (rows_of 4096 T rows)
  first_bytes =
      ap (take n) (written_whole limit T rows s out₀ out d).0
      ∙ take_at (written s (rows_of 4096 T rows)) (replicate (length out₀ - n) 0) n (sym accepted.long)

  -- SHORTEST (demand 3). If at most 256 different texts stand as strings twice or more, a byte string that the draft reads with that table's
  -- meaning, with refusals 8, 9 and 10 put aside, has n bytes at least, and so have the bytes of it that are used.
  pub no_shorter :
      length (repeated (texts_of s (rows_of 4096 T rows))) ≤ 256 → (t : List ℕ) (room deep : ℕ) {others : List Row} {used : ℕ} {book : Book}
      → message t room deep ≡ got others used book → MeanSame s t (rows_of 4096 T rows) others
      → (n ≤ used) × (used ≤ length t)
  no_shorter few t room deep e z = let h = shortest limit T rows s was_writable few t room deep e z in (omega (arith, accepted.long, h.0), h.1)

  -- The same of any beginning of a byte string that the grammar derives, with whatever Strings.
  pub no_shorter_sent :
      length (repeated (texts_of s (rows_of 4096 T rows))) ≤ 256 → (t : List ℕ) {used nesting : ℕ} {cells : List Cell} → Begins t used nesting cells
      → Realises s 0 (rows_of 4096 T rows) cells → n ≤ used
  no_shorter_sent few t {used} {nesting} {cells} b m =
      let g = reads t (length cells) nesting b (omega arith) (omega arith) in
      (no_shorter few t (length cells) nesting g.is ((same_meaning m g.realises).1 refl)).0

  -- READ BACK. Any message of at most 65,536 bytes that begins with those n bytes, whatever follows, is read by `reader::read` with any limit
  -- that is not lower, up to 32, into any table with room for the rows, with as many rows and n bytes used; and the rows that it leaves mean the same as the table that was written.
  pub read_back :
      Words T → (later : ℕ) → limit ≤ later → allowed later ≡ true → (t : List ℕ) (words : ℕ) {T' : List ℕ} {a : ReaderAnswer} → take n t ≡ take n out → length t ≤ 65536 → rows ≤ room_of 4096 words
      → Answers (reading later t words) words T' a
      → (a ≡ Accepted rows n) × MeanSame s t (rows_of 4096 T rows) (rows_of 4096 T' rows)
  read_back w later f i t words {T'} {a} b l k c =
      let e : t ≡ written s (rows_of 4096 T rows) ++ drop n t = sym (take-append-drop n t) ∙ ap (λ (x : List ℕ). x ++ drop n t) (b ∙ first_bytes) in
      let g : ReadsBack (reading later t words) t n rows s (rows_of 4096 T rows) =
      rw (accepted.long, e) (reading_back limit T rows s was_writable w later f i (drop n t) words (rw e at l) k) in
      let m : T' ≡ table_of words (got g.back n g.book) = c.leaves ∙ ap (table_of words) g.is in
      let r : rows_of 4096 T' rows ≡ g.back =
      ap (λ (x : List ℕ). rows_of 4096 x rows) m ∙ ap (rows_of 4096 (table_of words (got g.back n g.book))) (sym g.as_many) ∙ read_rows later t words g.is in
      (c.says ∙ ap reader.answer_of g.is ∙ ap (λ (k : ℕ). Accepted k n) g.as_many, rw r g.same)

  -- READ BACK, the n bytes by themselves.
  pub read_back_alone :
      Words T → (later : ℕ) → limit ≤ later → allowed later ≡ true → (words : ℕ) {T' : List ℕ} {a : ReaderAnswer} → rows ≤ room_of 4096 words
      → Answers (reading later (take n out) words) words T' a
      → (a ≡ Accepted rows n) × MeanSame s (take n out) (rows_of 4096 T rows) (rows_of 4096 T' rows)
  read_back_alone w later f i words k c =
      read_back w later f i (take n out) words (take-take n n out (omega arith)) (omega (arith, ap length first_bytes, accepted.most, accepted.long)) k c

-- ONE FORM. Two accepted calls wrote the same bytes exactly if the tables, each with its text bytes, mean the same, however many texts repeat.
pub same_bytes :
    (limit limit' : ℕ) (T T' : List ℕ) (rows rows' : ℕ) (s s' out₀ out₁ out out' : List ℕ) {n n' : ℕ} → Words T → Words T'
    → Did limit T rows s out₀ out (Ok n) → Did limit' T' rows' s' out₁ out' (Ok n')
    → MeanSame s s' (rows_of 4096 T rows) (rows_of 4096 T' rows') ↔ (take n out ≡ take n' out')
same_bytes limit limit' T T' rows rows' s s' out₀ out₁ out out' w w' d d' =
    rw (first_bytes limit T rows s out₀ out d, first_bytes limit' T' rows' s' out₁ out' d')
    (one_form limit limit' T rows s T' rows' s' w w' (was_writable limit T rows s out₀ out d) (was_writable limit' T' rows' s' out₁ out' d'))

-- Two calls, with tables of whatever lengths that both hold the stated rows, or neither does; with one limit, one stated number of rows, the same
-- text bytes and equally long outputs.
module _
    (limit : ℕ) (T T' : List ℕ) (rows : ℕ) (s out₀ out₁ out out' : List ℕ) {a a' : Answer} (w : Words T) (w' : Words T') (o : Octets s)
    (hold : HoldAlike rows T T') (l : length out₀ ≡ length out₁) (d : Did limit T rows s out₀ out a) (d' : Did limit T' rows s out₁ out' a')
  where
    -- THE STATED ROWS ALONE. If their stated rows are the same, the calls answer alike and leave the same bytes.
    pub stated_rows : rows_of 4096 T rows ≡ rows_of 4096 T' rows → (a ≡ a') × (out ≡ out')
    unfolding answer_of form_of
    stated_rows same =
        let e : a ≡ a' = d.says ∙ rw (l, writable_alike limit T T' rows s w w' o hold same, same) (sym d'.says) in
        (e, d.leaves ∙ rw (e, l, same) (sym d'.leaves))

    -- NO OTHER WORD. So they do if each word of each stated row, at its place by its own table's room, is the same in both, whatever the other words
    -- are.
    pub stated_words :
        ((r j : ℕ) → r < rows → j < 4 → get_or T (place (room_of 4096 (length T)) r j) 0 ≡ get_or T' (place (room_of 4096 (length T')) r j) 0)
        → (a ≡ a') × (out ≡ out')
    stated_words h = stated_rows (by_words T T' rows h)

    -- PAST THE STATED ROWS IN NO COLUMN. So they do if each column, c words from c * j on in a table with room for c rows, begins with the same words for
    -- the stated rows: neither what follows them in a column, nor how long the columns are, nor what follows the columns is looked at.
    pub stated_columns :
        ((j : ℕ) → j < 4 → take rows (drop (room_of 4096 (length T) * j) T) ≡ take rows (drop (room_of 4096 (length T') * j) T'))
        → (a ≡ a') × (out ≡ out')
    stated_columns h = stated_rows (by_columns T T' rows h)
