-- The theorems of a whole table, from walking, fitting and the least cost. Assumes nothing.
use mathlib.Core.Path.{◌≡◌, refl, sym, ap, ◌∙◌}
use mathlib.Core.Bool.{true}
use mathlib.Core.Logic.{◌↔◌}
use mathlib.Core.List.{List, [], ◌++◌}
use Prim.Native.Nat.{ℕ, ◌+◌, ◌*◌, ◌≤◌}
use native.Mathlib.Omega.{arith}
use lib.Dec.{leb}
use lib.ListN.{length, length-append}
use lib.Seq.{take-append_seam}
use borrow.Author.Tests.{leb-true, le-leb, eq-eqb}
use Rattle.std.proofs.Common.{Some}
use Rattle.text.proofs.Comparing.{both}
use Rattle.draft.specs.declared.Row.{Row}
use Rattle.draft.specs.Bytes.{Below}
use Rattle.draft.specs.Table.{room_of, row_at}
use Rattle.draft.specs.Codebook.{Book}
use Rattle.draft.specs.Read.{got, message}
use Rattle.draft.specs.Grammar.{Cell, Sent, Message, call_message, response_message, call, value_response, fault_response, Derives, Begins}
use Rattle.draft.specs.Meaning.{MeanSame, Realises}
use Rattle.draft.specs.Strings.{repeated, texts_of, plan}
use Rattle.draft.specs.Writable.{call_or_response, writable_within}
use Rattle.draft.specs.Written.{written, rows_of}
use Rattle.exact.proofs.Standing.{ends}
use Rattle.exact.proofs.Realising.{counts, same_meaning}
use Rattle.exact.proofs.Deriving.{CallOrResponse, message_make, sound}
use Rattle.exact.proofs.Concluding.{begins_once}
use Rattle.written.specs.Derivable.{DerivesRows, Within}
use Rattle.written.proofs.Sending.{plan_texts, plan_legal}
use Rattle.written.proofs.Forming.{strings, formed, fixed, texts_same, written_formed, formed_length}
use Rattle.written.proofs.Limiting.{below_at}
use Rattle.written.proofs.Standing.{stands_realises, realises_stands, from_length}
use Rattle.written.proofs.Measuring.{measured, kept}
use Rattle.written.proofs.Planning.{plan_least}
use Rattle.written.proofs.Bounding.{cells_below, formed_below}
use Rattle.written.proofs.Tests.{wholly_by}
use Rattle.written.proofs.Walking.{Writes, walked}
use Rattle.written.proofs.Fitting.{message_fits}

pub rows_length : (most : ℕ) (T : List ℕ) (rows : ℕ) → length (rows_of most T rows) ≡ rows
unfolding rows_of
rows_length most T rows = from_length (row_at (room_of most (length T)) T) 0 rows

-- a form that is derived
formed_derives : {d : ℕ} {cs : List Cell} → Writes (CallOrResponse d) cs → Derives d (formed cs) cs
formed_derives {d} {cs} w =
    record {
      sents = plan (strings cs);
      derivation = message_make (w.derives (plan (strings cs)) (plan_texts (strings cs)));
      legal = plan_legal (strings cs);
    }

-- the rows of a table by their numbers
abbrev row_in : ℕ → List ℕ → ℕ → Row
row_in most T = row_at (room_of most (length T)) T

module _ (bytes most deep : ℕ) (T : List ℕ) (rows : ℕ) (s : List ℕ) where
  tests : writable_within bytes most deep T rows s ≡ true → Within bytes most T rows s × (call_or_response (row_in most T) rows s deep 0 ≡ Some rows)
  unfolding writable_within
  tests e =
      let f = both (leb (length s) bytes) _ e in
      let g = both (leb 1 rows) _ f.1 in
      let h = both (leb rows most) _ g.1 in
      let i = both (leb (rows * 4) (length T)) _ h.1 in (
        record {
          text = omega (arith, leb-true (length s) bytes f.0);
          some_row = omega (arith, leb-true 1 rows g.0);
          few = omega (arith, leb-true rows most h.0);
          there = omega (arith, leb-true (rows * 4) (length T) i.0);
        },
        wholly_by rows _ i.1,
      )

  pub within : writable_within bytes most deep T rows s ≡ true → Within bytes most T rows s
  within e = (tests e).0

  -- a writable table has a meaning, and its written form is derived with that meaning if it holds words of 32 bits
  pub meant :
      writable_within bytes most deep T rows s ≡ true
      → (cells : List Cell) × Realises s 0 (rows_of most T rows) cells × (Below 4294967296 T → Writes (CallOrResponse deep) cells)
  unfolding rows_of row_at
  meant e =
      let g = walked (row_in most T) rows s deep 0 rows (tests e).1 in
      let i : length g.cells ≡ rows = omega (arith, g.ends) in
      (g.cells, rw i at (stands_realises g.stands), λ b. g.writes (λ r. (below_at _ (omega arith) b, below_at _ (omega arith) b)))

  pub writable_means : writable_within bytes most deep T rows s ≡ true → (cells : List Cell) × Realises s 0 (rows_of most T rows) cells
  writable_means e = ((meant e).0, (meant e).1)

  pub writable_derived :
      Below 4294967296 T → writable_within bytes most deep T rows s ≡ true → DerivesRows deep (written s (rows_of most T rows)) s (rows_of most T rows)
  writable_derived b e =
      let g = meant e in
      record { cells = g.0; meaning = g.1; derived = rw (written_formed g.1) (formed_derives (g.2 b)) }

  -- rows with a meaning that is derived in bytes are writable
  pub derived_writable : {xs : List ℕ} → Within bytes most T rows s → DerivesRows deep xs s (rows_of most T rows) → Below 256 xs → writable_within bytes most deep T rows s ≡ true
  unfolding writable_within rows_of
  derived_writable w g b =
      let d = g.derived in
      let n : length g.cells ≡ rows = sym (counts g.meaning) ∙ rows_length most T rows in
      let h = message_fits (row_in most T) rows s d.derivation b (kept d.legal (measured d.derivation).honest) in
      let e : call_or_response (row_in most T) rows s deep 0 ≡ Some (0 + length g.cells) = h.walks 0 (realises_stands rows g.meaning) (omega (arith, n)) in
      let i : call_or_response (row_in most T) rows s deep 0 ≡ Some rows = e ∙ ap Some (omega (arith, n)) in
      let a : leb (length s) bytes ≡ true = le-leb (length s) bytes (omega (arith, w.text)) in
      let c : leb 1 rows ≡ true = le-leb 1 rows (omega (arith, w.some_row)) in
      let f : leb rows most ≡ true = le-leb rows most (omega (arith, w.few)) in
      let t : leb (rows * 4) (length T) ≡ true = le-leb (rows * 4) (length T) (omega (arith, w.there)) in
      rw (a, c, f, t, i) (eq-eqb rows rows refl)

-- the written form is bytes
pub written_below : {s : List ℕ} {xs : List Row} {cs : List Cell} → Below 256 s → Realises s 0 xs cs → Below 256 (written s xs)
written_below b m = rw (written_formed m) (formed_below (cells_below b m))

-- what is derived begins whatever it stands before
pub begins_with : {d : ℕ} {xs : List ℕ} {cs : List Cell} (more : List ℕ) → Derives d xs cs → Begins (xs ++ more) (length xs) d cs
begins_with {d} {xs} more h = record { inside = omega (arith, length-append xs more); derived = rw (take-append_seam xs more) h }

-- no message with that meaning is shorter
pub no_shorter :
    {s t : List ℕ} {xs ys : List Row} {cs : List Cell} (room deep : ℕ) {used : ℕ} {book : Book} → Realises s 0 xs cs
    → length (repeated (texts_of s xs)) ≤ 256 → message t room deep ≡ got ys used book → MeanSame s t xs ys → (length (written s xs) ≤ used) × (used ≤ length t)
no_shorter {s} {t} {xs} {ys} {cs} room deep {used} m few e z =
    let g = sound t room deep e in
    let i : cs ≡ g.cells = (same_meaning m g.realises).0 z in
    let h = measured g.derives in
    let f : length (repeated (strings cs)) ≤ 256 = rw (texts_same m) at few in
    let l = plan_least (strings cs) f g.sents (h.same ∙ ap strings (sym i)) g.legal in
    let n : length (written s xs) ≡ length (formed cs) = ap length (written_formed m) in
    (omega (arith, n, formed_length cs, h.size, ap fixed i, l, g.ends), omega (arith, g.ends, ends g.here))

-- rows whose written forms are derived have the same form exactly if they mean the same
pub same_form :
    {d e : ℕ} {s t : List ℕ} {xs ys : List Row} → DerivesRows d (written s xs) s xs → DerivesRows e (written t ys) t ys
    → MeanSame s t xs ys ↔ (written s xs ≡ written t ys)
same_form {d} {e} {s} {t} {xs} {ys} g h = (there, back)
  where
    there : MeanSame s t xs ys → written s xs ≡ written t ys
    there z = written_formed g.meaning ∙ ap formed ((same_meaning g.meaning h.meaning).0 z) ∙ sym (written_formed h.meaning)

    back : written s xs ≡ written t ys → MeanSame s t xs ys
    back z =
        let b = begins_with [] h.derived in
        let c = begins_with [] g.derived in
        (same_meaning g.meaning h.meaning).1 (begins_once (written t ys ++ []) (rw z at c) b).1

-- a message has a row
pub some_cell : {d : ℕ} {xs : List ℕ} {cs : List Cell} → Derives d xs cs → 1 ≤ length cs
some_cell h = go h.derivation
  where
    go : {d : ℕ} {xs : List ℕ} {cs : List Cell} {fs : List Sent} → Message d xs cs fs → 1 ≤ length cs
    go (call_message (call x y e m) i) = omega arith
    go (response_message (value_response v m) i) = omega arith
    go (response_message (fault_response x m) i) = omega arith
