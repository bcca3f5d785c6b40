-- The theorems of a table's strings sent by a plan: its message is read with the table's meaning exactly if the strings are legal, and prices prove
-- that no message with that meaning is shorter. Assumes nothing.
use mathlib.Core.Path.{◌≡◌, refl, sym, ap, ◌∙◌}
use mathlib.Core.Bool.{true}
use mathlib.Core.List.{List, [], ◌++◌, append-nil}
use Prim.Native.Nat.{ℕ, ◌+◌, ◌*◌, ◌≤◌}
use native.Mathlib.Omega.{arith}
use lib.ListN.{length, drop, length-append, take-append-drop}
use lib.Seq.{length-take-le}
use Rattle.draft.specs.declared.Row.{Row}
use Rattle.draft.specs.Bytes.{Below}
use Rattle.draft.specs.Codebook.{Book}
use Rattle.draft.specs.Read.{got, message, prefix}
use Rattle.draft.specs.Grammar.{Cell, Sent, Message, Legal}
use Rattle.draft.specs.Meaning.{MeanSame, Realises}
use Rattle.draft.specs.Strings.{texts_of, costs}
use Rattle.draft.specs.Writable.{writable_within}
use Rattle.draft.specs.Written.{message_of, rows_of}
use Rattle.exact.proofs.Realising.{counts, same_meaning}
use Rattle.exact.proofs.Deriving.{message_make, sound}
use Rattle.exact.proofs.Concluding.{begins, reads, begins_once}
use Rattle.written.specs.Derivable.{DerivesRows}
use Rattle.written.proofs.Sending.{texts}
use Rattle.written.proofs.Forming.{strings, form, fixed, texts_same, items_same, form_length}
use Rattle.written.proofs.Limiting.{below_take}
use Rattle.written.proofs.Measuring.{measured}
use Rattle.written.proofs.Concluding.{meant, begins_with}
use Rattle.plans.specs.Plans.{sents_from, planned}
use Rattle.prices.specs.Prices.{total, bound}
use Rattle.planning.proofs.Positions.{message_in}
use Rattle.planning.proofs.Certified.{shortest}
use Rattle.planning.proofs.Telling.{one_way}

-- a message of rows is that of the cells that they realise
message_formed : {s : List ℕ} {xs : List Row} {cs : List Cell} → Realises s 0 xs cs → (fs : List Sent) → message_of s xs fs ≡ prefix ++ form cs fs
unfolding message_of
message_formed m fs = ap (λ (l : List ℕ). prefix ++ l) (items_same m fs)

pub message_length : {s : List ℕ} {xs : List Row} {cs : List Cell} → Realises s 0 xs cs → (fs : List Sent) → texts fs ≡ texts_of s xs → length (message_of s xs fs) ≡ 12 + fixed cs + costs fs
message_length {cs = cs} m fs e =
    omega (arith, ap length (message_formed m fs), length-append prefix (form cs fs), form_length cs fs (e ∙ texts_same m))

-- the rows of a writable table, with their strings sent in any way
module _ (bytes most deep : ℕ) (T : List ℕ) (rows : ℕ) (s : List ℕ) (b : Below 4294967296 T) (e : writable_within bytes most deep T rows s ≡ true) (fs : List Sent) (q : texts fs ≡ texts_of s (rows_of most T rows)) where
  sent_message : Message deep (message_of s (rows_of most T rows) fs) (meant bytes most deep T rows s e).0 fs
  sent_message =
      let g = meant bytes most deep T rows s e in
      rw (message_formed g.1 fs) (message_make ((g.2 b).derives fs (q ∙ texts_same g.1)))

  -- if they are legal, the message is derived
  pub sent_derived : Legal [] fs → DerivesRows deep (message_of s (rows_of most T rows) fs) s (rows_of most T rows)
  sent_derived l =
      let g = meant bytes most deep T rows s e in
      record { cells = g.0; meaning = g.1; derived = record { sents = fs; derivation = sent_message; legal = l } }

  -- with its strings sent so
  pub sent_so : (l : Legal [] fs) → (sent_derived l).derived.sents ≡ fs
  unfolding sent_derived
  sent_so l = refl

  -- if the message is read with the table's meaning, they are legal
  pub read_legal :
      (room nesting : ℕ) {others : List Row} {used : ℕ} {book : Book} → message (message_of s (rows_of most T rows) fs) room nesting ≡ got others used book
      → MeanSame s (message_of s (rows_of most T rows) fs) (rows_of most T rows) others → Legal [] fs
  read_legal room nesting {others} {used} r z =
      let m = message_of s (rows_of most T rows) fs in
      let g = sound m room nesting r in
      let h = begins m room nesting g in
      let i : (meant bytes most deep T rows s e).0 ≡ g.cells = (same_meaning (meant bytes most deep T rows s e).1 g.realises).0 z in
      let k : fs ≡ h.derived.sents = one_way [] (drop used m) sent_message h.derived.derivation i (append-nil m ∙ sym (take-append-drop used m)) in
      rw k h.derived.legal

-- prices that prove what strings cost prove that no message with the meaning is shorter
pub no_shorter :
    {s t : List ℕ} {xs ys : List Row} {cs : List Cell} (fs : List Sent) (prices : List ℕ) (room deep : ℕ) {used : ℕ} {book : Book} → Realises s 0 xs cs
    → texts fs ≡ texts_of s xs → costs fs + 256 * total prices ≤ bound prices (texts_of s xs) → Below 256 t → message t room deep ≡ got ys used book
    → MeanSame s t xs ys → (length (message_of s xs fs) ≤ used) × (used ≤ length t)
no_shorter {s} {t} {xs} {ys} {cs} fs prices room deep {used} m q p b e z =
    let g = sound t room deep e in
    let h = begins t room deep g in
    let i : cs ≡ g.cells = (same_meaning m g.realises).0 z in
    let n = measured h.derived.derivation in
    let w = message_in h.derived.derivation (below_take used b) in
    let x : texts h.derived.sents ≡ texts fs = n.same ∙ ap strings (sym i) ∙ sym (texts_same m) ∙ sym q in
    let y : costs fs ≤ costs h.derived.sents = shortest 256 prices fs (rw q p) h.derived.sents x h.derived.legal w in
    (omega (arith, message_length m fs q, n.size, ap fixed i, y, length-take-le used t h.inside), h.inside)

-- the plan's message is settled by the meaning and the plan
pub planned_same :
    {s t : List ℕ} {xs ys : List Row} {cs ds : List Cell} (plan : List ℕ) → Realises s 0 xs cs → Realises t 0 ys ds → MeanSame s t xs ys
    → planned s xs plan ≡ planned t ys plan
unfolding planned
planned_same {s} {t} {xs} {ys} {cs} {ds} plan m k z =
    let i : cs ≡ ds = (same_meaning m k).0 z in
    let e : texts_of s xs ≡ texts_of t ys = texts_same m ∙ ap strings i ∙ sym (texts_same k) in
    let fs : List Sent = sents_from plan 0 (texts_of t ys) in
    rw e (message_formed m fs ∙ ap (λ (l : List Cell). prefix ++ form l fs) i ∙ sym (message_formed k fs))

-- tables with whose meanings the same bytes are derived mean the same
pub derived_once : {d e : ℕ} {zs s t : List ℕ} {xs ys : List Row} → DerivesRows d zs s xs → DerivesRows e zs t ys → MeanSame s t xs ys
derived_once {zs = zs} g h = (same_meaning g.meaning h.meaning).1 (begins_once (zs ++ []) (begins_with [] g.derived) (begins_with [] h.derived)).1

-- what is derived is read, whatever follows, with the meaning
pub derived_reads :
    {d : ℕ} {zs s : List ℕ} {xs : List Row} → DerivesRows d zs s xs → (more : List ℕ) (room deep : ℕ) → length xs ≤ room → d ≤ deep
    → (others : List Row) × (book : Book) × (message (zs ++ more) room deep ≡ got others (length zs) book) × MeanSame s (zs ++ more) xs others
derived_reads {zs = zs} g more room deep l h =
    let r = reads (zs ++ more) room deep (begins_with more g.derived) (omega (arith, counts g.meaning)) h in
    (r.rows, r.book, r.is, (same_meaning g.meaning r.realises).1 refl)
