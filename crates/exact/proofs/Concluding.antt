-- The theorems of a whole message, from completeness, soundness and growth. Assumes nothing.
use mathlib.Core.Path.{◌≡◌, refl, sym, ap, ◌∙◌}
use mathlib.Core.Bool.{Bool, true, false, cond}
use mathlib.Core.Logic.{◌≢◌}
use mathlib.Core.List.{List, []}
use Prim.Native.Nat.{ℕ, ◌≤◌, ◌<◌, max}
use native.Mathlib.Omega.{arith}
use lib.Dec.{leb}
use lib.ListN.{length, take}
use lib.Seq.{length-take-le}
use borrow.Author.Tests.{leb-true, leb-false, le-leb}
use Rattle.text.proofs.Comparing.{clash}
use Rattle.draft.specs.declared.Refusal.{Refusal}
use Rattle.draft.specs.declared.Refusal.TheVariants.{Ended, TooDeep, NoRow, TooLong}
use Rattle.draft.specs.declared.Row.{Row}
use Rattle.draft.specs.Refusals.{number_of}
use Rattle.draft.specs.Codebook.{Book}
use Rattle.draft.specs.Read.{Reading, got, refused, message, message_within}
use Rattle.draft.specs.Grammar.{Cell, Begins, Message, Recording, after}
use Rattle.exact.proofs.Standing.{ends, part_here, bytes_at_lem}
use Rattle.exact.proofs.Realising.{one_meaning}
use Rattle.exact.proofs.Completing.{Reads, complete}
use Rattle.exact.proofs.Deriving.{refused_got, Derived}
use Rattle.exact.proofs.Growing.{Raised, both, little_nesting, little_room, few_bytes, OfReading, Stays, accepts, refuses, changes, no_longer, message_grows, message_stays}

-- what stays when there is more
stays_got : {more : Bool} {s s' : List ℕ} {o o' : Reading} → Stays more both s s' o o' → {rows : List Row} {to : ℕ} {book : Book} → o ≡ got rows to book → o' ≡ got rows to book
stays_got accepts e = e
stays_got (refuses h) e = refused_got e
stays_got (changes h) e = refused_got e

pub stays_but :
    {more : Bool} {s s' : List ℕ} {o o' : Reading} → Stays more both s s' o o' → (more ≡ true → (p : ℕ) → o ≢ refused Ended p) → ((p : ℕ) → o ≢ refused TooDeep p)
    → ((p : ℕ) → o ≢ refused NoRow p) → o' ≡ o
stays_but accepts e f g = refl
stays_but (refuses h) e f g = refl
stays_but (changes {at = p} (little_nesting i)) e f g = absurd (f p refl)
stays_but (changes {at = p} (little_room i)) e f g = absurd (g p refl)
stays_but (changes {at = p} (few_bytes h w)) e f g = absurd (e h p refl)

says : {s s' : List ℕ} {o o' : Reading} → Stays false both s s' o o' → {m : Refusal} {p : ℕ} → o ≡ refused m p → OfReading m
says accepts e = refused_got (sym e)
says (refuses {m = n} h) {m} e = let i : n ≡ m = cc in rw i at h
says (changes (little_nesting h)) {m} e = let i : TooDeep ≡ m = cc in rw (← i) tt
says (changes (little_room h)) {m} e = let i : NoRow ≡ m = cc in rw (← i) tt
says (changes (few_bytes h w)) e = clash h refl

-- a refusal stays with the limits raised that it does not speak of
stays_refused :
    {limits : Raised} {s s' : List ℕ} {o o' : Reading} → Stays false limits s s' o o' → {m : Refusal} {p : ℕ} → o ≡ refused m p
    → (limits.nesting ≡ true → number_of m ≢ 8) → (limits.room ≡ true → number_of m ≢ 9) → o' ≡ refused m p
stays_refused accepts e f g = refused_got (sym e)
stays_refused (refuses h) e f g = e
stays_refused (changes (little_nesting h)) {m} e f g = let i : TooDeep ≡ m = cc in absurd (f h (ap number_of (sym i)))
stays_refused (changes (little_room h)) {m} e f g = let i : NoRow ≡ m = cc in absurd (g h (ap number_of (sym i)))
stays_refused (changes (few_bytes h w)) e f g = clash h refl

module _ (s : List ℕ) where
  -- no test of the number of bytes, no 10
  pub of_reading : (room deep : ℕ) {m : Refusal} {p : ℕ} → message s room deep ≡ refused m p → OfReading m
  of_reading room deep e = says (message_stays s s room room (no_longer s) (omega arith) deep deep (omega arith)) e

  -- what a message begins with is read, with no less room and nesting
  pub reads :
      (room deep : ℕ) {used d : ℕ} {cs : List Cell} (b : Begins s used d cs) → length cs ≤ room → d ≤ deep
      → Reads s (message s room deep) 0 cs used (after [] b.derived.sents)
  reads room deep {used} {d} {cs} b k i =
      let g = complete b.derived.derivation b.derived.legal s room (bytes_at_lem s 0 used (omega (arith, b.inside))) k in
      let e : length (take used s) ≡ used = length-take-le used s b.inside in
      record {
        rows = g.rows;
        book = g.book;
        is = stays_got (message_stays s s room room (no_longer s) (omega arith) d deep i) (rw e at g.is);
        realises = g.realises;
        agrees = g.agrees;
      }

  -- what is read, a message begins with
  pub begins :
      (room deep : ℕ) {rows : List Row} {used : ℕ} {book : Book} (g : Derived (Message deep) s room 0 0 [] rows used book)
      → Begins s used deep g.cells
  begins room deep {used = used} g =
      let i : used ≡ length g.used = omega (arith, g.ends) in
      let e : take used s ≡ g.used = part_here g.here i in
      record { inside = omega (arith, ends g.here); derived = record { sents = g.sents; derivation = rw e g.derives; legal = g.legal } }

  -- a reading has one meaning and one end
  reads_once : {o : Reading} {n n' : ℕ} {cs ds : List Cell} {R R' : List Recording} → Reads s o 0 cs n R → Reads s o 0 ds n' R' → (n ≡ n') × (cs ≡ ds)
  reads_once {n = n} {n'} g k =
      let e : g.rows ≡ k.rows = cc (g.is, k.is) in
      let i : n ≡ n' = cc (g.is, k.is) in
      (i, one_meaning g.realises (rw (← e) at k.realises))

  pub begins_once : {n n' d d' : ℕ} {cs ds : List Cell} → Begins s n d cs → Begins s n' d' ds → (n ≡ n') × (cs ≡ ds)
  begins_once {d = d} {d'} {cs} {ds} b c =
      let room = max (length cs) (length ds) in
      reads_once (reads room (max d d') b (omega arith) (omega arith)) (reads room (max d d') c (omega arith) (omega arith))

  -- a refusal, with the limits raised that it does not speak of, still is one, so nothing is derived within these
  within_raised :
      (limits : Raised) (room room' deep deep' : ℕ) {m : Refusal} {p : ℕ} → message s room deep ≡ refused m p → room ≤ room'
      → (limits.room ≡ false → room' ≤ room) → deep ≤ deep' → (limits.nesting ≡ false → deep' ≤ deep) → (limits.nesting ≡ true → number_of m ≢ 8)
      → (limits.room ≡ true → number_of m ≢ 9) → {used d : ℕ} {cs : List Cell} → Begins s used d cs → length cs ≤ room' → d ≤ deep' → ⊥
  within_raised limits room room' deep deep' e i i' k k' f g b fits nests =
      let t = message_grows limits s s room room' (no_longer s) i i' deep deep' k k' in
      refused_got (sym (stays_refused t e f g) ∙ (reads room' deep' b fits nests).is)

  -- a refusal other than 8 and 9
  pub underived :
      (room deep : ℕ) {m : Refusal} {p : ℕ} → message s room deep ≡ refused m p → number_of m ≢ 8 → number_of m ≢ 9 → {used d : ℕ} {cs : List Cell}
      → Begins s used d cs → ⊥
  underived room deep e f g {used} {d} {cs} b =
      within_raised both room (max room (length cs)) deep (max deep d) e (omega arith) (λ h. clash refl h) (omega arith) (λ h. clash refl h)
      (λ h. f) (λ h. g) b (omega arith) (omega arith)

  -- 8, or any refusal but 9: with more room it stays, so what is derived nests deeper
  pub too_deep :
      (room deep : ℕ) {m : Refusal} {p : ℕ} → message s room deep ≡ refused m p → number_of m ≢ 9 → {used d : ℕ} {cs : List Cell} → Begins s used d cs
      → deep < d
  too_deep room deep e g {used} {d} {cs} b = go (leb d deep) refl
    where
      go : (x : Bool) → leb d deep ≡ x → deep < d
      go false i = leb-false d deep i
      go true i =
          let h = leb-true d deep i in
          absurd (within_raised (record { nesting = false; room = true }) room (max room (length cs)) deep deep e (omega arith) (λ h. clash refl h) (omega arith)
          (λ h. omega arith) (λ h. clash h refl) (λ h. g) b (omega arith) h)

  -- 9, or any refusal but 8: with more nesting it stays, so what is derived has more rows
  pub too_many :
      (room deep : ℕ) {m : Refusal} {p : ℕ} → message s room deep ≡ refused m p → number_of m ≢ 8 → {used d : ℕ} {cs : List Cell} → Begins s used d cs
      → room < length cs
  too_many room deep e f {used} {d} {cs} b = go (leb (length cs) room) refl
    where
      go : (x : Bool) → leb (length cs) room ≡ x → room < length cs
      go false i = leb-false (length cs) room i
      go true i =
          let h = leb-true (length cs) room i in
          absurd (within_raised (record { nesting = true; room = false }) room room deep (max deep d) e (omega arith) (λ h. omega arith) (omega arith)
          (λ h. clash refl h) (λ h. f) (λ h. clash h refl) b h (omega arith))

-- the test of the number of bytes
module _ (most : ℕ) (s : List ℕ) (room deep : ℕ) where
  pub within_is : length s ≤ most → message_within most s room deep ≡ message s room deep
  unfolding message_within
  within_is h = rw (le-leb (length s) most h)

  pub within_got :
      {rows : List Row} {to : ℕ} {book : Book} → message_within most s room deep ≡ got rows to book
      → (length s ≤ most) × (message s room deep ≡ got rows to book)
  unfolding message_within
  within_got {rows} {to} {book} e = go (leb (length s) most) refl e
    where
      go :
          (b : Bool) → leb (length s) most ≡ b → cond b (message s room deep) (refused TooLong 0) ≡ got rows to book
          → (length s ≤ most) × (message s room deep ≡ got rows to book)
      go true i j = (leb-true (length s) most i, j)
      go false i j = refused_got j

  pub data WithinRefused (m : Refusal) (p : ℕ) : Type 0 where
    of_bytes : most < length s → m ≡ TooLong → WithinRefused m p
    of_message : message s room deep ≡ refused m p → WithinRefused m p

  pub within_refused : {m : Refusal} {p : ℕ} → message_within most s room deep ≡ refused m p → WithinRefused m p
  unfolding message_within
  within_refused {m} {p} e = go (leb (length s) most) refl e
    where
      go : (b : Bool) → leb (length s) most ≡ b → cond b (message s room deep) (refused TooLong 0) ≡ refused m p → WithinRefused m p
      go true i j = of_message j
      go false i j = of_bytes (leb-false (length s) most i) (cc)
