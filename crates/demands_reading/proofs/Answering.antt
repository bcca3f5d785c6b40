-- What the answer of `reader::read` says: a refusal by its number, the order of the first tests, and that what follows a failure or an end is not
-- looked at. `Answers (reading limit s words) words T a` is that function's promise, as in Settled. Assumes nothing.
use mathlib.Core.Path.{◌≡◌, refl, sym, ap, ◌∙◌}
use mathlib.Core.Bool.{Bool, true, false}
use mathlib.Core.Logic.{◌≢◌}
use mathlib.Core.List.{List, [], ◌∷◌, ◌++◌}
use Prim.Native.Nat.{ℕ, ◌≤◌, ◌<◌}
use native.Mathlib.Omega.{arith}
use lib.Dec.{eqb}
use lib.ListN.{length, length-append}
use borrow.Author.Tests.{lt-leb, le-leb, eqb-true, eqb-false}
use Rattle.text.proofs.Comparing.{clash}
use Rattle.draft.specs.declared.Refusal.{Refusal}
use Rattle.draft.specs.declared.Refusal.TheVariants.{Ended, WrongPrefix, UnexpectedByte, BadText, UnsetPosition, StandardName, TooDeep, NoRow, TooLong, NotWritable, FormTooLong, OutputTooShort, BadFault, BadValue, RepeatedKey, NoLimit}
use Rattle.draft.specs.Refusals.{number_of, refusal_of}
use Rattle.draft.proofs.Naming.{refusal_long, number_own}
use Rattle.draft.specs.Limits.{allowed}
use Rattle.draft.specs.Table.{room_of}
use Rattle.draft.specs.Read.{Reading, got, refused, prefix, agree, message, message_within}
use Rattle.draft.specs.Grammar.{Cell, Begins}
use Rattle.read_answer.specs.declared.Answer.{Answer}
use Rattle.read_answer.specs.declared.Answer.TheVariants.{Accepted, Refused}
use Rattle.read_answer.specs.Answers.{reading, answer_of, table_of, Answers, report_of}
use Rattle.read_answer.proofs.Limited.{reading_within, reading_unlimited, got_within}
use Rattle.exact.proofs.Realising.{counts}
use Rattle.exact.proofs.Growing.{OfReading, decided}
use Rattle.exact.proofs.Concluding.{of_reading, underived, too_deep, too_many, within_is, WithinRefused, of_bytes, of_message, within_refused}
use Rattle.demands_reading.specs.Refusing.{Underived, Deeper, Fuller, one_of}
use Rattle.demands_reading.specs.Placed.{Stands}
use Rattle.demands_reading.proofs.Reading.{sound, one_meaning}
use Rattle.demands_reading.proofs.Placed.{stands}

-- the numbers of what reading a message says
number_in : (m : Refusal) → OfReading m → one_of (1 ∷ 2 ∷ 3 ∷ 5 ∷ 6 ∷ 7 ∷ 8 ∷ 9 ∷ 10 ∷ 14 ∷ 17 ∷ 20 ∷ 23 ∷ []) (number_of m) ≡ true
number_in Ended h = refl
number_in WrongPrefix h = refl
number_in UnexpectedByte h = refl
number_in BadText h = refl
number_in UnsetPosition h = refl
number_in StandardName h = refl
number_in TooDeep h = refl
number_in NoRow h = refl
number_in TooLong h = refl
number_in NotWritable h = absurd h
number_in FormTooLong h = absurd h
number_in OutputTooShort h = absurd h
number_in BadFault h = refl
number_in BadValue h = refl
number_in RepeatedKey h = refl
number_in NoLimit h = refl

of_23 : refusal_of 23 ≡ NoLimit
unfolding refusal_of
of_23 = refl

module _ (limit : ℕ) (s : List ℕ) (words : ℕ) {T : List ℕ} {m : Refusal} {p : ℕ} (d : Answers (reading limit s words) words T (Refused m p)) where
  -- a refusal is the definition's
  pub refused_read : reading limit s words ≡ refused m p
  refused_read = go (reading limit s words) d.says
    where
      go : (o : Reading) → Refused m p ≡ answer_of o → o ≡ refused m p
      go (refused n q) e = let i : n ≡ m = cc in let j : q ≡ p = cc in rw (i, j)
      go (got rows to book) e = let z : ◌≡◌ {A = ℕ} 0 1 = cc in absurd (omega arith)

  -- why: the limit, the bytes, or the message
  why_limit : allowed limit ≡ false → m ≡ NoLimit
  why_limit e = let f = sym refused_read ∙ reading_unlimited limit s words e in cc

  why : allowed limit ≡ true → WithinRefused 65536 s (room_of 4096 words) limit m p
  why e = within_refused 65536 s (room_of 4096 words) limit (sym (reading_within limit s words e) ∙ refused_read)

  -- by what the message says, its length or the limit
  by :
      (P : Type 0) → (m ≡ NoLimit → allowed limit ≡ false → P) → (m ≡ TooLong → 65536 < length s → P)
      → (message s (room_of 4096 words) limit ≡ refused m p → P) → P
  by P f g h = go (allowed limit) refl
    where
      within_by : WithinRefused 65536 s (room_of 4096 words) limit m p → P
      within_by (of_bytes k i) = g i k
      within_by (of_message i) = h i

      go : (b : Bool) → allowed limit ≡ b → P
      go false e = f (why_limit e) e
      go true e = within_by (why e)

  -- NUMBERS. Reading gives these and no other.
  pub refused_number : one_of (1 ∷ 2 ∷ 3 ∷ 5 ∷ 6 ∷ 7 ∷ 8 ∷ 9 ∷ 10 ∷ 14 ∷ 17 ∷ 20 ∷ 23 ∷ []) (number_of m) ≡ true
  refused_number = by _ (λ e k. rw e) (λ e k. rw e) (λ e. number_in m (of_reading s (room_of 4096 words) limit e))

  -- REFUSALS SPEAK THE TRUTH, each by its number: all but 8, 9, 10 and 23 say that no beginning of the message is derived at all
  pub refused_underived : number_of m ≢ 8 → number_of m ≢ 9 → number_of m ≢ 10 → number_of m ≢ 23 → Underived s
  refused_underived f g h k =
      by _ (λ e i. absurd (k (ap number_of e))) (λ e i. absurd (h (ap number_of e))) (λ e used nesting cells b. underived s (room_of 4096 words) limit e f g b)

  -- 8: what is derived nests deeper than the limit
  pub refused_deeper : number_of m ≡ 8 → Deeper s limit
  refused_deeper f =
      by _ (λ e i. absurd (omega (arith, f, ap number_of e))) (λ e i. absurd (omega (arith, f, ap number_of e)))
      (λ e used nesting cells b. too_deep s (room_of 4096 words) limit e (λ g. omega (arith, f, g)) b)

  -- 9: it has more rows than there is room for
  pub refused_fuller : number_of m ≡ 9 → Fuller s (room_of 4096 words)
  refused_fuller f =
      by _ (λ e i. absurd (omega (arith, f, ap number_of e))) (λ e i. absurd (omega (arith, f, ap number_of e)))
      (λ e used nesting cells b. too_many s (room_of 4096 words) limit e (λ g. omega (arith, f, g)) b)

  -- 10: the message has more than 65,536 bytes
  pub refused_long : number_of m ≡ 10 → 65536 < length s
  refused_long f =
      by _ (λ e i. absurd (omega (arith, f, ap number_of e))) (λ e i. i)
      (λ e. let g : m ≡ TooLong = sym (number_own m) ∙ sym (refusal_long (number_of m) f) in absurd (rw g at (of_reading s (room_of 4096 words) limit e)))

  -- 23: the limit is none of 1 to 32
  pub refused_unlimited : number_of m ≡ 23 → allowed limit ≡ false
  refused_unlimited f =
      by _ (λ e i. i) (λ e i. absurd (omega (arith, f, ap number_of e)))
      (λ e. let g : m ≡ NoLimit = sym (number_own m) ∙ ap refusal_of f ∙ of_23 in absurd (rw g at (of_reading s (room_of 4096 words) limit e)))

  -- PLACES. At the place of a refusal, 10 and 23 apart, stands what its number says.
  pub refused_stands : number_of m ≢ 10 → number_of m ≢ 23 → Stands s (number_of m) p
  refused_stands f g = by _ (λ e i. absurd (g (ap number_of e))) (λ e i. absurd (f (ap number_of e))) (λ e. stands s (room_of 4096 words) limit e)

-- 8 and 9 the other way: what is derived, and is over one limit alone, is refused for that one.
module _
    (limit : ℕ) (s : List ℕ) (words : ℕ) {T : List ℕ} {a : Answer} (stated : allowed limit ≡ true) (short : length s ≤ 65536) {used nesting : ℕ}
    {cells : List Cell} (b : Begins s used nesting cells) (d : Answers (reading limit s words) words T a)
  where
    -- a refusal of what is derived is 8 or 9
    refused_for : (P : ℕ → Type 0) (m : Refusal) (p : ℕ) → a ≡ Refused m p → (number_of m ≡ 8 → P 8) → (number_of m ≡ 9 → P 9) → P (number_of m)
    refused_for P m p e f g = go (eqb (number_of m) 8) refl (eqb (number_of m) 9) refl
      where
        r : Answers (reading limit s words) words T (Refused m p)
        r = rw e at d

        go : (x : Bool) → eqb (number_of m) 8 ≡ x → (y : Bool) → eqb (number_of m) 9 ≡ y → P (number_of m)
        go true i y j = let k = eqb-true (number_of m) 8 i in rw k (f k)
        go false i true j = let k = eqb-true (number_of m) 9 j in rw k (g k)
        go false i false j =
            absurd (refused_underived limit s words r (eqb-false (number_of m) 8 i) (eqb-false (number_of m) 9 j)
            (λ k. let l = refused_long limit s words r k in omega arith) (λ k. clash stated (refused_unlimited limit s words r k)) used nesting cells b)

    taken : {n to : ℕ} → a ≡ Accepted n to → Begins s used limit cells × (length cells ≤ room_of 4096 words)
    taken {n} {to} e = go (reading limit s words) refl (sym e ∙ d.says)
      where
        go : (o : Reading) → reading limit s words ≡ o → Accepted n to ≡ answer_of o → Begins s used limit cells × (length cells ≤ room_of 4096 words)
        go (refused m p) i f = let z : ◌≡◌ {A = ℕ} 0 1 = cc in absurd (omega arith)
        go (got rows at book) i f =
            let g = sound 65536 s (room_of 4096 words) limit (got_within limit s words i) in
            let h = one_meaning g.begins b in
            let k : Begins s used limit cells = rw (h.1, h.0) at g.begins in
            (k, omega (arith, g.fits, counts g.meaning, ap length h.1))

    -- within the room, and not within the limit: 8
    pub eight : length cells ≤ room_of 4096 words → (Begins s used limit cells → ⊥) → (report_of a).number ≡ 8
    eight fits deep = go a refl
      where
        go : (x : Answer) → a ≡ x → (report_of x).number ≡ 8
        go (Accepted n to) e = absurd (deep (taken e).0)
        go (Refused m p) e =
            refused_for (λ x. x ≡ 8) m p e (λ k. refl)
            (λ k. let l = refused_fuller limit s words (rw e at d) k used nesting cells b in absurd (omega arith))

    -- within the limit, and not within the room: 9
    pub nine : room_of 4096 words < length cells → nesting ≤ limit → (report_of a).number ≡ 9
    nine full nests = go a refl
      where
        go : (x : Answer) → a ≡ x → (report_of x).number ≡ 9
        go (Accepted n to) e = let l = (taken e).1 in absurd (omega arith)
        go (Refused m p) e =
            refused_for (λ x. x ≡ 9) m p e (λ k. let l = refused_deeper limit s words (rw e at d) k used nesting cells b in absurd (omega arith)) (λ k. refl)

-- the answer within the limits on bytes and nesting
pub answered :
    (limit : ℕ) (s : List ℕ) (words : ℕ) {T : List ℕ} {a : Answer} → allowed limit ≡ true → length s ≤ 65536 → Answers (reading limit s words) words T a
    → a ≡ answer_of (message s (room_of 4096 words) limit)
answered limit s words l h d =
    d.says ∙ ap answer_of (reading_within limit s words l ∙ within_is 65536 s (room_of 4096 words) limit h)

-- THE FIRST TESTS: 10; then 2, over as many of the 12 bytes as are present; then 1 if fewer than 12; each with place 0
module _ (limit : ℕ) (s : List ℕ) (words : ℕ) (stated : allowed limit ≡ true) where
  pub first_ten : 65536 < length s → reading limit s words ≡ refused TooLong 0
  unfolding reading message_within
  first_ten h = rw (stated, lt-leb (length s) 65536 h)

  pub first_two : length s ≤ 65536 → agree s prefix ≡ false → reading limit s words ≡ refused WrongPrefix 0
  unfolding reading message_within message
  first_two h e = rw (stated, le-leb (length s) 65536 h, e)

  pub first_one : length s ≤ 65536 → agree s prefix ≡ true → length s < 12 → reading limit s words ≡ refused Ended 0
  unfolding reading message_within message
  first_one h e k = rw (stated, le-leb (length s) 65536 h, e, lt-leb 12 (length s) k)

-- WHAT FOLLOWS. An answer other than 1 stays, with its table, whatever bytes follow, up to 65,536 in all: what follows an item that fails, or the end
-- of the message, is not looked at.
pub follows :
    (limit : ℕ) (s more : List ℕ) (words : ℕ) {T T' : List ℕ} {a a' : Answer} → length (s ++ more) ≤ 65536 → (report_of a).number ≢ 1
    → Answers (reading limit s words) words T a → Answers (reading limit (s ++ more) words) words T' a' → (a ≡ a') × (T ≡ T')
follows limit s more words {T} {T'} {a} {a'} h n d d' =
    (d.says ∙ ap answer_of (sym same) ∙ sym d'.says, d.leaves ∙ ap (table_of words) (sym same) ∙ sym d'.leaves)
  where
    same : reading limit (s ++ more) words ≡ reading limit s words
    same = go (allowed limit) refl
      where
        go : (b : Bool) → allowed limit ≡ b → reading limit (s ++ more) words ≡ reading limit s words
        go false e = reading_unlimited limit (s ++ more) words e ∙ sym (reading_unlimited limit s words e)
        go true e =
            let i = reading_within limit s words e ∙ within_is 65536 s (room_of 4096 words) limit (omega (arith, h, length-append s more)) in
            reading_within limit (s ++ more) words e ∙ within_is 65536 (s ++ more) (room_of 4096 words) limit h
            ∙ decided s more (room_of 4096 words) limit (λ p f. n (ap (λ (x : Answer). (report_of x).number) (d.says ∙ ap answer_of (i ∙ f))))
            ∙ sym i
