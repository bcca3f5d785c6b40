-- What some bytes come to, and what stays of it when more of them come. Assumes nothing.
use mathlib.Core.Path.{◌≡◌, refl, sym, ◌∙◌, ap}
use mathlib.Core.Bool.{Bool, true, false, ◌&&◌, cond}
use mathlib.Core.List.{List, [], ◌∷◌, ◌++◌, append-nil, append_assoc}
use Prim.Native.Nat.{ℕ, ◌+◌, ◌-◌, ◌≤◌, ◌<◌}
use native.Mathlib.Omega.{arith}
use lib.ListN.{length, take, length-append, length-take}
use lib.Seq.{take_all, take-append-le, take-append-add}
use lib.Dec.{leb, ltb, eqb}
use borrow.Author.Tests.{le-leb, lt-leb, lt-ltb, le-ltb, ltb-true, leb-true, leb-false, eqb-true}
use Rattle.text.proofs.Comparing.{clash}
use Rattle.draft.specs.declared.Refusal.{Refusal}
use Rattle.draft.specs.declared.Refusal.TheVariants.{Ended, TooLong}
use Rattle.draft.specs.Refusals.{number_of}
use Rattle.draft.specs.Limits.{allowed}
use Rattle.draft.specs.Table.{room_of}
use Rattle.draft.specs.Read.{Reading, got, refused, message, message_within}
use Rattle.wanting.specs.Want.{want_of}
use Rattle.draft.proofs.Naming.{refusal_ended, refusal_long, number_own}
use Rattle.read_answer.specs.Answers.{reading}
use Rattle.rereading.specs.Rereading.{refused_with_one}
use Rattle.exact.proofs.Growing.{OfReading, waits, decided}
use Rattle.exact.proofs.Concluding.{of_reading}
use Rattle.pieces.specs.Pieces.{joined, outcome, wanting, through, refusal, told_of}

-- a reading that is refused with 1, or another
pub data View : Reading → Type 0 where
  cut_short : {q : ℕ} → View (refused Ended q)
  other : {o : Reading} → refused_with_one o ≡ false → View o

pub one_ended : (m : Refusal) → number_of m ≡ 1 → m ≡ Ended
one_ended m e = sym (number_own m) ∙ sym (refusal_ended (number_of m) e)

pub view : (o : Reading) → View o
view (got rows used book) = other refl
view (refused m q) = by (eqb (number_of m) 1) refl
  where
    by : (b : Bool) → eqb (number_of m) 1 ≡ b → View (refused m q)
    by true e = rw (one_ended m (eqb-true (number_of m) 1 e)) (cut_short {q = q})
    by false e = other e

module _ (limit : ℕ) (ok : allowed limit ≡ true) (words : ℕ) where
  -- reading, of no more bytes than are read
  reads_as : (s : List ℕ) → length s ≤ 65536 → reading limit s words ≡ message s (room_of 4096 words) limit
  unfolding reading message_within
  reads_as s h = rw (ok, le-leb (length s) 65536 h)

  reads_over : (s : List ℕ) → 65536 < length s → reading limit s words ≡ refused TooLong 0
  unfolding reading message_within
  reads_over s h = rw (ok, lt-leb (length s) 65536 h)

  module _ (s ys : List ℕ) (few : length (s ++ ys) ≤ 65536) where
    fewer : length s ≤ 65536
    fewer = omega (arith, length-append s ys)

    -- an answer other than 1 stays, whatever follows
    pub stays : refused_with_one (reading limit s words) ≡ false → reading limit (s ++ ys) words ≡ reading limit s words
    stays e =
        reads_as (s ++ ys) few
        ∙ decided s ys (room_of 4096 words) limit (λ p f. clash (ap refused_with_one f) (ap refused_with_one (sym (reads_as s fewer)) ∙ e))
        ∙ sym (reads_as s fewer)

    -- refused with 1, a message stays so, at the same place, as long as it has fewer bytes than it wants
    pub stays_cut : (q : ℕ) → reading limit s words ≡ refused Ended q → length (s ++ ys) < want_of s q → reading limit (s ++ ys) words ≡ refused Ended q
    stays_cut q e h = reads_as (s ++ ys) few ∙ waits s ys (room_of 4096 words) limit q (sym (reads_as s fewer) ∙ e) h

  -- up to 65,536 bytes the outcome is the reading
  pub within : (s : List ℕ) → length s ≤ 65536 → outcome limit s words ≡ reading limit s words
  unfolding outcome
  within s h = rw (take_all 65536 s h, le-ltb 65536 (length s) h) (never (refused_with_one (reading limit s words)))
    where
      never : (b : Bool) → cond (b && false) (refused TooLong 0) (reading limit s words) ≡ reading limit s words
      never true = refl
      never false = refl

  module _ (s : List ℕ) where
    pub outcome_ten : refused_with_one (reading limit (take 65536 s) words) ≡ true → 65536 < length s → outcome limit s words ≡ refused TooLong 0
    unfolding outcome
    outcome_ten e h = rw (e, lt-ltb 65536 (length s) h)

    pub outcome_over : {q : ℕ} → 65536 < length s → reading limit (take 65536 s) words ≡ refused Ended q → outcome limit s words ≡ refused TooLong 0
    outcome_over h e = outcome_ten (ap refused_with_one e) h

    pub outcome_settled : refused_with_one (reading limit (take 65536 s) words) ≡ false → outcome limit s words ≡ reading limit (take 65536 s) words
    unfolding outcome
    outcome_settled e = rw e

    -- where more is wanted, there are at most 65,536
    pub wanting_within : wanting limit s words ≡ true → length s ≤ 65536
    wanting_within w = by (leb (length s) 65536) refl
      where
        over : 65536 < length s → (o : Reading) → View o → reading limit (take 65536 s) words ≡ o → length s ≤ 65536
        over h _ cut_short e = clash (sym (ap refused_with_one (outcome_over h e)) ∙ w) refl
        over h o (other f) e =
            let g : refused_with_one (reading limit (take 65536 s) words) ≡ false = ap refused_with_one e ∙ f in
            clash (sym (ap refused_with_one (outcome_settled g) ∙ g) ∙ w) refl

        by : (b : Bool) → leb (length s) 65536 ≡ b → length s ≤ 65536
        by true e = leb-true (length s) 65536 e
        by false e = over (leb-false (length s) 65536 e) (reading limit (take 65536 s) words) (view (reading limit (take 65536 s) words)) refl

    -- 10 only if the first 65,536 bytes have no answer, and there is another
    pub ten_only : {p : ℕ} → told_of (outcome limit s words) ≡ refusal 10 p → (refused_with_one (reading limit (take 65536 s) words) ≡ true) × (65536 < length s)
    unfolding outcome
    ten_only {p} e = by (refused_with_one (reading limit (take 65536 s) words)) refl (ltb 65536 (length s)) refl
      where
        few : length (take 65536 s) ≤ 65536
        few = omega (arith, length-take 65536 s)

        no_ten : (m : Refusal) (q : ℕ) → reading limit (take 65536 s) words ≡ refused m q → refusal (number_of m) q ≡ refusal 10 p → ⊥
        no_ten m q f g =
            let i : number_of m ≡ 10 = cc in
            let j : m ≡ TooLong = sym (number_own m) ∙ sym (refusal_long (number_of m) i) in
            let k : OfReading m = of_reading (take 65536 s) (room_of 4096 words) limit (sym (reads_as (take 65536 s) few) ∙ f) in
            rw j at k

        never : (o : Reading) → reading limit (take 65536 s) words ≡ o → told_of o ≡ refusal 10 p → ⊥
        never (got rows used book) f g = let z : ◌≡◌ {A = ℕ} 0 1 = cc in omega arith
        never (refused m q) f g = no_ten m q f g

        by :
            (x : Bool) → refused_with_one (reading limit (take 65536 s) words) ≡ x → (y : Bool) → ltb 65536 (length s) ≡ y
            → (refused_with_one (reading limit (take 65536 s) words) ≡ true) × (65536 < length s)
        by true f true g = (f, ltb-true 65536 (length s) g)
        by true f false g = absurd (never (reading limit (take 65536 s) words) refl (rw (f, g) at e))
        by false f y g = absurd (never (reading limit (take 65536 s) words) refl (rw f at e))

  -- ---- over pieces
  later : (s p : List ℕ) (ps : List (List ℕ)) → (s ++ p) ++ joined ps ≡ s ++ (p ++ joined ps)
  later s p ps = append_assoc s p (joined ps)

  -- an outcome other than that more is wanted stays, whatever follows
  outcome_stays : (s ys : List ℕ) → wanting limit s words ≡ false → outcome limit (s ++ ys) words ≡ outcome limit s words
  unfolding outcome
  outcome_stays s ys w = by (leb (length s) 65536) refl
    where
      short : length s ≤ 65536 → outcome limit (s ++ ys) words ≡ outcome limit s words
      short h =
          let zs : List ℕ = take (65536 - length s) ys in
          let n : 65536 ≡ length s + (65536 - length s) = omega arith in
          let c : take 65536 (s ++ ys) ≡ s ++ zs = ap (λ (k : ℕ). take k (s ++ ys)) n ∙ take-append-add s ys (65536 - length s) in
          let few : length (s ++ zs) ≤ 65536 = omega (arith, length-append s zs, length-take (65536 - length s) ys) in
          let r : refused_with_one (reading limit s words) ≡ false = sym (ap refused_with_one (within s h)) ∙ w in
          let i : reading limit (take 65536 (s ++ ys)) words ≡ reading limit s words = ap (λ (x : List ℕ). reading limit x words) c ∙ stays s zs few r in
          outcome_settled (s ++ ys) (ap refused_with_one i ∙ r) ∙ i ∙ sym (within s h)

      long : 65536 < length s → outcome limit (s ++ ys) words ≡ outcome limit s words
      long h =
          let k : 65536 < length (s ++ ys) = omega (arith, length-append s ys) in
          rw (take-append-le 65536 s ys (omega arith), lt-ltb 65536 (length s) h, lt-ltb 65536 (length (s ++ ys)) k)

      by : (b : Bool) → leb (length s) 65536 ≡ b → outcome limit (s ++ ys) words ≡ outcome limit s words
      by true e = short (leb-true (length s) 65536 e)
      by false e = long (leb-false (length s) 65536 e)

  -- so the bytes through the deciding piece come to what all do
  through_from : (ps : List (List ℕ)) (s : List ℕ) → outcome limit (through limit words s ps) words ≡ outcome limit (s ++ joined ps) words
  unfolding through joined
  through_from [] s = rw (append-nil s)
  through_from (p ∷ ps) s = by (wanting limit s words) refl (through_from ps (s ++ p))
    where
      by :
          (b : Bool) → wanting limit s words ≡ b → outcome limit (through limit words (s ++ p) ps) words ≡ outcome limit ((s ++ p) ++ joined ps) words
          → outcome limit (cond b (through limit words (s ++ p) ps) s) words ≡ outcome limit (s ++ (p ++ joined ps)) words
      by true e i = rw (← later s p ps) i
      by false e i = sym (outcome_stays s (p ++ joined ps) e)

  pub outcome_through : (ps : List (List ℕ)) → outcome limit (through limit words [] ps) words ≡ outcome limit (joined ps) words
  outcome_through ps = through_from ps []

  -- of up to 65,536 bytes, that is the reading of the whole
  pub whole : (ps : List (List ℕ)) → length (joined ps) ≤ 65536 → outcome limit (through limit words [] ps) words ≡ reading limit (joined ps) words
  whole ps h = outcome_through ps ∙ within (joined ps) h

  -- more is wanted exactly if the bytes, read as a whole message, are refused with 1
  pub wanting_reads : (s : List ℕ) → wanting limit s words ≡ refused_with_one (reading limit s words)
  wanting_reads s = by (leb (length s) 65536) refl (wanting limit s words) refl
    where
      by : (b : Bool) → leb (length s) 65536 ≡ b → (c : Bool) → wanting limit s words ≡ c → wanting limit s words ≡ refused_with_one (reading limit s words)
      by true e c f = ap refused_with_one (within s (leb-true (length s) 65536 e))
      by false e true f = absurd (omega (arith, leb-false (length s) 65536 e, wanting_within s f))
      by false e false f = f ∙ sym (ap refused_with_one (reads_over s (leb-false (length s) 65536 e)))

  pub through_more : (s p : List ℕ) → wanting limit s words ≡ true → through limit words s (p ∷ []) ≡ s ++ p
  unfolding through
  through_more s p e = rw e

  pub through_done : (s : List ℕ) (ps : List (List ℕ)) → wanting limit s words ≡ false → through limit words s ps ≡ s
  unfolding through
  through_done s [] e = refl
  through_done s (p ∷ ps) e = rw e

  pub through_step : (s p : List ℕ) (ps : List (List ℕ)) → through limit words s (p ∷ ps) ≡ through limit words (through limit words s (p ∷ [])) ps
  unfolding through
  through_step s p ps = by (wanting limit s words) refl
    where
      by : (b : Bool) → wanting limit s words ≡ b → cond b (through limit words (s ++ p) ps) s ≡ through limit words (cond b (s ++ p) s) ps
      by true e = refl
      by false e = sym (through_done s ps e)

  -- while more is wanted, the bytes through the deciding piece are all
  through_all : (ps : List (List ℕ)) (s : List ℕ) → wanting limit (through limit words s ps) words ≡ true → through limit words s ps ≡ s ++ joined ps
  unfolding through joined
  through_all [] s w = sym (append-nil s)
  through_all (p ∷ ps) s w = by (wanting limit s words) refl (through_all ps (s ++ p)) w
    where
      by :
          (b : Bool) → wanting limit s words ≡ b
          → (wanting limit (through limit words (s ++ p) ps) words ≡ true → through limit words (s ++ p) ps ≡ (s ++ p) ++ joined ps)
          → wanting limit (cond b (through limit words (s ++ p) ps) s) words ≡ true → cond b (through limit words (s ++ p) ps) s ≡ s ++ (p ++ joined ps)
      by true e i v = i v ∙ later s p ps
      by false e i v = clash (sym e ∙ v) refl

  pub all_joined : (ps : List (List ℕ)) → wanting limit (through limit words [] ps) words ≡ true → through limit words [] ps ≡ joined ps
  all_joined ps w = through_all ps [] w

pub joined_append : (ps qs : List (List ℕ)) → joined (ps ++ qs) ≡ joined ps ++ joined qs
unfolding joined
joined_append [] qs = refl
joined_append (p ∷ ps) qs = ap (λ (l : List ℕ). p ++ l) (joined_append ps qs) ∙ sym (append_assoc p (joined ps) (joined qs))
