-- What answers the returns and turns of the functions that find the point, the first digit that counts, and the whole number. Assumes nothing.
use mathlib.Core.Path.{◌≡◌, refl, sym, ap, ◌∙◌}
use mathlib.Core.Bool.{Bool, true, false, cond, ◌&&◌}
use mathlib.Core.List.{List, [], ◌∷◌}
use Prim.Native.Nat.{ℕ, suc, ◌+◌, ◌-◌, ◌*◌, ◌^◌, ◌≤◌, ◌<◌}
use native.Mathlib.Omega.{arith}
use native.Mathlib.Nat.{add-zero, add-suc, suc-add, pow-suc, pow-le-pow_right, lt_of_lt_of_le, zero-lt-suc}
use native.Mathlib.Numerals.{add-one}
use lib.ListN.{length, get_or, drop, length-drop}
use lib.Seq.{drop-cons}
use lib.Dec.{leb, eqb}
use mir.Syntax.{w64}
use mir.Val.{Fits}
use borrow.Author.Tests.{eq-eqb, ne_eqb, le-leb, lt-leb, leb-true, leb-false}
use Rattle.text.proofs.Comparing.{both, clash, ended}
use Rattle.lexical.specs.Digits.{digit}
use Rattle.std.proofs.Common.{Some, None}
use Rattle.decimal.specs.Digits.{nonzero, digits_of, significant, whole, places, negative, Counting}
use Rattle.decimal.specs.Decimal.{gathered}

-- ---- the sign

pub negative_at : (s : List ℕ) → 0 < length s → eqb (get_or s 0 0) 45 ≡ negative s
unfolding negative
negative_at [] h = absurd (omega arith)
negative_at (b ∷ s) h = refl

pub negative_none : (s : List ℕ) → length s ≤ 0 → false ≡ negative s
unfolding negative
negative_none [] h = refl
negative_none (b ∷ s) h = absurd (omega arith)

-- ---- the point

pub record Unpointed (s : List ℕ) (i : ℕ) : Type 0 where
  pub rest : places s ≡ places (drop i s)

pub unpointed_none : {s : List ℕ} → Unpointed s 0
unpointed_none = record { rest = refl }

module _ {s : List ℕ} {i : ℕ} (u : Unpointed s i) where
  pub unpointed_end : length s ≤ i → 0 ≡ places s
  unfolding places
  unpointed_end h = sym (u.rest ∙ rw (ended s i h))

  module _ (h : i < length s) where
    pub unpointed_more : (get_or s i 0 ≡ 46 → ⊥) → Unpointed s (i + 1)
    unfolding places
    unpointed_more d = record { rest = u.rest ∙ rw (add-one, drop-cons s i 0 h, ne_eqb _ _ d) }

    pub pointed : get_or s i 0 ≡ 46 → length s - (i + 1) ≡ places s
    unfolding places
    pointed e = sym (u.rest ∙ rw (drop-cons s i 0 h, eq-eqb _ _ e) (rw add-one (length-drop (suc i) s)))

pub ruleset pointing = (negative_at, negative_none, unpointed_none, unpointed_end, unpointed_more, pointed)

-- ---- leading zeros

-- what a byte adds to the digits that count, if none has come before it
zero_byte : (b : ℕ) (s : List ℕ) → nonzero b ≡ false → significant (digits_of (b ∷ s)) ≡ significant (digits_of s)
unfolding digits_of nonzero digit significant
zero_byte b s e = go (leb 48 b) (leb b 57) (leb 49 b) refl refl refl e
  where
    go : (low high more : Bool) → leb 48 b ≡ low → leb b 57 ≡ high → leb 49 b ≡ more → (more && high) ≡ false
        → significant (cond (low && high) ((b - 48) ∷ digits_of s) (digits_of s)) ≡ significant (digits_of s)
    go false high more l h m f = refl
    go true false more l h m f = refl
    go true true true l h m f = clash (sym f) refl
    go true true false l h m f = rw (eq-eqb (b - 48) 0 (omega (arith, leb-true 48 b l, leb-false 49 b m)))

nonzero_byte : (b : ℕ) (s : List ℕ) → nonzero b ≡ true → significant (digits_of (b ∷ s)) ≡ digits_of (b ∷ s)
unfolding digits_of nonzero digit significant
nonzero_byte b s e =
    let h = both (leb 49 b) (leb b 57) e in
    let l : 49 ≤ b = leb-true 49 b h.0 in
    rw (le-leb 48 b (omega arith), h.1, ne_eqb (b - 48) 0 (λ q. omega arith))

pub record Zeros (s : List ℕ) (i : ℕ) : Type 0 where
  pub rest : significant (digits_of s) ≡ significant (digits_of (drop i s))

pub zeros_none : {s : List ℕ} → Zeros s 0
zeros_none = record { rest = refl }

module _ {s : List ℕ} {i : ℕ} (z : Zeros s i) where
  pub zeros_end : length s ≤ i → Counting s i
  unfolding digits_of significant
  zeros_end h = record { same = z.rest ∙ rw (ended s i h) }

  module _ {is : Bool} (h : i < length s) (e : is ≡ nonzero (get_or s i 0)) where
    pub zeros_more : is ≡ false → Zeros s (i + 1)
    zeros_more f = record { rest = z.rest ∙ rw (add-one, drop-cons s i 0 h) (zero_byte _ _ (sym e ∙ f)) }

    pub zeros_stop : is ≡ true → Counting s i
    zeros_stop f = record { same = z.rest ∙ rw (drop-cons s i 0 h) (nonzero_byte _ _ (sym e ∙ f)) }

pub ruleset skipping = (zeros_none, zeros_end, zeros_more, zeros_stop)

-- ---- the whole number

-- the digits until i are gathered: so many, and the number that they write
pub record Gathers (s : List ℕ) (number count i : ℕ) : Type 0 where
  pub few : count ≤ 15
  pub small : number < 10 ^ count
  pub counted : count + length (digits_of (drop i s)) ≡ length (digits_of s)
  pub written : whole number (digits_of (drop i s)) ≡ whole 0 (digits_of s)

pub gathers_none : {s : List ℕ} → Gathers s 0 0 0
gathers_none = record { few = omega arith; small = omega arith; counted = omega arith; written = refl }

pub below_fifteen : (number count : ℕ) → number < 10 ^ count → count ≤ 15 → number < 1000000000000000
below_fifteen number count h l = lt_of_lt_of_le h (pow-le-pow_right (zero-lt-suc 9) l)

one_more : (number count d : ℕ) → number < 10 ^ count → d ≤ 9 → 10 * number + d < 10 ^ suc count
one_more number count d h l = rw pow-suc (omega arith)

pub digit_from : (b : ℕ) → digit b ≡ true → 48 ≤ b
unfolding digit
digit_from b e = leb-true 48 b (both (leb 48 b) (leb b 57) e).0

pub digit_most : (b : ℕ) → digit b ≡ true → b - 48 ≤ 9
unfolding digit
digit_most b e = let h = both (leb 48 b) (leb b 57) e in omega (arith, leb-true b 57 h.1)

digit_byte : (b : ℕ) (s : List ℕ) → digit b ≡ true → digits_of (b ∷ s) ≡ (b - 48) ∷ digits_of s
unfolding digits_of
digit_byte b s e = rw e

other_byte : (b : ℕ) (s : List ℕ) → digit b ≡ false → digits_of (b ∷ s) ≡ digits_of s
unfolding digits_of
other_byte b s e = rw e

module _ {s : List ℕ} {number count i : ℕ} (g : Gathers s number count i) where
  number_below : number < 1000000000000000
  number_below = below_fifteen number count g.small g.few

  pub ten_fits : Fits w64 (10 * number)
  ten_fits = record { fits = omega (arith, number_below) }

  pub sum_fits : {v : ℕ} → v ≤ 9 → Fits w64 (10 * number + v)
  sum_fits h = record { fits = omega (arith, number_below) }

  pub count_fits : Fits w64 (count + 1)
  count_fits = record { fits = omega (arith, g.few) }

  pub gathers_end : length s ≤ i → Some number ≡ gathered (digits_of s)
  unfolding gathered digits_of whole
  gathers_end h =
      let none : digits_of (drop i s) ≡ [] = rw (ended s i h) in
      let c : count + 0 ≡ length (digits_of s) = rw none at g.counted in
      let w : number ≡ whole 0 (digits_of s) = rw none at g.written in
      rw (le-leb (length (digits_of s)) 15 (omega (arith, g.few))) (ap Some w)

  module _ {is : Bool} (h : i < length s) (e : is ≡ digit (get_or s i 0)) where
    pub gathers_other : is ≡ false → Gathers s number count (i + 1)
    gathers_other f =
        let d : digits_of (drop i s) ≡ digits_of (drop (i + 1) s) = rw (add-one, drop-cons s i 0 h) (other_byte _ _ (sym e ∙ f)) in
        record { few = g.few; small = g.small; counted = rw d at g.counted; written = rw d at g.written }

    module _ (f : is ≡ true) where
      digits_here : digits_of (drop i s) ≡ (get_or s i 0 - 48) ∷ digits_of (drop (i + 1) s)
      digits_here = rw (add-one, drop-cons s i 0 h) (digit_byte _ _ (sym e ∙ f))

      pub gathers_full : count ≡ 15 → None ≡ gathered (digits_of s)
      unfolding gathered
      gathers_full q =
          let c : count + suc (length (digits_of (drop (i + 1) s))) ≡ length (digits_of s) = rw digits_here at g.counted in
          rw (lt-leb (length (digits_of s)) 15 (omega arith))

      pub gathers_more : {v : ℕ} → (count ≡ 15 → ⊥) → (v ≡ get_or s i 0 - 48) × (v ≤ 9) → Gathers s (10 * number + v) (count + 1) (i + 1)
      unfolding whole
      gathers_more {v} q w =
          let c : count + suc (length (digits_of (drop (i + 1) s))) ≡ length (digits_of s) = rw digits_here at g.counted in
          let n : whole (10 * number + (get_or s i 0 - 48)) (digits_of (drop (i + 1) s)) ≡ whole 0 (digits_of s) = rw digits_here at g.written in
          record {
            few = omega (arith, g.few, q);
            small = rw add-one (one_more number count v g.small w.1);
            counted = omega arith;
            written = rw w.0 n;
          }

pub known : (b : ℕ) {is : Bool} → is ≡ digit b → is ≡ true → digit b ≡ true
known b e f = sym e ∙ f

pub ruleset gathering = (known, gathers_none, ten_fits, sum_fits, count_fits, gathers_end, gathers_other, gathers_full, gathers_more)

-- ---- how large the number is

whole_below : (s : List ℕ) (n k : ℕ) → n < 10 ^ k → whole n (digits_of s) < 10 ^ (k + length (digits_of s))
unfolding whole digits_of
whole_below [] n k h = rw add-zero h
whole_below (b ∷ s) n k h = go (digit b) refl (whole_below s)
  where
    go : (t : Bool) → digit b ≡ t → ((m j : ℕ) → m < 10 ^ j → whole m (digits_of s) < 10 ^ (j + length (digits_of s)))
        → whole n (cond t ((b - 48) ∷ digits_of s) (digits_of s)) < 10 ^ (k + length (cond t ((b - 48) ∷ digits_of s) (digits_of s)))
    go true e r = rw (add-suc, ← suc-add) (r (10 * n + (b - 48)) (suc k) (one_more n k (b - 48) h (digit_most b e)))
    go false e r = r n k h

fifteen : (s : List ℕ) → length (digits_of s) ≤ 15 → whole 0 (digits_of s) < 10 ^ 15
fifteen s h =
    let l : 0 + length (digits_of s) ≤ 15 = omega arith in
    lt_of_lt_of_le (whole_below s 0 0 (omega arith)) (pow-le-pow_right (zero-lt-suc 9) l)

pub number_small : (s : List ℕ) (n : ℕ) → Some n ≡ gathered (digits_of s) → n < 10 ^ 15
unfolding gathered
number_small s n e = go (leb (length (digits_of s)) 15) refl e
  where
    go : (t : Bool) → leb (length (digits_of s)) 15 ≡ t → Some n ≡ cond t (Some (whole 0 (digits_of s))) None → n < 10 ^ 15
    go true l q = let w : n ≡ whole 0 (digits_of s) = cc in rw w (fifteen s (leb-true _ 15 l))
    go false l q = let z : ◌≡◌ {A = ℕ} 0 1 = cc in absurd (omega arith)

-- the digits that count are the digits of a part of the text
record Part (s : List ℕ) : Type 0 where
  text : List ℕ
  same : significant (digits_of s) ≡ digits_of text

part : (s : List ℕ) → Part s
unfolding digits_of significant
part [] = record { text = []; same = refl }
part (b ∷ s) = go (nonzero b) refl (part s)
  where
    go : (t : Bool) → nonzero b ≡ t → Part s → Part (b ∷ s)
    go true e p = record { text = b ∷ s; same = nonzero_byte b s e }
    go false e p = record { text = p.text; same = zero_byte b s e ∙ p.same }

pub significant_small : (s : List ℕ) → length (significant (digits_of s)) ≤ 15 → whole 0 (significant (digits_of s)) < 10 ^ 15
significant_small s h = let p = part s in rw p.same (fifteen p.text (rw p.same at h))
