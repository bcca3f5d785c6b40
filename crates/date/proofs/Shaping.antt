-- What answers the returns of the functions that look at a date's digits and at what stands between them. Assumes nothing.
use mathlib.Core.Path.{◌≡◌, refl, sym}
use mathlib.Core.Bool.{Bool, true, false, ◌&&◌}
use mathlib.Core.List.{List}
use Prim.Native.Nat.{ℕ, ◌+◌, ◌-◌, ◌*◌, ◌<◌}
use lib.ListN.{length, get_or}
use lib.Dec.{leb, eqb}
use native.Mathlib.Omega.{arith}
use borrow.Author.Tests.{leb-true, le-leb, eq-eqb, ne_eqb}
use Rattle.text.proofs.Comparing.{both}
use Rattle.lexical.specs.Digits.{digit, pair, two}
use Rattle.lexical.specs.DateTime.{is_day, is_date, pair_to, is_time, parted, is_date_time}

module _ (s : List ℕ) (at : ℕ) where
  pub pair_is : {a b : Bool} → a ≡ digit (get_or s at 0) → b ≡ digit (get_or s (at + 1) 0) → (a && b) ≡ pair s at
  unfolding pair
  pair_is e f = rw (e, f)

  pub two_is : {a b : ℕ} → (a ≡ get_or s at 0 - 48) × (a < 256) → (b ≡ get_or s (at + 1) 0 - 48) × (b < 256) → 10 * a + b ≡ two s at
  unfolding two
  two_is e f = rw (e.0, f.0)

  pub pair_to_is : {a : Bool} {n : ℕ} (most : ℕ) → a ≡ pair s at → a ≡ true → (n ≡ two s at) × (n < 2816) → leb n most ≡ pair_to s at most
  unfolding pair_to
  pair_to_is most e t f = rw (← e, t, f.0)

  pub no_pair : {a : Bool} (most : ℕ) → a ≡ pair s at → a ≡ false → false ≡ pair_to s at most
  unfolding pair_to
  no_pair most e t = rw (← e, t)

-- two tests that pass together
together : (x y : Bool) → (x ≡ true → y ≡ true) → (y ≡ true → x ≡ true) → x ≡ y
together true y f g = sym (f refl)
together false true f g = g refl
together false false f g = refl

-- digits write at most 59 if the first is at most 5
pub tens : (s : List ℕ) (at : ℕ) {d : Bool} → d ≡ digit (get_or s (at + 1) 0) → (leb 48 (get_or s at 0) && leb (get_or s at 0) 53 && d) ≡ pair_to s at 59
unfolding pair_to pair digit two
tens s at e = rw e (together _ _ (up (get_or s at 0) (get_or s (at + 1) 0)) (down (get_or s at 0) (get_or s (at + 1) 0)))
  where
    up : (a b : ℕ) → (leb 48 a && leb a 53 && (leb 48 b && leb b 57)) ≡ true → (((leb 48 a && leb a 57) && (leb 48 b && leb b 57)) && leb (10 * (a - 48) + (b - 48)) 59) ≡ true
    up a b e =
        let h = both (leb 48 a && leb a 53) (leb 48 b && leb b 57) e in
        let k = both (leb 48 a) (leb a 53) h.0 in
        let l = both (leb 48 b) (leb b 57) h.1 in
        let least = leb-true 48 a k.0 in
        let most = leb-true a 53 k.1 in
        let second = leb-true b 57 l.1 in
        rw (k.0, le-leb a 57 (omega arith), l.0, l.1, le-leb (10 * (a - 48) + (b - 48)) 59 (omega arith))

    down : (a b : ℕ) → (((leb 48 a && leb a 57) && (leb 48 b && leb b 57)) && leb (10 * (a - 48) + (b - 48)) 59) ≡ true → (leb 48 a && leb a 53 && (leb 48 b && leb b 57)) ≡ true
    down a b e =
        let h = both ((leb 48 a && leb a 57) && (leb 48 b && leb b 57)) (leb (10 * (a - 48) + (b - 48)) 59) e in
        let g = both (leb 48 a && leb a 57) (leb 48 b && leb b 57) h.0 in
        let k = both (leb 48 a) (leb a 57) g.0 in
        let sum = leb-true (10 * (a - 48) + (b - 48)) 59 h.1 in
        rw (k.0, le-leb a 53 (omega arith)) g.1

module _ (s : List ℕ) where
  pub parted_is : (eqb (get_or s 8 0) 84 && eqb (get_or s 11 0) 58 && eqb (get_or s 14 0) 58) ≡ parted s
  unfolding parted
  parted_is = refl

  module _ {a : Bool} (e : a ≡ pair_to s 9 23) where
    pub no_hour : a ≡ false → false ≡ is_time s
    unfolding is_time
    no_hour i = rw (← e, i)

    pub time_is : {b c : Bool} → a ≡ true → b ≡ pair_to s 12 59 → c ≡ pair_to s 15 59 → (b && c) ≡ is_time s
    unfolding is_time
    time_is i f g = rw (← e, i, f, g)

  module _ {a b c d : Bool} (e : a ≡ pair s 0) (f : b ≡ pair s 2) (g : c ≡ pair s 4) (h : d ≡ pair s 6) where
    pub no_digits : (a && b && c && d) ≡ false → false ≡ is_date s
    unfolding is_date
    no_digits i = rw (← e, ← f, ← g, ← h, i)

    pub date_is : {good : Bool} {k l m n : ℕ} → (a && b && c && d) ≡ true → (k ≡ two s 0) × (k < 2816) → (l ≡ two s 2) × (l < 2816) → (m ≡ two s 4) × (m < 2816) → (n ≡ two s 6) × (n < 2816) → good ≡ is_day (100 * k + l) m n → good ≡ is_date s
    unfolding is_date
    date_is i p q r t u = rw (← e, ← f, ← g, ← h, i, u, p.0, q.0, r.0, t.0)

  pub other_length : (length s ≡ 17 → ⊥) → false ≡ is_date_time s
  unfolding is_date_time
  other_length d = rw (ne_eqb _ _ d)

  module _ {a b : Bool} (l : length s ≡ 17) (e : a ≡ parted s) (f : b ≡ is_time s) where
    pub no_time : (a && b) ≡ false → false ≡ is_date_time s
    unfolding is_date_time
    no_time i = rw (eq-eqb _ _ l, ← e, ← f, i)

    pub datetime_is : {good : Bool} → (a && b) ≡ true → good ≡ is_date s → good ≡ is_date_time s
    unfolding is_date_time
    datetime_is i g = rw (eq-eqb _ _ l, ← e, ← f, i, g)

pub ruleset shaping = (pair_is, two_is, pair_to_is, no_pair, tens, parted_is, no_hour, time_is, no_digits, date_is, other_length, no_time, datetime_is)
