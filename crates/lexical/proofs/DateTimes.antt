-- The test `is_date_time` and the grammar agree: bytes pass exactly if the grammar derives them. What passes is ASCII. Assumes nothing.
use mathlib.Core.Path.{◌≡◌, refl}
use mathlib.Core.Bool.{Bool, true, false, cond, not, ◌&&◌, ◌||◌}
use mathlib.Core.List.{List, [], ◌∷◌}
use mathlib.Core.Logic.{◌↔◌}
use Prim.Native.Nat.{ℕ, suc, ◌+◌, ◌*◌, ◌%◌, ◌≤◌, ◌<◌}
use Prim.Native.Char.{code}
use native.Mathlib.Omega.{arith}
use lib.ListN.{length, get_or}
use lib.Dec.{leb, eqb}
use borrow.Author.Tests.{leb-true, le-leb, eqb-true, eqb-false, eq-eqb, ne_eqb, not-true}
use Rattle.text.specs.Texts.{ascii}
use Rattle.text.proofs.Comparing.{both, clash}
use Rattle.lexical.specs.Digits.{digit, pair, two as twoAt}
use Rattle.lexical.specs.DateTime.{leap, month_days, is_day, is_date, pair_to, is_time, parted, is_date_time}
use Rattle.lexical.specs.Grammar.{Leap, fourth, four_hundredth, Month, january, february, leap_february, march, april, may, june, july, august, september, october, november, december, Day, Two, two, DateTime, datetime}
use Rattle.lexical.proofs.Doubles.{digit_in, digit_is, digit_below}

-- ---- leap years

leap_in : {year : ℕ} → Leap year → leap year ≡ true
unfolding leap
leap_in {year} (fourth e n) = rw (eq-eqb _ _ e, ne_eqb _ _ n)
leap_in {year} (four_hundredth e) = rw (eq-eqb _ _ e) (or_true (eqb (year % 4) 0 && not (eqb (year % 100) 0)))
  where
    or_true : (b : Bool) → (b || true) ≡ true
    or_true true = refl
    or_true false = refl

leap_is : (year : ℕ) → leap year ≡ true → Leap year
unfolding leap
leap_is year e = go (eqb (year % 400) 0) refl e
  where
    go : (t : Bool) → eqb (year % 400) 0 ≡ t → ((eqb (year % 4) 0 && not (eqb (year % 100) 0)) || t) ≡ true → Leap year
    go true f g = four_hundredth (eqb-true _ _ f)
    go false f g = early (eqb (year % 4) 0 && not (eqb (year % 100) 0)) refl g
      where
        early : (t : Bool) → (eqb (year % 4) 0 && not (eqb (year % 100) 0)) ≡ t → (t || false) ≡ true → Leap year
        early true h i =
            let k = both (eqb (year % 4) 0) (not (eqb (year % 100) 0)) h in
            fourth (eqb-true _ _ k.0) (eqb-false _ _ (not-true _ k.1))
        early false h i = clash i refl

not_leap : (year : ℕ) → (Leap year → ⊥) → leap year ≡ false
not_leap year n = go (leap year) refl
  where
    go : (t : Bool) → leap year ≡ t → t ≡ false
    go true e = absurd (n (leap_is year e))
    go false e = refl

-- ---- months and days

month_in : {year month days : ℕ} → Month year month days → (leb 1 month && leb month 12) ≡ true
month_in january = refl
month_in (february n) = refl
month_in (leap_february l) = refl
month_in march = refl
month_in april = refl
month_in may = refl
month_in june = refl
month_in july = refl
month_in august = refl
month_in september = refl
month_in october = refl
month_in november = refl
month_in december = refl

month_days_lem : {year month days : ℕ} → Month year month days → month_days (leap year) month ≡ days
unfolding month_days
month_days_lem january = refl
month_days_lem {year} (february n) = rw (not_leap year n)
month_days_lem (leap_february l) = rw (leap_in l)
month_days_lem march = refl
month_days_lem april = refl
month_days_lem may = refl
month_days_lem june = refl
month_days_lem july = refl
month_days_lem august = refl
month_days_lem september = refl
month_days_lem october = refl
month_days_lem november = refl
month_days_lem december = refl

day_in : {year month day : ℕ} → Day year month day → is_day year month day ≡ true
unfolding is_day
day_in d = rw (month_in d.has, month_days_lem d.has, le-leb _ _ d.first, le-leb _ _ d.last)

-- P of each of n numbers from k on
data Each (P : ℕ → Type 0) : ℕ → ℕ → Type 0 where
  done : {k : ℕ} → Each P k 0
  then : {k n : ℕ} → P k → Each P (suc k) n → Each P k (suc n)

of_each : {P : ℕ → Type 0} {k n : ℕ} → Each P k n → (m : ℕ) → k ≤ m → m < k + n → P m
of_each {P} {k} done m h l = absurd (omega arith)
of_each {P} {k} (then {n = n} p r) m h l = go (eqb m k) refl (of_each r m)
  where
    go : (t : Bool) → eqb m k ≡ t → (suc k ≤ m → m < suc k + n → P m) → P m
    go true e f = rw (eqb-true m k e) p
    go false e f = f (omega (arith, eqb-false m k e)) (omega arith)

february_is : (year : ℕ) → Month year 2 (cond (leap year) 29 28)
february_is year = go (leap year) refl
  where
    go : (t : Bool) → leap year ≡ t → Month year 2 (cond t 29 28)
    go true e = leap_february (leap_is year e)
    go false e = february (λ y. clash (leap_in y) e)

months : (year : ℕ) → Each (λ m. Month year m (month_days (leap year) m)) 1 12
unfolding month_days
months year =
    then january
    (then (february_is year)
    (then march
    (then april
    (then may
    (then june
    (then july
    (then august
    (then september
    (then october
    (then november
    (then december done)))))))))))

day_is : (year month day : ℕ) → is_day year month day ≡ true → Day year month day
unfolding is_day
day_is year month day e =
    let h = both (leb 1 month && leb month 12) (leb 1 day && leb day (month_days (leap year) month)) e in
    let m = both (leb 1 month) (leb month 12) h.0 in
    let d = both (leb 1 day) (leb day (month_days (leap year) month)) h.1 in
    record {
      days = month_days (leap year) month;
      has = of_each (months year) month (leb-true _ _ m.0) (omega (arith, leb-true month 12 m.1));
      first = leb-true _ _ d.0;
      last = leb-true _ _ d.1;
    }

-- ---- the bytes

-- n bytes
data Long : ℕ → List ℕ → Type 0 where
  none : Long 0 []
  more : {b n : ℕ} {s : List ℕ} → Long n s → Long (suc n) (b ∷ s)

long : (s : List ℕ) → Long (length s) s
long [] = none
long (b ∷ s) = more (long s)

-- ---- what passes, the grammar derives

two_is : (s : List ℕ) (i : ℕ) → pair s i ≡ true → Two (get_or s i 0 ∷ get_or s (i + 1) 0 ∷ []) (twoAt s i)
unfolding pair twoAt
two_is s i e =
    let h = both (digit (get_or s i 0)) (digit (get_or s (i + 1) 0)) e in
    two (digit_is _ h.0) (digit_is _ h.1) refl

-- two digits, and that they write at most a number
record UpTo (s : List ℕ) (i most : ℕ) : Type 0 where
  digits : Two (get_or s i 0 ∷ get_or s (i + 1) 0 ∷ []) (twoAt s i)
  number : twoAt s i ≤ most

up_to : (s : List ℕ) (i most : ℕ) → pair_to s i most ≡ true → UpTo s i most
unfolding pair_to
up_to s i most e = let h = both (pair s i) (leb (twoAt s i) most) e in record { digits = two_is s i h.0; number = leb-true _ _ h.1 }

record Time (s : List ℕ) : Type 0 where
  hour : UpTo s 9 23
  minute : UpTo s 12 59
  second : UpTo s 15 59

time_is : (s : List ℕ) → is_time s ≡ true → Time s
unfolding is_time
time_is s e =
    let h = both (pair_to s 9 23 && pair_to s 12 59) (pair_to s 15 59) e in
    let k = both (pair_to s 9 23) (pair_to s 12 59) h.0 in
    record { hour = up_to s 9 23 k.0; minute = up_to s 12 59 k.1; second = up_to s 15 59 h.1 }

record Date (s : List ℕ) : Type 0 where
  hundred : Two (get_or s 0 0 ∷ get_or s 1 0 ∷ []) (twoAt s 0)
  year : Two (get_or s 2 0 ∷ get_or s 3 0 ∷ []) (twoAt s 2)
  month : Two (get_or s 4 0 ∷ get_or s 5 0 ∷ []) (twoAt s 4)
  day : Two (get_or s 6 0 ∷ get_or s 7 0 ∷ []) (twoAt s 6)
  is : Day (100 * twoAt s 0 + twoAt s 2) (twoAt s 4) (twoAt s 6)

date_is : (s : List ℕ) → is_date s ≡ true → Date s
unfolding is_date
date_is s e =
    let h = both (pair s 0 && pair s 2 && pair s 4 && pair s 6) (is_day (100 * twoAt s 0 + twoAt s 2) (twoAt s 4) (twoAt s 6)) e in
    let d = both (pair s 0 && pair s 2 && pair s 4) (pair s 6) h.0 in
    let m = both (pair s 0 && pair s 2) (pair s 4) d.0 in
    let y = both (pair s 0) (pair s 2) m.0 in
    record {
      hundred = two_is s 0 y.0;
      year = two_is s 2 y.1;
      month = two_is s 4 m.1;
      day = two_is s 6 d.1;
      is = day_is _ _ _ h.1;
    }

record Parted (s : List ℕ) : Type 0 where
  t : get_or s 8 0 ≡ code "T"
  first : get_or s 11 0 ≡ code ":"
  second : get_or s 14 0 ≡ code ":"

parted_is : (s : List ℕ) → parted s ≡ true → Parted s
unfolding parted
parted_is s e =
    let h = both (eqb (get_or s 8 0) (code "T") && eqb (get_or s 11 0) (code ":")) (eqb (get_or s 14 0) (code ":")) e in
    let k = both (eqb (get_or s 8 0) (code "T")) (eqb (get_or s 11 0) (code ":")) h.0 in
    record { t = eqb-true _ _ k.0; first = eqb-true _ _ k.1; second = eqb-true _ _ h.1 }

-- a text of 17 bytes, taken apart
from_parts : {s : List ℕ} → Long 17 s → Parted s → Time s → Date s → DateTime s
from_parts (more {b = a} (more {b = b} (more {b = c} (more {b = d} (more {b = e} (more {b = f} (more {b = g} (more {b = h} (more {b = i} (more {b = j} (more {b = k} (more {b = l} (more {b = m} (more {b = n} (more {b = o} (more {b = p} (more {b = q} none))))))))))))))))) apart time date =
    let at-t : i ≡ code "T" = apart.t in
    let at_first : l ≡ code ":" = apart.first in
    let at_second : o ≡ code ":" = apart.second in
    rw (at-t, at_first, at_second)
    (datetime date.hundred date.year date.month date.day date.is time.hour.digits time.hour.number time.minute.digits time.minute.number time.second.digits time.second.number refl)

derived : (s : List ℕ) → is_date_time s ≡ true → DateTime s
unfolding is_date_time
derived s e =
    let h = both (eqb (length s) 17) (parted s && is_time s && is_date s) e in
    let k = both (parted s && is_time s) (is_date s) h.1 in
    let m = both (parted s) (is_time s) k.0 in
    from_parts (rw (eqb-true (length s) 17 h.0) at (long s)) (parted_is s m.0) (time_is s m.1) (date_is s k.1)

-- ---- what the grammar derives passes

accepted : {s : List ℕ} → DateTime s → is_date_time s ≡ true
unfolding is_date_time parted is_time pair_to is_date pair twoAt
accepted (datetime (two a b c) (two d e f) (two g h i) (two j k l) day (two m n o) p (two q r s) t (two u v w) x z) =
    rw (z, digit_in m, digit_in n, digit_in q, digit_in r, digit_in u, digit_in v, digit_in a, digit_in b, digit_in d, digit_in e, digit_in g, digit_in h, digit_in j, digit_in k, ← c, ← f, ← i, ← l, ← o, ← s, ← w, day_in day, le-leb _ _ p, le-leb _ _ t, le-leb _ _ x)

-- THE AGREEMENT
pub datetime_exactly : (s : List ℕ) → (is_date_time s ≡ true) ↔ DateTime s
datetime_exactly s = (derived s, accepted)

-- what passes is ASCII
pub datetime_ascii : (s : List ℕ) → is_date_time s ≡ true → ascii s ≡ true
unfolding ascii
datetime_ascii s e = of (derived s e)
  where
    of : {s : List ℕ} → DateTime s → ascii s ≡ true
    of (datetime (two a b c) (two d e f) (two g h i) (two j k l) day (two m n o) p (two q r s) t (two u v w) x z) =
        rw (z, digit_below a, digit_below b, digit_below d, digit_below e, digit_below g, digit_below h, digit_below j, digit_below k, digit_below m, digit_below n, digit_below q, digit_below r, digit_below u, digit_below v)
