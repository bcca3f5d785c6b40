-- Document 02's Double and DateTime as productions over bytes, in its words. The tests `is_double` and `is_date_time` take exactly what these derive
-- (`proofs/Doubles`, `proofs/DateTimes`). Assumes nothing.
use Rattle.std.specs.Prelude.{◌≡◌, List, [], ◌∷◌, ◌++◌, ◌≢◌, ℕ, ◌+◌, ◌*◌, ◌%◌, ◌≤◌}
use Prim.Native.Char.{code}
use Rattle.lexical.specs.Digits.{digit_value}

-- Digit := '0' to '9'
pub record Digit (b : ℕ) : Type 0 where
  pub from : code "0" ≤ b
  pub to : b ≤ code "9"

-- Digits := Digit Digit...: 'one digit or more'
pub data Digits : List ℕ → Type 0 where
  one : {b : ℕ} → Digit b → Digits (b ∷ [])
  more : {b : ℕ} {s : List ℕ} → Digit b → Digits s → Digits (b ∷ s)

-- Sign := '+', '-' or nothing: 'an optional sign'
pub data Sign : List ℕ → Type 0 where
  none : Sign []
  plus : Sign (code "+" ∷ [])
  minus : Sign (code "-" ∷ [])

-- 'A Double is now an optional sign, one digit or more, a point, one digit or more.'
-- Double := Sign Digits '.' Digits
pub data Double : List ℕ → Type 0 where
  double :
      {sign whole fraction s : List ℕ}
      → Sign sign
      → Digits whole
      → Digits fraction
      → s ≡ sign ++ (whole ++ (code "." ∷ fraction))
      → Double s

-- '.. leap years, by the Gregorian rule': 4 divides a leap year and 100 does not, or 400 does
pub data Leap (year : ℕ) : Type 0 where
  fourth : year % 4 ≡ 0 → year % 100 ≢ 0 → Leap year
  four_hundredth : year % 400 ≡ 0 → Leap year

-- 'month 1 to 12', and how many days it has in a year
pub data Month (year : ℕ) : ℕ → ℕ → Type 0 where
  january : Month year 1 31
  february : (Leap year → ⊥) → Month year 2 28
  leap_february : Leap year → Month year 2 29
  march : Month year 3 31
  april : Month year 4 30
  may : Month year 5 31
  june : Month year 6 30
  july : Month year 7 31
  august : Month year 8 31
  september : Month year 9 30
  october : Month year 10 31
  november : Month year 11 30
  december : Month year 12 31

-- 'a day that the month has'
pub record Day (year month day : ℕ) : Type 0 where
  pub days : ℕ
  pub has : Month year month days
  pub first : 1 ≤ day
  pub last : day ≤ days

-- two digits, and the number that they write
pub data Two : List ℕ → ℕ → Type 0 where
  two : {a b n : ℕ} → Digit a → Digit b → n ≡ 10 * digit_value a + digit_value b → Two (a ∷ b ∷ []) n

-- 'A DateTime is 17 bytes as in 19980717T14:08:55: month 1 to 12, a day that the month has, hour to 23, minute and second to 59.'
-- DateTime := Year Month Day 'T' Hour ':' Minute ':' Second, a Year of four digits and each of the others of two
pub data DateTime : List ℕ → Type 0 where
  datetime :
      {hundreds years months days hours minutes seconds s : List ℕ} {hundred year month day hour minute second : ℕ}
      → Two hundreds hundred
      → Two years year
      → Two months month
      → Two days day
      → Day (100 * hundred + year) month day
      → Two hours hour
      → hour ≤ 23
      → Two minutes minute
      → minute ≤ 59
      → Two seconds second
      → second ≤ 59
      → s ≡ hundreds ++ (years ++ (months ++ (days ++ (code "T" ∷ hours ++ (code ":" ∷ minutes ++ (code ":" ∷ seconds))))))
      → DateTime s
