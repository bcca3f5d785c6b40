-- Whether bytes are a DateTime of document 02: 17 bytes as in `19980717T14:08:55`, of a day that there is. Assumes nothing.
use Rattle.std.specs.Prelude.{Bool, cond, not, ◌&&◌, ◌||◌, List, ℕ, ◌+◌, ◌*◌, ◌%◌, length, get_or, leb, eqb}
use Prim.Native.Char.{code}
use Rattle.lexical.specs.Digits.{pair, two}

-- 'by the Gregorian rule': 4 divides a leap year and 100 does not, or 400 does
unfoldable pub leap : ℕ → Bool
leap year = (eqb (year % 4) 0 && not (eqb (year % 100) 0)) || eqb (year % 400) 0

-- how many days a month has, counted from 1: April, June, September and November have 30, February 28, or 29 in a leap year
unfoldable pub month_days : Bool → ℕ → ℕ
month_days inLeap month =
    cond (eqb month 2) (cond inLeap 29 28) (cond (eqb month 4 || eqb month 6 || eqb month 9 || eqb month 11) 30 31)

-- 'month 1 to 12, a day that the month has'
unfoldable pub is_day : ℕ → ℕ → ℕ → Bool
is_day year month day = (leb 1 month && leb month 12) && (leb 1 day && leb day (month_days (leap year) month))

-- a year of four digits, a month and a day of two
unfoldable pub is_date : List ℕ → Bool
is_date s = (pair s 0 && pair s 2 && pair s 4 && pair s 6) && is_day (100 * two s 0 + two s 2) (two s 4) (two s 6)

-- two digits that write at most a number
unfoldable pub pair_to : List ℕ → ℕ → ℕ → Bool
pair_to s i most = pair s i && leb (two s i) most

-- 'hour to 23, minute and second to 59'
unfoldable pub is_time : List ℕ → Bool
is_time s = pair_to s 9 23 && pair_to s 12 59 && pair_to s 15 59

-- the `T` and each `:` in their places
unfoldable pub parted : List ℕ → Bool
parted s = eqb (get_or s 8 0) (code "T") && eqb (get_or s 11 0) (code ":") && eqb (get_or s 14 0) (code ":")

unfoldable pub is_date_time : List ℕ → Bool
is_date_time s = eqb (length s) 17 && (parted s && is_time s && is_date s)
