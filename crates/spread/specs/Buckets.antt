-- A text's bucket, of so many: its bytes, four at a time, and then a salt are mixed into a number below 2^32, which is scaled. Bytes that
-- are not there count as 0. Assumes nothing.
use Rattle.std.specs.Prelude.{ℕ, zero, suc, ◌+◌, ◌-◌, ◌*◌, ◌/◌, ◌%◌, min, Bool, cond, ◌&&◌, List, length, leb}
use Rattle.draft.specs.Bytes.{unsigned_at}

unfoldable pub mixed : ℕ → ℕ → ℕ
mixed h w = (h + w) * 1540483477 % 4294967296

-- five fours that lie evenly in the text, with no loop, m bytes from the first to the last: of 4 to 20 bytes each is in one of them
unfoldable pub five : List ℕ → ℕ → ℕ
five t m =
    mixed (mixed (mixed (mixed (unsigned_at t 0) (unsigned_at t (m / 4))) (unsigned_at t (m / 2))) (unsigned_at t (m * 3 / 4))) (unsigned_at t m)

-- of 4 to 12 bytes each is in one of three fours that lie evenly in the text
unfoldable pub short : ℕ → Bool
short n = leb 4 n && leb n 12

unfoldable pub three : List ℕ → ℕ → ℕ
three t m = (unsigned_at t 0 * 625341585 + unsigned_at t (m / 2) * 1013904243 + unsigned_at t m * 668265263) % 4294967296

-- what overflows is added, so that the highest bits of a four are not lost
unfoldable pub folded : ℕ → ℕ → ℕ
folded h w = (h + w) * 625341585 % 4294967296 + (h + w) * 625341585 / 4294967296

-- n fours, each sixteen bytes behind the one before, the first at byte k
unfoldable pub lane : List ℕ → ℕ → ℕ → ℕ
lane t k zero = 0
lane t k (suc n) = folded (lane t k n) (unsigned_at t (n * 16 + k))

-- the fours of the first n sixteens, in four lanes
unfoldable pub lanes : List ℕ → ℕ → ℕ
lanes t n = folded (folded (folded (lane t 0 n) (lane t 4 n)) (lane t 8 n)) (lane t 12 n)

-- the same and the last sixteen bytes
unfoldable pub long : List ℕ → ℕ → ℕ
long t n =
    folded
    (folded
    (folded
    (folded (lanes t n) (unsigned_at t (length t - 16)))
    (unsigned_at t (length t - 12)))
    (unsigned_at t (length t - 8)))
    (unsigned_at t (length t - 4))

-- of a text of other lengths than 4 to 12 bytes, of which, if it is long, n sixteens count and the last
unfoldable pub rest : List ℕ → ℕ → ℕ
rest t n = cond (leb 4 (length t)) (cond (leb (length t) 20) (five t (length t - 4)) (long t n % 4294967296)) (mixed 0 (unsigned_at t 0))

-- a text by at most its first 64 bytes and its last sixteen
unfoldable pub mixed_of : List ℕ → ℕ
mixed_of t = cond (short (length t)) (three t (length t - 4)) (rest t (min (length t / 16) 4))

-- a text by all its bytes, so that texts in one another that differ in a few bytes are spread too
unfoldable pub whole_of : List ℕ → ℕ
whole_of t = cond (short (length t)) (three t (length t - 4)) (rest t (length t / 16))

-- a salt, so that equal texts go to different buckets where the salts differ
unfoldable pub scaled_by : ℕ → ℕ → ℕ → ℕ
scaled_by buckets salt h = (h + salt * 1540483477) % 4294967296 * buckets / 4294967296

unfoldable pub bucket_of : ℕ → ℕ → List ℕ → ℕ
bucket_of buckets salt t = scaled_by buckets salt (mixed_of t)

unfoldable pub whole_bucket_of : ℕ → ℕ → List ℕ → ℕ
whole_bucket_of buckets salt t = scaled_by buckets salt (whole_of t)
