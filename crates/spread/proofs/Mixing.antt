-- What answers the returns and turns of the functions that find a text's bucket. Assumes nothing.
use Prim.Native.Nat.{ℕ, zero, suc, ◌+◌, ◌-◌, ◌*◌, ◌/◌, ◌%◌, ◌≤◌, ◌<◌, min}
use mathlib.Core.Path.{◌≡◌, refl, sym, ◌∙◌}
use mathlib.Core.Bool.{Bool, true, false, ◌&&◌, cond}
use mathlib.Core.List.{List, [], ◌∷◌}
use native.Mathlib.Omega.{arith}
use native.Mathlib.Nat.{add-zero, mod-lt, mul-lt-mul_of_pos_right, mul-le-mul_left}
use native.Mathlib.Numerals.{add-one}
use mir.Syntax.{w64}
use mir.Val.{Fits}
use lib.ListN.{length, get_or}
use lib.Dec.{leb}
use borrow.Author.Tests.{le-leb, lt-leb, leb-true}
use Rattle.text.proofs.Comparing.{both}
use Rattle.draft.specs.Bytes.{unsigned_at}
use Rattle.draft.specs.Strings.{Text}
use Rattle.spread.specs.Buckets.{mixed, five, short, three, folded, lane, lanes, long, rest, mixed_of, whole_of, scaled_by, bucket_of, whole_bucket_of}

pub none_past : (t : List ℕ) (i : ℕ) → length t ≤ i → ◌≡◌ {A = ℕ} 0 (get_or t i 0)
none_past [] zero h = refl
none_past [] (suc i) h = refl
none_past (x ∷ t) zero h = absurd (omega arith)
none_past (x ∷ t) (suc i) h = none_past t i (omega arith)

module _ (t : Text) where
  pub few_is : {a b c : ℕ} → length t < 4 → a ≡ get_or t 0 0 → b ≡ get_or t 1 0 → c ≡ get_or t 2 0 → a + b * 256 + c * 65536 ≡ unsigned_at t 0
  few_is l p q r = omega (arith, none_past t 3 (omega arith))

  pub five_is : (m : ℕ) {a b c d e p q r x : ℕ} → a ≡ unsigned_at t 0 → b ≡ unsigned_at t (m / 4) → c ≡ unsigned_at t (m / 2) → d ≡ unsigned_at t (m * 3 / 4) → e ≡ unsigned_at t m → p ≡ mixed a b → q ≡ mixed p c → r ≡ mixed q d → x ≡ mixed r e → x ≡ five t m
  unfolding five
  five_is m ea eb ec ed ee ep eq er ex = ex ∙ rw (er, eq, ep, ea, eb, ec, ed, ee)

  pub rest_few : (n : ℕ) {w x : ℕ} → length t < 4 → w ≡ unsigned_at t 0 → x ≡ mixed 0 w → x ≡ rest t n
  unfolding rest
  rest_few n h p e = e ∙ rw (p, lt-leb 4 (length t) h)

  pub rest_five : (n : ℕ) {x : ℕ} → 4 ≤ length t → length t ≤ 20 → x ≡ five t (length t - 4) → x ≡ rest t n
  unfolding rest
  rest_five n h k e = e ∙ rw (le-leb 4 (length t) h, le-leb (length t) 20 k)

  pub rest_long : (n : ℕ) {x : ℕ} → 4 ≤ length t → 20 < length t → x ≡ long t n → x % 4294967296 ≡ rest t n
  unfolding rest
  rest_long n h k e = rw (e, le-leb 4 (length t) h, lt-leb (length t) 20 k)

  pub three_is : (m : ℕ) {a b c : ℕ} → a ≡ unsigned_at t 0 → b ≡ unsigned_at t (m / 2) → c ≡ unsigned_at t m → (a * 625341585 + b * 1013904243 + c * 668265263) % 4294967296 ≡ three t m
  unfolding three
  three_is m ea eb ec = rw (ea, eb, ec)

  pub bucket_is : (buckets salt : ℕ) {h x n : ℕ} → n ≡ min (length t / 16) 4 → h ≡ cond (short (length t)) (three t (length t - 4)) (rest t n) → x ≡ scaled_by buckets salt h → x ≡ bucket_of buckets salt t
  unfolding bucket_of mixed_of
  bucket_is buckets salt p e f = f ∙ rw (e, p)

-- a text that is long, or any by all its bytes
module _ (t : Text) where
  lane_none : (k : ℕ) → ◌≡◌ {A = ℕ} 0 (lane t k 0)
  unfolding lane
  lane_none k = refl

  lane_first : (i : ℕ) {h w x : ℕ} → h ≡ lane t 0 i → w ≡ unsigned_at t (i * 16) → x ≡ folded h w → x ≡ lane t 0 (i + 1)
  unfolding lane
  lane_first i p q e = e ∙ rw (add-one i, add-zero, p, q)

  lane_again : (k i : ℕ) {h w x : ℕ} → h ≡ lane t k i → w ≡ unsigned_at t (i * 16 + k) → x ≡ folded h w → x ≡ lane t k (i + 1)
  unfolding lane
  lane_again k i p q e = e ∙ rw (add-one i, p, q)

  -- where the loop over the lanes stands
  pub record Lanes (n a b c d i : ℕ) : Type 0 where
    pub within : i ≤ n
    pub first : a ≡ lane t 0 i
    pub second : b ≡ lane t 4 i
    pub third : c ≡ lane t 8 i
    pub fourth : d ≡ lane t 12 i
    pub first_small : a < 8589934592
    pub second_small : b < 8589934592
    pub third_small : c < 8589934592
    pub fourth_small : d < 8589934592

  pub lanes_first : (n : ℕ) → Lanes n 0 0 0 0 0
  lanes_first n =
      record {
        within = omega arith;
        first = lane_none 0;
        second = lane_none 4;
        third = lane_none 8;
        fourth = lane_none 12;
        first_small = omega arith;
        second_small = omega arith;
        third_small = omega arith;
        fourth_small = omega arith;
      }

  pub lanes_again : (n i : ℕ) {a b c d w x y z a' b' c' d' : ℕ} → Lanes n a b c d i → i < n → w ≡ unsigned_at t (i * 16) → x ≡ unsigned_at t (i * 16 + 4) → y ≡ unsigned_at t (i * 16 + 8) → z ≡ unsigned_at t (i * 16 + 12) → (a' ≡ folded a w) × (a' < 8589934592) → (b' ≡ folded b x) × (b' < 8589934592) → (c' ≡ folded c y) × (c' < 8589934592) → (d' ≡ folded d z) × (d' < 8589934592) → Lanes n a' b' c' d' (i + 1)
  lanes_again n i g h ew ex ey ez ea eb ec ed =
      record {
        within = omega arith;
        first = lane_first i g.first ew ea.0;
        second = lane_again 4 i g.second ex eb.0;
        third = lane_again 8 i g.third ey ec.0;
        fourth = lane_again 12 i g.fourth ez ed.0;
        first_small = ea.1;
        second_small = eb.1;
        third_small = ec.1;
        fourth_small = ed.1;
      }

  pub lanes_done : (i n : ℕ) {a b c d x y z : ℕ} → a ≡ lane t 0 i → b ≡ lane t 4 i → c ≡ lane t 8 i → d ≡ lane t 12 i → i ≤ n → n ≤ i → x ≡ folded a b → y ≡ folded x c → z ≡ folded y d → z ≡ lanes t n
  unfolding lanes
  lanes_done i n ea eb ec ed l m ex ey ez = let q : i ≡ n = omega arith in ez ∙ rw (ey, ex, ea, eb, ec, ed, q)

  pub long_is : (n : ℕ) {h a b c d x y z r : ℕ} → h ≡ lanes t n → a ≡ unsigned_at t (length t - 16) → b ≡ unsigned_at t (length t - 12) → c ≡ unsigned_at t (length t - 8) → d ≡ unsigned_at t (length t - 4) → x ≡ folded h a → y ≡ folded x b → z ≡ folded y c → r ≡ folded z d → r ≡ long t n
  unfolding long
  long_is n eh ea eb ec ed ex ey ez er = er ∙ rw (ez, ey, ex, eh, ea, eb, ec, ed)

  pub whole_bucket_is : (buckets salt : ℕ) {h x : ℕ} → h ≡ cond (short (length t)) (three t (length t - 4)) (rest t (length t / 16)) → x ≡ scaled_by buckets salt h → x ≡ whole_bucket_of buckets salt t
  unfolding whole_bucket_of whole_of
  whole_bucket_is buckets salt e f = f ∙ rw e

pub folded_is : (h w : ℕ) {p : ℕ} → p ≡ (h + w) * 625341585 → p % 4294967296 + p / 4294967296 ≡ folded h w
unfolding folded
folded_is h w e = rw e

pub folded_small : (h w : ℕ) {p : ℕ} → h < 8589934592 → w < 8589934592 → p ≡ (h + w) * 625341585 → p % 4294967296 + p / 4294967296 < 8589934592
folded_small h w l m e = omega arith

pub short_is : (n : ℕ) → (leb 4 n && leb n 12) ≡ short n
unfolding short
short_is n = refl

pub short_least : (n : ℕ) {r : Bool} → r ≡ short n → r ≡ true → 4 ≤ n
unfolding short
short_least n e f = leb-true 4 n (both (leb 4 n) (leb n 12) (sym e ∙ f)).0

pub scaled_is : (h buckets salt : ℕ) → (h + salt * 1540483477) % 4294967296 * buckets / 4294967296 ≡ scaled_by buckets salt h
unfolding scaled_by
scaled_is h buckets salt = refl

pub mixed_is : (h w : ℕ) → (h + w) * 1540483477 % 4294967296 ≡ mixed h w
unfolding mixed
mixed_is h w = refl

pub mixed_small : (x : ℕ) → x % 4294967296 < 4294967296
mixed_small x = mod-lt x (omega arith)

pub scaled_fits : (x buckets : ℕ) → buckets ≤ 4096 → Fits w64 (x % 4294967296 * buckets)
scaled_fits x buckets k =
    let l = mixed_small x in
    let m : x % 4294967296 * buckets ≤ x % 4294967296 * 4096 = mul-le-mul_left (x % 4294967296) k in
    omega arith

pub scaled : (h buckets : ℕ) → h < 4294967296 → 0 < buckets → h * buckets / 4294967296 < buckets
scaled h buckets l k = let m : h * buckets < 4294967296 * buckets = mul-lt-mul_of_pos_right l k in omega arith

pub ruleset mixing = (none_past, few_is, five_is, rest_few, rest_five, rest_long, short_is, short_least, three_is, bucket_is, mixed_is, mixed_small, scaled_fits, scaled, scaled_is, lanes_first, lanes_done, long_is, whole_bucket_is, folded_is, folded_small)
