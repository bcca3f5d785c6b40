-- Blanks and digits from a place on. Assumes nothing.
use Rattle.std.proofs.Common.{◌≡◌, refl, ◌∙◌, true, false, List, [], ◌∷◌, ℕ, zero, suc, ◌+◌, ◌-◌, ◌*◌, ◌≤◌, ◌<◌, min, length, get_or, drop, arith, add-one, drop-cons}
use lib.ListN.{drop_of_length-le}
use Rattle.std.specs.Char.{is_ascii_digit}
use Rattle.lexical.specs.Digits.{digit, digit_value}
use Rattle.glyph.specs.Numbers.{is_blank, blanks, past, digits, decimal}
use Rattle.glyph_bytes.specs.Places.{Skipped, Counted}

-- where skipping blanks stands
pub record Skipping (s : List ℕ) (at i : ℕ) : Type 0 where
  pub same : past s at ≡ past s i
  pub ahead : at ≤ i
  pub within : i ≤ length s

blanks_more : (s : List ℕ) (i : ℕ) → is_blank (get_or s i 0) ≡ true → i < length s → blanks (drop i s) ≡ suc (blanks (drop (i + 1) s))
unfolding blanks
blanks_more s i e h = rw (drop-cons s i 0 h, e, add-one)

blanks_none : (s : List ℕ) (i : ℕ) → is_blank (get_or s i 0) ≡ false → i < length s → blanks (drop i s) ≡ 0
unfolding blanks
blanks_none s i e h = rw (drop-cons s i 0 h, e)

blanks_end : (s : List ℕ) (i : ℕ) → length s ≤ i → blanks (drop i s) ≡ 0
unfolding blanks
blanks_end s i h = rw (drop_of_length-le s {i = i} h)

pub skip_first : {s : List ℕ} {at : ℕ} → at ≤ length s → Skipping s at at
skip_first h = record { same = refl; ahead = omega arith; within = h }

module _ {s : List ℕ} {at i : ℕ} (k : Skipping s at i) where
  pub skip_again : i < length s → is_blank (get_or s i 0) ≡ true → Skipping s at (i + 1)
  unfolding past
  skip_again h e = record { same = k.same ∙ omega (arith, blanks_more s i e h); ahead = omega (arith, k.ahead); within = omega arith }

  pub skip_done : i < length s → is_blank (get_or s i 0) ≡ false → Skipped s at i
  unfolding past
  skip_done h e = record { is = omega (arith, k.same, blanks_none s i e h); ahead = k.ahead; within = k.within }

  pub skip_end : length s ≤ i → Skipped s at (length s)
  unfolding past
  skip_end h = record { is = omega (arith, k.same, k.within, blanks_end s i h); ahead = omega (arith, k.ahead); within = omega arith }

-- no test of a byte holds past the end, since none holds of 0
pub get_d_past : (s : List ℕ) (i : ℕ) → length s ≤ i → get_or s i 0 ≡ 0
get_d_past [] i h = refl
get_d_past (x ∷ s) zero h = absurd (omega arith)
get_d_past (x ∷ s) (suc i) h = get_d_past s i (omega arith)

-- where counting digits stands: n is the number so far, v what the code has of it
pub record Counting (s : List ℕ) (at i v : ℕ) : Type 0 where
  pub n : ℕ
  pub ends : at + digits (drop at s) ≡ i + digits (drop i s)
  pub same : decimal 0 (drop at s) ≡ decimal n (drop i s)
  pub is : v ≡ min n 2147483649
  pub ahead : at ≤ i
  pub within : i ≤ length s

pub count_first : {s : List ℕ} {at : ℕ} → at ≤ length s → Counting s at at 0
count_first h = record { n = 0; ends = refl; same = refl; is = refl; ahead = omega arith; within = h }

digits_none : (s : List ℕ) (i : ℕ) → digit (get_or s i 0) ≡ false → digits (drop i s) ≡ 0
unfolding digits
digits_none [] zero e = refl
digits_none [] (suc i) e = refl
digits_none (x ∷ s) zero e = rw e
digits_none (x ∷ s) (suc i) e = digits_none s i e

decimal_none : (s : List ℕ) (i n : ℕ) → digit (get_or s i 0) ≡ false → decimal n (drop i s) ≡ n
unfolding decimal
decimal_none [] zero n e = refl
decimal_none [] (suc i) n e = refl
decimal_none (x ∷ s) zero n e = rw e
decimal_none (x ∷ s) (suc i) n e = decimal_none s i n e

digits_more : (s : List ℕ) (i : ℕ) → digit (get_or s i 0) ≡ true → i < length s → digits (drop i s) ≡ suc (digits (drop (i + 1) s))
unfolding digits
digits_more s i e h = rw (drop-cons s i 0 h, e, add-one)

decimal_more : (s : List ℕ) (i n : ℕ) → digit (get_or s i 0) ≡ true → i < length s → decimal n (drop i s) ≡ decimal (n * 10 + digit_value (get_or s i 0)) (drop (i + 1) s)
unfolding decimal
decimal_more s i n e h = rw (drop-cons s i 0 h, e, add-one)

-- a number that is cut goes on as if it were not, and is cut again
cut : (n d : ℕ) → min (min n 2147483649 * 10 + d) 2147483649 ≡ min (n * 10 + d) 2147483649
cut n d = omega arith

pub count_again : {s : List ℕ} {at i v w : ℕ} → Counting s at i v → i < length s → is_ascii_digit (get_or s i 0) ≡ true → w ≡ min (v * 10 + (get_or s i 0 - 48)) 2147483649 → Counting s at (i + 1) w
unfolding digit
count_again {s} {i = i} k h e g =
    record {
      n = k.n * 10 + digit_value (get_or s i 0);
      ends = k.ends ∙ omega (arith, digits_more s i e h);
      same = k.same ∙ decimal_more s i k.n e h;
      is = g ∙ rw k.is (cut k.n (digit_value (get_or s i 0)));
      ahead = omega (arith, k.ahead);
      within = omega arith;
    }

count_stops : {s : List ℕ} {at i v : ℕ} → Counting s at i v → digit (get_or s i 0) ≡ false → Counted s at i v
count_stops {s} {at} {i} {v} k t =
    record { ends = omega (arith, k.ends, digits_none s i t); is = k.is ∙ rw (k.same, decimal_none s i k.n t); ahead = k.ahead; within = k.within }

pub count_done : {s : List ℕ} {at i v : ℕ} → Counting s at i v → is_ascii_digit (get_or s i 0) ≡ false → Counted s at i v
unfolding digit
count_done k e = count_stops k e

pub count_end : {s : List ℕ} {at i v : ℕ} → Counting s at i v → length s ≤ i → Counted s at i v
unfolding digit
count_end {s} {i = i} k h = count_stops k (rw (get_d_past s i h))

-- what is below the cut
pub count_small : {s : List ℕ} {at i v : ℕ} → Counting s at i v → v ≤ 2147483649
count_small k = omega (arith, k.is)
