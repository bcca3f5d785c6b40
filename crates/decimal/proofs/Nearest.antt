-- The value of a decimal is the f64 nearest to the text's number: the whole number and the power are exact, so only the division rounds. Assumes nothing.
use mathlib.Core.Path.{◌≡◌, refl, sym, ap, ◌∙◌}
use mathlib.Core.Bool.{Bool, true, false, cond, not}
use mathlib.Core.List.{List}
use Prim.Native.Nat.{ℕ, zero, suc, ◌+◌, ◌*◌, ◌^◌, ◌≤◌, ◌<◌}
use native.Mathlib.Omega.{arith}
use native.Mathlib.Nat.{mul_assoc, mul_comm, mul_left_comm, mul-one, zero-mul, mul-pos, one-le-pow, zero-lt-suc}
use lib.ListN.{length}
use lib.Dec.{T, leb, ltb}
use lib.Ieee.{Float, nan, inf, fin, Format, binary64, prec, emax, low, up, down, odd, units, round, neg, div, of_int, is_nan}
use lib.Ieee.Fits.{round_is, down_pos}
use lib.Ieee.Exact.{HasValue}
use lib.Ieee.Scale.{round_same}
use lib.Ieee.Back.{round_whole}
use borrow.Author.Tests.{ne_eqb, leb-true}
use Rattle.text.proofs.Comparing.{both}
use Rattle.std.proofs.Common.{Ok}
use Rattle.decimal.specs.Digits.{digits_of, significant, whole, places, negative}
use Rattle.decimal.specs.Decimal.{power, quotient, signed, held, decimal_of, nearest_to, too_many}
use Rattle.decimal.proofs.Powers.{power_exact}
use Rattle.decimal.proofs.Gathering.{significant_small}

-- ---- the other sign

neg_odd : (d q k l : ℕ) → neg (odd d false q k l) ≡ odd d true q k l
unfolding neg odd
neg_odd d zero k l = refl
neg_odd d (suc q) k l = refl

neg_units : (f : Format) (q k : ℕ) → neg (units f false q k) ≡ units f true q k
unfolding units neg
neg_units f q k = go (ltb (q * 2 ^ k) (2 ^ (low f + suc (emax f))))
  where
    go : (b : Bool) → neg (cond b (odd (suc (prec f)) false q k (low f)) (inf false)) ≡ cond b (odd (suc (prec f)) true q k (low f)) (inf true)
    go true = neg_odd (suc (prec f)) q k (low f)
    go false = refl

neg_round : (f : Format) (a b : ℕ) → neg (round f false a b) ≡ round f true a b
neg_round f a b = ap neg (round_is f false a b) ∙ neg_units f _ _ ∙ sym (round_is f true a b)

-- ---- a quotient of two values that are whole numbers

scaled : (m n x p d y : ℕ) → m * 1 ≡ n * x → p * 1 ≡ d * y → m * y * d ≡ n * (p * x)
scaled m n x p d y e f =
    let g : m ≡ n * x = sym (mul-one m) ∙ e in
    let h : p ≡ d * y = sym (mul-one p) ∙ f in
    rw (g, h) (simp (mul_assoc, mul_comm, mul_left_comm))

div_round : (f : Format) (x y : Float) (n d : ℕ) → 0 < d → HasValue x false n 1 → HasValue y false d 1 → div f x y ≡ round f false n d
unfolding div
div_round f nan y n d D a b = absurd a
div_round f (inf s) y n d D a b = absurd a
div_round f (fin s m e) nan n d D a b = absurd b
div_round f (fin s m e) (inf t) n d D a b = absurd b
div_round f (fin s m e) (fin t p g) n d D a b =
    let above : 0 < d * down g = mul-pos D (down_pos g) in
    let some : 0 < p * up g = omega (arith, b.1) in
    let nonzero : p ≡ 0 → ⊥ = λ z. omega (arith, ap (λ q. q * up g) z ∙ zero-mul (up g)) in
    rw (ne_eqb p 0 nonzero, a.0, b.0)
    (round_same f false (m * up e * down g) (p * up g * down e) n d (mul-pos some (down_pos e)) D (scaled (m * up e) n (down e) (p * up g) d (down g) a.1 b.1))

pub quotient_nearest : (n k : ℕ) → n < 10 ^ 15 → k ≤ 22 → quotient n k ≡ round binary64 false n (10 ^ k)
unfolding quotient of_int
quotient_nearest n k h l =
    div_round binary64 (round binary64 false n 1) (power k) n (10 ^ k) (one-le-pow k 10 (zero-lt-suc 9)) (round_whole binary64 false n (omega arith)) (power_exact k l)

pub signed_nearest : (minus : Bool) (n k : ℕ) → n < 10 ^ 15 → k ≤ 22 → signed minus (quotient n k) ≡ round binary64 minus n (10 ^ k)
unfolding signed
signed_nearest true n k h l = ap neg (quotient_nearest n k h l) ∙ neg_round binary64 n (10 ^ k)
signed_nearest false n k h l = quotient_nearest n k h l

-- ---- the text's value

pub nearest : (s : List ℕ) → held s ≡ true → decimal_of s ≡ Ok (nearest_to s)
unfolding held decimal_of nearest_to
nearest s e =
    let h = both (leb (length (significant (digits_of s))) 15) (leb (places s) 22) e in
    rw (h.0, h.1)
    (ap Ok
    (signed_nearest (negative s) (whole 0 (significant (digits_of s))) (places s) (significant_small s (leb-true _ 15 h.0)) (leb-true _ 22 h.1)))

-- ---- what is rounded is no NaN, so the value has bits

units_number : (f : Format) (s : Bool) (q k : ℕ) → T (not (is_nan (units f s q k)))
unfolding units odd is_nan
units_number f s q k = go (ltb (q * 2 ^ k) (2 ^ (low f + suc (emax f)))) q
  where
    go : (b : Bool) (r : ℕ) → T (not (is_nan (cond b (odd (suc (prec f)) s r k (low f)) (inf s))))
    go true zero = tt
    go true (suc r) = tt
    go false r = tt

round_number : (f : Format) (s : Bool) (a b : ℕ) → T (not (is_nan (round f s a b)))
round_number f s a b = rw (round_is f s a b) (units_number f s _ _)

pub value_number : (s : List ℕ) {x : Float} → decimal_of s ≡ Ok x → T (not (is_nan x))
unfolding decimal_of nearest_to
value_number s {x} e = go (held s) refl e
  where
    go : (t : Bool) → held s ≡ t → cond t (Ok (signed (negative s) (quotient (whole 0 (significant (digits_of s))) (places s)))) too_many ≡ Ok x → T (not (is_nan x))
    go true h q = let n : x ≡ nearest_to s = cc (nearest s h) in rw n (round_number binary64 (negative s) (whole 0 (significant (digits_of s))) (10 ^ places s))
    go false h q = let z : ◌≡◌ {A = ℕ} 0 1 = cc in absurd (omega arith)
