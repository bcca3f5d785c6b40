-- What those words come to in the definitions: of an Integer's bits, of a decimal, of byte order. Assumes nothing.
use mathlib.Core.Path.{◌≡◌, refl, ap, ◌∙◌}
use mathlib.Core.Bool.{Bool, true, false, cond}
use mathlib.Core.Logic.{◌↔◌}
use mathlib.Core.List.{List, [], ◌∷◌, ◌++◌}
use Prim.Native.Nat.{ℕ, ◌+◌, ◌*◌, ◌≤◌, ◌<◌}
use Prim.Native.Char.{code}
use native.Mathlib.Omega.{arith}
use lib.IntN.{pos, ◌-ℤ◌}
use lib.ListN.{length}
use lib.Dec.{ltb, eqb}
use lib.Ieee.{binary64, of_int, div, neg}
use borrow.Author.Tests.{lt-ltb, le-ltb, ltb-true, ltb-false, eqb-true, ne_eqb}
use Rattle.text.specs.Texts.{same}
use Rattle.lexical.specs.Digits.{digit_value}
use Rattle.lexical.specs.Grammar.{Sign, none, plus, minus}
use Rattle.std.proofs.Common.{Ok}
use Rattle.decimal.specs.Digits.{significant, whole}
use Rattle.decimal.specs.Decimal.{power, held, decimal_of}
use Rattle.decimal.specs.Decimal as decimal
use Rattle.std.proofs.Common.{Less, Greater}
use Rattle.order.specs.ByteOrder.{compared}
use Rattle.order.proofs.Ordering.{before_equal, before_after}
use Rattle.lookup_answer.specs.Answers.{signed}
use Rattle.meant.specs.Parts.{values, Parts}
use Rattle.demands_lookups.specs.Spelled.{
  ZerosDropped,
  no_digits,
  leading_zero,
  first_digit,
  WholeNumber,
  nothing,
  digit_behind,
  BytesBefore,
  ends_first,
  smaller_byte,
  same_byte,
}
use Rattle.demands_lookups.proofs.Lookups.{held_exactly, held_value}

-- 32 bits are two's complement
pub twos_complement : (n : ℕ) → (n < 2147483648 → signed n ≡ pos n) × (2147483648 ≤ n → signed n ≡ pos n -ℤ pos 4294967296)
unfolding signed
twos_complement n = (λ h. rw (lt-ltb n 2147483648 h), λ h. rw (le-ltb n 2147483648 h))

-- ---- a decimal

values_length : (ds : List ℕ) → length (values ds) ≡ length ds
unfolding values
values_length [] = refl
values_length (d ∷ ds) = rw (values_length ds)

dropped : {ds es : List ℕ} → ZerosDropped ds es → length (significant (values ds)) ≡ length es
unfolding values significant
dropped no_digits = refl
dropped (leading_zero h) = dropped h
dropped (first_digit {d} {ds} h) = let e : eqb (digit_value d) 0 ≡ false = ne_eqb (digit_value d) 0 (λ z. omega (arith, z, h)) in rw (e, values_length ds)

values_behind : (ds : List ℕ) (b : ℕ) → values (ds ++ (b ∷ [])) ≡ values ds ++ (digit_value b ∷ [])
unfolding values
values_behind [] b = refl
values_behind (d ∷ ds) b = rw (values_behind ds b)

whole_behind : (n : ℕ) (ds : List ℕ) (d : ℕ) → whole n (ds ++ (d ∷ [])) ≡ 10 * whole n ds + d
unfolding whole
whole_behind n [] d = refl
whole_behind n (e ∷ ds) d = whole_behind (10 * n + e) ds d

-- leading zeros count nothing
whole_significant : (ds : List ℕ) → whole 0 (significant ds) ≡ whole 0 ds
unfolding whole significant
whole_significant [] = refl
whole_significant (d ∷ ds) = by (whole_significant ds) (eqb d 0) refl
  where
    by : whole 0 (significant ds) ≡ whole 0 ds → (b : Bool) → eqb d 0 ≡ b → whole 0 (cond b (significant ds) (d ∷ ds)) ≡ whole 0 (d ∷ ds)
    by ih true e = let z : d ≡ 0 = eqb-true d 0 e in rw z ih
    by ih false e = refl

written_number : {ds : List ℕ} {n : ℕ} → WholeNumber ds n → whole 0 (values ds) ≡ n
unfolding whole values
written_number nothing = refl
written_number (digit_behind {ds} {n} {d} h few) =
    let e = written_number h in
    let i : 10 * whole 0 (values ds) + digit_value (code "0" + d) ≡ n * 10 + d = omega (arith, e) in
    ap (whole 0) (values_behind ds (code "0" + d)) ∙ whole_behind 0 (values ds) (digit_value (code "0" + d)) ∙ i

counts : {ds : List ℕ} {n : ℕ} → WholeNumber ds n → whole 0 (significant (values ds)) ≡ n
counts {ds} h = whole_significant (values ds) ∙ written_number h

no_minus : {sign : List ℕ} → Sign sign → (sign ≡ code "-" ∷ [] → ⊥) → same sign (code "-" ∷ []) ≡ false
unfolding same
no_minus none h = refl
no_minus plus h = refl
no_minus minus h = absurd (h refl)

module _ {sign before fraction t : List ℕ} (p : Parts sign before fraction t) where
  pub holds_digits : {ds : List ℕ} → ZerosDropped (before ++ fraction) ds → (held t ≡ true) ↔ ((length ds ≤ 15) × (length fraction ≤ 22))
  holds_digits z = rw (dropped z) at (held_exactly p)

  module _ {n : ℕ} (w : WholeNumber (before ++ fraction) n) (e : held t ≡ true) where
    -- without a minus the value is the quotient,
    pub value_plain : Sign sign → (sign ≡ code "-" ∷ [] → ⊥) → decimal_of t ≡ Ok (div binary64 (of_int binary64 (pos n)) (power (length fraction)))
    unfolding decimal.signed
    value_plain g m = rw (no_minus g m, counts w) at (held_value p e)

    -- with one it is negated
    pub value_minus : sign ≡ code "-" ∷ [] → decimal_of t ≡ Ok (neg (div binary64 (of_int binary64 (pos n)) (power (length fraction))))
    unfolding decimal.signed same
    value_minus m = rw (m, counts w) at (held_value p e)

-- ---- byte order

pub bytes_before : (s t : List ℕ) → compared s t ≡ Less → BytesBefore s t
unfolding compared
bytes_before [] [] e = before_equal e refl
bytes_before [] (c ∷ t) e = ends_first
bytes_before (b ∷ s) [] e = before_after e refl
bytes_before (b ∷ s) (c ∷ t) e = go (bytes_before s t) (ltb b c) refl (ltb c b) refl e
  where
    go : (compared s t ≡ Less → BytesBefore s t) → (p : Bool) → ltb b c ≡ p → (q : Bool) → ltb c b ≡ q → cond p Less (cond q Greater (compared s t)) ≡ Less
        → BytesBefore (b ∷ s) (c ∷ t)
    go ih true f q g e = smaller_byte (ltb-true b c f)
    go ih false f true g e = before_after e refl
    go ih false f false g e = let h : b ≡ c = omega (arith, ltb-false b c f, ltb-false c b g) in rw h (same_byte (ih e))
