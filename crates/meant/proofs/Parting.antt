-- Of a Double, as the grammar derives it, the digits, places and sign are those of its parts. Assumes nothing.
use mathlib.Core.Path.{◌≡◌, refl, sym, ap, ◌∙◌}
use mathlib.Core.Bool.{false}
use mathlib.Core.List.{List, [], ◌∷◌, ◌++◌}
use Prim.Native.Nat.{ℕ}
use Prim.Native.Char.{code}
use native.Mathlib.Omega.{arith}
use lib.ListN.{length}
use borrow.Author.Tests.{ne_eqb}
use Rattle.text.specs.Texts.{same}
use Rattle.lexical.specs.Digits.{digit, digit_value}
use Rattle.lexical.specs.Grammar.{Digit, Digits, one, more, Sign, none, plus, minus}
use Rattle.lexical.proofs.Doubles.{digit_in}
use Rattle.decimal.specs.Digits.{digits_of, places, negative}
use Rattle.meant.specs.Parts.{values, Parts}

digit_counts : {b : ℕ} (s : List ℕ) → Digit b → digits_of (b ∷ s) ≡ digit_value b ∷ digits_of s
unfolding digits_of
digit_counts s d = rw (digit_in d)

digits_count : {w : List ℕ} (s : List ℕ) → Digits w → digits_of (w ++ s) ≡ values w ++ digits_of s
unfolding values
digits_count s (one d) = digit_counts s d
digits_count s (more {b} {s = w} d r) = digit_counts (w ++ s) d ∙ ap (λ (l : List ℕ). digit_value b ∷ l) (digits_count s r)

fraction_counts : {f : List ℕ} → Digits f → digits_of f ≡ values f
unfolding values digits_of
fraction_counts (one d) = digit_counts [] d
fraction_counts (more {b} {s = w} d r) = digit_counts w d ∙ ap (λ (l : List ℕ). digit_value b ∷ l) (fraction_counts r)

values_append : (a b : List ℕ) → values (a ++ b) ≡ values a ++ values b
unfolding values
values_append [] b = refl
values_append (x ∷ a) b = ap (λ (l : List ℕ). digit_value x ∷ l) (values_append a b)

no_point : {b : ℕ} (s : List ℕ) → Digit b → places (b ∷ s) ≡ places s
unfolding places
no_point {b} s d = rw (ne_eqb b 46 (λ e. omega (arith, d.from)))

before_point : {w : List ℕ} (s : List ℕ) → Digits w → places (w ++ s) ≡ places s
before_point s (one d) = no_point s d
before_point s (more {b} {s = w} d r) = no_point (w ++ s) d ∙ before_point s r

no_minus : {w : List ℕ} (s : List ℕ) → Digits w → negative (w ++ s) ≡ false
unfolding negative
no_minus s (one {b} d) = ne_eqb b 45 (λ e. omega (arith, d.from))
no_minus s (more {b} d r) = ne_eqb b 45 (λ e. omega (arith, d.from))

-- without a sign
module _ {w f : List ℕ} (dw : Digits w) (df : Digits f) where
  plain_digits : digits_of (w ++ (code "." ∷ f)) ≡ values (w ++ f)
  unfolding digits_of digit
  plain_digits = digits_count (code "." ∷ f) dw ∙ ap (λ (l : List ℕ). values w ++ l) (fraction_counts df) ∙ sym (values_append w f)

  plain_places : places (w ++ (code "." ∷ f)) ≡ length f
  unfolding places
  plain_places = before_point (code "." ∷ f) dw

pub double_parts : {sign w f s : List ℕ} → Sign sign → Digits w → Digits f → s ≡ sign ++ (w ++ (code "." ∷ f)) → Parts sign w f s
unfolding digits_of digit places negative same
double_parts none dw df e = rw e (record { digits = plain_digits dw df; after = plain_places dw df; minus = no_minus _ dw })
double_parts plus dw df e = rw e (record { digits = plain_digits dw df; after = plain_places dw df; minus = refl })
double_parts minus dw df e = rw e (record { digits = plain_digits dw df; after = plain_places dw df; minus = refl })
