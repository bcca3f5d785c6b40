-- What answers each return and turn of reading a number from a word. Assumes nothing.
use mathlib.Core.Path.{◌≡◌, refl, sym, ap, ◌∙◌}
use mathlib.Core.List.{List, [], ◌∷◌}
use Prim.Native.Nat.{ℕ, ◌+◌, ◌-◌, ◌*◌, ◌≤◌, ◌<◌}
use native.Mathlib.Omega.{arith}
use native.Mathlib.Numerals.{add-one}
use borrow.Author.Tests.{lt-ltb, le-ltb}
use lib.ListN.{length, get_or, drop, drop_of_length-le}
use lib.Seq.{drop-cons}
use Rattle.std.proofs.Common.{Option, Some, None, true, false}
use Rattle.std.specs.Prelude.{SomeIff}
use Rattle.spelling.specs.Number.{digit, with_digit, with_digits, number_of}

module _ (value b : ℕ) where
  pub no_digit : digit b ≡ false → None ≡ with_digit value b
  unfolding with_digit
  no_digit h = rw h

  module _ (d : digit b ≡ true) where
    pub digit_over : (value * 10 + (b - 48) < 18446744073709551616 → ⊥) → None ≡ with_digit value b
    unfolding with_digit
    digit_over k = rw (d, le-ltb (value * 10 + (b - 48)) 18446744073709551616 (omega arith))

    pub digit_in : value * 10 + (b - 48) < 18446744073709551616 → Some (value * 10 + (b - 48)) ≡ with_digit value b
    unfolding with_digit
    digit_in k = rw (d, lt-ltb (value * 10 + (b - 48)) 18446744073709551616 k)

    pub digit_added : (r : Option ℕ) {v : ℕ} → v ≡ value * 10 → SomeIff r (v + (b - 48) < 18446744073709551616) (v + (b - 48)) → r ≡ with_digit value b
    digit_added (Some x) e f = ap Some (let w : x ≡ value * 10 + (b - 48) = omega (arith, f.1) in w) ∙ digit_in (omega (arith, f.0))
    digit_added None e f = digit_over (λ h. f (omega arith))

-- i bytes of a word are read
pub record Parsing (word : List ℕ) (i value : ℕ) : Type 0 where
  pub left : number_of word ≡ with_digits value (drop i word)

pub no_digits : (word : List ℕ) → length word ≡ 0 → None ≡ number_of word
unfolding number_of
no_digits [] h = refl
no_digits (b ∷ s) h = absurd (omega arith)

pub parse_first : (word : List ℕ) → (length word ≡ 0 → ⊥) → Parsing word 0 0
unfolding number_of
parse_first [] h = absurd (h refl)
parse_first (b ∷ s) h = record { left = refl }

module _ (word : List ℕ) {i value : ℕ} (p : Parsing word i value) where
  pub parse_bad : {n : Option ℕ} → i < length word → n ≡ with_digit value (get_or word i 0) → n ≡ None → None ≡ number_of word
  unfolding with_digits
  parse_bad h e f = sym (p.left ∙ rw (drop-cons word i 0 h, ← e, f))

  pub parse_again : {n : Option ℕ} {v : ℕ} → i < length word → n ≡ with_digit value (get_or word i 0) → n ≡ Some v → Parsing word (i + 1) v
  unfolding with_digits
  parse_again h e f = record { left = p.left ∙ rw (drop-cons word i 0 h, ← e, f, add-one) }

  pub parse_done : length word ≤ i → Some value ≡ number_of word
  unfolding with_digits
  parse_done h = sym (p.left ∙ rw (drop_of_length-le word {i = i} h))

pub ruleset parsing = (no_digits, parse_first, parse_bad, parse_again, parse_done)
