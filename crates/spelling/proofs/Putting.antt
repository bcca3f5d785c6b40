-- What answers each return and turn of the functions that put bytes into a line. Assumes nothing.
use mathlib.Core.Path.{◌≡◌, refl, sym, ◌∙◌}
use mathlib.Core.List.{List, [], ◌∷◌, ◌++◌}
use Prim.Native.Nat.{ℕ, zero, suc, ◌+◌, ◌-◌, ◌/◌, ◌%◌, ◌≤◌, ◌<◌}
use native.Mathlib.Omega.{arith}
use native.Mathlib.Numerals.{add-one, sub-one}
use borrow.Author.Tests.{lt-ltb, le-ltb}
use lib.ListN.{length, get_or, set, drop, drop_of_length-le}
use lib.Seq.{drop-cons}
use Rattle.spelling.specs.Line.{Line, line, put, put_byte, Puts, digits}

-- one byte
module _ (b : ℕ) {o : List ℕ} {at : ℕ} where
  pub puts_byte : at < length o → Puts (b ∷ []) o at (set o at b) (at + 1)
  unfolding put
  puts_byte h = record { is = rw (lt-ltb at (length o) h) }

  pub puts_no_byte : length o ≤ at → Puts (b ∷ []) o at o at
  unfolding put
  puts_no_byte h = record { is = rw (le-ltb at (length o) h) }

-- one after the other
pub put_append : (l : Line) (s t : List ℕ) → put l (s ++ t) ≡ put (put l s) t
unfolding put
put_append l [] t = refl
put_append l (b ∷ s) t = put_append (put_byte l b) s t

module _ {s t o o₁ o₂ : List ℕ} {at m n : ℕ} (p : Puts s o at o₁ m) where
  pub puts_both : Puts t o₁ m o₂ n → Puts (s ++ t) o at o₂ n
  puts_both q = record { is = q.is ∙ rw (p.is, put_append (line o at) s t) }

module _ {s t u o o₁ o₂ o₃ : List ℕ} {at m n k : ℕ} (p : Puts s o at o₁ m) (q : Puts t o₁ m o₂ n) where
  pub puts_three : Puts u o₂ n o₃ k → Puts (s ++ (t ++ u)) o at o₃ k
  puts_three r = puts_both p (puts_both q r)

module _ {s t u v o o₁ o₂ o₃ o₄ : List ℕ} {at m n k i : ℕ} (p : Puts s o at o₁ m) (q : Puts t o₁ m o₂ n) (r : Puts u o₂ n o₃ k) where
  pub puts_four : Puts v o₃ k o₄ i → Puts (s ++ (t ++ (u ++ v))) o at o₄ i
  puts_four w = puts_both p (puts_three q r w)

-- i bytes of a text are put
pub record Putting (text o : List ℕ) (from i : ℕ) (bytes : List ℕ) (at : ℕ) : Type 0 where
  pub left : put (line o from) text ≡ put (line bytes at) (drop i text)
  pub within : i ≤ length text

pub text_first : (text o : List ℕ) (from : ℕ) → Putting text o from 0 o from
text_first text o from = record { left = refl; within = omega arith }

module _ {text o bytes : List ℕ} {from i at : ℕ} (p : Putting text o from i bytes at) where
  pub text_again : {bytes' : List ℕ} {n : ℕ} → i < length text → Puts (get_or text i 0 ∷ []) bytes at bytes' n → Putting text o from (i + 1) bytes' n
  unfolding put
  text_again h q = record { left = p.left ∙ rw (drop-cons text i 0 h, add-one) (rw q.is refl); within = omega arith }

  pub text_done : length text ≤ i → Puts text o from bytes at
  unfolding put
  text_done h = record { is = sym (p.left ∙ rw (drop_of_length-le text {i = i} h)) }

-- digits
module _ {o : List ℕ} {at : ℕ} (n : ℕ) where
  pub puts_no_digit : (most : ℕ) → most ≡ 0 → Puts (digits most n) o at o at
  unfolding digits put
  puts_no_digit most e = record { is = rw e }

  pub puts_last_digit : (most : ℕ) {o' : List ℕ} {m : ℕ} → (most ≡ 0 → ⊥) → n < 10 → Puts ((48 + n) ∷ []) o at o' m → Puts (digits most n) o at o' m
  unfolding digits
  puts_last_digit zero e h p = absurd (e refl)
  puts_last_digit (suc k) e h p = rw (lt-ltb n 10 h) p

  pub puts_digits : (most : ℕ) {o₁ o₂ : List ℕ} {m k : ℕ} → (most ≡ 0 → ⊥) → 10 ≤ n → Puts (digits (most - 1) (n / 10)) o at o₁ m → Puts ((48 + n % 10) ∷ []) o₁ m o₂ k → Puts (digits most n) o at o₂ k
  unfolding digits
  puts_digits zero e h p q = absurd (e refl)
  puts_digits (suc k) e h p q = rw (le-ltb n 10 h) (puts_both (rw (sub-one (suc k)) at p) q)

pub ruleset bytes = (puts_byte, puts_no_byte)

pub ruleset joining = (puts_both, puts_three, puts_four)

pub ruleset texts = (text_first, text_again, text_done)

pub ruleset spelling = (puts_no_digit, puts_last_digit, puts_digits)
