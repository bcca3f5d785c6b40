-- Numbers, integers and lengths in their written form are the grammar's. Assumes nothing.
use mathlib.Core.Path.{◌≡◌, refl, sym, ap, ◌∙◌}
use mathlib.Core.Bool.{Bool, true, false, cond}
use mathlib.Core.List.{List, [], ◌∷◌, ◌++◌, append_assoc}
use Prim.Native.Nat.{ℕ, zero, suc, ◌+◌, ◌*◌, ◌-◌, ◌/◌, ◌%◌, ◌<◌}
use Prim.Native.Char.{code}
use native.Mathlib.Omega.{arith}
use lib.ListN.{length}
use lib.Dec.{ltb, eqb}
use borrow.Author.Tests.{le-leb, ne_eqb, eqb-false, ltb-true, ltb-false, leb-true}
use Rattle.lexical.specs.Digits.{digit}
use Rattle.draft.specs.Grammar.{number}
use Rattle.glyph.specs.declared.Edition.{Edition}
use Rattle.glyph.specs.Numbers.{in_range, word}
use Rattle.glyph.specs.Tree.{leaf}
use Rattle.glyph.specs.Grammar.{minus, no_sign, Digits, no_digits, and_digit, value_of, Number, ascii_number, Content, content, empty, Object, integer}
use Rattle.glyph_form.specs.Form.{digits_before, number_before, integer_bytes, content_bytes}
use Rattle.glyph_back.specs.Brief.{Short}

-- a digit's byte
digit_byte : (n : ℕ) → n < 10 → digit (48 + n) ≡ true
unfolding digit
digit_byte n h = rw (le-leb 48 (48 + n) (omega arith), le-leb (48 + n) 57 (omega arith))

-- numbers of so many digits
abbrev limit : ℕ → ℕ
limit zero = 1
limit (suc k) = 10 * limit k

digits_are : (k n : ℕ) {xs : List ℕ} → Digits xs → Digits (digits_before k n xs)
unfolding digits_before
digits_are zero n d = d
digits_are (suc k) n {xs} d = go (ltb n 10) refl (digits_are k (n / 10) (and_digit (digit_byte (n % 10) (omega arith)) d))
  where
    go : (b : Bool) → ltb n 10 ≡ b → Digits (digits_before k (n / 10) ((48 + n % 10) ∷ xs)) → Digits (cond b ((48 + n) ∷ xs) (digits_before k (n / 10) ((48 + n % 10) ∷ xs)))
    go true e h = and_digit (digit_byte n (ltb-true n 10 e)) d
    go false e h = h

value_is : (k n : ℕ) (xs : List ℕ) → n < limit k → value_of 0 (digits_before k n xs) ≡ value_of n xs
unfolding digits_before
value_is zero n xs h = let e : 0 ≡ n = omega arith in ap (λ (m : ℕ). value_of m xs) e
value_is (suc k) n xs h = go (ltb n 10) refl (value_is k (n / 10) ((48 + n % 10) ∷ xs) (omega arith))
  where
    go : (b : Bool) → ltb n 10 ≡ b → value_of 0 (digits_before k (n / 10) ((48 + n % 10) ∷ xs)) ≡ value_of (n / 10) ((48 + n % 10) ∷ xs) → value_of 0 (cond b ((48 + n) ∷ xs) (digits_before k (n / 10) ((48 + n % 10) ∷ xs))) ≡ value_of n xs
    go true e i = let q : 0 * 10 + (48 + n - 48) ≡ n = omega arith in ap (λ (m : ℕ). value_of m xs) q
    go false e i = let q : n / 10 * 10 + (48 + n % 10 - 48) ≡ n = omega arith in i ∙ ap (λ (m : ℕ). value_of m xs) q

-- in front of some bytes
before_are : (k n : ℕ) (xs : List ℕ) → digits_before k n xs ≡ digits_before k n [] ++ xs
unfolding digits_before
before_are zero n xs = refl
before_are (suc k) n xs = go (ltb n 10) (before_are k (n / 10) ((48 + n % 10) ∷ xs)) (before_are k (n / 10) ((48 + n % 10) ∷ []))
  where
    go : (b : Bool) → digits_before k (n / 10) ((48 + n % 10) ∷ xs) ≡ digits_before k (n / 10) [] ++ ((48 + n % 10) ∷ xs) → digits_before k (n / 10) ((48 + n % 10) ∷ []) ≡ digits_before k (n / 10) [] ++ ((48 + n % 10) ∷ []) → cond b ((48 + n) ∷ xs) (digits_before k (n / 10) ((48 + n % 10) ∷ xs)) ≡ cond b ((48 + n) ∷ []) (digits_before k (n / 10) ((48 + n % 10) ∷ [])) ++ xs
    go true e f = refl
    go false e f = e ∙ sym (ap (λ (w : List ℕ). w ++ xs) f ∙ append_assoc (digits_before k (n / 10) []) ((48 + n % 10) ∷ []) xs)

some_before : (k n : ℕ) (x : ℕ) (xs : List ℕ) → 0 < length (digits_before k n (x ∷ xs))
unfolding digits_before
some_before zero n x xs = omega arith
some_before (suc k) n x xs = go (ltb n 10) (some_before k (n / 10) (48 + n % 10) (x ∷ xs))
  where
    go : (b : Bool) → 0 < length (digits_before k (n / 10) ((48 + n % 10) ∷ x ∷ xs)) → 0 < length (cond b ((48 + n) ∷ x ∷ xs) (digits_before k (n / 10) ((48 + n % 10) ∷ x ∷ xs)))
    go true h = omega arith
    go false h = h

some_digit : (k n : ℕ) → 0 < length (digits_before (suc k) n [])
unfolding digits_before
some_digit k n = go (ltb n 10) (some_before k (n / 10) (48 + n % 10) [])
  where
    go : (b : Bool) → 0 < length (digits_before k (n / 10) ((48 + n % 10) ∷ [])) → 0 < length (cond b ((48 + n) ∷ []) (digits_before k (n / 10) ((48 + n % 10) ∷ [])))
    go true h = omega arith
    go false h = h

number_of : {n : ℕ} (zs : List ℕ) → 0 < length zs → Digits zs → n ≡ value_of 0 zs → Number n zs
number_of [] h d e = absurd (omega arith)
number_of (x ∷ zs) h d e = ascii_number d e

-- A NUMBER in its written form
pub number_written : (n : ℕ) → n < 10000000000 → Number n (digits_before 10 n [])
number_written n h = number_of (digits_before 10 n []) (some_digit 9 n) (digits_are 10 n no_digits) (sym (value_is 10 n [] h))

-- A LENGTH and content
pub content_written : (t : List ℕ) → Short t → Content (content_bytes t) t
unfolding content_bytes
content_written [] h = empty
content_written (x ∷ t) h = content (number_written (length (x ∷ t)) h) refl (before_are 10 (length (x ∷ t)) (code ":" ∷ ((x ∷ t) ++ (code ";" ∷ []))))

-- AN INTEGER, by its 32 bits
pub word_fits : (m : Bool) (n : ℕ) → in_range m n ≡ true → word m n < 4294967296
unfolding in_range
word_fits false n h = let l = leb-true n 2147483647 h in omega arith
word_fits true n h = go (eqb n 0) refl
  where
    go : (b : Bool) → eqb n 0 ≡ b → cond b 0 (4294967296 - n) < 4294967296
    go true e = omega arith
    go false e = let z = eqb-false n 0 e in omega (arith, z)

pub integer_written : (e : Edition) (d w : ℕ) → w < 4294967296 → Object e d (integer_bytes w) (leaf 4 (number w))
unfolding integer_bytes in_range
integer_written e d w h = go (ltb w 2147483648) refl
  where
    go : (b : Bool) → ltb w 2147483648 ≡ b → Object e d (code "i" ∷ cond b (number_before w (code ";" ∷ [])) (code "-" ∷ number_before (4294967296 - w) (code ";" ∷ []))) (leaf 4 (number w))
    go true i = let l = ltb-true w 2147483648 i in integer no_sign (number_written w (omega arith)) (le-leb w 2147483647 (omega arith)) refl (before_are 10 w (code ";" ∷ []))
    go false i =
        let l = ltb-false w 2147483648 i in
        let q : w ≡ 4294967296 - (4294967296 - w) = omega arith in
        integer minus (number_written (4294967296 - w) (omega arith)) (le-leb (4294967296 - w) 2147483648 (omega arith)) (q ∙ rw (ne_eqb (4294967296 - w) 0 (λ z. omega arith))) (ap (λ (xs : List ℕ). code "-" ∷ xs) (before_are 10 (4294967296 - w) (code ";" ∷ [])))
