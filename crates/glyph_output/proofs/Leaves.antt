-- What answers the returns of the functions that put objects without children. Assumes nothing.
use mathlib.Core.Path.{◌≡◌, refl, sym, ◌∙◌}
use mathlib.Core.Bool.{Bool, true, false, cond}
use mathlib.Core.List.{List, [], ◌∷◌, ◌++◌}
use Prim.Native.Nat.{ℕ, zero, suc, ◌+◌, ◌-◌, ◌*◌, ◌/◌, ◌%◌, ◌≤◌, ◌<◌}
use native.Mathlib.Omega.{arith}
use native.Mathlib.Nat.{suc-add}
use lib.ListN.{length}
use lib.Dec.{ltb}
use borrow.Author.Tests.{lt-ltb, le-ltb, ltb-true, ltb-false, eq-eqb, ne_eqb}
use Rattle.glyph_form.specs.Form.{digits_before, number_before, integer_bytes, boolean_bytes, content_bytes}
use Rattle.glyph_output.specs.Contract.{Open, Adds, four_digits}
use Rattle.glyph_output.proofs.Adding.{adds_both}

-- a number's digits in front of some bytes
digits_before_lem : (k n : ℕ) (xs ys : List ℕ) → digits_before k n xs ++ ys ≡ digits_before k n (xs ++ ys)
unfolding digits_before
digits_before_lem zero n xs ys = refl
digits_before_lem (suc k) n xs ys = go (ltb n 10) (digits_before_lem k (n / 10) ((48 + n % 10) ∷ xs) ys)
  where
    go : (b : Bool) → digits_before k (n / 10) ((48 + n % 10) ∷ xs) ++ ys ≡ digits_before k (n / 10) ((48 + n % 10) ∷ (xs ++ ys)) → cond b ((48 + n) ∷ xs) (digits_before k (n / 10) ((48 + n % 10) ∷ xs)) ++ ys ≡ cond b ((48 + n) ∷ (xs ++ ys)) (digits_before k (n / 10) ((48 + n % 10) ∷ (xs ++ ys)))
    go true e = refl
    go false e = e

digits_one : (k n : ℕ) (xs : List ℕ) → n < 10 → digits_before (suc k) n xs ≡ (48 + n) ∷ xs
unfolding digits_before
digits_one k n xs h = rw (lt-ltb n 10 h)

digits_more : (k n : ℕ) (xs : List ℕ) → 10 ≤ n → digits_before (suc k) n xs ≡ digits_before k (n / 10) ((48 + n % 10) ∷ xs)
unfolding digits_before
digits_more k n xs h = rw (le-ltb n 10 h)

-- places for more digits than a number has change nothing
ten : ℕ → ℕ
ten zero = 10
ten (suc k) = 10 * ten k

digits_enough : (m k n : ℕ) (xs : List ℕ) → n < ten k → digits_before (suc (k + m)) n xs ≡ digits_before (suc k) n xs
unfolding ten
digits_enough m zero n xs h = digits_one (zero + m) n xs h ∙ sym (digits_one zero n xs h)
digits_enough m (suc k) n xs h = go (ltb n 10) refl (digits_enough m k (n / 10) ((48 + n % 10) ∷ xs))
  where
    go : (b : Bool) → ltb n 10 ≡ b → (n / 10 < ten k → digits_before (suc (k + m)) (n / 10) ((48 + n % 10) ∷ xs) ≡ digits_before (suc k) (n / 10) ((48 + n % 10) ∷ xs)) → digits_before (suc (suc k + m)) n xs ≡ digits_before (suc (suc k)) n xs
    go true e ih = let l = ltb-true n 10 e in digits_one (suc k + m) n xs l ∙ sym (digits_one (suc k) n xs l)
    go false e ih =
        let l = ltb-false n 10 e in
        digits_more (suc k + m) n xs l ∙ rw suc-add (ih (omega arith)) ∙ sym (digits_more (suc k) n xs l)

-- the last four digits
digits_four : (k n : ℕ) (xs : List ℕ) → 10000 ≤ n → digits_before (suc (suc (suc (suc k)))) n xs ≡ digits_before k (n / 10000) (four_digits (n % 10000) ++ xs)
digits_four k n xs h =
    let a : n / 10 / 10 / 10 / 10 ≡ n / 10000 = omega arith in
    let b : n / 10 / 10 / 10 % 10 ≡ n % 10000 / 1000 = omega arith in
    let c : n / 10 / 10 % 10 ≡ n % 10000 / 100 % 10 = omega arith in
    let d : n / 10 % 10 ≡ n % 10000 / 10 % 10 = omega arith in
    let e : n % 10 ≡ n % 10000 % 10 = omega arith in
    digits_more (suc (suc (suc k))) n xs (omega arith)
    ∙ digits_more (suc (suc k)) (n / 10) ((48 + n % 10) ∷ xs) (omega arith)
    ∙ digits_more (suc k) (n / 10 / 10) ((48 + n / 10 % 10) ∷ (48 + n % 10) ∷ xs) (omega arith)
    ∙ digits_more k (n / 10 / 10 / 10) ((48 + n / 10 / 10 % 10) ∷ (48 + n / 10 % 10) ∷ (48 + n % 10) ∷ xs) (omega arith)
    ∙ rw (a, b, c, d, e)

module _ {o : List ℕ} {most at : ℕ} (p : Open most (length o) at) (n : ℕ) where
  pub one_digit : {d : ℕ} {o₁ : List ℕ} {r : ℕ} → n < 10 → d ≡ 48 + n % 10 → Adds (d ∷ []) most o at o₁ r → Adds (digits_before 10 n []) most o at o₁ r
  one_digit {d} h e f = let q : d ≡ 48 + n = omega arith in rw (digits_one 9 n [] h) (rw q at f)

  pub two_digits : {c d : ℕ} {o₁ : List ℕ} {r : ℕ} → 10 ≤ n → n < 100 → c ≡ 48 + n / 10 % 10 → d ≡ 48 + n % 10 → Adds (c ∷ d ∷ []) most o at o₁ r → Adds (digits_before 10 n []) most o at o₁ r
  two_digits {c} h l e g f =
      let q : c ≡ 48 + n / 10 = omega arith in
      rw (digits_more 9 n [] h, digits_one 8 (n / 10) ((48 + n % 10) ∷ []) (omega arith)) (rw (q, g) at f)

  pub three_digits :
      {b c d : ℕ} {o₁ : List ℕ} {r : ℕ} → 100 ≤ n → n < 1000 → b ≡ 48 + n / 100 % 10 → c ≡ 48 + n / 10 % 10 → d ≡ 48 + n % 10 → Adds (b ∷ c ∷ d ∷ []) most o at o₁ r
      → Adds (digits_before 10 n []) most o at o₁ r
  three_digits {b} h l e g i f =
      let q : b ≡ 48 + n / 100 = omega arith in
      let u : n / 10 / 10 ≡ n / 100 = omega arith in
      rw (digits_more 9 n [] (omega arith), digits_more 8 (n / 10) ((48 + n % 10) ∷ []) (omega arith), u, digits_one 7 (n / 100) ((48 + n / 10 % 10) ∷ (48 + n % 10) ∷ []) (omega arith)) (rw (q, g, i) at f)

  pub four_digits_lem : {o₁ : List ℕ} {r : ℕ} → 1000 ≤ n → n < 10000 → Adds (four_digits n) most o at o₁ r → Adds (digits_before 10 n []) most o at o₁ r
  four_digits_lem m k f =
      let q : n / 10 / 10 / 10 ≡ n / 1000 = omega arith in
      let u : n / 10 / 10 % 10 ≡ n / 100 % 10 = omega arith in
      rw (digits_more 9 n [] (omega arith), digits_more 8 (n / 10) ((48 + n % 10) ∷ []) (omega arith), digits_more 7 (n / 10 / 10) ((48 + n / 10 % 10) ∷ (48 + n % 10) ∷ []) (omega arith), q, u, digits_one 6 (n / 1000) ((48 + n / 100 % 10) ∷ (48 + n / 10 % 10) ∷ (48 + n % 10) ∷ []) (omega arith)) f

  pub four_put :
      {a b c d : ℕ} {o₁ : List ℕ} {r : ℕ} → n < 10000 → a ≡ 48 + n / 1000 % 10 → b ≡ 48 + n / 100 % 10 → c ≡ 48 + n / 10 % 10 → d ≡ 48 + n % 10
      → Adds (a ∷ b ∷ c ∷ d ∷ []) most o at o₁ r → Adds (four_digits n) most o at o₁ r
  four_put {a} h e g i j f = let q : a ≡ 48 + n / 1000 = omega arith in rw (q, g, i, j) at f

  -- the digits before the last four, and those
  pub more_digits : {o₁ o₂ : List ℕ} {a r : ℕ} → 10000 ≤ n → n < 4294967296 → Adds (digits_before 10 (n / 10000) []) most o at o₁ a → Adds (four_digits (n % 10000)) most o₁ a o₂ r → Adds (digits_before 10 n []) most o at o₂ r
  unfolding ten
  more_digits h l f g =
      rw (digits_four 6 n [] h, ← digits_enough 4 5 (n / 10000) (four_digits (n % 10000)) (omega arith))
      (rw (digits_before_lem 10 (n / 10000) [] (four_digits (n % 10000))) at (adds_both p f g))

module _ {o : List ℕ} {most at : ℕ} (p : Open most (length o) at) where
  module _ {o₁ o₂ : List ℕ} {a r : ℕ} where
    pub number_put : (n b : ℕ) → Adds (digits_before 10 n []) most o at o₁ a → Adds (b ∷ []) most o₁ a o₂ r → Adds (number_before n (b ∷ [])) most o at o₂ r
    number_put n b f g = rw (digits_before_lem 10 n [] (b ∷ [])) at (adds_both p f g)

    pub positive_put : (n : ℕ) → n < 2147483648 → Adds (105 ∷ []) most o at o₁ a → Adds (number_before n (59 ∷ [])) most o₁ a o₂ r → Adds (integer_bytes n) most o at o₂ r
    unfolding integer_bytes
    positive_put n h f g = rw (lt-ltb n 2147483648 h) (adds_both p f g)

    pub minus_put : (n : ℕ) → Adds (45 ∷ []) most o at o₁ a → Adds (number_before (4294967296 - n) (59 ∷ [])) most o₁ a o₂ r → Adds (45 ∷ number_before (4294967296 - n) (59 ∷ [])) most o at o₂ r
    minus_put n f g = adds_both p f g

    pub negative_put : (n : ℕ) → 2147483648 ≤ n → Adds (105 ∷ []) most o at o₁ a → Adds (45 ∷ number_before (4294967296 - n) (59 ∷ [])) most o₁ a o₂ r → Adds (integer_bytes n) most o at o₂ r
    unfolding integer_bytes
    negative_put n h f g = rw (le-ltb n 2147483648 h) (adds_both p f g)

    pub ended_put : (t : List ℕ) → Adds t most o at o₁ a → Adds (59 ∷ []) most o₁ a o₂ r → Adds (t ++ (59 ∷ [])) most o at o₂ r
    ended_put t f g = adds_both p f g

    pub counted_put : (t : List ℕ) → Adds (number_before (length t) (58 ∷ [])) most o at o₁ a → Adds (t ++ (59 ∷ [])) most o₁ a o₂ r → Adds (number_before (length t) (58 ∷ (t ++ (59 ∷ [])))) most o at o₂ r
    counted_put t f g = rw (digits_before_lem 10 (length t) (58 ∷ []) (t ++ (59 ∷ []))) at (adds_both p f g)

    pub content_put : (b : ℕ) (t : List ℕ) → (length t ≡ 0 → ⊥) → Adds (b ∷ []) most o at o₁ a → Adds (number_before (length t) (58 ∷ (t ++ (59 ∷ [])))) most o₁ a o₂ r → Adds (b ∷ content_bytes t) most o at o₂ r
    unfolding content_bytes
    content_put b [] h f g = absurd (h refl)
    content_put b (x ∷ t) h f g = adds_both p f g

  pub false_put : {o₁ : List ℕ} {r : ℕ} (n : ℕ) → n ≡ 0 → Adds (70 ∷ 59 ∷ []) most o at o₁ r → Adds (boolean_bytes n) most o at o₁ r
  unfolding boolean_bytes
  false_put n e f = rw (eq-eqb n 0 e) f

  pub true_put : {o₁ : List ℕ} {r : ℕ} (n : ℕ) → (n ≡ 0 → ⊥) → Adds (84 ∷ 59 ∷ []) most o at o₁ r → Adds (boolean_bytes n) most o at o₁ r
  unfolding boolean_bytes
  true_put n e f = rw (ne_eqb n 0 e) f

  -- a text, empty or not
  pub empty_put : {o₁ : List ℕ} {r : ℕ} (b : ℕ) (t : List ℕ) → length t ≡ 0 → Adds (b ∷ 59 ∷ []) most o at o₁ r → Adds (b ∷ content_bytes t) most o at o₁ r
  unfolding content_bytes
  empty_put b [] e f = f
  empty_put b (x ∷ t) e f = absurd (omega (arith, e))

pub ruleset leaves = (one_digit, two_digits, three_digits, four_digits_lem, four_put, more_digits, number_put, positive_put, minus_put, negative_put, ended_put, counted_put, false_put, true_put, empty_put, content_put)
