-- The test `is_double` and the grammar agree: bytes pass exactly if the grammar derives them. What passes is ASCII. Assumes nothing.
use mathlib.Core.Path.{◌≡◌, refl, ap, ◌∙◌}
use mathlib.Core.Bool.{Bool, true, false, cond, ◌&&◌, ◌||◌}
use mathlib.Core.List.{List, [], ◌∷◌, ◌++◌}
use mathlib.Core.Logic.{◌↔◌}
use Prim.Native.Nat.{ℕ}
use Prim.Native.Char.{code}
use native.Mathlib.Omega.{arith}
use lib.Dec.{leb, ltb, eqb}
use borrow.Author.Tests.{leb-true, le-leb, lt-ltb, eqb-true, ne_eqb}
use Rattle.text.specs.Texts.{ascii}
use Rattle.text.proofs.Comparing.{both, clash}
use Rattle.lexical.specs.Digits.{digit, digits}
use Rattle.lexical.specs.Double.{sign, some_digits, pointed, unsigned, is_double}
use Rattle.lexical.specs.Grammar.{Digit, Digits, one, more, Sign, none, plus, minus, Double, double}

-- ---- what the grammar derives passes

pub digit_in : {b : ℕ} → Digit b → digit b ≡ true
unfolding digit
digit_in d = rw (le-leb _ _ d.from, le-leb _ _ d.to)

no_sign : {b : ℕ} → Digit b → sign b ≡ false
unfolding sign
no_sign {b} d = rw (ne_eqb b 43 (λ e. omega (arith, d.from)), ne_eqb b 45 (λ e. omega (arith, d.from)))

digits_in : {s : List ℕ} → Digits s → digits s ≡ true
unfolding digits
digits_in (one d) = rw (digit_in d)
digits_in (more d r) = rw (digit_in d) (digits_in r)

some_in : {s : List ℕ} → Digits s → some_digits s ≡ true
unfolding some_digits digits
some_in (one d) = rw (digit_in d)
some_in (more d r) = rw (digit_in d) (digits_in r)

no_digit : digit (code ".") ≡ false
unfolding digit
no_digit = refl

pointed_in : {w f : List ℕ} → Digits w → Digits f → pointed (w ++ (code "." ∷ f)) ≡ true
unfolding pointed
pointed_in (one d) f = rw (digit_in d, no_digit) (some_in f)
pointed_in (more d r) f = rw (digit_in d) (pointed_in r f)

unsigned_in : {w f : List ℕ} → Digits w → Digits f → unsigned (w ++ (code "." ∷ f)) ≡ true
unfolding unsigned pointed
unsigned_in (one d) f = rw (digit_in d, no_digit) (some_in f)
unsigned_in (more d r) f = rw (digit_in d) (pointed_in r f)

plain_in : {w f : List ℕ} → Digits w → Digits f → is_double (w ++ (code "." ∷ f)) ≡ true
unfolding is_double
plain_in (one d) f = rw (no_sign d) (unsigned_in (one d) f)
plain_in (more d r) f = rw (no_sign d) (unsigned_in (more d r) f)

accepted : {s : List ℕ} → Double s → is_double s ≡ true
unfolding is_double sign
accepted (double none w f e) = ap is_double e ∙ plain_in w f
accepted (double plus w f e) = ap is_double e ∙ unsigned_in w f
accepted (double minus w f e) = ap is_double e ∙ unsigned_in w f

-- ---- what passes, the grammar derives

pub digit_is : (b : ℕ) → digit b ≡ true → Digit b
unfolding digit
digit_is b e = let h = both (leb 48 b) (leb b 57) e in record { from = leb-true _ _ h.0; to = leb-true _ _ h.1 }

digits_is : (b : ℕ) (s : List ℕ) → Digit b → digits s ≡ true → Digits (b ∷ s)
unfolding digits
digits_is b [] d e = one d
digits_is b (c ∷ s) d e = let h = both (digit c) (digits s) e in more d (digits_is c s (digit_is c h.0) h.1)

some_is : (s : List ℕ) → some_digits s ≡ true → Digits s
unfolding some_digits
some_is [] e = clash e refl
some_is (b ∷ s) e = let h = both (digit b) (digits s) e in digits_is b s (digit_is b h.0) h.1

-- digits, none of them needed, a point, digits: behind a digit they are a Double's rest
record Pointed (s : List ℕ) : Type 0 where
  whole : List ℕ
  fraction : List ℕ
  parts : s ≡ whole ++ (code "." ∷ fraction)
  front : (b : ℕ) → Digit b → Digits (b ∷ whole)
  back : Digits fraction

pointed_is : (s : List ℕ) → pointed s ≡ true → Pointed s
unfolding pointed
pointed_is [] e = clash e refl
pointed_is (b ∷ s) e = go (digit b) refl e (pointed_is s)
  where
    go : (t : Bool) → digit b ≡ t → cond t (pointed s) (eqb b 46 && some_digits s) ≡ true → (pointed s ≡ true → Pointed s) → Pointed (b ∷ s)
    go true f g r =
        let p = r g in
        record {
          whole = b ∷ p.whole;
          fraction = p.fraction;
          parts = ap (λ l. b ∷ l) p.parts;
          front = λ c d. more d (p.front b (digit_is b f));
          back = p.back;
        }
    go false f g r =
        let h = both (eqb b 46) (some_digits s) g in
        record { whole = []; fraction = s; parts = ap (λ c. c ∷ s) (eqb-true b 46 h.0); front = λ c d. one d; back = some_is s h.1 }

unsigned_is : (s : List ℕ) {before t : List ℕ} → Sign before → t ≡ before ++ s → unsigned s ≡ true → Double t
unfolding unsigned
unsigned_is [] g q e = clash e refl
unsigned_is (b ∷ s) {before} g q e =
    let h = both (digit b) (pointed s) e in
    let p = pointed_is s h.1 in
    double g (p.front b (digit_is b h.0)) p.back (q ∙ ap (λ l. before ++ (b ∷ l)) p.parts)

derived : (s : List ℕ) → is_double s ≡ true → Double s
unfolding is_double sign
derived [] e = clash e refl
derived (b ∷ s) e = go (eqb b 43) (eqb b 45) refl refl e
  where
    go : (p m : Bool) → eqb b 43 ≡ p → eqb b 45 ≡ m → cond (p || m) (unsigned s) (unsigned (b ∷ s)) ≡ true → Double (b ∷ s)
    go true m ep em f = unsigned_is s plus (ap (λ c. c ∷ s) (eqb-true b 43 ep)) f
    go false true ep em f = unsigned_is s minus (ap (λ c. c ∷ s) (eqb-true b 45 em)) f
    go false false ep em f = unsigned_is (b ∷ s) none refl f

-- THE AGREEMENT
pub double_exactly : (s : List ℕ) → (is_double s ≡ true) ↔ Double s
double_exactly s = (derived s, accepted)

-- ---- what passes is ASCII

pub digit_below : {b : ℕ} → Digit b → ltb b 128 ≡ true
digit_below {b} d = lt-ltb b 128 (omega (arith, d.to))

digits_ascii : {s : List ℕ} (t : List ℕ) → Digits s → ascii t ≡ true → ascii (s ++ t) ≡ true
unfolding ascii
digits_ascii t (one d) e = rw (digit_below d) e
digits_ascii t (more d r) e = rw (digit_below d) (digits_ascii t r e)

pub double_ascii : (s : List ℕ) → is_double s ≡ true → ascii s ≡ true
unfolding ascii
double_ascii s e = of (derived s e)
  where
    all : {f : List ℕ} → Digits f → ascii f ≡ true
    all (one d) = rw (digit_below d)
    all (more d r) = rw (digit_below d) (all r)

    of : {s : List ℕ} → Double s → ascii s ≡ true
    of (double none w f q) = rw q (digits_ascii _ w (all f))
    of (double plus w f q) = rw q (digits_ascii _ w (all f))
    of (double minus w f q) = rw q (digits_ascii _ w (all f))
