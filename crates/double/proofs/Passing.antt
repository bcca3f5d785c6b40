-- What answers the returns and turns of the functions that pass a sign and digits, and of `is_double`. Assumes nothing.
use mathlib.Core.Path.{◌≡◌, refl, sym, ◌∙◌}
use mathlib.Core.Bool.{Bool, true, false, cond, ◌&&◌}
use mathlib.Core.List.{List, [], ◌∷◌}
use Prim.Native.Nat.{ℕ, zero, suc, ◌+◌, ◌≤◌, ◌<◌}
use native.Mathlib.Omega.{arith}
use native.Mathlib.Numerals.{add-one}
use lib.ListN.{length, get_or, drop, length-drop}
use lib.Seq.{drop-cons, drop-drop}
use lib.Dec.{eqb, eqb-suc-suc, eqb-zero-suc}
use borrow.Author.Tests.{eq-eqb, ne_eqb, eqb-true, eqb-false}
use Rattle.text.proofs.Comparing.{ended}
use Rattle.lexical.specs.Digits.{digit, digits}
use Rattle.lexical.specs.Double.{sign, some_digits, pointed, unsigned, is_double}
use Rattle.double.specs.Runs.{sign_length, leading}

-- ---- passing digits

leading_cons : (b : ℕ) (s : List ℕ) → digit b ≡ true → leading (b ∷ s) ≡ suc (leading s)
unfolding leading
leading_cons b s e = rw e

leading_stop : (b : ℕ) (s : List ℕ) → digit b ≡ false → leading (b ∷ s) ≡ 0
unfolding leading
leading_stop b s e = rw e

-- the digits until i are passed: those after them end where those from `at` on end
pub record Passed (s : List ℕ) (at i : ℕ) : Type 0 where
  pub rest : i + leading (drop i s) ≡ at + leading (drop at s)

pub passed_none : {s : List ℕ} {at : ℕ} → Passed s at at
passed_none = record { rest = refl }

module _ {s : List ℕ} {at i : ℕ} (p : Passed s at i) where
  pub passed_end : length s ≤ i → i ≡ at + leading (drop at s)
  unfolding leading
  passed_end h =
      let e : leading (drop i s) ≡ 0 = rw (ended s i h) in
      omega (arith, p.rest)

  module _ {is : Bool} (h : i < length s) (l : is ≡ digit (get_or s i 0)) where
    pub passed_more : is ≡ true → Passed s at (i + 1)
    passed_more f =
        let e : leading (drop i s) ≡ suc (leading (drop (suc i) s)) = rw (drop-cons s i 0 h) (leading_cons _ _ (sym l ∙ f)) in
        record { rest = rw add-one (omega (arith, p.rest)) }

    pub passed_stop : is ≡ false → i ≡ at + leading (drop at s)
    passed_stop f =
        let e : leading (drop i s) ≡ 0 = rw (drop-cons s i 0 h) (leading_stop _ _ (sym l ∙ f)) in
        omega (arith, p.rest)

pub ruleset passing = (passed_none, passed_end, passed_more, passed_stop)

-- ---- the sign

pub sign_end : (s : List ℕ) → length s ≤ 0 → 0 ≡ sign_length s
unfolding sign_length
sign_end [] h = refl
sign_end (x ∷ s) h = absurd (omega arith)

sign_at : (s : List ℕ) {is : Bool} → 0 < length s → is ≡ sign (get_or s 0 0) → sign_length s ≡ cond is 1 0
unfolding sign_length
sign_at [] h e = absurd (omega arith)
sign_at (x ∷ s) h e = rw e

pub sign_one : (s : List ℕ) {is : Bool} → 0 < length s → is ≡ sign (get_or s 0 0) → is ≡ true → 1 ≡ sign_length s
sign_one s h e f = sym (sign_at s h e ∙ rw f)

pub sign_none : (s : List ℕ) {is : Bool} → 0 < length s → is ≡ sign (get_or s 0 0) → is ≡ false → 0 ≡ sign_length s
sign_none s h e f = sym (sign_at s h e ∙ rw f)

pub ruleset signing = (sign_end, sign_one, sign_none)

-- ---- the whole

unsigned_after : (s : List ℕ) → is_double s ≡ unsigned (drop (sign_length s) s)
unfolding is_double sign_length unsigned
unsigned_after [] = refl
unsigned_after (b ∷ s) = go (sign b)
  where
    go : (t : Bool) → cond t (unsigned s) (unsigned (b ∷ s)) ≡ unsigned (drop (cond t 1 0) (b ∷ s))
    go true = refl
    go false = refl

-- what is after the digits of a whole part: nothing good, or a point and digits
stopped : List ℕ → Bool
stopped [] = false
stopped (b ∷ s) = eqb b 46 && some_digits s

pointed_after : (u : List ℕ) → pointed u ≡ stopped (drop (leading u) u)
unfolding pointed leading stopped
pointed_after [] = refl
pointed_after (b ∷ s) = go (digit b) (pointed_after s)
  where
    go : (t : Bool) → pointed s ≡ stopped (drop (leading s) s) → cond t (pointed s) (eqb b 46 && some_digits s) ≡ stopped (drop (cond t (suc (leading s)) 0) (b ∷ s))
    go true e = e
    go false e = refl

unsigned_none : (u : List ℕ) → leading u ≡ 0 → unsigned u ≡ false
unfolding unsigned leading
unsigned_none [] e = refl
unsigned_none (b ∷ s) e = go (digit b) e
  where
    go : (t : Bool) → cond t (suc (leading s)) 0 ≡ 0 → (t && pointed s) ≡ false
    go true f = absurd (omega arith)
    go false f = refl

unsigned_some : (u : List ℕ) → 0 < leading u → unsigned u ≡ pointed u
unfolding unsigned leading pointed
unsigned_some [] h = absurd (omega arith)
unsigned_some (b ∷ s) h = go (digit b) h
  where
    go : (t : Bool) → 0 < cond t (suc (leading s)) 0 → (t && pointed s) ≡ cond t (pointed s) (eqb b 46 && some_digits s)
    go true f = refl
    go false f = absurd (omega arith)

digits_all : (u : List ℕ) → digits u ≡ eqb (leading u) (length u)
unfolding digits leading
digits_all [] = refl
digits_all (b ∷ s) = go (digit b) (digits_all s)
  where
    go : (t : Bool) → digits s ≡ eqb (leading s) (length s) → (t && digits s) ≡ eqb (cond t (suc (leading s)) 0) (suc (length s))
    go true e = e ∙ sym (eqb-suc-suc (leading s) (length s))
    go false e = sym (eqb-zero-suc (length s))

some_none : (u : List ℕ) → leading u ≡ 0 → some_digits u ≡ false
unfolding some_digits leading
some_none [] e = refl
some_none (b ∷ s) e = go (digit b) e
  where
    go : (t : Bool) → cond t (suc (leading s)) 0 ≡ 0 → (t && digits s) ≡ false
    go true f = absurd (omega arith)
    go false f = refl

some_all : (u : List ℕ) → 0 < leading u → some_digits u ≡ digits u
unfolding some_digits digits leading
some_all [] h = absurd (omega arith)
some_all (b ∷ s) h = refl

positive : (a b n : ℕ) → b ≡ a + n → (b ≡ a → ⊥) → 0 < n
positive a b zero e f = absurd (f (omega arith))
positive a b (suc n) e f = omega arith

-- two tests that pass together
eqb_same : (a b c d : ℕ) → (a ≡ b → c ≡ d) → (c ≡ d → a ≡ b) → eqb a b ≡ eqb c d
eqb_same a b c d to from = go (eqb a b) refl
  where
    go : (t : Bool) → eqb a b ≡ t → t ≡ eqb c d
    go true e = sym (eq-eqb c d (to (eqb-true a b e)))
    go false e = sym (ne_eqb c d (λ f. eqb-false a b e (from f)))

-- the digits of the whole part end at `point`
module _ (s : List ℕ) {start point : ℕ} (es : start ≡ sign_length s) (ep : point ≡ start + leading (drop start s)) where
  from_start : is_double s ≡ unsigned (drop start s)
  from_start = rw es (unsigned_after s)

  pub no_whole : point ≡ start → false ≡ is_double s
  no_whole e = sym (from_start ∙ unsigned_none (drop start s) (omega arith))

  module _ (d : point ≡ start → ⊥) where
    from_point : is_double s ≡ stopped (drop point s)
    from_point = from_start ∙ unsigned_some (drop start s) (positive start point (leading (drop start s)) ep d) ∙ pointed_after (drop start s) ∙ rw (drop-drop, ← ep)

    pub no_point : length s ≤ point → false ≡ is_double s
    unfolding stopped
    no_point h = sym (from_point ∙ rw (ended s point h))

    module _ (h : point < length s) where
      pub other_byte : (get_or s point 0 ≡ 46 → ⊥) → false ≡ is_double s
      unfolding stopped
      other_byte f = sym (from_point ∙ rw (drop-cons s point 0 h, ne_eqb _ _ f))

      module _ (f : get_or s point 0 ≡ 46) where
        from_fraction : is_double s ≡ some_digits (drop (point + 1) s)
        unfolding stopped
        from_fraction = from_point ∙ rw (drop-cons s point 0 h, eq-eqb _ _ f, add-one)

        module _ {end : ℕ} (ee : end ≡ point + 1 + leading (drop (point + 1) s)) where
          pub no_fraction : end ≡ point + 1 → false ≡ is_double s
          no_fraction g = sym (from_fraction ∙ some_none (drop (point + 1) s) (omega arith))

          pub whole_double : (end ≡ point + 1 → ⊥) → eqb end (length s) ≡ is_double s
          whole_double g =
              let n = leading (drop (point + 1) s) in
              sym (from_fraction
              ∙ some_all (drop (point + 1) s) (positive (point + 1) end n ee g)
              ∙ digits_all (drop (point + 1) s)
              ∙ eqb_same n (length (drop (point + 1) s)) end (length s) (λ e. omega (arith, length-drop (point + 1) s)) (λ e. omega (arith, length-drop (point + 1) s)))

pub ruleset doubling = (no_whole, no_point, other_byte, no_fraction, whole_double)
