-- Laws of the texts by the strings' numbers: those before a string, those from a string on, and the first string of a text. Assumes nothing.
use Prim.Native.Nat.{ℕ, zero, suc, ◌+◌, ◌-◌, ◌≤◌, ◌<◌}
use mathlib.Core.Path.{◌≡◌, refl, sym, ap, ◌∙◌}
use mathlib.Core.Bool.{Bool, true, false, ◌||◌}
use mathlib.Core.List.{[], ◌∷◌}
use native.Mathlib.Omega.{arith}
use native.Mathlib.Nat.{add-zero}
use lib.Dec.{ltb}
use borrow.Author.Tests.{ltb-true, ltb-false}
use Rattle.text.specs.Texts.{same, among}
use Rattle.text.proofs.Comparing.{same_ne}
use Rattle.draft.specs.Strings.{Text}
use Rattle.draft.specs.Table.{from}
use Rattle.buckets.specs.Numbered.{before, First}
use Rattle.occurring.proofs.Among.{same_eq, at_or_not, or_true, or_false, or_assoc}

-- n numbers from r on, of which the first is r
pub from_step : {A : Type 0} (f : ℕ → A) (r n : ℕ) → r < n → from f r (n - r) ≡ f r ∷ from f (suc r) (n - suc r)
unfolding from
from_step f r n h = let e : n - r ≡ suc (n - suc r) = omega arith in rw e

pub from_none : {A : Type 0} (f : ℕ → A) (r n : ℕ) → n ≤ r → from f r (n - r) ≡ []
unfolding from
from_none f r n h = let e : n - r ≡ 0 = omega arith in rw e

module _ (t : ℕ → Text) where
  from_end : (u : Text) (a n : ℕ) → among (from t a (suc n)) u ≡ (among (from t a n) u || same u (t (a + n)))
  unfolding from among
  from_end u a zero = rw add-zero (or_false (same u (t a)))
  from_end u a (suc n) =
      let e : suc a + n ≡ a + suc n = omega arith in
      ap (λ (b : Bool). same u (t a) || b) (from_end u (suc a) n ∙ rw e)
      ∙ or_assoc (same u (t a)) (among (from t (suc a) n) u) (same u (t (a + suc n)))

  -- one string more at the end, after string k
  pub from_more : (u : Text) (k r : ℕ) → k < r → among (from t (suc k) (suc r - suc k)) u ≡ (among (from t (suc k) (r - suc k)) u || same u (t r))
  from_more u k r h =
      let e : suc r - suc k ≡ suc (r - suc k) = omega arith in
      let f : suc k + (r - suc k) ≡ r = omega arith in
      ap (λ (n : ℕ). among (from t (suc k) n) u) e
      ∙ from_end u (suc k) (r - suc k)
      ∙ ap (λ (n : ℕ). among (from t (suc k) (r - suc k)) u || same u (t n)) f

  pub from_again : (u : Text) (k r : ℕ) → k < r → u ≡ t r → among (from t (suc k) (suc r - suc k)) u ≡ true
  from_again u k r h e = from_more u k r h ∙ rw (same_eq u (t r) e) (or_true (among (from t (suc k) (r - suc k)) u))

  pub from_other : (u : Text) (k r : ℕ) → k < r → (u ≡ t r → ⊥) → among (from t (suc k) (suc r - suc k)) u ≡ among (from t (suc k) (r - suc k)) u
  from_other u k r h n = from_more u k r h ∙ rw (same_ne u (t r) n) (or_false (among (from t (suc k) (r - suc k)) u))

  pub before_in : (u : Text) (r k : ℕ) → k < r → t k ≡ u → among (before t r) u ≡ true
  unfolding before among
  before_in u zero k h e = absurd (omega arith)
  before_in u (suc r) k h e = at_or_not (λ (k : ℕ). k < suc r → t k ≡ u → (same u (t r) || among (before t r) u) ≡ true) k r (λ l f. rw (same_eq u (t r) (sym f))) (λ n l f. rw (before_in u r k (less n l) f) (or_true (same u (t r)))) h e
    where
      less : (k ≡ r → ⊥) → k < suc r → k < r
      less n l = omega (arith, n)

  pub before_out : (u : Text) (r : ℕ) → ((k : ℕ) → k < r → t k ≡ u → ⊥) → among (before t r) u ≡ false
  unfolding before among
  before_out u zero n = refl
  before_out u (suc r) n = rw (same_ne u (t r) (λ e. n r (omega arith) (sym e)), before_out u r (λ k h. n k (omega arith)))

  -- a string's text stood before it exactly if its first string is an earlier one
  pub seen_first : {r f : ℕ} → First t r f → among (before t r) (t r) ≡ ltb f r
  seen_first {r} {f} h = go (ltb f r) refl
    where
      go : (b : Bool) → ltb f r ≡ b → among (before t r) (t r) ≡ b
      go true e = before_in (t r) r f (ltb-true f r e) h.equal
      go false e = before_out (t r) r (λ k l. h.none k (less l (ltb-false f r e)))
        where
          less : {k : ℕ} → k < r → r ≤ f → k < f
          less l m = omega arith

  pub first_once : {r f g : ℕ} → First t r f → First t r g → f ≡ g
  first_once {r} {f} {g} a b = go (ltb f g) (ltb g f) refl refl
    where
      go : (x y : Bool) → ltb f g ≡ x → ltb g f ≡ y → f ≡ g
      go true y d e = absurd (b.none f (ltb-true f g d) a.equal)
      go false true d e = absurd (a.none g (ltb-true g f e) b.equal)
      go false false d e = omega (arith, ltb-false f g d, ltb-false g f e)

  -- a first string is the first of each string that has its text
  pub first_of : {r k : ℕ} → First t k k → k ≤ r → t k ≡ t r → First t r k
  first_of h l e = record { within = l; equal = e; none = λ j m q. h.none j m (q ∙ sym e) }

  pub first_own : {r f : ℕ} → First t r f → First t f f
  first_own h = record { within = omega arith; equal = refl; none = λ j m q. h.none j m (q ∙ h.equal) }
