-- Laws of texts in a list of texts: what it is to be among them, and how often one occurs. Assumes nothing.
use Prim.Native.Nat.{ℕ, ◌+◌}
use mathlib.Core.Path.{◌≡◌, refl, sym, ap, ◌∙◌}
use mathlib.Core.Bool.{Bool, true, false, ◌&&◌, ◌||◌}
use mathlib.Core.List.{List, [], ◌∷◌, ◌++◌}
use native.Mathlib.Omega.{arith}
use native.Mathlib.Nat.{zero-add}
use lib.Dec.{eqb, ltb}
use borrow.Author.Tests.{lt-ltb, eqb-true, eqb-false}
use Rattle.text.specs.Texts.{same, among}
use Rattle.text.proofs.Comparing.{clash, same_is, same_self, same_ne}
use Rattle.draft.specs.Strings.{Text}
use Rattle.occurring.specs.Occurring.{bit, times}

pub same_eq : (u t : Text) → u ≡ t → same u t ≡ true
same_eq u t e = rw e (same_self t)

pub same_swap : (u t : Text) → same u t ≡ same t u
same_swap u t = go (same t u) refl
  where
    go : (b : Bool) → same t u ≡ b → same u t ≡ b
    go true e = same_eq u t (sym (same_is t u e))
    go false e = same_ne u t (λ h. clash (same_eq t u (sym h)) e)

-- to be at a number, or not
pub at_or_not : (P : ℕ → Type 0) (k r : ℕ) → P r → ((k ≡ r → ⊥) → P k) → P k
at_or_not P k r h o = go (eqb k r) refl
  where
    go : (b : Bool) → eqb k r ≡ b → P k
    go true e = rw (eqb-true k r e) h
    go false e = o (eqb-false k r e)

pub and_false : (b : Bool) → (b && false) ≡ false
and_false true = refl
and_false false = refl

pub or_true : (b : Bool) → (b || true) ≡ true
or_true true = refl
or_true false = refl

pub or_false : (b : Bool) → (b || false) ≡ b
or_false true = refl
or_false false = refl

pub or_no : (x y : Bool) → (x || y) ≡ false → (x ≡ false) × (y ≡ false)
or_no true y e = clash refl e
or_no false y e = (refl, e)

pub or_assoc : (x y z : Bool) → (x || (y || z)) ≡ ((x || y) || z)
or_assoc true y z = refl
or_assoc false y z = refl

pub among_append : (u : Text) (cs bs : List Text) → among (cs ++ bs) u ≡ (among cs u || among bs u)
unfolding among
among_append u [] bs = refl
among_append u (a ∷ cs) bs = ap (λ (b : Bool). same u a || b) (among_append u cs bs) ∙ or_assoc (same u a) (among cs u) (among bs u)

-- to be among texts is to occur in them
pub among_times : (t : Text) (ts : List Text) → among ts t ≡ ltb 0 (times t ts)
unfolding among times
among_times t [] = refl
among_times t (u ∷ us) = go (same t u) (among_times t us)
  where
    go : (b : Bool) → among us t ≡ ltb 0 (times t us) → (b || among us t) ≡ ltb 0 (bit b + times t us)
    go true e = sym (lt-ltb 0 (1 + times t us) (omega arith))
    go false e = e ∙ rw zero-add
