-- Byte order is an order: of two texts one is before the other, or they are equal, and what is before stays so. Assumes nothing.
use mathlib.Core.Path.{◌≡◌, refl, ◌∙◌}
use mathlib.Core.Bool.{Bool, true, false, cond}
use mathlib.Core.List.{List, [], ◌∷◌}
use Prim.Native.Nat.{ℕ, ◌<◌}
use native.Mathlib.Omega.{arith}
use lib.Dec.{ltb}
use borrow.Author.Tests.{lt-ltb, le-ltb, ltb-true, ltb-false}
use Rattle.std.proofs.Common.{Ordering, Less, Equal, Greater}
use Rattle.order.specs.ByteOrder.{compared}

-- two of the three are never the same
pub before_equal : {X : Type 0} {r : Ordering} → r ≡ Less → r ≡ Equal → X
before_equal e f = absurd (let z : ◌≡◌ {A = ℕ} 0 1 = cc in omega arith)

pub before_after : {X : Type 0} {r : Ordering} → r ≡ Less → r ≡ Greater → X
before_after e f = absurd (let z : ◌≡◌ {A = ℕ} 0 1 = cc in omega arith)

pub equal_after : {X : Type 0} {r : Ordering} → r ≡ Equal → r ≡ Greater → X
equal_after e f = absurd (let z : ◌≡◌ {A = ℕ} 0 1 = cc in omega arith)

pub compared_self : (a : List ℕ) → compared a a ≡ Equal
unfolding compared
compared_self [] = refl
compared_self (x ∷ a) = let l : ltb x x ≡ false = le-ltb x x (omega arith) in simp (l, compared_self a)

-- EQUAL only if the texts are the same
pub compared_equal : (a b : List ℕ) → compared a b ≡ Equal → a ≡ b
unfolding compared
compared_equal [] [] e = refl
compared_equal [] (y ∷ b) e = before_equal refl e
compared_equal (x ∷ a) [] e = equal_after e refl
compared_equal (x ∷ a) (y ∷ b) e = go (compared_equal a b) (ltb x y) refl (ltb y x) refl e
  where
    go : (compared a b ≡ Equal → a ≡ b) → (p : Bool) → ltb x y ≡ p → (q : Bool) → ltb y x ≡ q → cond p Less (cond q Greater (compared a b)) ≡ Equal → x ∷ a ≡ y ∷ b
    go ih true f q g e = before_equal refl e
    go ih false f true g e = equal_after e refl
    go ih false f false g e = let h : x ≡ y = omega (arith, ltb-false x y f, ltb-false y x g) in rw (h, ih e)

abbrev pub turned : Ordering → Ordering
turned Less = Greater
turned Equal = Equal
turned Greater = Less

-- the other way round, before and after change places
pub compared_turned : (a b : List ℕ) → compared b a ≡ turned (compared a b)
unfolding compared
compared_turned [] [] = refl
compared_turned [] (y ∷ b) = refl
compared_turned (x ∷ a) [] = refl
compared_turned (x ∷ a) (y ∷ b) = go (compared_turned a b) (ltb x y) refl (ltb y x) refl
  where
    go : compared b a ≡ turned (compared a b) → (p : Bool) → ltb x y ≡ p → (q : Bool) → ltb y x ≡ q → cond q Less (cond p Greater (compared b a)) ≡ turned (cond p Less (cond q Greater (compared a b)))
    go ih true f true g = absurd (omega (arith, ltb-true x y f, ltb-true y x g))
    go ih true f false g = refl
    go ih false f true g = refl
    go ih false f false g = ih

-- a is before b
abbrev pub Earlier : List ℕ → List ℕ → Type 0
Earlier a b = compared a b ≡ Less

-- BEFORE what is before another
pub less_less : (a b c : List ℕ) → Earlier a b → Earlier b c → Earlier a c
unfolding compared
less_less [] [] c e f = before_equal e refl
less_less [] (y ∷ b) [] e f = before_after f refl
less_less [] (y ∷ b) (z ∷ c) e f = refl
less_less (x ∷ a) [] c e f = before_after e refl
less_less (x ∷ a) (y ∷ b) [] e f = before_after f refl
less_less (x ∷ a) (y ∷ b) (z ∷ c) e f = go (less_less a b c) (ltb x y) refl (ltb y x) refl (ltb y z) refl (ltb z y) refl e f
  where
    go : (compared a b ≡ Less → compared b c ≡ Less → compared a c ≡ Less) → (p : Bool) → ltb x y ≡ p → (q : Bool) → ltb y x ≡ q → (r : Bool) → ltb y z ≡ r → (t : Bool) → ltb z y ≡ t
        → cond p Less (cond q Greater (compared a b)) ≡ Less → cond r Less (cond t Greater (compared b c)) ≡ Less → cond (ltb x z) Less (cond (ltb z x) Greater (compared a c)) ≡ Less
    go ih true l q m true n t o e f = let h : x < z = omega (arith, ltb-true x y l, ltb-true y z n) in simp (lt-ltb x z h)
    go ih true l q m false n true o e f = before_after f refl
    go ih true l q m false n false o e f = let h : x < z = omega (arith, ltb-true x y l, ltb-false y z n, ltb-false z y o) in simp (lt-ltb x z h)
    go ih false l true m r n t o e f = before_after e refl
    go ih false l false m true n t o e f = let h : x < z = omega (arith, ltb-false x y l, ltb-false y x m, ltb-true y z n) in simp (lt-ltb x z h)
    go ih false l false m false n true o e f = before_after f refl
    go ih false l false m false n false o e f =
        let h : ltb x z ≡ false = le-ltb x z (omega (arith, ltb-false x y l, ltb-false y x m, ltb-false y z n, ltb-false z y o)) in
        let k : ltb z x ≡ false = le-ltb z x (omega (arith, ltb-false x y l, ltb-false y x m, ltb-false y z n, ltb-false z y o)) in
        simp (h, k, ih e f)

pub after_less : (a b : List ℕ) → compared a b ≡ Greater → Earlier b a
after_less a b e = compared_turned a b ∙ rw e

pub less_not : (a b : List ℕ) → Earlier a b → Earlier b a → ⊥
less_not a b e f = before_after f (compared_turned a b ∙ rw e)

-- b is not after c
pub less_le : (a b c : List ℕ) → Earlier a b → (Earlier c b → ⊥) → Earlier a c
less_le a b c e f = go (compared b c) refl
  where
    go : (r : Ordering) → compared b c ≡ r → Earlier a c
    go Less g = less_less a b c e g
    go Equal g = rw (compared_equal b c g) at e
    go Greater g = absurd (f (after_less b c g))

-- a is not after b
pub le_less : (a b c : List ℕ) → (Earlier b a → ⊥) → Earlier b c → Earlier a c
le_less a b c f e = go (compared a b) refl
  where
    go : (r : Ordering) → compared a b ≡ r → Earlier a c
    go Less g = less_less a b c g e
    go Equal g = rw (← compared_equal a b g) at e
    go Greater g = absurd (f (after_less a b g))

pub le_le : (a b c : List ℕ) → (Earlier b a → ⊥) → (Earlier c b → ⊥) → Earlier c a → ⊥
le_le a b c f g e = g (less_le c a b e f)
