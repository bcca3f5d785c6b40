-- What three answers are together, said of each by itself. Assumes nothing.
use mathlib.Core.Path.{◌≡◌, refl, ap, ◌∙◌}
use mathlib.Core.Bool.{Bool, true, false, ◌||◌, cond}
use Prim.Native.Nat.{ℕ}
use native.Mathlib.Omega.{arith}
use lib.Dec.{eqb}
use lib.Ieee.{Float}
use borrow.Author.Tests.{eqb-false}
use Rattle.std.specs.Prelude.{Ok, Err}
use Rattle.text.proofs.Comparing.{clash}
use Rattle.lookup_answer.specs.declared.Refusal as Why
use Rattle.lookup_answer.specs.declared.Refusal.TheVariants.{NotWritable, NoMember, TooManyDigits}
use Rattle.lookup_answer.specs.Answers.{Answer}
use Rattle.lookup_answer.specs.declared.Value.TheVariants.{Whole, Decimal, Truth, Text, Row}
use Rattle.lookup_answer.specs.Reports.{plus_zero}
use Rattle.placing.specs.declared.Position.{Position}
use Rattle.placing.specs.declared.Placed.{Placed}
use Rattle.placing.specs.Placing.{coordinate_number, coordinate_value, at, accepted_at, refused_with, is_any, together, settled}

-- ---- three tests

abbrev picked : Bool → Bool → Bool → Position → Placed
picked i j k p = cond i (refused_with NotWritable) (cond j (refused_with NoMember) (cond k (refused_with TooManyDigits) (accepted_at p)))

not_both : {X : Type 0} (why : Why.Refusal) {q : Position} → refused_with why ≡ accepted_at q → X
not_both why e = let f : Err why ≡ Ok tt = ap (λ (p : Placed). p.outcome) e in absurd (cc)

picked_accepted : (i j k : Bool) {p q : Position} → picked i j k p ≡ accepted_at q → (i ≡ false) × (j ≡ false) × (k ≡ false) × (p ≡ q)
picked_accepted true j k e = not_both NotWritable e
picked_accepted false true k e = not_both NoMember e
picked_accepted false false true e = not_both TooManyDigits e
picked_accepted false false false e = (refl, refl, refl, ap (λ (q : Placed). q.position) e)

picked_zeros : (i j k : Bool) (p : Position) {why : Why.Refusal} → (picked i j k p).outcome ≡ Err why → (picked i j k p).position ≡ at plus_zero plus_zero plus_zero
picked_zeros true j k p e = refl
picked_zeros false true k p e = refl
picked_zeros false false true p e = refl
picked_zeros false false false p e = let z : ◌≡◌ {A = ℕ} 0 1 = cc in absurd (omega arith)

either : (a b : Bool) → (a || b) ≡ false → (a ≡ false) × (b ≡ false)
either true b e = clash refl e
either false b e = (refl, e)

none_is : (n a b c : ℕ) → is_any n a b c ≡ false → (a ≡ n → ⊥) × (b ≡ n → ⊥) × (c ≡ n → ⊥)
unfolding is_any
none_is n a b c e =
    let h = either (eqb a n || eqb b n) (eqb c n) e in
    let i = either (eqb a n) (eqb b n) h.0 in
    (eqb-false a n i.0, eqb-false b n i.1, eqb-false c n h.1)

-- ---- one answer

decimal_by : (a : Answer) → (coordinate_number a ≡ 11 → ⊥) → (coordinate_number a ≡ 18 → ⊥) → (coordinate_number a ≡ 19 → ⊥) → a ≡ Ok (Decimal (coordinate_value a))
decimal_by (Ok (Decimal x)) e f g = refl
decimal_by (Ok (Whole n)) e f g = absurd (f refl)
decimal_by (Ok (Truth b)) e f g = absurd (f refl)
decimal_by (Ok (Text o n)) e f g = absurd (f refl)
decimal_by (Ok (Row r)) e f g = absurd (f refl)
decimal_by (Err NotWritable) e f g = absurd (e refl)
decimal_by (Err NoMember) e f g = absurd (f refl)
decimal_by (Err TooManyDigits) e f g = absurd (g refl)

-- ---- together

pub accepted_of : (x y turn : Float) → settled (Ok (Decimal x)) (Ok (Decimal y)) (Ok (Decimal turn)) ≡ accepted_at (at x y turn)
unfolding settled together is_any
accepted_of x y turn = refl

pub unwritable_of : (b c : Answer) → settled (Err NotWritable) b c ≡ refused_with NotWritable
unfolding settled together is_any
unwritable_of b c = refl

module _ (a b c : Answer) where
  abbrev any : ℕ → Bool
  any n = is_any n (coordinate_number a) (coordinate_number b) (coordinate_number c)

  abbrev values : Position
  values = at (coordinate_value a) (coordinate_value b) (coordinate_value c)

  none : (n : ℕ) → any n ≡ false → (coordinate_number a ≡ n → ⊥) × (coordinate_number b ≡ n → ⊥) × (coordinate_number c ≡ n → ⊥)
  none n e = none_is n (coordinate_number a) (coordinate_number b) (coordinate_number c) e

  pub accepted_by : {x y turn : Float} → settled a b c ≡ accepted_at (at x y turn) → (a ≡ Ok (Decimal x)) × (b ≡ Ok (Decimal y)) × (c ≡ Ok (Decimal turn))
  unfolding settled together
  accepted_by {x} {y} {turn} e =
      let h = picked_accepted (any 11) (any 18) (any 19) e in
      let u = none 11 h.0 in
      let v = none 18 h.1 in
      let w = none 19 h.2 in
      let p : values ≡ at x y turn = h.3 in (
        decimal_by a u.0 v.0 w.0 ∙ ap (λ (q : Position). Ok (Decimal q.x)) p,
        decimal_by b u.1 v.1 w.1 ∙ ap (λ (q : Position). Ok (Decimal q.y)) p,
        decimal_by c u.2 v.2 w.2 ∙ ap (λ (q : Position). Ok (Decimal q.turn)) p,
      )

  pub zeros_of : {why : Why.Refusal} → (settled a b c).outcome ≡ Err why → (settled a b c).position ≡ at plus_zero plus_zero plus_zero
  unfolding settled together
  zeros_of e = picked_zeros (any 11) (any 18) (any 19) values e
