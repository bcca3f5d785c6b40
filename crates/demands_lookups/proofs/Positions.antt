-- E5's positions exactly: by the three members x, y and turn, and the kinds of their values. Assumes nothing.
use mathlib.Core.Path.{◌≡◌, refl, ap, ◌∙◌}
use mathlib.Core.Bool.{Bool, true, false, cond, ◌||◌}
use mathlib.Core.Logic.{◌↔◌}
use mathlib.Core.List.{List}
use Prim.Native.Nat.{ℕ}
use native.Mathlib.Omega.{arith}
use lib.Dec.{eqb}
use lib.Ieee.{Float}
use borrow.Author.Tests.{eq-eqb, eqb-true}
use Rattle.std.specs.Prelude.{Ok, Err}
use Rattle.text.proofs.Comparing.{clash}
use Rattle.draft.specs.Bytes.{bytes}
use Rattle.member.specs.declared.Member.{Member}
use Rattle.lookup_answer.specs.declared.Refusal.TheVariants as why
use Rattle.lookup_answer.specs.Answers.{Answer}
use Rattle.lookup_answer.specs.Reports.{plus_zero}
use Rattle.placing.specs.declared.Position.{Position}
use Rattle.placing.specs.declared.Placed.{Placed}
use Rattle.placing.specs.Placing.{Outcome, coordinate_number, coordinate_value, outcome_number, at, accepted_at, refused_with, is_any, together, settled, position}
use Rattle.defaults.specs.Defaults.{Source, is_writable}
use Rattle.demands_writing.proofs.Writing.{Words}
use Rattle.demands_lookups.specs.Asked.{looked, placed, placed_number, Has, kind_in, value_text, Yields, integer, boolean, double, long_double, string, datetime, binary, array, struct, other, absent, NoDouble, missing, wrong_sort, IsDouble, LongDouble, DoubleOf, OneOf, for_x, for_y, for_turn, AllOf}
use Rattle.demands_lookups.proofs.Lookups.{position_accepted, position_zeros, position_unwritable}
use Rattle.demands_lookups.proofs.Refusals.{missing_without, only_one, Sought, there, nowhere, sought, long_answers, decimal_exactly}

-- ---- three numbers together

-- one of three numbers is n
data Any (n a b c : ℕ) : Type 0 where
  first : a ≡ n → Any n a b c
  second : b ≡ n → Any n a b c
  third : c ≡ n → Any n a b c

any_by : (n a b c : ℕ) → is_any n a b c ≡ true → Any n a b c
unfolding is_any
any_by n a b c e = go (eqb a n) refl (eqb b n) refl (eqb c n) refl e
  where
    go : (x : Bool) → eqb a n ≡ x → (y : Bool) → eqb b n ≡ y → (z : Bool) → eqb c n ≡ z → ((x || y) || z) ≡ true → Any n a b c
    go true f y g z h e = first (eqb-true a n f)
    go false f true g z h e = second (eqb-true b n g)
    go false f false g true h e = third (eqb-true c n h)
    go false f false g false h e = clash e refl

none_of : (n a b c : ℕ) → (Any n a b c → ⊥) → is_any n a b c ≡ false
none_of n a b c f = go (is_any n a b c) refl
  where
    go : (x : Bool) → is_any n a b c ≡ x → is_any n a b c ≡ false
    go true e = absurd (f (any_by n a b c e))
    go false e = e

any_of : (n a b c : ℕ) → Any n a b c → is_any n a b c ≡ true
unfolding is_any
any_of n a b c (first e) = rw (eq-eqb a n e)
any_of n a b c (second e) = rw (eq-eqb b n e) (go (eqb a n))
  where
    go : (x : Bool) → ((x || true) || eqb c n) ≡ true
    go true = refl
    go false = refl
any_of n a b c (third e) = rw (eq-eqb c n e) (go (eqb a n || eqb b n))
  where
    go : (x : Bool) → (x || true) ≡ true
    go true = refl
    go false = refl

-- 11 before 18, 18 over all three before 19
number_of :
    (x y z : Answer)
    → outcome_number (settled x y z).outcome
    ≡ cond (is_any 11 (coordinate_number x) (coordinate_number y) (coordinate_number z)) 11
    (cond (is_any 18 (coordinate_number x) (coordinate_number y) (coordinate_number z)) 18
    (cond (is_any 19 (coordinate_number x) (coordinate_number y) (coordinate_number z)) 19 0))
unfolding settled together
number_of x y z =
    go (is_any 11 (coordinate_number x) (coordinate_number y) (coordinate_number z)) (is_any 18 (coordinate_number x) (coordinate_number y) (coordinate_number z))
    (is_any 19 (coordinate_number x) (coordinate_number y) (coordinate_number z)) (at (coordinate_value x) (coordinate_value y) (coordinate_value z))
  where
    go : (i j k : Bool) (p : Position)
        → outcome_number (cond i (refused_with why.NotWritable) (cond j (refused_with why.NoMember) (cond k (refused_with why.TooManyDigits) (accepted_at p)))).outcome
        ≡ cond i 11 (cond j 18 (cond k 19 0))
    go true j k p = refl
    go false true k p = refl
    go false false true p = refl
    go false false false p = refl

-- ---- one member asked for

-- its number as a coordinate
abbrev asked : Source → List ℕ → ℕ
asked c key = coordinate_number (looked c key)

-- the number as a coordinate of a member of a writable table, and why
data Coordinate (c : Source) (key : List ℕ) (n : ℕ) : Type 0 where
  short : n ≡ 0 → IsDouble c key → Coordinate c key n
  long : n ≡ 19 → LongDouble c key → Coordinate c key n
  none : n ≡ 18 → NoDouble c key → Coordinate c key n

long_is : {c : Source} {key : List ℕ} → LongDouble c key → IsDouble c key
long_is l = record { text = l.text; double = l.double }

module _ {c : Source} {key : List ℕ} where
  coordinate_of : {m : Member} → Has c key m → {a : Answer} → Yields c m a → Coordinate c key (coordinate_number a)
  coordinate_of {m} h (integer k) = none refl (wrong_sort m h (λ z. omega arith))
  coordinate_of {m} h (boolean k) = none refl (wrong_sort m h (λ z. omega arith))
  coordinate_of {m} h (double k v) = short refl (record { text = value_text c m; double = record { member = m; has = h; kind = k; text = refl } })
  coordinate_of {m} h (long_double k l) = long refl (record { text = value_text c m; double = record { member = m; has = h; kind = k; text = refl }; long = l })
  coordinate_of {m} h (string k) = none refl (wrong_sort m h (λ z. omega arith))
  coordinate_of {m} h (datetime k) = none refl (wrong_sort m h (λ z. omega arith))
  coordinate_of {m} h (binary k) = none refl (wrong_sort m h (λ z. omega arith))
  coordinate_of {m} h (array k) = none refl (wrong_sort m h (λ z. omega arith))
  coordinate_of {m} h (struct k) = none refl (wrong_sort m h (λ z. omega arith))
  coordinate_of {m} h (other k) = none refl (wrong_sort m h (λ z. omega arith))

  never_eleven : {n : ℕ} → Coordinate c key n → n ≡ 11 → ⊥
  never_eleven (short z d) h = omega arith
  never_eleven (long z l) h = omega arith
  never_eleven (none z d) h = omega arith

  by_eighteen : {n : ℕ} → Coordinate c key n → n ≡ 18 → NoDouble c key
  by_eighteen (short z d) h = absurd (omega arith)
  by_eighteen (long z l) h = absurd (omega arith)
  by_eighteen (none z d) h = d

  by_nineteen : {n : ℕ} → Coordinate c key n → n ≡ 19 → LongDouble c key
  by_nineteen (short z d) h = absurd (omega arith)
  by_nineteen (long z l) h = l
  by_nineteen (none z d) h = absurd (omega arith)

  by_other : {n : ℕ} → Coordinate c key n → (n ≡ 18 → ⊥) → IsDouble c key
  by_other (short z d) h = d
  by_other (long z l) h = long_is l
  by_other (none z d) h = absurd (h z)

module _ (c : Source) (w : Words c.table) (e : is_writable c ≡ true) (key : List ℕ) where
  coordinate : Coordinate c key (asked c key)
  coordinate = go (sought c e w key)
    where
      go : Sought c e w key → Coordinate c key (asked c key)
      go (there m h y) = coordinate_of h y
      go (nowhere n f) = none (ap coordinate_number f) (missing (absent n))

  -- no member is a Double and none
  never_both : NoDouble c key → IsDouble c key → ⊥
  never_both (missing n) d = missing_without c key n d.double.member d.double.has
  never_both (wrong_sort m h n) d = n (ap (kind_in c) (only_one c e w key h d.double.has) ∙ d.double.kind)

  to_eighteen : NoDouble c key → asked c key ≡ 18
  to_eighteen n = go coordinate
    where
      go : Coordinate c key (asked c key) → asked c key ≡ 18
      go (short z d) = absurd (never_both n d)
      go (long z l) = absurd (never_both n (long_is l))
      go (none z d) = z

-- ---- the position

module _ (c : Source) (w : Words c.table) where
  -- one of the three has the number n
  abbrev AnyIs : ℕ → Type 0
  AnyIs n = Any n (asked c (bytes "x")) (asked c (bytes "y")) (asked c (bytes "turn"))

  abbrev any : ℕ → Bool
  any n = is_any n (asked c (bytes "x")) (asked c (bytes "y")) (asked c (bytes "turn"))

  one_by : (n : ℕ) (P : List ℕ → Type 0) → ((key : List ℕ) → asked c key ≡ n → P key) → AnyIs n → OneOf P
  one_by n P f (first h) = for_x (f (bytes "x") h)
  one_by n P f (second h) = for_y (f (bytes "y") h)
  one_by n P f (third h) = for_turn (f (bytes "turn") h)

  any_by_one : (n : ℕ) (P : List ℕ → Type 0) → ((key : List ℕ) → P key → asked c key ≡ n) → OneOf P → AnyIs n
  any_by_one n P f (for_x h) = first (f (bytes "x") h)
  any_by_one n P f (for_y h) = second (f (bytes "y") h)
  any_by_one n P f (for_turn h) = third (f (bytes "turn") h)

  none_by : (n : ℕ) → AllOf (λ (key : List ℕ). asked c key ≡ n → ⊥) → AnyIs n → ⊥
  none_by n f (first h) = f.0 h
  none_by n f (second h) = f.1 h
  none_by n f (third h) = f.2 h

  -- the position's number, and why: 11 before 18, 18 over all three before 19
  data Numbered (n : ℕ) : Type 0 where
    unwritable : n ≡ 11 → is_writable c ≡ false → Numbered n
    no_double : n ≡ 18 → is_writable c ≡ true → AnyIs 18 → Numbered n
    too_long : n ≡ 19 → is_writable c ≡ true → (AnyIs 18 → ⊥) → AnyIs 19 → Numbered n
    fine : n ≡ 0 → is_writable c ≡ true → (AnyIs 18 → ⊥) → (AnyIs 19 → ⊥) → Numbered n

  numbered : Numbered (placed_number c)
  unfolding position
  numbered = go (is_writable c) refl
    where
      is : placed_number c ≡ cond (any 11) 11 (cond (any 18) 18 (cond (any 19) 19 0))
      is = number_of (looked c (bytes "x")) (looked c (bytes "y")) (looked c (bytes "turn"))

      tested : (b : Bool) → any 18 ≡ b → (d : Bool) → any 19 ≡ d → is_writable c ≡ true → any 11 ≡ false → Numbered (placed_number c)
      tested true h d i e n = no_double (is ∙ rw (n, h)) e (any_by 18 _ _ _ h)
      tested false h true i e n = too_long (is ∙ rw (n, h, i)) e (λ a. clash (any_of 18 _ _ _ a) h) (any_by 19 _ _ _ i)
      tested false h false i e n = fine (is ∙ rw (n, h, i)) e (λ a. clash (any_of 18 _ _ _ a) h) (λ a. clash (any_of 19 _ _ _ a) i)

      go : (b : Bool) → is_writable c ≡ b → Numbered (placed_number c)
      go false e = unwritable (ap (λ (p : Placed). outcome_number p.outcome) (position_unwritable c.table c.rows c.text c.row e)) e
      go true e =
          tested (any 18) refl (any 19) refl e
          (none_of 11 _ _ _ (none_by 11 (
            never_eleven (coordinate c w e (bytes "x")),
            never_eleven (coordinate c w e (bytes "y")),
            never_eleven (coordinate c w e (bytes "turn")),
          )))

  -- 11 exactly for an unwritable table
  pub position_eleven : (placed_number c ≡ 11) ↔ (is_writable c ≡ false)
  position_eleven = (λ h. to h numbered, λ e. ap (λ (p : Placed). outcome_number p.outcome) (position_unwritable c.table c.rows c.text c.row e))
    where
      to : placed_number c ≡ 11 → Numbered (placed_number c) → is_writable c ≡ false
      to h (unwritable z e) = e
      to h (no_double z e n) = absurd (omega arith)
      to h (too_long z e n l) = absurd (omega arith)
      to h (fine z e n l) = absurd (omega arith)

  -- 18 exactly if the table is writable and one of the three is absent or no Double, or the row is no Struct's
  pub position_eighteen : (placed_number c ≡ 18) ↔ ((is_writable c ≡ true) × OneOf (NoDouble c))
  position_eighteen = (λ h. to h numbered, λ (e, o). from e o numbered)
    where
      to : placed_number c ≡ 18 → Numbered (placed_number c) → (is_writable c ≡ true) × OneOf (NoDouble c)
      to h (unwritable z e) = absurd (omega arith)
      to h (no_double z e n) = (e, one_by 18 (NoDouble c) (λ key i. by_eighteen (coordinate c w e key) i) n)
      to h (too_long z e n l) = absurd (omega arith)
      to h (fine z e n l) = absurd (omega arith)

      from : is_writable c ≡ true → OneOf (NoDouble c) → Numbered (placed_number c) → placed_number c ≡ 18
      from e o (unwritable z f) = clash e f
      from e o (no_double z f n) = z
      from e o (too_long z f n l) = absurd (n (any_by_one 18 (NoDouble c) (λ key i. to_eighteen c w e key i) o))
      from e o (fine z f n l) = absurd (n (any_by_one 18 (NoDouble c) (λ key i. to_eighteen c w e key i) o))

  -- 19 exactly if the table is writable, the three are Doubles, and one has too many digits
  pub position_nineteen : (placed_number c ≡ 19) ↔ ((is_writable c ≡ true) × AllOf (IsDouble c) × OneOf (LongDouble c))
  position_nineteen = (λ h. to h numbered, λ (e, d, o). from e d o numbered)
    where
      to : placed_number c ≡ 19 → Numbered (placed_number c) → (is_writable c ≡ true) × AllOf (IsDouble c) × OneOf (LongDouble c)
      to h (unwritable z e) = absurd (omega arith)
      to h (no_double z e n) = absurd (omega arith)
      to h (too_long z e n l) = (
        e,
        (
          by_other (coordinate c w e (bytes "x")) (λ i. n (first i)),
          by_other (coordinate c w e (bytes "y")) (λ i. n (second i)),
          by_other (coordinate c w e (bytes "turn")) (λ i. n (third i)),
        ),
        one_by 19 (LongDouble c) (λ key i. by_nineteen (coordinate c w e key) i) l,
      )
      to h (fine z e n l) = absurd (omega arith)

      clear : (e : is_writable c ≡ true) → AllOf (IsDouble c) → AnyIs 18 → ⊥
      clear e d a = none_by 18 (
        λ i. never_both c w e (bytes "x") (by_eighteen (coordinate c w e (bytes "x")) i) d.0,
        λ i. never_both c w e (bytes "y") (by_eighteen (coordinate c w e (bytes "y")) i) d.1,
        λ i. never_both c w e (bytes "turn") (by_eighteen (coordinate c w e (bytes "turn")) i) d.2,
      ) a

      from : is_writable c ≡ true → AllOf (IsDouble c) → OneOf (LongDouble c) → Numbered (placed_number c) → placed_number c ≡ 19
      from e d o (unwritable z f) = clash e f
      from e d o (no_double z f n) = absurd (clear e d n)
      from e d o (too_long z f n l) = z
      from e d o (fine z f n l) = absurd (l (any_by_one 19 (LongDouble c) (λ key i. ap coordinate_number (long_answers c w key e i)) o))

  -- accepted with three values exactly if the table is writable and each of the three is a Double of that decimal
  pub position_exactly :
      (x y turn : Float)
      → (placed c ≡ accepted_at (at x y turn))
      ↔ ((is_writable c ≡ true) × DoubleOf c (bytes "x") x × DoubleOf c (bytes "y") y × DoubleOf c (bytes "turn") turn)
  position_exactly x y turn = (
    λ h.
        let g = (position_accepted c.table c.rows c.text c.row x y turn).0 h in
        let i = (decimal_exactly c w (bytes "x")).0 g.0 in
        (i.0, i.1, ((decimal_exactly c w (bytes "y")).0 g.1).1, ((decimal_exactly c w (bytes "turn")).0 g.2).1),
    λ (e, h, i, j).
        (position_accepted c.table c.rows c.text c.row x y turn).1
        ((decimal_exactly c w (bytes "x")).1 (e, h), (decimal_exactly c w (bytes "y")).1 (e, i), (decimal_exactly c w (bytes "turn")).1 (e, j)),
  )

  -- a refused position is three plus zeros
  pub refused_zeros : (placed_number c ≡ 0 → ⊥) → (placed c).position ≡ at plus_zero plus_zero plus_zero
  refused_zeros n = go (placed c).outcome refl
    where
      go : (o : Outcome) → (placed c).outcome ≡ o → (placed c).position ≡ at plus_zero plus_zero plus_zero
      go (Ok done) h = absurd (n (ap outcome_number h))
      go (Err why) h = position_zeros c.table c.rows c.text c.row h
