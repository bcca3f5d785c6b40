-- What answers the returns of the functions that make a position of three answers. Assumes nothing.
use mathlib.Core.Path.{◌≡◌, ◌∙◌}
use mathlib.Core.Bool.{Bool, true, false}
use Prim.Native.Nat.{ℕ}
use lib.IntN.{ℤ}
use lib.Ieee.{Float, binary64, of_bits, of_fields, odd}
use Rattle.std.specs.Prelude.{Ok, Err}
use Rattle.lookup_answer.specs.declared.Refusal as Why
use Rattle.lookup_answer.specs.declared.Refusal.TheVariants.{NotWritable, NoMember, TooManyDigits}
use Rattle.lookup_answer.specs.Answers.{Answer}
use Rattle.lookup_answer.specs.declared.Value.TheVariants.{Whole, Truth, Text, Row}
use Rattle.placing.specs.declared.Placed.{Placed}
use Rattle.placing.specs.Placing.{coordinate_number, coordinate_value, at, accepted_at, refused_with, is_any, together, settled}

-- ---- one answer

module _ {a : Answer} where
  pub whole_value : {n : ℤ} → a ≡ Ok (Whole n) → of_bits binary64 0 ≡ coordinate_value a
  unfolding of_bits of_fields odd
  whole_value e = rw e

  pub truth_value : {b : Bool} → a ≡ Ok (Truth b) → of_bits binary64 0 ≡ coordinate_value a
  unfolding of_bits of_fields odd
  truth_value e = rw e

  pub text_value : {o n : ℕ} → a ≡ Ok (Text o n) → of_bits binary64 0 ≡ coordinate_value a
  unfolding of_bits of_fields odd
  text_value e = rw e

  pub row_value : {r : ℕ} → a ≡ Ok (Row r) → of_bits binary64 0 ≡ coordinate_value a
  unfolding of_bits of_fields odd
  row_value e = rw e

  pub refused_value : {why : Why.Refusal} → a ≡ Err why → of_bits binary64 0 ≡ coordinate_value a
  unfolding of_bits of_fields odd
  refused_value e = rw e

pub ruleset coordinates = (whole_value, truth_value, text_value, row_value, refused_value)

-- ---- three together

module _ (x y turn : Answer) {a b c : ℕ} {p : Placed} {n : Bool} (ea : a ≡ coordinate_number x) (eb : b ≡ coordinate_number y) (ec : c ≡ coordinate_number turn) (en : n ≡ is_any 11 a b c) where
  pub unwritable_one : n ≡ true → p ≡ refused_with NotWritable → p ≡ settled x y turn
  unfolding settled together
  unwritable_one h e = e ∙ rw (← ea, ← eb, ← ec, ← en, h)

  module _ {m : Bool} (hn : n ≡ false) (em : m ≡ is_any 18 a b c) where
    pub wrong_one : m ≡ true → p ≡ refused_with NoMember → p ≡ settled x y turn
    unfolding settled together
    wrong_one h e = e ∙ rw (← ea, ← eb, ← ec, ← en, hn, ← em, h)

    module _ {l : Bool} (hm : m ≡ false) (el : l ≡ is_any 19 a b c) where
      pub long_one : l ≡ true → p ≡ refused_with TooManyDigits → p ≡ settled x y turn
      unfolding settled together
      long_one h e = e ∙ rw (← ea, ← eb, ← ec, ← en, hn, ← em, hm, ← el, h)

      pub all_three : {u v w : Float} → l ≡ false → u ≡ coordinate_value x → v ≡ coordinate_value y → w ≡ coordinate_value turn → p ≡ accepted_at (at u v w) → p ≡ settled x y turn
      unfolding settled together
      all_three h i j k e = e ∙ rw (← ea, ← eb, ← ec, ← en, hn, ← em, hm, ← el, h, i, j, k)

pub ruleset settling = (unwritable_one, wrong_one, long_one, all_three)
