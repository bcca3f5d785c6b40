-- What answers the goals of the functions that say what a row answers. Assumes nothing.
use mathlib.Core.Path.{◌≡◌, ap, ◌∙◌}
use mathlib.Core.List.{List}
use Prim.Native.Nat.{ℕ, suc, ◌-◌, ◌≤◌, ◌<◌}
use native.Mathlib.Omega.{arith}
use lib.Dec.{eqb}
use lib.IntN.{ℤ, pos, negsuc, ◌-ℤ◌}
use mir.Syntax.{w32, w64}
use mir.Val.{Fits, SFits, to_z, of_z}
use mir.Facts.{to_z-of_z}
use borrow.Author.Rules.{sfits_of}
use borrow.Author.Tests.{lt-ltb, le-ltb}
use Rattle.std.specs.Prelude.{Ok, Err}
use Rattle.decimal.specs.Decimal as D
use Rattle.decimal.specs.Decimal.{decimal_of}
use Rattle.draft.specs.declared.Row as R
use Rattle.draft.specs.declared.Content as C
use Rattle.draft.specs.declared.Content.TheVariants as content
use Rattle.draft.specs.declared.Item.{Item}
use Rattle.draft.specs.declared.Item.TheVariants as item
use Rattle.draft.specs.Bytes.{part}
use Rattle.draft.specs.Rows.{item_of}
use Rattle.lookup_answer.specs.declared.Refusal.TheVariants as why
use Rattle.lookup_answer.specs.Answers.{Answer, signed, decimal_answer, content_answer, item_answer, answer_at}
use Rattle.lookup_answer.specs.declared.Value.TheVariants.{Whole, Decimal, Truth, Text, Row}

-- ---- 32 bits as a signed number

module _ (n : ℕ) (f : Fits w32 n) where
  pub wide : to_z w64 n ≡ pos n
  wide = rw (lt-ltb n 9223372036854775808 (omega arith))

  below : pos n -ℤ pos 4294967296 ≡ negsuc (4294967296 - suc n)
  below = rw (lt-ltb n 4294967296 (omega arith))

  below_fits : SFits w64 (pos n -ℤ pos 4294967296)
  below_fits = rw below (sfits_of (omega arith))

  pub difference_fits : SFits w64 (to_z w64 n -ℤ pos 4294967296)
  difference_fits = rw wide below_fits

  pub signed_low : n < 2147483648 → to_z w64 n ≡ signed n
  unfolding signed
  signed_low h = rw (wide, lt-ltb n 2147483648 h)

  pub signed_high : 2147483648 ≤ n → to_z w64 (of_z w64 (to_z w64 n -ℤ pos 4294967296)) ≡ signed n
  unfolding signed
  signed_high h = to_z-of_z difference_fits ∙ rw (wide, le-ltb n 2147483648 h)

pub ruleset signing = (difference_fits, signed_low, signed_high)

-- ---- by the item

pub value_answer : {d : D.Decimal} {x : _} → d ≡ Ok x → Ok (Decimal x) ≡ decimal_answer d
value_answer e = rw e

pub long_answer : {d : D.Decimal} → d ≡ D.too_many → Err why.TooManyDigits ≡ decimal_answer d
long_answer e = rw e

module _ {c : C.Content} (s : List ℕ) (x : R.Row) (r : ℕ) where
  pub double_answer : {t : List ℕ} {d : D.Decimal} {a : Answer} → c ≡ content.Double → t ≡ part s x.a x.b → d ≡ decimal_of t → a ≡ decimal_answer d → a ≡ content_answer c s x r
  double_answer e i j k = rw (k, j, i, e)

  pub date_answer : c ≡ content.DateTime → Ok (Row r) ≡ content_answer c s x r
  date_answer e = rw e

  pub binary_answer : c ≡ content.Binary → Ok (Row r) ≡ content_answer c s x r
  binary_answer e = rw e

  pub text_answer : c ≡ content.Text → Ok (Text x.a x.b) ≡ content_answer c s x r
  text_answer e = rw e

module _ {i : Item} (s : List ℕ) (x : R.Row) (r : ℕ) where
  pub whole_answer : {z : ℤ} → i ≡ item.Integer → z ≡ signed x.a → SFits w64 z → Ok (Whole (to_z w64 (of_z w64 z))) ≡ item_answer i s x r
  whole_answer e g f = rw (e, ← g) (ap (λ (y : ℤ). Ok (Whole y)) (to_z-of_z f))

  pub truth_answer : i ≡ item.Boolean → Ok (Truth (eqb x.a 1)) ≡ item_answer i s x r
  truth_answer e = rw e

  pub content_answer_lem : {c : C.Content} {a : Answer} → i ≡ item.Content c → a ≡ content_answer c s x r → a ≡ item_answer i s x r
  content_answer_lem e g = rw (g, e)

  pub array_answer : i ≡ item.Array → Ok (Row r) ≡ item_answer i s x r
  array_answer e = rw e

  pub struct_answer : i ≡ item.Struct → Ok (Row r) ≡ item_answer i s x r
  struct_answer e = rw e

  pub other_answer : i ≡ item.Other → Ok (Row r) ≡ item_answer i s x r
  other_answer e = rw e

  pub call_answer : i ≡ item.Call → Err why.NoMember ≡ item_answer i s x r
  call_answer e = rw e

  pub response_answer : i ≡ item.Response → Err why.NoMember ≡ item_answer i s x r
  response_answer e = rw e

  pub fault_answer : i ≡ item.Fault → Err why.NoMember ≡ item_answer i s x r
  fault_answer e = rw e

  pub unknown_answer : i ≡ item.Unknown → Err why.NoMember ≡ item_answer i s x r
  unknown_answer e = rw e

pub ruleset answering = (
  value_answer,
  long_answer,
  double_answer,
  date_answer,
  binary_answer,
  text_answer,
  whole_answer,
  truth_answer,
  content_answer_lem,
  array_answer,
  struct_answer,
  other_answer,
  call_answer,
  response_answer,
  fault_answer,
  unknown_answer,
)

-- ---- by the row

pub row_answer_lem : (row : ℕ → R.Row) (s : List ℕ) (r : ℕ) {x : R.Row} {i : Item} {a : Answer} → x ≡ row r → i ≡ item_of x.kind → a ≡ item_answer i s x r → a ≡ answer_at row s r
unfolding answer_at
row_answer_lem row s r e g h = rw (h, g, e)
