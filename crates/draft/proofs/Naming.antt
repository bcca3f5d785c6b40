-- The item of a kind, and the refusal of a number. Assumes nothing.
use mathlib.Core.Path.{◌≡◌, refl}
use Prim.Native.Nat.{ℕ}
use native.Mathlib.Omega.{arith}
use borrow.Author.Tests.{ne_eqb}
use Rattle.draft.specs.declared.Content.TheVariants.{Double, DateTime, Binary, Text}
use Rattle.draft.specs.declared.Item.TheVariants.{
  Call,
  Response,
  Fault,
  Integer,
  Boolean,
  Content,
  Array,
  Struct,
  Other,
  Unknown,
}
use Rattle.draft.specs.declared.Refusal.{Refusal}
use Rattle.draft.specs.declared.Refusal.TheVariants.{
  Ended,
  WrongPrefix,
  UnexpectedByte,
  BadText,
  UnsetPosition,
  StandardName,
  TooDeep,
  NoRow,
  TooLong,
  NotWritable,
  FormTooLong,
  OutputTooShort,
  BadFault,
  BadValue,
  RepeatedKey,
  NoLimit,
}
use Rattle.draft.specs.Refusals.{number_of, refusal_of}
use Rattle.draft.specs.Rows.{item_of}

module _ (k : ℕ) where
  pub kind_call : k ≡ 1 → Call ≡ item_of k
  unfolding item_of
  kind_call e = rw e

  pub kind_response : k ≡ 2 → Response ≡ item_of k
  unfolding item_of
  kind_response e = rw e

  pub kind_fault : k ≡ 3 → Fault ≡ item_of k
  unfolding item_of
  kind_fault e = rw e

  pub kind_integer : k ≡ 4 → Integer ≡ item_of k
  unfolding item_of
  kind_integer e = rw e

  pub kind_boolean : k ≡ 5 → Boolean ≡ item_of k
  unfolding item_of
  kind_boolean e = rw e

  pub kind_double : k ≡ 6 → Content Double ≡ item_of k
  unfolding item_of
  kind_double e = rw e

  pub kind_date : k ≡ 7 → Content DateTime ≡ item_of k
  unfolding item_of
  kind_date e = rw e

  pub kind_binary : k ≡ 8 → Content Binary ≡ item_of k
  unfolding item_of
  kind_binary e = rw e

  pub kind_array : k ≡ 9 → Array ≡ item_of k
  unfolding item_of
  kind_array e = rw e

  pub kind_struct : k ≡ 10 → Struct ≡ item_of k
  unfolding item_of
  kind_struct e = rw e

  pub kind_text : k ≡ 11 → Content Text ≡ item_of k
  unfolding item_of
  kind_text e = rw e

  pub kind_other : k ≡ 12 → Other ≡ item_of k
  unfolding item_of
  kind_other e = rw e

  pub kind_unknown : (k ≡ 1 → ⊥) → (k ≡ 2 → ⊥) → (k ≡ 3 → ⊥) → (k ≡ 4 → ⊥) → (k ≡ 5 → ⊥) → (k ≡ 6 → ⊥) → (k ≡ 7 → ⊥) → (k ≡ 8 → ⊥) → (k ≡ 9 → ⊥) → (k ≡ 10 → ⊥) → (k ≡ 11 → ⊥) → (k ≡ 12 → ⊥) → Unknown ≡ item_of k
  unfolding item_of
  kind_unknown a b c d e f g h i j l m =
      rw (ne_eqb _ _ a, ne_eqb _ _ b, ne_eqb _ _ c, ne_eqb _ _ d, ne_eqb _ _ e, ne_eqb _ _ f, ne_eqb _ _ g, ne_eqb _ _ h, ne_eqb _ _ i, ne_eqb _ _ j, ne_eqb _ _ l, ne_eqb _ _ m)

pub ruleset naming = (kind_call, kind_response, kind_fault, kind_integer, kind_boolean, kind_double, kind_date, kind_binary, kind_array, kind_struct, kind_text, kind_other, kind_unknown)

module _ (n : ℕ) where
  pub refusal_ended : n ≡ 1 → Ended ≡ refusal_of n
  unfolding refusal_of
  refusal_ended e = rw e

  pub refusal_prefix : n ≡ 2 → WrongPrefix ≡ refusal_of n
  unfolding refusal_of
  refusal_prefix e = rw e

  pub refusal_byte : n ≡ 3 → UnexpectedByte ≡ refusal_of n
  unfolding refusal_of
  refusal_byte e = rw e

  pub refusal_text : n ≡ 5 → BadText ≡ refusal_of n
  unfolding refusal_of
  refusal_text e = rw e

  pub refusal_unset : n ≡ 6 → UnsetPosition ≡ refusal_of n
  unfolding refusal_of
  refusal_unset e = rw e

  pub refusal_name : n ≡ 7 → StandardName ≡ refusal_of n
  unfolding refusal_of
  refusal_name e = rw e

  pub refusal_deep : n ≡ 8 → TooDeep ≡ refusal_of n
  unfolding refusal_of
  refusal_deep e = rw e

  pub refusal_row : n ≡ 9 → NoRow ≡ refusal_of n
  unfolding refusal_of
  refusal_row e = rw e

  pub refusal_long : n ≡ 10 → TooLong ≡ refusal_of n
  unfolding refusal_of
  refusal_long e = rw e

  pub refusal_unwritable : n ≡ 11 → NotWritable ≡ refusal_of n
  unfolding refusal_of
  refusal_unwritable e = rw e

  pub refusal_form : n ≡ 12 → FormTooLong ≡ refusal_of n
  unfolding refusal_of
  refusal_form e = rw e

  pub refusal_output : n ≡ 13 → OutputTooShort ≡ refusal_of n
  unfolding refusal_of
  refusal_output e = rw e

  pub refusal_fault : n ≡ 14 → BadFault ≡ refusal_of n
  unfolding refusal_of
  refusal_fault e = rw e

  pub refusal_value : n ≡ 17 → BadValue ≡ refusal_of n
  unfolding refusal_of
  refusal_value e = rw e

  pub refusal_key : n ≡ 20 → RepeatedKey ≡ refusal_of n
  unfolding refusal_of
  refusal_key e = rw e

  pub refusal_limit : (n ≡ 1 → ⊥) → (n ≡ 2 → ⊥) → (n ≡ 3 → ⊥) → (n ≡ 5 → ⊥) → (n ≡ 6 → ⊥) → (n ≡ 7 → ⊥) → (n ≡ 8 → ⊥) → (n ≡ 9 → ⊥) → (n ≡ 10 → ⊥) → (n ≡ 11 → ⊥) → (n ≡ 12 → ⊥) → (n ≡ 13 → ⊥) → (n ≡ 14 → ⊥) → (n ≡ 17 → ⊥) → (n ≡ 20 → ⊥) → NoLimit ≡ refusal_of n
  unfolding refusal_of
  refusal_limit a b c d e f g h i j k l m o p =
      rw (ne_eqb _ _ a, ne_eqb _ _ b, ne_eqb _ _ c, ne_eqb _ _ d, ne_eqb _ _ e, ne_eqb _ _ f, ne_eqb _ _ g, ne_eqb _ _ h, ne_eqb _ _ i, ne_eqb _ _ j, ne_eqb _ _ k, ne_eqb _ _ l, ne_eqb _ _ m, ne_eqb _ _ o, ne_eqb _ _ p)

-- no refusal has the number 0, and each its own
pub number_some : (m : Refusal) → number_of m ≡ 0 → ⊥
number_some Ended e = omega (arith, e)
number_some WrongPrefix e = omega (arith, e)
number_some UnexpectedByte e = omega (arith, e)
number_some BadText e = omega (arith, e)
number_some UnsetPosition e = omega (arith, e)
number_some StandardName e = omega (arith, e)
number_some TooDeep e = omega (arith, e)
number_some NoRow e = omega (arith, e)
number_some TooLong e = omega (arith, e)
number_some NotWritable e = omega (arith, e)
number_some FormTooLong e = omega (arith, e)
number_some OutputTooShort e = omega (arith, e)
number_some BadFault e = omega (arith, e)
number_some BadValue e = omega (arith, e)
number_some RepeatedKey e = omega (arith, e)
number_some NoLimit e = omega (arith, e)

pub number_own : (m : Refusal) → refusal_of (number_of m) ≡ m
unfolding refusal_of
number_own Ended = refl
number_own WrongPrefix = refl
number_own UnexpectedByte = refl
number_own BadText = refl
number_own UnsetPosition = refl
number_own StandardName = refl
number_own TooDeep = refl
number_own NoRow = refl
number_own TooLong = refl
number_own NotWritable = refl
number_own FormTooLong = refl
number_own OutputTooShort = refl
number_own BadFault = refl
number_own BadValue = refl
number_own RepeatedKey = refl
number_own NoLimit = refl

pub ruleset refusals = (refusal_ended, refusal_prefix, refusal_byte, refusal_text, refusal_unset, refusal_name, refusal_deep, refusal_row, refusal_long, refusal_unwritable, refusal_form, refusal_output, refusal_fault, refusal_value, refusal_key, refusal_limit)
