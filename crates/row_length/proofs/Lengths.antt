-- What answers each return of the functions that say how long a row's item is. Assumes nothing.
use Prim.Native.Nat.{ℕ, suc, ◌+◌, ◌≤◌}
use mathlib.Core.Path.{◌≡◌, refl, ◌∙◌}
use mathlib.Core.List.{List}
use mathlib.Core.Logic.{◌⊎◌, inl, inr}
use native.Mathlib.Omega.{arith}
use lib.ListN.{length, length-take, length-drop}
use Rattle.draft.specs.declared.Content.{Content}
use Rattle.draft.specs.declared.Item.{Item}
use Rattle.draft.specs.declared.Item.TheVariants as item
use Rattle.draft.specs.declared.Row.{Row}
use Rattle.draft.specs.Rows.{item_of}
use Rattle.draft.specs.Bytes.{part}
use Rattle.draft.specs.Written.{lsb, counted, content_bytes, bytes_of, item_bytes}
use Rattle.output.proofs.Putting.{lsb_four, counted_length}

-- by the kind of content
pub content_long : (c k : Content) (t : List ℕ) → c ≡ k → {n : ℕ} → n ≡ length (content_bytes k t) → n ≡ length (content_bytes c t)
content_long c k t i e = e ∙ rw i

-- by the row's item
module _ (s : List ℕ) (x : Row) {i : Item} (k : Item) (e : i ≡ item_of x.kind) (f : i ≡ k) where
  pub item_is : item_bytes s x ≡ bytes_of s k x
  unfolding item_bytes
  item_is = rw (← e, f)

  pub item_long : {n : ℕ} → n ≡ length (bytes_of s k x) → n ≡ length (item_bytes s x)
  item_long h = h ∙ rw item_is

-- the content, as it was fetched
pub item_content_long : (s : List ℕ) (x : Row) {i : Item} (c : Content) → i ≡ item_of x.kind → i ≡ item.Content c → {t : List ℕ} → t ≡ part s x.a x.b → {n : ℕ} → n ≡ length (content_bytes c t) → n ≡ length (item_bytes s x)
item_content_long s x c e f g h = item_long s x (item.Content c) e f (h ∙ rw g)

-- the lengths of what is put
pub number_long : (n : ℕ) → 5 ≡ suc (length (lsb n))
number_long n = omega (arith, lsb_four n)

-- items of one length
module _ (s : List ℕ) (x : Row) {i : Item} (e : i ≡ item_of x.kind) where
  pub one_long : (i ≡ item.Call) ⊎ ((i ≡ item.Response) ⊎ ((i ≡ item.Boolean) ⊎ (i ≡ item.Other))) → 1 ≡ length (item_bytes s x)
  one_long (inl f) = item_long s x item.Call e f refl
  one_long (inr (inl f)) = item_long s x item.Response e f refl
  one_long (inr (inr (inl f))) = item_long s x item.Boolean e f refl
  one_long (inr (inr (inr f))) = item_long s x item.Other e f refl

  pub five_long : (i ≡ item.Integer) ⊎ ((i ≡ item.Array) ⊎ (i ≡ item.Struct)) → 5 ≡ length (item_bytes s x)
  five_long (inl f) = item_long s x item.Integer e f (number_long x.a)
  five_long (inr (inl f)) = item_long s x item.Array e f (number_long x.b)
  five_long (inr (inr f)) = item_long s x item.Struct e f (number_long x.b)

pub short_long : (t : List ℕ) → 2 + length t ≡ suc (suc (length t))
short_long t = omega arith

pub counted_long : (t : List ℕ) → 5 + length t ≡ suc (length (counted t))
counted_long t = omega (arith, counted_length t)

pub part_short : (s : List ℕ) (o n : ℕ) {t : List ℕ} → t ≡ part s o n → length s ≤ 65536 → length t ≤ 65536
part_short s o n {t} e h = rw e (simp (length-take, length-drop) (omega arith))

pub ruleset lengths = (content_long, item_long, item_content_long, short_long, number_long, counted_long, part_short)
