-- What answers each return of the functions that read a Value by its byte; and that what may nest plays no part in it. Assumes nothing.
use mathlib.Core.Path.{◌≡◌, refl, sym, ap, ◌∙◌}
use mathlib.Core.Bool.{Bool, true, false, ◌||◌, cond}
use mathlib.Core.List.{List}
use Prim.Native.Nat.{ℕ}
use native.Mathlib.Omega.{arith}
use lib.Dec.{eqb}
use lib.ListN.{get_or}
use borrow.Author.Tests.{eq-eqb, ne_eqb, eqb-true, eqb-false}
use Rattle.draft.specs.declared.Refusal.TheVariants.{UnexpectedByte}
use Rattle.draft.specs.declared.Tag.{Tag}
use Rattle.draft.specs.declared.Tag.TheVariants.{Plain, String, Array, Struct, Unknown}
use Rattle.draft.specs.declared.Plain.TheVariants.{Integer, True, False, Double, DateTime, Binary, Other}
use Rattle.draft.specs.declared.Form.TheVariants.{Regular, Recorded, Recalled}
use Rattle.draft.specs.declared.Content.TheVariants as content
use Rattle.draft.specs.Codebook.{Book}
use Rattle.draft.specs.Read.{Nest, floor, tag_of, integer_item, boolean_item, short_item, long_item, recorded_item, recalled_item, other_item, item}
use Rattle.codebook.specs.Words.{book_of}
use Rattle.item.proofs.Tags.{tag_integer, tag_true, tag_false, tag_double, tag_date, tag_binary, tag_other, tag_regular, tag_recorded, tag_recalled, tag_unknown}
use Rattle.item.specs.Contract.{Step, refused_at, Did, Stored}
use Rattle.item.proofs.Readings.{done, did_no}
use Rattle.scalar.specs.Words.{fixed_size}

-- a byte that begins an item of a fixed size
pub fixed_integer : {b : ℕ} → b ≡ 73 → true ≡ fixed_size b
unfolding fixed_size
fixed_integer e = rw (eq-eqb _ _ e)

pub fixed_true : {b : ℕ} → (b ≡ 73 → ⊥) → b ≡ 116 → true ≡ fixed_size b
unfolding fixed_size
fixed_true n e = rw (ne_eqb _ _ n, eq-eqb _ _ e)

pub fixed_false : {b : ℕ} → (b ≡ 73 → ⊥) → (b ≡ 116 → ⊥) → b ≡ 102 → true ≡ fixed_size b
unfolding fixed_size
fixed_false n m e = rw (ne_eqb _ _ n, ne_eqb _ _ m, eq-eqb _ _ e)

pub fixed_last : {b : ℕ} → (b ≡ 73 → ⊥) → (b ≡ 116 → ⊥) → (b ≡ 102 → ⊥) → eqb b 60 ≡ fixed_size b
unfolding fixed_size
fixed_last n m l = rw (ne_eqb _ _ n, ne_eqb _ _ m, ne_eqb _ _ l)

pub fixed_some : (b : ℕ) {h : Bool} → h ≡ fixed_size b → h ≡ true → fixed_size b ≡ true
fixed_some b e t = sym e ∙ t

pub fixed_none : (b : ℕ) {h : Bool} → h ≡ fixed_size b → h ≡ false → fixed_size b ≡ false
fixed_none b e t = sym e ∙ t

pub ruleset fixing = (fixed_integer, fixed_true, fixed_false, fixed_last, fixed_some, fixed_none)

-- a byte that begins none
module _ (b : ℕ) (e : fixed_size b ≡ false) where
  not_it : (n : ℕ) → fixed_size n ≡ true → b ≡ n → ⊥
  not_it n t i = let z : ◌≡◌ {A = Bool} true false = sym t ∙ ap fixed_size (sym i) ∙ e in let y : ◌≡◌ {A = ℕ} 0 1 = cc in absurd (omega arith)

  pub no_integer : b ≡ 73 → ⊥
  unfolding fixed_size
  no_integer i = not_it 73 refl i

  pub no_true : b ≡ 116 → ⊥
  unfolding fixed_size
  no_true i = not_it 116 refl i

  pub no_false : b ≡ 102 → ⊥
  unfolding fixed_size
  no_false i = not_it 102 refl i

  pub no_recalled : b ≡ 60 → ⊥
  unfolding fixed_size
  no_recalled i = not_it 60 refl i

-- a byte that begins one, and no Integer and no recalled String: a Boolean's
boolean_byte : (b : ℕ) → fixed_size b ≡ true → (b ≡ 73 → ⊥) → (b ≡ 60 → ⊥) → (b ≡ 116 → ⊥) → b ≡ 102
unfolding fixed_size
boolean_byte b e n m l = eqb-true b 102 (go (eqb b 102) (eqb b 60) (rw (ne_eqb _ _ n, ne_eqb _ _ l) at e) (ne_eqb b 60 m))
  where
    go : (x y : Bool) → (x || y) ≡ true → y ≡ false → x ≡ true
    go true y f g = refl
    go false y f g = let z : ◌≡◌ {A = Bool} true false = sym f ∙ g in let u : ◌≡◌ {A = ℕ} 0 1 = cc in absurd (omega arith)

module _ (s : List ℕ) (at : ℕ) {bytes room from r : ℕ} {T T' : List ℕ} {step : Step} where
  pub scalar_boolean : (W : List ℕ) → fixed_size (get_or s at 0) ≡ true → (get_or s at 0 ≡ 73 → ⊥) → (get_or s at 0 ≡ 60 → ⊥) → {a : ℕ} → (get_or s at 0 ≡ 116 → a ≡ 1) → ((get_or s at 0 ≡ 116 → ⊥) → a ≡ 0) → Stored (boolean_item s room a at r) bytes room from r T T' step → Did (item s room (tag_of (get_or s at 0)) floor at r (book_of W)) bytes room from r T T' W step
  scalar_boolean W f n m {a} x y d = go (eqb (get_or s at 0) 116) refl
    where
      go : (z : Bool) → eqb (get_or s at 0) 116 ≡ z → Did (item s room (tag_of (get_or s at 0)) floor at r (book_of W)) bytes room from r T T' W step
      go true z = let e = eqb-true (get_or s at 0) 116 z in done (rw (← tag_true _ e, ← x e)) (d.did W)
      go false z = let l = eqb-false (get_or s at 0) 116 z in done (rw (← tag_false _ (boolean_byte _ f n m l), ← y l)) (d.did W)

  pub scalar_integer : (W : List ℕ) → get_or s at 0 ≡ 73 → Stored (integer_item s room at r) bytes room from r T T' step → Did (item s room (tag_of (get_or s at 0)) floor at r (book_of W)) bytes room from r T T' W step
  scalar_integer W e d = done (rw (← tag_integer _ e)) (d.did W)

  pub scalar_double : (W : List ℕ) → get_or s at 0 ≡ 68 → Stored (short_item s room content.Double at r) bytes room from r T T' step → Did (item s room (tag_of (get_or s at 0)) floor at r (book_of W)) bytes room from r T T' W step
  scalar_double W e d = done (rw (← tag_double _ e)) (d.did W)

  pub scalar_date : (W : List ℕ) → get_or s at 0 ≡ 56 → Stored (short_item s room content.DateTime at r) bytes room from r T T' step → Did (item s room (tag_of (get_or s at 0)) floor at r (book_of W)) bytes room from r T T' W step
  scalar_date W e d = done (rw (← tag_date _ e)) (d.did W)

  pub scalar_binary : (W : List ℕ) → get_or s at 0 ≡ 66 → Stored (long_item s room content.Binary at r) bytes room from r T T' step → Did (item s room (tag_of (get_or s at 0)) floor at r (book_of W)) bytes room from r T T' W step
  scalar_binary W e d = done (rw (← tag_binary _ e)) (d.did W)

  pub scalar_regular : (W : List ℕ) → get_or s at 0 ≡ 85 → Stored (long_item s room content.Text at r) bytes room from r T T' step → Did (item s room (tag_of (get_or s at 0)) floor at r (book_of W)) bytes room from r T T' W step
  scalar_regular W e d = done (rw (← tag_regular _ e)) (d.did W)

  pub scalar_other : (book : Book) {W' : List ℕ} → get_or s at 0 ≡ 79 → Did (other_item s room at r book) bytes room from r T T' W' step → Did (item s room (tag_of (get_or s at 0)) floor at r book) bytes room from r T T' W' step
  scalar_other book e d = done (rw (← tag_other _ e)) d

  pub scalar_recorded : (book : Book) {W' : List ℕ} → get_or s at 0 ≡ 62 → Did (recorded_item s room at r book) bytes room from r T T' W' step → Did (item s room (tag_of (get_or s at 0)) floor at r book) bytes room from r T T' W' step
  scalar_recorded book e d = done (rw (← tag_recorded _ e)) d

  pub scalar_recalled : (book : Book) {W' : List ℕ} → get_or s at 0 ≡ 60 → Did (recalled_item s room at r book) bytes room from r T T' W' step → Did (item s room (tag_of (get_or s at 0)) floor at r book) bytes room from r T T' W' step
  scalar_recalled book e d = done (rw (← tag_recalled _ e)) d

  pub scalar_unknown : (book : Book) {W' : List ℕ} → (get_or s at 0 ≡ 65 → ⊥) → (get_or s at 0 ≡ 83 → ⊥) → fixed_size (get_or s at 0) ≡ false → (get_or s at 0 ≡ 68 → ⊥) → (get_or s at 0 ≡ 56 → ⊥) → (get_or s at 0 ≡ 66 → ⊥) → (get_or s at 0 ≡ 79 → ⊥) → (get_or s at 0 ≡ 85 → ⊥) → (get_or s at 0 ≡ 62 → ⊥) → step ≡ refused_at UnexpectedByte at → Did (item s room (tag_of (get_or s at 0)) floor at r book) bytes room from r T T' W' step
  scalar_unknown book x y z d e f j k l n =
      did_no UnexpectedByte n (rw (← tag_unknown _ (no_integer _ z) (no_true _ z) (no_false _ z) d e f x y j k l (no_recalled _ z)))

pub ruleset scalars = (scalar_integer, scalar_boolean, scalar_double, scalar_date, scalar_binary, scalar_regular, scalar_other, scalar_recorded, scalar_recalled, scalar_unknown)

-- neither an Array nor a Struct
abbrev Flat : Tag → Type 0
Flat (Plain x) = Unit {0}
Flat (String form) = Unit {0}
Flat Array = ⊥
Flat Struct = ⊥
Flat Unknown = Unit {0}

flat_tag : (b : ℕ) → (b ≡ 65 → ⊥) → (b ≡ 83 → ⊥) → Flat (tag_of b)
unfolding tag_of
flat_tag b m n =
    chosen (eqb b 73) (Plain Integer) _ tt (chosen (eqb b 116) (Plain True) _ tt (chosen (eqb b 102) (Plain False) _ tt (chosen (eqb b 68) (Plain Double) _ tt (chosen (eqb b 56) (Plain DateTime) _ tt (chosen (eqb b 66) (Plain Binary) _ tt (rw (ne_eqb b 65 m, ne_eqb b 83 n) (chosen (eqb b 79) (Plain Other) _ tt (chosen (eqb b 85) (String Regular) _ tt (chosen (eqb b 62) (String Recorded) _ tt (chosen (eqb b 60) (String Recalled) Unknown tt tt))))))))))
  where
    chosen : (x : Bool) (t u : Tag) → Flat t → Flat u → Flat (cond x t u)
    chosen true t u f g = f
    chosen false t u f g = g

any_nest : (s : List ℕ) (room : ℕ) (t : Tag) → Flat t → (n m : Nest) (at r : ℕ) (book : Book) → item s room t n at r book ≡ item s room t m at r book
any_nest s room (Plain x) f n m at r book = refl
any_nest s room (String form) f n m at r book = refl
any_nest s room Array f n m at r book = absurd f
any_nest s room Struct f n m at r book = absurd f
any_nest s room Unknown f n m at r book = refl

-- what may nest plays no part where neither begins
pub flat : (s : List ℕ) (room at r : ℕ) (book : Book) (nest : Nest) → (get_or s at 0 ≡ 65 → ⊥) → (get_or s at 0 ≡ 83 → ⊥) → item s room (tag_of (get_or s at 0)) nest at r book ≡ item s room (tag_of (get_or s at 0)) floor at r book
flat s room at r book nest m n = any_nest s room (tag_of (get_or s at 0)) (flat_tag (get_or s at 0) m n) nest floor at r book
