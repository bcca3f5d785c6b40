-- What answers each return of the functions that put a row's item. Assumes nothing.
use Prim.Native.Nat.{ℕ}
use mathlib.Core.Path.{◌≡◌, refl}
use mathlib.Core.List.{List, [], ◌∷◌}
use lib.Dec.{eqb}
use borrow.Author.Tests.{ne_eqb}
use Rattle.draft.specs.declared.Content.{Content}
use Rattle.draft.specs.declared.Item.{Item}
use Rattle.draft.specs.declared.Item.TheVariants as item
use Rattle.draft.specs.declared.Row.{Row}
use Rattle.draft.specs.Rows.{item_of}
use Rattle.draft.specs.Bytes.{part}
use Rattle.draft.specs.Written.{letter, content_bytes, bytes_of, item_bytes}
use Rattle.output.specs.Contract.{Tried}
use Rattle.row_length.proofs.Lengths.{item_is, part_short}

pub tried_none : {o : List ℕ} {m : ℕ} → Tried [] m o o 0
tried_none = record { long = refl; front = λ h. record { is = refl }; kept = λ _. refl }

-- by the kind of content
pub content_tried : (c k : Content) (t : List ℕ) → c ≡ k → {o o' : List ℕ} {m n : ℕ} → Tried (content_bytes k t) m o o' n → Tried (content_bytes c t) m o o' n
content_tried c k t i p = rw i p

-- by the row's item
pub item_tried : (s : List ℕ) (x : Row) {i : Item} (k : Item) → i ≡ item_of x.kind → i ≡ k → {o o' : List ℕ} {m n : ℕ} → Tried (bytes_of s k x) m o o' n → Tried (item_bytes s x) m o o' n
item_tried s x k e f p = rw (item_is s x k e f) p

-- the content, as it was fetched
pub item_content_tried : (s : List ℕ) (x : Row) {i : Item} (c : Content) → i ≡ item_of x.kind → i ≡ item.Content c → {t : List ℕ} → t ≡ part s x.a x.b → {o o' : List ℕ} {m n : ℕ} → Tried (content_bytes c t) m o o' n → Tried (item_bytes s x) m o o' n
item_content_tried s x c e f g p = item_tried s x (item.Content c) e f (rw g at p)

pub letter_false : (a : ℕ) → a ≡ 0 → 102 ≡ letter (eqb a 0)
letter_false a e = rw e

pub letter_true : (a : ℕ) → (a ≡ 0 → ⊥) → 116 ≡ letter (eqb a 0)
letter_true a e = rw (ne_eqb a 0 e)

pub boolean_tried : (a : ℕ) {b : ℕ} {o o' : List ℕ} {m n : ℕ} → b ≡ letter (eqb a 0) → Tried (b ∷ []) m o o' n → Tried (letter (eqb a 0) ∷ []) m o o' n
boolean_tried a e p = rw (← e) p

pub ruleset items = (tried_none, content_tried, item_tried, item_content_tried, letter_false, letter_true, boolean_tried, part_short)
