-- What answers the returns of the functions that ask for a row's text, and whether it is before another's. Assumes nothing.
use mathlib.Core.Path.{◌≡◌, ◌∙◌}
use mathlib.Core.Bool.{Bool}
use mathlib.Core.List.{List, []}
use Prim.Native.Nat.{ℕ, ◌≤◌, ◌<◌}
use lib.ListN.{get_or}
use borrow.Author.Tests.{lt-ltb, le-ltb}
use Rattle.std.proofs.Common.{Ordering}
use Rattle.std.specs.Ordering.{is_lt}
use Rattle.order.specs.ByteOrder.{compared}
use Rattle.draft.specs.declared.Row.{Row}
use Rattle.draft.specs.Bytes.{part}
use Rattle.sorting.specs.Sorting.{key_text, before}

module _ (room : ℕ) (row : ℕ → Row) (s : List ℕ) (r : ℕ) where
  pub text_none : room ≤ r → [] ≡ key_text room row s r
  unfolding key_text
  text_none h = rw (le-ltb r room h)

  pub text_there : {x : Row} {t : List ℕ} → r < room → x ≡ row r → t ≡ part s x.a x.b → t ≡ key_text room row s r
  unfolding key_text
  text_there h e i = i ∙ rw (e, lt-ltb r room h)

pub precedes_is : (text : ℕ → List ℕ) (k j : ℕ) {a b : List ℕ} {r : Ordering} {c : Bool} → a ≡ text k → b ≡ text j → r ≡ compared a b → c ≡ is_lt r → c ≡ before text k j
unfolding before
precedes_is text k j e f g h = h ∙ rw (g, e, f)

-- the row at a place
pub precedes_there : (text : ℕ → List ℕ) (k j : ℕ) (rows : List ℕ) {w : ℕ} {b : Bool} → w ≡ get_or rows j 0 → b ≡ before text k w → b ≡ before text k (get_or rows j 0)
precedes_there text k j rows e f = rw e at f

pub ruleset preceding = (precedes_there, text_none, text_there, precedes_is)
