-- What an edition derives has one written form, which it derives too and which means the same, a plain dict's pair order aside; and equal forms
-- come only from equal meaning. Said once, over the edition. The long arguments are in crates glyph_order and glyph_back. Assumes nothing.
use mathlib.Core.Path.{◌≡◌, sym}
use mathlib.Core.Logic.{◌↔◌}
use mathlib.Core.List.{List, [], append-nil}
use Prim.Native.Nat.{ℕ}
use native.Mathlib.Omega.{arith}
use lib.ListN.{length}
use Rattle.glyph.specs.declared.Edition.{Edition}
use Rattle.glyph.specs.Tree.{Tree}
use Rattle.glyph.specs.Grammar.{no_blanks, Object, Root}
use Rattle.glyph_form.specs.Form.{canon, written}
use Rattle.glyph_order.specs.Same.{Same}
use Rattle.glyph_order.proofs.Order.{same_canon, same_by_canon, one_form}
use Rattle.glyph_back.specs.Brief.{Brief}
use Rattle.glyph_back.proofs.Back.{read_back}
use Rattle.glyph_back.proofs.Derived.{distinct}
use Rattle.glyph_demands.proofs.Reading.{one_meaning}

-- t is what some bytes mean in an edition, its texts of fewer than 10,000,000,000 bytes each; those of a message or a table have 65,536 at most
pub record Means (e : Edition) (d : ℕ) (t : Tree) : Type 0 where
  pub bytes : List ℕ
  pub object : Object e d bytes t
  pub texts : Brief t

-- an object as a whole message
whole : {e : Edition} {d : ℕ} {xs : List ℕ} {t : Tree} → Object e d xs t → Root e d xs (length xs) t
whole {xs = xs} o =
    record { before = []; bytes = xs; after = []; blanks_before = no_blanks; object = o; blanks_after = no_blanks; is = sym (append-nil xs); ends = omega arith }

-- READ BACK. The written form is a message of the edition, within the same nesting, and used whole.
pub read_back_whole : {e : Edition} {d : ℕ} {t : Tree} → Means e d t → Root e d (written e t) (length (written e t)) (canon t)
read_back_whole m = whole (read_back m.object m.texts)

-- It means the same.
pub read_back_same : {e : Edition} {d : ℕ} {t : Tree} → Means e d t → Same t (canon t)
read_back_same m = same_canon (distinct m.object)

-- ONE FORM. Within an edition, the form is settled by the meaning, and equal forms come only from equal meaning.
pub one_form_one_meaning : {e : Edition} {d d' : ℕ} {t u : Tree} → Means e d t → Means e d' u → Same t u ↔ (written e t ≡ written e u)
one_form_one_meaning {e} {d} {d'} {t} {u} m n = (
  λ h. one_form e h,
  λ i. same_by_canon (distinct m.object) (distinct n.object) (one_meaning (read_back_whole m) (rw (sym i) at (read_back_whole n))).1,
)
