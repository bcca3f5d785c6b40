-- Rows that have the meaning of cells: one row, rows one after the other, and that tables mean the same exactly if their cells are equal.
-- Assumes nothing.
use mathlib.Core.Path.{◌≡◌, refl, sym, ap, ap₂, ◌∙◌}
use mathlib.Core.Bool.{Bool, true, false, ◌||◌}
use mathlib.Core.Logic.{◌↔◌}
use mathlib.Core.List.{List, [], ◌∷◌, ◌++◌}
use Prim.Native.Nat.{ℕ, suc, ◌+◌}
use native.Mathlib.Omega.{arith}
use native.Mathlib.Nat.{add-zero}
use lib.Dec.{eqb}
use lib.ListN.{length}
use borrow.Author.Tests.{eqb-true}
use Rattle.text.proofs.Comparing.{clash}
use Rattle.draft.specs.declared.Row.{Row}
use Rattle.draft.specs.declared.Content.{Content}
use Rattle.draft.specs.declared.Content.TheVariants.{Double, DateTime, Binary, Text}
use Rattle.draft.specs.Rows.{row, below, kind_of}
use Rattle.draft.specs.Content.{held_of}
use Rattle.draft.specs.Read.{text_of, held_rows}
use Rattle.draft.specs.Grammar.{Payload, holding, number, contents, Cell, cell, content_cell, held_cell, held_cells}
use Rattle.draft.specs.Meaning.{has_number, has_content, SameRow, MeanSame, no_rows, and_row, Says, says_holding, says_number, says_contents, Means, means, Realises, no_more, and_then}
use Rattle.exact.proofs.Standing.{Here, ends, part_here, long}

pub content_has : (c : Content) → has_content (kind_of c) ≡ true
unfolding has_content
content_has Double = refl
content_has DateTime = refl
content_has Binary = refl
content_has Text = refl

pub number_no_content : (k : ℕ) → has_number k ≡ true → has_content k ≡ false
unfolding has_number has_content
number_no_content k h = go (eqb k 4) refl h
  where
    go : (b : Bool) → eqb k 4 ≡ b → b || eqb k 5 ≡ true → has_content k ≡ false
    go true e i = rw (eqb-true k 4 e)
    go false e i = rw (eqb-true k 5 i)

module _ {s : List ℕ} where
  -- a row that names content bytes
  pub content_means :
      {o n : ℕ} {t : List ℕ} (c : Content) (r : ℕ) → Here s o t → n ≡ length t → Means s r (row (kind_of c) o n (r + 1)) (content_cell c t)
  content_means c r h e = means {below = 0} refl (omega arith) (says_contents (content_has c) (omega (arith, ends h, e)) (part_here h e))

  -- a row over others
  pub over_means :
      {b m n : ℕ} (kind r : ℕ) → has_number kind ≡ false → has_content kind ≡ false → n ≡ m
      → Means s r (row kind 0 b (r + 1 + n)) (cell kind m (holding b))
  over_means {m = m} kind r h k e = means {below = m} refl (omega arith) (says_holding h k refl refl)

  pub number_means : {n : ℕ} (kind r : ℕ) → has_number kind ≡ true → Means s r (row kind n 0 (r + 1)) (cell kind 0 (number n))
  number_means kind r h = means {below = 0} refl (omega arith) (says_number h refl refl)

  pub counts : {r : ℕ} {xs : List Row} {cs : List Cell} → Realises s r xs cs → length xs ≡ length cs
  counts no_more = refl
  counts (and_then m t) = ap suc (counts t)

  pub realises_append :
      {r : ℕ} {xs ys : List Row} {cs ds es : List Cell} → Realises s r xs cs → Realises s (r + length xs) ys ds → es ≡ cs ++ ds
      → Realises s r (xs ++ ys) es
  realises_append {r} {xs} {ys} {cs} {ds} {es} a b e = rw e (go a b)
    where
      go : {r : ℕ} {xs : List Row} {cs : List Cell} → Realises s r xs cs → Realises s (r + length xs) ys ds → Realises s r (xs ++ ys) (cs ++ ds)
      go {r} no_more b = rw add-zero at b
      go (and_then {r} {x} {c} {xs} {cs} m t) b = and_then m (let e : r + suc (length xs) ≡ suc r + length xs = omega arith in go t (rw e at b))

-- rows with the meaning of cells are the same to the rule for a fault's members: only a String's text counts
text_unseen : (k : ℕ) (t u : List ℕ) → has_content k ≡ false → held_of k t ≡ held_of k u
unfolding held_of has_content
text_unseen k t u h = go (eqb k 11) refl
  where
    go : (b : Bool) → eqb k 11 ≡ b → held_of k t ≡ held_of k u
    go true e = clash refl (rw (eqb-true k 11 e) at h)
    go false e = rw e

module _ {s : List ℕ} where
  held_cell_lem : {r : ℕ} {x : Row} {c : Cell} → Means s r x c → held_of x.kind (text_of s x) ≡ held_cell c
  held_cell_lem {x = x} (means k e (says_holding h i a b)) = rw (← k) (text_unseen x.kind (text_of s x) [] i)
  held_cell_lem {x = x} (means k e (says_number h a b)) = rw (← k) (text_unseen x.kind (text_of s x) [] (number_no_content x.kind h))
  held_cell_lem (means k e (says_contents h i j)) = rw (k, j)

  pub held_same : {r : ℕ} {xs : List Row} {cs : List Cell} → Realises s r xs cs → held_rows s xs ≡ held_cells cs
  unfolding held_rows held_cells
  held_same no_more = refl
  held_same (and_then m t) = rw (held_cell_lem m, held_same t)

  pub held_below : {r : ℕ} {xs : List Row} {cs : List Cell} → Realises s r xs cs → held_rows s (below xs) ≡ held_cells (below cs)
  unfolding held_rows held_cells
  held_below no_more = refl
  held_below (and_then m t) = held_same t

-- rows that mean the same have equal cells, and the other way round
module _ {s t : List ℕ} where
  says_equal : {x y : Row} {p q : Payload} → Says s x p → Says t y q → SameRow s x t y → p ≡ q
  says_equal (says_holding h k a b) (says_holding h' k' a' b') e = ap holding (sym b ∙ e.b ∙ b')
  says_equal (says_holding h k a b) (says_number h' a' b') e = clash h' (ap has_number (sym e.kind) ∙ h)
  says_equal (says_holding h k a b) (says_contents h' i e') e = clash h' (ap has_content (sym e.kind) ∙ k)
  says_equal (says_number h a b) (says_holding h' k' a' b') e = clash h (ap has_number e.kind ∙ h')
  says_equal (says_number h a b) (says_number h' a' b') e = ap number (sym a ∙ e.a h ∙ a')
  says_equal {x} {y} (says_number h a b) (says_contents h' i e') e = clash (rw (← e.kind) at h') (number_no_content x.kind h)
  says_equal (says_contents h i j) (says_holding h' k' a' b') e = clash h (ap has_content e.kind ∙ k')
  says_equal {x} {y} (says_contents h i j) (says_number h' a' b') e = clash (rw e.kind at h) (number_no_content y.kind h')
  says_equal (says_contents h i j) (says_contents h' i' j') e = ap contents (sym j ∙ e.content h ∙ j')

  says_same : {x y : Row} {p : Payload} → x.kind ≡ y.kind → x.end ≡ y.end → Says s x p → Says t y p → SameRow s x t y
  says_same k e (says_holding h i a b) (says_holding h' i' a' b') =
      record { kind = k; b = b ∙ sym b'; end = e; a = λ j. clash j h; content = λ j. clash j i }
  says_same {x} k e (says_number h a b) (says_number h' a' b') =
      record { kind = k; b = b ∙ sym b'; end = e; a = λ j. a ∙ sym a'; content = λ j. clash j (number_no_content x.kind h) }
  says_same {x} {y} k e (says_contents h i j) (says_contents h' i' j') =
      record {
        kind = k;
        b = long s x.a x.b i ∙ ap length (j ∙ sym j') ∙ sym (long t y.a y.b i');
        end = e;
        a = λ l. clash h (number_no_content x.kind l);
        content = λ l. j ∙ sym j';
      }

  cell_equal : {r : ℕ} {x y : Row} {c d : Cell} → Means s r x c → Means t r y d → SameRow s x t y → c ≡ d
  cell_equal {r} (means {kind = k} {below = m} {p = p} h e i) (means {kind = k'} {below = m'} {p = p'} h' e' i') z =
      let a : k ≡ k' = sym h ∙ z.kind ∙ h' in
      let b : m ≡ m' = omega (arith, sym e ∙ z.end ∙ e') in
      let c : p ≡ p' = says_equal i i' z in
      cc

  cell_same : {r : ℕ} {x y : Row} {c : Cell} → Means s r x c → Means t r y c → SameRow s x t y
  cell_same (means h e i) (means h' e' i') = says_same (h ∙ sym h') (e ∙ sym e') i i'

  equal_cells : {r : ℕ} {xs ys : List Row} {cs ds : List Cell} → Realises s r xs cs → Realises t r ys ds → MeanSame s t xs ys → cs ≡ ds
  equal_cells no_more no_more no_rows = refl
  equal_cells (and_then m a) (and_then n b) (and_row e z) = ap₂ (λ (c : Cell) (l : List Cell). c ∷ l) (cell_equal m n e) (equal_cells a b z)
  equal_cells (no_more {r = r}) (and_then {c = c} {xs = xs} {cs = cs} n b) x22 = elim x22 [ ]
  equal_cells (and_then {r = r} {c = c} {xs = xs} {cs = cs} m a) no_more x16 = elim x16 [ ]

  same_rows : {r : ℕ} {xs ys : List Row} {cs : List Cell} → Realises s r xs cs → Realises t r ys cs → MeanSame s t xs ys
  same_rows no_more no_more = no_rows
  same_rows (and_then m a) (and_then n b) = and_row (cell_same m n) (same_rows a b)

  -- document 01's 'mean the same', for tables whose rows have the meaning of cells
  pub same_meaning : {xs ys : List Row} {cs ds : List Cell} → Realises s 0 xs cs → Realises t 0 ys ds → MeanSame s t xs ys ↔ (cs ≡ ds)
  same_meaning a b = (equal_cells a b, λ e. same_rows a (rw (← e) at b))

-- rows have one meaning
pub one_meaning : {s : List ℕ} {r : ℕ} {xs : List Row} {cs ds : List Cell} → Realises s r xs cs → Realises s r xs ds → cs ≡ ds
one_meaning {s} {r} {xs} a b = equal_cells a b (go xs)
  where
    go : (xs : List Row) → MeanSame s s xs xs
    go [] = no_rows
    go (x ∷ xs) = and_row (record { kind = refl; b = refl; end = refl; a = λ h. refl; content = λ h. refl }) (go xs)
