-- What answers the goals of the functions that fetch and compare texts. Assumes nothing.
use Prim.Native.Nat.{ℕ, ◌≤◌, ◌<◌}
use mathlib.Core.Path.{◌≡◌, refl, sym, ◌∙◌}
use mathlib.Core.Bool.{Bool, true}
use mathlib.Core.List.{List}
use native.Mathlib.Omega.{arith}
use lib.ListN.{length, get_or, length-take, length-drop}
use Rattle.text.specs.Texts.{same}
use Rattle.draft.specs.declared.Row.{Row}
use Rattle.draft.specs.Bytes.{part}
use Rattle.buckets.specs.Numbered.{numbered_text, Strings, Through}
use Rattle.occurring.proofs.Among.{same_eq}

-- the row of string j, and of one before it
module _ {room words j : ℕ} {W : List ℕ} (h : Through room words j W) {r : ℕ} where
  pub row_last : r ≡ get_or W j 0 → r < room
  row_last e = omega (arith, h.rows j (omega arith))

  pub row_before : {k : ℕ} → k ≤ j → r ≡ get_or W k 0 → r < room
  row_before {k} l e = omega (arith, h.rows k (omega arith))

pub through : {room words n j : ℕ} {W : List ℕ} → Strings room words n W → j < n → Through room words j W
through h l =
    record {
      table = h.table;
      most = h.most;
      few = omega (arith, h.few);
      there = omega (arith, h.there);
      rows = λ k m. h.rows k (omega arith);
    }

-- a string's text, by its row as the code has it
module _ (row : ℕ → Row) (W s : List ℕ) (j : ℕ) where
  pub text_is : {r : ℕ} {x : Row} {t : List ℕ} → r ≡ get_or W j 0 → x ≡ row r → t ≡ part s x.a x.b → t ≡ numbered_text row W s j
  unfolding numbered_text
  text_is er ex h = h ∙ rw (ex, er)

  -- and its length, no more than all the bytes
  pub text_short : length (numbered_text row W s j) ≤ length s
  unfolding numbered_text
  text_short = simp (length-take, length-drop) (omega arith)

-- two strings, by their rows
module _ (row : ℕ → Row) (W s : List ℕ) (k j : ℕ) {p q : ℕ} {x y : Row} (ep : p ≡ get_or W k 0) (eq : q ≡ get_or W j 0) (ex : x ≡ row p) (ey : y ≡ row q) where
  pub texts_one : x.a ≡ y.a → x.b ≡ y.b → true ≡ same (numbered_text row W s k) (numbered_text row W s j)
  texts_one a b = sym (same_eq (numbered_text row W s k) (numbered_text row W s j) (sym (text_is row W s k ep ex refl) ∙ rw (a, b) (text_is row W s j eq ey refl)))

  pub texts_equal : {b : Bool} {t u : List ℕ} → b ≡ same t u → t ≡ part s x.a x.b → u ≡ part s y.a y.b → b ≡ same (numbered_text row W s k) (numbered_text row W s j)
  texts_equal h t u = h ∙ rw (text_is row W s k ep ex t, text_is row W s j eq ey u)

pub ruleset comparing = (row_last, row_before, through, text_is, texts_one, texts_equal)
