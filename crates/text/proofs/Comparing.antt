-- What answers the returns and turns of the functions that compare bytes; and that texts of the same bytes are equal. Assumes nothing.
use mathlib.Core.Path.{◌≡◌, refl, sym, ap, ◌∙◌}
use mathlib.Core.Bool.{Bool, true, false, ◌&&◌, ◌||◌, true≢false}
use mathlib.Core.List.{List, [], ◌∷◌}
use Prim.Native.Nat.{ℕ, zero, suc, ◌+◌, ◌≤◌, ◌<◌}
use native.Mathlib.Omega.{arith}
use native.Mathlib.Numerals.{add-one}
use lib.ListN.{length, get_or, drop}
use lib.Seq.{drop-cons}
use lib.Dec.{eqb, ltb}
use borrow.Author.Tests.{eqb-true, eq-eqb, ne_eqb}
use Rattle.text.specs.Texts.{ascii, same, among, standard_name, i4, int, boolean, string, double, date_time, base64, struct, array}

-- two answers of one test
pub clash : {X : Type 0} {b : Bool} → b ≡ true → b ≡ false → X
clash e f = absurd (true≢false (sym e ∙ f))

pub both : (a b : Bool) → (a && b) ≡ true → (a ≡ true) × (b ≡ true)
both true true e = (refl, refl)
both true false e = clash e refl
both false b e = clash e refl

-- nothing is left from the end on
pub ended : (s : List ℕ) (i : ℕ) → length s ≤ i → drop i s ≡ []
ended [] zero h = refl
ended [] (suc i) h = refl
ended (x ∷ s) zero h = absurd (omega arith)
ended (x ∷ s) (suc i) h = ended s i (omega arith)

pub same_is : (u t : List ℕ) → same u t ≡ true → u ≡ t
unfolding same
same_is [] [] e = refl
same_is [] (y ∷ ys) e = clash e refl
same_is (x ∷ xs) [] e = clash e refl
same_is (x ∷ xs) (y ∷ ys) e =
    let h = both (eqb x y) (same xs ys) e in
    let a : x ≡ y = eqb-true x y h.0 in
    let b : xs ≡ ys = same_is xs ys h.1 in
    cc

pub same_self : (t : List ℕ) → same t t ≡ true
unfolding same
same_self [] = refl
same_self (x ∷ xs) = rw (eq-eqb x x refl) (same_self xs)

pub same_ne : (u t : List ℕ) → (u ≡ t → ⊥) → same u t ≡ false
same_ne u t n = go (same u t) refl
  where
    go : (b : Bool) → same u t ≡ b → b ≡ false
    go true e = absurd (n (same_is u t e))
    go false e = refl

-- the first i bytes are done: the answer lies with the rest
pub record Left (f : List ℕ → Bool) (s : List ℕ) (i : ℕ) : Type 0 where
  pub rest : f s ≡ f (drop i s)

module _ {s : List ℕ} {i : ℕ} (e : Left ascii s i) where
  pub ascii_done : length s ≤ i → true ≡ ascii s
  unfolding ascii
  ascii_done h = sym (e.rest ∙ rw (ended s i h))

  module _ {below : Bool} (h : i < length s) (l : below ≡ ltb (get_or s i 0) 128) where
    pub ascii_no : below ≡ false → false ≡ ascii s
    unfolding ascii
    ascii_no f = sym (e.rest ∙ rw (drop-cons s i 0 h, ← l, f))

    pub ascii_again : below ≡ true → Left ascii s (i + 1)
    unfolding ascii
    ascii_again f = record { rest = e.rest ∙ rw (add-one, drop-cons s i 0 h, ← l, f) }

pub record BothLeft (u t : List ℕ) (i : ℕ) : Type 0 where
  pub rest : same u t ≡ same (drop i u) (drop i t)

pub same_lengths : (u t : List ℕ) → (length u ≡ length t → ⊥) → false ≡ same u t
same_lengths u t d = sym (same_ne u t (λ e. d (ap length e)))

module _ {u t : List ℕ} {i : ℕ} (e : BothLeft u t i) (l : length u ≡ length t) where
  pub same_done : length u ≤ i → true ≡ same u t
  unfolding same
  same_done h = sym (e.rest ∙ rw (ended u i h, ended t i (omega arith)))

  module _ (h : i < length u) where
    pub same_no : (get_or u i 0 ≡ get_or t i 0 → ⊥) → false ≡ same u t
    unfolding same
    same_no d = sym (e.rest ∙ rw (drop-cons u i 0 h, drop-cons t i 0 (omega arith), ne_eqb _ _ d))

    pub same_again : get_or u i 0 ≡ get_or t i 0 → BothLeft u t (i + 1)
    unfolding same
    same_again d = record { rest = e.rest ∙ rw (add-one, drop-cons u i 0 h, drop-cons t i 0 (omega arith), eq-eqb _ _ d) }

or_assoc : (a b c : Bool) → (a || b || c) ≡ (a || (b || c))
or_assoc true b c = refl
or_assoc false b c = refl

or_false : (a : Bool) → (a || false) ≡ a
or_false true = refl
or_false false = refl

-- the nine comparisons, in the code's grouping
pub named : (s : List ℕ) {a b c d e f g h i : Bool} → a ≡ same s i4 → b ≡ same s int → c ≡ same s boolean → d ≡ same s string → e ≡ same s double → f ≡ same s date_time → g ≡ same s base64 → h ≡ same s struct → i ≡ same s array → (a || b || c || d || e || f || g || h || i) ≡ standard_name s
unfolding among standard_name
named s ea eb ec ed ee ef eg eh ei = simp (or_assoc, or_false, ea, eb, ec, ed, ee, ef, eg, eh, ei)

pub ruleset comparing = (ascii_done, ascii_no, ascii_again, same_lengths, same_done, same_no, same_again, named)
