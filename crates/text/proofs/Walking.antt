-- What answers the returns and turns of the functions that walk from character to character. Assumes nothing.
use mathlib.Core.Path.{◌≡◌, refl, sym, ap, ◌∙◌}
use mathlib.Core.Bool.{Bool, true, false, ◌&&◌, cond}
use mathlib.Core.List.{List, [], ◌∷◌}
use Prim.Native.Nat.{ℕ, zero, suc, ◌+◌, ◌≤◌, ◌<◌}
use native.Mathlib.Omega.{arith}
use native.Mathlib.Numerals.{add-one}
use mir.Syntax.{w8, w64}
use mir.Val.{Fits}
use lib.ListN.{length, get_or, drop, length-drop}
use lib.Seq.{drop-cons, drop-drop}
use lib.Dec.{leb, ltb}
use borrow.Author.Rules.{rules}
use borrow.Author.Tests.{ltb-true, ne_eqb}
use Rattle.text.specs.Utf8.{Range, within, Due, due, wrong, due_after, step, octets, well_formed, begins, width_by, width}
use Rattle.text.specs.Classes.{single, lead_two, lead_three_least, lead_three, lead_three_surrogate, lead_four_least, lead_four, lead_four_most, class_of, classes, UpToTails}
use Rattle.text.proofs.Bytewise.{due_single, due_of, due_by_class, within_classes}
use Rattle.text.proofs.Comparing.{clash, both, ended, Left}

-- what a slice of bytes holds
abbrev pub Bytes : List ℕ → Type 0
Bytes s = (i : ℕ) → Fits w8 (get_or s i 0)

pub byte : (s : List ℕ) → Bytes s → (i : ℕ) → get_or s i 0 < 256
byte s bytes i = omega (arith, bytes i)

and_true : (b : Bool) → (b && true) ≡ b
and_true true = refl
and_true false = refl

pub follows_end : (range : Range) (s : List ℕ) (at : ℕ) → length s ≤ at → false ≡ begins (range ∷ []) (drop at s)
unfolding begins
follows_end range s at h = rw (ended s at h)

-- a byte that stands there, by its class
pub follows_class : (low high : ℕ) (s : List ℕ) (at : ℕ) {class : ℕ} → Bytes s → UpToTails low high → at < length s → class ≡ class_of (get_or s at 0) → (leb low class && leb class high) ≡ begins (classes low high ∷ []) (drop at s)
unfolding begins
follows_class low high s at bytes u h e = rw (drop-cons s at 0 h, within_classes low high (get_or s at 0) u (byte s bytes at), e, and_true)

-- a byte and those after it
pub follows_not : (range : Range) (ranges : List Range) (s : List ℕ) (at : ℕ) {b : Bool} → b ≡ begins (range ∷ []) (drop at s) → b ≡ false → false ≡ begins (range ∷ ranges) (drop at s)
unfolding begins
follows_not range ranges s at {b} e f = go (drop at s) (sym e ∙ f)
  where
    go : (t : List ℕ) → begins (range ∷ []) t ≡ false → false ≡ begins (range ∷ ranges) t
    go [] h = refl
    go (x ∷ t) h = let w : within range x ≡ false = sym (and_true (within range x)) ∙ h in rw w

-- a byte in a range that stands at a place stands before the end
inside : (range : Range) (s : List ℕ) (at : ℕ) → begins (range ∷ []) (drop at s) ≡ true → at < length s
unfolding begins
inside range [] zero e = clash e refl
inside range [] (suc at) e = clash e refl
inside range (x ∷ s) zero e = omega arith
inside range (x ∷ s) (suc at) e = let h = inside range s at e in omega arith

pub follows_then : (range : Range) (ranges : List Range) (s : List ℕ) (at : ℕ) {b more : Bool} → b ≡ begins (range ∷ []) (drop at s) → b ≡ true → more ≡ begins ranges (drop (at + 1) s) → more ≡ begins (range ∷ ranges) (drop at s)
unfolding begins
follows_then range ranges s at e f m =
    let t : begins (range ∷ []) (drop at s) ≡ true = sym e ∙ f in
    let h = inside range s at t in
    let w : within range (get_or s at 0) ≡ true = sym (and_true _) ∙ (rw (drop-cons s at 0 h) at t) in
    m ∙ rw (add-one, drop-cons s at 0 h, w)

pub follows_fits : (range : Range) (s : List ℕ) (at : ℕ) {b : Bool} → length s < 18446744073709551616 → b ≡ begins (range ∷ []) (drop at s) → b ≡ true → Fits w64 (at + 1)
follows_fits range s at l e f = let h = inside range s at (sym e ∙ f) in omega arith

-- the character at i, by the class of its first byte
module _ (s : List ℕ) (i : ℕ) {class : ℕ} (bytes : Bytes s) (h : i < length s) (e : class ≡ class_of (get_or s i 0)) where
  at_class : width (drop i s) ≡ width_by (due_of class) (drop (i + 1) s)
  unfolding width
  at_class = rw (add-one, drop-cons s i 0 h, due_by_class (get_or s i 0) (byte s bytes i), e)

  pub width_single : class ≡ single → 1 ≡ width (drop i s)
  unfolding width_by begins
  width_single f = sym (at_class ∙ rw f)

  pub width_lead : {k : ℕ} {ranges : List Range} {good : Bool} {r n : ℕ} → class ≡ k → good ≡ begins ranges (drop (i + 1) s) → r ≡ cond good n 0 → due_of k ≡ due ranges → n ≡ suc (length ranges) → r ≡ width (drop i s)
  unfolding width_by
  width_lead f g w d m = w ∙ rw (g, m) (sym (at_class ∙ rw (f, d)))

  pub width_none : (class ≡ single → ⊥) → (class ≡ lead_two → ⊥) → (class ≡ lead_three_least → ⊥) → (class ≡ lead_three → ⊥) → (class ≡ lead_three_surrogate → ⊥) → (class ≡ lead_four_least → ⊥) → (class ≡ lead_four → ⊥) → (class ≡ lead_four_most → ⊥) → 0 ≡ width (drop i s)
  unfolding width_by
  width_none a b c d f g j k = sym (at_class ∙ rw (ne_eqb _ _ a, ne_eqb _ _ b, ne_eqb _ _ c, ne_eqb _ _ d, ne_eqb _ _ f, ne_eqb _ _ g, ne_eqb _ _ j, ne_eqb _ _ k))

wrong_on : (s : List ℕ) → octets wrong s ≡ false
unfolding octets step
wrong_on [] = refl
wrong_on (x ∷ s) = wrong_on s

-- what is due, and then characters
due_on : (ranges : List Range) (s : List ℕ) → octets (due ranges) s ≡ (begins ranges s && well_formed (drop (length ranges) s))
unfolding octets step begins well_formed
due_on [] s = refl
due_on (range ∷ ranges) [] = refl
due_on (range ∷ ranges) (x ∷ s) = go (within range x) (due_on ranges s)
  where
    go : (w : Bool) → octets (due ranges) s ≡ (begins ranges s && well_formed (drop (length ranges) s)) → octets (cond w (due ranges) wrong) s ≡ ((w && begins ranges s) && well_formed (drop (length ranges) s))
    go true e = e
    go false e = wrong_on s

begins_within : (ranges : List Range) (s : List ℕ) → begins ranges s ≡ true → length ranges ≤ length s
unfolding begins
begins_within [] s e = omega arith
begins_within (range ∷ ranges) [] e = clash e refl
begins_within (range ∷ ranges) (x ∷ s) e = let h = begins_within ranges s (both (within range x) (begins ranges s) e).1 in omega arith

-- the bytes s after a first byte x, after which d is due: its character is passed, or there is none
module _ (x : ℕ) (s : List ℕ) where
  on_by : (d : Due) → (width_by d s ≡ 0 → ⊥) → octets d s ≡ well_formed (drop (width_by d s) (x ∷ s))
  unfolding width_by
  on_by wrong n = absurd (n refl)
  on_by (due ranges) n = go (begins ranges s) (due_on ranges s) n
    where
      go : (b : Bool) → octets (due ranges) s ≡ (b && well_formed (drop (length ranges) s)) → (cond b (suc (length ranges)) 0 ≡ 0 → ⊥) → octets (due ranges) s ≡ well_formed (drop (cond b (suc (length ranges)) 0) (x ∷ s))
      go true e n = e
      go false e n = absurd (n refl)

  off_by : (d : Due) → width_by d s ≡ 0 → octets d s ≡ false
  unfolding width_by
  off_by wrong n = wrong_on s
  off_by (due ranges) n = go (begins ranges s) (due_on ranges s) n
    where
      go : (b : Bool) → octets (due ranges) s ≡ (b && well_formed (drop (length ranges) s)) → cond b (suc (length ranges)) 0 ≡ 0 → octets (due ranges) s ≡ false
      go true e n = absurd (omega arith)
      go false e n = e

  short_by : (d : Due) → width_by d s ≤ suc (length s)
  unfolding width_by
  short_by wrong = omega arith
  short_by (due ranges) = go (begins ranges s) (begins_within ranges s)
    where
      go : (b : Bool) → (b ≡ true → length ranges ≤ length s) → cond b (suc (length ranges)) 0 ≤ suc (length s)
      go true h = let l = h refl in omega arith
      go false h = omega arith

-- the character at the front
pass : (t : List ℕ) → (width t ≡ 0 → ⊥) → well_formed t ≡ well_formed (drop (width t) t)
unfolding width well_formed octets step
pass [] n = absurd (n refl)
pass (x ∷ t) n = on_by x t (due_after x) n

pub pass_single : (x : ℕ) (t : List ℕ) → x < 128 → well_formed (x ∷ t) ≡ well_formed t
unfolding well_formed octets step
pass_single x t h = ap (λ d. octets d t) (due_single x h)

stop : (t : List ℕ) → 0 < length t → width t ≡ 0 → well_formed t ≡ false
unfolding width well_formed octets step
stop [] h n = absurd (omega arith)
stop (x ∷ t) h n = off_by x t (due_after x) n

short : (t : List ℕ) → width t ≤ length t
unfolding width
short [] = omega arith
short (x ∷ t) = short_by x t (due_after x)

module _ (s : List ℕ) (i : ℕ) {n : ℕ} (h : i < length s) (w : n ≡ width (drop i s)) where
  pub walk_fits : length s < 18446744073709551616 → Fits w64 (i + n)
  walk_fits l = omega (arith, short (drop i s), length-drop i s)

  module _ (e : Left well_formed s i) where
    pub walk_no : n ≡ 0 → false ≡ well_formed s
    walk_no z = sym (e.rest ∙ stop (drop i s) (omega (arith, length-drop i s)) (sym w ∙ z))

    pub walk_again : (n ≡ 0 → ⊥) → Left well_formed s (i + n)
    walk_again z =
        let f : well_formed (drop i s) ≡ well_formed (drop (width (drop i s)) (drop i s)) = pass (drop i s) (λ v. z (w ∙ v)) in
        record { rest = e.rest ∙ f ∙ rw (← w, drop-drop) }

module _ {s : List ℕ} {i : ℕ} (e : Left well_formed s i) where
  pub walk_done : length s ≤ i → true ≡ well_formed s
  unfolding well_formed octets
  walk_done h = sym (e.rest ∙ rw (ended s i h))

  pub walk_single : {below : Bool} → i < length s → below ≡ ltb (get_or s i 0) 128 → below ≡ true → Left well_formed s (i + 1)
  walk_single h l f =
      let b : get_or s i 0 < 128 = ltb-true _ _ (sym l ∙ f) in
      record { rest = e.rest ∙ rw (add-one, drop-cons s i 0 h) (pass_single (get_or s i 0) (drop (suc i) s) b) }

pub ruleset following = (follows_end, follows_class, follows_not, follows_then)

pub ruleset leading = (width_single, width_lead, width_none)

pub ruleset walking = (walk_no, walk_again, walk_done, walk_single)

-- the next place fits
pub ruleset placing = (follows_fits, walk_fits, rules)
