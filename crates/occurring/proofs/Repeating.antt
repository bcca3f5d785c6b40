-- The law of the repeated texts: each text that occurs at least twice is listed once, and no other is listed. Assumes nothing.
use Prim.Native.Nat.{ℕ, ◌+◌}
use mathlib.Core.Path.{◌≡◌, refl, sym, ap, ◌∙◌}
use mathlib.Core.Bool.{Bool, true, false, ◌&&◌, ◌||◌, not}
use mathlib.Core.List.{List, [], ◌∷◌}
use native.Mathlib.Omega.{arith}
use native.Mathlib.Nat.{zero-add}
use lib.Dec.{ltb, leb}
use borrow.Author.Tests.{ltb-true, ltb-false, lt-leb, le-leb}
use Rattle.text.specs.Texts.{same, among}
use Rattle.text.proofs.Comparing.{same_is}
use Rattle.draft.specs.Strings.{Text, keep, repeats, repeated}
use Rattle.occurring.specs.Occurring.{bit, times}
use Rattle.occurring.proofs.Among.{among_times, and_false}

keep_times : (u t : Text) (b : Bool) (us : List Text) → times u (keep b t us) ≡ bit (b && same u t) + times u us
unfolding times
keep_times u t true us = refl
keep_times u t false us = sym (zero-add (times u us))

-- a text that stands here: it is listed if it is new and comes again
here : (m n : Bool) (k r : ℕ) → n ≡ ltb 0 k → r ≡ 0 → bit ((not m && n) && true) + r ≡ bit (not m && leb 2 (1 + k))
here true n k r e f = omega arith
here false true k r e f = rw (le-leb 2 (1 + k) (omega (arith, ltb-true 0 k (sym e)))) (omega arith)
here false false k r e f = rw (lt-leb 2 (1 + k) (omega (arith, ltb-false 0 k (sym e)))) (omega arith)

-- another: as before
other : (b m : Bool) (k r : ℕ) → r ≡ bit (not m && leb 2 k) → bit (b && false) + r ≡ bit (not m && leb 2 (0 + k))
other b m k r e = simp (and_false b, zero-add) e

pub times_repeats : (u : Text) (seen ts : List Text) → times u (repeats seen ts) ≡ bit (not (among seen u) && leb 2 (times u ts))
unfolding repeats times among
times_repeats u seen [] = sym (ap bit (and_false (not (among seen u))))
times_repeats u seen (t ∷ ts) = keep_times u t (not (among seen t) && among ts t) (repeats (t ∷ seen) ts) ∙ go (same u t) refl (times_repeats u (t ∷ seen) ts)
  where
    go : (b : Bool) → same u t ≡ b → times u (repeats (t ∷ seen) ts) ≡ bit (not (same u t || among seen u) && leb 2 (times u ts)) → bit ((not (among seen t) && among ts t) && b) + times u (repeats (t ∷ seen) ts) ≡ bit (not (among seen u) && leb 2 (bit b + times u ts))
    go true e h =
        ap (λ (v : Text). bit ((not (among seen v) && among ts v) && true) + times u (repeats (t ∷ seen) ts)) (sym (same_is u t e))
        ∙ here (among seen u) (among ts u) (times u ts) (times u (repeats (t ∷ seen) ts)) (among_times u ts) (rw e at h)
    go false e h = other (not (among seen t) && among ts t) (among seen u) (times u ts) (times u (repeats (t ∷ seen) ts)) (rw e at h)

-- the law
pub repeated_once : (u : Text) (ts : List Text) → times u (repeated ts) ≡ bit (leb 2 (times u ts))
unfolding among
repeated_once u ts = times_repeats u [] ts
