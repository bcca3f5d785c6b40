-- Bytes at the front that are well-formed are passed: what comes after them decides. Assumes nothing.
use mathlib.Core.Path.{◌≡◌, refl, ap, ◌∙◌}
use mathlib.Core.Bool.{true}
use mathlib.Core.List.{List, [], ◌∷◌, ◌++◌}
use Prim.Native.Nat.{ℕ, ◌+◌, ◌-◌, ◌≤◌}
use native.Mathlib.Omega.{arith}
use lib.ListN.{take, drop}
use lib.Seq.{take-add, drop-drop}
use Rattle.text.specs.Utf8.{Due, due, wrong, step, octets, well_formed}
use Rattle.text.proofs.Comparing.{clash}
use Rattle.passages.specs.Notes.{passage}

front_octets : (d : Due) (x y : List ℕ) → octets d x ≡ true → octets d (x ++ y) ≡ octets (due []) y
unfolding octets
front_octets (due []) [] y h = refl
front_octets (due (r ∷ rs)) [] y h = clash h refl
front_octets wrong [] y h = clash h refl
front_octets d (b ∷ x) y h = front_octets (step d b) x y h

front : (x y : List ℕ) → well_formed x ≡ true → well_formed (x ++ y) ≡ well_formed y
unfolding well_formed
front x y h = front_octets (due []) x y h

split : (s : List ℕ) (a b c : ℕ) → a ≤ b → b ≤ c → passage s a c ≡ passage s a b ++ passage s b c
split s a b c h l =
    let e : c - a ≡ (b - a) + (c - b) = omega arith in
    let f : a + (b - a) ≡ b = omega arith in
    ap (λ n. take n (drop a s)) e ∙ take-add (b - a) (c - b) (drop a s) ∙ rw (drop-drop, f)

-- a passage, behind its front
pub passed_on : (s : List ℕ) (a b c : ℕ) → a ≤ b → b ≤ c → well_formed (passage s a b) ≡ true → well_formed (passage s a c) ≡ well_formed (passage s b c)
passed_on s a b c h l g = ap well_formed (split s a b c h l) ∙ front (passage s a b) (passage s b c) g
