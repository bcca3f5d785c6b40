-- What answers the returns of the function that fills an output with a message whose length is known. Assumes nothing.
use Prim.Native.Nat.{ℕ, ◌-◌, ◌≤◌, ◌<◌}
use mathlib.Core.Path.{◌≡◌, sym, ◌∙◌}
use mathlib.Core.Bool.{true, false}
use mathlib.Core.List.{List, [], ◌++◌, append-nil}
use native.Mathlib.Omega.{arith}
use lib.ListN.{length, take, drop, replicate, length-take, length-drop, drop_of_length-le}
use lib.Dec.{leb}
use borrow.Author.Tests.{lt-leb, le-leb}
use Rattle.output.specs.Contract.{Put}
use Rattle.output.proofs.Putting.{front_take}
use Rattle.message.specs.Filled.{needed, filled, Filled}

-- a message, by its length as it was measured
module _ (form : List ℕ) {n : ℕ} (e : n ≡ length form) where
  pub too_long : {o o' : List ℕ} → 65536 < n → o' ≡ replicate (length o) 0 → Filled form o o' 65537
  unfolding needed filled
  too_long h z = let f : leb (length form) 65536 ≡ false = lt-leb (length form) 65536 (omega arith) in record { tells = rw f; leaves = z ∙ rw f }

  module _ (h : n ≤ 65536) where
    short : leb (length form) 65536 ≡ true
    short = le-leb (length form) 65536 (omega arith)

    pub no_room : {o o' : List ℕ} → length o < n → o' ≡ replicate (length o) 0 → Filled form o o' n
    unfolding needed filled
    no_room {o} l z = record { tells = e ∙ rw short; leaves = z ∙ rw (short, lt-leb (length form) (length o) (omega arith)) }

    pub sent : {o o₁ ys : List ℕ} {at : ℕ} → n ≤ length o → length o₁ ≡ length o → Put form o o₁ at → ys ≡ replicate (length (take (length o₁ - at) (drop at o₁))) 0 → Filled form o (take at o₁ ++ (ys ++ drop (length o₁ - at) (drop at o₁))) n
    unfolding needed filled
    sent {o} {o₁} {ys} {at} l k p y =
        let d : drop (length o₁ - at) (drop at o₁) ≡ [] = drop_of_length-le (drop at o₁) {i = length o₁ - at} (rw length-drop (omega arith)) in
        let z : length (take (length o₁ - at) (drop at o₁)) ≡ length o - length form = simp (length-take, length-drop) (omega (arith, p.long)) in
        record {
          tells = e ∙ rw short;
          leaves = rw (short, le-leb (length form) (length o) (omega arith), front_take p.front at (sym p.long) (omega (arith, p.long)), d, append-nil, y, z);
        }
