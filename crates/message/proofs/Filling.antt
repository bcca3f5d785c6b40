-- What answers the returns of the function that fills an output with a message. Assumes nothing.
use Prim.Native.Nat.{ℕ, ◌-◌, ◌≤◌, ◌<◌, min}
use mathlib.Core.Path.{◌≡◌, refl, sym, ◌∙◌}
use mathlib.Core.Bool.{Bool, true, false, cond}
use mathlib.Core.List.{List, [], ◌++◌, append-nil}
use native.Mathlib.Omega.{arith}
use lib.ListN.{length, take, drop, replicate, length-take, length-drop, drop_of_length-le}
use lib.Dec.{leb}
use borrow.Author.Tests.{leb-true, leb-false, lt-leb, le-leb}
use Rattle.output.proofs.Putting.{front_take}
use Rattle.message.specs.Contract.{Fitted}
use Rattle.message.specs.Filled.{needed_for, needed, filled, Most, Filled}

pub most_min : (n : ℕ) {m : ℕ} → m ≡ min n 65536 → Most n m
most_min n e = record { within = omega arith; few = omega arith; all = λ k. omega arith }

pub told_min : (n : ℕ) {m : ℕ} → m ≡ min n 65537 → m ≡ needed_for n
told_min n {m} e = go (leb n 65536) refl
  where
    go : (b : Bool) → leb n 65536 ≡ b → m ≡ cond b n 65537
    go true d = omega (arith, leb-true n 65536 d)
    go false d = omega (arith, leb-false n 65536 d)

-- the written form, by whether it was put
module _ (form : List ℕ) {o : List ℕ} {m : ℕ} (k : Most (length o) m) where
  -- a form that is too long, or that has no room
  pub not_put : {o₁ o' : List ℕ} {n q t : ℕ} → Fitted form m o o₁ n → m < n → o' ≡ replicate (length o₁) 0 → length o₁ ≡ length o → q ≡ length form → t ≡ needed_for q → Filled form o o' t
  unfolding needed filled
  not_put {o₁} {o'} {n} f l z e p h = record { tells = h ∙ rw p; leaves = z ∙ rw e (go (leb (length form) 65536) refl) }
    where
      go : (b : Bool) → leb (length form) 65536 ≡ b → replicate (length o) 0 ≡ cond b (cond (leb (length form) (length o)) (form ++ replicate (length o - length form) 0) (replicate (length o) 0)) (replicate (length o) 0)
      go false d = refl
      go true d =
          let a : length form ≤ 65536 = leb-true (length form) 65536 d in
          let b : m ≡ length o = k.all (omega (arith, f.over l)) in
          rw (lt-leb (length form) (length o) (omega (arith, f.over l)))

  pub sent : {o₁ ys : List ℕ} {n : ℕ} → Fitted form m o o₁ n → n ≤ m → length o₁ ≡ length o → ys ≡ replicate (length (take (length o₁ - n) (drop n o₁))) 0 → Filled form o (take n o₁ ++ (ys ++ drop (length o₁ - n) (drop n o₁))) n
  unfolding needed filled
  sent {o₁} {ys} {n} f l e y =
      let p = f.put l in
      let d : drop (length o₁ - n) (drop n o₁) ≡ [] = drop_of_length-le (drop n o₁) {i = length o₁ - n} (rw length-drop (omega arith)) in
      let z : length (take (length o₁ - n) (drop n o₁)) ≡ length o - length form = simp (length-take, length-drop) (omega (arith, p.long)) in
      let a : leb (length form) 65536 ≡ true = le-leb (length form) 65536 (omega (arith, p.long, k.few)) in
      let b : leb (length form) (length o) ≡ true = le-leb (length form) (length o) (omega (arith, p.long, k.within)) in
      record { tells = p.long ∙ rw a; leaves = rw (a, b, front_take p.front n (sym p.long) (omega (arith, k.within)), d, append-nil, y, z) }

pub ruleset filling = (most_min, told_min, not_put, sent)

-- a form that is known to be too long
pub too_long : (form : List ℕ) {o o' : List ℕ} → 65536 < length form → o' ≡ replicate (length o) 0 → Filled form o o' 65537
unfolding needed filled
too_long form h z = let f : leb (length form) 65536 ≡ false = lt-leb (length form) 65536 h in record { tells = rw f; leaves = z ∙ rw f }
