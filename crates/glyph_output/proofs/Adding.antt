-- Bytes put behind those that stand in an output: one byte, a text, and one after the other. Assumes nothing.
use mathlib.Core.Path.{◌≡◌, refl, sym, ap, ◌∙◌}
use mathlib.Core.Bool.{Bool, true, false}
use mathlib.Core.List.{List, [], ◌∷◌, ◌++◌, append_assoc, append-nil}
use Prim.Native.Nat.{ℕ, zero, suc, ◌+◌, ◌-◌, ◌≤◌, ◌<◌, min}
use native.Mathlib.Omega.{arith}
use native.Mathlib.Nat.{add-zero}
use lib.ListN.{length, take, drop, length-append, length-drop, drop_of_length-le}
use lib.Seq.{take_all, drop-drop, take_at, drop_at, length-take-le}
use lib.Dec.{leb}
use borrow.Author.Tests.{lt-leb, le-leb, leb-true, leb-false}
use borrow.Rule.Slice.PartMut.{put_mid}
use Rattle.std.proofs.lemmas.Slice.{put_mid-paste}
use Rattle.output.specs.Contract.{Put}
use Rattle.glyph_output.specs.Contract.{reached, Open, Adds}

-- places
pub reached_over : (n : ℕ) → 65536 < n → 65537 ≡ reached n
unfolding reached
reached_over n h = rw (lt-leb n 65536 h)

pub reached_same : (n : ℕ) → n ≤ 65536 → n ≡ reached n
unfolding reached
reached_same n h = rw (le-leb n 65536 h)

-- a place is told as it is, or as one that is over
data Told (n : ℕ) : Type 0 where
  same : n ≤ 65536 → reached n ≡ n → Told n
  over : 65536 < n → reached n ≡ 65537 → Told n

told : (n : ℕ) → Told n
told n = go (leb n 65536) refl
  where
    go : (b : Bool) → leb n 65536 ≡ b → Told n
    go true e = same (leb-true n 65536 e) (sym (reached_same n (leb-true n 65536 e)))
    go false e = over (leb-false n 65536 e) (sym (reached_over n (leb-false n 65536 e)))

pub reached_most : (n : ℕ) → reached n ≤ 65537
reached_most n = go (told n)
  where
    go : Told n → reached n ≤ 65537
    go (same h e) = omega (arith, e)
    go (over h e) = omega (arith, e)

pub reached_on : (m n : ℕ) → reached (reached m + n) ≡ reached (m + n)
reached_on m n = go (told m)
  where
    go : Told m → reached (reached m + n) ≡ reached (m + n)
    go (same h e) = rw e
    go (over h e) =
        let a : 65537 ≡ reached (reached m + n) = reached_over (reached m + n) (omega (arith, e)) in
        let b : 65537 ≡ reached (m + n) = reached_over (m + n) (omega arith) in
        sym a ∙ b

take_drop : (n : ℕ) (o : List ℕ) → take n o ++ drop n o ≡ o
take_drop zero o = refl
take_drop (suc n) [] = refl
take_drop (suc n) (x ∷ o) = ap (λ (w : List ℕ). x ∷ w) (take_drop n o)

-- a place is told by the lesser of it and 65,537
pub reached_min : (n : ℕ) {r : ℕ} → r ≡ min n 65537 → r ≡ reached n
reached_min n {r} e = go (told n)
  where
    go : Told n → r ≡ reached n
    go (same h q) = omega (arith, e, q)
    go (over h q) = omega (arith, e, q)

module _ {o : List ℕ} {most at : ℕ} (p : Open most (length o) at) where
  pub adds_mid : (t : List ℕ) {ys : List ℕ} (n : ℕ) {k : ℕ} → n ≡ length t → n ≡ k → at + n ≤ most → ys ≡ t → Adds t most o at (put_mid at k o ys) (at + n)
  adds_mid t {ys} n {k} l d h e =
      record {
        stops = reached_same (at + n) (omega (arith, p.few)) ∙ ap (λ (m : ℕ). reached (at + m)) l;
        stands = λ _.
            put_mid-paste at k o ys t n e d l ∙ append_assoc (take at o) (take n t) (drop (at + n) o)
            ∙ ap (λ (v : List ℕ). take at o ++ (v ++ drop (at + n) o)) (take_all n t (omega (arith, l)))
            ∙ ap (λ (m : ℕ). take at o ++ (t ++ drop (at + m) o)) l;
      }

  -- what would end behind `most`
  pub adds_no_text : (t : List ℕ) {r : ℕ} → most < at + length t → r ≡ reached (at + length t) → Adds t most o at o r
  adds_no_text t h e = record { stops = e; stands = λ k. absurd (omega arith) }

  pub adds_not : (t : List ℕ) (n : ℕ) {r : ℕ} → n ≡ length t → most < at + n → r ≡ min (at + n) 65537 → Adds t most o at o r
  adds_not t n l h e = adds_no_text t (omega (arith, l)) (reached_min (at + length t) (e ∙ ap (λ (m : ℕ). min (at + m) 65537) l))

  pub adds_nothing : {r : ℕ} → r ≡ reached at → Adds [] most o at o r
  adds_nothing e = record { stops = e ∙ ap reached (omega arith); stands = λ k. rw add-zero (sym (take_drop at o)) }

  pub adds_text : (t : List ℕ) {ys : List ℕ} {k : ℕ} → at + length t ≤ most → Put t (take (length o - at) (drop at o)) ys k → Adds t most o at (take at o ++ (ys ++ drop (length o - at) (drop at o))) (at + length t)
  adds_text t {ys} h w =
      let d : length (drop at o) ≡ length o - at = length-drop at o in
      let m : take (length o - at) (drop at o) ≡ drop at o = take_all (length o - at) (drop at o) (omega (arith, d)) in
      let z : drop (length o - at) (drop at o) ≡ [] = drop_of_length-le (drop at o) {i = length o - at} (omega (arith, d)) in
      let y : ys ≡ t ++ drop (at + length t) o = w.front.is ∙ ap (λ (v : List ℕ). t ++ drop (length t) v) m ∙ ap (λ (v : List ℕ). t ++ v) (drop-drop (length t) at o) in
      record {
        stops = reached_same (at + length t) (omega (arith, p.few));
        stands = λ _. rw (z, append-nil, y);
      }

  -- one after the other
  module _ {xs : List ℕ} {o₁ : List ℕ} {a : ℕ} (f : Adds xs most o at o₁ a) where
    pub open_next : length o₁ ≡ length o → Open most (length o₁) a
    open_next e = record { within = rw e p.within; few = p.few; told = rw f.stops (reached_most (at + length xs)) }

    pub adds_both : {ys o₂ : List ℕ} {z : ℕ} → Adds ys most o₁ a o₂ z → Adds (xs ++ ys) most o at o₂ z
    adds_both {ys} {o₂} {z} g = record { stops = ends; stands = there }
      where
        ends : z ≡ reached (at + length (xs ++ ys))
        ends = g.stops ∙ rw (f.stops, reached_on (at + length xs) (length ys)) (ap reached (omega (arith, length-append xs ys)))

        there : at + length (xs ++ ys) ≤ most → o₂ ≡ take at o ++ ((xs ++ ys) ++ drop (at + length (xs ++ ys)) o)
        there h =
            let l : length (xs ++ ys) ≡ length xs + length ys = length-append xs ys in
            let q : a ≡ at + length xs = f.stops ∙ sym (reached_same (at + length xs) (omega (arith, l, p.few))) in
            let u : o₁ ≡ (take at o ++ xs) ++ drop (at + length xs) o = f.stands (omega (arith, l)) ∙ sym (append_assoc (take at o) xs (drop (at + length xs) o)) in
            let m : length (take at o ++ xs) ≡ at + length xs = length-append (take at o) xs ∙ rw (length-take-le at o (omega (arith, p.within, l))) in
            let v : take a o₁ ≡ take at o ++ xs = rw (q, u) (take_at (take at o ++ xs) (drop (at + length xs) o) (at + length xs) m) in
            let w : drop a o₁ ≡ drop (at + length xs) o = rw (q, u) (drop_at (take at o ++ xs) (drop (at + length xs) o) (at + length xs) m) in
            let x : drop (a + length ys) o₁ ≡ drop (at + length xs + length ys) o = sym (drop-drop (length ys) a o₁) ∙ ap (drop (length ys)) w ∙ drop-drop (length ys) (at + length xs) o in
            let n : at + length (xs ++ ys) ≡ at + length xs + length ys = omega (arith, l) in
            g.stands (omega (arith, l, q)) ∙ rw (v, x, n) (append_assoc (take at o) xs (ys ++ drop (at + length xs + length ys) o) ∙ ap (λ (w : List ℕ). take at o ++ w) (sym (append_assoc xs ys (drop (at + length xs + length ys) o))))

pub ruleset adding = (adds_mid, adds_not, adds_nothing, adds_text, open_next)
