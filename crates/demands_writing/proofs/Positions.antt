-- The order of positions: 0, 1, 2 .. to the first of the repeated texts, in order of first occurrence. Assumes nothing.
use mathlib.Core.Path.{◌≡◌, refl, ap, ◌∙◌}
use mathlib.Core.Bool.{Bool, true, false, ◌&&◌, ◌||◌, not}
use mathlib.Core.List.{List, [], ◌∷◌, ◌++◌}
use Prim.Native.Nat.{ℕ, zero, suc, ◌<◌}
use native.Mathlib.Omega.{arith}
use lib.ListN.{length, take, get_or}
use Rattle.text.specs.Texts.{same, among}
use Rattle.text.proofs.Comparing.{clash, both, same_is, same_self}
use Rattle.draft.specs.Strings.{Text, keep, repeats, onward, position}
use Rattle.occurring.proofs.Among.{or_no, or_true}

not_true : (b : Bool) → not b ≡ true → b ≡ false
not_true true e = clash e refl
not_true false e = refl

-- no text that was seen is listed
listed_new : (u : Text) (seen ts : List Text) → among (repeats seen ts) u ≡ true → among seen u ≡ false
unfolding repeats among
listed_new u seen [] a = clash a refl
listed_new u seen (t ∷ ts) a = go (not (among seen t) && among ts t) refl (same u t) refl a (listed_new u (t ∷ seen) ts)
  where
    go :
        (k : Bool) → (not (among seen t) && among ts t) ≡ k → (x : Bool) → same u t ≡ x → among (keep k t (repeats (t ∷ seen) ts)) u ≡ true
        → (among (repeats (t ∷ seen) ts) u ≡ true → (same u t || among seen u) ≡ false) → among seen u ≡ false
    go true e true i a rest = ap (among seen) (same_is u t i) ∙ not_true (among seen t) (both (not (among seen t)) (among ts t) e).0
    go true e false i a rest = (or_no (same u t) (among seen u) (rest (rw i at a))).1
    go false e x i a rest = (or_no (same u t) (among seen u) (rest a)).1

among_take : (n : ℕ) (P : List Text) (u : Text) → among (take n P) u ≡ true → among P u ≡ true
unfolding among
among_take zero P u a = clash a refl
among_take (suc n) [] u a = a
among_take (suc n) (v ∷ P) u a = go (same u v) a (among_take n P u)
  where
    go : (x : Bool) → (x || among (take n P) u) ≡ true → (among (take n P) u ≡ true → among P u ≡ true) → (x || among P u) ≡ true
    go true a rest = refl
    go false a rest = rest a

among_at : (P : List Text) (i : ℕ) → i < length P → among P (get_or P i []) ≡ true
unfolding among
among_at [] i h = absurd (omega arith)
among_at (v ∷ P) zero h = ap (λ (x : Bool). x || among P v) (same_self v)
among_at (v ∷ P) (suc i) h = ap (λ (x : Bool). same (get_or P i []) v || x) (among_at P i (omega arith)) ∙ or_true (same (get_or P i []) v)

-- the text at i has position i
abbrev Counted : List Text → Type 0
Counted P = (i : ℕ) → i < length P → position P (get_or P i []) ≡ i

counted_on : (t : Text) (P : List Text) → ((u : Text) → among P u ≡ true → same u t ≡ false) → Counted P → Counted (t ∷ P)
unfolding position
counted_on t P new rest zero h = ap (λ (x : Bool). onward x (position P t)) (same_self t)
counted_on t P new rest (suc i) h =
    let l : i < length P = omega arith in
    ap (λ (x : Bool). onward x (position P (get_or P i []))) (new (get_or P i []) (among_at P i l)) ∙ ap suc (rest i l)

pub position_at : (n : ℕ) (seen ts : List Text) → Counted (take n (repeats seen ts))
unfolding repeats among
position_at zero seen ts = λ i h. absurd (omega arith)
position_at (suc n) seen [] = λ i h. absurd (omega arith)
position_at (suc n) seen (t ∷ ts) =
    go (not (among seen t) && among ts t) (position_at n (t ∷ seen) ts) (position_at (suc n) (t ∷ seen) ts)
  where
    go :
        (k : Bool) → Counted (take n (repeats (t ∷ seen) ts)) → Counted (take (suc n) (repeats (t ∷ seen) ts))
        → Counted (take (suc n) (keep k t (repeats (t ∷ seen) ts)))
    go true less all =
        counted_on t (take n (repeats (t ∷ seen) ts))
        (λ u a. (or_no (same u t) (among seen u) (listed_new u (t ∷ seen) ts (among_take n (repeats (t ∷ seen) ts) u a))).0) less
    go false less all = all

-- of two listed texts, the one that first occurs earlier has a position if the other has, and the smaller
module _ (t u : Text) (after : List Text) where
  abbrev Smaller : List Text → ℕ → List Text → Type 0
  Smaller before n P =
      among (take n P) t ≡ true → among P u ≡ true → among before t ≡ false → among before u ≡ true
      → (among (take n P) u ≡ true) × (position (take n P) u < position (take n P) t)

  smaller_on : (b : Text) (bs : List Text) (n : ℕ) (P : List Text) → Smaller bs n P → Smaller (b ∷ bs) (suc n) (b ∷ P)
  unfolding among position
  smaller_on b bs n P rest = go (same t b) (same u b)
    where
      go :
          (y x : Bool) → (y || among (take n P) t) ≡ true → (x || among P u) ≡ true → (y || among bs t) ≡ false → (x || among bs u) ≡ true
          → ((x || among (take n P) u) ≡ true) × (onward x (position (take n P) u) < onward y (position (take n P) t))
      go true x a c d e = clash refl d
      go false true a c d e = (refl, omega arith)
      go false false a c d e = let g = rest a c d e in (g.0, omega (arith, g.1))

  smaller_past : (b : Text) (bs : List Text) (n : ℕ) (P : List Text) → (among P b ≡ false) → Smaller bs n P → Smaller (b ∷ bs) n P
  unfolding among
  smaller_past b bs n P none rest a c d e = go (same u b) refl e
    where
      go :
          (x : Bool) → same u b ≡ x → (x || among bs u) ≡ true → (among (take n P) u ≡ true) × (position (take n P) u < position (take n P) t)
      go true i e = clash c (ap (among P) (same_is u b i) ∙ none)
      go false i e = rest a c (or_no (same t b) (among bs t) d).1 e

  not_listed : (b : Text) (seen ts : List Text) → among (repeats (b ∷ seen) ts) b ≡ false
  unfolding among
  not_listed b seen ts = go (among (repeats (b ∷ seen) ts) b) (listed_new b (b ∷ seen) ts)
    where
      go : (x : Bool) → (x ≡ true → (same b b || among seen b) ≡ false) → x ≡ false
      go true f = clash (same_self b) (or_no (same b b) (among seen b) (f refl)).0
      go false f = refl

  pub earlier_smaller : (n : ℕ) (seen before : List Text) → Smaller before n (repeats seen (before ++ (t ∷ after)))
  unfolding repeats among
  earlier_smaller n seen [] = λ a c d e. clash e refl
  earlier_smaller zero seen (b ∷ bs) = λ a c d e. clash a refl
  earlier_smaller (suc n) seen (b ∷ bs) =
      go (not (among seen b) && among (bs ++ (t ∷ after)) b) (earlier_smaller n (b ∷ seen) bs) (earlier_smaller (suc n) (b ∷ seen) bs)
    where
      go :
          (k : Bool) → Smaller bs n (repeats (b ∷ seen) (bs ++ (t ∷ after))) → Smaller bs (suc n) (repeats (b ∷ seen) (bs ++ (t ∷ after)))
          → Smaller (b ∷ bs) (suc n) (keep k b (repeats (b ∷ seen) (bs ++ (t ∷ after))))
      go true less all = smaller_on b bs n (repeats (b ∷ seen) (bs ++ (t ∷ after))) less
      go false less all =
          smaller_past b bs (suc n) (repeats (b ∷ seen) (bs ++ (t ∷ after))) (not_listed b seen (bs ++ (t ∷ after))) all
