-- The least that strings can cost, and that whatever is sent legally costs at least that. Assumes nothing.
use Prim.Native.Nat.{ℕ, ◌+◌, ◌≤◌}
use mathlib.Core.Path.{◌≡◌, refl, sym, ap, ◌∙◌}
use mathlib.Core.Bool.{Bool, true, false, ◌||◌, cond}
use mathlib.Core.Option.{some}
use mathlib.Core.List.{List, [], ◌∷◌}
use native.Mathlib.Omega.{arith}
use lib.Dec.{eqb}
use lib.ListN.{length}
use Rattle.text.specs.Texts.{same, among}
use Rattle.text.proofs.Comparing.{same_is, same_self}
use Rattle.draft.specs.Grammar.{Sent, Recording, text_at, look, Legal, legal_none, legal_regular, legal_recorded, legal_recalled}
use Rattle.draft.specs.Strings.{Text, cost, costs}
use Rattle.occurring.specs.Occurring.{bit}
use Rattle.written.proofs.Sending.{texts}
use Rattle.occurring.proofs.Among.{same_swap}

-- texts that can be recalled, as a test; and one more
abbrev pub also : Text → (Text → Bool) → Text → Bool
also t R u = same u t || R u

-- a text that can be recalled is; any other is sent with its bytes, and recorded if it comes again
abbrev pub least : (Text → Bool) → List Text → ℕ
least R [] = 0
least R (t ∷ ts) = cond (R t) (2 + least R ts) (5 + bit (among ts t) + length t + least (also t R) ts)

or_swap : (x y z : Bool) → (x || (y || z)) ≡ (y || (x || z))
or_swap true true z = refl
or_swap true false z = refl
or_swap false true z = refl
or_swap false false z = refl

pub least_same : (R S : Text → Bool) (ts : List Text) → ((u : Text) → R u ≡ S u) → least R ts ≡ least S ts
least_same R S [] h = refl
least_same R S (t ∷ ts) h =
    let e = least_same R S ts h in
    let f = least_same (also t R) (also t S) ts (λ u. ap (λ (b : Bool). same u t || b) (h u)) in
    rw (h t, e, f)

-- a text that can be recalled besides saves a byte at least if it comes again
saves : (R S : Text → Bool) (t : Text) (ts : List Text) → R t ≡ false → ((u : Text) → S u ≡ also t R u) → least S ts + bit (among ts t) ≤ least R ts
unfolding among
saves R S t [] n h = omega arith
saves R S t (u ∷ us) n h = go (saves R S t us n h) (λ m k. saves (also u R) (also u S) t us m k) (same t u) refl
  where
    rest :
        least S us + bit (among us t) ≤ least R us
        → (also u R t ≡ false → ((v : Text) → also u S v ≡ also t (also u R) v) → least (also u S) us + bit (among us t) ≤ least (also u R) us)
        → same t u ≡ false → (r : Bool) → R u ≡ r
        → cond r (2 + least S us) (5 + bit (among us u) + length u + least (also u S) us) + bit (among us t)
        ≤ cond r (2 + least R us) (5 + bit (among us u) + length u + least (also u R) us)
    rest i j e true f = omega (arith, i)
    rest i j e false f =
        omega (arith, j (rw e n) (λ v. ap (λ (b : Bool). same v u || b) (h v) ∙ or_swap (same v u) (same v t) (R v)))

    go :
        least S us + bit (among us t) ≤ least R us
        → (also u R t ≡ false → ((v : Text) → also u S v ≡ also t (also u R) v) → least (also u S) us + bit (among us t) ≤ least (also u R) us)
        → (b : Bool) → same t u ≡ b
        → cond (S u) (2 + least S us) (5 + bit (among us u) + length u + least (also u S) us) + bit (b || among us t)
        ≤ cond (R u) (2 + least R us) (5 + bit (among us u) + length u + least (also u R) us)
    go i j true e =
        let q : t ≡ u = same_is t u e in
        let k = least_same S (also u R) us (λ v. h v ∙ ap (λ (w : Text). same v w || R v) q) in
        let a : S u ≡ true = h u ∙ rw (same_swap u t, e) in
        let b : R u ≡ false = ap R (sym q) ∙ n in
        rw (a, b) (omega (arith, k))
    go i j false e = let a : S u ≡ R u = h u ∙ rw (same_swap u t, e) in rw a (rest i j e (R u) refl)

-- some recording has this text
abbrev pub has : List Recording → Text → Bool
has [] u = false
has (text_at p t ∷ R) u = same u t || has R u

or_true : (a : Bool) → (a || true) ≡ true
or_true true = refl
or_true false = refl

has_recalled : (R : List Recording) (p : ℕ) (t : Text) → look p R ≡ some t → has R t ≡ true
has_recalled [] p t e = let z : ◌≡◌ {A = ℕ} 0 1 = cc in absurd (omega arith)
has_recalled (text_at q u ∷ R) p t e = go (eqb p q) e (has_recalled R p t)
  where
    go : (b : Bool) → cond b (some u) (look p R) ≡ some t → (look p R ≡ some t → has R t ≡ true) → (same t u || has R t) ≡ true
    go true f rest = let i : u ≡ t = cc in rw (i, same_self t)
    go false f rest = rw (rest f) (or_true (same t u))

-- whatever is sent legally costs at least the least
pub bound : {R : List Recording} {fs : List Sent} → Legal R fs → least (has R) (texts fs) ≤ costs fs
unfolding cost costs
bound legal_none = omega arith
bound (legal_regular {R} {t} {fs} l) = go (bound l) (has R t) refl
  where
    go :
        least (has R) (texts fs) ≤ costs fs → (b : Bool) → has R t ≡ b
        → cond b (2 + least (has R) (texts fs)) (5 + bit (among (texts fs) t) + length t + least (also t (has R)) (texts fs)) ≤ 5 + length t + costs fs
    go i true e = omega (arith, i)
    go i false e = omega (arith, i, saves (has R) (also t (has R)) t (texts fs) e (λ u. refl))
bound (legal_recorded {R} {p} {t} {fs} l) = go (bound l) (has R t) refl
  where
    go :
        least (also t (has R)) (texts fs) ≤ costs fs → (b : Bool) → has R t ≡ b
        → cond b (2 + least (has R) (texts fs)) (5 + bit (among (texts fs) t) + length t + least (also t (has R)) (texts fs)) ≤ 6 + length t + costs fs
    go i true e = omega (arith, i, least_same (also t (has R)) (has R) (texts fs) (λ u. again u (same u t) refl))
      where
        again : (u : Text) (b : Bool) → same u t ≡ b → (b || has R u) ≡ has R u
        again u true g = sym (ap (has R) (same_is u t g) ∙ e)
        again u false g = refl
    go i false e = few (among (texts fs) t)
      where
        few : (b : Bool) → 5 + bit b + length t + least (also t (has R)) (texts fs) ≤ 6 + length t + costs fs
        few true = omega (arith, i)
        few false = omega (arith, i)
bound (legal_recalled {R} {p} {t} {fs} e l) = rw (has_recalled R p t e) (omega (arith, bound l))
