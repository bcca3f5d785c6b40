-- How the written form sends its strings: with at most 256 repeated texts at the least cost, and always in bytes. Assumes nothing.
use Prim.Native.Nat.{ℕ, ◌+◌, ◌≤◌}
use mathlib.Core.Path.{◌≡◌, refl, sym, ap, ◌∙◌}
use mathlib.Core.Bool.{Bool, true, false, ◌||◌, cond}
use mathlib.Core.List.{List, [], ◌∷◌}
use native.Mathlib.Omega.{arith}
use native.Mathlib.Nat.{zero-add}
use lib.ListN.{length}
use lib.Seq.{take_all}
use lib.Dec.{ltb, leb}
use borrow.Author.Tests.{ltb-true, ltb-false, lt-leb, le-leb}
use Rattle.text.specs.Texts.{same, among}
use Rattle.text.proofs.Comparing.{clash, same_is, same_self}
use Rattle.draft.specs.Grammar.{Sent, regular, recorded, Legal}
use Rattle.draft.specs.Strings.{Text, repeated, kept, sent_of, sents, plan, cost, costs}
use Rattle.occurring.specs.Occurring.{bit, times}
use Rattle.written.proofs.Sending.{texts}
use Rattle.occurring.proofs.Repeating.{repeated_once}
use Rattle.occurring.proofs.Among.{among_times}
use Rattle.written.proofs.Saving.{also, least, bound, has}

two : (n : ℕ) → ltb 0 n ≡ leb 2 (1 + n)
two n = go (ltb 0 n) refl
  where
    go : (b : Bool) → ltb 0 n ≡ b → b ≡ leb 2 (1 + n)
    go true e = sym (le-leb 2 (1 + n) (omega (arith, ltb-true 0 n e)))
    go false e = sym (lt-leb 2 (1 + n) (omega (arith, ltb-false 0 n e)))

-- a text that was seen is seen still
again : (t u : Text) (seen : List Text) → among seen t ≡ true → among seen u ≡ (same u t || among seen u)
again t u seen e = go (same u t) refl
  where
    go : (b : Bool) → same u t ≡ b → among seen u ≡ (b || among seen u)
    go true f = ap (among seen) (same_is u t f) ∙ e
    go false f = refl

-- what a text costs that was not seen: it is recorded if it comes again
fresh_cost : (t : Text) (m n : Bool) (p : ℕ) → m ≡ n → cost (cond m (recorded p t) (regular t)) ≡ 5 + bit n + length t
unfolding cost
fresh_cost t true true p e = refl
fresh_cost t false false p e = refl
fresh_cost t true false p e = clash refl e
fresh_cost t false true p e = clash e refl

-- seen is what stood before ts, R the same as a test, and P the texts that occur twice in both together
costs_least :
    (P seen ts : List Text) (R : Text → Bool) → ((u : Text) → R u ≡ among seen u)
    → ((u : Text) → among P u ≡ leb 2 (times u seen + times u ts)) → costs (sents P seen ts) ≡ least R ts
unfolding costs sents times among cost
costs_least P seen [] R r p = refl
costs_least P seen (t ∷ ts) R r p = go (among seen t) refl (λ S h. costs_least P (t ∷ seen) ts S h counts)
  where
    counts : (u : Text) → among P u ≡ leb 2 (times u (t ∷ seen) + times u ts)
    counts u =
        let e : times u seen + (bit (same u t) + times u ts) ≡ bit (same u t) + times u seen + times u ts = omega arith in
        p u ∙ ap (leb 2) e

    one : bit (same t t) ≡ 1
    one = ap bit (same_self t)

    go :
        (b : Bool) → among seen t ≡ b
        → ((S : Text → Bool) → ((u : Text) → S u ≡ (same u t || among seen u)) → costs (sents P (t ∷ seen) ts) ≡ least S ts)
        → cost (sent_of P seen t) + costs (sents P (t ∷ seen) ts) ≡ least R (t ∷ ts)
    go true e ih =
        let m : among P t ≡ true = p t ∙ le-leb 2 (times t seen + (bit (same t t) + times t ts)) (omega (arith, one, ltb-true 0 (times t seen) (sym (among_times t seen) ∙ e))) in
        let q : R t ≡ true = r t ∙ e in
        let i : costs (sents P (t ∷ seen) ts) ≡ least R ts = ih R (λ u. r u ∙ again t u seen e) in
        rw (m, e, q, i)
    go false e ih =
        let n : times t seen + (bit (same t t) + times t ts) ≡ 1 + times t ts =
        omega (arith, one, ltb-false 0 (times t seen) (sym (among_times t seen) ∙ e)) in
        let m : among P t ≡ among ts t = p t ∙ ap (leb 2) n ∙ sym (among_times t ts ∙ two (times t ts)) in
        let q : R t ≡ false = r t ∙ e in
        let i : costs (sents P (t ∷ seen) ts) ≡ least (also t R) ts = ih (also t R) (λ u. ap (λ (b : Bool). same u t || b) (r u)) in
        rw (e, q, i) (ap (λ (n : ℕ). n + least (also t R) ts) (fresh_cost t (among P t) _ _ m))

positions : (ts : List Text) → length (repeated ts) ≤ 256 → (u : Text) → among (kept ts) u ≡ leb 2 (times u [] + times u ts)
unfolding times
positions ts few u =
    ap (λ (l : List Text). among l u) (take_all 256 (repeated ts) few)
    ∙ among_times u (repeated ts)
    ∙ ap (ltb 0) (repeated_once u ts)
    ∙ set (leb 2 (times u ts))
    ∙ ap (leb 2) (sym (zero-add (times u ts)))
  where
    set : (b : Bool) → ltb 0 (bit b) ≡ b
    set true = refl
    set false = refl

-- no legal strings of the same texts cost less
pub plan_least : (ts : List Text) → length (repeated ts) ≤ 256 → (fs : List Sent) → texts fs ≡ ts → Legal [] fs → costs (plan ts) ≤ costs fs
unfolding among
plan_least ts few fs e l =
    let i : least (has []) ts ≤ costs fs = rw e at (bound l) in
    omega (arith, costs_least (kept ts) [] ts (has []) (λ u. refl) (positions ts few), i)
