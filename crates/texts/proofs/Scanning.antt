-- What answers the returns and turns of the pass that finds each text's first string. Assumes nothing.
use Prim.Native.Nat.{ℕ, suc, ◌+◌, ◌-◌, ◌≤◌, ◌<◌}
use mathlib.Core.Path.{◌≡◌, refl, sym, ap, ◌∙◌}
use mathlib.Core.Bool.{Bool, true, false, not}
use mathlib.Core.List.{List, []}
use native.Mathlib.Omega.{arith}
use native.Mathlib.Nat.{zero-add, sub-zero}
use native.Mathlib.Numerals.{add-one}
use mir.Syntax.{w64}
use mir.Val.{Fits}
use lib.ListN.{length, get_or, set, length-set}
use lib.Seq.{get_or-set_same, get_or-set_other}
use lib.Dec.{eqb, ltb}
use borrow.Author.Tests.{ltb-true, ltb-false, eq-eqb, ne_eqb, lt-leb, le-leb}
use Rattle.text.specs.Texts.{among}
use Rattle.text.proofs.Comparing.{clash}
use Rattle.draft.specs.declared.Row.{Row}
use Rattle.draft.specs.Strings.{Text}
use Rattle.draft.specs.Table.{from}
use Rattle.buckets.specs.Numbered.{numbered_text, before, First, Firsts}
use Rattle.texts.specs.Contract.{news, new_cost, NewCost, Scanned}
use Rattle.occurring.proofs.Among.{at_or_not}
use Rattle.buckets.proofs.Numbered.{from_step, from_none, seen_first}
use Rattle.buckets.proofs.Comparing.{text_short}

-- where the pass stands at string r of n
pub record Scan (t : ℕ → Text) (n r sum : ℕ) (fs : List ℕ) : Type 0 where
  pub within : r ≤ n
  pub firsts : Firsts t r fs
  pub so_far_lem : sum + news (before t r) (from t r (n - r)) ≡ news [] (from t 0 n)
  pub small : sum ≤ 65536
  pub room : n ≤ length fs

pub scan_first : (t : ℕ → Text) (n : ℕ) (fs : List ℕ) → n ≤ length fs → Scan t n 0 0 fs
unfolding before
scan_first t n fs h =
    record {
      within = omega arith;
      firsts = record { at = λ k h. absurd (omega arith) };
      so_far_lem = simp (sub-zero, zero-add);
      small = omega arith;
      room = h;
    }

new_most : (b : Bool) (m : ℕ) → new_cost b m ≤ 5 + m
new_most true m = omega arith
new_most false m = omega arith

-- what a string costs, by whether its text is new
pub new_yes : {t : ℕ → Text} {j f : ℕ} {u : List ℕ} → f ≡ j → u ≡ t j → NewCost t j f (5 + length u)
new_yes e h = record { is = rw (eq-eqb _ _ e, h) }

pub new_no : {t : ℕ → Text} {j f : ℕ} → (f ≡ j → ⊥) → NewCost t j f 0
new_no e = record { is = rw (ne_eqb _ _ e) }

pub ruleset costing = (new_yes, new_no)

pub new_fits : (row : ℕ → Row) (W s : List ℕ) {n r sum f x : ℕ} {fs : List ℕ} → Scan (numbered_text row W s) n r sum fs → NewCost (numbered_text row W s) r f x → length s ≤ 65536 → Fits w64 (sum + x)
new_fits row W s {r = r} {f = f} i e l = omega (arith, new_most (eqb f r) (length (numbered_text row W s r)), i.small, e.is, text_short row W s r)

-- a new text is one whose first string is its own
new_is : (t : ℕ → Text) {r f : ℕ} → First t r f → not (among (before t r) (t r)) ≡ eqb f r
new_is t {r} {f} h = ap not (seen_first t h) ∙ go (ltb f r) refl
  where
    go : (b : Bool) → ltb f r ≡ b → not b ≡ eqb f r
    go true e = sym (ne_eqb f r (λ q. omega (arith, ltb-true f r e)))
    go false e = sym (eq-eqb f r (omega (arith, ltb-false f r e, h.within)))

news_step : (t : ℕ → Text) (n r : ℕ) {f : ℕ} → First t r f → r < n → news (before t r) (from t r (n - r)) ≡ new_cost (eqb f r) (length (t r)) + news (before t (suc r)) (from t (suc r) (n - suc r))
unfolding news before
news_step t n r {f} h l = rw (from_step t r n l, new_is t h)

firsts_more : (t : ℕ → Text) (r f : ℕ) (fs : List ℕ) → Firsts t r fs → First t r f → r < length fs → Firsts t (suc r) (set fs r f)
firsts_more t r f fs h e l =
    record {
      at = λ k. at_or_not (λ (k : ℕ). k < suc r → First t k (get_or (set fs r f) k 0)) k r (λ m. rw (get_or-set_same fs r f 0 l) e) (λ n m. rw (get_or-set_other fs r k f 0 n) (h.at k (omega (arith, n))));
    }

-- a turn, and the two ends
module _ {t : ℕ → Text} {n r sum : ℕ} {fs : List ℕ} (i : Scan t n r sum fs) where
  module _ (h : r < n) {f x : ℕ} (e : First t r f) (ex : NewCost t r f x) where
    so : sum + x + news (before t (suc r)) (from t (suc r) (n - suc r)) ≡ news [] (from t 0 n)
    so = omega (arith, i.so_far_lem, ex.is, news_step t n r e h)

    pub scan_again : sum + x ≤ 65536 → Scan t n (r + 1) (sum + x) (set fs r f)
    scan_again small =
        rw add-one
        (record {
          within = omega arith;
          firsts = firsts_more t r f fs i.firsts e (omega (arith, i.room));
          so_far_lem = so;
          small = small;
          room = simp length-set i.room;
        })

    pub scan_over : {fs' : List ℕ} → 65536 < sum + x → Scanned t n fs' false
    scan_over l = record { says = sym (lt-leb (news [] (from t 0 n)) 65536 (omega (arith, so))); firsts = λ e. clash e refl; room = λ e. clash e refl }

  pub scan_done : n ≤ r → Scanned t n fs true
  unfolding news
  scan_done l =
      let q : r ≡ n = omega (arith, i.within) in
      let z : news (before t r) (from t r (n - r)) ≡ 0 = rw (from_none t r n l) in
      record {
        says = sym (le-leb (news [] (from t 0 n)) 65536 (omega (arith, i.so_far_lem, i.small)));
        firsts = λ e. rw q at i.firsts;
        room = λ e. i.room;
      }

pub ruleset scanning = (scan_first, new_fits, scan_again, scan_over, scan_done)
