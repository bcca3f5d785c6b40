-- What answers the returns of the functions that judge a plan and prices. Assumes nothing.
use Prim.Native.Nat.{ℕ, zero, suc, ◌+◌, ◌*◌, ◌≤◌, ◌<◌}
use mathlib.Core.Path.{◌≡◌, refl, sym, ap, ◌∙◌}
use mathlib.Core.Bool.{Bool, true, false, ◌||◌, not, cond}
use mathlib.Core.Option.{Option, some, none}
use mathlib.Core.List.{List, [], ◌∷◌}
use native.Mathlib.Omega.{arith}
use mir.Syntax.{w64}
use mir.Val.{Fits}
use lib.ListN.{length, replicate}
use lib.Dec.{eqb, leb}
use borrow.Author.Tests.{eq-eqb, ne_eqb, leb-true, leb-false, le-leb, lt-leb}
use Rattle.text.specs.Texts.{same, among}
use Rattle.text.proofs.Comparing.{clash, both, same_is, same_self}
use Rattle.draft.specs.declared.Row.{Row}
use Rattle.draft.specs.Table.{room_of, row_at, from}
use Rattle.draft.specs.Grammar.{Sent, Recording, text_at, look, after}
use Rattle.draft.specs.Strings.{Text, cost, costs}
use Rattle.draft.specs.Writable.{writable, writable_within}
use Rattle.draft.specs.Written.{rows_of}
use Rattle.buckets.specs.Numbered.{numbered_text, Strings, Firsts}
use Rattle.texts.specs.Contract.{new_cost, news, Scanned}
use Rattle.sending.specs.Contract.{Collected}
use Rattle.plans.specs.Plans.{form_at, position_at, sent_by, sent_at, sents_from, valued, holds_text, may_send, taken_from, taken}
use Rattle.plans.proofs.Judging.{from_length, taken_long}
use Rattle.prices.specs.Contract.{Priced}
use Rattle.certificate.specs.Certificate.{proving, certified_texts, certified}
use Rattle.certificate.specs.Contract.{Heads, Reaches, Judged}

-- the new texts cost no more than the strings of a plan that is taken: what is recorded was seen
record Seen (seen : List Text) (R : List Recording) : Type 0 where
  at : (p : ℕ) (u : Text) → look p R ≡ some u → among seen u ≡ true

seen_more : {seen : List Text} {R : List Recording} (t : Text) → Seen seen R → Seen (t ∷ seen) R
unfolding among
seen_more {seen} {R} t s = record { at = λ p u e. go (same u t) u (s.at p u e) }
  where
    go : (b : Bool) (u : Text) → among seen u ≡ true → (b || among seen u) ≡ true
    go true u e = refl
    go false u e = e

seen_recorded : {seen : List Text} {R : List Recording} (q : ℕ) (t : Text) → Seen seen R → Seen (t ∷ seen) (text_at q t ∷ R)
unfolding among
seen_recorded {seen} {R} q t s = record { at = λ p u e. go (eqb p q) p u e }
  where
    go : (b : Bool) (p : ℕ) (u : Text) → cond b (some t) (look p R) ≡ some u → (same u t || among seen u) ≡ true
    go true p u e = let i : u ≡ t = cc in rw (i, same_self t)
    go false p u e = (seen_more t s).at p u e

new_most : (b : Bool) (n : ℕ) → new_cost (not b) n ≤ 5 + n
new_most true n = omega arith
new_most false n = omega arith

-- one string
record Step (seen : List Text) (R : List Recording) (t : Text) (f : Sent) : Type 0 where
  pays : new_cost (not (among seen t)) (length t) ≤ cost f
  on : Seen (t ∷ seen) (after R (f ∷ []))

step : (form p : ℕ) (t : Text) {seen : List Text} {R : List Recording} → Seen seen R → may_send R (sent_by form p t) ≡ true → Step seen R t (sent_by form p t)
unfolding may_send cost
step zero p t {seen} s e = record { pays = new_most (among seen t) (length t); on = seen_more t s }
step (suc zero) p t {seen} s e = record { pays = omega (arith, new_most (among seen t) (length t)); on = seen_recorded p t s }
step (suc (suc form)) p t {seen} {R} s e = record { pays = rw (s.at p t (held (look p R) e)) (omega arith); on = seen_more t s }
  where
    held : (o : Option Text) → holds_text o t ≡ true → o ≡ some t
    held none e = clash e refl
    held (some u) e = ap some (same_is u t e)

news_from : (plan : List ℕ) (R : List Recording) (j : ℕ) (seen ts : List Text) → Seen seen R → taken_from plan R j ts ≡ true → news seen ts ≤ costs (sents_from plan j ts)
unfolding news taken_from sents_from costs sent_at
news_from plan R j seen [] s e = omega arith
news_from plan R j seen (t ∷ ts) s e =
    let h = both (valued (form_at plan j) (position_at plan j)) _ e in
    let i = both (may_send R (sent_by (form_at plan j) (position_at plan j) t)) _ h.1 in
    let k = step (form_at plan j) (position_at plan j) t s i.0 in
    omega (arith, k.pays, news_from plan (after R (sent_by (form_at plan j) (position_at plan j) t ∷ [])) (suc j) (t ∷ seen) ts k.on i.1)

news_taken : (plan : List ℕ) (ts : List Text) → taken plan ts ≡ true → news [] ts ≤ costs (sents_from plan 0 ts)
unfolding taken
news_taken plan ts e =
    let h = both (eqb (length plan) (length ts * 2)) _ e in
    news_from plan [] 0 [] ts (record { at = λ p u q. let z : ◌≡◌ {A = ℕ} 0 1 = cc in absurd (omega arith) }) h.1

-- the bound
pub firsts_known : {t : ℕ → Text} {n : ℕ} {fs : List ℕ} {cheap : Bool} → Scanned t n fs cheap → cheap ≡ true → Firsts t n fs
firsts_known g q = g.firsts q

module _ {t : ℕ → Text} {ys : List ℕ} {n least prices : ℕ} (p : Priced t ys n least prices) where
  pub prices_fit : n ≤ 4096 → Fits w64 (256 * prices)
  prices_fit h = omega (arith, p.few)

  pub sum_fits : {paid : ℕ} → n ≤ 4096 → paid ≤ 65536 → Fits w64 (paid + 256 * prices)
  sum_fits h k = omega (arith, p.few)

  pub reaches : (paid : ℕ) → Reaches t n ys paid (leb (paid + 256 * prices) least)
  reaches paid = record { says = λ h. rw (p.prices_is, p.least_is) }

pub few_strings : {room words n : ℕ} {W : List ℕ} → Strings room words n W → n ≤ 4096
few_strings h = h.few

pub zero_heads : Heads (replicate 2048 0)
zero_heads = record { clear = refl; some = omega arith; most = omega arith }

pub too_many : {t : ℕ → Text} {n : ℕ} {fs : List ℕ} {cheap : Bool} (ys : List ℕ) (paid : ℕ) → Scanned t n fs cheap → cheap ≡ false → Reaches t n ys paid false
too_many {t} {n} ys paid g q =
    let k : 65536 < news [] (from t 0 n) = leb-false (news [] (from t 0 n)) 65536 (sym g.says ∙ q) in
    record { says = λ h. absurd (omega arith) }

-- strings
module _ (t : ℕ → Text) (plan prices : List ℕ) (n : ℕ) {b : Bool} (e : b ≡ taken plan (from t 0 n)) where
  pub not_taken : b ≡ false → false ≡ certified_texts plan prices (from t 0 n)
  unfolding certified_texts
  not_taken f = rw (← e, f)

  module _ (f : b ≡ true) where
    pub wrong_number : (length prices ≡ n → ⊥) → false ≡ certified_texts plan prices (from t 0 n)
    unfolding certified_texts
    wrong_number h = rw (← e, f, from_length t 0 n, ne_eqb (length prices) n h)

    module _ (l : length prices ≡ n) {paid : ℕ} (d : paid ≡ costs (sents_from plan 0 (from t 0 n))) where
      number_is : eqb (length prices) (length (from t 0 n)) ≡ true
      number_is = eq-eqb (length prices) (length (from t 0 n)) (omega (arith, from_length t 0 n))

      pub too_dear : 65536 < paid → false ≡ certified_texts plan prices (from t 0 n)
      unfolding certified_texts
      too_dear h = rw (← e, f, number_is, lt-leb (costs (sents_from plan 0 (from t 0 n))) 65536 (omega (arith, d)))

      pub proved : {x : Bool} → paid ≤ 65536 → Reaches t n prices paid x → x ≡ certified_texts plan prices (from t 0 n)
      unfolding certified_texts proving
      proved h r =
          let k : news [] (from t 0 n) ≤ 65536 = omega (arith, news_taken plan (from t 0 n) (sym e ∙ f), d) in
          let i : leb (costs (sents_from plan 0 (from t 0 n))) 65536 ≡ true = le-leb (costs (sents_from plan 0 (from t 0 n))) 65536 (omega (arith, d)) in
          r.says k ∙ rw (← e, f, number_is, i, d)

pub plan_long : (t : ℕ → Text) (plan : List ℕ) (n : ℕ) {b : Bool} → b ≡ taken plan (from t 0 n) → b ≡ true → n * 2 ≤ length plan
plan_long t plan n e f = omega (arith, taken_long t plan n (sym e ∙ f))

-- rows
pub of_strings : {row : ℕ → Row} {rows : ℕ} (s plan prices : List ℕ) {W : List ℕ} {n : ℕ} {b : Bool} → Collected row rows W n → b ≡ certified_texts plan prices (from (numbered_text row W s) 0 n) → Judged s (from row 0 rows) plan prices b
of_strings s plan prices c h = record { is = h ∙ ap (certified_texts plan prices) (sym (c.texts s)) }

-- the whole table
module _ (T : List ℕ) (rows : ℕ) (s plan prices : List ℕ) {b : Bool} (e : b ≡ writable T rows s) where
  pub unwritable : b ≡ false → false ≡ certified T rows s plan prices
  unfolding certified
  unwritable f = rw (← e, f)

  pub of_rows : {room : ℕ} {x : Bool} → b ≡ true → room ≡ room_of 4096 (length T) → Judged s (from (row_at room T) 0 rows) plan prices x → x ≡ certified T rows s plan prices
  unfolding certified rows_of
  of_rows f g j = j.is ∙ rw (← e, f, g)

  pub text_short : b ≡ true → length s ≤ 65536
  unfolding writable writable_within
  text_short f = leb-true (length s) 65536 (both (leb (length s) 65536) _ (sym e ∙ f)).0
