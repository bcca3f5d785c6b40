-- A plan that is taken has the length and the values that it is to have, and its strings are legal; and no other is. Assumes nothing.
use Prim.Native.Nat.{ℕ, zero, suc, ◌+◌, ◌*◌, ◌≤◌, ◌<◌}
use mathlib.Core.Path.{◌≡◌, refl, ap, ap₂}
use mathlib.Core.Bool.{Bool, true, false}
use mathlib.Core.Option.{Option, some, none}
use mathlib.Core.List.{List, [], ◌∷◌}
use native.Mathlib.Omega.{arith}
use lib.ListN.{length}
use lib.Dec.{eqb, leb}
use borrow.Author.Tests.{eqb-true, eqb-false, eq-eqb, leb-true, le-leb, lt-ltb}
use Rattle.text.proofs.Comparing.{clash, both, same_is, same_self}
use Rattle.draft.specs.Grammar.{Sent, regular, recorded, recalled, Recording, look, after, Legal, legal_none, legal_regular, legal_recorded, legal_recalled}
use Rattle.draft.specs.Strings.{Text}
use Rattle.written.proofs.Sending.{text_in, texts}
use Rattle.plans.specs.Plans.{form_at, position_at, sent_by, sent_at, sents_from, valued, holds_text, may_send, taken_from, taken}

-- the plan sends the texts that it is to send
text_by : (form p : ℕ) (t : Text) → text_in (sent_by form p t) ≡ t
text_by zero p t = refl
text_by (suc zero) p t = refl
text_by (suc (suc form)) p t = refl

pub sents_texts : (plan : List ℕ) (j : ℕ) (ts : List Text) → texts (sents_from plan j ts) ≡ ts
unfolding sents_from sent_at
sents_texts plan j [] = refl
sents_texts plan j (t ∷ ts) = ap₂ (λ (u : Text) (l : List Text). u ∷ l) (text_by (form_at plan j) (position_at plan j) t) (sents_texts plan (suc j) ts)

-- the values of a string
abbrev pub Valued : List ℕ → ℕ → Type 0
Valued plan j = (form_at plan j ≤ 2) × (form_at plan j ≡ 0 → position_at plan j ≡ 0)

valued_by : (form p : ℕ) → valued form p ≡ true → (form ≤ 2) × (form ≡ 0 → p ≡ 0)
unfolding valued
valued_by form p e = let h = both (leb form 2) _ e in (leb-true form 2 h.0, λ z. eqb-true p 0 (rw z at h.1))

valued_so : (form p : ℕ) → form ≤ 2 → (form ≡ 0 → p ≡ 0) → valued form p ≡ true
unfolding valued
valued_so zero p h z = eq-eqb p 0 (z refl)
valued_so (suc form) p h z = rw (le-leb (suc form) 2 h, lt-ltb 0 (suc form) (omega arith))

-- one string
sends_legal : (R : List Recording) (f : Sent) (fs : List Sent) → may_send R f ≡ true → Legal (after R (f ∷ [])) fs → Legal R (f ∷ fs)
unfolding may_send
sends_legal R (regular t) fs e l = legal_regular l
sends_legal R (recorded p t) fs e l = legal_recorded l
sends_legal R (recalled p t) fs e l = legal_recalled (found (look p R) e) l
  where
    found : (o : Option Text) → holds_text o t ≡ true → o ≡ some t
    found none e = clash e refl
    found (some u) e = ap some (same_is u t e)

legal_sends : (R : List Recording) (f : Sent) (fs : List Sent) → Legal R (f ∷ fs) → (may_send R f ≡ true) × Legal (after R (f ∷ [])) fs
unfolding may_send
legal_sends R (regular t) fs (legal_regular l) = (refl, l)
legal_sends R (recorded p t) fs (legal_recorded l) = (refl, l)
legal_sends R (recalled p t) fs (legal_recalled e l) = (rw e (same_self t), l)

-- from string j on
pub taken_legal : (plan : List ℕ) (R : List Recording) (j : ℕ) (ts : List Text) → taken_from plan R j ts ≡ true → Legal R (sents_from plan j ts)
unfolding taken_from sents_from
taken_legal plan R j [] e = legal_none
taken_legal plan R j (t ∷ ts) e =
    let h = both (valued (form_at plan j) (position_at plan j)) _ e in
    let i = both (may_send R (sent_at plan j t)) _ h.1 in
    sends_legal R (sent_at plan j t) _ i.0 (taken_legal plan (after R (sent_at plan j t ∷ [])) (suc j) ts i.1)

pub taken_values : (plan : List ℕ) (R : List Recording) (j : ℕ) (ts : List Text) → taken_from plan R j ts ≡ true → (k : ℕ) → j ≤ k → k < j + length ts → Valued plan k
unfolding taken_from
taken_values plan R j [] e k l m = absurd (omega arith)
taken_values plan R j (t ∷ ts) e k l m =
    let h = both (valued (form_at plan j) (position_at plan j)) _ e in
    let i = both (may_send R (sent_at plan j t)) _ h.1 in
    go (eqb k j) refl h.0 (taken_values plan (after R (sent_at plan j t ∷ [])) (suc j) ts i.1 k)
  where
    go : (b : Bool) → eqb k j ≡ b → valued (form_at plan j) (position_at plan j) ≡ true → (suc j ≤ k → k < suc j + length ts → Valued plan k) → Valued plan k
    go true q v rest = rw (eqb-true k j q) (valued_by (form_at plan j) (position_at plan j) v)
    go false q v rest = rest (omega (arith, eqb-false k j q)) (omega arith)

pub legal_taken : (plan : List ℕ) (R : List Recording) (j : ℕ) (ts : List Text) → ((k : ℕ) → j ≤ k → k < j + length ts → Valued plan k) → Legal R (sents_from plan j ts) → taken_from plan R j ts ≡ true
unfolding taken_from sents_from
legal_taken plan R j [] v l = refl
legal_taken plan R j (t ∷ ts) v l =
    let i = legal_sends R (sent_at plan j t) _ l in
    let a = v j (omega arith) (omega arith) in
    rw (valued_so (form_at plan j) (position_at plan j) a.0 a.1, i.0)
    (legal_taken plan (after R (sent_at plan j t ∷ [])) (suc j) ts (λ k m n. v k (omega arith) (omega arith)) i.1)

-- the whole plan
pub record Fit (plan : List ℕ) (ts : List Text) : Type 0 where
  pub long : length plan ≡ length ts * 2
  pub values : (j : ℕ) → j < length ts → Valued plan j
  pub legal : Legal [] (sents_from plan 0 ts)

pub taken_fit : (plan : List ℕ) (ts : List Text) → taken plan ts ≡ true → Fit plan ts
unfolding taken
taken_fit plan ts e =
    let h = both (eqb (length plan) (length ts * 2)) _ e in
    record {
      long = eqb-true (length plan) (length ts * 2) h.0;
      values = λ j l. taken_values plan [] 0 ts h.1 j (omega arith) (omega arith);
      legal = taken_legal plan [] 0 ts h.1;
    }

pub fit_taken : (plan : List ℕ) (ts : List Text) → Fit plan ts → taken plan ts ≡ true
unfolding taken
fit_taken plan ts f = rw (eq-eqb (length plan) (length ts * 2) f.long) (legal_taken plan [] 0 ts (λ k m n. f.values k (omega arith)) f.legal)
