-- What answers the returns and turns of the functions that judge a plan. Assumes nothing.
use Prim.Native.Nat.{ℕ, zero, suc, ◌+◌, ◌-◌, ◌*◌, ◌≤◌, ◌<◌}
use mathlib.Core.Path.{◌≡◌, refl, sym, ap, ◌∙◌}
use mathlib.Core.Bool.{Bool, true, false, ◌&&◌, cond}
use mathlib.Core.Option.{Option, some, none}
use mathlib.Core.List.{List, [], ◌∷◌}
use native.Mathlib.Omega.{arith}
use native.Mathlib.Numerals.{add-one}
use lib.ListN.{length, get_or, set, length-set, replicate, length-replicate}
use lib.Seq.{get_or-set_same, get_or-set_other}
use lib.Dec.{eqb}
use borrow.Author.Tests.{eqb-true, eqb-false, eq-eqb, ne_eqb, lt-leb}
use Rattle.text.specs.Texts.{same}
use Rattle.text.proofs.Comparing.{clash, both}
use Rattle.draft.specs.Table.{from}
use Rattle.draft.specs.Grammar.{Recording, text_at, look, after}
use Rattle.draft.specs.Strings.{Text}
use Rattle.buckets.proofs.Numbered.{from_step, from_none}
use Rattle.plans.specs.Plans.{form_at, position_at, sent_by, sent_at, valued, may_send, taken_from, taken}
use Rattle.plans.specs.Contract.{Spot, unset, holds, Spots, Named, Sends}

and_true : (b : Bool) → b ≡ (b && true)
and_true true = refl
and_true false = refl

named_on : {j : ℕ} {book : List ℕ} → Named j book → Named (suc j) book
named_on n = record { room = n.room; at = λ q. omega (arith, n.at q) }

spot_unset : {t : ℕ → Text} {v : ℕ} {o : Option Text} → Spot t v o → v ≡ 0 → o ≡ none
spot_unset unset e = refl
spot_unset (holds {k}) e = absurd (omega (arith, e))

spot_held : {t : ℕ → Text} {v : ℕ} {o : Option Text} → Spot t v o → (v ≡ 0 → ⊥) → o ≡ some (t (v - 1))
spot_held unset e = absurd (e refl)
spot_held {t} (holds {k}) e = let i : k ≡ suc k - 1 = omega arith in ap (λ (m : ℕ). some (t m)) i

-- what a string of each form does to the book
module _ (t : ℕ → Text) (j p : ℕ) {book : List ℕ} (n : Named j book) where
  pub sends_regular : {form : ℕ} → form ≡ 0 → Sends t j form p book book (eqb p 0)
  unfolding valued may_send
  sends_regular e =
      record {
        says = λ R s. rw e (and_true (eqb p 0));
        keeps = λ R s b. rw e s;
        named = named_on n;
      }

  recorded_at : (R : List Recording) → Spots t book R → p < 256 → (q : ℕ) → Spot t (get_or (set book p (j + 1)) q 0) (look q (text_at p (t j) ∷ R))
  recorded_at R s l q = go (eqb q p) refl
    where
      go : (b : Bool) → eqb q p ≡ b → Spot t (get_or (set book p (j + 1)) q 0) (cond b (some (t j)) (look q R))
      go true e = rw (eqb-true q p e, get_or-set_same book p (j + 1) 0 (omega (arith, n.room)), add-one) (holds {k = j})
      go false e = rw (get_or-set_other book p q (j + 1) 0 (eqb-false q p e)) (s.at q)

  recorded_named : p < 256 → (q : ℕ) → get_or (set book p (j + 1)) q 0 ≤ suc j
  recorded_named l q = go (eqb q p) refl
    where
      go : (b : Bool) → eqb q p ≡ b → get_or (set book p (j + 1)) q 0 ≤ suc j
      go true e = rw (eqb-true q p e, get_or-set_same book p (j + 1) 0 (omega (arith, n.room))) (omega arith)
      go false e = rw (get_or-set_other book p q (j + 1) 0 (eqb-false q p e)) (omega (arith, n.at q))

  pub sends_recorded : {form : ℕ} → form ≡ 1 → p < 256 → Sends t j form p book (set book p (j + 1)) true
  unfolding valued may_send
  sends_recorded e l =
      record {
        says = λ R s. rw e;
        keeps = λ R s b. rw e (record { at = recorded_at R s l });
        named = record { room = length-set book p (j + 1) ∙ n.room; at = recorded_named l };
      }

  module _ {form : ℕ} (e : form ≡ 2) where
    pub sends_unset : get_or book p 0 ≡ 0 → Sends t j form p book book false
    unfolding valued may_send
    sends_unset z =
        record {
          says = λ R s. rw (e, spot_unset (s.at p) z);
          keeps = λ R s b. clash b refl;
          named = named_on n;
        }

    pub sends_recalled : {b : Bool} → (get_or book p 0 ≡ 0 → ⊥) → b ≡ same (t (get_or book p 0 - 1)) (t j) → Sends t j form p book book b
    unfolding valued may_send
    sends_recalled z k =
        record {
          says = λ R s. k ∙ rw (e, spot_held (s.at p) z);
          keeps = λ R s b. rw e s;
          named = named_on n;
        }

  pub sends_other : (form : ℕ) → (form ≡ 0 → ⊥) → (form ≡ 1 → ⊥) → (form ≡ 2 → ⊥) → Sends t j form p book book false
  unfolding valued
  sends_other form a b c =
      record {
        says = λ R s. rw (lt-leb form 2 (omega (arith, a, b, c)));
        keeps = λ R s e. clash e refl;
        named = named_on n;
      }

pub recalled_before : {j : ℕ} (p : ℕ) {book : List ℕ} → Named j book → get_or book p 0 - 1 ≤ j
recalled_before p n = omega (arith, n.at p)

pub ruleset sending = (sends_regular, sends_recorded, sends_unset, sends_recalled, sends_other, recalled_before)

-- how far the judging is: the book is that of some recordings, with which what is left decides
pub record Taking (t : ℕ → Text) (plan : List ℕ) (n : ℕ) (book : List ℕ) (j : ℕ) : Type 0 where
  pub recordings : List Recording
  pub spots : Spots t book recordings
  pub rest : taken_from plan [] 0 (from t 0 n) ≡ taken_from plan recordings j (from t j (n - j))
  pub named : Named j book
  pub within : j ≤ n

pub from_length : {A : Type 0} (f : ℕ → A) (r n : ℕ) → length (from f r n) ≡ n
unfolding from
from_length f r zero = refl
from_length f r (suc n) = ap suc (from_length f (suc r) n)

zeros : (n i : ℕ) → get_or {A = ℕ} (replicate n 0) i 0 ≡ 0
zeros zero i = refl
zeros (suc n) zero = refl
zeros (suc n) (suc i) = zeros n i

module _ (t : ℕ → Text) (plan : List ℕ) (n : ℕ) where
  pub take_first : Taking t plan n (replicate 256 0) 0
  take_first =
      let z : n - 0 ≡ n = omega arith in
      record {
        recordings = [];
        spots = record { at = λ q. rw (zeros 256 q) unset };
        rest = rw z;
        named = record { room = length-replicate {A = ℕ} 256 0; at = λ q. rw (zeros 256 q) (omega arith) };
        within = omega arith;
      }

  pub take_short : (length plan ≡ n * 2 → ⊥) → false ≡ taken plan (from t 0 n)
  unfolding taken
  take_short h = rw (from_length t 0 n, ne_eqb (length plan) (n * 2) h)

  -- the length is right, so the rest decides
  taken_rest : length plan ≡ n * 2 → taken plan (from t 0 n) ≡ taken_from plan [] 0 (from t 0 n)
  unfolding taken
  taken_rest h = rw (from_length t 0 n, eq-eqb (length plan) (n * 2) h)

  -- a plan that is taken has two bytes for each string
  pub taken_long : taken plan (from t 0 n) ≡ true → length plan ≡ n * 2
  unfolding taken
  taken_long e = let h = both (eqb (length plan) (length (from t 0 n) * 2)) _ e in omega (arith, eqb-true (length plan) (length (from t 0 n) * 2) h.0, from_length t 0 n)

module _ {t : ℕ → Text} {plan : List ℕ} {n : ℕ} {book : List ℕ} {j : ℕ} (i : Taking t plan n book j) where
  pub take_named : Named j book
  take_named = i.named

  pub take_done : n ≤ j → length plan ≡ n * 2 → true ≡ taken plan (from t 0 n)
  unfolding taken_from
  take_done h l = sym (taken_rest t plan n l ∙ i.rest ∙ rw (from_none t j n h))

  module _ (h : j < n) {form p : ℕ} (f : form ≡ form_at plan j) (g : p ≡ position_at plan j) {book' : List ℕ} {b : Bool} (s : Sends t j form p book book' b) where
    tested : taken_from plan i.recordings j (from t j (n - j)) ≡ (valued form p && (may_send i.recordings (sent_by form p (t j)) && taken_from plan (after i.recordings (sent_by form p (t j) ∷ [])) (suc j) (from t (suc j) (n - suc j))))
    unfolding taken_from sent_at
    tested = rw (from_step t j n h, f, g)

    joined : (x y z : Bool) → (x && y) ≡ true → (x && (y && z)) ≡ z
    joined true true z e = refl
    joined true false z e = clash e refl
    joined false y z e = clash e refl

    parted : (x y z : Bool) → (x && y) ≡ false → (x && (y && z)) ≡ false
    parted true true z e = clash refl e
    parted true false z e = refl
    parted false y z e = refl

    pub take_on : b ≡ true → Taking t plan n book' (j + 1)
    take_on e =
        rw add-one
        (record {
          recordings = after i.recordings (sent_by form p (t j) ∷ []);
          spots = s.keeps i.recordings i.spots e;
          rest = i.rest ∙ tested ∙ joined (valued form p) _ _ (sym (s.says i.recordings i.spots) ∙ e);
          named = s.named;
          within = h;
        })

    pub take_no : b ≡ false → length plan ≡ n * 2 → false ≡ taken plan (from t 0 n)
    take_no e l = sym (taken_rest t plan n l ∙ i.rest ∙ tested ∙ parted (valued form p) _ _ (sym (s.says i.recordings i.spots) ∙ e))

pub ruleset taking = (take_first, take_short, take_named, take_done, take_on, take_no)
