-- Strings as sent: the texts that they stand for, taken apart, and that the written form sends legally what it is to send. Assumes nothing.
use mathlib.Core.Path.{◌≡◌, refl, sym, ap, ap₂, ◌∙◌}
use mathlib.Core.Bool.{Bool, true, false, ◌||◌, cond}
use mathlib.Core.Option.{some}
use mathlib.Core.List.{List, [], ◌∷◌, ◌++◌}
use Prim.Native.Nat.{ℕ, suc, ◌<◌}
use native.Mathlib.Omega.{arith}
use lib.Dec.{eqb}
use lib.ListN.{length}
use borrow.Author.Tests.{eqb-true, eq-eqb}
use Rattle.text.specs.Texts.{same, among}
use Rattle.text.proofs.Comparing.{clash, same_is}
use Rattle.draft.specs.Grammar.{Sent, regular, recorded, recalled, Recording, text_at, look, Legal, legal_none, legal_regular, legal_recorded, legal_recalled}
use Rattle.draft.specs.Strings.{Text, onward, position, sent_of, sents, kept, plan}

-- the text that a string stands for, and those of several
abbrev pub text_in : Sent → Text
text_in (regular t) = t
text_in (recorded p t) = t
text_in (recalled p t) = t

abbrev pub texts : List Sent → List Text
texts [] = []
texts (f ∷ fs) = text_in f ∷ texts fs

pub none_sent : (gs : List Sent) → texts gs ≡ [] → gs ≡ []
none_sent [] e = refl
none_sent (g ∷ gs) e = let z : ◌≡◌ {A = ℕ} 0 1 = cc in absurd (omega arith)

pub record First (gs : List Sent) (u : Text) (us : List Text) : Type 0 where
  pub sent : Sent
  pub left : List Sent
  pub is : gs ≡ sent ∷ left
  pub stands : text_in sent ≡ u
  pub rest : texts left ≡ us

pub first_sent : (gs : List Sent) {u : Text} {us : List Text} → texts gs ≡ u ∷ us → First gs u us
first_sent [] e = let z : ◌≡◌ {A = ℕ} 0 1 = cc in absurd (omega arith)
first_sent (g ∷ gs) {u} {us} e =
    let i : text_in g ≡ u = cc in
    let j : texts gs ≡ us = cc in
    record { sent = g; left = gs; is = refl; stands = i; rest = j }

pub record Split (gs : List Sent) (us vs : List Text) : Type 0 where
  pub front : List Sent
  pub back : List Sent
  pub is : gs ≡ front ++ back
  pub first : texts front ≡ us
  pub second : texts back ≡ vs

pub split : (us vs : List Text) (gs : List Sent) → texts gs ≡ us ++ vs → Split gs us vs
split [] vs gs e = record { front = []; back = gs; is = refl; first = refl; second = e }
split (u ∷ us) vs gs e =
    let f = first_sent gs e in
    let h = split us vs f.left f.rest in
    record {
      front = f.sent ∷ h.front;
      back = h.back;
      is = f.is ∙ ap (λ (l : List Sent). f.sent ∷ l) h.is;
      first = ap₂ (λ (t : Text) (l : List Text). t ∷ l) f.stands h.first;
      second = h.second;
    }

pub texts_append : (fs gs : List Sent) → texts (fs ++ gs) ≡ texts fs ++ texts gs
texts_append [] gs = refl
texts_append (f ∷ fs) gs = ap (λ (l : List Text). text_in f ∷ l) (texts_append fs gs)

-- the written form sends the texts that it is to send
sent_text : (P seen : List Text) (t : Text) → text_in (sent_of P seen t) ≡ t
sent_text P seen t = go (among P t) (among seen t)
  where
    go : (b c : Bool) → text_in (cond b (cond c (recalled (position P t) t) (recorded (position P t) t)) (regular t)) ≡ t
    go true true = refl
    go true false = refl
    go false c = refl

pub sents_texts : (P seen ts : List Text) → texts (sents P seen ts) ≡ ts
unfolding sents
sents_texts P seen [] = refl
sents_texts P seen (t ∷ ts) = ap₂ (λ (u : Text) (l : List Text). u ∷ l) (sent_text P seen t) (sents_texts P (t ∷ seen) ts)

pub plan_texts : (ts : List Text) → texts (plan ts) ≡ ts
plan_texts ts = sents_texts (kept ts) [] ts

-- a position has one text
position_of : (P : List Text) (t u : Text) → among P t ≡ true → among P u ≡ true → position P t ≡ position P u → t ≡ u
unfolding among position
position_of [] t u a b e = clash a refl
position_of (v ∷ P) t u a b e = go (same t v) refl (same u v) refl a b e (position_of P t u)
  where
    go :
        (x : Bool) → same t v ≡ x → (y : Bool) → same u v ≡ y → (x || among P t) ≡ true → (y || among P u) ≡ true
        → onward x (position P t) ≡ onward y (position P u) → (among P t ≡ true → among P u ≡ true → position P t ≡ position P u → t ≡ u) → t ≡ u
    go true i true j a b e rest = same_is t v i ∙ sym (same_is u v j)
    go true i false j a b e rest = absurd (omega (arith, e))
    go false i true j a b e rest = absurd (omega (arith, e))
    go false i false j a b e rest = rest a b (omega (arith, e))

pub position_below : (P : List Text) (t : Text) → among P t ≡ true → position P t < length P
unfolding among position
position_below [] t a = clash a refl
position_below (v ∷ P) t a = go (same t v) a (position_below P t)
  where
    go : (x : Bool) → (x || among P t) ≡ true → (among P t ≡ true → position P t < length P) → onward x (position P t) < suc (length P)
    go true a rest = omega arith
    go false a rest = omega (arith, rest a)

-- what was sent with a position is found there
record Found (P seen : List Text) (R : List Recording) : Type 0 where
  there : (u : Text) → among P u ≡ true → among seen u ≡ true → look (position P u) R ≡ some u

found_skip : (P seen : List Text) (R : List Recording) (t : Text) → Found P seen R → (among P t ≡ true → among seen t ≡ true) → Found P (t ∷ seen) R
unfolding among
found_skip P seen R t f h = record { there = λ u a b. go u a (same u t) refl b }
  where
    go : (u : Text) → among P u ≡ true → (x : Bool) → same u t ≡ x → (x || among seen u) ≡ true → look (position P u) R ≡ some u
    go u a true i b = let e : u ≡ t = same_is u t i in f.there u a (rw (← e) at (h (rw e at a)))
    go u a false i b = f.there u a b

found_recorded : (P seen : List Text) (R : List Recording) (t : Text) → Found P seen R → among P t ≡ true → Found P (t ∷ seen) (text_at (position P t) t ∷ R)
unfolding among
found_recorded P seen R t f h = record { there = λ u a b. go u a (eqb (position P u) (position P t)) refl (same u t) refl b }
  where
    go :
        (u : Text) → among P u ≡ true → (y : Bool) → eqb (position P u) (position P t) ≡ y → (x : Bool) → same u t ≡ x → (x || among seen u) ≡ true
        → cond y (some t) (look (position P u) R) ≡ some u
    go u a true j x i b = ap some (sym (position_of P u t a h (eqb-true _ _ j)))
    go u a false j true i b = let e : u ≡ t = same_is u t i in clash (eq-eqb (position P u) (position P t) (ap (position P) e)) j
    go u a false j false i b = f.there u a b

legal_sents : (P seen ts : List Text) (R : List Recording) → Found P seen R → Legal R (sents P seen ts)
unfolding sents
legal_sents P seen [] R f = legal_none
legal_sents P seen (t ∷ ts) R f = go (among P t) refl (among seen t) refl (legal_sents P (t ∷ seen) ts)
  where
    go :
        (b : Bool) → among P t ≡ b → (c : Bool) → among seen t ≡ c → ((R : List Recording) → Found P (t ∷ seen) R → Legal R (sents P (t ∷ seen) ts))
        → Legal R (cond b (cond c (recalled (position P t) t) (recorded (position P t) t)) (regular t) ∷ sents P (t ∷ seen) ts)
    go true i true j rest = legal_recalled (f.there t i j) (rest R (found_skip P seen R t f (λ a. j)))
    go true i false j rest = legal_recorded (rest (text_at (position P t) t ∷ R) (found_recorded P seen R t f i))
    go false i c j rest = legal_regular (rest R (found_skip P seen R t f (λ a. clash a i)))

pub plan_legal : (ts : List Text) → Legal [] (plan ts)
unfolding among
plan_legal ts = legal_sents (kept ts) [] ts [] (record { there = λ u a b. clash b refl })
