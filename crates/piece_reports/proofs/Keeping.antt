-- A state as six words and back, and what answers each return. Assumes nothing.
use mathlib.Core.Path.{◌≡◌, refl, sym, ◌∙◌, ap}
use mathlib.Core.List.{List, [], ◌∷◌}
use Prim.Native.Nat.{ℕ}
use native.Mathlib.Omega.{arith}
use lib.ListN.{get_or, replicate}
use borrow.Author.Tests.{ne_eqb}
use Rattle.draft.specs.declared.Refusal.{Refusal}
use Rattle.draft.specs.Refusals.{number_of, refusal_of}
use Rattle.draft.proofs.Naming.{number_some, number_own}
use Rattle.pieces.specs.declared.PieceRefusal.{PieceRefusal}
use Rattle.pieces.specs.declared.PieceRefusal.TheVariants.{Message, ShortRoom}
use Rattle.pieces.specs.declared.State.{State}
use Rattle.pieces.specs.declared.State.TheVariants.{More, Accepted, Refused}
use Rattle.pieces.specs.Steps.{number_for, refusal_for, told}
use Rattle.pieces.specs.Runs.{begun}
use Rattle.piece_reports.specs.Words.{answer_for, words_of, told_by, state_for, state_of, Kept}

-- no refusal of a message has the number 4 or 255
no_four : (m : Refusal) → number_of m ≡ 4 → ⊥
unfolding refusal_of
no_four m e = let i : number_of (refusal_of 4) ≡ 4 = ap (λ (n : ℕ). number_of (refusal_of n)) (sym e) ∙ ap number_of (number_own m) ∙ e in omega (arith, i)

no_more : (m : Refusal) → number_of m ≡ 255 → ⊥
unfolding refusal_of
no_more m e = let i : number_of (refusal_of 255) ≡ 255 = ap (λ (n : ℕ). number_of (refusal_of n)) (sym e) ∙ ap number_of (number_own m) ∙ e in omega (arith, i)

-- a state with some rows, if it is accepted: no call gives another
pub data SomeRows : State → Type 0 where
  wants : {held wanted place : ℕ} → SomeRows (More held wanted place)
  accepts : {rows used : ℕ} → (rows ≡ 0 → ⊥) → SomeRows (Accepted rows used)
  refuses : {m : PieceRefusal} {place : ℕ} → SomeRows (Refused m place)

-- THE STATE IS KEPT: the words of such a state, handed back, are that state
pub kept : {state : State} → SomeRows state → state_of (words_of state) ≡ state
unfolding state_of
kept wants = refl
kept (accepts {rows = rows} h) = rw (ne_eqb rows 0 h)
kept (refuses {m = ShortRoom}) = refl
kept (refuses {m = Message m}) =
    rw (ne_eqb (number_of m) 255 (no_more m), ne_eqb (number_of m) 0 (number_some m), ne_eqb (number_of m) 4 (no_four m), number_own m)

-- ZEROS are a message that has just begun
pub zeroed : state_of (replicate 6 0) ≡ begun
unfolding state_of
zeroed = refl

-- what the words of a state tell is what the state tells
pub tells : (state : State) → told_by (words_of state) ≡ told state
tells (More held wanted place) = refl
tells (Accepted rows used) = refl
tells (Refused ShortRoom place) = refl
tells (Refused (Message m) place) = rw (ne_eqb (number_of m) 255 (no_more m), ne_eqb (number_of m) 0 (number_some m))

-- and the number that a call returns is the first of them
pub returned : {state : State} {w : List ℕ} {n : ℕ} → Kept state w n → n ≡ get_or w 0 0
returned {state} k = k.answer ∙ first state ∙ ap (λ (w : List ℕ). get_or w 0 0) (sym k.words)
  where
    first : (x : State) → answer_for x ≡ get_or (words_of x) 0 0
    first (More held wanted place) = refl
    first (Accepted rows used) = refl
    first (Refused m place) = refl

module _ (state : State) where
  pub answer_more : {held wanted place : ℕ} → state ≡ More held wanted place → 255 ≡ answer_for state
  answer_more e = rw e

  pub answer_accepted : {rows used : ℕ} → state ≡ Accepted rows used → 0 ≡ answer_for state
  answer_accepted e = rw e

  pub answer_refused : {m : PieceRefusal} {place n : ℕ} → state ≡ Refused m place → n ≡ number_for m → n ≡ answer_for state
  answer_refused e f = rw (e, f)

  pub words_more : {held wanted place : ℕ} → state ≡ More held wanted place → 255 ∷ 0 ∷ 0 ∷ place ∷ held ∷ wanted ∷ [] ≡ words_of state
  words_more e = rw e

  pub words_accepted : {rows used : ℕ} → state ≡ Accepted rows used → 0 ∷ rows ∷ used ∷ 0 ∷ 0 ∷ 0 ∷ [] ≡ words_of state
  words_accepted e = rw e

  pub words_refused : {m : PieceRefusal} {place n : ℕ} → state ≡ Refused m place → n ≡ number_for m → n ∷ 0 ∷ 0 ∷ place ∷ 0 ∷ 0 ∷ [] ≡ words_of state
  words_refused e f = rw (e, f)

module _ (answer rows used place held wanted : ℕ) where
  pub state_more : answer ≡ 255 → More held wanted place ≡ state_for answer rows used place held wanted
  state_more e = rw e

  pub state_begun : {state : State} → (answer ≡ 255 → ⊥) → answer ≡ 0 → rows ≡ 0 → state ≡ begun → state ≡ state_for answer rows used place held wanted
  state_begun h e z s = rw (ne_eqb answer 255 h, e, z) s

  pub state_accepted : (answer ≡ 255 → ⊥) → answer ≡ 0 → (rows ≡ 0 → ⊥) → Accepted rows used ≡ state_for answer rows used place held wanted
  state_accepted h e z = rw (ne_eqb answer 255 h, e, ne_eqb rows 0 z)

  pub state_refused : {m : PieceRefusal} → (answer ≡ 255 → ⊥) → (answer ≡ 0 → ⊥) → m ≡ refusal_for answer → Refused m place ≡ state_for answer rows used place held wanted
  state_refused h k e = rw (ne_eqb answer 255 h, ne_eqb answer 0 k, e)

pub these_words :
    (w : List ℕ) {state : State} → state ≡ state_for (get_or w 0 0) (get_or w 1 0) (get_or w 2 0) (get_or w 3 0) (get_or w 4 0) (get_or w 5 0) → state ≡ state_of w
unfolding state_of
these_words w e = e

pub keeps : {state : State} {w : List ℕ} {n : ℕ} → w ≡ words_of state → n ≡ answer_for state → Kept state w n
keeps e f = record { words = e; answer = f }

pub ruleset keeping = (answer_more, answer_accepted, answer_refused, words_more, words_accepted, words_refused, state_more, state_begun, state_accepted, state_refused, these_words, keeps)
