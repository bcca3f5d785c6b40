-- Going from record to record: one step of the definition, and what looking at a record can give. Assumes nothing.
use mathlib.Core.Path.{◌≡◌, refl, sym, ap, ◌∙◌}
use mathlib.Core.Bool.{Bool, true, false, cond}
use mathlib.Core.List.{List, [], ◌∷◌}
use Prim.Native.Nat.{ℕ, zero, suc, ◌+◌, ◌≤◌, ◌<◌}
use native.Mathlib.Omega.{arith}
use lib.ListN.{length, drop}
use lib.Seq.{drop-nil}
use lib.Dec.{eqb}
use borrow.Author.Tests.{leb-true, leb-false, eqb-true, eqb-false}
use Rattle.std.specs.Prelude.{Ok, Err}
use Rattle.std.specs.declared.ops.ControlFlow.TheVariants.{Break, Continue}
use Rattle.records.specs.declared.Kind.{Kind}
use Rattle.records.specs.declared.Kind.TheVariants.{Card, End, Other}
use Rattle.records.specs.declared.JobRefusal.{JobRefusal}
use Rattle.records.specs.declared.JobRefusal.TheVariants.{FileEnded, WrongEnd, NoCard}
use Rattle.records.specs.Job.{Found, Look, body_at, missing_at, on_to, kind_at, body_length, record_length, ends_with, whole, record_says, look_at, onward, find}

-- two bodies, two refusals and two steps that are the same
start_in : Found → ℕ
start_in (Ok body) = body.start
start_in (Err none) = 0

length_in : Found → ℕ
length_in (Ok body) = body.length
length_in (Err none) = 0

pub same_body : {x y start size : ℕ} → body_at x y ≡ body_at start size → (x ≡ start) × (y ≡ size)
unfolding start_in length_in
same_body e = (ap start_in e, ap length_in e)

place_in : Found → ℕ
place_in (Ok body) = 0
place_in (Err none) = none.place

refusal_in : Found → JobRefusal → JobRefusal
refusal_in (Ok body) m = m
refusal_in (Err none) m = none.refusal

pub same_missing : {m n : JobRefusal} {p q : ℕ} → missing_at m p ≡ missing_at n q → (m ≡ n) × (p ≡ q)
unfolding place_in refusal_in
same_missing {m} e = (ap (λ (f : Found). refusal_in f m) e, ap place_in e)

cards_in : Look → ℕ
cards_in (Break found) = 0
cards_in (Continue step) = step.cards

size_in : Look → ℕ
size_in (Break found) = 0
size_in (Continue step) = step.length

pub same_step : {c d x y : ℕ} → on_to c x ≡ on_to d y → (c ≡ d) × (x ≡ y)
unfolding cards_in size_in
same_step e = (ap cards_in e, ap size_in e)

pub find_ends : (n cards at skip : ℕ) → find n cards at skip [] ≡ missing_at FileEnded at
unfolding find
find_ends n cards at zero = refl
find_ends n cards at (suc skip) = refl

-- bytes that are stepped over
pub find_skips : (n cards at skip : ℕ) (s : List ℕ) → find n cards at skip s ≡ find n cards at 0 (drop skip s)
unfolding find
find_skips n cards at skip [] = find_ends n cards at skip ∙ sym (rw (drop-nil {A = ℕ} skip) (find_ends n cards at 0))
find_skips n cards at zero (b ∷ s) = refl
find_skips n cards at (suc skip) (b ∷ s) = find_skips n cards at skip s

onward_alike : (look : Look) {f g : ℕ → ℕ → Found} → ((cards size : ℕ) → f cards size ≡ g cards size) → onward look f ≡ onward look g
onward_alike (Break found) h = refl
onward_alike (Continue step) h = h step.cards step.length

past : (size b : ℕ) (s : List ℕ) → drop (size + 6) (b ∷ s) ≡ drop (size + 5) s
past size b s = let e : size + 6 ≡ suc (size + 5) = omega arith in rw e

-- one record, and what is behind it
pub find_step : (n cards at : ℕ) (s : List ℕ) → find n cards at 0 s ≡ onward (look_at n cards at s) (λ cards' size. find n cards' (at + (size + 6)) 0 (drop (size + 6) s))
unfolding find look_at
find_step n cards at [] = refl
find_step n cards at (b ∷ s) =
    onward_alike (look_at n cards at (b ∷ s)) (λ cards' size. find_skips n cards' (at + (size + 6)) (size + 5) s ∙ ap (find n cards' (at + (size + 6)) 0) (sym (past size b s)))

-- what looking at a record can give, and what the record is then
pub data Looked (n cards at : ℕ) (s : List ℕ) : Look → Type 0 where
  cut : length s < record_length s → Looked n cards at s (Break (missing_at FileEnded at))
  asked : record_length s ≤ length s → kind_at s ≡ Card → cards ≡ n → Looked n cards at s (Break (body_at (at + 6) (body_length s)))
  passed : record_length s ≤ length s → kind_at s ≡ Card → (cards ≡ n → ⊥) → Looked n cards at s (on_to (cards + 1) (body_length s))
  ended : record_length s ≤ length s → kind_at s ≡ End → ends_with s cards ≡ true → Looked n cards at s (Break (missing_at NoCard at))
  wrong : record_length s ≤ length s → kind_at s ≡ End → ends_with s cards ≡ false → Looked n cards at s (Break (missing_at WrongEnd at))
  other : record_length s ≤ length s → kind_at s ≡ Other → Looked n cards at s (on_to cards (body_length s))

module _ (n cards at : ℕ) (s : List ℕ) where
  looked_card : (b : Bool) → eqb cards n ≡ b → record_length s ≤ length s → kind_at s ≡ Card → Looked n cards at s (cond b (Break (body_at (at + 6) (body_length s))) (on_to (cards + 1) (body_length s)))
  looked_card true e w k = asked w k (eqb-true _ _ e)
  looked_card false e w k = passed w k (eqb-false _ _ e)

  looked_end : (b : Bool) → ends_with s cards ≡ b → record_length s ≤ length s → kind_at s ≡ End → Looked n cards at s (Break (missing_at (cond b NoCard WrongEnd) at))
  looked_end true e w k = ended w k e
  looked_end false e w k = wrong w k e

  looked_record : (k : Kind) → kind_at s ≡ k → record_length s ≤ length s → Looked n cards at s (record_says k n cards at s)
  looked_record Card k w = looked_card (eqb cards n) refl w k
  looked_record End k w = looked_end (ends_with s cards) refl w k
  looked_record Other k w = other w k

  looked_whole : (b : Bool) → whole s ≡ b → Looked n cards at s (cond b (record_says (kind_at s) n cards at s) (Break (missing_at FileEnded at)))
  looked_whole true e = looked_record (kind_at s) refl (leb-true _ _ e)
  looked_whole false e = cut (leb-false _ _ e)

  pub looked : Looked n cards at s (look_at n cards at s)
  unfolding look_at
  looked = looked_whole (whole s) refl
