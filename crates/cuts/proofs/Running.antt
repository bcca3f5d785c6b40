-- Runs of calls from `start` on, and the end call: what they come to. Assumes nothing.
use mathlib.Core.Path.{◌≡◌, refl, ◌∙◌, ap}
use mathlib.Core.Bool.{Bool, true, false, cond}
use mathlib.Core.List.{List, [], ◌∷◌, ◌++◌}
use Prim.Native.Nat.{ℕ, ◌≤◌}
use native.Mathlib.Omega.{arith}
use lib.ListN.{length, drop, replicate}
use lib.Dec.{ltb}
use borrow.Author.Tests.{le-ltb, ltb-false}
use Rattle.text.proofs.Comparing.{clash}
use Rattle.draft.specs.declared.Refusal.TheVariants.{Ended}
use Rattle.draft.specs.Limits.{allowed}
use Rattle.draft.specs.Read.{Reading, got, refused, agree, message, message_within}
use Rattle.read_answer.specs.Answers.{reading, table_of}
use Rattle.rereading.specs.Rereading.{refused_with_one}
use Rattle.room.specs.Room.{room_after}
use Rattle.pieces.specs.declared.PieceRefusal.TheVariants.{Message}
use Rattle.pieces.specs.declared.State.{State}
use Rattle.pieces.specs.declared.State.TheVariants.{More, Accepted, Refused}
use Rattle.pieces.specs.Pieces.{outcome, through, room_with, more, refusal, told_of, so_far}
use Rattle.pieces.specs.Steps.{told, state_went, room_went, table_went, Went, state_closed, table_closed, Closed}
use Rattle.pieces.specs.Runs.{begun, Runs, none, piece}
use Rattle.cuts.proofs.Outcomes.{through_step}
use Rattle.cuts.proofs.Holding.{same_room, past}
use Rattle.cuts.proofs.Calling.{decided_as, Is, waiting, done, Stands, plain, Next, step}

-- calls over some pieces, and then over others
pub run_append :
    {limit : ℕ} {ps qs : List (List ℕ)} {state between last : State} {R T R' T' R'' T'' : List ℕ}
    → Runs limit ps state R T between R' T' → Runs limit qs between R' T' last R'' T'' → Runs limit (ps ++ qs) state R T last R'' T''
run_append none then = then
run_append (piece w run) then = piece w (run_append run then)

-- nothing has come
begins : (limit : ℕ) (ok : allowed limit ≡ true) (R T : List ℕ) → Stands limit [] R (length T) begun R T
unfolding room_with outcome reading message_within message agree
begins limit ok R T =
    record {
      room = refl;
      size = refl;
      is = waiting {wanted = 0} {q = 0} refl (rw ok) (omega arith) (λ ys l. let z : ◌≡◌ {A = ℕ} 0 1 = omega (arith, l) in cc) (λ k. let z : ◌≡◌ {A = ℕ} 0 1 = omega (arith, k) in cc);
    }

module _ (limit : ℕ) (ok : allowed limit ≡ true) (R₀ : List ℕ) (words : ℕ) (long : 65536 ≤ length R₀) where
  run_on :
      {ps : List (List ℕ)} {state last : State} {R T R' T' : List ℕ} (s : List ℕ)
      → Next limit s R₀ words state R T → Runs limit ps state R T last R' T' → Next limit (through limit words s ps) R₀ words last R' T'
  unfolding through
  run_on s n none = n
  run_on s n (piece {p = p} {ps = ps} {state = state} {between = between} {R = R} {T = T} {R' = R'} {T' = T'} w run) =
      let k : 65536 ≤ length R = omega (arith, ap length n.stands.room, same_room s R₀ long) in
      let m : Next limit (through limit words s (p ∷ [])) R₀ words between R' T'
      = step limit ok s p R₀ words R T R' T' between n.stands.room n.stands.size n.stands.is (plain limit ok state p R T R' T' between k w) in
      rw (through_step limit ok words s p ps) (run_on (through limit words s (p ∷ [])) m run)

-- after one piece or more the table is that of the outcome too
pub run_next :
    (limit : ℕ) (ok : allowed limit ≡ true) (R₀ T₀ : List ℕ) {p : List ℕ} {ps : List (List ℕ)} {state : State} {R T : List ℕ} → 65536 ≤ length R₀ → Runs limit (p ∷ ps) begun R₀ T₀ state R T
    → Next limit (through limit (length T₀) [] (p ∷ ps)) R₀ (length T₀) state R T
run_next limit ok R₀ T₀ {p} {ps} long (piece {between = between} {R' = R'} {T' = T'} w run) =
    let b = begins limit ok R₀ T₀ in
    let m : Next limit (through limit (length T₀) [] (p ∷ [])) R₀ (length T₀) between R' T'
    = step limit ok [] p R₀ (length T₀) R₀ T₀ R' T' between b.room b.size b.is (plain limit ok begun p R₀ T₀ R' T' between long w) in
    rw (through_step limit ok (length T₀) [] p ps) (run_on limit ok R₀ (length T₀) long (through limit (length T₀) [] (p ∷ [])) m run)

pub run_stands :
    (limit : ℕ) (ok : allowed limit ≡ true) (R₀ T₀ : List ℕ) (ps : List (List ℕ)) {state : State} {R T : List ℕ} → 65536 ≤ length R₀ → Runs limit ps begun R₀ T₀ state R T
    → Stands limit (through limit (length T₀) [] ps) R₀ (length T₀) state R T
unfolding through
run_stands limit ok R₀ T₀ [] long none = begins limit ok R₀ T₀
run_stands limit ok R₀ T₀ (p ∷ ps) long run = (run_next limit ok R₀ T₀ long run).stands

told_done : (o : Reading) → told (decided_as o) ≡ told_of o
told_done (got rows used book) = refl
told_done (refused m q) = refl

-- what a state tells is what the bytes through the deciding piece come to
pub is_told : {limit : ℕ} {s : List ℕ} {words : ℕ} {T : List ℕ} {state : State} → Is limit s words T state → told state ≡ so_far (outcome limit s words)
is_told (waiting h o most law z) = rw o
is_told {limit = limit} {s = s} {words = words} (done z i t) = ap told i ∙ told_done (outcome limit s words) ∙ rw z

-- a state, and a table, that are a whole message's
pub record Ends (o : Reading) (words : ℕ) (state : State) (T : List ℕ) : Type 0 where
  pub says : told state ≡ told_of o
  pub table : T ≡ table_of words o

module _ (o : Reading) where
  close_done : state_closed (decided_as o) ≡ decided_as o
  close_done = by o
    where
      by : (x : Reading) → state_closed (decided_as x) ≡ decided_as x
      by (got rows used book) = refl
      by (refused m q) = refl

  close_table : (T : List ℕ) → table_closed (decided_as o) T ≡ T
  close_table T = by o
    where
      by : (x : Reading) → table_closed (decided_as x) T ≡ T
      by (got rows used book) = refl
      by (refused m q) = refl

-- the end call
pub end_is :
    (limit : ℕ) (ok : allowed limit ≡ true) {s : List ℕ} {state : State} (words bytes : ℕ) (T T' : List ℕ) (last : State)
    → 65536 ≤ bytes → length T ≡ words → Is limit s words T state → Closed limit state bytes T T' last → Ends (outcome limit s words) words last T'
end_is limit ok words bytes T T' last long l (waiting {q = q} h o most law z) w =
    let a : last ≡ Refused (Message Ended) q = simp (ok, le-ltb _ _ long) at w.says in
    let t : T' ≡ replicate words 0 = rw l at (simp (ok, le-ltb _ _ long) at w.table) in
    rw o (record { says = ap told a; table = t })
end_is limit ok {s = s} words bytes T T' last long l (done {state = state} z i t) w =
    let a : last ≡ state_closed state = simp (ok, le-ltb _ _ long) at w.says in
    let b : T' ≡ table_closed state T = simp (ok, le-ltb _ _ long) at w.table in
    record {
      says = ap told (a ∙ ap state_closed i ∙ close_done (outcome limit s words)) ∙ told_done (outcome limit s words);
      table = b ∙ ap (λ (x : State). table_closed x T) i ∙ close_table (outcome limit s words) T ∙ t;
    }

-- ---- any state, room and table
-- a decided state, however it came to be, stays with its room and its table
pub record Same (state state' : State) (R R' T T' : List ℕ) : Type 0 where
  pub says : state' ≡ state
  pub room : R' ≡ R
  pub table : T' ≡ T

pub decided_stays :
    (limit : ℕ) (ok : allowed limit ≡ true) (state : State) {p R T R' T' : List ℕ} {state' : State} → (told state ≡ more → ⊥) → 65536 ≤ length R → Went limit state p R T R' T' state'
    → Same state state' R R' T T'
unfolding state_went room_went table_went
decided_stays limit ok (More held wanted place) h long w = absurd (h refl)
decided_stays limit ok (Accepted rows used) {p} {R} {T} {R'} {T'} {state'} h long w =
    let v = plain limit ok (Accepted rows used) p R T R' T' state' long w in
    record { says = v.says; room = v.room; table = v.table }
decided_stays limit ok (Refused m q) {p} {R} {T} {R'} {T'} {state'} h long w =
    let v = plain limit ok (Refused m q) p R T R' T' state' long w in
    record { says = v.says; room = v.room; table = v.table }

-- the room's bytes past 65,536 stay
pub past_stays : (limit : ℕ) (state : State) {p R T R' T' : List ℕ} {state' : State} → Went limit state p R T R' T' state' → drop 65536 R' ≡ drop 65536 R
unfolding room_went
past_stays limit state {p} {R} {T} {R'} {T'} {state'} w = by (allowed limit) refl (ltb (length R) 65536) refl
  where
    went : (x : State) → 65536 ≤ length R → drop 65536 (room_went x p R) ≡ drop 65536 R
    went (More held wanted place) long = in_room (ltb 65536 held) refl
      where
        in_room : (b : Bool) → ltb 65536 held ≡ b → drop 65536 (cond b R (room_after held p R)) ≡ drop 65536 R
        in_room true e = refl
        in_room false e = past held p R (ltb-false 65536 held e) long
    went (Accepted rows used) long = refl
    went (Refused m q) long = refl

    by : (a : Bool) → allowed limit ≡ a → (b : Bool) → ltb (length R) 65536 ≡ b → drop 65536 R' ≡ drop 65536 R
    by false f b e = let r : R' ≡ R = w.room ∙ rw f in ap (drop 65536) r
    by true f true e = let r : R' ≡ R = w.room ∙ rw (f, e) in ap (drop 65536) r
    by true f false e = let r : R' ≡ room_went state p R = w.room ∙ rw (f, e) in ap (drop 65536) r ∙ went state (ltb-false (length R) 65536 e)

-- ---- what is told
-- more is told exactly of refusal 1
pub more_told : (o : Reading) → so_far o ≡ more → refused_with_one o ≡ true
more_told o = by (refused_with_one o) refl
  where
    never : (x : Reading) → told_of x ≡ more → ⊥
    never (got rows used book) e = let z : ◌≡◌ {A = ℕ} 0 1 = cc in omega arith
    never (refused m q) e = let z : ◌≡◌ {A = ℕ} 0 1 = cc in omega arith

    by : (b : Bool) → refused_with_one o ≡ b → cond b more (told_of o) ≡ more → refused_with_one o ≡ true
    by true f e = f
    by false f e = absurd (never o e)

pub told_more : (o : Reading) → refused_with_one o ≡ true → so_far o ≡ more
told_more o e = rw e

-- a refusal told so far is that of the bytes so far
pub refusal_told : (o : Reading) {n p : ℕ} → so_far o ≡ refusal n p → told_of o ≡ refusal n p
refusal_told o {n} {p} = by (refused_with_one o)
  where
    by : (b : Bool) → cond b more (told_of o) ≡ refusal n p → told_of o ≡ refusal n p
    by true e = let z : ◌≡◌ {A = ℕ} 0 1 = cc in absurd (omega arith)
    by false e = e

-- refused, the table is zeros
pub refused_table : (words : ℕ) (o : Reading) → refused_with_one o ≡ true → table_of words o ≡ replicate words 0
refused_table words (got rows used book) e = clash e refl
refused_table words (refused m q) e = refl
