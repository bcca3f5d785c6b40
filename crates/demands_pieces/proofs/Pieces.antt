-- Messages in pieces (request E6). `Went limit state p R T R' T' state'` is the promise of `pieces::next`, for a limit of nesting, a piece p, a room
-- that is R before the call and R' after it, and a table that is T and T'; `Closed` is that of `pieces::end`. `Runs limit ps begun R₀ T₀ state R T`
-- are calls over the pieces ps from `pieces::start` on, each with that one limit, the state as last returned, and one room and table untouched in
-- between. Assumes nothing.
use mathlib.Core.Path.{◌≡◌, refl, sym, ap, ◌∙◌}
use mathlib.Core.Bool.{true, false, true≢false}
use mathlib.Core.Logic.{◌↔◌}
use mathlib.Core.List.{List, [], ◌∷◌, ◌++◌}
use Prim.Native.Nat.{ℕ, ◌≤◌, ◌<◌}
use native.Mathlib.Omega.{arith}
use lib.ListN.{length, take, drop, replicate}
use borrow.Author.Tests.{lt-ltb, eq-eqb, eqb-true}
use Rattle.draft.specs.declared.Refusal.TheVariants.{NoLimit}
use Rattle.draft.specs.Limits.{allowed}
use Rattle.draft.specs.Refusals.{number_of}
use Rattle.draft.specs.Read.{Reading, got, refused}
use Rattle.read_answer.specs.Answers.{reading, table_of}
use Rattle.rereading.specs.Rereading.{refused_with_one}
use Rattle.pieces.specs.declared.PieceRefusal.TheVariants.{Message, ShortRoom}
use Rattle.pieces.specs.declared.State.{State}
use Rattle.pieces.specs.declared.State.TheVariants.{More, Refused}
use Rattle.pieces.specs.Pieces.{joined, outcome, through, room_with, more, refusal, told_of, so_far}
use Rattle.pieces.specs.Steps.{told, Went, Closed}
use Rattle.pieces.specs.Runs.{begun, Runs, none, piece}
use Rattle.cuts.proofs.Outcomes.{whole, wanting_reads, ten_only, outcome_ten, outcome_settled, outcome_through, through_more, through_step, all_joined, joined_append}
use Rattle.cuts.proofs.Holding.{same_room}
use Rattle.cuts.proofs.Calling.{decided_as, Is, waiting, done}
use Rattle.cuts.proofs.Running as run
use Rattle.cuts.proofs.Running.{Ends, Same}

-- a limit of 1 to 32, one in all calls; a room R₀ of at least 65,536 bytes and a table T₀; the calls over some pieces
module _ (limit : ℕ) (ok : allowed limit ≡ true) (R₀ T₀ : List ℕ) (long : 65536 ≤ length R₀) (ps : List (List ℕ)) {state : State} {R T : List ℕ} (calls : Runs limit ps begun R₀ T₀ state R T) where
  -- AFTER EACH PIECE is told what the bytes through the deciding piece come to: more is wanted, or their answer, with the piece that brings it.
  pub after_each : told state ≡ so_far (outcome limit (through limit (length T₀) [] ps) (length T₀))
  after_each = run.is_told (run.run_stands limit ok R₀ T₀ ps long calls).is

  -- and that is what all bytes so far come to
  pub so_far_lem : told state ≡ so_far (outcome limit (joined ps) (length T₀))
  so_far_lem = after_each ∙ ap so_far (outcome_through limit ok (length T₀) ps)

  -- ROOM. It begins with those bytes, cut at 65,536; its rest is as it was.
  pub room_holds : R ≡ room_with (through limit (length T₀) [] ps) R₀
  room_holds = (run.run_stands limit ok R₀ T₀ ps long calls).room

  pub long_still : 65536 ≤ length R
  long_still = omega (arith, ap length room_holds, same_room (through limit (length T₀) [] ps) R₀ long)

  -- MORE is wanted exactly if the bytes so far, read as a whole message, are refused with 1.
  pub more_exactly : (told state ≡ more) ↔ (refused_with_one (reading limit (joined ps) (length T₀)) ≡ true)
  more_exactly =
      let e = wanting_reads limit ok (length T₀) (joined ps) in
      let o = outcome limit (joined ps) (length T₀) in
      (λ h. sym e ∙ run.more_told o (sym so_far_lem ∙ h), λ h. so_far_lem ∙ run.told_more o (e ∙ h))

  -- 10 only if no answer is reached within 65,536 bytes and another byte comes.
  pub ten_told : {p : ℕ} → told state ≡ refusal 10 p → (refused_with_one (reading limit (take 65536 (joined ps)) (length T₀)) ≡ true) × (65536 < length (joined ps))
  ten_told h = ten_only limit ok (length T₀) (joined ps) (run.refusal_told (outcome limit (joined ps) (length T₀)) (sym so_far_lem ∙ h))

  -- and then it is given, at place 0
  pub ten_given : refused_with_one (reading limit (take 65536 (joined ps)) (length T₀)) ≡ true → 65536 < length (joined ps) → told state ≡ refusal 10 0
  ten_given h k = so_far_lem ∙ ap so_far (outcome_ten limit ok (length T₀) (joined ps) h k)

  -- WHOLE. Closed by an end call, for any cut of up to 65,536 bytes, what is told and the table are those of the whole message.
  pub as_whole : {T' : List ℕ} {last : State} → length (joined ps) ≤ 65536 → Closed limit state (length R) T T' last → Ends (reading limit (joined ps) (length T₀)) (length T₀) last T'
  as_whole {T'} {last} few w =
      let n = run.run_stands limit ok R₀ T₀ ps long calls in
      rw (← whole limit ok (length T₀) ps few) (run.end_is limit ok (length T₀) (length R) T T' last long_still n.size n.is w)

-- refused with 1
pub with_one : (o : Reading) → (refused_with_one o ≡ true) ↔ ((place : ℕ) × (told_of o ≡ refusal 1 place))
with_one (got rows used book) = (λ e. absurd (true≢false (sym e)), λ (place, e). let z : ◌≡◌ {A = ℕ} 0 1 = cc in absurd (omega arith))
with_one (refused m q) = (λ e. (q, rw (eqb-true (number_of m) 1 e)), λ (place, e). let i : number_of m ≡ 1 = cc in eq-eqb (number_of m) 1 i)

through_append :
    (limit : ℕ) (ok : allowed limit ≡ true) (words : ℕ) (ps : List (List ℕ)) (s p : List ℕ)
    → through limit words s (ps ++ (p ∷ [])) ≡ through limit words (through limit words s ps) (p ∷ [])
unfolding through
through_append limit ok words [] s p = refl
through_append limit ok words (q ∷ ps) s p =
    through_step limit ok words s q (ps ++ (p ∷ []))
    ∙ through_append limit ok words ps (through limit words s (q ∷ [])) p
    ∙ ap (λ (x : List ℕ). through limit words x (p ∷ [])) (sym (through_step limit ok words s q ps))

-- A piece that comes while more is wanted stands in the room behind those before it.
pub room_next :
    (limit : ℕ) (ok : allowed limit ≡ true) (R₀ T₀ : List ℕ) (long : 65536 ≤ length R₀) (ps : List (List ℕ)) {p R T R' T' : List ℕ} {state state' : State}
    → Runs limit ps begun R₀ T₀ state R T → told state ≡ more → Runs limit (p ∷ []) state R T state' R' T'
    → R' ≡ take 65536 (joined ps ++ p) ++ drop (length (take 65536 (joined ps ++ p))) R₀
unfolding room_with
room_next limit ok R₀ T₀ long ps {p} calls h next =
    let s : List ℕ = through limit (length T₀) [] ps in
    let w = run.more_told (outcome limit s (length T₀)) (sym (after_each limit ok R₀ T₀ long ps calls) ∙ h) in
    let e : through limit (length T₀) [] (ps ++ (p ∷ [])) ≡ joined ps ++ p =
    through_append limit ok (length T₀) ps [] p ∙ through_more limit ok (length T₀) s p w ∙ ap (λ (x : List ℕ). x ++ p) (all_joined limit ok (length T₀) ps w) in
    rw e at (room_holds limit ok R₀ T₀ long (ps ++ (p ∷ [])) (run.run_append calls next))

-- TABLE. After a piece it is that of the outcome, whatever lay there before: the rows and zeros, and zeros while more is wanted.
module _ (limit : ℕ) (ok : allowed limit ≡ true) (R₀ T₀ : List ℕ) (long : 65536 ≤ length R₀) (p : List ℕ) (ps : List (List ℕ)) {state : State} {R T : List ℕ} (calls : Runs limit (p ∷ ps) begun R₀ T₀ state R T) where
  pub table_settled : T ≡ table_of (length T₀) (outcome limit (through limit (length T₀) [] (p ∷ ps)) (length T₀))
  table_settled = (run.run_next limit ok R₀ T₀ long calls).table

  pub table_so_far : T ≡ table_of (length T₀) (outcome limit (joined (p ∷ ps)) (length T₀))
  table_so_far = table_settled ∙ ap (table_of (length T₀)) (outcome_through limit ok (length T₀) (p ∷ ps))

  -- WITH THE PIECE THAT BRINGS IT. Any answer but 1 that the bytes so far have, cut at 65,536, is told, and the table is its table.
  pub brought :
      refused_with_one (reading limit (take 65536 (joined (p ∷ ps))) (length T₀)) ≡ false
      → (told state ≡ told_of (reading limit (take 65536 (joined (p ∷ ps))) (length T₀))) × (T ≡ table_of (length T₀) (reading limit (take 65536 (joined (p ∷ ps))) (length T₀)))
  brought h =
      let e = outcome_settled limit ok (length T₀) (joined (p ∷ ps)) h in
      (so_far_lem limit ok R₀ T₀ long (p ∷ ps) calls ∙ ap so_far e ∙ rw h, table_so_far ∙ ap (table_of (length T₀)) e)

  pub more_zeros : told state ≡ more → T ≡ replicate (length T₀) 0
  more_zeros h =
      let o = outcome limit (joined (p ∷ ps)) (length T₀) in
      table_so_far ∙ run.refused_table (length T₀) o (run.more_told o (sym (so_far_lem limit ok R₀ T₀ long (p ∷ ps) calls) ∙ h))

-- SETTLED by the pieces and the table's length: what lay in room and table before is not told, and is not in the table after.
pub settled :
    (limit : ℕ) (ok : allowed limit ≡ true) (R₀ T₀ : List ℕ) → 65536 ≤ length R₀ → (Q₀ U₀ : List ℕ) → 65536 ≤ length Q₀ → length T₀ ≡ length U₀ → (p : List ℕ) (ps : List (List ℕ))
    {state state' : State} {R T Q U : List ℕ} → Runs limit (p ∷ ps) begun R₀ T₀ state R T → Runs limit (p ∷ ps) begun Q₀ U₀ state' Q U → (told state ≡ told state') × (T ≡ U)
settled limit ok R₀ T₀ long Q₀ U₀ far l p ps x y = (
  so_far_lem limit ok R₀ T₀ long (p ∷ ps) x ∙ rw l (sym (so_far_lem limit ok Q₀ U₀ far (p ∷ ps) y)),
  table_so_far limit ok R₀ T₀ long p ps x ∙ rw l (sym (table_so_far limit ok Q₀ U₀ far p ps y)),
)

-- BYTES WANTED. Of a state that wants more: at most 65,537; and more is wanted still, whatever pieces come, as long as there are fewer bytes.
module _ (limit : ℕ) (ok : allowed limit ≡ true) (R₀ T₀ : List ℕ) (long : 65536 ≤ length R₀) (ps : List (List ℕ)) {held wanted place : ℕ} {R T : List ℕ} (calls : Runs limit ps begun R₀ T₀ (More held wanted place) R T) where
  waits :
      {s : List ℕ} → Is limit s (length T₀) T (More held wanted place)
      → (wanted ≤ 65537) × ((ys : List ℕ) → length (s ++ ys) < wanted → refused_with_one (reading limit (s ++ ys) (length T₀)) ≡ true)
  waits (waiting h o most law zeros) = (most, λ ys l. ap refused_with_one (law ys l))
  waits {s} (done z i t) = absurd (never (outcome limit s (length T₀)) i)
    where
      never : (o : Reading) → More held wanted place ≡ decided_as o → ⊥
      never (got rows used book) e = let x : ◌≡◌ {A = ℕ} 0 1 = cc in omega arith
      never (refused m q) e = let x : ◌≡◌ {A = ℕ} 0 1 = cc in omega arith

  pub wanted_most : wanted ≤ 65537
  wanted_most = (waits (run.run_stands limit ok R₀ T₀ ps long calls).is).0

  pub wanted_waits :
      (qs : List (List ℕ)) {last : State} {R' T' : List ℕ} → Runs limit qs (More held wanted place) R T last R' T' → length (joined ps ++ joined qs) < wanted
      → told last ≡ more
  wanted_waits qs {last} others few =
      let t = all_joined limit ok (length T₀) ps (run.more_told (outcome limit (through limit (length T₀) [] ps) (length T₀)) (sym (after_each limit ok R₀ T₀ long ps calls))) in
      let w = (waits (run.run_stands limit ok R₀ T₀ ps long calls).is).1 in
      let r : refused_with_one (reading limit (joined ps ++ joined qs) (length T₀)) ≡ true = (rw t at w) (joined qs) few in
      (more_exactly limit ok R₀ T₀ long (ps ++ qs) (run.run_append calls others)).1 (rw (joined_append ps qs) r)

-- LATER PIECES change nothing, once accepted or refused: neither the state, nor the room, nor the table.
pub later_run :
    (limit : ℕ) → allowed limit ≡ true → {qs : List (List ℕ)} {state state' : State} {R T R' T' : List ℕ} → (told state ≡ more → ⊥) → 65536 ≤ length R
    → Runs limit qs state R T state' R' T' → Same state state' R R' T T'
later_run limit ok h long none = record { says = refl; room = refl; table = refl }
later_run limit ok {state = state} h long (piece w rest) =
    let d = run.decided_stays limit ok state h long w in
    let i = later_run limit ok (λ e. h (ap told (sym d.says) ∙ e)) (rw d.room long) rest in
    record { says = i.says ∙ d.says; room = i.room ∙ d.room; table = i.table ∙ d.table }

pub later_calls :
    (limit : ℕ) (ok : allowed limit ≡ true) (R₀ T₀ : List ℕ) → 65536 ≤ length R₀ → (ps : List (List ℕ)) {qs : List (List ℕ)} {state state' : State} {R T R' T' : List ℕ}
    → Runs limit ps begun R₀ T₀ state R T → (told state ≡ more → ⊥) → Runs limit qs state R T state' R' T' → (state' ≡ state) × (R' ≡ R) × (T' ≡ T)
later_calls limit ok R₀ T₀ long ps {R = R} calls h next =
    let i = later_run limit ok h (long_still limit ok R₀ T₀ long ps calls) next in
    (i.says, i.room, i.table)

-- any limit, state, room and table
module _ (limit : ℕ) (state : State) {p R T R' T' : List ℕ} {state' : State} (w : Went limit state p R T R' T' state') where
  -- a later piece changes nothing
  pub later_pieces : allowed limit ≡ true → (told state ≡ more → ⊥) → 65536 ≤ length R → Same state state' R R' T T'
  later_pieces ok h long = run.decided_stays limit ok state h long w

  -- PAST 65,536 the room's bytes stay.
  pub past_stays : drop 65536 R' ≡ drop 65536 R
  past_stays = run.past_stays limit state w

  -- 23 before all else, at place 0, for a limit outside 1 to 32: the room unchanged, the table zeros.
  pub no_limit : allowed limit ≡ false → (told state' ≡ refusal 23 0) × (R' ≡ R) × (T' ≡ replicate (length T) 0)
  no_limit h =
      let e : state' ≡ Refused (Message NoLimit) 0 = w.says ∙ rw h in
      (ap told e, w.room ∙ rw h, w.table ∙ rw h)

  -- 4 before all but 23, at place 0, if the room is shorter than 65,536: the room unchanged, the table zeros.
  pub short_room : allowed limit ≡ true → length R < 65536 → (told state' ≡ refusal 4 0) × (R' ≡ R) × (T' ≡ replicate (length T) 0)
  short_room ok h =
      let e : state' ≡ Refused ShortRoom 0 = w.says ∙ rw (ok, lt-ltb (length R) 65536 h) in
      (ap told e, w.room ∙ rw (ok, lt-ltb (length R) 65536 h), w.table ∙ rw (ok, lt-ltb (length R) 65536 h))

-- the same of a call as a run over one piece
pub past_call : (limit : ℕ) {p R T R' T' : List ℕ} {state state' : State} → Runs limit (p ∷ []) state R T state' R' T' → drop 65536 R' ≡ drop 65536 R
past_call limit {state = state} (piece w none) = past_stays limit state w

pub short_call :
    (limit : ℕ) {p R T R' T' : List ℕ} {state state' : State} → allowed limit ≡ true → length R < 65536 → Runs limit (p ∷ []) state R T state' R' T'
    → (told state' ≡ refusal 4 0) × (R' ≡ R) × (T' ≡ replicate (length T) 0)
short_call limit {state = state} ok h (piece w none) = short_room limit state w ok h

-- and in the end call
module _ (limit : ℕ) (state : State) {bytes : ℕ} {T T' : List ℕ} {state' : State} (w : Closed limit state bytes T T' state') where
  pub no_limit_end : allowed limit ≡ false → (told state' ≡ refusal 23 0) × (T' ≡ replicate (length T) 0)
  no_limit_end h =
      let e : state' ≡ Refused (Message NoLimit) 0 = w.says ∙ rw h in
      (ap told e, w.table ∙ rw h)

  pub short_room_end : allowed limit ≡ true → bytes < 65536 → (told state' ≡ refusal 4 0) × (T' ≡ replicate (length T) 0)
  short_room_end ok h =
      let e : state' ≡ Refused ShortRoom 0 = w.says ∙ rw (ok, lt-ltb bytes 65536 h) in
      (ap told e, w.table ∙ rw (ok, lt-ltb bytes 65536 h))
