-- A call with a piece, from a state that stands for the bytes so far to one that stands for them and the piece. Assumes nothing.
use mathlib.Core.Path.{◌≡◌, refl, sym, ◌∙◌, ap}
use mathlib.Core.Bool.{Bool, true, false, ◌&&◌, cond}
use mathlib.Core.List.{List, [], ◌∷◌, ◌++◌, append_assoc}
use Prim.Native.Nat.{ℕ, ◌+◌, ◌-◌, ◌*◌, ◌/◌, ◌≤◌, ◌<◌}
use native.Mathlib.Omega.{arith}
use lib.ListN.{length, take, drop, replicate, length-append, length-replicate, replicate-append-replicate}
use lib.Seq.{drop_at}
use lib.Dec.{ltb}
use borrow.Author.Tests.{le-ltb, ltb-true, ltb-false}
use Rattle.draft.specs.declared.Refusal.TheVariants.{Ended, TooLong}
use Rattle.draft.specs.Limits.{allowed}
use Rattle.draft.specs.Read.{Reading, got, refused}
use Rattle.read_answer.specs.Answers.{reading, table_of}
use Rattle.rereading.specs.Rereading.{refused_with_one, table_read}
use Rattle.rereading.proofs.Words.{length_table, more_words}
use Rattle.room.specs.Room.{taken}
use Rattle.pieces.specs.declared.PieceRefusal.TheVariants.{Message}
use Rattle.pieces.specs.declared.State.{State}
use Rattle.pieces.specs.declared.State.TheVariants.{More, Accepted, Refused}
use Rattle.pieces.specs.Pieces.{outcome, wanting, through, room_with}
use Rattle.pieces.specs.Steps.{still_more, wanted_of, state_of, state_went, room_went, table_went, Went}
use Rattle.cuts.proofs.Outcomes.{View, cut_short, other, view, stays_cut, within, outcome_over, outcome_settled, wanting_within, through_more, through_done}
use Rattle.cuts.proofs.Holding.{cut, length_cut, room_next, held_next, fits}

-- the state of a reading that decides
abbrev pub decided_as : Reading → State
decided_as (got rows used book) = Accepted (length rows) used
decided_as (refused m place) = Refused (Message m) place

-- a state, against the bytes through the deciding piece. Of `wanted` it says: with fewer bytes, whatever they are, nothing changes, and it is at
-- most 65,537
pub data Is (limit : ℕ) (s : List ℕ) (words : ℕ) (T : List ℕ) : State → Type 0 where
  waiting :
      {held wanted q : ℕ} → held ≡ length s → outcome limit s words ≡ refused Ended q → wanted ≤ 65537
      → ((ys : List ℕ) → length (s ++ ys) < wanted → reading limit (s ++ ys) words ≡ refused Ended q)
      → (0 < wanted → T ≡ replicate words 0) → Is limit s words T (More held wanted q)
  done : {state : State} → wanting limit s words ≡ false → state ≡ decided_as (outcome limit s words) → T ≡ table_of words (outcome limit s words) → Is limit s words T state

-- and with the table that the outcome has
pub record Known (limit : ℕ) (s : List ℕ) (words : ℕ) (T : List ℕ) (state : State) : Type 0 where
  pub is : Is limit s words T state
  pub table : T ≡ table_of words (outcome limit s words)

known_done : (limit : ℕ) (s : List ℕ) (words : ℕ) (T : List ℕ) (o : Reading) → outcome limit s words ≡ o → refused_with_one o ≡ false → T ≡ table_of words o → Known limit s words T (decided_as o)
known_done limit s words T o e f t =
    let z : T ≡ table_of words (outcome limit s words) = rw e t in
    record { is = done (ap refused_with_one e ∙ f) (ap decided_as (sym e)) z; table = z }

module _ (limit : ℕ) (ok : allowed limit ≡ true) (s p : List ℕ) (words : ℕ) (short : length s ≤ 65536) where
  outcome_fits : length p ≤ 65536 - length s → outcome limit (s ++ p) words ≡ reading limit (take 65536 (s ++ p)) words
  outcome_fits h = within limit ok words (s ++ p) (omega (arith, length-append s p)) ∙ ap (λ (x : List ℕ). reading limit x words) (sym (fits s p [] short h))

  over_by : 65536 - length s < length p → 65536 < length (s ++ p)
  over_by h = omega (arith, length-append s p)

  ten :
      (T : List ℕ) {q : ℕ} → reading limit (take 65536 (s ++ p)) words ≡ refused Ended q → T ≡ replicate words 0 → 65536 - length s < length p
      → Known limit (s ++ p) words T (Refused (Message TooLong) 0)
  ten T e z h = known_done limit (s ++ p) words T (refused TooLong 0) (outcome_over limit ok words (s ++ p) (over_by h) e) refl z

  -- fewer bytes are held than are wanted: nothing is read
  skipped :
      (wanted q : ℕ) (T : List ℕ) → wanted ≤ 65537
      → ((ys : List ℕ) → length (s ++ ys) < wanted → reading limit (s ++ ys) words ≡ refused Ended q) → T ≡ replicate words 0
      → length s + taken (length s) p < wanted → Known limit (s ++ p) words T (still_more (length s) (length p) wanted q)
  skipped wanted q T most law zeros h = by (ltb (65536 - length s) (length p)) refl
    where
      here : reading limit (take 65536 (s ++ p)) words ≡ refused Ended q
      here =
          rw (cut s p [] short)
          (law (take (taken (length s) p) p) (omega (arith, ap length (cut s p [] short), length_cut s p [] short)))

      by :
          (b : Bool) → ltb (65536 - length s) (length p) ≡ b
          → Known limit (s ++ p) words T (cond b (Refused (Message TooLong) 0) (More (length s + length p) wanted q))
      by true e = ten T here zeros (ltb-true _ _ e)
      by false e =
          let o : outcome limit (s ++ p) words ≡ refused Ended q = outcome_fits (ltb-false _ _ e) ∙ here in
          record {
            is =
                waiting {wanted = wanted} (sym (length-append s p)) o most
                (λ ys l. rw (append_assoc s p ys) (law (p ++ ys) (rw (append_assoc s p ys) at l))) (λ k. zeros);
            table = rw o zeros;
          }

  -- all that is held is read
  again :
      (T : List ℕ) → T ≡ table_of words (reading limit (take 65536 (s ++ p)) words)
      → Known limit (s ++ p) words T (state_of (length s) (length p) (take 65536 (s ++ p)) (reading limit (take 65536 (s ++ p)) words))
  again T t = of (reading limit (take 65536 (s ++ p)) words) (view (reading limit (take 65536 (s ++ p)) words)) refl (ltb (65536 - length s) (length p)) refl
    where
      settled : (o : Reading) → refused_with_one o ≡ false → state_of (length s) (length p) (take 65536 (s ++ p)) o ≡ decided_as o
      settled (got rows used book) f = refl
      settled (refused m q) f = rw f

      of :
          (o : Reading) → View o → reading limit (take 65536 (s ++ p)) words ≡ o → (b : Bool) → ltb (65536 - length s) (length p) ≡ b
          → Known limit (s ++ p) words T (state_of (length s) (length p) (take 65536 (s ++ p)) o)
      of _ (cut_short {q = q}) e true f =
          let z : T ≡ replicate words 0 = rw e at t in
          rw f (ten T e z (ltb-true _ _ f))
      of _ (cut_short {q = q}) e false f =
          let g = fits s p [] short (ltb-false _ _ f) in
          let x : outcome limit (s ++ p) words ≡ refused Ended q = outcome_fits (ltb-false _ _ f) ∙ e in
          let z : T ≡ replicate words 0 = rw e at t in
          let r : reading limit (s ++ p) words ≡ refused Ended q = rw g at e in
          rw f
          (rw g
          (record {
            is = waiting {wanted = wanted_of (s ++ p) q} (sym (length-append s p)) x (omega arith) (λ ys l. stays_cut limit ok words (s ++ p) ys (omega (arith, l)) q r (omega (arith, l))) (λ k. z);
            table = rw x z;
          }))
      of o (other h) e b f =
          let i : refused_with_one (reading limit (take 65536 (s ++ p)) words) ≡ false = ap refused_with_one e ∙ h in
          let z : T ≡ table_of words o = rw e at t in
          rw (settled o h) (known_done limit (s ++ p) words T o (outcome_settled limit ok words (s ++ p) i ∙ e) h z)

-- ---- the calls
-- the room begins with the bytes so far, and the table has its length
pub record Stands (limit : ℕ) (s R₀ : List ℕ) (words : ℕ) (state : State) (R T : List ℕ) : Type 0 where
  pub room : R ≡ room_with s R₀
  pub size : length T ≡ words
  pub is : Is limit s words T state

-- what a call does where the room is long enough
pub record Plain (limit : ℕ) (state : State) (p R T R' T' : List ℕ) (state' : State) : Type 0 where
  pub says : state' ≡ state_went limit state p R (length T)
  pub room : R' ≡ room_went state p R
  pub table : T' ≡ table_went limit state p R T

pub plain :
    (limit : ℕ) (ok : allowed limit ≡ true) (state : State) (p R T R' T' : List ℕ) (state' : State) → 65536 ≤ length R → Went limit state p R T R' T' state' → Plain limit state p R T R' T' state'
plain limit ok state p R T R' T' state' h w =
    record {
      says = simp (ok, le-ltb _ _ h) at w.says;
      room = simp (ok, le-ltb _ _ h) at w.room;
      table = simp (ok, le-ltb _ _ h) at w.table;
    }

abbrev zeros : ℕ → List ℕ
zeros n = replicate n 0

-- k zeros, and what stands behind them in so many
zeros_behind : (k words : ℕ) → k ≤ words → zeros k ++ drop k (zeros words) ≡ zeros words
zeros_behind k words h =
    let e : words ≡ k + (words - k) = omega arith in
    let r : zeros words ≡ zeros k ++ zeros (words - k) = ap zeros e ∙ sym (replicate-append-replicate k (words - k) 0) in
    let d : drop k (zeros k ++ zeros (words - k)) ≡ zeros (words - k) = drop_at (zeros k) (zeros (words - k)) k (length-replicate k 0) in
    ap (λ (l : List ℕ). zeros k ++ drop k l) r ∙ ap (λ (l : List ℕ). zeros k ++ l) d ∙ sym r

-- however many words are tried first: once they are zeros, the table is the reading's
read_table :
    (limit wanted : ℕ) (s T : List ℕ) (words : ℕ) → length T ≡ words → (0 < wanted → T ≡ zeros words) → table_read limit wanted s T ≡ table_of words (reading limit s words)
read_table limit wanted s T words l cleared =
    rw l (by (ltb 0 wanted) refl (ltb (length s) (words / 4)) refl (reading limit s (4 * length s)) (view (reading limit s (4 * length s))) refl)
  where
    full : List ℕ
    full = table_of words (reading limit s words)

    by :
        (x : Bool) → ltb 0 wanted ≡ x → (y : Bool) → ltb (length s) (words / 4) ≡ y → (o : Reading) → View o → reading limit s (4 * length s) ≡ o
        → cond (x && y) (cond (refused_with_one o) (replicate (4 * length s) 0 ++ drop (4 * length s) T) full) full ≡ full
    by false e y f o v g = refl
    by true e false f o v g = refl
    by true e true f _ (cut_short {q = q}) g =
        let k : 4 * length s ≤ words = omega (arith, ltb-true (length s) (words / 4) f) in
        let z : T ≡ zeros words = cleared (ltb-true 0 wanted e) in
        let r : reading limit s words ≡ refused Ended q = more_words limit s (4 * length s) words k g refl in
        rw (z, r) (zeros_behind (4 * length s) words k)
    by true e true f o (other h) g = rw h

-- a piece where more is wanted
module _ (limit : ℕ) (s p R₀ : List ℕ) (wanted q : ℕ) (T : List ℕ) (short : length s ≤ 65536) where
  says_more :
      (words : ℕ)
      → state_went limit (More (length s) wanted q) p (room_with s R₀) words
      ≡ cond (ltb (length s + taken (length s) p) wanted) (still_more (length s) (length p) wanted q)
      (state_of (length s) (length p) (take 65536 (s ++ p)) (reading limit (take 65536 (s ++ p)) words))
  unfolding state_went
  says_more words = simp (le-ltb _ _ short) (rw (room_next s p R₀ short, held_next s p R₀ short))

  table_more :
      table_went limit (More (length s) wanted q) p (room_with s R₀) T
      ≡ cond (ltb (length s + taken (length s) p) wanted) T (table_read limit wanted (take 65536 (s ++ p)) T)
  unfolding table_went
  table_more = simp (le-ltb _ _ short) (rw (room_next s p R₀ short, held_next s p R₀ short))

  room_more : room_went (More (length s) wanted q) p (room_with s R₀) ≡ room_with (s ++ p) R₀
  unfolding room_went
  room_more = simp (le-ltb _ _ short) (room_next s p R₀ short)

-- what stands after a call: the same against one piece more, and the table is that of the outcome
pub record Next (limit : ℕ) (s R₀ : List ℕ) (words : ℕ) (state : State) (R T : List ℕ) : Type 0 where
  pub stands : Stands limit s R₀ words state R T
  pub table : T ≡ table_of words (outcome limit s words)

step_more :
    (limit : ℕ) (ok : allowed limit ≡ true) (s p R₀ : List ℕ) (words wanted q : ℕ) (T R' T' : List ℕ) (state : State)
    → length T ≡ words → outcome limit s words ≡ refused Ended q → wanted ≤ 65537
    → ((ys : List ℕ) → length (s ++ ys) < wanted → reading limit (s ++ ys) words ≡ refused Ended q)
    → (0 < wanted → T ≡ replicate words 0) → Plain limit (More (length s) wanted q) p (room_with s R₀) T R' T' state
    → Next limit (s ++ p) R₀ words state R' T'
step_more limit ok s p R₀ words wanted q T R' T' state l o most law zeros w = by (ltb (length s + taken (length s) p) wanted) refl
  where
    short : length s ≤ 65536
    short = wanting_within limit ok words s (ap refused_with_one o)

    by : (b : Bool) → ltb (length s + taken (length s) p) wanted ≡ b → Next limit (s ++ p) R₀ words state R' T'
    by true e =
        let h : length s + taken (length s) p < wanted = ltb-true _ _ e in
        let a : state ≡ still_more (length s) (length p) wanted q = w.says ∙ says_more limit s p R₀ wanted q T short (length T) ∙ rw e in
        let t : T' ≡ T = w.table ∙ table_more limit s p R₀ wanted q T short ∙ rw e in
        let k : Known limit (s ++ p) words T (still_more (length s) (length p) wanted q)
        = skipped limit ok s p words short wanted q T most law (zeros (omega arith)) h in
        rw (a, t) (record { stands = record { room = w.room ∙ room_more limit s p R₀ wanted q T short; size = l; is = k.is }; table = k.table })
    by false e =
        let a : state ≡ state_of (length s) (length p) (take 65536 (s ++ p)) (reading limit (take 65536 (s ++ p)) words)
        = w.says ∙ says_more limit s p R₀ wanted q T short (length T) ∙ rw (e, l) in
        let t : T' ≡ table_of words (reading limit (take 65536 (s ++ p)) words)
        = w.table ∙ table_more limit s p R₀ wanted q T short ∙ rw e (read_table limit wanted (take 65536 (s ++ p)) T words l zeros) in
        let k : Known limit (s ++ p) words T' (state_of (length s) (length p) (take 65536 (s ++ p)) (reading limit (take 65536 (s ++ p)) words))
        = again limit ok s p words short T' t in
        rw a
        (record {
          stands = record {
            room = w.room ∙ room_more limit s p R₀ wanted q T short;
            size = ap length t ∙ length_table words (reading limit (take 65536 (s ++ p)) words);
            is = k.is;
          };
          table = k.table;
        })

-- a decided state stays
module _ (limit : ℕ) (o : Reading) (p R : List ℕ) where
  state_done : (words : ℕ) → state_went limit (decided_as o) p R words ≡ decided_as o
  unfolding state_went
  state_done words = by o
    where
      by : (x : Reading) → state_went limit (decided_as x) p R words ≡ decided_as x
      by (got rows used book) = refl
      by (refused m q) = refl

  room_done : room_went (decided_as o) p R ≡ R
  unfolding room_went
  room_done = by o
    where
      by : (x : Reading) → room_went (decided_as x) p R ≡ R
      by (got rows used book) = refl
      by (refused m q) = refl

  table_done : (T : List ℕ) → table_went limit (decided_as o) p R T ≡ T
  unfolding table_went
  table_done T = by o
    where
      by : (x : Reading) → table_went limit (decided_as x) p R T ≡ T
      by (got rows used book) = refl
      by (refused m q) = refl

pub step :
    (limit : ℕ) (ok : allowed limit ≡ true) (s p R₀ : List ℕ) (words : ℕ) {state : State} (R T R' T' : List ℕ) (state' : State)
    → R ≡ room_with s R₀ → length T ≡ words → Is limit s words T state → Plain limit state p R T R' T' state'
    → Next limit (through limit words s (p ∷ [])) R₀ words state' R' T'
step limit ok s p R₀ words R T R' T' state' e l (waiting {held = held} {wanted = wanted} {q = q} h o most law zeros) w =
    let v : Plain limit (More (length s) wanted q) p (room_with s R₀) T R' T' state' = rw (h, e) at w in
    rw (through_more limit ok words s p (ap refused_with_one o)) (step_more limit ok s p R₀ words wanted q T R' T' state' l o most law zeros v)
step limit ok s p R₀ words R T R' T' state' e l (done {state = state} z i t) w =
    let v : Plain limit (decided_as (outcome limit s words)) p R T R' T' state' = rw i at w in
    let a : state' ≡ decided_as (outcome limit s words) = v.says ∙ state_done limit (outcome limit s words) p R (length T) in
    let b : R' ≡ R = v.room ∙ room_done limit (outcome limit s words) p R in
    let c : T' ≡ T = v.table ∙ table_done limit (outcome limit s words) p R T in
    rw (through_done limit ok words s (p ∷ []) z, b, c)
    (record { stands = record { room = e; size = l; is = done z a t }; table = t })
