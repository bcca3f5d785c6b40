-- What each call does: a law for each return. Assumes nothing.
use mathlib.Core.Path.{◌≡◌, sym, ◌∙◌}
use mathlib.Core.Bool.{Bool, true, false}
use mathlib.Core.List.{List}
use Prim.Native.Nat.{ℕ, ◌+◌, ◌-◌, ◌≤◌, ◌<◌}
use native.Mathlib.Omega.{arith}
use lib.ListN.{length, take, drop, replicate}
use borrow.Author.Tests.{lt-ltb, le-ltb, eq-eqb, ne_eqb}
use Rattle.draft.specs.declared.Refusal.{Refusal}
use Rattle.draft.specs.declared.Refusal.TheVariants.{Ended, TooLong, NoLimit}
use Rattle.draft.specs.Refusals.{number_of, refusal_of}
use Rattle.draft.specs.Limits.{allowed}
use Rattle.draft.specs.Read.{Reading, got, refused}
use Rattle.draft.proofs.Limiting.{limit_is}
use Rattle.read_answer.specs.declared.Answer.{Answer}
use Rattle.read_answer.specs.declared.Answer.TheVariants as answer
use Rattle.read_answer.specs.Answers.{reading, answer_of}
use Rattle.rereading.specs.Rereading.{table_read, Reread}
use Rattle.room.specs.Room.{taken, Held}
use Rattle.pieces.specs.declared.PieceRefusal.{PieceRefusal}
use Rattle.pieces.specs.declared.PieceRefusal.TheVariants.{Message, ShortRoom}
use Rattle.pieces.specs.declared.State.{State}
use Rattle.pieces.specs.declared.State.TheVariants.{More, Accepted, Refused}
use Rattle.pieces.specs.Steps.{refusal_for, still_more, wanted_of, state_of, bytes_held, state_went, room_went, table_went, Settled, Went, Closed}

module _ (n : ℕ) where
  pub number_short : n ≡ 4 → ShortRoom ≡ refusal_for n
  number_short e = rw e

  pub number_message : (m : Refusal) → (n ≡ 4 → ⊥) → m ≡ refusal_of n → Message m ≡ refusal_for n
  number_message m h e = rw (ne_eqb _ _ h, e)

module _ (held n wanted place : ℕ) where
  pub still_over : 65536 - held < n → Refused (Message TooLong) 0 ≡ still_more held n wanted place
  still_over h = rw (lt-ltb _ _ h)

  pub still_more_lem : n ≤ 65536 - held → More (held + n) wanted place ≡ still_more held n wanted place
  still_more_lem h = rw (le-ltb _ _ h)

-- a state after reading, by what is read
module _ (held n : ℕ) (s : List ℕ) (o : Reading) (a : Answer) (d : a ≡ answer_of o) where
  state_accepted : (rows used : ℕ) → a ≡ answer.Accepted rows used → Accepted rows used ≡ state_of held n s o
  state_accepted rows used e = of o (sym e ∙ d)
    where
      of : (x : Reading) → answer.Accepted rows used ≡ answer_of x → Accepted rows used ≡ state_of held n s x
      of (got r u b) h = cc
      of (refused m p) h = cc

  module _ (m : Refusal) (q : ℕ) (e : a ≡ answer.Refused m q) where
    is_refused : o ≡ refused m q
    is_refused = of o (sym e ∙ d)
      where
        of : (x : Reading) → answer.Refused m q ≡ answer_of x → x ≡ refused m q
        of (got r u b) h = cc
        of (refused m' p) h = cc

    state_more : (w : ℕ) (state : State) → number_of m ≡ 1 → w ≡ wanted_of s q → state ≡ still_more held n w q → state ≡ state_of held n s o
    state_more w state j g h = rw (is_refused, eq-eqb _ _ j, ← g) h

    state_refused : (number_of m ≡ 1 → ⊥) → Refused (Message m) q ≡ state_of held n s o
    state_refused f = rw (is_refused, ne_eqb _ _ f)

-- an answer a to the bytes held
module _ (limit held n wanted : ℕ) (s T T' : List ℕ) (a : Answer) (d : Reread limit s T (table_read limit wanted s T) T' a) where
  pub settle_accepted : (rows used : ℕ) → a ≡ answer.Accepted rows used → Settled limit held n wanted s T T' (Accepted rows used)
  settle_accepted rows used e = record { says = state_accepted held n s (reading limit s (length T)) a d.says rows used e; table = d.leaves }

  module _ (m : Refusal) (q x : ℕ) (e : a ≡ answer.Refused m q) (i : x ≡ number_of m) where
    pub settle_more : (w : ℕ) (state : State) → x ≡ 1 → w ≡ wanted_of s q → state ≡ still_more held n w q → Settled limit held n wanted s T T' state
    settle_more w state f g h =
        record { says = state_more held n s (reading limit s (length T)) a d.says m q e w state (sym i ∙ f) g h; table = d.leaves }

    pub settle_refused : (x ≡ 1 → ⊥) → Settled limit held n wanted s T T' (Refused (Message m) q)
    settle_refused f =
        record { says = state_refused held n s (reading limit s (length T)) a d.says m q e (λ (z : number_of m ≡ 1). f (i ∙ z)); table = d.leaves }

-- more is wanted, and the room is long enough
module _ (limit held wanted place : ℕ) (p R T : List ℕ) (long : 65536 ≤ length R) (q : allowed limit ≡ true) where
  pub went_over : 65536 < held → Went limit (More held wanted place) p R T R T (Refused (Message TooLong) 0)
  unfolding state_went room_went table_went
  went_over h =
      record {
        says = rw (q, le-ltb _ _ long, lt-ltb _ _ h);
        room = rw (q, le-ltb _ _ long, lt-ltb _ _ h);
        table = rw (q, le-ltb _ _ long, lt-ltb _ _ h);
      }

  module _ (R' : List ℕ) (n : ℕ) (state : State) (h : held ≤ 65536) (d : Held held p R R' n) where
    pub went_still : n < wanted → state ≡ still_more held (length p) wanted place → Went limit (More held wanted place) p R T R' T state
    unfolding state_went room_went table_went
    went_still l e =
        let w : held + taken held p < wanted = rw d.now at l in
        record {
          says = simp (q, le-ltb _ _ long, le-ltb _ _ h, lt-ltb _ _ w) e;
          room = simp (q, le-ltb _ _ long, le-ltb _ _ h) d.room;
          table = simp (q, le-ltb _ _ long, le-ltb _ _ h, lt-ltb _ _ w);
        }

    pub went_read :
        (T' : List ℕ) → wanted ≤ n → Settled limit held (length p) wanted (take (n - 0) (drop 0 R')) T T' state → Went limit (More held wanted place) p R T R' T' state
    unfolding state_went room_went table_went
    went_read T' l e =
        let w : wanted ≤ held + taken held p = rw d.now at l in
        let z : n - 0 ≡ held + taken held p = omega (arith, d.now) in
        let c : take (n - 0) R' ≡ bytes_held held p R = rw (z, d.room) in
        record {
          says = simp (q, le-ltb _ _ long, le-ltb _ _ h, le-ltb _ _ w) (rw c at e.says);
          room = simp (q, le-ltb _ _ long, le-ltb _ _ h) d.room;
          table = simp (q, le-ltb _ _ long, le-ltb _ _ h, le-ltb _ _ w) (rw c at e.table);
        }

-- a piece, by the state
module _ (limit : ℕ) (state : State) (p R T : List ℕ) where
  pub next_unlimited : (X : List ℕ) {b : Bool} → b ≡ allowed limit → b ≡ false → X ≡ replicate (length T) 0 → Went limit state p R T R X (Refused (Message NoLimit) 0)
  next_unlimited X g i e = let q : allowed limit ≡ false = sym g ∙ i in record { says = simp q; room = simp q; table = simp q e }

  pub next_short : (X : List ℕ) → allowed limit ≡ true → length R < 65536 → X ≡ replicate (length T) 0 → Went limit state p R T R X (Refused ShortRoom 0)
  next_short X i h e = record { says = simp (i, lt-ltb _ _ h); room = simp (i, lt-ltb _ _ h); table = simp (i, lt-ltb _ _ h) e }

  pub next_more :
      (held wanted place : ℕ) (R' T' : List ℕ) (r : State) → state ≡ More held wanted place → Went limit (More held wanted place) p R T R' T' r
      → Went limit state p R T R' T' r
  next_more held wanted place R' T' r e w = rw e w

  pub next_accepted : (rows used : ℕ) → allowed limit ≡ true → 65536 ≤ length R → state ≡ Accepted rows used → Went limit state p R T R T (Accepted rows used)
  unfolding state_went room_went table_went
  next_accepted rows used i h e = rw e (record { says = simp (i, le-ltb _ _ h); room = simp (i, le-ltb _ _ h); table = simp (i, le-ltb _ _ h) })

  pub next_refused : (m : PieceRefusal) (q : ℕ) → allowed limit ≡ true → 65536 ≤ length R → state ≡ Refused m q → Went limit state p R T R T (Refused m q)
  unfolding state_went room_went table_went
  next_refused m q i h e = rw e (record { says = simp (i, le-ltb _ _ h); room = simp (i, le-ltb _ _ h); table = simp (i, le-ltb _ _ h) })

-- the end, by the state
module _ (limit : ℕ) (state : State) (bytes : ℕ) (T : List ℕ) where
  pub end_unlimited : (X : List ℕ) {b : Bool} → b ≡ allowed limit → b ≡ false → X ≡ replicate (length T) 0 → Closed limit state bytes T X (Refused (Message NoLimit) 0)
  end_unlimited X g i e = let q : allowed limit ≡ false = sym g ∙ i in record { says = simp q; table = simp q e }

  pub end_short : (X : List ℕ) → allowed limit ≡ true → bytes < 65536 → X ≡ replicate (length T) 0 → Closed limit state bytes T X (Refused ShortRoom 0)
  end_short X i h e = record { says = simp (i, lt-ltb _ _ h); table = simp (i, lt-ltb _ _ h) e }

  pub end_more :
      (held wanted place : ℕ) (X : List ℕ) → allowed limit ≡ true → 65536 ≤ bytes → state ≡ More held wanted place → X ≡ replicate (length T) 0
      → Closed limit state bytes T X (Refused (Message Ended) place)
  end_more held wanted place X i h e x = rw e (record { says = simp (i, le-ltb _ _ h); table = simp (i, le-ltb _ _ h) x })

  pub end_accepted : (rows used : ℕ) → allowed limit ≡ true → 65536 ≤ bytes → state ≡ Accepted rows used → Closed limit state bytes T T (Accepted rows used)
  end_accepted rows used i h e = rw e (record { says = simp (i, le-ltb _ _ h); table = simp (i, le-ltb _ _ h) })

  pub end_refused : (m : PieceRefusal) (q : ℕ) → allowed limit ≡ true → 65536 ≤ bytes → state ≡ Refused m q → Closed limit state bytes T T (Refused m q)
  end_refused m q i h e = rw e (record { says = simp (i, le-ltb _ _ h); table = simp (i, le-ltb _ _ h) })

pub ruleset piecing = (number_short, number_message, still_over, still_more_lem, settle_accepted, settle_more, settle_refused, went_over, went_still, went_read, limit_is, next_unlimited, end_unlimited, next_short, next_more, next_accepted, next_refused, end_short, end_more, end_accepted, end_refused)
