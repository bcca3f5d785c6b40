-- Calls over the same pieces, with one limit and one room: after each, state, room and table are the same, whatever lay in the tables before, which are equally
-- large. Nothing of this depends on E6's law. Assumes nothing.
use mathlib.Core.Path.{◌≡◌, sym, ◌∙◌}
use mathlib.Core.Bool.{false}
use mathlib.Core.List.{List, ◌∷◌}
use Prim.Native.Nat.{ℕ, ◌+◌}
use native.Mathlib.Omega.{arith}
use lib.Dec.{ltb}
use lib.ListN.{length}
use borrow.Author.Tests.{le-ltb}
use Rattle.room.specs.Room.{taken}
use Rattle.pieces.specs.declared.State.{State}
use Rattle.pieces.specs.Steps.{state_went, room_went, table_went, Went}
use Rattle.pieces.specs.Runs.{begun, Runs, none, piece}

-- state, room and table
pub record Same (a b : State) (R Q T U : List ℕ) : Type 0 where
  pub state : a ≡ b
  pub room : R ≡ Q
  pub table : T ≡ U

-- from the same on, the same
run_same :
    {limit : ℕ} {ps : List (List ℕ)} {a b a' b' : State} {R Q T U R' Q' T' U' : List ℕ} → Same a b R Q T U
    → Runs limit ps a R T a' R' T' → Runs limit ps b Q U b' Q' U' → Same a' b' R' Q' T' U'
run_same s none none = s
run_same s (piece w x) (piece v y) = run_same (stepped s w v) x y
  where
    stepped :
        {limit : ℕ} {p : List ℕ} {a b a' b' : State} {R Q T U R' Q' T' U' : List ℕ} → Same a b R Q T U
        → Went limit a p R T R' T' a' → Went limit b p Q U Q' U' b' → Same a' b' R' Q' T' U'
    stepped s w v =
        record {
          state = w.says ∙ rw (s.state, s.room, s.table) (sym v.says);
          room = w.room ∙ rw (s.state, s.room) (sym v.room);
          table = w.table ∙ rw (s.state, s.room, s.table) (sym v.table);
        }

-- the first piece writes every word of the table
first_same :
    {limit : ℕ} {p : List ℕ} {a b : State} {R T U R' Q' T' U' : List ℕ} → length T ≡ length U
    → Went limit begun p R T R' T' a → Went limit begun p R U Q' U' b → Same a b R' Q' T' U'
unfolding state_went room_went table_went
first_same {p = p} l w v =
    let e : ltb (0 + taken 0 p) 0 ≡ false = le-ltb (0 + taken 0 p) 0 (omega arith) in
    record {
      state = w.says ∙ rw l (sym v.says);
      room = w.room ∙ sym v.room;
      table = w.table ∙ rw (e, l) (sym (rw e at v.table));
    }

pub runs_same :
    {limit : ℕ} {p : List ℕ} {ps : List (List ℕ)} {a b : State} {R T U R' Q' T' U' : List ℕ} → length T ≡ length U
    → Runs limit (p ∷ ps) begun R T a R' T' → Runs limit (p ∷ ps) begun R U b Q' U' → Same a b R' Q' T' U'
runs_same l (piece w x) (piece v y) = run_same (first_same l w v) x y
