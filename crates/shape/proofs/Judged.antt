-- A table that was judged writable has the rows that it states. Assumes nothing.
use Prim.Native.Nat.{ℕ, ◌*◌, ◌≤◌}
use mathlib.Core.Path.{◌≡◌, sym, ◌∙◌}
use mathlib.Core.Bool.{Bool, true}
use mathlib.Core.List.{List}
use native.Mathlib.Omega.{arith}
use lib.ListN.{length}
use lib.Dec.{leb}
use borrow.Author.Tests.{leb-true}
use Rattle.draft.specs.Table.{room_of}
use Rattle.draft.specs.Writable.{writable_within, writable_to, writable}
use Rattle.text.proofs.Comparing.{both}
use Rattle.extents.specs.Asked.{Ready}

pub ready_is : (limit : ℕ) (T : List ℕ) (rows : ℕ) {room : ℕ} (s : List ℕ) {b : Bool} → b ≡ writable_to limit T rows s → b ≡ true → room ≡ room_of 4096 (length T) → Ready rows room (length T)
unfolding writable_to writable_within
ready_is limit T rows {room} s e f g =
    let p = both (leb (length s) 65536) _ (sym e ∙ f) in
    let q = both (leb 1 rows) _ p.1 in
    let u = both (leb rows 4096) _ q.1 in
    let v = both (leb (rows * 4) (length T)) _ u.1 in
    let m : rows ≤ 4096 = leb-true rows 4096 u.0 in
    let w : rows * 4 ≤ length T = leb-true (rows * 4) (length T) v.0 in
    record { stated = omega (arith, g); most = omega (arith, g); table = omega (arith, g) }

-- of a table that was judged at 32
pub ready_judged : (T : List ℕ) (rows : ℕ) {room : ℕ} (s : List ℕ) {b : Bool} → b ≡ writable T rows s → b ≡ true → room ≡ room_of 4096 (length T) → Ready rows room (length T)
unfolding writable writable_to
ready_judged T rows s e f g = ready_is 32 T rows s e f g

-- the same, one by one
module _ (T : List ℕ) (rows : ℕ) (s : List ℕ) {b : Bool} (e : b ≡ writable T rows s) (f : b ≡ true) {room : ℕ} (g : room ≡ room_of 4096 (length T)) where
  pub rows_stated : rows ≤ room
  rows_stated = (ready_judged T rows s e f g).stated

  pub room_most : room ≤ 4096
  room_most = (ready_judged T rows s e f g).most

  pub room_inside : room * 4 ≤ length T
  room_inside = (ready_judged T rows s e f g).table
