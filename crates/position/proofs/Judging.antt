-- What answers the returns of a position's function: the table is judged once for three lookups. Assumes nothing.
use mathlib.Core.Path.{◌≡◌}
use mathlib.Core.Bool.{Bool, true, false}
use mathlib.Core.List.{List}
use Prim.Native.Nat.{ℕ}
use lib.ListN.{length}
use Rattle.draft.specs.Bytes.{bytes}
use Rattle.draft.specs.Table.{room_of, row_at}
use Rattle.draft.specs.Writable.{writable}
use Rattle.lookup_answer.specs.declared.Refusal.TheVariants.{NotWritable}
use Rattle.lookup_answer.specs.Answers.{Answer, look}
use Rattle.lookup.proofs.Looking.{writable_answer, unwritable_answer}
use Rattle.placing.specs.declared.Placed.{Placed}
use Rattle.placing.specs.Placing.{refused_with, is_any, together, settled, position}

module _ (T : List ℕ) (rows : ℕ) (s : List ℕ) (r : ℕ) {b : Bool} (e : b ≡ writable T rows s) where
  pub three_answers : {room : ℕ} {x y turn : Answer} {p : Placed} → b ≡ true → room ≡ room_of 4096 (length T) → x ≡ look (row_at room T) rows s r (bytes "x") → y ≡ look (row_at room T) rows s r (bytes "y") → turn ≡ look (row_at room T) rows s r (bytes "turn") → p ≡ settled x y turn → p ≡ position T rows s r
  unfolding position
  three_answers f g ex ey et ep =
      rw (← writable_answer T rows s e f g r (bytes "x") ex, ← writable_answer T rows s e f g r (bytes "y") ey, ← writable_answer T rows s e f g r (bytes "turn") et) ep

  pub three_refused : {p : Placed} → b ≡ false → p ≡ refused_with NotWritable → p ≡ position T rows s r
  unfolding position settled together is_any
  three_refused f ep = rw (← unwritable_answer T rows s e r (bytes "x") f) ep

pub ruleset placing = (three_answers, three_refused)
