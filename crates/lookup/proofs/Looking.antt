-- What answers the goals of the functions that look a member up. Assumes nothing.
use mathlib.Core.Path.{◌≡◌}
use mathlib.Core.Bool.{Bool, true, false}
use mathlib.Core.List.{List}
use Prim.Native.Nat.{ℕ}
use lib.ListN.{length}
use Rattle.std.specs.Prelude.{Option, Some, None, Err}
use Rattle.draft.specs.declared.Row as R
use Rattle.draft.specs.Table.{room_of, row_at}
use Rattle.draft.specs.Writable.{writable}
use Rattle.member.specs.declared.Member.{Member}
use Rattle.member.specs.Members.{members, find}
use Rattle.shape.proofs.Judged.{rows_stated, room_most, room_inside}
use Rattle.lookup_answer.specs.declared.Refusal.TheVariants as why
use Rattle.lookup_answer.specs.Answers.{Answer, answer_at, look, lookup}

-- ---- by what was found

module _ (row : ℕ → R.Row) (rows : ℕ) (s : List ℕ) (r : ℕ) (key : List ℕ) {f : Option Member} (e : f ≡ find row s key (members row rows r)) where
  pub found_answer_lem : {m : Member} {a : Answer} → f ≡ Some m → a ≡ answer_at row s m.value → a ≡ look row rows s r key
  unfolding look
  found_answer_lem g h = rw (← e, g, h)

  pub absent_answer : f ≡ None → Err why.NoMember ≡ look row rows s r key
  unfolding look
  absent_answer g = rw (← e, g)

-- ---- by the table

module _ (T : List ℕ) (rows : ℕ) (s : List ℕ) {b : Bool} (e : b ≡ writable T rows s) where
  pub writable_answer : b ≡ true → {room : ℕ} → room ≡ room_of 4096 (length T) → (r : ℕ) (key : List ℕ) {a : Answer} → a ≡ look (row_at room T) rows s r key → a ≡ lookup T rows s r key
  unfolding lookup
  writable_answer f g r key h = rw (← e, f, ← g, h)

  pub unwritable_answer : (r : ℕ) (key : List ℕ) → b ≡ false → Err why.NotWritable ≡ lookup T rows s r key
  unfolding lookup
  unwritable_answer r key f = rw (← e, f)

pub ruleset looking = (found_answer_lem, absent_answer, rows_stated, room_most, room_inside, writable_answer, unwritable_answer)
