-- What answers the goals of the functions that take a search a step on, and say what it found. Assumes nothing.
use mathlib.Core.Path.{◌≡◌, refl, sym, ◌∙◌}
use mathlib.Core.Bool.{Bool, true, false}
use mathlib.Core.List.{List}
use Prim.Native.Nat.{ℕ, ◌+◌, ◌-◌, ◌*◌, ◌≤◌, ◌<◌}
use native.Mathlib.Omega.{arith}
use lib.ListN.{length, get_or}
use borrow.Author.Tests.{ne_eqb, lt-ltb, le-ltb}
use Rattle.std.specs.Prelude.{Err}
use Rattle.draft.specs.declared.Row.{Row}
use Rattle.draft.specs.Bytes.{part}
use Rattle.draft.specs.Table.{room_of, row_at}
use Rattle.draft.specs.Writable.{writable}
use Rattle.member.specs.declared.Member.{Member}
use Rattle.member.specs.Members.{members, is_among}
use Rattle.std.proofs.Common.{Ordering, Less, Equal, Greater}
use Rattle.order.specs.ByteOrder.{compared}
use Rattle.lookup_answer.specs.declared.Refusal.TheVariants.{NotWritable, NoMember}
use Rattle.lookup_answer.specs.Answers.{Answer, answer_at}
use Rattle.lookup_answer.specs.declared.Report.{Report}
use Rattle.lookup_answer.specs.Reports.{report_of}
use Rattle.shape.proofs.Judged.{rows_stated, room_most, room_inside}
use Rattle.seeking.specs.declared.Search.{Search}
use Rattle.seeking.specs.Seeking.{between, ended, turned, stepped}
use Rattle.sorting.specs.Sorting.{key_text}
use Rattle.index.proofs.Storing.{get_d_past}
use Rattle.index_search.specs.declared.Question.{Question}
use Rattle.index_search.specs.Through.{relation_to, is_member, verified, start_of, judgement, question_of, judged_of, question_at, Rightly, row_answer, step_for, answer_for}

-- ---- how an entry stands

module _ (room : ℕ) (row : ℕ → Row) (s key : List ℕ) (e : Member) where
  pub relation_unused : e.key ≡ 0 → Greater ≡ relation_to room row s key e
  unfolding relation_to
  relation_unused h = rw h

  pub relation_used : {t : List ℕ} {r : Ordering} → (e.key ≡ 0 → ⊥) → t ≡ key_text room row s e.key → r ≡ compared t key → r ≡ relation_to room row s key e
  unfolding relation_to
  relation_used h i j = j ∙ rw (ne_eqb e.key 0 h, i)

module _ (row : ℕ → Row) (rows r : ℕ) (e : Member) {b : Bool} (i : b ≡ is_among e (members row rows r)) {st : Search} where
  pub verify_yes : b ≡ true → st ≡ ended e.value → st ≡ verified (is_member row rows r e) e
  unfolding is_member
  verify_yes f j = j ∙ rw (← i, f)

  pub verify_no : b ≡ false → st ≡ ended 0 → st ≡ verified (is_member row rows r e) e
  unfolding is_member
  verify_no f j = j ∙ rw (← i, f)

pub ruleset relating = (relation_unused, relation_used, verify_yes, verify_no)

-- ---- one step

module _ {x y : Ordering} (named : Bool) (st : Search) (e : Member) {next : Search} (i : x ≡ y) where
  pub step_before : x ≡ Less → next ≡ between (st.at + 1) st.high → next ≡ turned y named st e
  step_before f j = j ∙ rw (← i, f)

  pub step_equal : x ≡ Equal → next ≡ verified named e → next ≡ turned y named st e
  step_equal f j = j ∙ rw (← i, f)

  pub step_after : x ≡ Greater → next ≡ between st.low st.at → next ≡ turned y named st e
  step_after f j = j ∙ rw (← i, f)

pub ruleset stepping = (step_before, step_equal, step_after)

module _ (T : List ℕ) (rows : ℕ) (s : List ℕ) (w : writable T rows s ≡ true) {room : ℕ} (g : room ≡ room_of 4096 (length T)) where
  pub its_rows_lem : rows ≤ room
  its_rows_lem = rows_stated T rows s {b = true} (sym w) refl g

  pub its_most : room ≤ 4096
  its_most = room_most T rows s {b = true} (sym w) refl g

  pub its_inside : room * 4 ≤ length T
  its_inside = room_inside T rows s {b = true} (sym w) refl g

pub step_so :
    (T s keys : List ℕ) (q : Question) (st : Search) (e : Member) {room : ℕ} {key : List ℕ} {next : Search} → room ≡ room_of 4096 (length T)
    → key ≡ part keys q.start q.length
    → next ≡ turned (relation_to room (row_at room T) s key e) (is_member (row_at room T) q.rows q.row e) st e
    → next ≡ step_for T s keys q st e
unfolding step_for stepped
step_so T s keys q st e g k j = j ∙ rw (g, k)

pub ruleset judged = (its_rows_lem, its_most, its_inside, step_so)

-- ---- a question

module _ (T : List ℕ) (rows : ℕ) (s : List ℕ) (r : ℕ) {b : Bool} (e : b ≡ writable T rows s) where
  pub judged_so : b ≡ true → question_of rows r 0 0 0 ≡ judged_of T rows s r
  unfolding judged_of judgement
  judged_so f = rw (← e, f)

  pub judged_not : b ≡ false → question_of rows r 11 0 0 ≡ judged_of T rows s r
  unfolding judged_of judgement
  judged_not f = rw (← e, f)

pub number_past : (xs : List ℕ) (i : ℕ) → length xs ≤ i → 0 ≡ get_or xs i 0
number_past xs i h = sym (get_d_past xs i h)

pub start_first : (ends : List ℕ) (i : ℕ) → i ≡ 0 → 0 ≡ start_of ends i
unfolding start_of
start_first ends i e = rw e

pub start_later : (ends : List ℕ) (i : ℕ) {n : ℕ} → (i ≡ 0 → ⊥) → n ≡ get_or ends (i - 1) 0 → n ≡ start_of ends i
unfolding start_of
start_later ends i f e = e ∙ rw (ne_eqb i 0 f)

pub question_so : (q : Question) (ends : List ℕ) (i : ℕ) {a b c : ℕ} → a ≡ start_of ends i → b ≡ get_or ends i 0 → c ≡ b - a → question_of q.rows q.row q.number a c ≡ question_at q ends i
unfolding question_at
question_so q ends i e f g = rw (g, f, e)

pub ruleset asking = (judged_so, judged_not, number_past, start_first, start_later, question_so)

-- ---- what was found

module _ (T s : List ℕ) (q : Question) (st : Search) where
  pub answer_not : (q.number ≡ 0 → ⊥) → Err NotWritable ≡ answer_for T s q st
  unfolding answer_for
  answer_not e = rw (ne_eqb q.number 0 e)

  module _ (e : q.number ≡ 0) where
    pub answer_none : st.value ≡ 0 → Err NoMember ≡ answer_for T s q st
    unfolding answer_for row_answer
    answer_none h = rw (e, h)

    pub answer_past : (st.value ≡ 0 → ⊥) → q.rows ≤ st.value → Err NoMember ≡ answer_for T s q st
    unfolding answer_for row_answer
    answer_past f h = rw (e, lt-ltb 0 st.value (omega (arith, f)), le-ltb st.value q.rows h)

    pub answer_found : {room : ℕ} {a : Answer} → (st.value ≡ 0 → ⊥) → st.value < q.rows → room ≡ room_of 4096 (length T) → a ≡ answer_at (row_at room T) s st.value → a ≡ answer_for T s q st
    unfolding answer_for row_answer
    answer_found f h g j = j ∙ rw (e, lt-ltb 0 st.value (omega (arith, f)), lt-ltb st.value q.rows h, g)

    module _ (j : Rightly T s q) {room : ℕ} (g : room ≡ room_of 4096 (length T)) where
      pub answer_inside : st.value < q.rows → st.value < room
      answer_inside h = omega (arith, its_rows_lem T q.rows s (j.rightly e) g)

      pub answer_most : room ≤ 4096
      answer_most = its_most T q.rows s (j.rightly e) g

      pub answer_room : room * 4 ≤ length T
      answer_room = its_inside T q.rows s (j.rightly e) g

pub answer_report : {a b : Answer} {r : Report} → a ≡ b → r ≡ report_of a → r ≡ report_of b
answer_report e i = i ∙ rw e

pub ruleset answering = (answer_report, answer_not, answer_none, answer_past, answer_found, answer_inside, answer_most, answer_room)
