-- A question looked up through a list, step by step: what the loop over the list keeps. Assumes nothing.
use mathlib.Core.Path.{◌≡◌, refl, sym, ap, ◌∙◌}
use mathlib.Core.Bool.{Bool, true, false, cond}
use mathlib.Core.List.{List}
use Prim.Native.Nat.{ℕ, ◌-◌, ◌≤◌, ◌<◌}
use native.Mathlib.Omega.{arith}
use lib.ListN.{length, get_or}
use lib.Dec.{eqb}
use borrow.Author.Tests.{eq-eqb, eqb-true}
use Rattle.std.specs.Prelude.{Err}
use Rattle.draft.specs.Table.{from}
use Rattle.draft.specs.Writable.{writable}
use Rattle.member.specs.declared.Member.{Member}
use Rattle.lookup_answer.specs.Reports.{report_of}
use Rattle.lookup_answer.specs.declared.Refusal.TheVariants.{NotWritable}
use Rattle.seeking.specs.declared.Search.{Search}
use Rattle.seeking.specs.Seeking.{over, begun, unused}
use Rattle.seeking.proofs.Narrowing.{span, narrows, Seeking, seeking_first, seeking_next, seeking_done}
use Rattle.index_search.specs.declared.Question.{Question}
use Rattle.index_search.specs.Through.{its_relation, its_member, found_row, row_answer, through_if, through, key_at, reports_of, judgement, judged_of, question_at, asks, key_of, Rightly, step_for, answer_for, answered}

module _ (T s keys : List ℕ) (q : Question) (es : List Member) where
  -- where the search stands, `left` steps from its end
  abbrev pub Looking : ℕ → Search → Type 0
  Looking left st = Seeking (its_relation T s (key_of keys q)) (its_member T s q.rows q.row) es (asks q) left st

  pub looking_first : Looking (length es) (begun (asks q) (length es))
  looking_first = seeking_first (its_relation T s (key_of keys q)) (its_member T s q.rows q.row) {es = es} (asks q)

  pub looking_next : (left : ℕ) (st : Search) → Looking left st → st.at < length es → st.at < over → Looking (left - 1) (step_for T s keys q st (get_or es st.at unused))
  unfolding step_for
  looking_next left st k h i = seeking_next (its_relation T s (key_of keys q)) (its_member T s q.rows q.row) left st k h i

  pub looking_less : {left : ℕ} {st : Search} → Looking left st → st.at < over → left - 1 < left
  looking_less k i = omega (arith, k.enough, (k.fine.inside i).0, (k.fine.inside i).1)

  -- a step comes nearer
  pub looking_nearer : {left : ℕ} {st : Search} → Looking left st → st.at < over → span (step_for T s keys q st (get_or es st.at unused)) < span st
  unfolding step_for
  looking_nearer {left} {st} k i = (narrows (its_relation T s (key_of keys q)) (its_member T s q.rows q.row) st (get_or es st.at unused) (k.fine.inside i).0 (k.fine.inside i).1).1

  pub looking_writable : {left : ℕ} {st : Search} → Looking left st → Rightly T s q → st.at < over → writable T q.rows s ≡ true
  looking_writable k r h = r.rightly (eqb-true q.number 0 (k.asked h))

  pub looking_done : (left : ℕ) (st : Search) → Looking left st → length es ≤ st.at → report_of (answer_for T s q st) ≡ report_of (answered T s es keys q)
  unfolding answer_for answered through_if found_row
  looking_done left st k h =
      ap (λ (x : Search). report_of (cond (asks q) (row_answer T s q.rows x.value) (Err NotWritable)))
      (seeking_done (its_relation T s (key_of keys q)) (its_member T s q.rows q.row) left st k h)

-- ---- a question about a key of several is that of a single lookup

module _ (T : List ℕ) (rows : ℕ) (s : List ℕ) (r : ℕ) where
  asks_judged : (ends : List ℕ) (i : ℕ) → asks (question_at (judged_of T rows s r) ends i) ≡ writable T rows s
  unfolding question_at judged_of judgement
  asks_judged ends i = go (writable T rows s)
    where
      go : (b : Bool) → eqb (cond b 0 11) 0 ≡ b
      go true = refl
      go false = refl

  pub question_rightly : (ends : List ℕ) (i : ℕ) → Rightly T s (question_at (judged_of T rows s r) ends i)
  unfolding question_at judged_of judgement
  question_rightly ends i = record { rightly = λ e. sym (asks_judged ends i) ∙ eq-eqb _ 0 e }

  pub question_answered :
      (es : List Member) (keys ends : List ℕ) (i : ℕ) → answered T s es keys (question_at (judged_of T rows s r) ends i) ≡ through T rows s r es (key_at keys ends i)
  unfolding answered through question_at judged_of key_at
  question_answered es keys ends i = ap (λ (b : Bool). through_if T s b rows r es (key_at keys ends i)) (asks_judged ends i)

  pub reports_all :
      (es : List Member) (keys ends : List ℕ) (n : ℕ) → from (λ i. report_of (through T rows s r es (key_at keys ends i))) 0 n ≡ reports_of T rows s r es keys ends n
  unfolding reports_of
  reports_all es keys ends n = refl

  pub judged_number : {q : Question} → q ≡ judged_of T rows s r → q.number ≡ judgement T rows s
  unfolding judged_of
  judged_number e = rw e
