-- What answers each return of the functions that judge content. Assumes nothing.
use mathlib.Core.Path.{◌≡◌, refl, ◌∙◌}
use mathlib.Core.Bool.{Bool, true, false}
use mathlib.Core.List.{List, []}
use Prim.Native.Nat.{ℕ, ◌+◌, ◌-◌, ◌≤◌, ◌<◌}
use native.Mathlib.Omega.{arith}
use native.Mathlib.Nat.{sub-zero}
use lib.ListN.{length, take, drop, length-drop, drop_of_length-le}
use lib.Seq.{take_all, take-nil}
use borrow.Author.Tests.{le-leb, lt-leb}
use Rattle.text.specs.Utf8.{well_formed}
use Rattle.text.specs.Texts.{ascii, standard_name}
use Rattle.text.proofs.Comparing.{clash}
use Rattle.lexical.specs.Double.{is_double}
use Rattle.lexical.specs.DateTime.{is_date_time}
use Rattle.lexical.proofs.Doubles.{double_ascii}
use Rattle.lexical.proofs.DateTimes.{datetime_ascii}
use Rattle.draft.specs.declared.Refusal.TheVariants.{Ended, BadText, StandardName, BadValue}
use Rattle.draft.specs.Verdict.{Verdict}
use Rattle.std.specs.Prelude.{Ok, Err}
use Rattle.draft.specs.declared.Content.{Content}
use Rattle.draft.specs.declared.Content.TheVariants.{Double, DateTime, Binary, Text}
use Rattle.draft.specs.Bytes.{part}
use Rattle.draft.specs.Content.{fine_if, ascii_then, content_rule, verdict, name_rule}
use Rattle.content.specs.Flaw.{flaw}

rest_all : (s : List ℕ) (o : ℕ) → take (length s - o) (drop o s) ≡ drop o s
rest_all s o = take_all (length s - o) (drop o s) (omega (arith, length-drop o s))

-- a part, cut where the bytes end
module _ (s : List ℕ) (o n : ℕ) where
  pub part_past : length s ≤ o → [] ≡ part s o n
  part_past h = rw (drop_of_length-le s h, take-nil n)

  pub part_rest : length (take (length s - o) (drop o s)) ≤ n → take (length s - o) (drop o s) ≡ part s o n
  part_rest = rw (rest_all s o) (λ h. rw (take_all n (drop o s) h))

  pub part_cut : take (n - 0) (take (length s - o) (drop o s)) ≡ part s o n
  part_cut = rw (sub-zero n, rest_all s o)

-- bytes that are ASCII wherever they are good: these first, or ASCII first
good_first : (ascii good : Bool) → (good ≡ true → ascii ≡ true) → fine_if good (flaw ascii) ≡ ascii_then ascii good
good_first true true h = refl
good_first true false h = refl
good_first false true h = clash (h refl) refl
good_first false false h = refl

-- by the kind of content
module _ {c : Content} (s : List ℕ) {good : Bool} {v : Verdict} where
  pub judge_double : v ≡ fine_if good (flaw (ascii s)) → c ≡ Double → good ≡ is_double s → v ≡ content_rule c s
  unfolding content_rule
  judge_double e i g = e ∙ rw (i, g) (good_first (ascii s) (is_double s) (double_ascii s))

  pub judge_date : v ≡ fine_if good (flaw (ascii s)) → c ≡ DateTime → good ≡ is_date_time s → v ≡ content_rule c s
  unfolding content_rule
  judge_date e i g = e ∙ rw (i, g) (good_first (ascii s) (is_date_time s) (datetime_ascii s))

  pub judge_text : v ≡ fine_if good BadText → c ≡ Text → good ≡ well_formed s → v ≡ content_rule c s
  unfolding content_rule
  judge_text e i g = e ∙ rw (i, g)

pub judge_binary : {c : Content} (s : List ℕ) → c ≡ Binary → (Ok tt) ≡ content_rule c s
unfolding content_rule
judge_binary s i = rw i

-- an Other's name
pub name_standard : (s : List ℕ) {b : Bool} → b ≡ standard_name s → b ≡ true → Err StandardName ≡ name_rule s
unfolding name_rule
name_standard s e t = rw (← e, t)

pub name_other : (s : List ℕ) {b : Bool} → b ≡ standard_name s → b ≡ false → (Ok tt) ≡ name_rule s
unfolding name_rule
name_other s e t = rw (← e, t)

-- whether the bytes are there
module _ (c : Content) (s : List ℕ) (o n : ℕ) where
  pub starts_past : length s < o → Err Ended ≡ verdict c s o n
  unfolding verdict
  starts_past h = rw (lt-leb (o + n) (length s) (omega arith))

  pub ends_past : o ≤ length s → length s - o < n → Err Ended ≡ verdict c s o n
  unfolding verdict
  ends_past h k = rw (lt-leb (o + n) (length s) (omega arith))

  pub there : {t : List ℕ} {v : Verdict} → o ≤ length s → n ≤ length s - o → t ≡ part s o n → v ≡ content_rule c t → v ≡ verdict c s o n
  unfolding verdict
  there h k e f = f ∙ rw (le-leb (o + n) (length s) (omega arith), e)

pub fine_not : {good : Bool} → good ≡ false → Err BadText ≡ fine_if good BadText
fine_not e = rw e

module _ (s : List ℕ) {good is : Bool} where
  pub value_bad : good ≡ false → is ≡ ascii s → is ≡ true → Err BadValue ≡ fine_if good (flaw (ascii s))
  value_bad g e t = rw (g, ← e, t)

  pub value_not_ascii : good ≡ false → is ≡ ascii s → is ≡ false → Err BadText ≡ fine_if good (flaw (ascii s))
  value_not_ascii g e t = rw (g, ← e, t)

pub ruleset judging = (part_past, part_rest, part_cut, fine_not, value_bad, value_not_ascii, judge_double, judge_date, judge_text, judge_binary, name_standard, name_other, starts_past, ends_past, there)
