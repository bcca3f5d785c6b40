-- Looking a key up through a list of entries: by halves, and an entry whose text is the key is answered only if its two rows are those of a member of
-- the Struct. Defined for any table and any list. Assumes nothing.
use Rattle.std.specs.Prelude.{◌≡◌, Bool, true, cond, ◌&&◌, List, ℕ, ◌-◌, ltb, eqb, length, get_or, Err}
use Rattle.draft.specs.declared.Row.{Row}
use Rattle.draft.specs.Bytes.{part}
use Rattle.draft.specs.Table.{room_of, row_at, from}
use Rattle.draft.specs.Writable.{writable}
use Rattle.member.specs.declared.Member.{Member}
use Rattle.member.specs.Members.{members, is_among}
use Rattle.std.specs.declared.cmp.Ordering.{Ordering}
use Rattle.std.specs.declared.cmp.Ordering.TheVariants.{Greater}
use Rattle.order.specs.ByteOrder.{compared}
use Rattle.lookup_answer.specs.declared.Refusal.TheVariants.{NotWritable, NoMember}
use Rattle.lookup_answer.specs.Answers.{Answer, answer_at}
use Rattle.lookup_answer.specs.declared.Report.{Report}
use Rattle.lookup_answer.specs.Reports.{report_of}
use Rattle.seeking.specs.declared.Search.{Search}
use Rattle.seeking.specs.Seeking.{ended, begun, stepped, searched}
use Rattle.sorting.specs.Sorting.{key_text}
use Rattle.index_search.specs.declared.Question.{Question}

-- how the text of an entry's key stands to a key; an unused entry counts as after every key
unfoldable pub relation_to : ℕ → (ℕ → Row) → List ℕ → List ℕ → Member → Ordering
relation_to room row s key e = cond (eqb e.key 0) Greater (compared (key_text room row s e.key) key)

-- an entry names the two rows of a member of the Struct of row r
unfoldable pub is_member : (ℕ → Row) → ℕ → ℕ → Member → Bool
is_member row rows r e = is_among e (members row rows r)

-- an entry whose text is the key ends the search, found or not
abbrev pub verified : Bool → Member → Search
verified named e = cond named (ended e.value) (ended 0)

module _ (T s : List ℕ) where
  abbrev pub its_relation : List ℕ → Member → Ordering
  its_relation key = relation_to (room_of 4096 (length T)) (row_at (room_of 4096 (length T)) T) s key

  abbrev pub its_member : ℕ → ℕ → Member → Bool
  its_member rows r = is_member (row_at (room_of 4096 (length T)) T) rows r

  -- the row that a search finds: 0 if none
  unfoldable pub found_row : Bool → ℕ → ℕ → List Member → List ℕ → ℕ
  found_row wanted rows r es key = (searched (its_relation key) (its_member rows r) es (length es) (begun wanted (length es))).value

  -- what it answers
  unfoldable pub row_answer : ℕ → ℕ → Answer
  row_answer rows v = cond (ltb 0 v && ltb v rows) (answer_at (row_at (room_of 4096 (length T)) T) s v) (Err NoMember)

  unfoldable pub through_if : Bool → ℕ → ℕ → List Member → List ℕ → Answer
  through_if writes rows r es key = cond writes (row_answer rows (found_row writes rows r es key)) (Err NotWritable)

-- LOOKING A KEY UP THROUGH A LIST: '11', or what the search through the list finds
unfoldable pub through : List ℕ → ℕ → List ℕ → ℕ → List Member → List ℕ → Answer
through T rows s r es key = through_if T s (writable T rows s) rows r es key

-- ---- several keys, one behind the other, and where each ends

unfoldable pub start_of : List ℕ → ℕ → ℕ
start_of ends i = cond (eqb i 0) 0 (get_or ends (i - 1) 0)

-- key i: from the end of the one before it to its own end, as far as there are bytes
unfoldable pub key_at : List ℕ → List ℕ → ℕ → List ℕ
key_at keys ends i = part keys (start_of ends i) (get_or ends i 0 - start_of ends i)

-- what n keys are answered: as many single lookups
unfoldable pub reports_of : List ℕ → ℕ → List ℕ → ℕ → List Member → List ℕ → List ℕ → ℕ → List Report
reports_of T rows s r es keys ends n = from (λ i. report_of (through T rows s r es (key_at keys ends i))) 0 n

-- 0, or 11 for a table that is not writable
unfoldable pub judgement : List ℕ → ℕ → List ℕ → ℕ
judgement T rows s = cond (writable T rows s) 0 11

-- ---- a key asked for, as the code has it

abbrev pub question_of : ℕ → ℕ → ℕ → ℕ → ℕ → Question
question_of rows row number start size = record { rows = rows; row = row; number = number; start = start; length = size }

unfoldable pub judged_of : List ℕ → ℕ → List ℕ → ℕ → Question
judged_of T rows s r = question_of rows r (judgement T rows s) 0 0

unfoldable pub question_at : Question → List ℕ → ℕ → Question
question_at q ends i = question_of q.rows q.row q.number (start_of ends i) (get_or ends i 0 - start_of ends i)

abbrev pub asks : Question → Bool
asks q = eqb q.number 0

abbrev pub key_of : List ℕ → Question → List ℕ
key_of keys q = part keys q.start q.length

module _ (T s : List ℕ) where
  -- a question that says that the table is writable says it rightly
  pub record Rightly (q : Question) : Type 0 where
    pub rightly : q.number ≡ 0 → writable T q.rows s ≡ true

  unfoldable pub step_for : List ℕ → Question → Search → Member → Search
  step_for keys q st e = stepped (its_relation T s (key_of keys q)) (its_member T s q.rows q.row) st e

  unfoldable pub answer_for : Question → Search → Answer
  answer_for q st = cond (asks q) (row_answer T s q.rows st.value) (Err NotWritable)

  -- what a question is answered through a list
  unfoldable pub answered : List Member → List ℕ → Question → Answer
  answered es keys q = through_if T s (asks q) q.rows q.row es (key_of keys q)
