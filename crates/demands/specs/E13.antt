-- E13, plans for jobs with many repeated texts. `Did limit T rows s p out₀ out a` is what `plan_writer::write` promises, of a limit of nesting, a table T
-- with so many stated rows, text bytes s, a plan p, an output that is out₀ before the call and out after it, and its answer a; it has no `requires`. Tables
-- are of words of 32 bits, text bytes are bytes. `Taken`, `Chosen`, `AcceptedFor` and `RefusedFor` are demands_plans/specs/Plans, in document 02's words.
-- That the fields hold is proofs/E13. Assumes nothing.
use Rattle.std.specs.Prelude.{◌≡◌, true, ◌↔◌, List, [], ◌∷◌, ◌++◌, ℕ, ◌+◌, ◌*◌, ◌-◌, ◌≤◌, ◌<◌, length, take, drop, get_or, replicate}
use Rattle.draft.specs.declared.Row.{Row}
use Rattle.draft.specs.Bytes.{Below}
use Rattle.draft.specs.Table.{room_of, place}
use Rattle.draft.specs.Grammar.{regular, recorded, recalled}
use Rattle.draft.specs.Meaning.{MeanSame}
use Rattle.draft.specs.Strings.{Text, repeated, texts_of}
use Rattle.draft.specs.Limits.{allowed}
use Rattle.draft.specs.Written.{message_of, written, rows_of}
use Rattle.read_answer.specs.declared.Answer.{Answer as Read}
use Rattle.read_answer.specs.declared.Answer.TheVariants.{Accepted}
use Rattle.read_answer.specs.Answers.{reading, Answers}
use Rattle.plans.specs.Plans.{sent_at, sents_from, planned}
use Rattle.plan_writer.specs.Answers.{Answer}
use Rattle.std.specs.Prelude.{Ok}
use Rattle.plan_writer.specs.Answers.{Did, report_of}
use Rattle.certificate.specs.Certificate.{certified}
use Rattle.written.specs.Derivable.{DerivesRows, HoldAlike}
use Rattle.demands_plans.specs.Plans.{ReadAs, Taken, Chosen, Ready, AcceptedFor, RefusedFor}

-- 'Past 256 repeated texts, 01 writes the rest in full.' Document 01's form is `written`, of the page of demand 3.
-- 'The planning desk sends two bytes per string in row order: form (0 for `U`, 1 for `>`, 2 for `<`) and position, which is 0 with form 0.'
pub record Sending : Type 0 where
  pub by_form :
      (p : List ℕ) (j : ℕ) (t : Text)
      → (get_or p (j * 2) 0 ≡ 0 → sent_at p j t ≡ regular t)
      × (get_or p (j * 2) 0 ≡ 1 → sent_at p j t ≡ recorded (get_or p (j * 2 + 1) 0) t)
      × (get_or p (j * 2) 0 ≡ 2 → sent_at p j t ≡ recalled (get_or p (j * 2 + 1) 0) t)
  pub in_row_order : (p : List ℕ) (ts : List Text) (t : Text) → sents_from p 0 (ts ++ (t ∷ [])) ≡ sents_from p 0 ts ++ (sent_at p (length ts) t ∷ [])
  pub plan_message : (s : List ℕ) (rows : List Row) (p : List ℕ) → planned s rows p ≡ message_of s rows (sents_from p 0 (texts_of s rows))

-- of a call that answered `Ok n`, where xs are the stated rows
pub record Writes (limit : ℕ) (T : List ℕ) (rows : ℕ) (s p out₀ out : List ℕ) (n : ℕ) (xs : List Row) : Type 0 where
  -- 'The shorter of the plan's message and 01's form is written, 01's if equal.'
  pub which : {m : List ℕ} → Chosen s xs p m → (n ≡ length m) × (out ≡ m ++ replicate (length out₀ - n) 0)
  -- 'Demand 3 stands up to 256 texts;' 'The writer writes document 01's written form and reports its length, and no byte string that the draft reads with
  -- that table's meaning has fewer bytes than that.'
  pub the_form : length (repeated (texts_of s xs)) ≤ 256 → (take n out ≡ written s xs) × (n ≡ length (written s xs))
  pub no_shorter : length (repeated (texts_of s xs)) ≤ 256 → (t : List ℕ) → ReadAs t s xs → n ≤ length t
  -- 'beyond, the result is never longer than either,'
  pub never_longer : (n ≤ length (written s xs)) × (n ≤ length (planned s xs p))
  -- demand 2: 'reading the result, into a table with room for it, gives the same meaning again', whatever follows it
  pub read_back :
      (later : ℕ) → limit ≤ later → allowed later ≡ true → (t : List ℕ) (words : ℕ) {T' : List ℕ} {b : Read} → take n t ≡ take n out → length t ≤ 65536
      → rows ≤ room_of 4096 words → Answers (reading later t words) words T' b → (b ≡ Accepted rows n) × MeanSame s t xs (rows_of 4096 T' rows)

-- of any call
pub record Answered (limit : ℕ) (T : List ℕ) (rows : ℕ) (s p out₀ out : List ℕ) (a : Answer) : Type 0 where
  -- 'Refusals: 24 for a plan that isn't taken (with a plan, demand 2's acceptance asks that too), after 11 and before 12 and 13, which speak of the message
  -- written.' `RefusedFor` has the reasons in their order, `Ready` that none before 24 holds.
  pub twenty_four : ((report_of a).number ≡ 24) ↔ (Ready limit T rows s × (Taken s (rows_of 4096 T rows) p → ⊥))
  pub accepted : (n : ℕ) → (((report_of a).number ≡ 0) × ((report_of a).length ≡ n)) ↔ AcceptedFor limit T rows s p (length out₀) n
  pub refused : (k : ℕ) → (((report_of a).number ≡ k) × (0 < k)) ↔ RefusedFor limit T rows s p (length out₀) k
  -- demand 1: 'on a refusal it is all zeros'; 01: 'refusing, length 0, place 0, and an output of zeros'
  pub zeros : ((report_of a).number ≡ 0 → ⊥) → ((report_of a).length ≡ 0) × ((report_of a).place ≡ 0) × (out ≡ replicate (length out₀) 0)

-- of two calls with one limit, one stated number of rows, one plan, the same text bytes and equally long outputs
pub record Alike (T T' : List ℕ) (rows : ℕ) (a a' : Answer) (out out' : List ℕ) : Type 0 where
  -- demand 1: 'After every call the whole lent output is settled by that call's material and the buffer's length.'
  pub settled : T ≡ T' → (a ≡ a') × (out ≡ out')
  -- 01: 'The writer doesn't look at words after the stated rows', E12: 'not looking past the stated rows in any column'
  pub stated_words :
      HoldAlike rows T T' → ((r j : ℕ) → r < rows → j < 4 → get_or T (place (room_of 4096 (length T)) r j) 0 ≡ get_or T' (place (room_of 4096 (length T')) r j) 0)
      → (a ≡ a') × (out ≡ out')
  pub stated_columns :
      HoldAlike rows T T' → ((j : ℕ) → j < 4 → take rows (drop (room_of 4096 (length T) * j) T) ≡ take rows (drop (room_of 4096 (length T') * j) T'))
      → (a ≡ a') × (out ≡ out')

pub record E13 : Type 0 where
  pub sending : Sending
  -- that message is one: of a plan that is taken, the draft derives it with the table's meaning, its strings sent so
  pub sent_so :
      (limit : ℕ) (T : List ℕ) (rows : ℕ) (s p : List ℕ) → Below 4294967296 T → Ready limit T rows s → Taken s (rows_of 4096 T rows) p
      → (g : DerivesRows limit (planned s (rows_of 4096 T rows) p) s (rows_of 4096 T rows))
      × (g.derived.sents ≡ sents_from p 0 (texts_of s (rows_of 4096 T rows)))
  -- 'A plan is taken exactly if it has that length and those values, and its message reads, 8, 9 and 10 put aside, with the table's meaning.' (`Taken`)
  pub taken :
      (limit : ℕ) (T : List ℕ) (rows : ℕ) (s p out₀ out : List ℕ) {a : Answer} → Below 4294967296 T → Did limit T rows s p out₀ out a
      → Ready limit T rows s → ((report_of a).number ≡ 24 → ⊥) ↔ Taken s (rows_of 4096 T rows) p
  pub writes :
      (limit : ℕ) (T : List ℕ) (rows : ℕ) (s p out₀ out : List ℕ) {n : ℕ} → Below 4294967296 T → Did limit T rows s p out₀ out (Ok n)
      → Writes limit T rows s p out₀ out n (rows_of 4096 T rows)
  -- 'and meaning and plan settle its bytes', also as 01 has it: 'equal written bytes come only from equal meaning'
  pub same_bytes :
      (limit limit' : ℕ) (T T' : List ℕ) (rows rows' : ℕ) (s s' p out₀ out₁ out out' : List ℕ) {n n' : ℕ} → Below 4294967296 T → Below 4294967296 T'
      → Did limit T rows s p out₀ out (Ok n) → Did limit' T' rows' s' p out₁ out' (Ok n')
      → MeanSame s s' (rows_of 4096 T rows) (rows_of 4096 T' rows') ↔ (take n out ≡ take n' out')
  pub answered :
      (limit : ℕ) (T : List ℕ) (rows : ℕ) (s p out₀ out : List ℕ) {a : Answer} → Below 4294967296 T → Did limit T rows s p out₀ out a
      → Answered limit T rows s p out₀ out a
  pub alike :
      (limit : ℕ) (T T' : List ℕ) (rows : ℕ) (s p out₀ out₁ out out' : List ℕ) {a a' : Answer} → Below 4294967296 T → Below 4294967296 T' → Below 256 s
      → length out₀ ≡ length out₁ → Did limit T rows s p out₀ out a → Did limit T' rows s p out₁ out' a' → Alike T T' rows a a' out out'
  -- 01: 'A table made by the reader is never refused with 11 when its message serves as text bytes. If at most 256 texts repeat, it isn't refused with 12
  -- either', E11: 'where the later call's limit is not lower'
  pub from_the_reader :
      (limit : ℕ) (s : List ℕ) (words later : ℕ) {T : List ℕ} {n used : ℕ} (p out₀ out : List ℕ) {a : Answer} → Below 256 s → Below 4294967296 T
      → limit ≤ later → Answers (reading limit s words) words T (Accepted n used) → Did later T n s p out₀ out a
      → ((report_of a).number ≡ 11 → ⊥) × (length (repeated (texts_of s (rows_of 4096 T n))) ≤ 256 → (report_of a).number ≡ 12 → ⊥)
  -- Demand 3's reason: 'I want to know the message can't be cut further, not that somebody tried.' Beyond 256 texts that is a yes of `certificate::proves`,
  -- which is `certified T rows s p prices`, and is ours: the plan is taken, and no byte string that the draft reads with the table's meaning has fewer
  -- bytes than its message, nor than what is written with it.
  pub certified_plan :
      (T : List ℕ) (rows : ℕ) (s p prices : List ℕ) → Below 4294967296 T → certified T rows s p prices ≡ true → Taken s (rows_of 4096 T rows) p
  pub certified_shortest :
      (T : List ℕ) (rows : ℕ) (s p prices : List ℕ) → certified T rows s p prices ≡ true → (t : List ℕ) → Below 256 t → ReadAs t s (rows_of 4096 T rows)
      → length (planned s (rows_of 4096 T rows) p) ≤ length t
  pub certified_written :
      (T : List ℕ) (rows : ℕ) (s p prices : List ℕ) → certified T rows s p prices ≡ true → (limit : ℕ) (out₀ out : List ℕ) {n : ℕ}
      → Did limit T rows s p out₀ out (Ok n) → (t : List ℕ) → Below 256 t → ReadAs t s (rows_of 4096 T rows) → n ≤ length t
