-- THE THREE DEMANDS of document 00. Each sentence is a field, over the definitions of crate draft and the promises of the two public functions:
-- `Answers (reading limit s words) words T a` is what `reader::read` promises of a limit of nesting, a message s and a table of so many words, which is T
-- after the call, and its answer a; `Did limit T rows s out₀ out a` is what `writer::write` promises of a limit, a table T with so many stated rows, text
-- bytes s, and an output that is out₀ before the call and out after it. That the fields hold is proofs/Demands. Assumes nothing.
use Rattle.std.specs.Prelude.{◌≡◌, true, ◌↔◌, List, [], ◌∷◌, ℕ, ◌≤◌, length, take, replicate}
use Rattle.draft.specs.declared.Refusal.{Refusal}
use Rattle.draft.specs.declared.Row.{Row}
use Rattle.draft.specs.Bytes.{Below}
use Rattle.draft.specs.Refusals.{number_of}
use Rattle.draft.specs.Codebook.{Book}
use Rattle.draft.specs.Table.{room_of}
use Rattle.draft.specs.Read.{got, message}
use Rattle.draft.specs.Grammar.{Cell, Begins}
use Rattle.draft.specs.Meaning.{MeanSame, Realises}
use Rattle.draft.specs.Strings.{repeated, texts_of}
use Rattle.draft.specs.Limits.{allowed}
use Rattle.draft.specs.Writable.{writable_to}
use Rattle.draft.specs.Written.{written, rows_of}
use Rattle.read_answer.specs.declared.Answer.{Answer as Read}
use Rattle.read_answer.specs.declared.Answer.TheVariants as read
use Rattle.read_answer.specs.Answers.{reading, Answers}
use Rattle.write_answer.specs.Answers.{Answer as Write}
use Rattle.std.specs.declared.result.Result.TheVariants as write
use Rattle.write_answer.specs.Answers.{Did}
use Rattle.demands_reading.specs.Refusing.{one_of}

-- 1.
pub record Demand1 : Type 0 where
  -- 'Any bytes may be put into the reader, and any table into the writer. Each ends with an answer. .. nobody has to check anything beforehand.'
  -- Neither function has a `requires`, and each is proved to return; so for any material there is an answer, and a table or output, that it promises.
  pub reader_answers : (limit : ℕ) (s : List ℕ) (words : ℕ) → (a : Read) × (T : List ℕ) × Answers (reading limit s words) words T a
  pub writer_answers : (limit : ℕ) (T : List ℕ) (rows : ℕ) (s out₀ : List ℕ) → (a : Write) × (out : List ℕ) × Did limit T rows s out₀ out a
  -- 'Unfit material gets one of the numbered refusals, with the fixed place': these numbers of documents 01 and 02, and no other; the place of a reader's
  -- is settled with its answer, below; a writer's answer has none
  pub reader_number :
      (limit : ℕ) (s : List ℕ) (words : ℕ) {T : List ℕ} {m : Refusal} {place : ℕ} → Answers (reading limit s words) words T (read.Refused m place)
      → one_of (1 ∷ 2 ∷ 3 ∷ 5 ∷ 6 ∷ 7 ∷ 8 ∷ 9 ∷ 10 ∷ 14 ∷ 17 ∷ 20 ∷ 23 ∷ []) (number_of m) ≡ true
  pub writer_number :
      (limit : ℕ) (T : List ℕ) (rows : ℕ) (s out₀ out : List ℕ) {m : Refusal} → Did limit T rows s out₀ out (write.Err m)
      → one_of (10 ∷ 11 ∷ 12 ∷ 13 ∷ 23 ∷ []) (number_of m) ≡ true
  -- 'After every call the whole lent table or output is settled by that call's material and the buffer's length': two calls with the same material and
  -- equally long buffers answer alike and leave the same words or bytes, as many as there were
  pub table_settled :
      (limit : ℕ) (s : List ℕ) (words : ℕ) {T T' : List ℕ} {a a' : Read}
      → Answers (reading limit s words) words T a → Answers (reading limit s words) words T' a' → (a ≡ a') × (T ≡ T')
  pub table_whole : (limit : ℕ) (s : List ℕ) (words : ℕ) {T : List ℕ} {a : Read} → Answers (reading limit s words) words T a → length T ≡ words
  -- 'What lay there before never shows': out₀ and out₁ are two outputs of whatever bytes; of a table's words before the call the promise says nothing
  pub output_settled :
      (limit : ℕ) (T : List ℕ) (rows : ℕ) (s out₀ out₁ out out' : List ℕ) {a a' : Write} → length out₀ ≡ length out₁
      → Did limit T rows s out₀ out a → Did limit T rows s out₁ out' a' → (a ≡ a') × (out ≡ out')
  pub output_whole :
      (limit : ℕ) (T : List ℕ) (rows : ℕ) (s out₀ out : List ℕ) {a : Write} → Did limit T rows s out₀ out a → length out ≡ length out₀
  -- 'on a refusal it is all zeros'
  pub table_zeros :
      (limit : ℕ) (s : List ℕ) (words : ℕ) {T : List ℕ} {m : Refusal} {place : ℕ}
      → Answers (reading limit s words) words T (read.Refused m place) → T ≡ replicate words 0
  pub output_zeros :
      (limit : ℕ) (T : List ℕ) (rows : ℕ) (s out₀ out : List ℕ) {m : Refusal}
      → Did limit T rows s out₀ out (write.Err m) → out ≡ replicate (length out₀) 0

-- the draft's rules derive the first `used` bytes of a message, in n rows, within document 01's limits: a limit of nesting that may be stated, at most
-- 65,536 bytes in all, and room in the table for the rows
pub record Derived (limit : ℕ) (s : List ℕ) (words n used : ℕ) : Type 0 where
  pub stated : allowed limit ≡ true
  pub bytes : length s ≤ 65536
  pub cells : List Cell
  pub derived : Begins s used limit cells
  pub rows : length cells ≡ n
  pub room : n ≤ room_of 4096 words

-- a table is one that document 01 calls writable, and its message, of n bytes, fits
pub record Fits (limit : ℕ) (T : List ℕ) (rows : ℕ) (s out₀ : List ℕ) (n : ℕ) : Type 0 where
  pub stated : allowed limit ≡ true
  pub text : length s ≤ 65536
  pub table : writable_to limit T rows s ≡ true
  pub long : n ≡ length (written s (rows_of 4096 T rows))
  pub most : n ≤ 65536
  pub room : n ≤ length out₀

-- 2.
pub record Demand2 : Type 0 where
  -- 'Reading follows the Binmode RPC draft, with document 01's limits: a message is accepted exactly if the draft's rules derive it within them'
  pub accepted_exactly :
      (limit : ℕ) (s : List ℕ) (words n used : ℕ) {T : List ℕ} {a : Read} → Answers (reading limit s words) words T a
      → (a ≡ read.Accepted n used) ↔ Derived limit s words n used
  -- 'and the rows say what it means': the n rows in the table mean the cells that any derivation of a beginning of the message gives
  pub rows_mean :
      (limit : ℕ) (s : List ℕ) (words : ℕ) {T : List ℕ} {n used to nesting : ℕ} {cells : List Cell}
      → Answers (reading limit s words) words T (read.Accepted n used) → Begins s to nesting cells → Realises s 0 (rows_of 4096 T n) cells
  -- 'Writing accepts exactly the tables document 01 calls writable whose message fits'
  pub written_exactly :
      (limit : ℕ) (T : List ℕ) (rows : ℕ) (s out₀ out : List ℕ) (n : ℕ) {a : Write} → Did limit T rows s out₀ out a
      → (a ≡ write.Ok n) ↔ Fits limit T rows s out₀ n
  -- 'reading the result, into a table with room for it, gives the same meaning again' (02, E11: 'where the later call's limit is not lower')
  pub read_back :
      (limit : ℕ) (T : List ℕ) (rows : ℕ) (s out₀ out : List ℕ) {n : ℕ} → Did limit T rows s out₀ out (write.Ok n) → Below 4294967296 T
      → (later : ℕ) → limit ≤ later → allowed later ≡ true → (words : ℕ) {T' : List ℕ} {a : Read} → rows ≤ room_of 4096 words
      → Answers (reading later (take n out) words) words T' a
      → (a ≡ read.Accepted rows n) × MeanSame s (take n out) (rows_of 4096 T rows) (rows_of 4096 T' rows)

-- 3. 'The written message is the shortest. Take any table the writer accepts ..'
pub record Demand3 : Type 0 where
  -- 'The writer writes document 01's written form and reports its length'
  pub the_form :
      (limit : ℕ) (T : List ℕ) (rows : ℕ) (s out₀ out : List ℕ) {n : ℕ} → Did limit T rows s out₀ out (write.Ok n)
      → (take n out ≡ written s (rows_of 4096 T rows)) × (n ≡ length (written s (rows_of 4096 T rows)))
  -- '.. in which at most 256 different texts stand as strings twice or more. .. no byte string that the draft reads with that table's meaning has fewer
  -- bytes than that' (01: 'with refusals 8, 9 and 10 put aside', so for any room and nesting)
  pub no_shorter :
      (limit : ℕ) (T : List ℕ) (rows : ℕ) (s out₀ out : List ℕ) {n : ℕ} → Did limit T rows s out₀ out (write.Ok n)
      → length (repeated (texts_of s (rows_of 4096 T rows))) ≤ 256 → (t : List ℕ) (room deep : ℕ) {others : List Row} {used : ℕ} {book : Book}
      → message t room deep ≡ got others used book → MeanSame s t (rows_of 4096 T rows) others → n ≤ length t
  -- 'This holds whatever forms and positions its sender chose for its strings, and whatever bytes follow its end': a beginning of t that the draft's rules
  -- derive, with any Strings, has n bytes at least
  pub no_shorter_sent :
      (limit : ℕ) (T : List ℕ) (rows : ℕ) (s out₀ out : List ℕ) {n : ℕ} → Did limit T rows s out₀ out (write.Ok n)
      → length (repeated (texts_of s (rows_of 4096 T rows))) ≤ 256 → (t : List ℕ) {used nesting : ℕ} {cells : List Cell}
      → Begins t used nesting cells → Realises s 0 (rows_of 4096 T rows) cells → n ≤ used

pub record Demands : Type 0 where
  pub first : Demand1
  pub second : Demand2
  pub third : Demand3
