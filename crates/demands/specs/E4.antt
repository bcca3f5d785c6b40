-- REQUEST E4: Doubles and dates checked on arrival. Each sentence is a field, over the productions of lexical's Grammar and the promises of `reader::read`
-- and `writer::write` (`Answers`, `Did`: see Demands). That the fields hold is proofs/E4. Assumes nothing.
use Rattle.std.specs.Prelude.{◌≡◌, true, false, ◌↔◌, List, ◌∷◌, ◌++◌, ℕ, ◌+◌, ◌≤◌, ◌<◌, length}
use Prim.Native.Char.{code}
use Rattle.text.specs.Texts.{ascii}
use Rattle.lexical.specs.Grammar.{Double, DateTime}
use Rattle.draft.specs.declared.Refusal.{Refusal}
use Rattle.draft.specs.declared.Row.{Row}
use Rattle.draft.specs.declared.Content.TheVariants as content
use Rattle.draft.specs.declared.Tag.TheVariants.{Plain}
use Rattle.draft.specs.declared.Plain.{Plain as PlainItem}
use Rattle.draft.specs.declared.Plain.TheVariants as plain
use Rattle.draft.specs.Bytes.{bytes, byte_at, Below}
use Rattle.draft.specs.Refusals.{number_of}
use Rattle.draft.specs.Table.{room_of, row_at}
use Rattle.draft.specs.Codebook.{Book}
use Rattle.draft.specs.Limits.{allowed}
use Rattle.draft.specs.Read.{text_of, value}
use Rattle.draft.specs.Grammar.{Keeps}
use Rattle.read_answer.specs.declared.Answer.{Answer as Read}
use Rattle.read_answer.specs.declared.Answer.TheVariants as read
use Rattle.read_answer.specs.Answers.{reading, Answers, report_of}
use Rattle.write_answer.specs.Answers.{Answer as Write}
use Rattle.write_answer.specs.Answers.{Did}
use Rattle.write_answer.specs.Answers as writer
use Rattle.demands_reading.specs.Placed.{Begun, short_text, Stands}
use Rattle.demands_reading.specs.Ordered.{Refuses}

-- row r of a table
abbrev pub row_in : List ℕ → ℕ → Row
row_in T r = row_at (room_of 4096 (length T)) T r

-- in a table of n rows that was read from s, the text of each row of this kind is a good one
abbrev pub ReadGood : ℕ → (List ℕ → Type 0) → Type 0
ReadGood kind Good =
    (limit : ℕ) (s : List ℕ) (words : ℕ) (T : List ℕ) (n used : ℕ) → Answers (reading limit s words) words T (read.Accepted n used) → (r : ℕ) → r < n
    → (row_in T r).kind ≡ kind → Good (text_of s (row_in T r))

-- a Response whose Value is an item with this tag, a size byte and the text t, and whatever follows
abbrev pub sent : ℕ → List ℕ → List ℕ → List ℕ
sent tag t more = bytes "binmode-rpc:R" ++ (tag ∷ length t ∷ (t ++ more))

-- such a message is answered with this number, rows, bytes used and place, by any limit that may be stated, if there is room for its two rows
abbrev pub Says : ℕ → List ℕ → ℕ → ℕ → ℕ → ℕ → Type 0
Says tag t number rows used place =
    (limit : ℕ) (more : List ℕ) (words : ℕ) (T : List ℕ) (a : Read) → allowed limit ≡ true → length (sent tag t more) ≤ 65536 → 2 ≤ room_of 4096 words
    → Answers (reading limit (sent tag t more) words) words T a → report_of a ≡ record { number = number; rows = rows; used = used; place = place }

-- wherever a Value is looked for, and such an item stands there whole, with a row left: reading it is refused with this number, at its place, if its text is so
abbrev pub SaysAnywhere : PlainItem → ℕ → (List ℕ → Type 0) → Type 0
SaysAnywhere x number Bad =
    (s : List ℕ) (room deep at r : ℕ) (book : Book) → Begun s at (Plain x) → r < room → at + 2 + byte_at s (at + 1) ≤ length s → Bad (short_text s at)
    → Refuses (value s room deep at r book) number at

-- so is the text of the item judged on arrival, at the item's place: 5 first, then 17, and else it is taken
pub record Judged (tag : ℕ) (x : PlainItem) (Good : List ℕ → Type 0) : Type 0 where
  pub five : (t : List ℕ) → ascii t ≡ false → Says tag t 5 0 0 13
  pub seventeen : (t : List ℕ) → ascii t ≡ true → (Good t → ⊥) → Says tag t 17 0 0 13
  pub taken : (t : List ℕ) → Good t → Says tag t 0 2 (15 + length t) 0
  pub five_anywhere : SaysAnywhere x 5 (λ t. ascii t ≡ false)
  pub seventeen_anywhere : SaysAnywhere x 17 (λ t. (ascii t ≡ true) × (Good t → ⊥))

-- the writer says 11 for a stated row of this kind whose text is not a good one
abbrev pub WriterEleven : ℕ → (List ℕ → Type 0) → Type 0
WriterEleven kind Good =
    (limit : ℕ) (T : List ℕ) (rows : ℕ) (s out₀ out : List ℕ) (a : Write) → allowed limit ≡ true → length s ≤ 65536 → Below 4294967296 T
    → Did limit T rows s out₀ out a → (r : ℕ) → r < rows → (row_in T r).kind ≡ kind → (Good (text_of s (row_in T r)) → ⊥) → (writer.report_of a).number ≡ 11

pub record E4 : Type 0 where
  -- 'A Double is now an optional sign, one digit or more, a point, one digit or more.': what the grammar asks of a Double's text is that production
  pub double : (t : List ℕ) → Keeps content.Double t ↔ Double t
  pub read_double : ReadGood 6 Double
  -- 'A DateTime is 17 bytes as in `19980717T14:08:55`: month 1 to 12, a day that the month has, hour to 23, minute and second to 59. The days are kept with
  -- one row for leap years, by the Gregorian rule.': so is a DateTime's, whose production has the Gregorian rule; the two rows are the form of `date`'s table
  pub datetime : (t : List ℕ) → Keeps content.DateTime t ↔ DateTime t
  pub read_datetime : ReadGood 7 DateTime
  -- 'This replaces 01's any ASCII. Refusals: 17, after 5 in the same item'
  pub double_judged : Judged (code "D") plain.Double Double
  pub datetime_judged : Judged (code "8") plain.DateTime DateTime
  -- and 17 comes for these alone, wherever they stand: for ASCII that is no such text, at the item's place
  pub seventeen_only :
      (limit : ℕ) (s : List ℕ) (words : ℕ) {T : List ℕ} {m : Refusal} {place : ℕ} → Answers (reading limit s words) words T (read.Refused m place)
      → number_of m ≡ 17 → Stands s 17 place
  -- 'the writer says 11'
  pub double_eleven : WriterEleven 6 Double
  pub datetime_eleven : WriterEleven 7 DateTime
