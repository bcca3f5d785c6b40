-- DOCUMENT 01's SENTENCES that are statements and no demand says: in its order, each a field, over the definitions and the promises of `reader::read` and
-- `writer::write` (`Answers`, `Did`: see Demands). What document 01 defines stands in crate draft, in its words. That the fields hold is proofs/Rules.
-- Assumes nothing.
use Rattle.std.specs.Prelude.{◌≡◌, true, false, ◌↔◌, ◌≢◌, List, [], ◌∷◌, ◌++◌, ℕ, ◌-◌, ◌≤◌, ◌<◌, leb, length, take, get_or, replicate}
use Rattle.text.specs.Rfc3629.{UTF8-octets}
use Rattle.text.specs.Texts.{among}
use Rattle.draft.specs.declared.Refusal.{Refusal}
use Rattle.std.specs.Prelude.{Ok}
use Rattle.draft.specs.declared.Content.TheVariants as content
use Rattle.draft.specs.declared.Row.{Row}
use Rattle.draft.specs.declared.Tag.{Tag}
use Rattle.draft.specs.Bytes.{bytes, Below}
use Rattle.draft.specs.Content.{name_rule}
use Rattle.draft.specs.Refusals.{number_of}
use Rattle.draft.specs.Codebook.{Book}
use Rattle.draft.specs.Table.{room_of, place}
use Rattle.draft.specs.Limits.{allowed}
use Rattle.draft.specs.Read.{got, prefix, agree, message}
use Rattle.draft.specs.Grammar.{Cell, Sent, regular, recorded, recalled, Keeps, Begins}
use Rattle.draft.specs.Meaning.{MeanSame, Realises}
use Rattle.draft.specs.Strings.{Text, repeated, kept, position, plan, texts_of}
use Rattle.draft.specs.Writable.{writable_to}
use Rattle.draft.specs.Written.{written, rows_of}
use Rattle.read_answer.specs.declared.Answer.{Answer as Read}
use Rattle.read_answer.specs.declared.Answer.TheVariants as read
use Rattle.read_answer.specs.Answers.{reading, Answers, report_of}
use Rattle.write_answer.specs.Answers.{Answer as Write}
use Rattle.std.specs.declared.result.Result.TheVariants as write
use Rattle.write_answer.specs.Answers.{Did}
use Rattle.write_answer.specs.Answers as writer
use Rattle.occurring.specs.Occurring.{bit, times}
use Rattle.written.specs.Derivable.{DerivesRows, Within, HoldAlike}
use Rattle.demands_reading.specs.Refusing.{Underived, Deeper, Fuller}
use Rattle.demands_reading.specs.Placed.{Begun, Stands}
use Rattle.demands_reading.specs.Ordered.{Ordered}
use Rattle.demands_reading.specs.Cases.{cases, given, expected}

-- 'The message', 'Rows' and 'Numbers that bound the work'
pub record Reading : Type 0 where
  -- 'Bytes after the end of the Call or Response are ignored.'
  pub trailing_ignored :
      (limit : ℕ) (s more : List ℕ) (words : ℕ) {T T' : List ℕ} {n used : ℕ} {a : Read} → length (s ++ more) ≤ 65536
      → Answers (reading limit s words) words T (read.Accepted n used) → Answers (reading limit (s ++ more) words) words T' a
      → (read.Accepted n used ≡ a) × (T ≡ T')
  -- 'Text is well-formed UTF-8: no surplus length, no surrogates, nothing above U+10FFFF.' ('UTF-8 is RFC 3629')
  pub text_utf8 : (t : List ℕ) → Keeps content.Text t ↔ UTF8-octets t
  -- 'The name in an Other may not be one of: `i4`, `int`, `boolean`, ..'
  pub other_name :
      (t : List ℕ) → (name_rule t ≡ Ok tt)
      ↔ (among (bytes "i4" ∷ bytes "int" ∷ bytes "boolean" ∷ bytes "string" ∷ bytes "double" ∷ bytes "dateTime.iso8601" ∷ bytes "base64" ∷ bytes "struct"
      ∷ bytes "array" ∷ []) t ≡ false)
  -- 'Two tables, each with its own bytes, mean the same if ..': they do exactly if they mean the same cells
  pub mean_same : {s t : List ℕ} {xs ys : List Row} {cs ds : List Cell} → Realises s 0 xs cs → Realises t 0 ys ds → MeanSame s t xs ys ↔ (cs ≡ ds)
  -- and the rules leave a message no second meaning
  pub one_meaning :
      {s : List ℕ} {used used' nesting nesting' : ℕ} {cells cells' : List Cell} → Begins s used nesting cells → Begins s used' nesting' cells'
      → (used ≡ used') × (cells ≡ cells')
  -- 'For demand 3, the draft reads a byte string with a table's meaning if the reader's rules in this document accept it, with refusals 8, 9 and 10 put aside,
  -- so without a limit on bytes, rows or nesting': for some room and nesting, exactly if the draft derives it
  pub put_aside :
      (s : List ℕ) (used : ℕ) (cells : List Cell)
      → ((room : ℕ) × (deep : ℕ) × (rows : List Row) × (book : Book) × (message s room deep ≡ got rows used book) × Realises s 0 rows cells)
      ↔ ((nesting : ℕ) × Begins s used nesting cells)
  -- 'Words not used by an accepted message are 0 afterwards, spare words included.'
  pub unused_zero :
      (limit : ℕ) (s : List ℕ) (words : ℕ) {T : List ℕ} {n used : ℕ} → Answers (reading limit s words) words T (read.Accepted n used) → (i : ℕ)
      → ((r j : ℕ) → r < n → j < 4 → i ≡ place (room_of 4096 words) r j → ⊥) → get_or T i 0 ≡ 0
  -- 'The writer doesn't look at words after the stated rows.': two tables that both hold them, or neither does, with the same words in them
  pub stated_rows :
      (limit : ℕ) (T T' : List ℕ) (rows : ℕ) (s out₀ out₁ out out' : List ℕ) {a a' : Write} → Below 4294967296 T → Below 4294967296 T' → Below 256 s
      → HoldAlike rows T T' → length out₀ ≡ length out₁ → Did limit T rows s out₀ out a → Did limit T' rows s out₁ out' a'
      → ((r j : ℕ) → r < rows → j < 4 → get_or T (place (room_of 4096 (length T)) r j) 0 ≡ get_or T' (place (room_of 4096 (length T')) r j) 0)
      → (a ≡ a') × (out ≡ out')
  -- 'Nesting: an Array or Struct stands in at most 32 Arrays and Structs, itself counted.' (02: in at most the limit): `Begins s used d cells` says that it is
  -- at most d, so it says so of any greater number
  pub nesting_most : {s : List ℕ} {used d e : ℕ} {cells : List Cell} → Begins s used d cells → d ≤ e → Begins s used e cells

-- 'Refusal numbers'
pub record Refusals : Type 0 where
  -- 'the bytes end ..', 'the first bytes differ ..', 'a byte that begins nothing allowed there', and so on: 1, 2, 3, 5, 6, 7, and document 02's 14, 17 and 20,
  -- say that no beginning of the message is derived at all
  pub underived :
      (limit : ℕ) (s : List ℕ) (words : ℕ) {T : List ℕ} {m : Refusal} {place : ℕ} → Answers (reading limit s words) words T (read.Refused m place)
      → number_of m ≢ 8 → number_of m ≢ 9 → number_of m ≢ 10 → number_of m ≢ 23 → Underived s
  -- '8: nesting over 32' (02: over the limit): what is derived nests deeper; and what is derived, fits the room and nests deeper gets 8
  pub eight :
      (limit : ℕ) (s : List ℕ) (words : ℕ) {T : List ℕ} {m : Refusal} {place : ℕ} → Answers (reading limit s words) words T (read.Refused m place)
      → number_of m ≡ 8 → Deeper s limit
  pub eight_if :
      (limit : ℕ) (s : List ℕ) (words : ℕ) {T : List ℕ} {a : Read} {used nesting : ℕ} {cells : List Cell} → allowed limit ≡ true → length s ≤ 65536
      → Begins s used nesting cells → Answers (reading limit s words) words T a → length cells ≤ room_of 4096 words → (Begins s used limit cells → ⊥)
      → (report_of a).number ≡ 8
  -- '9: no row left': what is derived has more rows than the room; and what is derived, nests within the limit and has more rows gets 9
  pub nine :
      (limit : ℕ) (s : List ℕ) (words : ℕ) {T : List ℕ} {m : Refusal} {place : ℕ} → Answers (reading limit s words) words T (read.Refused m place)
      → number_of m ≡ 9 → Fuller s (room_of 4096 words)
  pub nine_if :
      (limit : ℕ) (s : List ℕ) (words : ℕ) {T : List ℕ} {a : Read} {used nesting : ℕ} {cells : List Cell} → allowed limit ≡ true → length s ≤ 65536
      → Begins s used nesting cells → Answers (reading limit s words) words T a → room_of 4096 words < length cells → nesting ≤ limit
      → (report_of a).number ≡ 9
  -- '10: message or text bytes over 65,536'
  pub ten :
      (limit : ℕ) (s : List ℕ) (words : ℕ) {T : List ℕ} {m : Refusal} {place : ℕ} → Answers (reading limit s words) words T (read.Refused m place)
      → number_of m ≡ 10 → 65536 < length s
  -- 'Acceptance is 0. The reader accepting reports rows and bytes used (trailing bytes not counted) and place 0; refusing, 0 rows, 0 bytes used, the place'
  pub reader_report :
      ((n used : ℕ) → report_of (read.Accepted n used) ≡ record { number = 0; rows = n; used = used; place = 0 })
      × ((m : Refusal) (p : ℕ) → report_of (read.Refused m p) ≡ record { number = number_of m; rows = 0; used = 0; place = p })
  -- 'The writer accepting reports the length ..; refusing, length 0, place 0'
  pub writer_report :
      ((n : ℕ) → writer.report_of (write.Ok n) ≡ record { number = 0; length = n; place = 0 })
      × ((m : Refusal) → writer.report_of (write.Err m) ≡ record { number = number_of m; length = 0; place = 0 })
  -- 'with all output bytes after them 0'
  pub output_behind :
      (limit : ℕ) (T : List ℕ) (rows : ℕ) (s out₀ out : List ℕ) {n : ℕ} → Did limit T rows s out₀ out (write.Ok n)
      → out ≡ written s (rows_of 4096 T rows) ++ replicate (length out₀ - n) 0
  -- 'Reader's order: 10; then 2, over as many of the 12 bytes as are present; then 1 if fewer than 12. These have place 0.'
  pub order_ten :
      (limit : ℕ) (s : List ℕ) (words : ℕ) {T : List ℕ} {a : Read} → allowed limit ≡ true → Answers (reading limit s words) words T a
      → 65536 < length s → report_of a ≡ record { number = 10; rows = 0; used = 0; place = 0 }
  pub order_two :
      (limit : ℕ) (s : List ℕ) (words : ℕ) {T : List ℕ} {a : Read} → allowed limit ≡ true → Answers (reading limit s words) words T a
      → length s ≤ 65536 → agree s prefix ≡ false → report_of a ≡ record { number = 2; rows = 0; used = 0; place = 0 }
  pub order_one :
      (limit : ℕ) (s : List ℕ) (words : ℕ) {T : List ℕ} {a : Read} → allowed limit ≡ true → Answers (reading limit s words) words T a
      → length s ≤ 65536 → agree s prefix ≡ true → length s < 12 → report_of a ≡ record { number = 1; rows = 0; used = 0; place = 0 }
  -- 'Then items from left to right; the first failure decides': an answer other than 1 stays, with its place and table, whatever bytes follow
  pub first_decides :
      (limit : ℕ) (s more : List ℕ) (words : ℕ) {T T' : List ℕ} {a a' : Read} → length (s ++ more) ≤ 65536 → (report_of a).number ≢ 1
      → Answers (reading limit s words) words T a → Answers (reading limit (s ++ more) words) words T' a' → (a ≡ a') × (T ≡ T')
  -- 'and its place is the first byte of that item (the end of the bytes, if nothing stands there).': what its number says stands there (23 and 10, which
  -- come before all items, apart); 'The Call or Response is the first item, at 12. .. after `F`, the Struct at 14.'
  pub placed :
      (limit : ℕ) (s : List ℕ) (words : ℕ) {T : List ℕ} {m : Refusal} {place : ℕ} → Answers (reading limit s words) words T (read.Refused m place)
      → number_of m ≢ 10 → number_of m ≢ 23 → Stands s (number_of m) place
  -- 'Within an item: 1 if no byte is there; 3; 8; 9; 1 for its fixed fields; 1 for its content; then 5 or 6.': wherever a Value is looked for,
  -- by the tag of its first byte, with 6 exactly for a recall whose position holds nothing; that 5 and 6 come last is `placed`: the fields and the content
  -- of their items do not end behind the bytes
  pub within_item :
      (s : List ℕ) (room deep at r : ℕ) (book : Book) (t : Tag) → Begun s at t → Ordered s room deep at r book t
  -- 'Writer's order: 10, 11, 12, 13.' (02, E11: 23 before them)
  pub writer_ten :
      (limit : ℕ) (T : List ℕ) (rows : ℕ) (s out₀ out : List ℕ) {a : Write} → Did limit T rows s out₀ out a
      → ((writer.report_of a).number ≡ 10) ↔ ((allowed limit ≡ true) × (65536 < length s))
  pub writer_eleven :
      (limit : ℕ) (T : List ℕ) (rows : ℕ) (s out₀ out : List ℕ) {a : Write} → Did limit T rows s out₀ out a
      → ((writer.report_of a).number ≡ 11) ↔ ((allowed limit ≡ true) × (length s ≤ 65536) × (writable_to limit T rows s ≡ false))
  pub writer_twelve :
      (limit : ℕ) (T : List ℕ) (rows : ℕ) (s out₀ out : List ℕ) {a : Write} → Did limit T rows s out₀ out a
      → ((writer.report_of a).number ≡ 12)
      ↔ ((allowed limit ≡ true) × (length s ≤ 65536) × (writable_to limit T rows s ≡ true) × (65536 < length (written s (rows_of 4096 T rows))))
  pub writer_thirteen :
      (limit : ℕ) (T : List ℕ) (rows : ℕ) (s out₀ out : List ℕ) {a : Write} → Did limit T rows s out₀ out a
      → ((writer.report_of a).number ≡ 13)
      ↔ ((allowed limit ≡ true) × (length s ≤ 65536) × (writable_to limit T rows s ≡ true) × (length (written s (rows_of 4096 T rows)) ≤ 65536)
      × (length out₀ < length (written s (rows_of 4096 T rows))))
  -- 'A table with a stated number of rows is writable if ..': exactly if that number is 1 to 4,096, the words hold them, the text bytes are at most 65,536, and
  -- the draft derives from some bytes what the rows mean, nested to at most the limit
  pub writable_exactly :
      (limit : ℕ) (T : List ℕ) (rows : ℕ) (s : List ℕ) → Below 4294967296 T → Below 256 s
      → (writable_to limit T rows s ≡ true) ↔ (Within 65536 4096 T rows s × ((xs : List ℕ) × Below 256 xs × DerivesRows limit xs s (rows_of 4096 T rows)))

-- the string behind so many others, as the written form of these strings sends it
abbrev pub sent_in : List Text → ℕ → Sent
sent_in ts i = get_or (plan ts) i (regular [])

-- how it sends t, which stands behind the strings `before`
pub record Forms (before : List Text) (t : Text) (ts : List Text) : Type 0 where
  pub first_time : among (kept ts) t ≡ true → among before t ≡ false → sent_in ts (length before) ≡ recorded (position (kept ts) t) t
  pub from_then_on : among (kept ts) t ≡ true → among before t ≡ true → sent_in ts (length before) ≡ recalled (position (kept ts) t) t
  pub every_other : among (kept ts) t ≡ false → sent_in ts (length before) ≡ regular t

-- 'The written form' and 'Messages to check against'
pub record Writing : Type 0 where
  -- 'The texts that occur at least twice get positions 0, 1, 2 .. in order of first occurrence, 256 at most.'
  pub repeated_twice : (u : Text) (ts : List Text) → times u (repeated ts) ≡ bit (leb 2 (times u ts))
  pub positions : (ts : List Text) → (length (kept ts) ≤ 256) × ((t : Text) → among (kept ts) t ≡ true → position (kept ts) t < 256)
  -- the first 256 have one; the text at i has i; and of two, the one that occurs first has one if the other has, and the smaller
  pub kept_first : (ts : List Text) → kept ts ≡ take 256 (repeated ts)
  pub from_zero : (ts : List Text) (i : ℕ) → i < length (kept ts) → position (kept ts) (get_or (kept ts) i []) ≡ i
  pub in_order :
      (ts before : List Text) (t u : Text) (after : List Text) → ts ≡ before ++ (t ∷ after) → among (kept ts) t ≡ true → among (repeated ts) u ≡ true
      → among before t ≡ false → among before u ≡ true → (among (kept ts) u ≡ true) × (position (kept ts) u < position (kept ts) t)
  -- 'Each of them is `>` the first time and `<` from then on. Every other string is `U` each time.': the string t, in row order behind others, as the written
  -- form sends it (`written` is the message that sends its strings as `plan` says)
  pub forms : (before : List Text) (t : Text) (after : List Text) → Forms before t (before ++ (t ∷ after))
  -- 'Nothing follows the message.': the draft derives all the bytes written
  pub nothing_follows :
      (limit : ℕ) (T : List ℕ) (rows : ℕ) (s out₀ out : List ℕ) {n : ℕ} → Below 4294967296 T → Did limit T rows s out₀ out (write.Ok n)
      → DerivesRows limit (take n out) s (rows_of 4096 T rows)
  -- 'So the written bytes are settled by the meaning, and equal written bytes come only from equal meaning.'
  pub same_bytes :
      (limit limit' : ℕ) (T T' : List ℕ) (rows rows' : ℕ) (s s' out₀ out₁ out out' : List ℕ) {n n' : ℕ} → Below 4294967296 T → Below 4294967296 T'
      → Did limit T rows s out₀ out (write.Ok n) → Did limit' T' rows' s' out₁ out' (write.Ok n')
      → MeanSame s s' (rows_of 4096 T rows) (rows_of 4096 T' rows') ↔ (take n out ≡ take n' out')
  -- 'A table made by the reader is never refused with 11 when its message serves as text bytes. If at most 256 texts repeat, it isn't refused with 12 either'
  -- (02, E11: 'where the later call's limit is not lower'). 'with more, it may be': a message shows it, `USED_AGAIN` of `second/src/papers.rs`
  pub from_the_reader :
      (limit : ℕ) (s : List ℕ) (words later : ℕ) {T : List ℕ} {n used : ℕ} (out₀ out : List ℕ) {m : Refusal} → Below 256 s → limit ≤ later
      → Answers (reading limit s words) words T (read.Accepted n used) → Did later T n s out₀ out (write.Err m)
      → (number_of m ≡ 11 → ⊥) × (length (repeated (texts_of s (rows_of 4096 T n))) ≤ 256 → number_of m ≡ 12 → ⊥)
  -- 'Marked P: proved as one table of cases over the definitions, under a single statement.'
  pub cases_read : given cases ≡ expected cases

pub record Rules : Type 0 where
  pub reading : Reading
  pub refusals : Refusals
  pub writing : Writing
