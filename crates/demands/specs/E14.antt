-- Request E14, a second data house. Each sentence of document 02's paragraph stands above the fields that hold it, or with a line that says where
-- it is held. `Answers (reading e limit s words) words T a` is the promise of `glyph_reader::read`, for an edition, a limit of nesting, a message s, a
-- table of so many words that is T after the call, and its answer a; `Did e limit T rows s out₀ out a` that of `glyph_writer::write`, for a table T with
-- so many stated rows, text bytes s, and an output that is out₀ before the call and out after it; `ReadFor` and `WroteFor` are those of
-- `glyph_stations::read` and `write`, for a table that is split at a row. None has a `requires`. That the fields hold is proofs/E14. Assumes nothing.
use Rattle.std.specs.Prelude.{◌≡◌, true, false, ◌↔◌, List, ◌∷◌, ℕ, ◌*◌, ◌/◌, ◌≤◌, ◌<◌, length, take, drop, replicate, Ok, Err}
use Rattle.draft.specs.Limits.{allowed}
use Rattle.draft.specs.Meaning.{MeanSame}
use Rattle.draft.specs.Table.{room_of, place, row_at, rows_at}
use Rattle.draft.specs.Writable.{writable_to}
use Rattle.draft.specs.Written.{rows_of}
use Rattle.written.specs.Derivable.{Within, HoldAlike}
use Rattle.write_answer.specs.Answers.{Answer as BinmodeAnswer}
use Rattle.write_answer.specs.Answers as binmode
use Rattle.plan_writer.specs.Answers.{Answer as PlanAnswer}
use Rattle.plan_writer.specs.Answers as planned
use Rattle.layouts.specs.Layouts.{by_rows, put_rows_by, SameRows}
use Rattle.shares.specs.declared.Station.{Station}
use Rattle.shares.specs.Share.{no_share, other, splits, size_of, share_of}
use Rattle.glyph.specs.declared.Edition.{Edition}
use Rattle.glyph.specs.declared.Refusal.{Refusal}
use Rattle.glyph.specs.declared.Refusal.TheVariants.{Ended, UnexpectedByte, BadText, TooDeep, NoRow, TooLong, RepeatedKey, BadLimit, OutOfRange}
use Rattle.glyph.specs.Refusals.{number_of}
use Rattle.glyph.specs.Numbers.{is_blank}
use Rattle.glyph.specs.Tree.{Tree, cells}
use Rattle.glyph.specs.Grammar.{Blanks, Root}
use Rattle.glyph.specs.Answers.{Answer, accepted_as, refused_as, reading, Answers}
use Rattle.glyph_form.specs.Writable.{writable}
use Rattle.glyph_form.specs.Form.{written}
use Rattle.glyph_form.specs.Answers.{Answer as WriterAnswer, Did}
use Rattle.glyph_form.specs.Cases as writing
use Rattle.glyph_order.specs.Same.{Same}
use Rattle.glyph_told.specs.Tables.{Words, tree_of, Derivable}
use Rattle.glyph_stations.specs.Answers.{StationAnswer, ReadFor, WroteFor, WriteAnswer}
use Rattle.glyph_reports.specs.Numbers as read-report
use Rattle.glyph_reports.specs.Writing as write-report
use Rattle.glyph_demands.specs.Answered.{has, letters_of, Allowed, Derived, AllEnd, RefusedFor, rows_in, Columns, Lasting}
use Rattle.glyph_demands.specs.Cases.{cases, expected, given}
use Rattle.glyph_written.specs.RowKinds.{binmode_kinds, glyph_kinds}
use Rattle.glyph_writing_demands.specs.Accepting as writer
use Rattle.glyph_writing_demands.specs.Accepting.{Says, AcceptedFor}
use Rattle.glyph_shares.specs.Own.{OwnRead, OwnWrite, LastingFor}

-- the kind of row r of a table
abbrev pub kind_at : List ℕ → ℕ → ℕ
kind_at T r = (row_at (room_of 4096 (length T)) T r).kind

-- A CALL OF THE READER. 'It sends hyperglyph 1.0 (document 003), its old depot glyph 0.5 (document 000)': both grammars are `Root`, over the edition.
pub record Reads (e : Edition) (limit : ℕ) (s : List ℕ) (words : ℕ) (T : List ℕ) (a : Answer) : Type 0 where
  -- 'Read .. integer (signed 32-bit), unicode, bytearray, T, F, N, list, dict, ordered_dict, extension and node': a message is accepted exactly if the
  -- edition's grammar derives it within the limits, and the rows mean what is derived;
  pub taken : {used : ℕ} {t : Tree} → Allowed limit s → Root e limit s used t → length (cells t) ≤ room_of 4096 words → a ≡ accepted_as (length (cells t)) used
  pub means : {n used : ℕ} → a ≡ accepted_as n used → Derived e limit s (room_of 4096 words) (rows_at (room_of 4096 words) T 0 n) used
  -- '`u;` and `b;` have the offset of their `;`': at that offset, as behind every unicode and bytearray, a `;` stands. That it is their own: `cases_read`.
  pub all_end : {n used : ℕ} → a ≡ accepted_as n used → AllEnd s (rows_at (room_of 4096 words) T 0 n)
  -- 'other letters are 3.'
  pub other_letters : {x : ℕ} {rest : List ℕ} → s ≡ x ∷ rest → Allowed limit s → is_blank x ≡ false → has (letters_of e) x ≡ false → a ≡ refused_as UnexpectedByte 0

-- A CALL OF THE WRITER.
pub record Writes (e : Edition) (limit : ℕ) (T : List ℕ) (rows : ℕ) (s out₀ out : List ℕ) (a : WriterAnswer) : Type 0 where
  -- 'Each writer says 11 for a kind its form or edition lacks': in any stated row. Binmode's writer is below.
  pub lacks : Words T → allowed limit ≡ true → length s ≤ 65536 → (r : ℕ) → r < rows → has (glyph_kinds e) (kind_at T r) ≡ false → Says 11 a
  -- 'An extension's name is unicode and its attributes either dict, for 0.5 by our own rule; a 0.5 node takes any objects.' So are the grammar's `Parts`;
  -- the tables that are written are those whose rows mean what it derives.
  pub writable_exactly : Words T → (writable e limit T rows s ≡ true) ↔ (Within 65536 4096 T rows s × Derivable e limit s (rows_of 4096 T rows))
  pub accepted_exactly : (n : ℕ) → (a ≡ Ok n) ↔ AcceptedFor e limit T rows s (length out₀) n
  -- 'Blanks the grammar allows are read, none written; integers and lengths are written without plus or leading zeros, zero as `i0;`, empty texts as `u;`
  -- and `b;`, plain dicts in byte order of keys.' So is the form `written`, and the output begins with it.
  pub the_form : {n : ℕ} → a ≡ Ok n → take n out ≡ written e (tree_of e limit T s)
  -- '.. and reading back keeps it': with blanks behind the bytes or not, and with a limit that is not lower.
  pub read_back :
      {n : ℕ} → a ≡ Ok n → Words T → (later : ℕ) → limit ≤ later → allowed later ≡ true → (t : List ℕ) (words : ℕ) {T' : List ℕ} {b : Answer}
      → take n t ≡ take n out → Blanks (drop n t) → length t ≤ 65536 → rows ≤ room_of 4096 words → Answers (reading e later t words) words T' b
      → (b ≡ accepted_as rows n) × Same (tree_of e limit T s) (tree_of e later T' t)

-- MEANING, of two tables that are written.
pub record Means (e : Edition) (limit limit' : ℕ) (T T' : List ℕ) (rows rows' : ℕ) (s s' out out' : List ℕ) (n n' : ℕ) : Type 0 where
  -- 'Meaning is as in 01, a plain dict's pair order aside'. 01's equates tables that tell the same tree; `Same` puts that order aside besides. It settles
  -- the bytes, and is settled by them.
  pub as_in_01 : MeanSame s s' (rows_of 4096 T rows) (rows_of 4096 T' rows') ↔ (tree_of e limit T s ≡ tree_of e limit' T' s')
  pub one_form : Same (tree_of e limit T s) (tree_of e limit' T' s') ↔ (take n out ≡ take n' out')

-- E10 TO E12, of a station's calls. 22 is told exactly if the row splits no table, and then nothing lent is changed; otherwise a call does on its share what
-- the call without stations does on a table of the share's size, and changes no word of the other's share nor one beyond the last whole row.
pub record Shared (e : Edition) (limit : ℕ) (s : List ℕ) (station : Station) (split : ℕ) (T T' : List ℕ) (a : StationAnswer) : Type 0 where
  pub not_split_lem : (a ≡ Err no_share) ↔ (splits split (length T) ≡ false)
  pub nothing_changed : a ≡ Err no_share → T' ≡ T
  pub own : splits split (length T) ≡ true → OwnRead e limit s (size_of station split (length T)) (share_of station split T') a
  pub others_stay : splits split (length T) ≡ true → share_of (other station) split T' ≡ share_of (other station) split T
  pub beyond_stays : drop (length T / 4 * 4) T' ≡ drop (length T / 4 * 4) T
  -- E12: the share has its columns inside its own words, as a table of its size; E11: 23 at place 0, with the share zeroed
  pub columns :
      splits split (length T) ≡ true
      → Columns (size_of station split (length T)) (share_of station split T') (rows_in (reading e limit s (size_of station split (length T))))
  pub unlimited :
      splits split (length T) ≡ true → allowed limit ≡ false
      → (a ≡ Ok (refused_as BadLimit 0)) × (share_of station split T' ≡ replicate (size_of station split (length T)) 0)

pub record SharedWrite (e : Edition) (limit : ℕ) (T : List ℕ) (station : Station) (split rows : ℕ) (s out out' : List ℕ) (a : WriteAnswer) : Type 0 where
  pub not_split_lem : (a ≡ (Err no_share)) ↔ (splits split (length T) ≡ false)
  pub nothing_changed : a ≡ (Err no_share) → out' ≡ out
  pub own : splits split (length T) ≡ true → OwnWrite e limit (share_of station split T) rows s out out' a
  pub unlimited :
      splits split (length T) ≡ true → allowed limit ≡ false → (b : WriterAnswer) × (a ≡ Ok b) × Says 23 b × (out' ≡ replicate (length out) 0)

pub record E14 : Type 0 where
  -- The reader's refusals have the numbers of documents 01 and 02.
  pub numbers :
      (number_of Ended ≡ 1) × (number_of UnexpectedByte ≡ 3) × (number_of BadText ≡ 5) × (number_of TooDeep ≡ 8) × (number_of NoRow ≡ 9) × (number_of TooLong ≡ 10)
      × (number_of RepeatedKey ≡ 20) × (number_of BadLimit ≡ 23) × (number_of OutOfRange ≡ 25)
  pub reads :
      (e : Edition) (limit : ℕ) (s : List ℕ) (words : ℕ) {T : List ℕ} {a : Answer} → Answers (reading e limit s words) words T a
      → Reads e limit s words T a
  -- 'Row 0 is the root object; new kinds, with a 0, are 13 nil (b 0), 14 ordered_dict (b pairs), 15 extension and 16 node (both b 3). `u;` and `b;` have the
  -- offset of their `;`. Keys of both dicts are unicode and distinct. In 1.0 `X` is an extension; in 0.5 `X` is a node and `H` an extension; the caller
  -- names the edition.' These are `cells`, `Members`, `Extends` and `Nodes` of crate glyph; `means` says them of the rows, and this of many messages:
  pub cases_read : given cases ≡ expected cases
  pub writes :
      (e : Edition) (limit : ℕ) (T : List ℕ) (rows : ℕ) (s out₀ out : List ℕ) {a : WriterAnswer} → Did e limit T rows s out₀ out a
      → Writes e limit T rows s out₀ out a
  -- 'Each writer says 11': Binmode's, without a plan and with one;
  pub binmode_lacks :
      (limit : ℕ) (T : List ℕ) (rows : ℕ) (s out₀ out : List ℕ) {a : BinmodeAnswer} → Words T → allowed limit ≡ true → length s ≤ 65536 → (r : ℕ) → r < rows
      → has binmode_kinds (kind_at T r) ≡ false → binmode.Did limit T rows s out₀ out a → binmode.report_of a ≡ record { number = 11; length = 0; place = 0 }
  pub plan_lacks :
      (limit : ℕ) (T : List ℕ) (rows : ℕ) (s plan out₀ out : List ℕ) {a : PlanAnswer} → Words T → allowed limit ≡ true → length s ≤ 65536 → (r : ℕ) → r < rows
      → has binmode_kinds (kind_at T r) ≡ false → planned.Did limit T rows s plan out₀ out a → planned.report_of a ≡ record { number = 11; length = 0; place = 0 }
  -- 'lookup, index and defaults stay with Binmode tables.' They say 11 for a table that is not writable to 32 for Binmode (pages E5, E8, E9).
  pub not_both :
      (e : Edition) (limit deep : ℕ) (T : List ℕ) (rows : ℕ) (s : List ℕ) → Words T → writable e deep T rows s ≡ true → writable_to limit T rows s ≡ false
  -- 'Shared parts are proved once over the edition': so is every field here.
  -- The form, of many tables.
  pub cases_written : writing.written writing.cases ≡ writing.expected writing.cases
  pub meaning :
      (e : Edition) (limit limit' : ℕ) (T T' : List ℕ) (rows rows' : ℕ) (s s' out₀ out₁ out out' : List ℕ) {n n' : ℕ} → Words T → Words T'
      → Did e limit T rows s out₀ out (Ok n) → Did e limit' T' rows' s' out₁ out' (Ok n') → Means e limit limit' T T' rows rows' s s' out out' n n'
  -- 'demand 3 speaks of Binmode tables alone.' 'Numbers need a digit; lengths may have leading zeros. The grammars decide over the examples. Nesting counts
  -- containers, extensions and nodes.' These are `Number` and the depth of `Object`; what is derived has one meaning.
  pub one_meaning : {e : Edition} {d d' : ℕ} {s : List ℕ} {used used' : ℕ} {t t' : Tree} → Root e d s used t → Root e d' s used' t' → (used ≡ used') × (t ≡ t')
  -- 'E10 to E12 hold too.' E10: as above; and answers, share and output depend on a station's own material and its share's size.
  pub shared :
      {e : Edition} {limit : ℕ} {s : List ℕ} {station : Station} {split : ℕ} {T T' : List ℕ} {a : StationAnswer} → ReadFor e limit s station split T T' a
      → Shared e limit s station split T T' a
  pub shared_write :
      {e : Edition} {limit : ℕ} {T : List ℕ} {station : Station} {split rows : ℕ} {s out out' : List ℕ} {a : WriteAnswer}
      → WroteFor e limit T station split rows s out out' a → SharedWrite e limit T station split rows s out out' a
  pub reported :
      (read-report.station_report_of (Err no_share) ≡ record { number = 22; rows = 0; used = 0; place = 0 })
      × (write-report.station_report_of (Err no_share) ≡ record { number = 22; length = 0 })
  pub read_alike :
      (here there : Station) (split split' : ℕ) (T U : List ℕ) → splits split (length T) ≡ true → splits split' (length U) ≡ true
      → size_of here split (length T) ≡ size_of there split' (length U) → (e : Edition) (limit : ℕ) (s : List ℕ) {T' U' : List ℕ} {a b : StationAnswer}
      → ReadFor e limit s here split T T' a → ReadFor e limit s there split' U U' b → (a ≡ b) × (share_of here split T' ≡ share_of there split' U')
  pub write_alike :
      (here there : Station) (split split' : ℕ) (T U : List ℕ) → splits split (length T) ≡ true → splits split' (length U) ≡ true
      → share_of here split T ≡ share_of there split' U → (e : Edition) (limit rows : ℕ) (s out₀ out₁ : List ℕ) → length out₀ ≡ length out₁
      → {out out' : List ℕ} {a b : WriteAnswer} → WroteFor e limit T here split rows s out₀ out a → WroteFor e limit U there split' rows s out₁ out' b
      → (a ≡ b) × (out ≡ out')
  -- E11: an answer other than 8, 9, 22 and 23 stays, with its place and rows, under a higher limit, in a larger table or share, the added words being zero;
  pub stays :
      (e : Edition) (s : List ℕ) {limit later words words' : ℕ} → limit ≤ later → later ≤ 32 → words ≤ words' → {T T' : List ℕ} {a b : Answer}
      → Answers (reading e limit s words) words T a → Answers (reading e later s words') words' T' b → Lasting a
      → (b ≡ a) × Columns words' T' (rows_in (reading e limit s words))
  pub share_stays :
      (here there : Station) (split split' : ℕ) (T U : List ℕ) → splits split (length T) ≡ true → splits split' (length U) ≡ true → (e : Edition) (s : List ℕ)
      {limit later : ℕ} → limit ≤ later → later ≤ 32 → size_of here split (length T) ≤ size_of there split' (length U) → {T' U' : List ℕ} {a b : StationAnswer}
      → ReadFor e limit s here split T T' a → ReadFor e later s there split' U U' b → LastingFor a
      → (b ≡ a) × Columns (size_of there split' (length U)) (share_of there split' U') (rows_in (reading e limit s (size_of here split (length T))))
  -- a table made by the reader is refused with neither 11 nor 12 by a call whose limit is not lower;
  pub from_the_reader :
      (e : Edition) (limit : ℕ) (s : List ℕ) (words : ℕ) {T : List ℕ} {n used : ℕ} → Answers (reading e limit s words) words T (accepted_as n used) → (later : ℕ)
      → limit ≤ later → (out₀ out : List ℕ) {a : WriterAnswer} → Did e later T n s out₀ out a → (Says 11 a → ⊥) × (Says 12 a → ⊥)
  -- E12: word j of row r stands at c times j plus r, spare words are zero, and the rows are those of the table that was one row after the other;
  pub columns :
      (e : Edition) (limit : ℕ) (s : List ℕ) (words : ℕ) {T : List ℕ} {a : Answer} → Answers (reading e limit s words) words T a
      → Columns words T (rows_in (reading e limit s words))
      × SameRows by_rows place (put_rows_by by_rows (room_of 4096 words) (replicate words 0) 0 (rows_in (reading e limit s words))) T
  -- and the writer looks past the stated rows in no column.
  pub stated_columns :
      (e : Edition) (limit : ℕ) (T T' : List ℕ) (rows : ℕ) (s out₀ out₁ out out' : List ℕ) {a a' : WriterAnswer} → Words T → Words T' → HoldAlike rows T T'
      → length out₀ ≡ length out₁ → Did e limit T rows s out₀ out a → Did e limit T' rows s out₁ out' a'
      → ((j : ℕ) → j < 4 → take rows (drop (room_of 4096 (length T) * j) T) ≡ take rows (drop (room_of 4096 (length T') * j) T')) → (a ≡ a') × (out ≡ out')
  -- 'After the root only blanks may follow, not counted as used': so is `Root`.
  -- 'Refusals: 25 for an integer out of range; 3 also for a wrong byte inside an item (left to right, after 9), or one after the root that is no blank; 20 for
  -- a second equal key; 1 for a length past the end, however large; the rest as in 01, 5 and 25 after the item's `;`; all at the item's first byte, or,
  -- where an object or the `;` of one with children is due, at the byte there or the bytes' end; after the root, at that byte.' So are
  -- `message` of crate glyph and `cases_read`. A refusal's number is true: `RefusedFor` has what it says of the message, and for 1, 3, 5, 20 and 25 of
  -- what stands at its place. Then the table is zeros.
  pub refused_true :
      (e : Edition) (limit : ℕ) (s : List ℕ) (words : ℕ) {T : List ℕ} {m : Refusal} {p : ℕ} → Answers (reading e limit s words) words T (refused_as m p)
      → RefusedFor e limit s (room_of 4096 words) (number_of m) p × (T ≡ replicate words 0)
  -- 10, at place 0, for every message of more than 65,536 bytes, whatever stands in it; 23 comes before it.
  pub too_long :
      (e : Edition) (limit : ℕ) (s : List ℕ) (words : ℕ) {T : List ℕ} {a : Answer} → Answers (reading e limit s words) words T a → allowed limit ≡ true
      → 65536 < length s → a ≡ refused_as TooLong 0
  -- The writer's: 23, 10, 11, 12 and 13, each exactly for its reason after those before it; and zeros.
  pub write_refused :
      (e : Edition) (limit : ℕ) (T : List ℕ) (rows : ℕ) (s out₀ out : List ℕ) {a : WriterAnswer} → Did e limit T rows s out₀ out a → (n : ℕ)
      → (Says n a ↔ writer.RefusedFor e limit T rows s (length out₀) n) × (Says n a → out ≡ replicate (length out₀) 0)
  -- 23 at place 0, with the table or the output zeroed (E11).
  pub unlimited :
      (e : Edition) (limit : ℕ) (s : List ℕ) (words : ℕ) {T : List ℕ} {a : Answer} → Answers (reading e limit s words) words T a
      → ((a ≡ refused_as BadLimit 0) ↔ (allowed limit ≡ false)) × (allowed limit ≡ false → T ≡ replicate words 0)
  pub write_unlimited :
      (e : Edition) (limit : ℕ) (T : List ℕ) (rows : ℕ) (s out₀ out : List ℕ) {a : WriterAnswer} → Did e limit T rows s out₀ out a → allowed limit ≡ false
      → Says 23 a × (out ≡ replicate (length out₀) 0)
  -- And demand 1: 'After every call the whole lent table or output is settled by that call's material and the buffer's length'.
  pub settled :
      (e : Edition) (limit : ℕ) (s : List ℕ) (words : ℕ) {T T' : List ℕ} {a a' : Answer}
      → Answers (reading e limit s words) words T a → Answers (reading e limit s words) words T' a' → (a ≡ a') × (T ≡ T')
  pub output_settled :
      (e : Edition) (limit : ℕ) (T : List ℕ) (rows : ℕ) (s out₀ out₁ out out' : List ℕ) {a a' : WriterAnswer} → length out₀ ≡ length out₁
      → Did e limit T rows s out₀ out a → Did e limit T rows s out₁ out' a' → (a ≡ a') × (out ≡ out')
