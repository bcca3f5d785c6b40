-- REQUEST E7: the same key twice in one Struct. Each sentence is a field, over the definitions and the promises of `reader::read` and `writer::write`
-- (`Answers`, `Did`: see Demands). That the fields hold is proofs/E7. Assumes nothing.
use Rattle.std.specs.Prelude.{◌≡◌, true, false, ◌↔◌, List, [], ◌∷◌, ◌++◌, ℕ, suc, ◌+◌, ◌≤◌, ◌<◌, length}
use Prim.Native.Char.{code}
use Rattle.text.specs.Texts.{among}
use Rattle.draft.specs.declared.Refusal.{Refusal}
use Rattle.draft.specs.declared.Refusal.TheVariants.{RepeatedKey}
use Rattle.draft.specs.declared.Row.{Row}
use Rattle.draft.specs.Bytes.{bytes, Below}
use Rattle.draft.specs.Refusals.{number_of}
use Rattle.draft.specs.Codebook.{Book}
use Rattle.draft.specs.Table.{room_of, row_at}
use Rattle.draft.specs.Limits.{allowed}
use Rattle.draft.specs.Read.{got, refused, Reader, behind, string, only, first_text, member, struct_item, nested, fault_struct}
use Rattle.draft.specs.Writable.{writable}
use Rattle.draft.specs.Grammar.{Cell, Sent, LSB, Pairs, String, Legal}
use Rattle.member.specs.declared.Member.{Member}
use Rattle.member.specs.Members.{members, keys_of}
use Rattle.read_answer.specs.declared.Answer.{Answer as Read}
use Rattle.read_answer.specs.declared.Answer.TheVariants as read
use Rattle.read_answer.specs.Answers.{reading, Answers, report_of}
use Rattle.write_answer.specs.Answers.{Answer as Write}
use Rattle.write_answer.specs.Answers.{Did}
use Rattle.write_answer.specs.Answers as writer
use Rattle.defaults.specs.Defaults.{Source, is_writable}
use Rattle.demands_reading.specs.Members.{PairsWith, Distinct}
use Rattle.demands_reading.specs.Placed.{Stands}
use Rattle.demands_lookups.specs.Asked.{Has}
use Rattle.demands.specs.Demands.{Demand3}

-- the rows of a table by their numbers
abbrev pub rows_in : List ℕ → ℕ → Row
rows_in T r = row_at (room_of 4096 (length T)) T r

-- in a table of so many rows, with these bytes, no two members of the Struct of row r have the same key
abbrev pub KeysDistinct : List ℕ → ℕ → List ℕ → ℕ → Type 0
KeysDistinct T rows s r = Distinct (keys_of (rows_in T) s (members (rows_in T) rows r))

-- a Response with a Struct: its count of members, bytes of members, a key, and whatever follows
abbrev pub struct_sent : ℕ → ℕ → ℕ → ℕ → List ℕ → List ℕ → List ℕ → List ℕ
struct_sent i j k l xs ys more = bytes "binmode-rpc:RS" ++ (i ∷ j ∷ k ∷ l ∷ (xs ++ (ys ++ more)))

pub record E7 : Type 0 where
  -- 'A Struct now has distinct keys, compared as bytes, recalled ones too.': a Struct's pairs are those of which any two keys differ as bytes, whichever way
  -- each is sent; nothing else is asked of them
  pub distinct_keys :
      {d n : ℕ} {xs : List ℕ} {cs : List Cell} {fs : List Sent}
      → Pairs d [] n xs cs fs ↔ ((keys : List (List ℕ)) × (length keys ≡ n) × PairsWith d keys xs cs fs × Distinct keys)
  -- 'That holds for every table read or writable'
  pub read_distinct :
      (limit : ℕ) (s : List ℕ) (words : ℕ) {T : List ℕ} {n used : ℕ} → Answers (reading limit s words) words T (read.Accepted n used)
      → (r : ℕ) → KeysDistinct T n s r
  pub writable_distinct : (T : List ℕ) (rows : ℕ) (s : List ℕ) → Below 4294967296 T → writable T rows s ≡ true → (r : ℕ) → KeysDistinct T rows s r
  -- 'so E5's "first wins" falls away': of a Struct's members there is only one with the key (the same field as E5's)
  pub only_one :
      (c : Source) → is_writable c ≡ true → Below 4294967296 c.table → (key : List ℕ) (m m' : Member) → Has c key m → Has c key m' → m ≡ m'
  -- 'Demand 3 stands for the tables that remain.'
  pub demand_three : Demand3
  -- 'Refusals: 20, as soon as the second key is read, .. at that key's place': so answers `reader::read` to a Struct that announces n members, with distinct
  -- keys as far as they go, and then a key ys that is one of those, whatever follows; 20 comes at a String alone; and wherever a
  -- member stands, its key is judged so before its value is read
  pub twenty :
      (d i j k l : ℕ) {n : ℕ} {keys : List (List ℕ)} {xs ys t : List ℕ} {cs : List Cell} {fs : List Sent} {f : Sent} (more : List ℕ) (words : ℕ) {T : List ℕ}
      {a : Read} → allowed (suc d) ≡ true → length (struct_sent i j k l xs ys more) ≤ 65536 → 2 + length cs < room_of 4096 words → LSB n i j k l
      → PairsWith d keys xs cs fs → Distinct keys → String ys t f → length keys < n → among keys t ≡ true → Legal [] (fs ++ (f ∷ []))
      → Answers (reading (suc d) (struct_sent i j k l xs ys more) words) words T a
      → report_of a ≡ record { number = 20; rows = 0; used = 0; place = 18 + length xs }
  pub twenty_only :
      (limit : ℕ) (s : List ℕ) (words : ℕ) {T : List ℕ} {m : Refusal} {place : ℕ} → Answers (reading limit s words) words T (read.Refused m place)
      → number_of m ≡ 20 → Stands s 20 place
  pub key_repeated :
      (s : List ℕ) (room : ℕ) (value : Reader) (seen : List (List ℕ)) (at r : ℕ) (book : Book) {rows : List Row} {to : ℕ} {book' : Book}
      → string s room at r book ≡ got rows to book' → among seen (first_text s room rows) ≡ true
      → member s room value seen at r book ≡ refused RepeatedKey at
  pub key_new :
      (s : List ℕ) (room : ℕ) (value : Reader) (seen : List (List ℕ)) (at r : ℕ) (book : Book) {rows : List Row} {to : ℕ} {book' : Book}
      → string s room at r book ≡ got rows to book' → among seen (first_text s room rows) ≡ false
      → member s room value seen at r book ≡ behind rows (value to (r + length rows) book')
  -- 'after 5 and 6': what the key itself gives comes first
  pub key_refused :
      (s : List ℕ) (room : ℕ) (value : Reader) (seen : List (List ℕ)) (at r : ℕ) (book : Book) {m : Refusal} {place : ℕ}
      → string s room at r book ≡ refused m place → member s room value seen at r book ≡ refused m place
  -- 'before E1's 14': and what a fault's Struct gives comes before its members are judged
  pub before_fourteen :
      (s : List ℕ) (room deep at r : ℕ) (book : Book) {m : Refusal} {place : ℕ}
      → only s room (code "S") (struct_item s room (nested s room deep)) at r book ≡ refused m place
      → fault_struct s room deep at r book ≡ refused m place
  -- 'The writer says 11.'
  pub writer_eleven :
      (limit : ℕ) (T : List ℕ) (rows : ℕ) (s out₀ out : List ℕ) {a : Write} → allowed limit ≡ true → length s ≤ 65536 → Below 4294967296 T
      → Did limit T rows s out₀ out a → (r : ℕ) → (KeysDistinct T rows s r → ⊥) → (writer.report_of a).number ≡ 11
