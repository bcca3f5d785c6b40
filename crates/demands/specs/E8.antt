-- E8: AN INDEX OF MEMBERS (document 02), over what `binmode_index_fill` and `binmode_index_find` promise, neither with a `requires`. A source c is a table
-- with its stated rows, its text bytes and the row named. `Fills c n answer es`: filling a list of n entries answered so and left the entries es.
-- `reports_of ..`: the reports of the keys looked up through a list, each that of `looked_through c es key`; `looked c key` is E5's lookup, the search from
-- the front; `told` is an answer's number. A table is words of 32 bits. That the fields hold is proofs/E8. Assumes nothing.
use Rattle.std.specs.Prelude.{◌≡◌, true, false, ◌↔◌, List, ℕ, ◌^◌, ◌≤◌, ◌<◌, length, get_or}
use Rattle.draft.specs.Bytes.{Below}
use Rattle.draft.specs.Read.{text_of}
use Rattle.member.specs.declared.Member.{Member}
use Rattle.member.specs.Members.{member_of, is_struct, is_among}
use Rattle.lookup_answer.specs.declared.Report.{Report}
use Rattle.lookup_answer.specs.Reports.{report_of}
use Rattle.index_search.specs.Through.{key_at, reports_of, judgement}
use Rattle.defaults.specs.Defaults.{Source, row_in, is_writable}
use Rattle.demands_lookups.specs.Asked.{looked, told, its_members, NoStruct}
use Rattle.demands_lookups.specs.Spelled.{BytesBefore}
use Rattle.demands_lookups.specs.Through.{Fills, looked_through, entry, Names, Free}

-- what a list is that filling made with 0
pub record Index (c : Source) (n : ℕ) (es : List Member) : Type 0 where
  -- 'a lent list of index entries, one per member,': each of the first names a member, each member is named, and none twice
  pub as_lent : length es ≡ n
  pub room : length (its_members c) ≤ n
  pub members : (i : ℕ) → i < length (its_members c) → is_among (entry es i) (its_members c) ≡ true
  pub all : (m : Member) → is_among m (its_members c) ≡ true → (i : ℕ) × (i < length (its_members c)) × (entry es i ≡ m)
  pub once : (i j : ℕ) → i < j → j < length (its_members c) → entry es i ≡ entry es j → ⊥
  -- 'in byte order of the keys, each naming its key row and value row.' An entry is a member, which is those two rows.
  pub sorted :
      (i j : ℕ) → i < j → j < length (its_members c)
      → BytesBefore (text_of c.text (row_in c (entry es i).key)) (text_of c.text (row_in c (entry es j).key))
  -- 'Looking up through it gives what the search from the front gives, for every key.'
  pub finds : n < 2 ^ 64 → (key : List ℕ) → looked_through c es key ≡ looked c key
  -- 'Unused entries are zero.'
  pub unused_zero : (i : ℕ) → length (its_members c) ≤ i → i < n → entry es i ≡ member_of 0 0

pub record E8 : Type 0 where
  -- 'Transit cards carry some 300 members. I want a lent list of index entries [..]'
  pub filled : (c : Source) → Below 4294967296 c.table → is_writable c ≡ true → (n : ℕ) (es : List Member) → Fills c n 0 es → Index c n es
  -- which is filled exactly if none of the refusals below is given
  pub accepted :
      (c : Source) → Below 4294967296 c.table → (n answer : ℕ) (es : List Member) → Fills c n answer es
      → (answer ≡ 0) ↔ ((is_writable c ≡ true) × (is_struct (row_in c) c.rows c.row ≡ true) × (length (its_members c) ≤ n))
  -- every key of a call has the report of one lookup
  pub each_key :
      (c : Source) (es : List Member) (keys ends : List ℕ) (n i : ℕ) (d : Report) → i < n
      → get_or (reports_of c.table c.rows c.text c.row es keys ends n) i d ≡ report_of (looked_through c es (key_at keys ends i))
  -- 'Handed any other list, 11 apart, it answers as that search does or 18, and always 18 if no entry names the key's two rows: a free result in 01's
  -- sense, and this is its property.'
  pub any_list : (c : Source) → Below 4294967296 c.table → is_writable c ≡ true → (es : List Member) (key : List ℕ) → Free c es key (looked_through c es key)
  pub not_named :
      (c : Source) → Below 4294967296 c.table → is_writable c ≡ true → (es : List Member) (key : List ℕ) → (Names c es key → ⊥)
      → told (looked_through c es key) ≡ 18
  pub eleven_apart :
      (c : Source) → Below 4294967296 c.table → (es : List Member) (key : List ℕ) → (told (looked_through c es key) ≡ 11) ↔ (is_writable c ≡ false)
  -- and what a call with several keys returns is `judgement ..`
  pub find_returns :
      (c : Source) → (is_writable c ≡ true → judgement c.table c.rows c.text ≡ 0)
      × (is_writable c ≡ false → judgement c.table c.rows c.text ≡ 11)
  -- 'Refusals: 11,'
  pub eleven : (c : Source) → Below 4294967296 c.table → (n answer : ℕ) (es : List Member) → Fills c n answer es → (answer ≡ 11) ↔ (is_writable c ≡ false)
  -- '18 as in E5,'
  pub eighteen :
      (c : Source) → Below 4294967296 c.table → (n answer : ℕ) (es : List Member) → Fills c n answer es
      → (answer ≡ 18) ↔ ((is_writable c ≡ true) × NoStruct c)
  -- 'then 21 if the list is shorter than the member count;'
  pub twenty_one :
      (c : Source) → Below 4294967296 c.table → (n answer : ℕ) (es : List Member) → Fills c n answer es
      → (answer ≡ 21) ↔ ((is_writable c ≡ true) × (is_struct (row_in c) c.rows c.row ≡ true) × (n < length (its_members c)))
  -- 'each leaves all entries zero.'
  pub refused_zero : (c : Source) (n answer : ℕ) (es : List Member) → Fills c n answer es → (answer ≡ 0 → ⊥) → (i : ℕ) → i < n → entry es i ≡ member_of 0 0
