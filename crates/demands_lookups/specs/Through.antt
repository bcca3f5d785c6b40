-- What E8 says of filling a list and of looking a key up through one, for a source. Assumes nothing.
use Rattle.std.specs.Prelude.{◌≡◌, List, ℕ, ◌<◌, length, get_or}
use Rattle.member.specs.declared.Member.{Member}
use Rattle.lookup_answer.specs.Answers.{Answer}
use Rattle.seeking.specs.Seeking.{unused}
use Rattle.index.specs.Filling.{Filled}
use Rattle.index_search.specs.Through.{through}
use Rattle.defaults.specs.Defaults.{Source}
use Rattle.demands_lookups.specs.Asked.{looked, told, Has}

-- `binmode_index_fill` with a list of n entries, its answer and the entries after the call
abbrev pub Fills : Source → ℕ → ℕ → List Member → Type 0
Fills c n answer es = Filled c.table c.rows c.text c.row n answer es

-- a key looked up through a list
abbrev pub looked_through : Source → List Member → List ℕ → Answer
looked_through c es key = through c.table c.rows c.text c.row es key

-- entry i of a list; behind the last there are none, and none is (0, 0)
abbrev pub entry : List Member → ℕ → Member
entry es i = get_or es i unused

-- an entry names the two rows of the member with the key
pub record Names (c : Source) (es : List Member) (key : List ℕ) : Type 0 where
  pub at : ℕ
  pub inside : at < length es
  pub has : Has c key (entry es at)

-- the property of the free result: the search from the front's answer, and then an entry names the key's two rows; or 18
pub data Free (c : Source) (es : List Member) (key : List ℕ) (a : Answer) : Type 0 where
  as_front : Names c es key → a ≡ looked c key → Free c es key a
  no_member : told a ≡ 18 → Free c es key a
