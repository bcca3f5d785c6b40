-- A search by halves through a list of entries that may hold anything. How an entry stands to what is looked for, and whether its two rows are a
-- member's, are parameters. Assumes nothing.
use Rattle.std.specs.Prelude.{Bool, cond, List, ℕ, zero, suc, ◌+◌, ◌-◌, ◌/◌, ltb, length, get_or}
use Rattle.member.specs.declared.Member.{Member}
use Rattle.member.specs.Members.{member_of}
use Rattle.std.specs.declared.cmp.Ordering.{Ordering}
use Rattle.std.specs.declared.cmp.Ordering.TheVariants.{Less, Equal, Greater}
use Rattle.seeking.specs.declared.Search.{Search}

-- no entry's number: the search is over
abbrev pub over : ℕ
over = 18446744073709551615

abbrev pub search : ℕ → ℕ → ℕ → ℕ → Search
search at low high value = record { at = at; low = low; high = high; value = value }

-- the entry to look at between low and high
unfoldable pub middle : ℕ → ℕ → ℕ
middle low high = cond (ltb low high) (low + (high - low) / 2) over

-- still searching, between low and high
abbrev pub between : ℕ → ℕ → Search
between low high = search (middle low high) low high 0

abbrev pub ended : ℕ → Search
ended value = search over 0 0 value

-- through n entries, if there is anything to look for
unfoldable pub begun : Bool → ℕ → Search
begun wanted n = cond wanted (between 0 n) (ended 0)

-- an entry that stands so, with its rows a member's or not, leads on behind it, to the end, or on before it
abbrev pub turned : Ordering → Bool → Search → Member → Search
turned Less named st e = between (st.at + 1) st.high
turned Equal named st e = cond named (ended e.value) (ended 0)
turned Greater named st e = between st.low st.at

-- an entry that is not used
abbrev pub unused : Member
unused = member_of 0 0

module _ (relation : Member → Ordering) (named : Member → Bool) where
  -- one entry is looked at
  unfoldable pub stepped : Search → Member → Search
  stepped st e = turned (relation e) (named e) st e

  -- at most n steps
  unfoldable pub searched : List Member → ℕ → Search → Search
  searched es zero st = st
  searched es (suc n) st = cond (ltb st.at (length es)) (searched es n (stepped st (get_or es st.at unused))) st
