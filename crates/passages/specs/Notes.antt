-- Notes on bytes that are well-formed UTF-8, an entry for each 256 bytes: entry j is k + 4 * m, which says that the m bytes from the place
-- 256 * j + k on are well-formed. 0 says so of no bytes. Assumes nothing.
use Rattle.std.specs.Prelude.{◌≡◌, Bool, true, cond, List, ℕ, ◌+◌, ◌*◌, ◌-◌, ◌/◌, ◌%◌, ◌≤◌, length, get_or, take, drop, eqb}
use Rattle.text.specs.Utf8.{well_formed}

-- the bytes from one place up to another
abbrev pub passage : List ℕ → ℕ → ℕ → List ℕ
passage s from to = take (to - from) (drop from s)

-- entry j
abbrev pub entry_of : List ℕ → ℕ → ℕ
entry_of N j = get_or N j 0

-- how many bytes from a place on are noted
unfoldable pub noted : List ℕ → ℕ → ℕ
noted N here = cond (eqb (entry_of N (here / 256) % 4) (here % 256)) (entry_of N (here / 256) / 4) 0

-- what every entry says is true, and of no more bytes than reach the first character of the next 256
pub record True (s N : List ℕ) : Type 0 where
  pub right : (j : ℕ) → well_formed (take (entry_of N j / 4) (drop (256 * j + entry_of N j % 4) s)) ≡ true
  pub near : (j : ℕ) → entry_of N j / 4 ≤ 259

-- what the functions here ask
pub record Notes (s N : List ℕ) : Type 0 where
  pub enough : length s ≤ length N * 256
  pub true_all : True s N

-- bytes that were passed: they are well-formed, and the notes stay true
pub record Passed (s N : List ℕ) (here next : ℕ) : Type 0 where
  pub on : here ≤ next
  pub near : next ≤ here + 259
  pub good : well_formed (passage s here next) ≡ true
  pub true_all : True s N

-- what was found of a passage, and the notes stay true
pub record Judged (s N : List ℕ) (from to : ℕ) (b : Bool) : Type 0 where
  pub says : b ≡ well_formed (passage s from to)
  pub true_all : True s N
