-- Request E10: a table split at a row number, a station's share of it, and what a call on that share leaves of the table. Assumes nothing.
use Rattle.std.specs.Prelude.{Bool, ◌&&◌, ◌||◌, cond, List, ◌++◌, ℕ, ◌-◌, ◌*◌, ◌/◌, length, take, drop, ltb, eqb, Result, Ok, Err}
use Rattle.std.specs.declared.ops.Range.{Range}
use Rattle.shares.specs.declared.Station.{Station}
use Rattle.shares.specs.declared.Station.TheVariants.{Four, Five}
use Rattle.shares.specs.declared.NotSplit.{NotSplit}

abbrev pub other : Station → Station
other Four = Five
other Five = Four

-- a station by its number; a number that is none's is taken with row 0, which splits no table
abbrev pub station_of : ℕ → Station
station_of number = cond (eqb number 5) Five Four

abbrev pub split_for : ℕ → ℕ → ℕ
split_for number split = cond (eqb number 4 || eqb number 5) split 0

-- a table's whole rows, 'not cut to 4,096'
abbrev pub whole_rows : ℕ → ℕ
whole_rows words = words / 4

-- 22 'if the row number is 0 or not below the table's whole rows'
unfoldable pub splits : ℕ → ℕ → Bool
splits split words = ltb 0 split && ltb split (whole_rows words)

-- 'rows below it are station four's, the rest five's': where a share begins, and where it ends
abbrev pub first_word : Station → ℕ → ℕ
first_word Four split = 0
first_word Five split = split * 4

abbrev pub end_word : Station → ℕ → ℕ → ℕ
end_word Four split words = split * 4
end_word Five split words = whole_rows words * 4

-- how many words it has
unfoldable pub size_of : Station → ℕ → ℕ → ℕ
size_of station split words = end_word station split words - first_word station split

-- the words from `start` up to `end`, and that there are none, which is 22
abbrev pub words_between : ℕ → ℕ → Range ℕ
words_between start end = record { start = start; end = end }

abbrev pub no_share : NotSplit
no_share = record {}

unfoldable pub share_for : ℕ → ℕ → Station → Result (Range ℕ) NotSplit
share_for words split station =
    cond (splits split words) (Ok (words_between (first_word station split) (end_word station split words))) (Err no_share)

-- the share's words in a table
unfoldable pub share_of : Station → ℕ → List ℕ → List ℕ
share_of station split T = take (size_of station split (length T)) (drop (first_word station split) T)

-- a table with the words xs in place of n words from word a on
unfoldable pub lying : ℕ → ℕ → List ℕ → List ℕ → List ℕ
lying a n xs T = take a T ++ (xs ++ drop n (drop a T))

-- what a call for a station gives, by what it gives for the share's words; and otherwise
unfoldable pub on_share : {A : Type 0} → Station → ℕ → List ℕ → (List ℕ → A) → A → A
on_share station split T given otherwise = cond (splits split (length T)) (given (share_of station split T)) otherwise

-- the table after it, by the share's words after it: 'a station changes no word of the other's share', and words beyond the last whole row
-- 'belong to neither and stay'; after 22 'nothing lent is changed'
unfoldable pub table_on : Station → ℕ → List ℕ → (List ℕ → List ℕ) → List ℕ
table_on station split T after =
    on_share station split T (λ W. lying (first_word station split) (size_of station split (length T)) (after W) T) T
