-- What the functions that add up prices say. Strings are numbered; t gives the text of each. Assumes nothing.
use Rattle.std.specs.Prelude.{ℕ, ◌+◌, ◌*◌, ◌≤◌, ◌<◌, ◌≡◌, List, get_or}
use Rattle.draft.specs.Table.{from}
use Rattle.draft.specs.Strings.{Text}
use Rattle.prices.specs.Prices.{total, bound}

-- w is what a mark says that it is worth to have the text of string j, which is first that of string f
pub record Worth (ms : List ℕ) (f j paid size w : ℕ) : Type 0 where
  pub new : f ≡ j → w ≡ 4 + size
  pub known : f < j → get_or ms f 0 ≤ paid → get_or ms f 0 + w ≡ paid

-- the bound of the first n strings, and the sum of the prices
pub record Priced (t : ℕ → Text) (ys : List ℕ) (n least prices : ℕ) : Type 0 where
  pub least_is : least ≡ bound ys (from t 0 n)
  pub prices_is : prices ≡ total ys
  pub few : prices ≤ n * 4294967296
