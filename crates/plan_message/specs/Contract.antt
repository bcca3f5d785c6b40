-- What the functions on a plan's message ask: the strings are known, and the plan has two bytes for each. Assumes nothing.
use Rattle.std.specs.Prelude.{ℕ, ◌*◌, ◌≤◌, List, length}
use Rattle.draft.specs.declared.Row.{Row}
use Rattle.draft.specs.Strings.{texts_of}
use Rattle.draft.specs.Written.{items_of}
use Rattle.sending.specs.Contract.{Collected}
use Rattle.plans.specs.Plans.{sents_from}

-- the items of the plan's message
unfoldable pub planned_items : List ℕ → List Row → List ℕ → List ℕ
planned_items s rows plan = items_of s rows (sents_from plan 0 (texts_of s rows))

-- the words W hold the strings of the rows
pub record Known (row : ℕ → Row) (rows : ℕ) (s W plan : List ℕ) : Type 0 where
  pub count : ℕ
  pub strings : Collected row rows W count
  pub room : count * 2 ≤ length plan
  pub short : length s ≤ 65536
