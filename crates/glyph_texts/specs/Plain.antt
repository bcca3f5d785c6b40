-- What a look at a few bytes tells of a text. Assumes nothing.
use Rattle.std.specs.Prelude.{◌≡◌, Bool, true, List, ℕ}
use Rattle.text.specs.Utf8.{well_formed}
use Rattle.draft.specs.Bytes.{part}

-- n bytes at o of which this is said are UTF-8
pub record Plain (s : List ℕ) (o n : ℕ) (r : Bool) : Type 0 where
  pub good : r ≡ true → true ≡ well_formed (part s o n)
