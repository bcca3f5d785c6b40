-- How often a text occurs among texts. Assumes nothing.
use Rattle.std.specs.Prelude.{Bool, true, false, List, [], ◌∷◌, ℕ, ◌+◌}
use Rattle.text.specs.Texts.{same}

abbrev pub bit : Bool → ℕ
bit true = 1
bit false = 0

-- how often t is among the texts
unfoldable pub times : List ℕ → List (List ℕ) → ℕ
times t [] = 0
times t (u ∷ us) = bit (same t u) + times t us
