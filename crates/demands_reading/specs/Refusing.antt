-- What a refusal says of a message, in the grammar's terms. Assumes nothing.
use Rattle.std.specs.Prelude.{Bool, false, ◌||◌, List, [], ◌∷◌, ℕ, ◌<◌, eqb, length}
use Rattle.draft.specs.Grammar.{Cell, Begins}

-- no beginning of s is derived at all
abbrev pub Underived : List ℕ → Type 0
Underived s = (used nesting : ℕ) (cells : List Cell) → Begins s used nesting cells → ⊥

-- a derivation of a beginning of s, if there is one, nests deeper than the limit
abbrev pub Deeper : List ℕ → ℕ → Type 0
Deeper s limit = (used nesting : ℕ) (cells : List Cell) → Begins s used nesting cells → limit < nesting

-- a derivation of a beginning of s, if there is one, has more rows than there is room for, however deep it nests
abbrev pub Fuller : List ℕ → ℕ → Type 0
Fuller s room = (used nesting : ℕ) (cells : List Cell) → Begins s used nesting cells → room < length cells

-- a number is one of these
abbrev pub one_of : List ℕ → ℕ → Bool
one_of [] n = false
one_of (m ∷ ms) n = eqb m n || one_of ms n
