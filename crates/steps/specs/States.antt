-- What is due of a character begun, numbered: the states in which a walk over bytes stands. Assumes nothing.
use Rattle.std.specs.Prelude.{◌≡◌, List, [], ◌∷◌, ℕ, ◌<◌, ◌/◌, ◌%◌, get_or, drop}
use Rattle.text.specs.Utf8.{◌to◌, tail, Due, due, wrong, step, octets}

-- nothing; what no bytes can make well-formed; one to three tails; what follows E0, ED, F0 and F4
abbrev pub states : List Due
states =
    due []
    ∷ wrong
    ∷ due (tail ∷ [])
    ∷ due (tail ∷ tail ∷ [])
    ∷ due (tail ∷ tail ∷ tail ∷ [])
    ∷ due (0xA0 to 0xBF ∷ tail ∷ [])
    ∷ due (0x80 to 0x9F ∷ tail ∷ [])
    ∷ due (0x90 to 0xBF ∷ tail ∷ tail ∷ [])
    ∷ due (0x80 to 0x8F ∷ tail ∷ tail ∷ [])
    ∷ []

-- a state's number: 0, 6, 12 and so on
pub record State (n : ℕ) : Type 0 where
  pub below : n < 54
  pub sixth : n % 6 ≡ 0

unfoldable pub state_of : ℕ → Due
state_of n = get_or states (n / 6) wrong

-- for each class of a byte a word, which has the state after state n from its bit n on
unfoldable pub step_table : List ℕ
step_table =
    1715657000903040
    ∷ 5093769241166214
    ∷ 1768846078771590
    ∷ 1768440204362118
    ∷ 1715657000903046
    ∷ 1715657000903052
    ∷ 1715657000903070
    ∷ 1715657000903058
    ∷ 1715657000903076
    ∷ 1715657000903082
    ∷ 1715657000903064
    ∷ 1715657000903088
    ∷ []

-- state m follows state n by a byte
pub record Step (n b m : ℕ) : Type 0 where
  pub state : State m
  pub means : state_of m ≡ step (state_of n) b

-- from state n at one place to state m at another: the answer lies with the rest
pub record Stepped (s : List ℕ) (at n next m : ℕ) : Type 0 where
  pub state : State m
  pub rest : octets (state_of n) (drop at s) ≡ octets (state_of m) (drop next s)
