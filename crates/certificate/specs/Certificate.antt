-- When a plan and prices, one for each string, prove that the plan's message is the shortest. Assumes nothing.
use Rattle.std.specs.Prelude.{ℕ, ◌+◌, ◌*◌, Bool, ◌&&◌, List, length, eqb, leb}
use Rattle.draft.specs.Strings.{Text, texts_of, costs}
use Rattle.draft.specs.Writable.{writable}
use Rattle.draft.specs.Written.{rows_of}
use Rattle.plans.specs.Plans.{sents_from, taken}
use Rattle.prices.specs.Prices.{total, bound}

-- with 256 positions the strings cost no less than the plan: what the prices prove is at least that
unfoldable pub proving : List ℕ → List ℕ → List Text → Bool
proving plan prices ts = leb (costs (sents_from plan 0 ts) + 256 * total prices) (bound prices ts)

-- the plan is taken, there is a price for each string, the strings take at most the 65,536 bytes that a message may have, and the prices prove it
unfoldable pub certified_texts : List ℕ → List ℕ → List Text → Bool
certified_texts plan prices ts =
    taken plan ts
    && (eqb (length prices) (length ts)
    && (leb (costs (sents_from plan 0 ts)) 65536
    && proving plan prices ts))

-- of a table with so many stated rows, whose texts lie in s
unfoldable pub certified : List ℕ → ℕ → List ℕ → List ℕ → List ℕ → Bool
certified T rows s plan prices = writable T rows s && certified_texts plan prices (texts_of s (rows_of 4096 T rows))
