-- The lines that the programs print, byte by byte. Assumes nothing.
use Rattle.std.specs.Prelude.{List, [], ◌∷◌, ◌++◌, ℕ}
use Rattle.draft.specs.declared.Row.{Row}
use Rattle.draft.specs.Refusals.{number_of}
use Rattle.read_answer.specs.declared.Answer.{Answer}
use Rattle.read_answer.specs.declared.Answer.TheVariants.{Accepted, Refused}
use Rattle.spelling.specs.Line.{decimal, pair, pairs}

-- the end of a line
abbrev pub newline : List ℕ
newline = 10 ∷ []

-- ` `
abbrev pub space : List ℕ
space = 32 ∷ []

-- `refused `
abbrev pub refused : List ℕ
refused = 114 ∷ 101 ∷ 102 ∷ 117 ∷ 115 ∷ 101 ∷ 100 ∷ space

-- ` at `
abbrev pub at : List ℕ
at = 32 ∷ 97 ∷ 116 ∷ space

-- `rows `
abbrev pub rows : List ℕ
rows = 114 ∷ 111 ∷ 119 ∷ 115 ∷ space

-- ` used `
abbrev pub used : List ℕ
used = 32 ∷ 117 ∷ 115 ∷ 101 ∷ 100 ∷ space

-- ` body `
abbrev pub body : List ℕ
body = 32 ∷ 98 ∷ 111 ∷ 100 ∷ 121 ∷ space

-- `card `
abbrev pub card : List ℕ
card = 99 ∷ 97 ∷ 114 ∷ 100 ∷ space

-- ` bytes `
abbrev pub bytes : List ℕ
bytes = 32 ∷ 98 ∷ 121 ∷ 116 ∷ 101 ∷ 115 ∷ space

-- `cards `
abbrev pub cards : List ℕ
cards = 99 ∷ 97 ∷ 114 ∷ 100 ∷ 115 ∷ space

-- `refused N at P`
abbrev pub refusal_line : ℕ → ℕ → List ℕ
refusal_line number place = pairs refused number at place ++ newline

-- `rows R used U`
abbrev pub accepted_line : ℕ → ℕ → List ℕ
accepted_line n m = pairs rows n used m ++ newline

-- `rows R used U body B`
abbrev pub card_accepted_line : ℕ → ℕ → ℕ → List ℕ
card_accepted_line n m b = pairs rows n used m ++ (pair body b ++ newline)

-- a row's number, its kind, a, b and end
abbrev pub row_line : ℕ → Row → List ℕ
row_line r x = decimal r ++ (pairs space x.kind space x.a ++ (pairs space x.b space x.end ++ newline))

-- what stands behind a card's place: ` rows R used U` or ` refused N at P`
abbrev pub card_answer : Answer → List ℕ
card_answer (Accepted n m) = pairs (32 ∷ rows) n used m
card_answer (Refused refusal place) = pairs (32 ∷ refused) (number_of refusal) at place

-- `card N at P bytes B`, and its answer
abbrev pub card_line : ℕ → ℕ → ℕ → Answer → List ℕ
card_line number start size answer = pair card number ++ (pairs at start bytes size ++ (card_answer answer ++ newline))

-- `cards N`
abbrev pub count_line : ℕ → List ℕ
count_line n = pair cards n ++ newline
