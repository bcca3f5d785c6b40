-- A job file: records, one after the other, each a four-byte body length, a two-byte kind and the body; and where a card's message lies in it.
-- Card numbers count from 0; the file, the body lengths and the card numbers have no limit here. Assumes nothing.
use Rattle.std.specs.Prelude.{ℕ, zero, suc, ◌+◌, ◌*◌, Bool, ◌&&◌, cond, List, [], ◌∷◌, length, leb, eqb, Result, Ok, Err}
use Rattle.draft.specs.Bytes.{byte_at, unsigned_at}
use Rattle.records.specs.declared.Kind.{Kind}
use Rattle.records.specs.declared.Kind.TheVariants.{Card, End, Other}
use Rattle.records.specs.declared.JobRefusal.{JobRefusal}
use Rattle.records.specs.declared.JobRefusal.TheVariants.{FileEnded, WrongEnd, NoCard}
use Rattle.records.specs.declared.Body.{Body}
use Rattle.records.specs.declared.Missing.{Missing}
use Rattle.records.specs.declared.Onward.{Onward}
use Rattle.std.specs.declared.ops.ControlFlow.{ControlFlow}
use Rattle.std.specs.declared.ops.ControlFlow.TheVariants.{Break, Continue}

-- where a card's body stands, or why and at which record there is none
abbrev pub Found : Type 0
Found = Result Body Missing

abbrev pub body_at : ℕ → ℕ → Found
body_at start size = Ok (record { start = start; length = size })

abbrev pub missing_at : JobRefusal → ℕ → Found
missing_at refusal place = Err (record { refusal = refusal; place = place })

-- what one record says: what is found, or how many cards there are now and how long a body to step over
abbrev pub Look : Type 0
Look = ControlFlow Found Onward

abbrev pub on_to : ℕ → ℕ → Look
on_to cards size = Continue (record { cards = cards; length = size })

abbrev pub refusal_number : JobRefusal → ℕ
-- the file ends before or inside a record with no kind 2 yet
refusal_number FileEnded = 15
-- a kind 2 body of wrong length or number
refusal_number WrongEnd = 16
-- a sound job ends before the card asked for
refusal_number NoCard = 26

-- 1 is a card message, 2 ends the job, others are stepped over
abbrev pub kind_of : ℕ → Kind
kind_of n = cond (eqb n 1) Card (cond (eqb n 2) End Other)

-- of the record that some bytes begin with: its body's length, its kind, and its whole length
abbrev pub body_length : List ℕ → ℕ
body_length s = unsigned_at s 0

abbrev pub kind_at : List ℕ → Kind
kind_at s = kind_of (byte_at s 4 + 256 * byte_at s 5)

abbrev pub record_length : List ℕ → ℕ
record_length s = body_length s + 6

-- whether all of it is there; fewer than six bytes are no record
abbrev pub whole : List ℕ → Bool
whole s = leb (record_length s) (length s)

-- a kind 2 body is four bytes, the number of kind 1 records before it
abbrev pub ends_with : List ℕ → ℕ → Bool
ends_with s cards = eqb (body_length s) 4 && eqb (unsigned_at s 6) cards

-- what a whole record of a kind says to one who asks for card n: it stands at `at`, with so many cards before it, and s begins with it
abbrev pub record_says : Kind → ℕ → ℕ → ℕ → List ℕ → Look
record_says Card n cards at s = cond (eqb cards n) (Break (body_at (at + 6) (body_length s))) (on_to (cards + 1) (body_length s))
record_says End n cards at s = Break (missing_at (cond (ends_with s cards) NoCard WrongEnd) at)
record_says Other n cards at s = on_to cards (body_length s)

-- the same, where the record may not stand whole
unfoldable pub look_at : ℕ → ℕ → ℕ → List ℕ → Look
look_at n cards at s = cond (whole s) (record_says (kind_at s) n cards at s) (Break (missing_at FileEnded at))

-- settled, or on to what is behind a record, with so many cards before it and so long a body
abbrev pub onward : Look → (ℕ → ℕ → Found) → Found
onward (Break found) more = found
onward (Continue step) more = more step.cards step.length

-- the body of card n, or why there is none: the next record stands at `at`, after `skip` bytes of s, with so many cards before it
unfoldable pub find : ℕ → ℕ → ℕ → ℕ → List ℕ → Found
find n cards at skip [] = missing_at FileEnded at
find n cards at (suc skip) (b ∷ s) = find n cards at skip s
find n cards at zero (b ∷ s) = onward (look_at n cards at (b ∷ s)) (λ cards' size. find n cards' (at + (size + 6)) (size + 5) s)

-- the body of card n in a file, or why there is none
abbrev pub body_of : List ℕ → ℕ → Found
body_of s n = find n 0 0 0 s
