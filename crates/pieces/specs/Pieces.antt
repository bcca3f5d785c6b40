-- Request E6 over the list of the pieces, with one limit of nesting, into a table of so many words: what a person must believe of messages in pieces. There is no state
-- here, and nothing of how much is waited for. Assumes nothing.
use Rattle.std.specs.Prelude.{Bool, ◌&&◌, cond, List, [], ◌∷◌, ◌++◌, ℕ, length, take, drop, ltb}
use Rattle.draft.specs.declared.Refusal.TheVariants.{TooLong}
use Rattle.draft.specs.Refusals.{number_of}
use Rattle.draft.specs.Read.{Reading, got, refused}
use Rattle.read_answer.specs.Answers.{reading}
use Rattle.rereading.specs.Rereading.{refused_with_one}

-- all bytes of some pieces
unfoldable pub joined : List (List ℕ) → List ℕ
joined [] = []
joined (p ∷ ps) = p ++ joined ps

-- what some bytes come to: the first 65,536 read as a whole message. Refused with 1, more is wanted; but if there is another byte, it is 10
unfoldable pub outcome : ℕ → List ℕ → ℕ → Reading
outcome limit s words =
    cond (refused_with_one (reading limit (take 65536 s) words) && ltb 65536 (length s)) (refused TooLong 0) (reading limit (take 65536 s) words)

-- more is wanted
abbrev pub wanting : ℕ → List ℕ → ℕ → Bool
wanting limit s words = refused_with_one (outcome limit s words)

-- the bytes through the deciding piece: some bytes so far, and the pieces that come while more is wanted
unfoldable pub through : ℕ → ℕ → List ℕ → List (List ℕ) → List ℕ
through limit words s [] = s
through limit words s (p ∷ ps) = cond (wanting limit s words) (through limit words (s ++ p) ps) s

-- the room begins with them, cut at 65,536; its rest is as it was
unfoldable pub room_with : List ℕ → List ℕ → List ℕ
room_with s R = take 65536 s ++ drop (length (take 65536 s)) R

-- what is told of a message in pieces, with the papers' numbers
pub data Told : Type 0 where
  more : Told
  accepted : ℕ → ℕ → Told
  refusal : ℕ → ℕ → Told

-- of a whole message
abbrev pub told_of : Reading → Told
told_of (got rows used book) = accepted (length rows) used
told_of (refused m place) = refusal (number_of m) place

-- of the bytes so far: refusal 1 is that more is wanted
abbrev pub so_far : Reading → Told
so_far o = cond (refused_with_one o) more (told_of o)
