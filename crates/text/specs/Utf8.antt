-- Well-formed UTF-8 as a test of the bytes, one after the other, by RFC 3629's ranges; and the character at the front of some bytes.
-- That it agrees with RFC 3629's grammar is proved in proofs/Grammar.antt. Assumes nothing.
use Rattle.std.specs.Prelude.{Bool, true, false, ◌&&◌, cond, List, [], ◌∷◌, ℕ, suc, length, leb}

infix 80 ◌to◌
-- the bytes from one to another, both counted
pub data Range : Type 0 where
  ◌to◌ : ℕ → ℕ → Range

-- whether a byte lies in a range
unfoldable pub within : Range → ℕ → Bool
within (low to high) byte = leb low byte && leb byte high

infix 70 ◌then◌
-- the range of a first byte, and the ranges of the bytes that follow it
pub data Form : Type 0 where
  ◌then◌ : Range → List Range → Form

-- UTF8-tail
abbrev pub tail : Range
tail = 0x80 to 0xBF

-- UTF8-1; UTF8-2; the four alternatives of UTF8-3; the three of UTF8-4
abbrev pub forms : List Form
forms =
    0x00 to 0x7F then []
    ∷ 0xC2 to 0xDF then (tail ∷ [])
    ∷ 0xE0 to 0xE0 then (0xA0 to 0xBF ∷ tail ∷ [])
    ∷ 0xE1 to 0xEC then (tail ∷ tail ∷ [])
    ∷ 0xED to 0xED then (0x80 to 0x9F ∷ tail ∷ [])
    ∷ 0xEE to 0xEF then (tail ∷ tail ∷ [])
    ∷ 0xF0 to 0xF0 then (0x90 to 0xBF ∷ tail ∷ tail ∷ [])
    ∷ 0xF1 to 0xF3 then (tail ∷ tail ∷ tail ∷ [])
    ∷ 0xF4 to 0xF4 then (0x80 to 0x8F ∷ tail ∷ tail ∷ [])
    ∷ []

-- what is due of the character begun: the ranges of its bytes to come; or no bytes can make it well-formed
pub data Due : Type 0 where
  due : List Range → Due
  wrong : Due

-- what is due after a first byte, by the first form that has it
unfoldable pub due_by : List Form → ℕ → Due
due_by [] first = wrong
due_by ((range then ranges) ∷ fs) first = cond (within range first) (due ranges) (due_by fs first)

-- the same, by all forms
unfoldable pub due_after : ℕ → Due
due_after first = due_by forms first

-- what is due after one more byte
unfoldable pub step : Due → ℕ → Due
step (due []) byte = due_after byte
step (due (range ∷ ranges)) byte = cond (within range byte) (due ranges) wrong
step wrong byte = wrong

-- whether the bytes may end here
abbrev pub whole : Due → Bool
whole (due []) = true
whole (due (range ∷ ranges)) = false
whole wrong = false

-- whether the bytes are what is due, and then characters
unfoldable pub octets : Due → List ℕ → Bool
octets d [] = whole d
octets d (byte ∷ s) = octets (step d byte) s

-- whether the bytes are characters
unfoldable pub well_formed : List ℕ → Bool
well_formed s = octets (due []) s

-- whether bytes in these ranges stand at the front
unfoldable pub begins : List Range → List ℕ → Bool
begins [] s = true
begins (range ∷ ranges) [] = false
begins (range ∷ ranges) (byte ∷ s) = within range byte && begins ranges s

-- how many bytes a character has whose first byte stood before these, if what is due stands at the front; else 0
unfoldable pub width_by : Due → List ℕ → ℕ
width_by wrong s = 0
width_by (due ranges) s = cond (begins ranges s) (suc (length ranges)) 0

-- how many bytes the character at the front has; 0 if none is well-formed there
unfoldable pub width : List ℕ → ℕ
width [] = 0
width (byte ∷ s) = width_by (due_after byte) s
