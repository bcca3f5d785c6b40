-- Byte sequences judged by computation: a text of characters of one to four bytes, the bounds of each production, and what lies past them.
-- Assumes nothing.
use mathlib.Core.Path.{◌≡◌, refl}
use mathlib.Core.Bool.{Bool, true, ◌&&◌, not}
use mathlib.Core.List.{List, [], ◌∷◌, ◌++◌}
use Prim.Native.Nat.{ℕ}
use Rattle.text.specs.Utf8.{within, due_by, due_after, step, octets, well_formed}

abbrev all : (List ℕ → Bool) → List (List ℕ) → Bool
all f [] = true
all f (s ∷ ss) = f s && all f ss

-- U+0048, U+00E9, U+20AC, U+1F600
abbrev mixed : List ℕ
mixed = 0x48 ∷ 0xC3 ∷ 0xA9 ∷ 0xE2 ∷ 0x82 ∷ 0xAC ∷ 0xF0 ∷ 0x9F ∷ 0x98 ∷ 0x80 ∷ []

-- the first and the last character of each length, those beside the surrogates, and a longer text
abbrev good : List (List ℕ)
good =
    []
    ∷ (0x00 ∷ [])
    ∷ (0x7F ∷ [])
    ∷ (0xC2 ∷ 0x80 ∷ [])
    ∷ (0xDF ∷ 0xBF ∷ [])
    ∷ (0xE0 ∷ 0xA0 ∷ 0x80 ∷ [])
    ∷ (0xED ∷ 0x9F ∷ 0xBF ∷ [])
    ∷ (0xEE ∷ 0x80 ∷ 0x80 ∷ [])
    ∷ (0xEF ∷ 0xBF ∷ 0xBF ∷ [])
    ∷ (0xF0 ∷ 0x90 ∷ 0x80 ∷ 0x80 ∷ [])
    ∷ (0xF4 ∷ 0x8F ∷ 0xBF ∷ 0xBF ∷ [])
    ∷ (mixed ++ mixed ++ mixed ++ mixed ++ mixed)
    ∷ []

-- a tail alone, surplus lengths, surrogates, past U+10FFFF, cut characters, bytes that begin none, and no byte at all
abbrev bad : List (List ℕ)
bad =
    (0x80 ∷ [])
    ∷ (0xC0 ∷ 0x8A ∷ [])
    ∷ (0xC1 ∷ 0xBF ∷ [])
    ∷ (0xC2 ∷ [])
    ∷ (0xC2 ∷ 0xC0 ∷ [])
    ∷ (0xE0 ∷ 0x9F ∷ 0xBF ∷ [])
    ∷ (0xE2 ∷ 0x82 ∷ [])
    ∷ (0xED ∷ 0xA0 ∷ 0x80 ∷ [])
    ∷ (0xF0 ∷ 0x8F ∷ 0xBF ∷ 0xBF ∷ [])
    ∷ (0xF4 ∷ 0x90 ∷ 0x80 ∷ 0x80 ∷ [])
    ∷ (0xF5 ∷ 0x80 ∷ 0x80 ∷ 0x80 ∷ [])
    ∷ (0xFF ∷ [])
    ∷ (256 ∷ [])
    ∷ []

pub cases : (all well_formed good && all (λ s. not (well_formed s)) bad) ≡ true
unfolding within due_by due_after step octets well_formed
cases = refl
