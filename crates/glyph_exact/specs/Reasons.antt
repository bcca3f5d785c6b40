-- What stands at the place of a refused glyph message: for 1 how the bytes end there, for 5, 20 and 25 the item that is refused, up to its `;`, by the
-- grammar. Assumes nothing.
use Rattle.std.specs.Prelude.{◌≡◌, Bool, true, false, ◌&&◌, List, [], ◌∷◌, ◌++◌, ℕ, ◌+◌, ◌≤◌, ◌<◌, ltb, eqb, length, drop}
use Prim.Native.Char.{code}
use Rattle.text.specs.Utf8.{well_formed}
use Rattle.draft.specs.Bytes.{byte_at, part}
use Rattle.glyph.specs.Numbers.{digits, decimal, signs, in_range}
use Rattle.glyph.specs.Grammar.{Sign, Number, Content}

-- the letter of a unicode, and of a bytearray
abbrev pub text_letter : Bool → ℕ
text_letter true = code "u"
text_letter false = code "b"

-- 1: the bytes end before the place, or in the item there: in T, F or N before its `;`, in the digits of an integer or of a text's length or just behind
-- them, or before a text's `;`, however large its length is
pub data Cut (s : List ℕ) (at : ℕ) : Type 0 where
  nothing_there : length s ≤ at → Cut s at
  in_true : byte_at s at ≡ code "T" → length s ≤ at + 1 → Cut s at
  in_false : byte_at s at ≡ code "F" → length s ≤ at + 1 → Cut s at
  in_nil : byte_at s at ≡ code "N" → length s ≤ at + 1 → Cut s at
  in_integer :
      byte_at s at ≡ code "i" → length s ≤ at + 1 + signs (byte_at s (at + 1)) + digits (drop (at + 1 + signs (byte_at s (at + 1))) s) → Cut s at
  in_length : (unicode : Bool) → byte_at s at ≡ text_letter unicode → length s ≤ at + 1 + digits (drop (at + 1) s) → Cut s at
  in_content :
      (unicode : Bool) → byte_at s at ≡ text_letter unicode
      → (ltb 0 (digits (drop (at + 1) s)) && eqb (byte_at s (at + 1 + digits (drop (at + 1) s))) (code ":")) ≡ true
      → length s ≤ at + 1 + digits (drop (at + 1) s) + 1 + decimal 0 (drop (at + 1) s) → Cut s at

-- these bytes stand in s from a place on
abbrev pub Stands : List ℕ → ℕ → List ℕ → Type 0
Stands s at xs = part s at (length xs) ≡ xs

-- a unicode of this text stands there, whether the text is well-formed or not
pub record TextAt (s : List ℕ) (at : ℕ) (t : List ℕ) : Type 0 where
  pub bytes : List ℕ
  pub content : Content bytes t
  pub stands : Stands s at (code "u" ∷ bytes)

-- 5: a unicode stands there whose text is not well-formed
pub record IllFormed (s : List ℕ) (at : ℕ) : Type 0 where
  pub text : List ℕ
  pub there : TextAt s at text
  pub ill : well_formed text ≡ false

-- 20: a unicode stands there, and one of the same text at an earlier place
pub record Twice (s : List ℕ) (at : ℕ) : Type 0 where
  pub text : List ℕ
  pub before : ℕ
  pub earlier : before < at
  pub first : TextAt s before text
  pub second : TextAt s at text

-- 25: an integer stands there that is out of range
pub record Beyond (s : List ℕ) (at : ℕ) : Type 0 where
  pub minus : Bool
  pub value : ℕ
  pub sign : List ℕ
  pub digits : List ℕ
  pub signed : Sign minus sign
  pub spelt : Number value digits
  pub stands : Stands s at (code "i" ∷ (sign ++ (digits ++ (code ";" ∷ []))))
  pub beyond : in_range minus value ≡ false
