-- RFC 3629, section 4: the syntax of UTF-8 byte sequences, production by production, in its order and with its names.
-- Each alternative of a production is a constructor, over the bytes that it derives. Assumes nothing.
use Rattle.std.specs.Prelude.{◌≡◌, List, [], ◌∷◌, ◌++◌, ℕ, ◌≤◌}

-- %xLOW-HIGH
pub record Octet (low high byte : ℕ) : Type 0 where
  pub from : low ≤ byte
  pub to : byte ≤ high

-- UTF8-tail = %x80-BF
abbrev pub UTF8-tail : ℕ → Type 0
UTF8-tail byte = Octet 0x80 0xBF byte

-- UTF8-1 = %x00-7F
pub data UTF8-1 : List ℕ → Type 0 where
  single : {a : ℕ} → Octet 0x00 0x7F a → UTF8-1 (a ∷ [])

-- UTF8-2 = %xC2-DF UTF8-tail
pub data UTF8-2 : List ℕ → Type 0 where
  pair : {a b : ℕ} → Octet 0xC2 0xDF a → UTF8-tail b → UTF8-2 (a ∷ b ∷ [])

-- UTF8-3 = %xE0 %xA0-BF UTF8-tail / %xE1-EC 2( UTF8-tail ) /
--          %xED %x80-9F UTF8-tail / %xEE-EF 2( UTF8-tail )
pub data UTF8-3 : List ℕ → Type 0 where
  from_E0 : {b c : ℕ} → Octet 0xA0 0xBF b → UTF8-tail c → UTF8-3 (0xE0 ∷ b ∷ c ∷ [])
  from_E1_EC : {a b c : ℕ} → Octet 0xE1 0xEC a → UTF8-tail b → UTF8-tail c → UTF8-3 (a ∷ b ∷ c ∷ [])
  from_ED : {b c : ℕ} → Octet 0x80 0x9F b → UTF8-tail c → UTF8-3 (0xED ∷ b ∷ c ∷ [])
  from_EE_EF : {a b c : ℕ} → Octet 0xEE 0xEF a → UTF8-tail b → UTF8-tail c → UTF8-3 (a ∷ b ∷ c ∷ [])

-- UTF8-4 = %xF0 %x90-BF 2( UTF8-tail ) / %xF1-F3 3( UTF8-tail ) /
--          %xF4 %x80-8F 2( UTF8-tail )
pub data UTF8-4 : List ℕ → Type 0 where
  from_F0 : {b c d : ℕ} → Octet 0x90 0xBF b → UTF8-tail c → UTF8-tail d → UTF8-4 (0xF0 ∷ b ∷ c ∷ d ∷ [])
  from_F1_F3 : {a b c d : ℕ} → Octet 0xF1 0xF3 a → UTF8-tail b → UTF8-tail c → UTF8-tail d → UTF8-4 (a ∷ b ∷ c ∷ d ∷ [])
  from_F4 : {b c d : ℕ} → Octet 0x80 0x8F b → UTF8-tail c → UTF8-tail d → UTF8-4 (0xF4 ∷ b ∷ c ∷ d ∷ [])

-- UTF8-char = UTF8-1 / UTF8-2 / UTF8-3 / UTF8-4
pub data UTF8-char : List ℕ → Type 0 where
  char_1 : {s : List ℕ} → UTF8-1 s → UTF8-char s
  char_2 : {s : List ℕ} → UTF8-2 s → UTF8-char s
  char_3 : {s : List ℕ} → UTF8-3 s → UTF8-char s
  char_4 : {s : List ℕ} → UTF8-4 s → UTF8-char s

-- UTF8-octets = *( UTF8-char )
pub data UTF8-octets : List ℕ → Type 0 where
  none : UTF8-octets []
  more : {char rest s : List ℕ} → UTF8-char char → UTF8-octets rest → s ≡ char ++ rest → UTF8-octets s
