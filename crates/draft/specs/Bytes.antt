-- Bytes of a message: an ASCII text's, one, four as a number, and a part; and that they are bytes. Assumes nothing.
use Rattle.std.specs.Prelude.{ℕ, ◌+◌, ◌*◌, ◌<◌, List, [], ◌∷◌, get_or, take, drop}
use Prim.Native.Char.{code}
use Prim.Native.String.{String, [] as empty, ◌∷◌ as first}

-- the bytes of an ASCII text
abbrev pub bytes : String → List ℕ
bytes empty = []
bytes (first c s) = code c ∷ bytes s

-- the byte at i
abbrev pub byte_at : List ℕ → ℕ → ℕ
byte_at s i = get_or s i 0

-- the four bytes at i, least significant first
abbrev pub unsigned_at : List ℕ → ℕ → ℕ
unsigned_at s i = byte_at s i + 256 * (byte_at s (i + 1) + 256 * (byte_at s (i + 2) + 256 * byte_at s (i + 3)))

-- the n bytes at o
abbrev pub part : List ℕ → ℕ → ℕ → List ℕ
part s o n = take n (drop o s)

-- numbers that are each below n: 256 for bytes, 4,294,967,296 for a table's words
pub data Below (n : ℕ) : List ℕ → Type 0 where
  none_below : Below n []
  and_below : {x : ℕ} {xs : List ℕ} → x < n → Below n xs → Below n (x ∷ xs)
