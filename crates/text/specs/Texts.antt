-- Tests of texts: bytes below 128 only, equal bytes, and the names of the standard types. Assumes nothing.
use Rattle.std.specs.Prelude.{Bool, true, false, ◌&&◌, ◌||◌, List, [], ◌∷◌, ℕ, ltb, eqb}

-- whether every byte is below 128
unfoldable pub ascii : List ℕ → Bool
ascii [] = true
ascii (byte ∷ s) = ltb byte 128 && ascii s

-- whether two texts have equal bytes
unfoldable pub same : List ℕ → List ℕ → Bool
same [] [] = true
same [] (y ∷ ys) = false
same (x ∷ xs) [] = false
same (x ∷ xs) (y ∷ ys) = eqb x y && same xs ys

-- whether s is among the texts
unfoldable pub among : List (List ℕ) → List ℕ → Bool
among [] s = false
among (t ∷ ts) s = same s t || among ts s

-- `i4`
abbrev pub i4 : List ℕ
i4 = 105 ∷ 52 ∷ []

-- `int`
abbrev pub int : List ℕ
int = 105 ∷ 110 ∷ 116 ∷ []

-- `boolean`
abbrev pub boolean : List ℕ
boolean = 98 ∷ 111 ∷ 111 ∷ 108 ∷ 101 ∷ 97 ∷ 110 ∷ []

-- `string`
abbrev pub string : List ℕ
string = 115 ∷ 116 ∷ 114 ∷ 105 ∷ 110 ∷ 103 ∷ []

-- `double`
abbrev pub double : List ℕ
double = 100 ∷ 111 ∷ 117 ∷ 98 ∷ 108 ∷ 101 ∷ []

-- `dateTime.iso8601`
abbrev pub date_time : List ℕ
date_time = 100 ∷ 97 ∷ 116 ∷ 101 ∷ 84 ∷ 105 ∷ 109 ∷ 101 ∷ 46 ∷ 105 ∷ 115 ∷ 111 ∷ 56 ∷ 54 ∷ 48 ∷ 49 ∷ []

-- `base64`
abbrev pub base64 : List ℕ
base64 = 98 ∷ 97 ∷ 115 ∷ 101 ∷ 54 ∷ 52 ∷ []

-- `struct`
abbrev pub struct : List ℕ
struct = 115 ∷ 116 ∷ 114 ∷ 117 ∷ 99 ∷ 116 ∷ []

-- `array`
abbrev pub array : List ℕ
array = 97 ∷ 114 ∷ 114 ∷ 97 ∷ 121 ∷ []

abbrev pub standard_names : List (List ℕ)
standard_names = i4 ∷ int ∷ boolean ∷ string ∷ double ∷ date_time ∷ base64 ∷ struct ∷ array ∷ []

-- whether s is the name of a standard type
unfoldable pub standard_name : List ℕ → Bool
standard_name s = among standard_names s
