-- Words of E5 and E8 that the bytes of a text decide: the digits of a decimal, and byte order. Assumes nothing.
use Rattle.std.specs.Prelude.{List, [], ◌∷◌, ◌++◌, ℕ, ◌+◌, ◌*◌, ◌≤◌, ◌<◌}
use Prim.Native.Char.{code}

-- 'after leading zeros are dropped': some digits, and those that are left
pub data ZerosDropped : List ℕ → List ℕ → Type 0 where
  no_digits : ZerosDropped [] []
  leading_zero : {ds es : List ℕ} → ZerosDropped ds es → ZerosDropped (code "0" ∷ ds) es
  first_digit : {d : ℕ} {ds : List ℕ} → code "0" < d → ZerosDropped (d ∷ ds) (d ∷ ds)

-- 'the digits as a whole number': with a digit behind them they are ten times what they were, and the digit
pub data WholeNumber : List ℕ → ℕ → Type 0 where
  nothing : WholeNumber [] 0
  digit_behind : {ds : List ℕ} {n d : ℕ} → WholeNumber ds n → d ≤ 9 → WholeNumber (ds ++ ((code "0" + d) ∷ [])) (n * 10 + d)

-- 'in byte order': the first text is before the second
pub data BytesBefore : List ℕ → List ℕ → Type 0 where
  ends_first : {c : ℕ} {t : List ℕ} → BytesBefore [] (c ∷ t)
  smaller_byte : {b c : ℕ} {s t : List ℕ} → b < c → BytesBefore (b ∷ s) (c ∷ t)
  same_byte : {b : ℕ} {s t : List ℕ} → BytesBefore s t → BytesBefore (b ∷ s) (b ∷ t)
