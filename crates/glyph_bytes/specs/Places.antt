-- What the functions say of the bytes at a place. Assumes nothing.
use Rattle.std.specs.Prelude.{◌≡◌, Bool, true, false, List, ℕ, ◌+◌, ◌≤◌, ◌<◌, min, eqb, length, get_or, drop}
use Rattle.glyph.specs.Numbers.{past, digits, decimal}

-- the place past the blanks at a place
pub record Skipped (s : List ℕ) (at to : ℕ) : Type 0 where
  pub is : to ≡ past s at
  pub ahead : at ≤ to
  pub within : to ≤ length s

-- whether the byte there passes a test, which no byte past the end does
pub record Stands (s : List ℕ) (at : ℕ) (test b : Bool) : Type 0 where
  pub is : b ≡ test
  pub there : b ≡ true → at < length s

-- whether a container goes on: no `;` is there
pub record Open (s : List ℕ) (at : ℕ) (b : Bool) : Type 0 where
  pub on : b ≡ true → eqb (get_or s at 0) 59 ≡ false
  pub ends : b ≡ false → eqb (get_or s at 0) 59 ≡ true
  pub there : b ≡ false → at < length s

-- where the digits at a place end, and the number that they are, cut at the least that is out of range
pub record Counted (s : List ℕ) (at to v : ℕ) : Type 0 where
  pub ends : to ≡ at + digits (drop at s)
  pub is : v ≡ min (decimal 0 (drop at s)) 2147483649
  pub ahead : at ≤ to
  pub within : to ≤ length s
