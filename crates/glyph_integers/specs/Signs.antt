-- What the functions say of a sign, and what they ask of the table. Assumes nothing.
use Rattle.std.specs.Prelude.{◌≡◌, Bool, ℕ, ◌*◌, ◌≤◌, ◌<◌}
use Rattle.glyph.specs.Numbers.{is_minus, signs}

-- whether a byte is a minus, and how many bytes of a sign it is
pub record Signed (b : ℕ) (minus : Bool) (size : ℕ) : Type 0 where
  pub is : minus ≡ is_minus b
  pub takes : size ≡ signs b
  pub most : size ≤ 1

-- a row is left, the table has its room, and the message is short enough
pub record Slots (row room bytes words : ℕ) : Type 0 where
  pub left : row < room
  pub rows : room ≤ 4096
  pub table : room * 4 ≤ words
  pub message : bytes ≤ 65536
