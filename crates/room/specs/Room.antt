-- The room with a piece in it. Assumes nothing.
use Rattle.std.specs.Prelude.{◌≡◌, List, ℕ, ◌+◌, ◌-◌, min, length}
use Rattle.std.proofs.Math.Seq.{paste}

-- how many bytes of a piece there is room for, where so many are held
abbrev pub taken : ℕ → List ℕ → ℕ
taken held p = min (65536 - held) (length p)

-- the room with those bytes behind the ones held, and else as it was
abbrev pub room_after : ℕ → List ℕ → List ℕ → List ℕ
room_after held p R = paste R held p (taken held p)

-- what holding a piece p did in a room R, with n bytes held then
pub record Held (held : ℕ) (p R R' : List ℕ) (n : ℕ) : Type 0 where
  pub now : n ≡ held + taken held p
  pub room : R' ≡ room_after held p R
