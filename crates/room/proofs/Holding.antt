-- How much of a piece is held: a law for each return. Assumes nothing.
use mathlib.Core.Path.{◌≡◌}
use mathlib.Core.List.{List}
use Prim.Native.Nat.{ℕ, ◌+◌, ◌-◌, ◌≤◌, ◌<◌, min}
use native.Mathlib.Omega.{arith}
use lib.ListN.{length}
use lib.Seq.{paste}
use Rattle.room.specs.Room.{Held}

module _ (held : ℕ) (p R X : List ℕ) where
  pub hold_cut : held ≤ 65536 → 65536 - held < length p → X ≡ paste R held p (65536 - held) → Held held p R X 65536
  hold_cut l h e =
      let m : min (65536 - held) (length p) ≡ 65536 - held = omega arith in
      record { now = omega arith; room = rw m e }

  pub hold_all : length p ≤ 65536 - held → X ≡ paste R held p (length p) → Held held p R X (held + length p)
  hold_all h e =
      let m : min (65536 - held) (length p) ≡ length p = omega arith in
      record { now = omega arith; room = rw m e }

pub ruleset holding = (hold_cut, hold_all)
