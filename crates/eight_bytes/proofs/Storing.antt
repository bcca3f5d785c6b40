-- What answers the return of the function that stores eight bytes. Assumes nothing.
use Prim.Native.Nat.{ℕ, ◌+◌}
use mathlib.Core.Path.{◌≡◌, refl}
use mathlib.Core.List.{List}
use lib.ListN.{get_or, set}
use Rattle.eight_bytes.specs.Contract.{eight_at}

pub eight_at_lem : (t : List ℕ) (at : ℕ) (out : List ℕ) → set (set (set (set (set (set (set (set out at (get_or t at 0)) (at + 1) (get_or t (at + 1) 0)) (at + 2) (get_or t (at + 2) 0)) (at + 3) (get_or t (at + 3) 0)) (at + 4) (get_or t (at + 4) 0)) (at + 5) (get_or t (at + 5) 0)) (at + 6) (get_or t (at + 6) 0)) (at + 7) (get_or t (at + 7) 0) ≡ eight_at t at out
unfolding eight_at
eight_at_lem t at out = refl

pub ruleset storing = (eight_at_lem)
