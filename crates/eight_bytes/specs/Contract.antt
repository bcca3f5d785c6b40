-- An output in which eight bytes of a text stand. Assumes nothing.
use Rattle.std.specs.Prelude.{ℕ, ◌+◌, List, get_or, set}

-- the eight bytes of t at a place, at the same place
unfoldable pub eight_at : List ℕ → ℕ → List ℕ → List ℕ
eight_at t at out =
    set (set (set (set (set (set (set (set out at (get_or t at 0)) (at + 1) (get_or t (at + 1) 0)) (at + 2) (get_or t (at + 2) 0)) (at + 3) (get_or t (at + 3) 0)) (at + 4) (get_or t (at + 4) 0)) (at + 5) (get_or t (at + 5) 0)) (at + 6) (get_or t (at + 6) 0)) (at + 7) (get_or t (at + 7) 0)
