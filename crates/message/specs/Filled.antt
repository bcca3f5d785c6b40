-- What a lent output holds after a written form was put into it, and what is told of the form. Assumes nothing.
use Rattle.std.specs.Prelude.{ℕ, ◌-◌, ◌≤◌, ◌<◌, ◌≡◌, cond, List, ◌++◌, length, replicate, leb}

-- the form and zeros behind it, if it has at most 65,536 bytes and there is room for it; else zeros
unfoldable pub filled : List ℕ → ℕ → List ℕ
filled form room =
    cond (leb (length form) 65536) (cond (leb (length form) room) (form ++ replicate (room - length form) 0) (replicate room 0)) (replicate room 0)

-- how many bytes it needs: all numbers over 65,536 are told as 65,537
abbrev pub needed_for : ℕ → ℕ
needed_for n = cond (leb n 65536) n 65537

unfoldable pub needed : List ℕ → ℕ
needed form = needed_for (length form)

-- the bytes that a message may have in an output of n: all of them, 65,536 at most
pub record Most (n m : ℕ) : Type 0 where
  pub within : m ≤ n
  pub few : m ≤ 65536
  pub all : m < 65536 → m ≡ n

pub record Filled (form out out' : List ℕ) (n : ℕ) : Type 0 where
  pub tells : n ≡ needed form
  pub leaves : out' ≡ filled form (length out)
