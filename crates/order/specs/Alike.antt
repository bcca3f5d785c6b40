-- What is compared of two texts: as many bytes as the shorter has, eight of them as one number. Assumes nothing.
use Rattle.std.specs.Prelude.{◌≡◌, List, [], ◌∷◌, ℕ, ◌+◌, ◌*◌, ◌≤◌, ◌<◌, min, length, get_or, take, drop}

-- n is the lesser of the lengths of two texts
pub record Least (a b : List ℕ) (n : ℕ) : Type 0 where
  pub is : n ≡ min (length a) (length b)

-- the first n bytes of two texts are the same
pub record Alike (a b : List ℕ) (n : ℕ) : Type 0 where
  pub first : n ≤ length a
  pub second : n ≤ length b
  pub same : take n a ≡ take n b

-- the number of some bytes behind a number, the highest first
unfoldable pub rank_from : ℕ → List ℕ → ℕ
rank_from n [] = n
rank_from n (byte ∷ s) = rank_from (n * 256 + byte) s

abbrev pub rank : List ℕ → ℕ
rank = rank_from 0

-- x is the number of the eight bytes at a place of a text, whose elements are bytes
pub record Ranked (s : List ℕ) (at x : ℕ) : Type 0 where
  pub is : x ≡ rank (take 8 (drop at s))
  pub bytes : (i : ℕ) → get_or s i 0 < 256
