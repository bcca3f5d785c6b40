-- Two runs of rows merged by the byte order of their texts. Assumes nothing.
use Rattle.std.specs.Prelude.{◌≡◌, Bool, true, false, cond, List, [], ◌∷◌, ◌++◌, ℕ, ◌+◌, ◌-◌, ◌≤◌, ltb, length, get_or, set, take, drop}
use Rattle.sorting.specs.Sorting.{before, sorted, Rising}

-- the first n words copied to place z
unfoldable pub copied : ℕ → ℕ → List ℕ → List ℕ
copied n z w = take z w ++ (take n w ++ drop (z + n) w)

-- two runs of which i and j - half rows are merged: one of `half` rows at place z, and one from place `half` to place n
pub record Runs (half n z i j words : ℕ) : Type 0 where
  pub first : i ≤ half
  pub from : half ≤ j
  pub second : j ≤ n
  pub most : n ≤ z
  pub room : z + half ≤ words

-- the texts of rows by their numbers
module _ (text : ℕ → List ℕ) where
  -- row x in front of what f makes of a run, behind the rows of the run that x is not before
  unfoldable pub into : ℕ → (List ℕ → List ℕ) → List ℕ → List ℕ
  into x f [] = x ∷ f []
  into x f (y ∷ ys) = cond (before text x y) (x ∷ f (y ∷ ys)) (y ∷ into x f ys)

  -- each row of the first run behind those of the second that it is not before
  unfoldable pub merged : List ℕ → List ℕ → List ℕ
  merged [] ys = ys
  merged (x ∷ xs) ys = into x (merged xs) ys

  -- row x is not before the row at place j, which is one of the first n
  unfoldable pub second_first : ℕ → List ℕ → ℕ → ℕ → Bool
  second_first x w j n = cond (ltb j n) (cond (before text x (get_or w j 0)) false true) false

  -- the next row of two runs was put behind those that are merged
  pub record Taken (half n z i j : ℕ) (w w' : List ℕ) (b : Bool) : Type 0 where
    pub says : b ≡ second_first (get_or w (z + i) 0) w j n
    pub leaves : w' ≡ set w (i + (j - half)) (cond b (get_or w j 0) (get_or w (z + i) 0))

  -- of the words before place z the first n are `left` merged with those from place `half` on
  pub record Merged (left : List ℕ) (half n z : ℕ) (w w' : List ℕ) : Type 0 where
    pub front : take z w' ≡ merged left (take (n - half) (drop half w)) ++ drop n (take z w)
    pub long : length w' ≡ length w

  -- two runs in order, one before place `half` and one before place n, were put in order
  pub record Joined (half n z : ℕ) (w w' : List ℕ) : Type 0 where
    pub merges : Rising text (take half w) → Merged (take half w) half n z w w'
    pub long : length w' ≡ length w

  -- of the words before place z the first n were put in order
  pub record Sorted (n z : ℕ) (w w' : List ℕ) : Type 0 where
    pub front : take z w' ≡ sorted text (take n w) ++ drop n (take z w)
    pub long : length w' ≡ length w
