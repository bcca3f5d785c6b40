-- How a message begins: two texts agree as far as both go exactly if they are equal so far. Assumes nothing.
use Rattle.std.proofs.Common.{◌≡◌, ℕ, zero, suc, ◌≤◌, min, true, ◌&&◌, List, [], ◌∷◌, length, take, nat_eq, refl, ap, arith}
use lib.Pointwise.{pointwise}
use Rattle.draft.specs.Read.{agree}

pub front_agrees : (n : ℕ) (s t : List ℕ) → n ≡ min (length s) (length t) → pointwise nat_eq (take n s) (take n t) ≡ agree s t
unfolding agree
front_agrees zero [] t h = refl
front_agrees zero (x ∷ s) [] h = refl
front_agrees zero (x ∷ s) (y ∷ t) h = absurd (omega arith)
front_agrees (suc n) [] t h = absurd (omega arith)
front_agrees (suc n) (x ∷ s) [] h = absurd (omega arith)
front_agrees (suc n) (x ∷ s) (y ∷ t) h = ap (λ b. nat_eq x y && b) (front_agrees n s t (omega arith))
