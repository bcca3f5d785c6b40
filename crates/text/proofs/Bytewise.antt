-- Two functions that agree at each number below n, by a list that antt computes; and what so follows of the byte classes.
-- Assumes nothing.
use mathlib.Core.Path.{◌≡◌, refl, ap, ◌∙◌}
use mathlib.Core.Bool.{Bool, true, false, ◌&&◌, cond}
use mathlib.Core.List.{List, [], ◌∷◌}
use Prim.Native.Nat.{ℕ, zero, suc, ◌+◌, ◌<◌}
use native.Mathlib.Nat.{zero-add, add-zero, add-suc, suc-add}
use native.Mathlib.Omega.{arith}
use lib.Dec.{eqb, leb}
use lib.ListN.{get_or}
use borrow.Author.Tests.{eqb-true, eqb-false}
use Rattle.text.specs.Utf8.{within, Due, due, wrong, due_by, due_after}
use Rattle.text.specs.Classes.{single, low_tail, middle_tail, high_tail, lead_two, lead_three_least, lead_three, lead_three_surrogate, lead_four_least, lead_four, lead_four_most, class_by, class_of, filled, class_table, least, greatest, classes, tails, UpToTails}

-- what f gives below n
abbrev pub listed : {A : Type 0} → ℕ → (ℕ → A) → List A
listed zero f = []
listed (suc n) f = f n ∷ listed n f

pub agree : {A : Type 0} (n : ℕ) (f g : ℕ → A) → listed n f ≡ listed n g → (k : ℕ) → k < n → f k ≡ g k
agree zero f g e k h = absurd (omega arith)
agree (suc n) f g e k h =
    let top : f n ≡ g n = cc in
    let rest : listed n f ≡ listed n g = cc in
    go (eqb k n) refl top (agree n f g rest k)
  where
    go : (b : Bool) → eqb k n ≡ b → f n ≡ g n → (k < n → f k ≡ g k) → f k ≡ g k
    go true t top below = rw (eqb-true k n t) top
    go false t top below = below (omega (arith, eqb-false k n t))

-- an entry of a table that a rule fills
from : (rule : ℕ → ℕ) (k n i : ℕ) → i < n → get_or (filled rule k n) i 0 ≡ rule (k + i)
from rule k zero i h = absurd (omega arith)
from rule k (suc n) zero h = rw add-zero
from rule k (suc n) (suc i) h = from rule (suc k) n i (omega arith) ∙ rw (suc-add, add-suc)

entry : (rule : ℕ → ℕ) (n i : ℕ) → i < n → get_or (filled rule 0 n) i 0 ≡ rule i
entry rule n i h = from rule 0 n i h ∙ ap rule (zero-add i)

-- an entry of the table of classes
pub class_entry : {table : List ℕ} (b : ℕ) → table ≡ class_table → b < 256 → get_or table b 0 ≡ class_of b
unfolding class_table
class_entry b e h = rw e (entry class_of 256 b h)

pub due_single : (b : ℕ) → b < 128 → due_after b ≡ due []
unfolding due_after due_by within
due_single b h = agree 128 due_after (λ k. due []) refl b h

-- what is due after a first byte, by its class
abbrev pub due_of : ℕ → Due
due_of class =
    cond (eqb class single) (due [])
    (cond (eqb class lead_two) (due (tails ∷ []))
    (cond (eqb class lead_three_least) (due (classes high_tail high_tail ∷ tails ∷ []))
    (cond (eqb class lead_three) (due (tails ∷ tails ∷ []))
    (cond (eqb class lead_three_surrogate) (due (classes low_tail middle_tail ∷ tails ∷ []))
    (cond (eqb class lead_four_least) (due (classes middle_tail high_tail ∷ tails ∷ tails ∷ []))
    (cond (eqb class lead_four) (due (tails ∷ tails ∷ tails ∷ []))
    (cond (eqb class lead_four_most) (due (classes low_tail low_tail ∷ tails ∷ tails ∷ [])) wrong)))))))

pub due_by_class : (b : ℕ) → b < 256 → due_after b ≡ due_of (class_of b)
unfolding due_after due_by within class_of class_by classes least greatest
due_by_class b h = agree 256 due_after (λ k. due_of (class_of k)) refl b h

abbrev between : ℕ → ℕ → ℕ → Bool
between low high class = leb low class && leb class high

-- a byte lies in the range of some classes if its class is one of them
pub within_classes : (low high b : ℕ) → UpToTails low high → b < 256 → within (classes low high) b ≡ between low high (class_of b)
unfolding within class_of class_by classes least greatest
within_classes low high b u h = agree 256 (λ k. within (classes low high) k) (λ k. between low high (class_of k)) at_high b h
  where
    at_low : listed 4 (λ high. listed 256 (λ k. within (classes low high) k)) ≡ listed 4 (λ high. listed 256 (λ k. between low high (class_of k)))
    at_low =
        agree 4 (λ low. listed 4 (λ high. listed 256 (λ k. within (classes low high) k)))
        (λ low. listed 4 (λ high. listed 256 (λ k. between low high (class_of k)))) refl low (omega (arith, u.first))

    at_high : listed 256 (λ k. within (classes low high) k) ≡ listed 256 (λ k. between low high (class_of k))
    at_high =
        agree 4 (λ high. listed 256 (λ k. within (classes low high) k)) (λ high. listed 256 (λ k. between low high (class_of k)))
        at_low high (omega (arith, u.last))

pub ruleset classing = (class_entry)
