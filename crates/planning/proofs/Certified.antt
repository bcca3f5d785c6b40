-- Prices prove what any legal sending costs at least. Assumes nothing.
use Prim.Native.Nat.{ℕ, zero, suc, ◌+◌, ◌*◌, ◌≤◌, ◌<◌}
use mathlib.Core.Path.{◌≡◌, refl}
use mathlib.Core.Bool.{Bool, true, false, cond}
use mathlib.Core.Option.{Option, some, none}
use mathlib.Core.List.{List, [], ◌∷◌}
use native.Mathlib.Omega.{arith}
use native.Mathlib.Nat.{mul-add}
use lib.ListN.{length}
use lib.Dec.{ltb}
use borrow.Author.Tests.{ltb-true, ltb-false, ne_eqb, eq-eqb}
use Rattle.draft.specs.Grammar.{Sent, Recording, text_at, look, Legal, legal_none, legal_regular, legal_recorded, legal_recalled}
use Rattle.written.proofs.Sending.{texts}
use Rattle.planning.proofs.Positions.{Within, within_none, within_regular, within_recorded, within_recalled}
use Rattle.draft.specs.Strings.{Text, cost, costs}
use Rattle.text.specs.Texts.{same}
use Rattle.prices.specs.Prices.{price, later, total, Past, worth, share, left, passed, shares, bound}
use Rattle.text.proofs.Comparing.{same_is, same_self}
use Rattle.planning.proofs.Sums.{sum, each, but}

-- what it is worth to have what a position holds
abbrev held : List Past → Option Text → ℕ
held hs none = 0
held hs (some t) = worth hs t

-- what all positions below P hold
abbrev stock : List Past → List Recording → ℕ → ℕ
stock hs R P = sum (λ p. held hs (look p R)) P

-- a string of n bytes whose text is worth w: its share s, and what its text is worth then, e
record Turn (n w s e : ℕ) : Type 0 where
  anew : s ≤ 5 + n
  record_it : s + e ≤ 6 + n
  recall_it : s + e ≤ 2 + w
  less : e ≤ w

turn : (n w : ℕ) → Turn n w (share n w) (left n w)
turn n w = go (ltb (3 + n) w) refl
  where
    go : (b : Bool) → ltb (3 + n) w ≡ b → Turn n w (cond b (5 + n) (2 + w)) (cond b 1 0)
    go true e = let l = ltb-true (3 + n) w e in record { anew = omega arith; record_it = omega arith; recall_it = omega arith; less = omega arith }
    go false e = let l = ltb-false (3 + n) w e in record { anew = omega arith; record_it = omega arith; recall_it = omega arith; less = omega arith }

module _ (hs : List Past) (y : ℕ) (t : Text) where
  abbrev it : Turn (length t) (worth hs t) (share (length t) (worth hs t)) (left (length t) (worth hs t))
  it = turn (length t) (worth hs t)

  -- over a string and the gap after it no text's worth grows by more than the price
  grows : (o : Option Text) → held (passed hs y t) o ≤ y + held hs o
  unfolding worth
  grows none = omega arith
  grows (some u) = go (same u t) refl
    where
      go : (b : Bool) → same u t ≡ b → y + cond b (left (length t) (worth hs t)) (worth hs u) ≤ y + worth hs u
      go true s = rw (same_is u t s) (omega (arith, it.less))
      go false s = omega arith

  now_worth : worth (passed hs y t) t ≡ y + left (length t) (worth hs t)
  unfolding worth
  now_worth = rw (same_self t)

  module _ (R : List Recording) (P : ℕ) where
    on_regular : stock (passed hs y t) R P ≤ P * y + stock hs R P
    on_regular = each _ _ y P (λ q l. grows (look q R))

    on_recalled : {p : ℕ} → p < P → look p R ≡ some t → stock (passed hs y t) R P + worth hs t ≤ P * y + stock hs R P + left (length t) (worth hs t)
    on_recalled {p} l h = but _ _ y p (worth hs t) _ (λ q n. grows (look q R)) (rw h (omega (arith, now_worth))) P l

    on_recorded : {p : ℕ} → p < P → stock (passed hs y t) (text_at p t ∷ R) P + 0 ≤ P * y + stock hs R P + left (length t) (worth hs t)
    on_recorded {p} l =
        but _ _ y p 0 _ (λ q n. rw (ne_eqb q p n) (grows (look q R))) (rw (eq-eqb p p refl) (omega (arith, now_worth))) P l

paid : (P : ℕ) (ys : List ℕ) → P * total ys ≡ P * price ys + P * total (later ys)
unfolding total
paid P [] = omega arith
paid P (y ∷ ys) = mul-add P y (total ys)

-- what is left to send, and what the positions hold, pays for the shares of what is left
pub at_least : {R : List Recording} {fs : List Sent} (P : ℕ) (hs : List Past) (ys : List ℕ) → Legal R fs → Within P fs → shares hs ys (texts fs) ≤ costs fs + P * total ys + stock hs R P
unfolding shares costs cost
at_least P hs ys legal_none within_none = omega arith
at_least P hs ys (legal_regular {R} {t} l) (within_regular w) =
    omega (arith, it hs (price ys) t, at_least P (passed hs (price ys) t) (later ys) l w, on_regular hs (price ys) t R P, paid P ys)
at_least P hs ys (legal_recorded {R} {p} {t} l) (within_recorded b w) =
    omega (arith, it hs (price ys) t, at_least P (passed hs (price ys) t) (later ys) l w, on_recorded hs (price ys) t R P b, paid P ys)
at_least P hs ys (legal_recalled {R} {p} {t} h l) (within_recalled b w) =
    omega (arith, it hs (price ys) t, at_least P (passed hs (price ys) t) (later ys) l w, on_recalled hs (price ys) t R P b h, paid P ys)

no_stock : (hs : List Past) (P : ℕ) → stock hs [] P ≡ 0
unfolding sum
no_stock hs zero = refl
no_stock hs (suc P) = rw (no_stock hs P)

-- PRICES CERTIFY: whatever the prices, any legal sending over P positions costs at least their bound, less P times all prices
pub certified : (P : ℕ) (ys : List ℕ) (fs : List Sent) → Legal [] fs → Within P fs → bound ys (texts fs) ≤ costs fs + P * total ys
certified P ys fs l w = omega (arith, at_least P [] ys l w, no_stock [] P)

-- so what costs just that is shortest: no legal sending of the same texts costs less
pub shortest : (P : ℕ) (ys : List ℕ) (plan : List Sent) → costs plan + P * total ys ≤ bound ys (texts plan) → (fs : List Sent) → texts fs ≡ texts plan → Legal [] fs → Within P fs → costs plan ≤ costs fs
shortest P ys plan h fs e l w =
    let c : bound ys (texts plan) ≤ costs fs + P * total ys = rw e at (certified P ys fs l w) in
    omega (arith, c, h)
