-- What answers the returns and turns of the functions that copy bytes to the front of an output. Assumes nothing.
use Prim.Native.Nat.{ℕ, zero, suc, ◌+◌, ◌-◌, ◌≤◌, ◌<◌}
use mathlib.Core.Path.{◌≡◌, refl, ap, ◌∙◌}
use mathlib.Core.Bool.{Bool, true, false}
use mathlib.Core.List.{List, [], ◌∷◌, ◌++◌, append_assoc}
use native.Mathlib.Omega.{arith}
use native.Mathlib.Numerals.{add-one}
use lib.ListN.{length, get_or, set, take, drop, length-set}
use lib.Dec.{ltb}
use lib.Seq.{take_all, take-suc, drop-cons, set_at, length-take-le}
use borrow.Author.Tests.{ltb-true, ltb-false}
use Rattle.eight_bytes.specs.Contract.{eight_at}
use Rattle.copying.specs.Contract.{Front}

-- i bytes of t stand in front of an output o
pub record Copying (t o : List ℕ) (i : ℕ) (out : List ℕ) : Type 0 where
  pub is : out ≡ take i t ++ drop i o
  pub within : i ≤ length t
  pub long : length out ≡ length o

pub copy_first : (t o : List ℕ) → Copying t o 0 o
copy_first t o = record { is = refl; within = omega arith; long = refl }

module _ {t o out : List ℕ} {i : ℕ} (c : Copying t o i out) where
  pub copy_again : length t ≤ length o → i < length t → Copying t o (i + 1) (set out i (get_or t i 0))
  copy_again m h =
      record {
        is = rw (add-one, c.is, drop-cons o i 0 (omega arith), set_at (take i t) (get_or o i 0) (drop (suc i) o) (get_or t i 0) i (length-take-le i t (omega arith)), take-suc t i 0 h, append_assoc);
        within = omega arith;
        long = length-set out i (get_or t i 0) ∙ c.long;
      }

  pub copy_done : length t ≤ i → Front t o out
  copy_done h =
      let q : i ≡ length t = omega (arith, c.within) in
      record { is = c.is ∙ rw (take_all i t h, q) }

-- a byte that was copied is copied again
set_own : (l : List ℕ) (k : ℕ) {x : ℕ} → x ≡ get_or l k 0 → set l k x ≡ l
set_own [] k e = refl
set_own (y ∷ l) zero e = rw e
set_own (y ∷ l) (suc k) e = ap (λ (w : List ℕ). y ∷ w) (set_own l k e)

copied : (t r : List ℕ) (i k : ℕ) → k < i → i ≤ length t → get_or t k 0 ≡ get_or (take i t ++ r) k 0
copied [] r i k h l = absurd (omega arith)
copied (x ∷ t) r zero k h l = absurd (omega arith)
copied (x ∷ t) r (suc i) zero h l = refl
copied (x ∷ t) r (suc i) (suc k) h l = copied t r i k (omega arith) (omega arith)

-- at least i bytes of t stand in front of an output o
record Reaching (t o : List ℕ) (i : ℕ) (out : List ℕ) : Type 0 where
  upto : ℕ
  far : i ≤ upto
  copying : Copying t o upto out

module _ {t o : List ℕ} (m : length t ≤ length o) where
  reach_next : (k : ℕ) {out : List ℕ} (next : ℕ) → next ≡ k + 1 → k < length t → Reaching t o k out → Reaching t o next (set out k (get_or t k 0))
  reach_next k {out} next e h r = go r.upto r.far r.copying (ltb k r.upto) refl
    where
      go : (j : ℕ) → k ≤ j → Copying t o j out → (b : Bool) → ltb k j ≡ b → Reaching t o next (set out k (get_or t k 0))
      go j l c true f =
          let q : set out k (get_or t k 0) ≡ out = set_own out k (rw c.is (copied t (drop j o) j k (ltb-true k j f) c.within)) in
          record { upto = j; far = omega (arith, ltb-true k j f); copying = rw q c }
      go j l c false f =
          let q : j ≡ k = omega (arith, ltb-false k j f) in
          let d : Copying t o k out = rw q at c in
          record { upto = k + 1; far = omega arith; copying = copy_again d m h }

  reach_eight : (at : ℕ) {out : List ℕ} → at + 8 ≤ length t → Reaching t o at out → Reaching t o (at + 8) (eight_at t at out)
  unfolding eight_at
  reach_eight at h r =
      reach_next (at + 7) (at + 8) (omega arith) (omega arith)
      (reach_next (at + 6) (at + 7) (omega arith) (omega arith)
      (reach_next (at + 5) (at + 6) (omega arith) (omega arith)
      (reach_next (at + 4) (at + 5) (omega arith) (omega arith)
      (reach_next (at + 3) (at + 4) (omega arith) (omega arith)
      (reach_next (at + 2) (at + 3) (omega arith) (omega arith)
      (reach_next (at + 1) (at + 2) (omega arith) (omega arith)
      (reach_next at (at + 1) refl (omega arith) r)))))))

  reach_from : {i j : ℕ} {out : List ℕ} → j ≤ i → Reaching t o i out → Reaching t o j out
  reach_from h r = record { upto = r.upto; far = omega (arith, r.far); copying = r.copying }

  reach_done : {i : ℕ} {out : List ℕ} → length t ≤ i → Reaching t o i out → Front t o out
  reach_done h r = copy_done {i = r.upto} r.copying (omega (arith, r.far))

  -- the first eight and the last
  pub copy_both : {out out' : List ℕ} → 8 ≤ length t → length t ≤ 16 → out ≡ eight_at t 0 o → out' ≡ eight_at t (length t - 8) out → Front t o out'
  copy_both {out} {out'} h l e f =
      let a : Reaching t o 8 out = rw e (reach_eight 0 (omega arith) (record { upto = 0; far = omega arith; copying = copy_first t o })) in
      let b : Reaching t o (length t - 8 + 8) out' = rw f (reach_eight (length t - 8) (omega arith) (reach_from (omega arith) a)) in
      reach_done (omega arith) b

pub ruleset copying = (copy_first, copy_again, copy_done, copy_both)
