-- The codebook's words: what they hold when clear and after a text is recorded, and what a recall finds. Assumes nothing.
use mathlib.Core.Path.{◌≡◌, refl, fun_ext}
use mathlib.Core.Bool.{Bool, true, false, cond}
use mathlib.Core.List.{List}
use Prim.Native.Nat.{ℕ, zero, suc, ◌+◌, ◌*◌, ◌-◌, ◌/◌, ◌%◌, ◌<◌}
use native.Mathlib.Omega.{arith}
use lib.Dec.{eqb}
use lib.Seq.{get_or-set_same, get_or-set_other}
use lib.ListN.{length, get_or, set, replicate}
use borrow.Author.Tests.{eq-eqb, ne_eqb, eqb-true, eqb-false}
use Rattle.std.specs.Prelude.{Some, None}
use Rattle.draft.specs.Codebook.{Entry, span, clear, recorded}
use Rattle.codebook.specs.Words.{entry, book_of}

-- a word is not 0, and gives the offset and the length back
module _ (o n : ℕ) (z : 1 < o) (h : n < 65536) where
  some : (o - 1) * 65536 + n ≡ 0 → ⊥
  some e = omega arith

  offset_is : ((o - 1) * 65536 + n) / 65536 + 1 ≡ o
  offset_is = omega arith

  length_is : ((o - 1) * 65536 + n) % 65536 ≡ n
  length_is = omega arith

recorded_is : (W : List ℕ) (p o n : ℕ) → length W ≡ 256 → p < 256 → 1 < o → n < 65536 → book_of (set W p ((o - 1) * 65536 + n)) ≡ recorded (book_of W) p o n
unfolding book_of recorded
recorded_is W p o n l h z k = fun_ext (λ q. go q (eqb q p) refl)
  where
    go : (q : ℕ) (b : Bool) → eqb q p ≡ b → entry (get_or (set W p ((o - 1) * 65536 + n)) q 0) ≡ cond b (Some (span o n)) (entry (get_or W q 0))
    go q true e =
        let s : q ≡ p = eqb-true q p e in
        rw (s, get_or-set_same W p ((o - 1) * 65536 + n) 0 (omega arith), ne_eqb ((o - 1) * 65536 + n) 0 (some o n z k), offset_is o n z k, length_is o n z k)
    go q false e =
        let s = eqb-false q p e in
        rw (get_or-set_other W p q ((o - 1) * 65536 + n) 0 (λ f. s (omega arith)))

module _ (W : List ℕ) (p q : ℕ) (e : p ≡ q) where
  pub records : (o n : ℕ) → length W ≡ 256 → p < 256 → 1 < o → n < 65536 → book_of (set W p ((o - 1) * 65536 + n)) ≡ recorded (book_of W) q o n
  records o n l h z k = rw (← e) (recorded_is W p o n l h z k)

  pub recalls : {x : Entry} → x ≡ entry (get_or W p 0) → x ≡ book_of W q
  unfolding book_of
  recalls f = rw (← e) f

-- what a word holds
pub entry_unset : (w : ℕ) → w ≡ 0 → None ≡ entry w
entry_unset w z = simp (eq-eqb _ _ z)

pub entry_text : (w : ℕ) → (w ≡ 0 → ⊥) → Some (span (w / 65536 + 1) (w % 65536)) ≡ entry w
entry_text w z = simp (ne_eqb _ _ z)

get_d_zeros : (n i : ℕ) → ◌≡◌ {A = ℕ} (get_or (replicate n 0) i 0) 0
get_d_zeros zero i = refl
get_d_zeros (suc n) zero = refl
get_d_zeros (suc n) (suc i) = get_d_zeros n i

-- all zeros are the empty codebook
pub clear_holds : (n : ℕ) → book_of (replicate n 0) ≡ clear
unfolding book_of
clear_holds n = fun_ext (λ p. simp (get_d_zeros n))

pub ruleset recording = (records, recalls, entry_unset, entry_text)
