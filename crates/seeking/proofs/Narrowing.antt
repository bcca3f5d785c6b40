-- A search narrows at each step, and so ends; and what answers the functions' returns. Assumes nothing.
use mathlib.Core.Path.{◌≡◌, refl, ◌∙◌}
use mathlib.Core.Bool.{Bool, true, false, cond}
use mathlib.Core.List.{List}
use Prim.Native.Nat.{ℕ, zero, suc, ◌+◌, ◌-◌, ◌/◌, ◌≤◌, ◌<◌}
use native.Mathlib.Omega.{arith}
use lib.Dec.{ltb}
use lib.ListN.{length, get_or}
use borrow.Author.Tests.{lt-ltb, le-ltb, ltb-true}
use Rattle.member.specs.declared.Member.{Member}
use Rattle.std.proofs.Common.{Ordering, Less, Equal, Greater}
use Rattle.seeking.specs.declared.Search.{Search}
use Rattle.seeking.specs.Seeking.{over, search as searchAt, middle, between, ended, begun, turned, unused, stepped, searched}

-- ---- the functions' returns

module _ (low high : ℕ) where
  pub between_on : low < high → searchAt (low + (high - low) / 2) low high 0 ≡ between low high
  unfolding middle
  between_on h = rw (lt-ltb low high h)

  pub between_over : high ≤ low → searchAt over low high 0 ≡ between low high
  unfolding middle
  between_over h = rw (le-ltb low high h)

module _ {b : Bool} (n : ℕ) {st : Search} where
  pub begun_on : b ≡ true → st ≡ between 0 n → st ≡ begun b n
  unfolding begun
  begun_on e i = i ∙ rw e

  pub begun_not : b ≡ false → st ≡ ended 0 → st ≡ begun b n
  unfolding begun
  begun_not e i = i ∙ rw e

pub ruleset seeking = (between_on, between_over, begun_on, begun_not)

-- ---- where a search looks lies between its bounds, and these come nearer

pub record Fine (st : Search) : Type 0 where
  pub inside : st.at < over → (st.low ≤ st.at) × (st.at < st.high)

abbrev pub span : Search → ℕ
span st = st.high - st.low

pub fine_between : (low high : ℕ) → Fine (between low high)
unfolding middle
fine_between low high = go (ltb low high) refl
  where
    go : (b : Bool) → ltb low high ≡ b → Fine (searchAt (cond b (low + (high - low) / 2) over) low high 0)
    go true e = let l : low < high = ltb-true low high e in record { inside = λ h. (omega arith, omega arith) }
    go false e = record { inside = λ h. absurd (omega arith) }

pub fine_ended : (value : ℕ) → Fine (ended value)
fine_ended value = record { inside = λ h. absurd (omega arith) }

-- what holds of both holds of whichever is picked
pub either : (P : Search → Type 0) (b : Bool) {x y : Search} → P x → P y → P (cond b x y)
either P true p q = p
either P false p q = q

abbrev Next : Search → Search → Type 0
Next st r = Fine r × (span r < span st)

module _ (relation : Member → Ordering) (named : Member → Bool) where
  module _ (st : Search) (e : Member) (low : st.low ≤ st.at) (high : st.at < st.high) where
    pub narrows : Next st (stepped relation named st e)
    unfolding stepped
    narrows = go (relation e)
      where
        go : (r : Ordering) → Next st (turned r (named e) st e)
        go Less = (fine_between (st.at + 1) st.high, omega arith)
        go Equal = either (Next st) (named e) (fine_ended e.value, omega arith) (fine_ended 0, omega arith)
        go Greater = (fine_between st.low st.at, omega arith)

  -- where a search stands that is wanted or not: no more than `left` steps are left
  pub record Seeking (es : List Member) (wanted : Bool) (left : ℕ) (st : Search) : Type 0 where
    pub fine : Fine st
    pub asked : st.at < over → wanted ≡ true
    pub enough : span st ≤ left
    pub comes : searched relation named es left st ≡ searched relation named es (length es) (begun wanted (length es))

  module _ {es : List Member} where
    pub seeking_first : (wanted : Bool) → Seeking es wanted (length es) (begun wanted (length es))
    unfolding begun
    seeking_first true = record { fine = fine_between 0 (length es); asked = λ h. refl; enough = omega arith; comes = refl }
    seeking_first false = record { fine = fine_ended 0; asked = λ h. absurd (omega arith); enough = omega arith; comes = refl }

    module _ {wanted : Bool} where
      -- one step more, where there is an entry to look at
      pub seeking_next :
          (left : ℕ) (st : Search) → Seeking es wanted left st → st.at < length es → st.at < over
          → Seeking es wanted (left - 1) (stepped relation named st (get_or es st.at unused))
      unfolding searched
      seeking_next zero st k h i = absurd (omega (arith, k.enough, (k.fine.inside i).0, (k.fine.inside i).1))
      seeking_next (suc left) st k h i =
          let n : Next st (stepped relation named st (get_or es st.at unused)) = narrows st (get_or es st.at unused) (k.fine.inside i).0 (k.fine.inside i).1 in
          let e : suc left - 1 ≡ left = omega arith in
          rw e (record { fine = n.0; asked = λ j. k.asked i; enough = omega (arith, n.1, k.enough); comes = simp (lt-ltb _ _ h) at k.comes })

      pub seeking_less : {left : ℕ} {st : Search} → Seeking es wanted left st → st.at < over → left - 1 < left
      seeking_less k i = omega (arith, k.enough, (k.fine.inside i).0, (k.fine.inside i).1)

      pub seeking_done : (left : ℕ) (st : Search) → Seeking es wanted left st → length es ≤ st.at → st ≡ searched relation named es (length es) (begun wanted (length es))
      unfolding searched
      seeking_done zero st k h = k.comes
      seeking_done (suc left) st k h = simp (le-ltb _ _ h) at k.comes
