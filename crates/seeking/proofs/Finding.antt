-- What a search finds. Of any list: nothing, or the value of an entry that stands equal and whose rows are a member's. Of a list in order, all of
-- whose entries that stand equal are members': one of these, if there is one. Assumes nothing.
use mathlib.Core.Path.{◌≡◌, refl, ap, ◌∙◌}
use mathlib.Core.Bool.{Bool, true, false, cond}
use mathlib.Core.List.{List}
use Prim.Native.Nat.{ℕ, zero, suc, ◌+◌, ◌-◌, ◌/◌, ◌≤◌, ◌<◌}
use native.Mathlib.Omega.{arith}
use lib.Dec.{ltb}
use lib.ListN.{length, get_or}
use borrow.Author.Tests.{lt-ltb, le-ltb, ltb-true, ltb-false}
use Rattle.member.specs.declared.Member.{Member}
use Rattle.std.proofs.Common.{Ordering, Less, Equal, Greater}
use Rattle.order.proofs.Ordering.{before_equal, equal_after}
use Rattle.seeking.specs.declared.Search.{Search}
use Rattle.seeking.specs.Seeking.{over, search as searchAt, middle, between, ended, begun, turned, unused, stepped, searched}

module _ (relation : Member → Ordering) (named : Member → Bool) (es : List Member) where
  abbrev entry : ℕ → Member
  entry i = get_or es i unused

  -- a search that is over stays
  pub stays : (left : ℕ) (st : Search) → length es ≤ st.at → searched relation named es left st ≡ st
  unfolding searched
  stays zero st h = refl
  stays (suc left) st h = rw (le-ltb st.at (length es) h)

  -- ---- any list

  pub data Outcome (st : Search) : Type 0 where
    nothing : st.value ≡ 0 → Outcome st
    found : (i : ℕ) → i < length es → relation (entry i) ≡ Equal → named (entry i) ≡ true → st.value ≡ (entry i).value → Outcome st

  -- found already, or nothing yet
  any_step : (left : ℕ) (st : Search) → Outcome st → Outcome (searched relation named es left st)
  unfolding searched stepped
  any_step zero st o = o
  any_step (suc left) st o = go (λ s p. any_step left s p) (ltb st.at (length es)) refl
    where
      turn : st.at < length es → (r : Ordering) → relation (entry st.at) ≡ r → (b : Bool) → named (entry st.at) ≡ b → Outcome (turned r b st (entry st.at))
      turn h Less e b f = nothing refl
      turn h Equal e true f = found st.at h e f refl
      turn h Equal e false f = nothing refl
      turn h Greater e b f = nothing refl

      go : ((s : Search) → Outcome s → Outcome (searched relation named es left s)) → (b : Bool) → ltb st.at (length es) ≡ b
          → Outcome (cond b (searched relation named es left (stepped relation named st (entry st.at))) st)
      go ih true e = ih (stepped relation named st (entry st.at)) (turn (ltb-true st.at (length es) e) (relation (entry st.at)) refl (named (entry st.at)) refl)
      go ih false e = o

  pub any_list : (wanted : Bool) → Outcome (searched relation named es (length es) (begun wanted (length es)))
  unfolding begun
  any_list true = any_step (length es) (between 0 (length es)) (nothing refl)
  any_list false = any_step (length es) (ended 0) (nothing refl)

  -- ---- a list in order: what is before stands before the rest, and what is after behind it
  pub record InOrder : Type 0 where
    pub down : (i j : ℕ) → i ≤ j → j < length es → relation (entry j) ≡ Less → relation (entry i) ≡ Less
    pub up : (i j : ℕ) → i ≤ j → j < length es → relation (entry i) ≡ Greater → relation (entry j) ≡ Greater
    pub mine : (i : ℕ) → i < length es → relation (entry i) ≡ Equal → named (entry i) ≡ true

  -- an entry that stands equal was found; or there is none
  pub data Sought (st : Search) : Type 0 where
    none : ((i : ℕ) → i < length es → relation (entry i) ≡ Equal → ⊥) → st.value ≡ 0 → Sought st
    hit : (i : ℕ) → i < length es → relation (entry i) ≡ Equal → st.value ≡ (entry i).value → Sought st

  module _ (ord : InOrder) (fits : length es ≤ over) where
    -- all below low are before, and all from high on after
    record Narrowed (low high : ℕ) : Type 0 where
      inside : low ≤ high
      most : high ≤ length es
      below : (i : ℕ) → i < low → relation (entry i) ≡ Less
      above : (i : ℕ) → high ≤ i → i < length es → relation (entry i) ≡ Greater

    missing : {low high : ℕ} → Narrowed low high → high ≤ low → (i : ℕ) → i < length es → relation (entry i) ≡ Equal → ⊥
    missing {low} {high} w h i l e = go (ltb i low) refl
      where
        go : (b : Bool) → ltb i low ≡ b → ⊥
        go true f = before_equal (w.below i (ltb-true i low f)) e
        go false f = equal_after e (w.above i (omega (arith, ltb-false i low f)) l)

    abbrev half : ℕ → ℕ → ℕ
    half low high = low + (high - low) / 2

    halves : (low high : ℕ) → low < high → between low high ≡ searchAt (half low high) low high 0
    unfolding middle
    halves low high h = rw (lt-ltb low high h)

    -- one step, given what fewer steps find
    module _ (left : ℕ) (ih : (l u : ℕ) → u - l ≤ left → Narrowed l u → Sought (searched relation named es left (between l u))) (low high : ℕ) (few : high - low ≤ suc left) (w : Narrowed low high) where
      abbrev m : ℕ
      m = half low high

      over_found : high ≤ low → Sought (searched relation named es (suc left) (between low high))
      unfolding middle
      over_found l = rw (stays (suc left) (between low high) (rw (le-ltb low high l) fits)) (none (missing w l) refl)

      module _ (l : low < high) where
        looks : searched relation named es (suc left) (between low high) ≡ searched relation named es left (stepped relation named (searchAt m low high 0) (entry m))
        unfolding searched
        looks = ap (searched relation named es (suc left)) (halves low high l) ∙ rw (lt-ltb m (length es) (omega (arith, w.most)))

        turns : (r : Ordering) → relation (entry m) ≡ r → (b : Bool) → named (entry m) ≡ b → Sought (searched relation named es left (turned r b (searchAt m low high 0) (entry m)))
        turns Less f b g =
            ih (m + 1) high (omega arith) (record {
              inside = omega arith;
              most = w.most;
              below = λ i a. ord.down i m (omega arith) (omega (arith, w.most)) f;
              above = w.above;
            })
        turns Equal f true g = rw (stays left (ended (entry m).value) fits) (hit m (omega (arith, w.most)) f refl)
        turns Equal f false g = absurd (let k = ord.mine m (omega (arith, w.most)) f in let z : ◌≡◌ {A = ℕ} 0 1 = cc in omega arith)
        turns Greater f b g =
            ih low m (omega arith) (record {
              inside = omega arith;
              most = omega (arith, w.most);
              below = w.below;
              above = λ i a c. ord.up m i a c f;
            })

        on_found : Sought (searched relation named es (suc left) (between low high))
        unfolding stepped
        on_found = rw looks (turns (relation (entry m)) refl (named (entry m)) refl)

      more_found : (b : Bool) → ltb low high ≡ b → Sought (searched relation named es (suc left) (between low high))
      more_found true e = on_found (ltb-true low high e)
      more_found false e = over_found (ltb-false low high e)

    finds : (left low high : ℕ) → high - low ≤ left → Narrowed low high → Sought (searched relation named es left (between low high))
    unfolding searched
    finds zero low high h w = none (missing w (omega arith)) refl
    finds (suc left) low high h w = more_found left (λ l u m v. finds left l u m v) low high h w (ltb low high) refl

    pub in_order_finds : Sought (searched relation named es (length es) (begun true (length es)))
    unfolding begun
    in_order_finds =
        finds (length es) 0 (length es) (omega arith)
        (record { inside = omega arith; most = omega arith; below = λ i h. absurd (omega arith); above = λ i h l. absurd (omega arith) })
