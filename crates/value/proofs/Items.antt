-- What answers each return and each turn of the loops over values and over pairs, whose values are read by their bytes. Assumes nothing.
use mathlib.Core.Path.{◌≡◌, refl}
use mathlib.Core.Bool.{Bool, true, false}
use mathlib.Core.List.{List}
use Prim.Native.Nat.{ℕ, ◌+◌, ◌-◌, ◌≤◌, ◌<◌, min}
use native.Mathlib.Omega.{arith}
use lib.ListN.{length, get_or}
use Rattle.draft.specs.declared.Refusal.TheVariants.{Ended}
use Rattle.draft.specs.Read.{floor, item as item_of, value, tag_of}
use Rattle.draft.proofs.Naming.{number_some}
use Rattle.codebook.specs.Words.{book_of}
use Rattle.item.proofs.Stepping.{did_next}
use Rattle.item.specs.Contract.{Step, step_number, step_at, step_row}
use Rattle.item.specs.Contract.{Did, refused_at, read_to}
use Rattle.member_keys.specs.Contract.{Prepared, Done, KeyDone, KeyIf}
use Rattle.member_keys.proofs.Keying.{key_some, key_none}
use Rattle.heads.specs.Items.{holds_items, entries}
use Rattle.heads.proofs.Values.{value_short, value_scalar}
use Rattle.heads.proofs.Entering.{keyed_ahead, keyed_ready}
use Rattle.value.proofs.Keys.{Going, after_scalar, key_stops, value_stops, goes_on}

-- a turn, behind its key if there is one
module _ (deep : ℕ) {s : List ℕ} {keyed : Bool} {n at₀ r₀ room : ℕ} {T₀ W₀ N₀ : List ℕ} {left at r : ℕ} {T W N : List ℕ} (i : Going s keyed (value s room deep) n at₀ r₀ room T₀ W₀ N₀ left at r T W N) (h : 0 < left) {T₁ W₁ N₁ : List ℕ} {key : Step} (k : KeyIf keyed s room r₀ at r T T₁ W W₁ N N₁ key) (e : step_number key ≡ 0) {step : Step} where
  -- no value is there
  turn_ended : {T' W' N' : List ℕ} → length s ≤ (step_at key) → step ≡ refused_at Ended (step_at key) → Done (entries s room keyed (value s room deep) n at₀ r₀ (book_of W₀)) s room (at₀ + min n 1) r₀ T₀ T' W' N₀ N' step
  turn_ended l f =
      let d : Did (value s room deep (step_at key) (step_row key) (book_of W₁)) (length s) room ((step_at key) + 1) (step_row key) T₁ T₁ W₁ step = value_short s deep (step_at key) (book_of W₁) l f in
      value_stops i h k e d (λ z. number_some Ended (rw f at z))

  -- a value by the cycle
  module _ {T₂ W₂ N₂ : List ℕ} (d : Done (value s room deep (step_at key) (step_row key) (book_of W₁)) s room ((step_at key) + 1) (step_row key) T₁ T₂ W₂ N₁ N₂ step) where
    turn_stops : {T' W' N' : List ℕ} → (step_number step ≡ 0 → ⊥) → Done (entries s room keyed (value s room deep) n at₀ r₀ (book_of W₀)) s room (at₀ + min n 1) r₀ T₀ T' W' N₀ N' step
    turn_stops z = value_stops i h k e d.did z

    module _ (z : step_number step ≡ 0) where
      turn_again : (keyed ≡ true → 0 < r₀) → Going s keyed (value s room deep) n at₀ r₀ room T₀ W₀ N₀ (left - 1) (step_at step) (step_row step) T₂ W₂ N₂
      turn_again w = goes_on i h w k e d.did d.after z

      turn_less : length s - (step_at step) < length s - at
      turn_less = let g = did_next d.did z in omega (arith, g.ahead, g.within, keyed_ahead k e)

  -- a value that holds no others
  module _ (l : (step_at key) < length s) {b : Bool} (o : b ≡ holds_items (get_or s (step_at key) 0)) (t : b ≡ false) {T₂ W₂ : List ℕ} (d : Did (item_of s room (tag_of (get_or s (step_at key) 0)) floor (step_at key) (step_row key) (book_of W₁)) (length s) room ((step_at key) + 1) (step_row key) T₁ T₂ W₂ step) where
    flat_value : Did (value s room deep (step_at key) (step_row key) (book_of W₁)) (length s) room ((step_at key) + 1) (step_row key) T₁ T₂ W₂ step
    flat_value = value_scalar s deep (step_at key) (book_of W₁) l o t d

    flat_stops : {T' W' N' : List ℕ} → (step_number step ≡ 0 → ⊥) → Done (entries s room keyed (value s room deep) n at₀ r₀ (book_of W₀)) s room (at₀ + min n 1) r₀ T₀ T' W' N₀ N' step
    flat_stops z = value_stops i h k e flat_value z

    module _ (z : step_number step ≡ 0) where
      flat_again : (keyed ≡ true → 0 < r₀) → Prepared s at r room T W N → length T₁ ≡ length T → length W₁ ≡ length W → length N₁ ≡ length N → Going s keyed (value s room deep) n at₀ r₀ room T₀ W₀ N₀ (left - 1) (step_at step) (step_row step) T₂ W₂ N₁
      flat_again w p x y u = goes_on i h w k e flat_value (after_scalar s (step_at key) (book_of W₁) d (keyed_ready k e p x y u)) z

      flat_less : length s - (step_at step) < length s - at
      flat_less = let g = did_next d z in omega (arith, g.ahead, g.within, keyed_ahead k e)

-- the loop over pairs
module _ (deep : ℕ) {s : List ℕ} {n at₀ r₀ room : ℕ} {T₀ W₀ N₀ : List ℕ} {left at r : ℕ} {T W N : List ℕ} (i : Going s true (value s room deep) n at₀ r₀ room T₀ W₀ N₀ left at r T W N) (h : 0 < left) {T₁ W₁ N₁ : List ℕ} {key : Step} (k : KeyDone s room r₀ at r T T₁ W W₁ N N₁ key) where
  noted : KeyIf true s room r₀ at r T T₁ W W₁ N N₁ key
  noted = key_some refl k

  pub pair_key_stops : {T' W' N' : List ℕ} → (step_number key ≡ 0 → ⊥) → Done (entries s room true (value s room deep) n at₀ r₀ (book_of W₀)) s room (at₀ + min n 1) r₀ T₀ T' W' N₀ N' key
  pair_key_stops z = key_stops i h noted z

  module _ (e : step_number key ≡ 0) where
    pub pair_ready : Prepared s at r room T W N → length T₁ ≡ length T → length W₁ ≡ length W → length N₁ ≡ length N → Prepared s (step_at key) (step_row key) room T₁ W₁ N₁
    pair_ready p x y u = keyed_ready noted e p x y u

    module _ {step : Step} where
      pub pair_ended : {T' W' N' : List ℕ} → length s ≤ (step_at key) → step ≡ refused_at Ended (step_at key) → Done (entries s room true (value s room deep) n at₀ r₀ (book_of W₀)) s room (at₀ + min n 1) r₀ T₀ T' W' N₀ N' step
      pair_ended l f = turn_ended deep i h noted e l f

      module _ {T₂ W₂ N₂ : List ℕ} (d : Done (value s room deep (step_at key) (step_row key) (book_of W₁)) s room ((step_at key) + 1) (step_row key) T₁ T₂ W₂ N₁ N₂ step) where
        pub pair_value_stops : {T' W' N' : List ℕ} → (step_number step ≡ 0 → ⊥) → Done (entries s room true (value s room deep) n at₀ r₀ (book_of W₀)) s room (at₀ + min n 1) r₀ T₀ T' W' N₀ N' step
        pair_value_stops z = turn_stops deep i h noted e d z

        pub pair_value_again : step_number step ≡ 0 → 0 < r₀ → Going s true (value s room deep) n at₀ r₀ room T₀ W₀ N₀ (left - 1) (step_at step) (step_row step) T₂ W₂ N₂
        pair_value_again z w = turn_again deep i h noted e d z (λ _. w)

        pub pair_value_less : step_number step ≡ 0 → length s - (step_at step) < length s - at
        pair_value_less z = turn_less deep i h noted e d z

      module _ (l : (step_at key) < length s) {b : Bool} (o : b ≡ holds_items (get_or s (step_at key) 0)) (t : b ≡ false) {T₂ W₂ : List ℕ} (d : Did (item_of s room (tag_of (get_or s (step_at key) 0)) floor (step_at key) (step_row key) (book_of W₁)) (length s) room ((step_at key) + 1) (step_row key) T₁ T₂ W₂ step) where
        pub pair_flat_stops : {T' W' N' : List ℕ} → (step_number step ≡ 0 → ⊥) → Done (entries s room true (value s room deep) n at₀ r₀ (book_of W₀)) s room (at₀ + min n 1) r₀ T₀ T' W' N₀ N' step
        pair_flat_stops z = flat_stops deep i h noted e l o t d z

        pub pair_flat_again : step_number step ≡ 0 → 0 < r₀ → Prepared s at r room T W N → length T₁ ≡ length T → length W₁ ≡ length W → length N₁ ≡ length N → Going s true (value s room deep) n at₀ r₀ room T₀ W₀ N₀ (left - 1) (step_at step) (step_row step) T₂ W₂ N₁
        pair_flat_again z w p x y u = flat_again deep i h noted e l o t d z (λ _. w) p x y u

        pub pair_flat_less : step_number step ≡ 0 → length s - (step_at step) < length s - at
        pair_flat_less z = flat_less deep i h noted e l o t d z

-- no key
no_key : {s : List ℕ} {room owner at r : ℕ} {T W N : List ℕ} → KeyIf false s room owner at r T T W W N N (read_to at r)
no_key = key_none refl

unkeyed : {n : ℕ} → false ≡ true → 0 < n
unkeyed e = let z : ◌≡◌ {A = ℕ} 0 1 = cc in absurd (omega arith)

-- the loop over values
module _ (deep : ℕ) {s : List ℕ} {n at₀ r₀ room : ℕ} {T₀ W₀ N₀ : List ℕ} {left at r : ℕ} {T W N : List ℕ} (i : Going s false (value s room deep) n at₀ r₀ room T₀ W₀ N₀ left at r T W N) (h : 0 < left) {step : Step} where
  pub ended : {T' W' N' : List ℕ} → length s ≤ at → step ≡ refused_at Ended at → Done (entries s room false (value s room deep) n at₀ r₀ (book_of W₀)) s room (at₀ + min n 1) r₀ T₀ T' W' N₀ N' step
  ended l f = turn_ended deep i h no_key refl l f

  module _ {T₂ W₂ N₂ : List ℕ} (d : Done (value s room deep at r (book_of W)) s room (at + 1) r T T₂ W₂ N N₂ step) where
    pub item_stops : {T' W' N' : List ℕ} → (step_number step ≡ 0 → ⊥) → Done (entries s room false (value s room deep) n at₀ r₀ (book_of W₀)) s room (at₀ + min n 1) r₀ T₀ T' W' N₀ N' step
    item_stops z = turn_stops deep i h no_key refl d z

    pub item_again : step_number step ≡ 0 → Going s false (value s room deep) n at₀ r₀ room T₀ W₀ N₀ (left - 1) (step_at step) (step_row step) T₂ W₂ N₂
    item_again z = turn_again deep i h no_key refl d z (λ e. unkeyed e)

    pub item_less : step_number step ≡ 0 → length s - (step_at step) < length s - at
    item_less z = turn_less deep i h no_key refl d z

  module _ (l : at < length s) {b : Bool} (o : b ≡ holds_items (get_or s at 0)) (t : b ≡ false) {T₂ W₂ : List ℕ} (d : Did (item_of s room (tag_of (get_or s at 0)) floor at r (book_of W)) (length s) room (at + 1) r T T₂ W₂ step) where
    pub item_flat_stops : {T' W' N' : List ℕ} → (step_number step ≡ 0 → ⊥) → Done (entries s room false (value s room deep) n at₀ r₀ (book_of W₀)) s room (at₀ + min n 1) r₀ T₀ T' W' N₀ N' step
    item_flat_stops z = flat_stops deep i h no_key refl l o t d z

    pub item_flat_again : step_number step ≡ 0 → Prepared s at r room T W N → Going s false (value s room deep) n at₀ r₀ room T₀ W₀ N₀ (left - 1) (step_at step) (step_row step) T₂ W₂ N
    item_flat_again z p = flat_again deep i h no_key refl l o t d z (λ e. unkeyed e) p refl refl refl

    pub item_flat_less : step_number step ≡ 0 → length s - (step_at step) < length s - at
    item_flat_less z = flat_less deep i h no_key refl l o t d z

pub ruleset pairing = (pair_key_stops, pair_ready, pair_ended, pair_value_stops, pair_value_again, pair_value_less, pair_flat_stops, pair_flat_again, pair_flat_less)

pub ruleset valuing = (ended, item_stops, item_again, item_less, item_flat_stops, item_flat_again, item_flat_less)
