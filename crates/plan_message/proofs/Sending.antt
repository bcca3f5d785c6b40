-- What answers each return of the function that puts a string as a plan sends it. Assumes nothing.
use Prim.Native.Nat.{ℕ, zero, suc, ◌≤◌}
use mathlib.Core.Path.{◌≡◌, refl, ◌∙◌}
use mathlib.Core.List.{List, [], ◌∷◌}
use native.Mathlib.Omega.{arith}
use lib.ListN.{length}
use Rattle.draft.specs.declared.Row.{Row}
use Rattle.draft.specs.Grammar.{regular, recorded, recalled}
use Rattle.draft.specs.Strings.{Text}
use Rattle.draft.specs.Written.{counted, string_bytes}
use Rattle.buckets.specs.Numbered.{numbered_text}
use Rattle.output.specs.Contract.{Put, Tried}
use Rattle.plans.specs.Plans.{form_at, position_at, sent_by, sent_at}

-- what was tried with room for it is put
tried_put : {xs o o' : List ℕ} {n : ℕ} → length xs ≤ length o → Tried xs (length o) o o' n → Put xs o o' n
tried_put h t = record { front = t.front (omega (arith, t.long)); long = t.long }

module _ (row : ℕ → Row) (W s plan : List ℕ) (j : ℕ) {t : Text} {form : ℕ} (g : t ≡ numbered_text row W s j) (f : form ≡ form_at plan j) where
  by_form : sent_at plan j (numbered_text row W s j) ≡ sent_by form (position_at plan j) t
  unfolding sent_at
  by_form = rw (f, g)

  -- the string by its form
  regular_is : form ≡ 0 → sent_at plan j (numbered_text row W s j) ≡ regular t
  regular_is e = by_form ∙ rw e

  recorded_is : form ≡ 1 → sent_at plan j (numbered_text row W s j) ≡ recorded (position_at plan j) t
  recorded_is e = by_form ∙ rw e

  recalled_is : (form ≡ 0 → ⊥) → (form ≡ 1 → ⊥) → sent_at plan j (numbered_text row W s j) ≡ recalled (position_at plan j) t
  recalled_is a b = by_form ∙ go form a b
    where
      go : (form : ℕ) → (form ≡ 0 → ⊥) → (form ≡ 1 → ⊥) → sent_by form (position_at plan j) t ≡ recalled (position_at plan j) t
      go zero a b = absurd (a refl)
      go (suc zero) a b = absurd (b refl)
      go (suc (suc form)) a b = refl

  module _ {o o' : List ℕ} {n : ℕ} (k : length (string_bytes (sent_at plan j (numbered_text row W s j))) ≤ length o) where
    pub regular_put : form ≡ 0 → Tried (85 ∷ counted t) (length o) o o' n → Put (string_bytes (sent_at plan j (numbered_text row W s j))) o o' n
    unfolding string_bytes
    regular_put e q = tried_put k (rw (regular_is e) q)

    pub recorded_put : form ≡ 1 → Tried (62 ∷ position_at plan j ∷ counted t) (length o) o o' n → Put (string_bytes (sent_at plan j (numbered_text row W s j))) o o' n
    unfolding string_bytes
    recorded_put e q = tried_put k (rw (recorded_is e) q)

    pub recalled_put : (form ≡ 0 → ⊥) → (form ≡ 1 → ⊥) → Tried (60 ∷ position_at plan j ∷ []) (length o) o o' n → Put (string_bytes (sent_at plan j (numbered_text row W s j))) o o' n
    unfolding string_bytes
    recalled_put a b q = tried_put k (rw (recalled_is a b) q)

pub ruleset sending = (regular_put, recorded_put, recalled_put)
