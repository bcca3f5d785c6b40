-- What answers each return of the functions that put a string, and that say how long it is. Assumes nothing.
use Prim.Native.Nat.{ℕ, ◌+◌, ◌≤◌}
use mathlib.Core.Path.{◌≡◌, refl, sym, ◌∙◌}
use mathlib.Core.List.{List, [], ◌∷◌}
use native.Mathlib.Omega.{arith}
use lib.ListN.{length}
use Rattle.draft.specs.declared.Row.{Row}
use Rattle.draft.specs.Grammar.{Sent}
use Rattle.draft.specs.Strings.{cost}
use Rattle.draft.specs.Grammar as sent
use Rattle.draft.specs.Written.{counted, string_bytes}
use Rattle.positions.specs.declared.Sending.{Sending}
use Rattle.buckets.specs.Numbered.{numbered_text}
use Rattle.positions.specs.Contract.{sent, told, SentBy}
use Rattle.buckets.proofs.Comparing.{text_short}
use Rattle.output.specs.Contract.{Tried}
use Rattle.sending.specs.Contract.{Takes}
use Rattle.output.proofs.Putting.{counted_length}

-- what a string takes is what it costs
pub string_cost : (f : Sent) → length (string_bytes f) ≡ cost f
unfolding string_bytes cost
string_cost (sent.regular t) = omega (arith, counted_length t)
string_cost (sent.recorded p t) = omega (arith, counted_length t)
string_cost (sent.recalled p t) = refl

module _ (row : ℕ → Row) (W s fs sp : List ℕ) (j : ℕ) {r : Sending} (k : Sending) {t : List ℕ} (e : SentBy fs sp j r) (f : r ≡ k) (g : t ≡ numbered_text row W s j) where
  string_is : string_bytes (told fs sp j (numbered_text row W s j)) ≡ string_bytes (sent k t)
  string_is = rw (← e.is (numbered_text row W s j), f, g)

  pub string_tried : {o o' : List ℕ} {m n : ℕ} → Tried (string_bytes (sent k t)) m o o' n → Tried (string_bytes (told fs sp j (numbered_text row W s j))) m o o' n
  string_tried p = rw string_is p

  pub string_long : {n : ℕ} → n ≡ length (string_bytes (sent k t)) → Takes row s W fs sp j n
  string_long h = record { is = h ∙ rw string_is }

-- by how it is sent
module _ (t : List ℕ) where
  pub regular_long : 5 + length t ≡ length (string_bytes (sent.regular t))
  unfolding cost
  regular_long = sym (string_cost (sent.regular t))

  pub regular_tried : {o o' : List ℕ} {m n : ℕ} → Tried (85 ∷ counted t) m o o' n → Tried (string_bytes (sent.regular t)) m o o' n
  unfolding string_bytes
  regular_tried q = q

  module _ (p : ℕ) where
    pub recorded_long : 6 + length t ≡ length (string_bytes (sent.recorded p t))
    unfolding cost
    recorded_long = sym (string_cost (sent.recorded p t))

    pub recorded_tried : {o o' : List ℕ} {m n : ℕ} → Tried (62 ∷ p ∷ counted t) m o o' n → Tried (string_bytes (sent.recorded p t)) m o o' n
    unfolding string_bytes
    recorded_tried q = q

    pub recalled_long : 2 ≡ length (string_bytes (sent.recalled p t))
    unfolding string_bytes
    recalled_long = refl

    pub recalled_tried : {o o' : List ℕ} {m n : ℕ} → Tried (60 ∷ p ∷ []) m o o' n → Tried (string_bytes (sent.recalled p t)) m o o' n
    unfolding string_bytes
    recalled_tried q = q

pub text_few : (row : ℕ → Row) (W s : List ℕ) (j : ℕ) {t : List ℕ} → t ≡ numbered_text row W s j → length s ≤ 65536 → length t ≤ 65536
text_few row W s j e h = rw e (omega (arith, text_short row W s j))

pub ruleset sending = (string_tried, string_long, regular_long, regular_tried, recorded_long, recorded_tried, recalled_long, recalled_tried, text_few)
