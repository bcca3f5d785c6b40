-- What answers each return of the functions that read the first item. Assumes nothing.
use mathlib.Core.Path.{◌≡◌}
use mathlib.Core.List.{List}
use Prim.Native.Nat.{ℕ, ◌/◌, ◌≤◌, ◌<◌, min}
use native.Mathlib.Omega.{arith}
use lib.ListN.{length, get_or}
use borrow.Author.Tests.{lt-ltb, le-ltb, eq-eqb, ne_eqb}
use Rattle.draft.specs.declared.Refusal.TheVariants.{Ended, UnexpectedByte}
use Rattle.draft.specs.Codebook.{Book}
use Rattle.draft.specs.Read.{call_item, response_item, call_or_response}
use Rattle.item.specs.Contract.{Step, refused_at, Did}
use Rattle.item.proofs.Readings.{done, did_no}

-- by its byte
module _ (s : List ℕ) (deep at : ℕ) (book : Book) {bytes room from r : ℕ} {T T' W' : List ℕ} where
  pub first_short : {step : Step} → length s ≤ at → step ≡ refused_at Ended at → Did (call_or_response s room deep at r book) bytes room from r T T' W' step
  unfolding call_or_response
  first_short h e = did_no Ended e (simp (le-ltb _ _ h))

  pub first_call : {step : Step} → at < length s → get_or s at 0 ≡ 67 → Did (call_item s room deep at r book) bytes room from r T T' W' step → Did (call_or_response s room deep at r book) bytes room from r T T' W' step
  unfolding call_or_response
  first_call h e d = done (simp (lt-ltb _ _ h, eq-eqb _ _ e)) d

  module _ (h : at < length s) (n : get_or s at 0 ≡ 67 → ⊥) where
    pub first_response : {step : Step} → get_or s at 0 ≡ 82 → Did (response_item s room deep at r book) bytes room from r T T' W' step → Did (call_or_response s room deep at r book) bytes room from r T T' W' step
    unfolding call_or_response
    first_response e d = done (simp (lt-ltb _ _ h, ne_eqb _ _ n, eq-eqb _ _ e)) d

    pub first_neither : {step : Step} → (get_or s at 0 ≡ 82 → ⊥) → step ≡ refused_at UnexpectedByte at → Did (call_or_response s room deep at r book) bytes room from r T T' W' step
    unfolding call_or_response
    first_neither m e = did_no UnexpectedByte e (simp (lt-ltb _ _ h, ne_eqb _ _ n, ne_eqb _ _ m))

-- notes for as many rows as a table may have are enough
pub many_enough : (room bytes : ℕ) → room ≤ 4096 → min room bytes ≤ 12288 / 3
many_enough room bytes h = omega arith

pub ruleset first = (first_short, first_call, first_response, first_neither, many_enough)
