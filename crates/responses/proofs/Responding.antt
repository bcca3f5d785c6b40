-- What answers each return of the functions that read a Response. Assumes nothing.
use mathlib.Core.Path.{◌≡◌}
use mathlib.Core.List.{List}
use Prim.Native.Nat.{ℕ, ◌+◌, ◌≤◌, ◌<◌}
use native.Mathlib.Omega.{arith}
use lib.ListN.{length, get_or}
use borrow.Author.Tests.{lt-ltb, le-ltb, eq-eqb, ne_eqb}
use Rattle.draft.specs.declared.Refusal.TheVariants.{Ended}
use Rattle.draft.specs.Codebook.{Book}
use Rattle.draft.specs.Read.{over, value, fault_struct, response_item}
use Rattle.item.specs.Contract.{Step, refused_at, Did}
use Rattle.item.proofs.Readings.{done, did_no, did_ends, opened_full, opened_on, over_closed}
use Rattle.item.proofs.Items.{ahead_next, one_in}
use Rattle.member_keys.proofs.Keying.{prepared_blank, done_did}

-- what follows `R`
module _ (s : List ℕ) (deep at : ℕ) (book : Book) {bytes room from r : ℕ} {T T' W' : List ℕ} (h : r < room) (k : at < length s) where
  pub response_short : {step : Step} → length s ≤ at + 1 → step ≡ refused_at Ended (at + 1) → Did (response_item s room deep at r book) bytes room from r T T' W' step
  response_short l e = opened_on s 1 at _ h (omega arith) (did_no Ended e (simp (le-ltb _ _ l)))

  pub response_fault : {step : Step} → at + 1 < length s → get_or s (at + 1) 0 ≡ 70 → Did (over 3 1 r (fault_struct s room deep (at + 2) (r + 1) book)) bytes room from r T T' W' step → Did (response_item s room deep at r book) bytes room from r T T' W' step
  response_fault l e d = opened_on s 1 at _ h (omega arith) (done (simp (lt-ltb _ _ l, eq-eqb _ _ e)) d)

  pub response_value : {step : Step} → at + 1 < length s → (get_or s (at + 1) 0 ≡ 70 → ⊥) → Did (over 2 1 r (value s room deep (at + 1) (r + 1) book)) bytes room from r T T' W' step → Did (response_item s room deep at r book) bytes room from r T T' W' step
  response_value l n d = opened_on s 1 at _ h (omega arith) (done (simp (lt-ltb _ _ l, ne_eqb _ _ n)) d)

pub ahead_two : (n : ℕ) → n + 1 ≤ n + 2 + 1
ahead_two n = omega arith

pub ruleset responding = (did_ends, opened_full, opened_on, over_closed, response_short, response_fault, response_value, ahead_next, ahead_two, one_in, prepared_blank, done_did)
