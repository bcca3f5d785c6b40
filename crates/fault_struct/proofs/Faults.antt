-- What answers each return of the functions that read a fault's Struct. Assumes nothing.
use mathlib.Core.Path.{◌≡◌, sym, ap, ◌∙◌}
use mathlib.Core.List.{List, [], ◌∷◌}
use Prim.Native.Nat.{ℕ, suc, ◌+◌, ◌*◌, ◌-◌, ◌≤◌}
use native.Mathlib.Omega.{arith}
use lib.ListN.{length}
use Rattle.draft.specs.declared.Refusal.{Refusal}
use Rattle.draft.specs.Verdict.{Verdict}
use Rattle.draft.specs.declared.Row.{Row}
use Rattle.draft.specs.Rows.{below}
use Rattle.draft.specs.Content.{fault_rule}
use Rattle.draft.specs.Codebook.{Book}
use Rattle.draft.specs.Table.{put_rows, from, rows_at}
use Rattle.draft.specs.Read.{got, refused, judged, held_rows, only, struct_item, nested, fault_struct}
use Rattle.codebook.specs.Words.{book_of}
use Rattle.table.proofs.Stored.{rows_there}
use Rattle.std.specs.Prelude.{Ok, Err}
use Rattle.draft.specs.declared.Refused.{Refused}
use Rattle.item.specs.declared.Reached.{Reached}
use Rattle.item.specs.Contract.{Step, judged_at, Did}
use Rattle.item.proofs.Readings.{did_next, did_not, done, did_no, judged_did, row_in, only_short, only_no, only_on}
use Rattle.item.proofs.Items.{got_did}
use Rattle.member_keys.proofs.Keying.{prepared_blank, done_did}
use Rattle.heads.proofs.Values.{struct_read}

-- the rows below the first, in the table that they were stored in
below_there : (s : List ℕ) (room r n : ℕ) (T : List ℕ) {T₁ : List ℕ} (rows : List Row) → T₁ ≡ put_rows room T r rows → n ≡ r + length rows → n ≤ room → room * 4 ≤ length T → held_rows s (rows_at room T₁ (r + 1) (n - (r + 1))) ≡ held_rows s (below rows)
unfolding from held_rows
below_there s room r n T [] i e h l = let z : n - (r + 1) ≡ 0 = omega arith in rw z
below_there s room r n T (x ∷ rows) i e h l =
    let z : n - (r + 1) ≡ length rows = omega arith in
    let f : r + 1 ≡ suc r = omega arith in
    rw (i, z, f) (ap (λ (l : List Row). held_rows s (below l)) (rows_there room T r (x ∷ rows) (omega arith) l))

fault_by : (s : List ℕ) (room deep at r : ℕ) (book : Book) {rows : List Row} {to : ℕ} {book' : Book} {v : Verdict} → only s room 83 (struct_item s room (nested s room deep)) at r book ≡ got rows to book' → v ≡ fault_rule (held_rows s (below rows)) → fault_struct s room deep at r book ≡ judged v at (got rows to book')
unfolding fault_struct
fault_by s room deep at r book e f = rw (e, f)

fault_not : (s : List ℕ) (room deep at r : ℕ) (book : Book) {m : Refusal} {q : ℕ} → only s room 83 (struct_item s room (nested s room deep)) at r book ≡ refused m q → fault_struct s room deep at r book ≡ refused m q
unfolding fault_struct
fault_not s room deep at r book e = rw e

module _ (s : List ℕ) (deep at : ℕ) (book : Book) {bytes room from r : ℕ} {T T₁ W₁ : List ℕ} {step : Step} (d : Did (only s room 83 (struct_item s room (nested s room deep)) at r book) bytes room from r T T₁ W₁ step) where
  pub fault_refused : {from' : ℕ} {T' W' : List ℕ} {x : Refused Refusal} {answer : Step} → step ≡ Err x → answer ≡ Err x → Did (fault_struct s room deep at r book) bytes room from' r T T' W' answer
  unfolding fault_struct
  fault_refused {x = x} n e = did_no x.refusal e (fault_not s room deep at r book (did_not d n))

  -- a Struct that was read, as its rule says
  module _ {v : Verdict} {x : Reached} (e : step ≡ Ok x) (l : room * 4 ≤ length T) (f : v ≡ fault_rule (held_rows s (rows_at room T₁ (r + 1) (x.row - (r + 1))))) where
    fault_is : fault_struct s room deep at r book ≡ judged v at (got (did_next d e).rows x.at (book_of W₁))
    fault_is =
        let g = did_next d e in
        let i : v ≡ fault_rule (held_rows s (below g.rows)) = f ∙ ap fault_rule (below_there s room r x.row T g.rows g.wrote g.next g.fits l) in
        fault_by s room deep at r book g.reading i

    pub fault_judged : {answer : Step} → answer ≡ judged_at v at (Ok x) → Did (fault_struct s room deep at r book) bytes room from r T T₁ W₁ answer
    fault_judged i = done fault_is (judged_did v at (got_did e (did_next d e)) (i ∙ ap (judged_at v at) (sym e)))

pub ruleset faults = (row_in, fault_refused, fault_judged)

pub ruleset structs = (only_short, only_no, only_on, prepared_blank, done_did, struct_read)
