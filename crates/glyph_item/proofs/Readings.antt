-- What a call did, from what the calls in it did: laws over any readings. Assumes nothing.
use Rattle.std.proofs.Common.{◌≡◌, refl, sym, ap, ◌∙◌, List, ℕ, ◌+◌, ◌≤◌, ◌<◌, length, arith, Result, Ok, Err, IsErrAnd}
use borrow.Author.Tests.{lt-ltb, le-ltb}
use Rattle.draft.specs.declared.Row.{Row}
use Rattle.draft.specs.declared.Refused.{Refused}
use Rattle.draft.specs.Rows.{row}
use Rattle.draft.specs.Table.{set_row, put_rows}
use Rattle.item.specs.declared.Reached.{Reached}
use Rattle.item.specs.Contract.{reached}
use Rattle.glyph.specs.declared.Refusal.{Refusal}
use Rattle.glyph.specs.declared.Refusal.TheVariants.{NoRow}
use Rattle.glyph.specs.Read.{Reading, got, refused, leaf, opened}
use Rattle.glyph_item.specs.Contract.{Step, refused_at, answer, Leaves, Did}

-- an accepted reading, known by where it ended
pub record Got (o : Reading) (bytes room from r : ℕ) (T T' : List ℕ) (x : Reached) : Type 0 where
  pub rows : List Row
  pub reading : o ≡ got rows x.at
  pub next : x.row ≡ r + length rows
  pub wrote : T' ≡ put_rows room T r rows
  pub ahead : from ≤ x.at
  pub within : x.at ≤ bytes
  pub fits : x.row ≤ room

-- an error that `?` passes on
pub passed : {T E : Type 0} {d : E} (r : Result T E) → IsErrAnd r (λ y. y ≡ d) → r ≡ Err d
passed (Ok x) h = absurd h
passed (Err e) h = ap Err h

pub ok_is : {x y : Reached} {step : Step} → step ≡ Ok x → step ≡ Ok y → x ≡ y
ok_is e f = cc

err_is : {x y : Refused Refusal} {step : Step} → step ≡ Err x → step ≡ Err y → x ≡ y
err_is e f = cc

pub ok_not : {x : Reached} {y : Refused Refusal} {step : Step} → step ≡ Ok x → step ≡ Err y → ⊥
ok_not e f = cc

module _ {o : Reading} {bytes room from r : ℕ} {T T' : List ℕ} {step : Step} where
  pub did_next : {x : Reached} → Did o bytes room from r T T' step → step ≡ Ok x → Got o bytes room from r T T' x
  did_next {x} d e = go o d.says d.leaves
    where
      go : (o : Reading) → step ≡ answer r o → Leaves o bytes room from r T T' → Got o bytes room from r T T' x
      go (refused n q) s l = absurd (ok_not e s)
      go (got rows at) s l =
          let i : reached at (r + length rows) ≡ x = ok_is s e in
          let a : at ≡ x.at = ap (λ (y : Reached). y.at) i in
          let b : r + length rows ≡ x.row = ap (λ (y : Reached). y.row) i in
          record { rows = rows; reading = rw a; next = sym b; wrote = l.wrote; ahead = rw a at l.ahead; within = rw a at l.within; fits = rw b at l.fits }

  -- where it went on is in the message and in the room
  pub at_in : {x : Reached} → Did o bytes room from r T T' step → step ≡ Ok x → x.at ≤ bytes
  at_in d e = (did_next d e).within

  pub row_in : {x : Reached} → Did o bytes room from r T T' step → step ≡ Ok x → x.row ≤ room
  row_in d e = (did_next d e).fits

  pub did_not : {x : Refused Refusal} → Did o bytes room from r T T' step → step ≡ Err x → o ≡ refused x.refusal x.place
  did_not {x} d n = go o d.says
    where
      go : (o : Reading) → step ≡ answer r o → o ≡ refused x.refusal x.place
      go (refused m p) s = let i : record { refusal = m; place = p } ≡ x = err_is s n in rw (← i)
      go (got rows at) s = absurd (ok_not s n)

  -- a reading that is known by an equation
  pub done : {o' : Reading} → o ≡ o' → Did o' bytes room from r T T' step → Did o bytes room from r T T' step
  done e d = rw e d

  pub did_no : (m : Refusal) {q : ℕ} → step ≡ refused_at m q → o ≡ refused m q → Did o bytes room from r T T' step
  did_no m s e = rw e (record { says = s; leaves = tt })

-- 9
module _ (at : ℕ) (o : Reading) {bytes room from r : ℕ} {T T' : List ℕ} where
  pub opened_full : {step : Step} → room ≤ r → step ≡ refused_at NoRow at → Did (opened room at r o) bytes room from r T T' step
  opened_full h e = did_no NoRow e (simp (le-ltb _ _ h))

  pub opened_on : {step : Step} → r < room → Did o bytes room from r T T' step → Did (opened room at r o) bytes room from r T T' step
  opened_on h d = done (simp (lt-ltb _ _ h)) d

-- an object of one row
module _ {k a b to : ℕ} {bytes room from r : ℕ} {T T' : List ℕ} where
  pub leaf_got : {x : Reached} → x ≡ reached to (r + 1) → T' ≡ set_row room T r (row k a b (r + 1)) → from ≤ to → to ≤ bytes → r < room → Did (leaf k a b r to) bytes room from r T T' (Ok x)
  unfolding put_rows
  leaf_got e w f l h = record { says = ap Ok e; leaves = record { wrote = w; ahead = f; within = l; fits = omega arith } }
