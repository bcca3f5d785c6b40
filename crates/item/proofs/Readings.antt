-- What a call did, from what the calls in it did: laws over any readings. Assumes nothing.
use mathlib.Core.Path.{◌≡◌, refl, sym, ap, ◌∙◌}
use mathlib.Core.List.{List, ◌∷◌, ◌++◌}
use Prim.Native.Nat.{ℕ, ◌+◌, ◌≤◌, ◌<◌}
use native.Mathlib.Omega.{arith}
use native.Mathlib.Numerals.{add-one}
use lib.ListN.{length, length-append, get_or}
use borrow.Author.Tests.{eq-eqb, ne_eqb, lt-ltb, le-ltb, le-leb, lt-leb}
use Rattle.draft.specs.declared.Refusal.{Refusal}
use Rattle.draft.specs.declared.Refusal.TheVariants.{Ended, UnexpectedByte, NoRow}
use Rattle.draft.specs.Verdict.{Verdict}
use Rattle.std.specs.Prelude.{Result, Ok, Err, IsErrAnd}
use Rattle.draft.specs.declared.Row.{Row}
use Rattle.draft.specs.declared.Refused.{Refused}
use Rattle.draft.specs.Rows.{row}
use Rattle.draft.specs.Codebook.{Book}
use Rattle.draft.specs.Table.{set_row, put_rows}
use Rattle.draft.specs.Read.{Reading, got, refused, Reader, behind, pair, over, leaf, judged, opened, only}
use Rattle.codebook.specs.Words.{book_of}
use Rattle.table.proofs.Rows.{put_append}
use Rattle.item.specs.declared.Reached.{Reached}
use Rattle.item.specs.Contract.{Step, refused_at, reached, read_to, judged_at, answer, Leaves, Did, Stored, Closed, Ends}

-- an accepted reading, known by where it ended
pub record Got (o : Reading) (bytes room from r : ℕ) (T T' W' : List ℕ) (x : Reached) : Type 0 where
  pub rows : List Row
  pub reading : o ≡ got rows x.at (book_of W')
  pub next : x.row ≡ r + length rows
  pub wrote : T' ≡ put_rows room T r rows
  pub ahead : from ≤ x.at
  pub within : x.at ≤ bytes
  pub fits : x.row ≤ room

-- an error that `?` passes on
pub passed : {T E : Type 0} {d : E} (r : Result T E) → IsErrAnd r (λ y. y ≡ d) → r ≡ Err d
passed (Ok x) h = absurd h
passed (Err e) h = ap Err h

ok_is : {x y : Reached} {step : Step} → step ≡ Ok x → step ≡ Ok y → x ≡ y
ok_is e f = cc

err_is : {x y : Refused Refusal} {step : Step} → step ≡ Err x → step ≡ Err y → x ≡ y
err_is e f = cc

pub ok_not : {x : Reached} {y : Refused Refusal} {step : Step} → step ≡ Ok x → step ≡ Err y → ⊥
ok_not e f = cc

module _ {o : Reading} {bytes room from r : ℕ} {T T' W' : List ℕ} {step : Step} where
  pub did_next : {x : Reached} → Did o bytes room from r T T' W' step → step ≡ Ok x → Got o bytes room from r T T' W' x
  did_next {x} d e = go o d.says d.leaves
    where
      go : (o : Reading) → step ≡ answer r o → Leaves o bytes room from r T T' W' → Got o bytes room from r T T' W' x
      go (refused n q) s l = absurd (ok_not e s)
      go (got rows at book) s l =
          let i : reached at (r + length rows) ≡ x = ok_is s e in
          let a : at ≡ x.at = ap (λ (y : Reached). y.at) i in
          let b : r + length rows ≡ x.row = ap (λ (y : Reached). y.row) i in
          record {
            rows = rows;
            reading = rw (a, ← l.holds);
            next = sym b;
            wrote = l.wrote;
            ahead = rw a at l.ahead;
            within = rw a at l.within;
            fits = rw b at l.fits;
          }

  -- where it went on is in the message and in the room
  pub at_in : {x : Reached} → Did o bytes room from r T T' W' step → step ≡ Ok x → x.at ≤ bytes
  at_in d e = (did_next d e).within

  pub row_in : {x : Reached} → Did o bytes room from r T T' W' step → step ≡ Ok x → x.row ≤ room
  row_in d e = (did_next d e).fits

  pub did_ends : Did o bytes room from r T T' W' step → Ends step room
  did_ends d = record { within = λ x e. (did_next d e).fits }

  pub did_not : {x : Refused Refusal} → Did o bytes room from r T T' W' step → step ≡ Err x → o ≡ refused x.refusal x.place
  did_not {x} d n = go o d.says
    where
      go : (o : Reading) → step ≡ answer r o → o ≡ refused x.refusal x.place
      go (refused m p) s = let i : record { refusal = m; place = p } ≡ x = err_is s n in rw (← i)
      go (got rows at book) s = absurd (ok_not s n)

module _ {o : Reading} {bytes room from r : ℕ} {T T' W' : List ℕ} {step : Step} where
  -- a reading that is known by an equation
  pub done : {o' : Reading} → o ≡ o' → Did o' bytes room from r T T' W' step → Did o bytes room from r T T' W' step
  done e d = rw e d

  pub did_no : (m : Refusal) {q : ℕ} → step ≡ refused_at m q → o ≡ refused m q → Did o bytes room from r T T' W' step
  did_no m s e = rw e (record { says = s; leaves = tt })

-- a call that leaves the codebook alone
pub held : {o : Book → Reading} {bytes room from r : ℕ} {T T' : List ℕ} (W : List ℕ) {step : Step} → Stored o bytes room from r T T' step → Did (o (book_of W)) bytes room from r T T' W step
held W d = d.did W

-- what each item begins with
module _ (s : List ℕ) (size at : ℕ) (o : Reading) {bytes room from r : ℕ} {T T' W' : List ℕ} where
  pub opened_full : {step : Step} → room ≤ r → step ≡ refused_at NoRow at → Did (opened s room size at r o) bytes room from r T T' W' step
  opened_full h e = did_no NoRow e (simp (le-ltb _ _ h))

  pub opened_cut : {step : Step} → r < room → length s < at + size → step ≡ refused_at Ended at → Did (opened s room size at r o) bytes room from r T T' W' step
  opened_cut h k e = did_no Ended e (simp (lt-ltb _ _ h, lt-leb _ _ k))

  pub opened_on : {step : Step} → r < room → at + size ≤ length s → Did o bytes room from r T T' W' step → Did (opened s room size at r o) bytes room from r T T' W' step
  opened_on h k d = done (simp (lt-ltb _ _ h, le-leb _ _ k)) d

-- an item of one row
module _ {k a b to : ℕ} {book : Book} {bytes room from r : ℕ} {T T' W' : List ℕ} where
  pub leaf_got : {step : Step} → step ≡ read_to to (r + 1) → T' ≡ set_row room T r (row k a b (r + 1)) → from ≤ to → to ≤ bytes → r < room → book_of W' ≡ book → Did (leaf k a b r to book) bytes room from r T T' W' step
  unfolding put_rows
  leaf_got e w f l h b = record { says = e; leaves = record { wrote = w; ahead = f; within = l; fits = omega arith; holds = b } }

-- what a rule says
module _ {v w : Verdict} (at : ℕ) (o : Reading) {bytes room from r : ℕ} {T T' W' : List ℕ} (e : v ≡ w) where
  pub judged_bad : (m : Refusal) {step : Step} → v ≡ Err m → step ≡ refused_at m at → Did (judged w at o) bytes room from r T T' W' step
  judged_bad m i f = did_no m f (rw (← e, i))

  pub judged_fine : {step : Step} → v ≡ Ok tt → Did o bytes room from r T T' W' step → Did (judged w at o) bytes room from r T T' W' step
  judged_fine i d = rw (← e, i) d

-- what a rule says of a reading that was accepted
pub judged_did : (v : Verdict) (at : ℕ) {o : Reading} {bytes room from r : ℕ} {T T' W' : List ℕ} {step answer : Step} → Did o bytes room from r T T' W' step → answer ≡ judged_at v at step → Did (judged v at o) bytes room from r T T' W' answer
judged_did (Ok tt) at d e = rw e d
judged_did (Err m) at d e = did_no m e refl

-- what f reads, where only the byte b may begin it
module _ (s : List ℕ) (b : ℕ) (f : Reader) (at : ℕ) (book : Book) {bytes room from r : ℕ} {T T' W' : List ℕ} where
  pub only_short : {step : Step} → length s ≤ at → step ≡ refused_at Ended at → Did (only s room b f at r book) bytes room from r T T' W' step
  unfolding only
  only_short h e = did_no Ended e (simp (le-ltb _ _ h))

  pub only_no : {step : Step} → at < length s → (get_or s at 0 ≡ b → ⊥) → step ≡ refused_at UnexpectedByte at → Did (only s room b f at r book) bytes room from r T T' W' step
  unfolding only
  only_no h n e = did_no UnexpectedByte e (simp (lt-ltb _ _ h, ne_eqb _ _ n))

  pub only_on : {step : Step} → at < length s → get_or s at 0 ≡ b → Did (f at r book) bytes room from r T T' W' step → Did (only s room b f at r book) bytes room from r T T' W' step
  unfolding only
  only_on h n d = done (simp (lt-ltb _ _ h, eq-eqb _ _ n)) d

-- by a call that leaves the codebook alone
pub only_held : (s : List ℕ) (b : ℕ) (f : Reader) (at : ℕ) (W : List ℕ) {bytes room from r : ℕ} {T T' : List ℕ} {step : Step} → at < length s → get_or s at 0 ≡ b → Stored (f at r) bytes room from r T T' step → Did (only s room b f at r (book_of W)) bytes room from r T T' W step
only_held s b f at W h n d = only_on s b f at (book_of W) h n (d.did W)

-- two readings, one after the other
module _ (f g : Reader) (at : ℕ) (book : Book) {bytes room from r : ℕ} {T T₁ W₁ : List ℕ} {step₁ : Step} (d₁ : Did (f at r book) bytes room from r T T₁ W₁ step₁) where
  pub pair_first : {from' : ℕ} {T' W' : List ℕ} {x : Refused Refusal} {step : Step} → step₁ ≡ Err x → step ≡ Err x → Did (pair f g at r book) bytes room from' r T T' W' step
  unfolding pair
  pair_first {x = x} n e = did_no x.refusal e (rw (did_not d₁ n))

  -- the second's answer is the pair's
  pair_of : {T₂ W₂ : List ℕ} {x : Reached} {step₂ : Step} (o : Got (f at r book) bytes room from r T T₁ W₁ x) → Did (g x.at (r + length o.rows) (book_of W₁)) bytes room (x.at + 1) (r + length o.rows) T₁ T₂ W₂ step₂ → Did (pair f g at r book) bytes room from r T T₂ W₂ step₂
  unfolding pair
  pair_of {T₂} {W₂} {x} {step₂} o d = rw o.reading (go (g x.at (r + length o.rows) (book_of W₁)) d.says d.leaves)
    where
      go : (y : Reading) → step₂ ≡ answer (r + length o.rows) y → Leaves y bytes room (x.at + 1) (r + length o.rows) T₁ T₂ W₂ → Did (behind o.rows y) bytes room from r T T₂ W₂ step₂
      go (refused m q) s l = record { says = s; leaves = tt }
      go (got rows to book₂) s l =
          let n : length (o.rows ++ rows) ≡ length o.rows + length rows = length-append o.rows rows in
          let m : r + length (o.rows ++ rows) ≡ r + length o.rows + length rows = omega arith in
          record {
            says = s ∙ rw m;
            leaves = record {
              wrote = l.wrote ∙ rw o.wrote (put_append room T r o.rows rows l.fits);
              ahead = omega (arith, o.ahead, l.ahead);
              within = l.within;
              fits = rw m l.fits;
              holds = l.holds;
            };
          }

  pub pair_both : {x : Reached} {T₂ W₂ : List ℕ} {step₂ : Step} → step₁ ≡ Ok x → Did (g x.at x.row (book_of W₁)) bytes room (x.at + 1) x.row T₁ T₂ W₂ step₂ → Did (pair f g at r book) bytes room from r T T₂ W₂ step₂
  pair_both e d = let o = did_next d₁ e in pair_of o (rw o.next at d)

  pub pair_held : {x : Reached} {T₂ : List ℕ} {step₂ : Step} → step₁ ≡ Ok x → Stored (g x.at x.row) bytes room (x.at + 1) x.row T₁ T₂ step₂ → Did (pair f g at r book) bytes room from r T T₂ W₁ step₂
  pair_held e d = pair_both e (d.did W₁)

-- an item over a reading of what it holds
pub over_closed : (k b r : ℕ) {o : Reading} {bytes room from from' : ℕ} {T T₁ T₂ W' : List ℕ} {step result : Step} → Did o bytes room from' (r + 1) T T₁ W' step → Closed step k b r room T₁ T₂ result → from ≤ from' → Did (over k b r o) bytes room from r T T₂ W' result
unfolding put_rows
over_closed k b r {o} {bytes} {room} {from} {from'} {T} {T₁} {T₂} {W'} {step} {result} d c h = rw c.same (go o d.says d.leaves)
  where
    go : (o : Reading) → step ≡ answer (r + 1) o → Leaves o bytes room from' (r + 1) T T₁ W' → Did (over k b r o) bytes room from r T T₂ W' step
    go (refused m q) s l = record { says = s; leaves = tt }
    go (got rows at book) s l =
        let more : r + length (row k 0 b (r + 1 + length rows) ∷ rows) ≡ r + 1 + length rows = omega arith in
        let wrote : T₂ ≡ set_row room T₁ r (row k 0 b (r + 1 + length rows)) = c.wrote _ s in
        record {
          says = s ∙ rw more;
          leaves = record { wrote = wrote ∙ rw (l.wrote, add-one r); ahead = omega (arith, l.ahead); within = l.within; fits = omega (arith, l.fits); holds = l.holds };
        }
