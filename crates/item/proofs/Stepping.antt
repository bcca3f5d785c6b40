-- What a call did, by the parts of its step: its number, its place and its row. Assumes nothing.
use mathlib.Core.Path.{◌≡◌, refl, sym, ap, ◌∙◌}
use mathlib.Core.List.{List, [], ◌∷◌}
use Prim.Native.Nat.{ℕ, ◌+◌, ◌*◌, ◌≤◌, ◌<◌}
use lib.ListN.{length}
use Rattle.std.specs.Prelude.{Ok, Err}
use Rattle.draft.specs.declared.Refusal.{Refusal}
use Rattle.draft.specs.declared.Refused.{Refused}
use Rattle.draft.specs.declared.Row.{Row}
use Rattle.draft.specs.Verdict.{Verdict}
use Rattle.draft.specs.Codebook.{Book}
use Rattle.draft.specs.Table.{set_row, put_rows, row_at}
use Rattle.draft.specs.Rows.{row}
use Rattle.draft.specs.Read.{Reading, got, refused, Reader, pair, string, string_by, text_of}
use Rattle.draft.proofs.Naming.{number_some}
use Rattle.codebook.specs.Words.{book_of}
use Rattle.item.specs.declared.Reached.{Reached}
use Rattle.item.specs.Contract.{Step, step_number, step_at, step_row, refused_at, judged_at, Did, Stored, Closed, Ends}
use Rattle.item.proofs.Readings as readings
use Rattle.item.proofs.Items as items

abbrev pub reached_of : Step → Reached
reached_of step = record { at = step_at step; row = step_row step }

pub ok_of : (step : Step) → step_number step ≡ 0 → step ≡ Ok (reached_of step)
ok_of (Ok x) e = refl
ok_of (Err y) e = absurd (number_some y.refusal e)

-- the refusal of a step
pub record Why (step : Step) : Type 0 where
  pub why : Refused Refusal
  pub is : step ≡ Err why

pub why_of : (step : Step) → (step_number step ≡ 0 → ⊥) → Why step
why_of (Ok x) n = absurd (n refl)
why_of (Err y) n = record { why = y; is = refl }

-- an accepted reading, known by the step that it gave
pub record Got (o : Reading) (bytes room from r : ℕ) (T T' W' : List ℕ) (step : Step) : Type 0 where
  pub rows : List Row
  pub reading : o ≡ got rows (step_at step) (book_of W')
  pub next : step_row step ≡ r + length rows
  pub wrote : T' ≡ put_rows room T r rows
  pub ahead : from ≤ step_at step
  pub within : step_at step ≤ bytes
  pub fits : step_row step ≤ room

-- a refused one
pub record Not (o : Reading) (step : Step) : Type 0 where
  pub why : Refusal
  pub place : ℕ
  pub reading : o ≡ refused why place
  pub says : step ≡ refused_at why place

module _ {o : Reading} {bytes room from r : ℕ} {T T' W' : List ℕ} {step : Step} where
  pub did_next : Did o bytes room from r T T' W' step → step_number step ≡ 0 → Got o bytes room from r T T' W' step
  did_next d e =
      let g = readings.did_next d (ok_of step e) in
      record { rows = g.rows; reading = g.reading; next = g.next; wrote = g.wrote; ahead = g.ahead; within = g.within; fits = g.fits }

  pub did_not : Did o bytes room from r T T' W' step → (step_number step ≡ 0 → ⊥) → Not o step
  did_not d n =
      let z = why_of step n in
      record { why = z.why.refusal; place = z.why.place; reading = readings.did_not d z.is; says = z.is }

  pub did_ends : Did o bytes room from r T T' W' step → Ends step room
  did_ends d = readings.did_ends d

module _ (f g : Reader) (at : ℕ) (book : Book) {bytes room from r : ℕ} {T T₁ W₁ : List ℕ} {step₁ : Step} (d₁ : Did (f at r book) bytes room from r T T₁ W₁ step₁) where
  pub pair_first : {from' : ℕ} {T' W' : List ℕ} → (step_number step₁ ≡ 0 → ⊥) → Did (pair f g at r book) bytes room from' r T T' W' step₁
  pair_first n = let z = why_of step₁ n in readings.pair_first f g at book d₁ z.is z.is

  pub pair_both : {T₂ W₂ : List ℕ} {step₂ : Step} → step_number step₁ ≡ 0 → Did (g (step_at step₁) (step_row step₁) (book_of W₁)) bytes room (step_at step₁ + 1) (step_row step₁) T₁ T₂ W₂ step₂ → Did (pair f g at r book) bytes room from r T T₂ W₂ step₂
  pair_both e d = readings.pair_both f g at book d₁ (ok_of step₁ e) d

-- a String that was read, whose row is in the table
module _ (s : List ℕ) (at : ℕ) (book : Book) {bytes room from r : ℕ} {T T₁ W₁ : List ℕ} {step : Step} (d : Did (string s room at r book) bytes room from r T T₁ W₁ step) (e : step_number step ≡ 0) where
  pub the_row : (y : Row) × ((did_next d e).rows ≡ y ∷ [])
  unfolding did_next
  the_row = items.the_row s at book d (ok_of step e)

  pub string_row : r < room
  string_row = items.string_row s at book d (ok_of step e)

  pub name_judged : (rule : List ℕ → Verdict) (q : ℕ) {t : List ℕ} {v : Verdict} → room * 4 ≤ length T → t ≡ text_of s (row_at room T₁ r) → v ≡ rule t → {answer : Step} → answer ≡ judged_at v q step → Did (string_by s room rule q at r book) bytes room from r T T₁ W₁ answer
  name_judged rule q {v = v} l f g i = items.name_judged s at book d (ok_of step e) rule q l f g (i ∙ ap (judged_at v q) (ok_of step e))

pub name_refused : (s : List ℕ) (rule : List ℕ → Verdict) (q at : ℕ) (book : Book) {bytes room from from' r : ℕ} {T T₁ T' W₁ W' : List ℕ} {step : Step} → Did (string s room at r book) bytes room from r T T₁ W₁ step → (step_number step ≡ 0 → ⊥) → Did (string_by s room rule q at r book) bytes room from' r T T' W' step
name_refused s rule q at book {step = step} d n = let z = why_of step n in items.name_refused s rule q at book d z.is z.is

-- an item's own row, stored
pub wrote_by : {step : Step} {k b r room : ℕ} {T T' : List ℕ} {result : Step} → Closed step k b r room T T' result → step_number step ≡ 0 → T' ≡ set_row room T r (row k 0 b (step_row step))
wrote_by {step} c e = c.wrote _ (ok_of step e)
