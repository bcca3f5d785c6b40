-- A run of items: where the loop stands, and what answers its turns. Assumes nothing.
use mathlib.Core.Path.{◌≡◌, refl, sym, ap, ◌∙◌}
use mathlib.Core.List.{List, [], ◌++◌}
use Prim.Native.Nat.{ℕ, zero, suc, ◌+◌, ◌-◌, ◌≤◌, ◌<◌}
use native.Mathlib.Omega.{arith}
use native.Mathlib.Numerals.{sub-one}
use native.Mathlib.Nat.{add-zero}
use lib.ListN.{length, length-append}
use Rattle.draft.specs.declared.Refusal.{Refusal}
use Rattle.draft.specs.declared.Row.{Row}
use Rattle.draft.specs.Codebook.{Book}
use Rattle.draft.specs.Table.{put_rows}
use Rattle.draft.specs.Read.{Reading, got, refused, Reader, Texts, items}
use Rattle.codebook.specs.Words.{book_of}
use Rattle.table.proofs.Rows.{put_append}
use Rattle.item.proofs.Stepping.{Got, did_next, did_not}
use Rattle.item.specs.Contract.{Step, step_number, step_at, step_row}
use Rattle.item.specs.Contract.{read_to, Did}
use Rattle.item.proofs.Readings.{done, did_no}

-- a turn of the loop over a container's items
module _ (f : Texts → Reader) (more : Texts → List Row → Texts) (seen : Texts) (acc : List Row) (at r : ℕ) (book : Book) where
  pub items_got : (n : ℕ) {rows : List Row} {at' : ℕ} {book' : Book} → 0 < n → f seen at (r + length acc) book ≡ got rows at' book' → items f more n seen acc at r book ≡ items f more (n - 1) (more seen rows) (acc ++ rows) at' r book'
  unfolding items
  items_got zero h e = absurd (omega arith)
  items_got (suc n) h e = rw (e, sub-one)

  pub items_refused : (n : ℕ) {m : Refusal} {q : ℕ} → 0 < n → f seen at (r + length acc) book ≡ refused m q → items f more n seen acc at r book ≡ refused m q
  unfolding items
  items_refused zero h e = absurd (omega arith)
  items_refused (suc n) h e = rw e

  pub items_none : (n : ℕ) → n ≤ 0 → items f more n seen acc at r book ≡ got acc at book
  unfolding items
  items_none zero h = refl
  items_none (suc n) h = absurd (omega arith)

-- where the loop over a container's n items, from the byte at₀ and the row r₀ on, stands, with `left` to come
pub record Turn (f : Texts → Reader) (more : Texts → List Row → Texts) (n at₀ r₀ bytes room : ℕ) (T₀ W₀ : List ℕ) (left at r : ℕ) (T W : List ℕ) : Type 0 where
  pub seen : Texts
  pub acc : List Row
  pub same : items f more n [] [] at₀ r₀ (book_of W₀) ≡ items f more left seen acc at r₀ (book_of W)
  pub next : r ≡ r₀ + length acc
  pub wrote : T ≡ put_rows room T₀ r₀ acc
  pub ahead : at₀ ≤ at
  pub within : at ≤ bytes
  pub fits : r ≤ room

unfoldable pub turn_first : {f : Texts → Reader} {more : Texts → List Row → Texts} {n at r bytes room : ℕ} {T W : List ℕ} → at ≤ bytes → r ≤ room → Turn f more n at r bytes room T W n at r T W
unfolding put_rows
turn_first {r = r} h k = record { seen = []; acc = []; same = refl; next = sym (add-zero r); wrote = refl; ahead = omega arith; within = h; fits = k }

module _ {f : Texts → Reader} {more : Texts → List Row → Texts} {n at₀ r₀ bytes room : ℕ} {T₀ W₀ : List ℕ} {left at r : ℕ} {T W : List ℕ} (i : Turn f more n at₀ r₀ bytes room T₀ W₀ left at r T W) where
  unfoldable pub after : {step : Step} {T' W' : List ℕ} → 0 < left → Got (f i.seen at r (book_of W)) bytes room (at + 1) r T T' W' step → Turn f more n at₀ r₀ bytes room T₀ W₀ (left - 1) (step_at step) (step_row step) T' W'
  after h g =
      let l : length (i.acc ++ g.rows) ≡ length i.acc + length g.rows = length-append i.acc g.rows in
      record {
        seen = more i.seen g.rows;
        acc = i.acc ++ g.rows;
        same = i.same ∙ items_got f more i.seen i.acc at r₀ (book_of W) left h (ap (λ (x : ℕ). f i.seen at x (book_of W)) (sym i.next) ∙ g.reading);
        next = omega (arith, g.next, i.next, l);
        wrote = g.wrote ∙ rw (i.wrote, i.next) (put_append room T₀ r₀ i.acc g.rows (omega (arith, g.next, i.next, g.fits)));
        ahead = omega (arith, i.ahead, g.ahead);
        within = g.within;
        fits = g.fits;
      }

  unfoldable pub again_by : {step : Step} {T' W' : List ℕ} → 0 < left → Did (f i.seen at r (book_of W)) bytes room (at + 1) r T T' W' step → step_number step ≡ 0 → Turn f more n at₀ r₀ bytes room T₀ W₀ (left - 1) (step_at step) (step_row step) T' W'
  again_by h d e = after h (did_next d e)

  pub refused_by : {step : Step} {T' T'' W' W'' : List ℕ} → 0 < left → Did (f i.seen at r (book_of W)) bytes room (at + 1) r T T' W' step → (step_number step ≡ 0 → ⊥) → Did (items f more n [] [] at₀ r₀ (book_of W₀)) bytes room at₀ r₀ T₀ T'' W'' step
  refused_by h d e =
      let z = did_not d e in
      did_no z.why z.says (i.same ∙ items_refused f more i.seen i.acc at r₀ (book_of W) left h (ap (λ (x : ℕ). f i.seen at x (book_of W)) (sym i.next) ∙ z.reading))

  pub turn_done : left ≤ 0 → Did (items f more n [] [] at₀ r₀ (book_of W₀)) bytes room at₀ r₀ T₀ T W (read_to at r)
  turn_done h =
      done (i.same ∙ items_none f more i.seen i.acc at r₀ (book_of W) left h)
      (record {
        says = simp (sym i.next);
        leaves = record { wrote = i.wrote; ahead = i.ahead; within = i.within; fits = rw (sym i.next) i.fits; holds = refl };
      })

-- each accepted item takes a byte, so that fewer are left
pub turn_less : (at : ℕ) {o : Reading} {bytes room r : ℕ} {T T' W' : List ℕ} {step : Step} → Did o bytes room (at + 1) r T T' W' step → step_number step ≡ 0 → bytes - (step_at step) < bytes - at
turn_less at d e = let g = did_next d e in omega (arith, g.ahead, g.within)

-- small steps on
pub ahead_next : (n : ℕ) → n + 1 ≤ n + 5
ahead_next n = omega arith
