-- A step of such a reading fits one word, and is given back by it. Assumes nothing.
use mathlib.Core.Path.{◌≡◌, sym, ap, ◌∙◌}
use mathlib.Core.List.{List}
use Prim.Native.Nat.{ℕ, ◌+◌, ◌*◌, ◌/◌, ◌%◌, ◌≤◌, ◌<◌}
use native.Mathlib.Omega.{arith}
use lib.ListN.{length, get_or}
use Rattle.draft.specs.declared.Refusal.{Refusal}
use Rattle.draft.specs.declared.Refusal.TheVariants.{Ended, WrongPrefix, UnexpectedByte, BadText, UnsetPosition, StandardName, TooDeep, NoRow, TooLong, NotWritable, FormTooLong, OutputTooShort, BadFault, BadValue, RepeatedKey, NoLimit}
use Rattle.draft.specs.Refusals.{number_of, refusal_of}
use Rattle.draft.proofs.Naming.{number_some, number_own}
use borrow.Author.Tests.{eq-eqb, ne_eqb}
use Rattle.draft.specs.Codebook.{Book}
use Rattle.draft.specs.Read.{Reading, got, refused, floor, item, tag_of}
use Rattle.std.specs.Prelude.{Ok, Err}
use Rattle.draft.specs.declared.Refused.{Refused}
use Rattle.item.specs.declared.Reached.{Reached}
use Rattle.item.specs.Contract.{Step, refused_at, read_to, reached, Did, Ready}
use Rattle.scalar.specs.Words.{step_of, Small}
use Rattle.scalar.proofs.Places.{In, item_in}

number_small : (m : Refusal) → number_of m < 256
number_small Ended = omega arith
number_small WrongPrefix = omega arith
number_small UnexpectedByte = omega arith
number_small BadText = omega arith
number_small UnsetPosition = omega arith
number_small StandardName = omega arith
number_small TooDeep = omega arith
number_small NoRow = omega arith
number_small TooLong = omega arith
number_small NotWritable = omega arith
number_small FormTooLong = omega arith
number_small OutputTooShort = omega arith
number_small BadFault = omega arith
number_small BadValue = omega arith
number_small RepeatedKey = omega arith
number_small NoLimit = omega arith

ok_same : {x y : Reached} {step : Step} → step ≡ Ok x → step ≡ Ok y → x ≡ y
ok_same e f = cc

err_same : {x y : Refused Refusal} {step : Step} → step ≡ Err x → step ≡ Err y → x ≡ y
err_same e f = cc

ok_not : {x : Reached} {y : Refused Refusal} {step : Step} → step ≡ Ok x → step ≡ Err y → ⊥
ok_not e f = cc

small : (s : List ℕ) (o : Reading) {room from r : ℕ} {T T' W' : List ℕ} {step : Step} → In s o → length s ≤ 65536 → room ≤ 4096 → Did o (length s) room from r T T' W' step → Small step
small s (refused m p) i h k d =
    record {
      place = λ x e. absurd (ok_not e d.says);
      row = λ x e. absurd (ok_not e d.says);
      refused = λ x e. let z : p ≡ x.place = ap (λ (y : Refused Refusal). y.place) (err_same d.says e) in omega (arith, i);
    }
small s (got rows to book) {r = r} i h k d =
    record {
      place = λ x e. let z : to ≡ x.at = ap (λ (y : Reached). y.at) (ok_same d.says e) in omega (arith, i);
      row = λ x e. let z : r + length rows ≡ x.row = ap (λ (y : Reached). y.row) (ok_same d.says e) in omega (arith, d.leaves.fits);
      refused = λ x e. absurd (ok_not d.says e);
    }

module _ (s : List ℕ) (at : ℕ) {room r : ℕ} (book : Book) {from : ℕ} {T T' W' : List ℕ} {step : Step} (l : at < length s) {words marks : ℕ} (p : Ready at r room (length s) words marks) (d : Did (item s room (tag_of (get_or s at 0)) floor at r book) (length s) room from r T T' W' step) where
  pub fits_word : Small step
  fits_word = small s _ (item_in s room (tag_of (get_or s at 0)) at r book (omega arith)) p.fitting.message p.fitting.rows d

-- a word gives its step back
pub reached_back : {x : Reached} {step : Step} → Small step → step ≡ Ok x → step_of (x.at + 1048576 * x.row) ≡ step
reached_back {x} k e =
    let a : x.at < 1048576 = k.place x e in
    let b : x.row < 1048576 = k.row x e in
    let y : (x.at + 1048576 * x.row) % 1048576 ≡ x.at = omega arith in
    let v : (x.at + 1048576 * x.row) / 1048576 ≡ x.row = omega arith in
    let z : x.row % 1048576 ≡ x.row = omega arith in
    let w : x.row / 1048576 ≡ 0 = omega arith in
    rw (v, y, z, w) (sym e)

pub refused_back : {x : Refused Refusal} {n : ℕ} {step : Step} → Small step → step ≡ Err x → n ≡ number_of x.refusal → step_of (x.place + 1048576 * 1048576 * n) ≡ step
refused_back {x} {n} k e f =
    let a : x.place < 1048576 = k.refused x e in
    let y : (x.place + 1048576 * 1048576 * n) % 1048576 ≡ x.place = omega arith in
    let v : (x.place + 1048576 * 1048576 * n) / 1048576 ≡ 1048576 * n = omega arith in
    let z : (1048576 * n) / 1048576 ≡ n = omega arith in
    let w : n ≡ 0 → ⊥ = λ i. number_some x.refusal (sym f ∙ i) in
    rw (v, z, ne_eqb n 0 w, y) (ap (λ m. refused_at m x.place) (ap refusal_of f ∙ number_own x.refusal) ∙ sym e)

-- a refusal's place and number fit
pub number_fits : (m : Refusal) {n : ℕ} → n ≡ number_of m → n < 256
number_fits m e = omega (arith, number_small m)

-- what was done, by the word that says it
module _ {o : Reading} {bytes room from r : ℕ} {T T' W' : List ℕ} {step : Step} (w : ℕ) where
  pub word_did : step_of w ≡ step → Did o bytes room from r T T' W' step → Did o bytes room from r T T' W' (step_of w)
  word_did e d = rw e d

  pub step_did : step ≡ step_of w → Did o bytes room from r T T' W' (step_of w) → Did o bytes room from r T T' W' step
  step_did e d = rw e d

-- the step of a word
pub step_refused : (w : ℕ) {m : Refusal} {step : Step} → (w / 1048576 / 1048576 ≡ 0 → ⊥) → m ≡ refusal_of (w / 1048576 / 1048576) → step ≡ refused_at m (w % 1048576) → step ≡ step_of w
step_refused w n e f = rw (ne_eqb _ _ n) (f ∙ ap (λ m. refused_at m (w % 1048576)) e)

pub step_reached : (w : ℕ) → (w / 1048576 / 1048576 ≡ 0) → Ok (reached (w % 1048576) (w / 1048576 % 1048576)) ≡ step_of w
step_reached w e = simp (eq-eqb _ _ e)

pub ruleset words = (fits_word, word_did, step_did, step_refused, step_reached)
