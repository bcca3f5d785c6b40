-- What answers the returns and turns of the functions that pass bytes, by notes or by a check. Assumes nothing.
use mathlib.Core.Path.{◌≡◌, refl, sym, ◌∙◌}
use mathlib.Core.Bool.{Bool, true, false, cond}
use mathlib.Core.List.{List}
use Prim.Native.Nat.{ℕ, zero, suc, ◌+◌, ◌*◌, ◌-◌, ◌/◌, ◌%◌, ◌≤◌, ◌<◌}
use native.Mathlib.Omega.{arith}
use mir.Syntax.{w64}
use mir.Val.{Fits}
use lib.ListN.{length, set, take, drop, replicate}
use lib.Seq.{get_or-set_same, get_or-set_other}
use lib.Dec.{eqb}
use borrow.Author.Rules.{rules}
use borrow.Author.Tests.{eqb-true, eqb-false, eq-eqb, ne_eqb}
use Rattle.text.specs.Utf8.{octets, well_formed}
use Rattle.passages.specs.Notes.{passage, entry_of, noted, True, Notes, Passed, Judged}
use Rattle.passages.proofs.Fronts.{passed_on}

-- how many bytes an entry notes
pub noted_some : (N : List ℕ) (here : ℕ) {e : ℕ} → e ≡ entry_of N (here / 256) → e % 4 ≡ here % 256 → e / 4 ≡ noted N here
unfolding noted
noted_some N here f h = rw (← f, eq-eqb _ _ h)

pub noted_none : (N : List ℕ) (here : ℕ) {e : ℕ} → e ≡ entry_of N (here / 256) → (e % 4 ≡ here % 256 → ⊥) → 0 ≡ noted N here
unfolding noted
noted_none N here f h = rw (← f, ne_eqb _ _ h)

-- no bytes
none : (s : List ℕ) (here : ℕ) → well_formed (take 0 (drop here s)) ≡ true
unfolding well_formed octets
none s here = refl

nothing : (s : List ℕ) (here : ℕ) → well_formed (passage s here here) ≡ true
nothing s here = let e : here - here ≡ 0 = omega arith in rw e (none s here)

-- bytes that are noted
module _ {s N : List ℕ} (t : True s N) where
  noted_good : (here : ℕ) (b : Bool) → eqb (entry_of N (here / 256) % 4) (here % 256) ≡ b → Passed s N here (here + cond b (entry_of N (here / 256) / 4) 0)
  noted_good here true e =
      let j = here / 256 in
      let n = entry_of N j / 4 in
      let k : entry_of N j % 4 ≡ here % 256 = eqb-true _ _ e in
      let f : 256 * j + entry_of N j % 4 ≡ here = omega arith in
      let g : n ≡ here + n - here = omega arith in
      record { on = omega arith; near = omega (arith, t.near j); good = rw (f, g) at (t.right j); true_all = t }
  noted_good here false e = let g : here + 0 - here ≡ 0 = omega arith in record { on = omega arith; near = omega arith; good = rw g (none s here); true_all = t }

  pub noted_passed : {here n : ℕ} → n ≡ noted N here → Passed s N here (here + n)
  unfolding noted
  noted_passed {here} h = rw h (noted_good here _ refl)

  pub noted_fits : (here : ℕ) {n : ℕ} → n ≡ noted N here → here + 259 ≤ length s → length s < 18446744073709551616 → Fits w64 (here + n)
  noted_fits here h l m = omega (arith, (noted_passed h).near)

  pub none_passed : (here : ℕ) → Passed s N here here
  none_passed here = record { on = omega arith; near = omega arith; good = nothing s here; true_all = t }

  -- bytes that were checked
  module _ (here next : ℕ) {b : Bool} (g : b ≡ well_formed (passage s here next)) (y : b ≡ true) (l : here / 256 * 256 + 256 ≤ next) (m : next ≤ here / 256 * 256 + 256 + 3) where
    pub checked_passed : Passed s N here next
    checked_passed = record { on = omega arith; near = omega arith; good = sym g ∙ y; true_all = t }

    -- and noted in their entry
    module _ (p : here % 256 < 4) {v : ℕ} (e : v ≡ here % 256 + 4 * (next - here)) (n : Notes s N) (h : here + 259 ≤ length s) where
      i : here / 256 < length N
      i = omega (arith, n.enough)

      entry_right : (j : ℕ) (b : Bool) → eqb j (here / 256) ≡ b → well_formed (take (entry_of (set N (here / 256) v) j / 4) (drop (256 * j + entry_of (set N (here / 256) v) j % 4) s)) ≡ true
      entry_right j true f =
          let d : j ≡ here / 256 = eqb-true _ _ f in
          let q : v / 4 ≡ next - here = omega arith in
          let w : 256 * (here / 256) + v % 4 ≡ here = omega arith in
          rw (d, get_or-set_same N (here / 256) v 0 i, q, w) (sym g ∙ y)
      entry_right j false f = rw (get_or-set_other N (here / 256) j v 0 (eqb-false _ _ f)) (t.right j)

      entry_near : (j : ℕ) (b : Bool) → eqb j (here / 256) ≡ b → entry_of (set N (here / 256) v) j / 4 ≤ 259
      entry_near j true f =
          let d : j ≡ here / 256 = eqb-true _ _ f in
          rw (d, get_or-set_same N (here / 256) v 0 i) (omega arith)
      entry_near j false f = rw (get_or-set_other N (here / 256) j v 0 (eqb-false _ _ f)) (t.near j)

      pub noted_checked : Passed s (set N (here / 256) v) here next
      noted_checked = record { on = omega arith; near = omega arith; good = sym g ∙ y; true_all = record { right = λ j. entry_right j _ refl; near = λ j. entry_near j _ refl } }

-- the notes as they are laid out
zeros : (n j : ℕ) → entry_of (replicate n 0) j ≡ 0
zeros zero j = refl
zeros (suc n) zero = refl
zeros (suc n) (suc j) = zeros n j

blank : (s : List ℕ) (n : ℕ) → True s (replicate n 0)
blank s n = record { right = λ j. rw (zeros n j) (none s (256 * j + 0 % 4)); near = λ j. rw (zeros n j) (omega arith) }

pub blank_notes : {s N : List ℕ} → N ≡ replicate (length N) 0 → length s ≤ length N * 256 → Notes s N
blank_notes {s} {N} e h = record { enough = h; true_all = rw (sym e) at (blank s (length N)) }

-- where the loop over a passage stands: what is left of it decides
pub record Going (s N : List ℕ) (from to here : ℕ) : Type 0 where
  pub within : here ≤ to
  pub rest : well_formed (passage s from to) ≡ well_formed (passage s here to)
  pub true_all : True s N

pub going_first : {s N : List ℕ} {from to : ℕ} → from ≤ to → Notes s N → Going s N from to from
going_first h n = record { within = h; rest = refl; true_all = n.true_all }

module _ {s N : List ℕ} {from to here : ℕ} (g : Going s N from to here) where
  pub going_notes : {N₀ : List ℕ} → Notes s N₀ → length N ≡ length N₀ → Notes s N
  going_notes n e = record { enough = rw e n.enough; true_all = g.true_all }

  pub going_again : {N' : List ℕ} {next : ℕ} → 259 ≤ to - here → Passed s N' here next → Going s N' from to next
  going_again {next = next} h p = record { within = omega (arith, p.near); rest = g.rest ∙ passed_on s here next to p.on (omega (arith, p.near)) p.good; true_all = p.true_all }

  pub going_ends : {b : Bool} → b ≡ well_formed (passage s here to) → Judged s N from to b
  going_ends e = record { says = e ∙ sym g.rest; true_all = g.true_all }

  pub going_fails : {N' : List ℕ} {next : ℕ} {b : Bool} → Passed s N' here next → b ≡ well_formed (passage s here to) → Judged s N' from to b
  going_fails p e = record { says = e ∙ sym g.rest; true_all = p.true_all }

pub going_less : (to : ℕ) {s N : List ℕ} {here next : ℕ} → Passed s N here next → (next ≡ here → ⊥) → 259 ≤ to - here → to - next < to - here
going_less to p n h = omega (arith, p.on, n)

-- where the noted bytes end fits
pub ruleset placing = (noted_fits, rules)

pub ruleset passing = (noted_some, noted_none, noted_passed, none_passed, checked_passed, noted_checked, going_first, going_notes, going_again, going_ends, going_fails, going_less)
