-- What answers each return of the function that says how a string is sent; and that it is sent as the written form has it. Assumes nothing.
use Prim.Native.Nat.{ℕ, ◌≤◌, ◌<◌}
use mathlib.Core.Path.{◌≡◌, refl, sym, ap, ◌∙◌}
use mathlib.Core.Bool.{Bool, true, false, cond}
use mathlib.Core.List.{List}
use native.Mathlib.Omega.{arith}
use lib.ListN.{length, get_or}
use lib.Dec.{ltb}
use borrow.Author.Tests.{ltb-true, lt-ltb, le-ltb}
use Rattle.text.specs.Texts.{among}
use Rattle.draft.specs.Grammar.{regular, recorded, recalled}
use Rattle.draft.specs.Strings.{Text, position, sent_of}
use Rattle.positions.specs.declared.Sending.TheVariants as sending
use Rattle.buckets.specs.Numbered.{before, First, Firsts}
use Rattle.positions.specs.Contract.{Slot, Slots, Ready, told, SentBy}
use Rattle.buckets.proofs.Numbered.{seen_first, first_own}

module _ {fs sp : List ℕ} {j f : ℕ} (e : f ≡ get_or fs j 0) where
  pub sent_recalled : get_or sp f 0 < 256 → f < j → SentBy fs sp j (sending.Recalled (get_or sp f 0))
  unfolding told
  sent_recalled h k = record { is = λ t. rw (← e, lt-ltb _ _ h, lt-ltb _ _ k) }

  pub sent_recorded : get_or sp f 0 < 256 → j ≤ f → SentBy fs sp j (sending.Recorded (get_or sp f 0))
  unfolding told
  sent_recorded h k = record { is = λ t. rw (← e, lt-ltb _ _ h, le-ltb _ _ k) }

  pub sent_regular : 256 ≤ get_or sp f 0 → SentBy fs sp j sending.Regular
  unfolding told
  sent_regular h = record { is = λ t. rw (← e, le-ltb _ _ h) }

  pub spot_there : Ready fs sp j → f < length sp
  spot_there r = omega (arith, r.earlier, r.spot)

-- what the words tell is how the written form sends the string
pub told_is : (P : List Text) (t : ℕ → Text) {n : ℕ} {fs sp : List ℕ} (j : ℕ) → Firsts t n fs → Slots P t n sp → j < n → told fs sp j (t j) ≡ sent_of P (before t j) (t j)
unfolding told
told_is P t {n} {fs} {sp} j f o h =
    let e : First t j (get_or fs j 0) = f.at j h in
    let q : Slot P (t (get_or fs j 0)) (get_or sp (get_or fs j 0) 0) = o.at (get_or fs j 0) (omega (arith, e.within)) (first_own t e) in
    go (t j) (t (get_or fs j 0)) e.equal (get_or sp (get_or fs j 0) 0) (seen_first t e) q
  where
    go : (u v : Text) → v ≡ u → (p : ℕ) → among (before t j) u ≡ ltb (get_or fs j 0) j → Slot P v p → cond (ltb p 256) (cond (ltb (get_or fs j 0) j) (recalled p u) (recorded p u)) (regular u) ≡ sent_of P (before t j) u
    go u v e p b s =
        let m : among P u ≡ ltb p 256 = ap (among P) (sym e) ∙ s.has in
        rw (m, b) (known (ltb p 256) refl)
      where
        known : (x : Bool) → ltb p 256 ≡ x → cond x (cond (ltb (get_or fs j 0) j) (recalled p u) (recorded p u)) (regular u) ≡ cond x (cond (ltb (get_or fs j 0) j) (recalled (position P u) u) (recorded (position P u) u)) (regular u)
        known false f = refl
        known true f =
            let q : position P u ≡ p = ap (position P) (sym e) ∙ s.at (ltb-true p 256 f) in
            rw q

pub ruleset choosing = (sent_recalled, sent_recorded, sent_regular, spot_there)
