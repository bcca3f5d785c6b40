-- What answers the returns and turns of the functions that add up prices: the loop computes the bound. Assumes nothing.
use Prim.Native.Nat.{ℕ, zero, suc, ◌+◌, ◌-◌, ◌*◌, ◌≤◌, ◌<◌}
use mathlib.Core.Path.{◌≡◌, refl, sym, ap, ◌∙◌}
use mathlib.Core.Bool.{Bool, true, false, cond}
use mathlib.Core.List.{List, [], ◌∷◌}
use native.Mathlib.Omega.{arith}
use borrow.Author.Rules.{rules}
use native.Mathlib.Nat.{add-zero}
use native.Mathlib.Numerals.{add-one}
use lib.ListN.{length, get_or, set}
use lib.Seq.{get_or-set_same, get_or-set_other}
use lib.Dec.{eqb, ltb}
use borrow.Author.Tests.{ltb-true, ltb-false, lt-ltb, le-ltb, eqb-true, eqb-false}
use Rattle.text.specs.Texts.{same}
use Rattle.text.proofs.Comparing.{same_self, same_ne}
use Rattle.draft.specs.declared.Row.{Row}
use Rattle.draft.specs.Table.{from}
use Rattle.draft.specs.Strings.{Text}
use Rattle.buckets.specs.Numbered.{numbered_text, First, Firsts}
use Rattle.buckets.proofs.Numbered.{first_own}
use Rattle.buckets.proofs.Comparing.{text_short}
use Rattle.prices.specs.Prices.{total, Past, worth, share, left, passed, shares, bound}
use Rattle.prices.specs.Contract.{Worth, Priced}

-- the first j strings as the bound passes them, their shares, and their prices
module _ (t : ℕ → Text) (y : ℕ → ℕ) where
  unfoldable pub history : ℕ → List Past
  history zero = []
  history (suc j) = passed (history j) (y j) (t j)

  unfoldable pub charged : ℕ → ℕ
  charged zero = 0
  charged (suc j) = charged j + share (length (t j)) (worth (history j) (t j))

  charged_all : (m j : ℕ) → charged j + shares (history j) (from y j m) (from t j m) ≡ charged (j + m)
  unfolding from shares history charged
  charged_all zero j = rw (add-zero j) (add-zero (charged j))
  charged_all (suc m) j = let q : suc j + m ≡ j + suc m = omega arith in omega (arith, charged_all m (suc j), ap charged q)

unfoldable pub spent : (ℕ → ℕ) → ℕ → ℕ
spent y zero = 0
spent y (suc j) = spent y j + y j

spent_all : (y : ℕ → ℕ) (m j : ℕ) → spent y j + total (from y j m) ≡ spent y (j + m)
unfolding from total spent
spent_all y zero j = rw (add-zero j) (add-zero (spent y j))
spent_all y (suc m) j = let q : suc j + m ≡ j + suc m = omega arith in omega (arith, spent_all y m (suc j), ap (spent y) q)

-- a text that no string has yet is worth too much to be recalled
unseen : (t : ℕ → Text) (y : ℕ → ℕ) (u : Text) (j : ℕ) → ((k : ℕ) → k < j → t k ≡ u → ⊥) → 4 + length u ≤ worth (history t y j) u
unfolding history worth
unseen t y u zero h = omega arith
unseen t y u (suc j) h = rw (same_ne u (t j) (λ e. h j (omega arith) (sym e))) (omega (arith, unseen t y u j (λ k l. h k (omega (arith, l)))))

-- the elements of a list by their numbers
abbrev at : List ℕ → ℕ → ℕ
at ys k = get_or ys k 0

from_later : (f : ℕ → ℕ) (r n : ℕ) → from f (suc r) n ≡ from (λ k. f (suc k)) r n
unfolding from
from_later f r zero = refl
from_later f r (suc n) = ap (λ (l : List ℕ). f (suc r) ∷ l) (from_later f (suc r) n)

all_of : (ys : List ℕ) → from (at ys) 0 (length ys) ≡ ys
unfolding from
all_of [] = refl
all_of (y ∷ ys) = ap (λ (l : List ℕ). y ∷ l) (from_later (at (y ∷ ys)) 0 (length ys) ∙ all_of ys)

-- how far the loop is: the marks tell what the texts are worth
pub record Going (t : ℕ → Text) (ys ms : List ℕ) (n j least paid : ℕ) : Type 0 where
  pub sum : least ≡ charged t (at ys) j
  pub marks : (k : ℕ) → k < j → First t k k → get_or ms k 0 + worth (history t (at ys) j) (t k) ≡ paid
  pub all : paid ≡ 1 + spent (at ys) j
  pub few : paid ≤ 1 + j * 4294967296
  pub small : least ≤ j * 65541
  pub within : j ≤ n

-- what the calls of one turn gave
pub record Given (t : ℕ → Text) (ys ms : List ℕ) (n j paid f size w s e y : ℕ) : Type 0 where
  pub in_range_lem : j < n
  pub room : f < length ms
  pub first : First t j f
  pub size_is : (size ≡ length (t j)) × (size ≤ 65536)
  pub worth_is : Worth ms f j paid size w
  pub share_is : (s ≡ share size w) × (s ≤ 5 + size)
  pub left_is : (e ≡ left size w) × (e ≤ 1)
  pub price_is : (y ≡ get_or ys j 0) × (y < 4294967296)

record Agree (n w m v : ℕ) : Type 0 where
  shares_alike : share n w ≡ share m v
  left_alike : left n w ≡ left m v

agree_new : (n w v : ℕ) → 4 + n ≤ w → 4 + n ≤ v → Agree n w n v
agree_new n w v h k =
    let a = lt-ltb (3 + n) w (omega (arith, h)) in
    let b = lt-ltb (3 + n) v (omega (arith, k)) in
    record { shares_alike = rw (a, b); left_alike = rw (a, b) }

module _ {t : ℕ → Text} {ys ms : List ℕ} {n j least paid f size w s e y : ℕ} (i : Going t ys ms n j least paid) (c : Given t ys ms n j paid f size w s e y) where
  agree : Agree size w (length (t j)) (worth (history t (at ys) j) (t j))
  agree = go (eqb f j) refl
    where
      size_same : size ≡ length (t j)
      size_same = c.size_is.0

      go : (b : Bool) → eqb f j ≡ b → Agree size w (length (t j)) (worth (history t (at ys) j) (t j))
      go true g =
          let q = eqb-true f j g in
          let u = unseen t (at ys) (t j) j (λ k l. c.first.none k (omega (arith, l, q))) in
          let v = c.worth_is.new q in
          rw (← size_same) (agree_new size w (worth (history t (at ys) j) (t j)) (omega (arith, v)) (omega (arith, u, size_same)))
      go false g =
          let l : f < j = omega (arith, eqb-false f j g, c.first.within) in
          let m = i.marks f l (first_own t c.first) in
          let k = c.worth_is.known l (omega (arith, m)) in
          let r : worth (history t (at ys) j) (t f) ≡ worth (history t (at ys) j) (t j) = rw c.first.equal in
          let q : w ≡ worth (history t (at ys) j) (t j) = omega (arith, m, k, r) in
          rw (← size_same, ← q) (record { shares_alike = refl; left_alike = refl })

  -- the text of another string that is first is another
  other : (k : ℕ) → (k ≡ f → ⊥) → First t k k → t k ≡ t j → ⊥
  other k ne h q = go (ltb k f) refl
    where
      go : (b : Bool) → ltb k f ≡ b → ⊥
      go true l = c.first.none k (ltb-true k f l) q
      go false l = h.none f (omega (arith, ltb-false k f l, ne)) (c.first.equal ∙ sym q)

  marks_on : (k : ℕ) → k < suc j → First t k k → get_or (set ms f (paid - e)) k 0 + worth (history t (at ys) (suc j)) (t k) ≡ paid + y
  unfolding history worth
  marks_on k l h = go (eqb k f) refl
    where
      go : (b : Bool) → eqb k f ≡ b → get_or (set ms f (paid - e)) k 0 + (at ys j + cond (same (t k) (t j)) (left (length (t j)) (worth (history t (at ys) j) (t j))) (worth (history t (at ys) j) (t k))) ≡ paid + y
      go true g =
          let q = eqb-true k f g in
          let z = get_or-set_same ms f (paid - e) 0 c.room in
          rw (q, z, ap (λ (u : Text). same u (t j)) c.first.equal ∙ same_self (t j)) (omega (arith, i.all, agree.left_alike, c.left_is, c.price_is))
      go false g =
          let ne = eqb-false k f g in
          let d = other k ne h in
          let apart : k ≡ j → ⊥ = λ q. d (ap t q) in
          let below : k < j = omega (arith, l, apart) in
          rw (get_or-set_other ms f k (paid - e) 0 ne, same_ne (t k) (t j) d) (omega (arith, i.marks k below h, c.price_is))

  -- a turn of the loop
  pub going_on : Going t ys (set ms f (paid - e)) n (j + 1) (least + s) (paid + y)
  unfolding spent charged
  going_on =
      rw add-one
      (record {
        sum = omega (arith, i.sum, agree.shares_alike, c.share_is);
        marks = marks_on;
        all = omega (arith, i.all, c.price_is);
        few = omega (arith, i.few, c.price_is);
        small = omega (arith, i.small, c.share_is, c.size_is);
        within = c.in_range_lem;
      })

pub going_first : (t : ℕ → Text) (ys ms : List ℕ) (n : ℕ) → Going t ys ms n 0 0 1
unfolding charged spent
going_first t ys ms n = record { sum = refl; marks = λ k l h. absurd (omega (arith, l)); all = refl; few = omega arith; small = omega arith; within = omega arith }

pub going_done : {t : ℕ → Text} {ys ms : List ℕ} {n j least paid : ℕ} → Going t ys ms n j least paid → n ≤ j → length ys ≡ n → Priced t ys n least (paid - 1)
unfolding charged spent history
going_done {t} {ys} {ms} {n} {j} {least} {paid} i h l =
    let q : j ≡ n = omega (arith, i.within) in
    let a : from (at ys) 0 n ≡ ys = ap (from (at ys) 0) (sym l) ∙ all_of ys in
    let b = charged_all t (at ys) n 0 in
    let d = spent_all (at ys) n 0 in
    let z : 0 + n ≡ j = omega (arith, q) in
    record {
      least_is = omega (arith, i.sum, b, ap (charged t (at ys)) z, ap (λ (ps : List ℕ). bound ps (from t 0 n)) a);
      prices_is = omega (arith, i.all, d, ap (spent (at ys)) z, ap total a);
      few = omega (arith, i.few, q);
    }

-- the two tests of a turn
pub share_above : (n w : ℕ) → 3 + n < w → 5 + n ≡ share n w
share_above n w l = rw (lt-ltb (3 + n) w l)

pub share_below : (n w : ℕ) → w ≤ 3 + n → 2 + w ≡ share n w
share_below n w l = rw (le-ltb (3 + n) w l)

pub left_above : (n w : ℕ) → 3 + n < w → 1 ≡ left n w
left_above n w l = rw (lt-ltb (3 + n) w l)

pub left_below : (n w : ℕ) → w ≤ 3 + n → 0 ≡ left n w
left_below n w l = rw (le-ltb (3 + n) w l)

pub size_same : (row : ℕ → Row) (W s : List ℕ) (j : ℕ) {t : Text} → t ≡ numbered_text row W s j → length t ≡ length (numbered_text row W s j)
size_same row W s j e = ap length e

pub size_most : (row : ℕ → Row) (W s : List ℕ) (j : ℕ) {t : Text} → t ≡ numbered_text row W s j → length s ≤ 65536 → length t ≤ 65536
size_most row W s j e h = rw e (omega (arith, text_short row W s j))

pub first_there : {t : ℕ → Text} {n j : ℕ} (fs : List ℕ) {f : ℕ} → Firsts t n fs → j < n → f ≡ get_or fs j 0 → f ≤ j
first_there {j = j} fs h l e = omega (arith, (h.at j l).within)

pub first_so : {t : ℕ → Text} {n j : ℕ} (fs : List ℕ) {f : ℕ} → Firsts t n fs → j < n → f ≡ get_or fs j 0 → First t j f
first_so {j = j} fs h l e = rw e (h.at j l)

pub ruleset picking = (rules, share_above, share_below, left_above, left_below, size_same, size_most)
