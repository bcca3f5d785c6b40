-- What answers the returns of the functions that give the writer's answer. Assumes nothing.
use Prim.Native.Nat.{ℕ, ◌+◌, ◌-◌, ◌*◌, ◌≤◌, ◌<◌, min}
use mathlib.Core.Path.{◌≡◌, refl, sym, ap, ◌∙◌}
use mathlib.Core.Bool.{Bool, true, false}
use mathlib.Core.List.{List, [], ◌++◌, append-nil}
use native.Mathlib.Omega.{arith}
use lib.ListN.{length, take, drop, replicate, length-take, length-drop, drop_of_length-le}
use lib.Seq.{take_at}
use lib.Dec.{leb}
use borrow.Author.Tests.{lt-leb, le-leb, leb-true, leb-false, eqb-true}
use Rattle.std.proofs.Common.{Option, Some, None, Ok, Err}
use Rattle.draft.specs.declared.Refusal.TheVariants.{TooLong, NotWritable, FormTooLong, OutputTooShort, NoLimit}
use Rattle.draft.specs.Limits.{allowed}
use Rattle.draft.specs.Table.{room_of, row_at}
use Rattle.draft.specs.Writable.{wholly}
use Rattle.text.proofs.Comparing.{both}
use Rattle.glyph.specs.declared.Edition.{Edition}
use Rattle.glyph.specs.declared.Want.TheVariants.{Any}
use Rattle.glyph_form.specs.Writable.{object, writable_within, writable}
use Rattle.glyph_form.specs.Form.{form_within, form_of}
use Rattle.glyph_form.specs.Answers.{answer_for, answer_of, output_of, Did, Answer}
use Rattle.glyph_output.specs.Contract.{reached, Open, Adds}
use Rattle.glyph_output.proofs.Adding.{reached_same, reached_over}
use Rattle.glyph_puts.specs.Contract.{Ready, Fit, object_bytes}
use Rattle.glyph_writer.specs.Contract.{RefusedWith, Filled}

-- the answer, by how many bytes the form has
module _ (n room : ℕ) where
  pub answer_long : 65536 < n → Err FormTooLong ≡ answer_for n room
  answer_long h = sym (rw (lt-leb n 65536 h))

  module _ (h : n ≤ 65536) where
    pub answer_short : room < n → Err OutputTooShort ≡ answer_for n room
    answer_short l = sym (rw (le-leb n 65536 h, lt-leb n room l))

    pub answer_written : n ≤ room → Ok n ≡ answer_for n room
    answer_written l = sym (rw (le-leb n 65536 h, le-leb n room l))

pub ruleset answers = (answer_long, answer_short, answer_written)

-- how many bytes may be put
pub most_open : {n m : ℕ} → m ≡ min n 65536 → Open m n 0
most_open e = record { within = omega (arith, e); few = omega (arith, e); told = omega arith }

-- a table that is writable is ready, and its root object fit
wholly_end : (rows : ℕ) (o : Option ℕ) → wholly rows o ≡ true → o ≡ Some rows
wholly_end rows None e = absurd (let z : ◌≡◌ {A = ℕ} 0 1 = cc in omega arith)
wholly_end rows (Some n) e = ap Some (eqb-true n rows e)

module _ (e : Edition) (limit : ℕ) (T : List ℕ) (rows : ℕ) (s : List ℕ) {room : ℕ} (w : writable e limit T rows s ≡ true) (g : room ≡ room_of 4096 (length T)) where
  pub root_ready : Ready room (length T) (length s)
  unfolding writable writable_within
  root_ready =
      let p = both (leb (length s) 65536) _ w in
      record { most = omega (arith, g); table = omega (arith, g); short = leb-true (length s) 65536 p.0 }

  pub root_fit : (spare : ℕ) → 3 * rows ≤ 3 + 4 * spare → Fit (row_at room T) room s e limit spare 0
  unfolding writable writable_within
  root_fit spare h =
      let p = both (leb (length s) 65536) _ w in
      let q = both (leb 1 rows) _ p.1 in
      let u = both (leb rows 4096) _ q.1 in
      let v = both (leb (rows * 4) (length T)) _ u.1 in
      let i : rows ≤ 4096 = leb-true rows 4096 u.0 in
      let j : rows * 4 ≤ length T = leb-true (rows * 4) (length T) v.0 in
      record {
        rows = rows;
        stated = omega (arith, g);
        want = Any;
        stop = rows;
        walk = rw g (wholly_end rows (object (row_at (room_of 4096 (length T)) T) rows s e limit Any 0) v.1);
        span = omega arith;
      }

  pub root_few : rows ≤ 65 → Fit (row_at room T) room s e limit 48 0
  root_few h = root_fit 48 (omega arith)

  most_rows : rows ≤ 4096
  unfolding writable writable_within
  most_rows = leb-true rows 4096 (both (leb rows 4096) _ (both (leb 1 rows) _ (both (leb (length s) 65536) _ w).1).1).0

  pub root_many : Fit (row_at room T) room s e limit 3072 0
  root_many = root_fit 3072 (omega (arith, most_rows))

pub form_put : (e : Edition) (limit : ℕ) (T s : List ℕ) {room most : ℕ} {o : List ℕ} {at : ℕ} {o' : List ℕ} {n : ℕ} → room ≡ room_of 4096 (length T) → Adds (object_bytes (row_at room T) s e limit 0) most o at o' n → Adds (form_of e limit T s) most o at o' n
unfolding form_of form_within object_bytes
form_put e limit T s g a = rw g at a

pub ruleset forms = (root_ready, root_few, root_many, form_put)

-- where the form ends, and where it stands
module _ (form : List ℕ) {o o₁ : List ℕ} {most n : ℕ} (a : Adds form most o 0 o₁ n) where
  zero_plus : 0 + length form ≡ length form
  zero_plus = omega arith

  ends : n ≡ reached (length form)
  ends = a.stops ∙ ap reached zero_plus

  there : length form ≤ most → o₁ ≡ form ++ drop (length form) o
  there h = rw zero_plus at (a.stands (omega arith))

-- the form was put, or there is no room for it
module _ (form : List ℕ) {o o₁ : List ℕ} {most n : ℕ} (e : most ≡ min (length o) 65536) (a : Adds form most o 0 o₁ n) (l : length o₁ ≡ length o) where
  pub fill_put : {ys : List ℕ} → n ≤ most → ys ≡ replicate (length (take (length o₁ - n) (drop n o₁))) 0 → Filled form o (take n o₁ ++ (ys ++ drop (length o₁ - n) (drop n o₁))) (Ok n)
  fill_put {ys} h y =
      let m : length form ≤ 65536 = small (leb (length form) 65536) refl in
      let q : n ≡ length form = ends form a ∙ sym (reached_same (length form) m) in
      let u : o₁ ≡ form ++ drop (length form) o = there form a (omega (arith, q)) in
      let t : take n o₁ ≡ form = rw u (take_at form (drop (length form) o) n (sym q)) in
      let d : drop (length o₁ - n) (drop n o₁) ≡ [] = drop_of_length-le (drop n o₁) {i = length o₁ - n} (rw length-drop (omega arith)) in
      let z : length (take (length o₁ - n) (drop n o₁)) ≡ length o - n = simp (length-take, length-drop) (omega (arith, l)) in
      record {
        says = ap Ok q ∙ answer_written (length form) (length o) m (omega (arith, q, e));
        leaves = rw (t, d, append-nil, y, z);
      }
    where
      small : (b : Bool) → leb (length form) 65536 ≡ b → length form ≤ 65536
      small true f = leb-true (length form) 65536 f
      small false f = absurd (let k : n ≡ 65537 = ends form a ∙ sym (reached_over (length form) (leb-false (length form) 65536 f)) in omega (arith, e))

  pub fill_not : {o₂ : List ℕ} {r : Answer} → most < n → o₂ ≡ replicate (length o₁) 0 → r ≡ answer_for n (length o) → Filled form o o₂ r
  fill_not {o₂} {r} h y f = go (leb (length form) 65536) refl
    where
      refused : (k : Answer) → r ≡ k → k ≡ answer_for (length form) (length o) → output_of k form (length o) ≡ replicate (length o) 0 → Filled form o o₂ r
      refused k p q u = record { says = p ∙ q; leaves = y ∙ rw (l, p) (sym u) }

      go : (b : Bool) → leb (length form) 65536 ≡ b → Filled form o o₂ r
      go true g =
          let m : length form ≤ 65536 = leb-true (length form) 65536 g in
          let q : n ≡ length form = ends form a ∙ sym (reached_same (length form) m) in
          refused (Err OutputTooShort) (f ∙ rw q (sym (answer_short (length form) (length o) m (omega (arith, q, e))))) (answer_short (length form) (length o) m (omega (arith, q, e))) refl
      go false g =
          let m : 65536 < length form = leb-false (length form) 65536 g in
          let q : n ≡ 65537 = ends form a ∙ sym (reached_over (length form) m) in
          refused (Err FormTooLong) (f ∙ sym (answer_long n (length o) (omega (arith, q)))) (answer_long (length form) (length o) m) refl

pub ruleset filling = (most_open, fill_put, fill_not)

-- the whole answer
module _ (e : Edition) (limit : ℕ) (T : List ℕ) (rows : ℕ) (s : List ℕ) {o o' : List ℕ} {a : Answer} where
  pub did_unlimited : {l : Bool} → l ≡ allowed limit → l ≡ false → RefusedWith NoLimit o o' a → Did e limit T rows s o o' a
  unfolding answer_of
  did_unlimited k i r = let q : allowed limit ≡ false = sym k ∙ i in record { says = r.says ∙ sym (rw q); leaves = r.leaves ∙ rw r.says }

  pub did_long : allowed limit ≡ true → 65536 < length s → RefusedWith TooLong o o' a → Did e limit T rows s o o' a
  unfolding answer_of
  did_long i h r = record { says = r.says ∙ sym (rw (i, lt-leb (length s) 65536 h)); leaves = r.leaves ∙ rw r.says }

  module _ (i : allowed limit ≡ true) (h : length s ≤ 65536) {b : Bool} (w : b ≡ writable e limit T rows s) where
    pub did_unfit : b ≡ false → RefusedWith NotWritable o o' a → Did e limit T rows s o o' a
    unfolding answer_of
    did_unfit f r =
        let q : writable e limit T rows s ≡ false = sym w ∙ f in
        record { says = r.says ∙ sym (rw (i, le-leb (length s) 65536 h, q)); leaves = r.leaves ∙ rw r.says }

    pub did_form : b ≡ true → Filled (form_of e limit T s) o o' a → Did e limit T rows s o o' a
    unfolding answer_of
    did_form f r =
        let q : writable e limit T rows s ≡ true = sym w ∙ f in
        record { says = r.says ∙ sym (rw (i, le-leb (length s) 65536 h, q)); leaves = r.leaves }

pub writable_is : {b c : Bool} → b ≡ c → b ≡ true → c ≡ true
writable_is e f = sym e ∙ f

pub ruleset answering = (did_unlimited, did_long, did_unfit, did_form, writable_is)
