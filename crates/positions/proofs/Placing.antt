-- What answers the returns and turns of the function that gives the repeated texts their positions. Assumes nothing.
use Prim.Native.Nat.{ℕ, zero, suc, ◌+◌, ◌-◌, ◌≤◌, ◌<◌}
use mathlib.Core.Path.{◌≡◌, refl, sym, ap, ◌∙◌}
use mathlib.Core.Bool.{Bool, true, false, ◌&&◌, ◌||◌, not}
use mathlib.Core.List.{List, [], ◌∷◌, ◌++◌, append_assoc}
use native.Mathlib.Omega.{arith}
use native.Mathlib.Nat.{sub-zero}
use native.Mathlib.Numerals.{add-one}
use lib.ListN.{length, get_or, set, take, length-set, length-append}
use lib.Seq.{get_or-set_same, get_or-set_other}
use lib.Dec.{ltb, leb, leb-suc-suc, lit≤}
use borrow.Author.Tests.{lt-ltb, le-ltb}
use Rattle.text.specs.Texts.{same, among}
use Rattle.text.proofs.Comparing.{clash, same_self}
use Rattle.draft.specs.Strings.{Text, repeats, repeated, kept, position}
use Rattle.draft.specs.Table.{from}
use Rattle.buckets.specs.Numbered.{before, First, Firsts, Marks}
use Rattle.positions.specs.Contract.{Slot, Slots, Marked, Numbered, Placed}
use Rattle.occurring.specs.Occurring.{bit, times}
use Rattle.occurring.proofs.Among.{at_or_not, and_false, or_true, or_no, among_append, among_times}
use Rattle.occurring.proofs.Repeating.{times_repeats}
use Rattle.buckets.proofs.Numbered.{from_step, from_none, from_again, from_other, seen_first, first_once, first_of}

among_take : (u : Text) (n : ℕ) (us : List Text) → among us u ≡ false → among (take n us) u ≡ false
unfolding among
among_take u zero us e = refl
among_take u (suc n) [] e = refl
among_take u (suc n) (a ∷ us) e = let h = or_no (same u a) (among us u) e in rw h.0 (among_take u n us h.1)

-- a text behind others that are not the same: its place, and whether it is among the first n
seat : (u : Text) (n : ℕ) (cs bs : List Text) → among cs u ≡ false → among (take n (cs ++ (u ∷ bs))) u ≡ ltb (length cs) n
unfolding among
seat u zero [] bs e = sym (le-ltb 0 0 (omega arith))
seat u zero (a ∷ cs) bs e = sym (le-ltb (suc (length cs)) 0 (omega arith))
seat u (suc n) [] bs e = rw (same_self u) (sym (lt-ltb 0 (suc n) (omega arith)))
seat u (suc n) (a ∷ cs) bs e = let h = or_no (same u a) (among cs u) e in rw h.0 (seat u n cs bs h.1 ∙ sym (leb-suc-suc (suc (length cs)) n))

seat_position : (u : Text) (n : ℕ) (cs bs : List Text) → among cs u ≡ false → length cs < n → position (take n (cs ++ (u ∷ bs))) u ≡ length cs
unfolding among position
seat_position u zero cs bs e l = absurd (omega arith)
seat_position u (suc n) [] bs e l = rw (same_self u)
seat_position u (suc n) (a ∷ cs) bs e l = let h = or_no (same u a) (among cs u) e in rw h.0 (ap suc (seat_position u n cs bs h.1 (omega arith)))

-- a text that was seen is not listed any more
repeats_seen : (u : Text) (seen ts : List Text) → among seen u ≡ true → among (repeats seen ts) u ≡ false
repeats_seen u seen ts e =
    let z : times u (repeats seen ts) ≡ 0 = times_repeats u seen ts ∙ ap (λ (b : Bool). bit (not b && leb 2 (times u ts))) e in
    among_times u (repeats seen ts) ∙ ap (ltb 0) z

-- the marks of the texts that come again, string by string
marks_more : (t : ℕ → Text) (r f : ℕ) (tw : List ℕ) → Marks t r tw → First t r f → r < length tw → Marks t (suc r) (set tw f (r - f))
unfolding among
marks_more t r f tw h e l = record { at = λ k. at_or_not P k r here (old k) }
  where
    P : ℕ → Type 0
    P k = k < suc r → First t k k → ltb 0 (get_or (set tw f (r - f)) k 0) ≡ among (from t (suc k) (suc r - suc k)) (t k)

    here : P r
    here m o =
        let q : f ≡ r = first_once t e o in
        let z : r - f ≡ 0 = omega arith in
        ap (ltb 0) (ap (λ (i : ℕ). get_or (set tw f (r - f)) i 0) (sym q) ∙ get_or-set_same tw f (r - f) 0 (omega arith) ∙ z)
        ∙ sym (ap (λ (us : List Text). among us (t r)) (from_none t (suc r) (suc r) (omega arith)))

    old : (k : ℕ) → (k ≡ r → ⊥) → P k
    old k n m =
        at_or_not (λ (k : ℕ). k < r → First t k k → ltb 0 (get_or (set tw f (r - f)) k 0) ≡ among (from t (suc k) (suc r - suc k)) (t k)) k f
        (λ i o. ap (ltb 0) (get_or-set_same tw f (r - f) 0 (omega arith)) ∙ lt-ltb 0 (r - f) (omega arith) ∙ sym (from_again t (t f) f r i e.equal))
        (λ d i o. ap (ltb 0) (get_or-set_other tw f k (r - f) 0 d) ∙ h.at k i o ∙ sym (from_other t (t k) k r i (λ q. d (first_once t (first_of t o (omega arith) q) e))))
        (omega (arith, n))

-- where the marking stands at string r, whatever the texts are
pub record Marking (n : ℕ) (fs : List ℕ) (r : ℕ) (sp : List ℕ) : Type 0 where
  pub within : r ≤ n
  pub room : n ≤ length sp
  pub at : (t : ℕ → Text) → Firsts t n fs → Marks t r sp

pub mark_first : (n : ℕ) (fs sp : List ℕ) → n ≤ length sp → Marking n fs 0 sp
mark_first n fs sp h = record { within = omega arith; room = h; at = λ t f. record { at = λ k l. absurd (omega arith) } }

module _ {n r : ℕ} {fs sp : List ℕ} (i : Marking n fs r sp) where
  pub mark_again : {f : ℕ} → r < n → f ≡ get_or fs r 0 → Marking n fs (r + 1) (set sp f (r - f))
  mark_again {f} h e =
      rw add-one
      (record {
        within = h;
        room = simp length-set i.room;
        at = λ t g. marks_more t r f sp (i.at t g) (rw (← e) at (g.at r h)) (omega (arith, i.room));
      })

  pub mark_never : {f : ℕ} → r < n → f ≡ get_or fs r 0 → r < f → Marking n fs (r + 1) sp
  mark_never h e l = rw add-one (record { within = h; room = i.room; at = λ t g. absurd (omega (arith, (g.at r h).within)) })

  pub mark_done : n ≤ r → Marked n fs sp
  mark_done h = let q : r ≡ n = omega (arith, i.within) in record { at = λ t f. rw q at (i.at t f); room = i.room }

pub ruleset marking = (mark_first, mark_again, mark_never, mark_done)

-- where the positions stand at string r, for texts t
pub record Listed (t : ℕ → Text) (n r next : ℕ) (sp : List ℕ) : Type 0 where
  pub acc : List Text
  pub split : repeated (from t 0 n) ≡ acc ++ repeats (before t r) (from t r (n - r))
  pub count : next ≡ length acc
  pub old : (u : Text) → among acc u ≡ true → among (before t r) u ≡ true
  pub slots : Slots (kept (from t 0 n)) t r sp

pub record Placing (n : ℕ) (fs tw : List ℕ) (r next : ℕ) (sp : List ℕ) : Type 0 where
  pub within : r ≤ n
  pub few : next ≤ r
  pub room : n ≤ length sp
  pub later : (k : ℕ) → r ≤ k → get_or sp k 0 ≡ get_or tw k 0
  pub at : (t : ℕ → Text) → Firsts t n fs → Marks t n tw → Listed t n r next sp

pub place_first : (n : ℕ) (fs sp : List ℕ) → n ≤ length sp → Placing n fs sp 0 0 sp
unfolding before among
place_first n fs sp h =
    record {
      within = omega arith;
      few = omega arith;
      room = h;
      later = λ k l. refl;
      at = λ t f m. record { acc = []; split = rw sub-zero; count = refl; old = λ u e. clash e refl; slots = record { at = λ k l. absurd (omega arith) } };
    }

slots_more : {P : List Text} {t : ℕ → Text} (r v : ℕ) {sp : List ℕ} → Slots P t r sp → Slot P (t r) v → r < length sp → Slots P t (suc r) (set sp r v)
slots_more {P} {t} r v {sp} s e l =
    record {
      at = λ k. at_or_not (λ (k : ℕ). k < suc r → First t k k → Slot P (t k) (get_or (set sp r v) k 0)) k r (λ m o. rw (get_or-set_same sp r v 0 l) e) (λ n m. rw (get_or-set_other sp r k v 0 n) (s.at k (omega (arith, n))));
    }

slots_skip : {P : List Text} {t : ℕ → Text} (r : ℕ) {sp : List ℕ} → Slots P t r sp → (First t r r → ⊥) → Slots P t (suc r) sp
slots_skip {P} {t} r {sp} s e =
    record {
      at = λ k. at_or_not (λ (k : ℕ). k < suc r → First t k k → Slot P (t k) (get_or sp k 0)) k r (λ m o. absurd (e o)) (λ n m. s.at k (omega (arith, n)));
    }

-- one string's text among those before it, and whether it comes again
module _ (t : ℕ → Text) (r n : ℕ) (h : r < n) where
  abbrev rest : List Text
  rest = repeats (before t (suc r)) (from t (suc r) (n - suc r))

  repeats_new : among (before t r) (t r) ≡ false → among (from t (suc r) (n - suc r)) (t r) ≡ true → repeats (before t r) (from t r (n - r)) ≡ t r ∷ repeats (before t (suc r)) (from t (suc r) (n - suc r))
  unfolding repeats before
  repeats_new a b = rw (from_step t r n h, a, b)

  repeats_once : among (from t (suc r) (n - suc r)) (t r) ≡ false → repeats (before t r) (from t r (n - r)) ≡ repeats (before t (suc r)) (from t (suc r) (n - suc r))
  unfolding repeats before
  repeats_once b = rw (from_step t r n h, b, and_false (not (among (before t r) (t r))))

  repeats_old : among (before t r) (t r) ≡ true → repeats (before t r) (from t r (n - r)) ≡ repeats (before t (suc r)) (from t (suc r) (n - suc r))
  unfolding repeats before
  repeats_old a = rw (from_step t r n h, a)

  before_keeps : (u : Text) → among (before t r) u ≡ true → among (before t (suc r)) u ≡ true
  unfolding before among
  before_keeps u e = rw e (or_true (same u (t r)))

  before_has : among (before t (suc r)) (t r) ≡ true
  unfolding before among
  before_has = rw (same_self (t r))

module _ {t : ℕ → Text} {n r next : ℕ} {sp : List ℕ} (i : Listed t n r next sp) (h : r < n) where
  not_listed : among (before t r) (t r) ≡ false → among i.acc (t r) ≡ false
  not_listed e = go (among i.acc (t r)) refl
    where
      go : (b : Bool) → among i.acc (t r) ≡ b → b ≡ false
      go true f = clash (i.old (t r) f) e
      go false f = refl

  old_more : (u : Text) → among (i.acc ++ (t r ∷ [])) u ≡ true → among (before t (suc r)) u ≡ true
  unfolding before among
  old_more u e = go (same u (t r)) (among i.acc u) refl (sym (among_append u i.acc (t r ∷ [])) ∙ e) (i.old u)
    where
      go : (x y : Bool) → same u (t r) ≡ x → (y || (same u (t r) || false)) ≡ true → (y ≡ true → among (before t r) u ≡ true) → (x || among (before t r) u) ≡ true
      go true y f g k = refl
      go false true f g k = k refl
      go false false f g k = clash g (rw f)

  listed_new : r < length sp → First t r r → among (from t (suc r) (n - suc r)) (t r) ≡ true → Listed t n (suc r) (next + 1) (set sp r next)
  listed_new l o m =
      let b : among (before t r) (t r) ≡ false = seen_first t o ∙ le-ltb r r (omega arith) in
      let q : repeated (from t 0 n) ≡ i.acc ++ (t r ∷ rest t r n h) = i.split ∙ ap (λ (w : List Text). i.acc ++ w) (repeats_new t r n h b m) in
      let g : among i.acc (t r) ≡ false = not_listed b in
      record {
        acc = i.acc ++ (t r ∷ []);
        split = q ∙ sym (append_assoc i.acc (t r ∷ []) (rest t r n h));
        count = omega (arith, i.count, length-append i.acc (t r ∷ []));
        old = old_more;
        slots = slots_more r next i.slots (record {
          has = ap (λ (w : List Text). among (take 256 w) (t r)) q ∙ seat (t r) 256 i.acc (rest t r n h) g ∙ ap (λ (k : ℕ). ltb k 256) (sym i.count);
          at = λ k. ap (λ (w : List Text). position (take 256 w) (t r)) q ∙ seat_position (t r) 256 i.acc (rest t r n h) g (omega (arith, i.count)) ∙ sym i.count;
        }) l;
      }

  listed_once : r < length sp → First t r r → among (from t (suc r) (n - suc r)) (t r) ≡ false → Listed t n (suc r) next (set sp r 4096)
  listed_once l o m =
      let b : among (before t r) (t r) ≡ false = seen_first t o ∙ le-ltb r r (omega arith) in
      let q : repeated (from t 0 n) ≡ i.acc ++ rest t r n h = i.split ∙ ap (λ (w : List Text). i.acc ++ w) (repeats_once t r n h m) in
      let z : among (repeated (from t 0 n)) (t r) ≡ false =
      ap (λ (w : List Text). among w (t r)) q ∙ among_append (t r) i.acc (rest t r n h) ∙ rw (not_listed b, repeats_seen (t r) (before t (suc r)) (from t (suc r) (n - suc r)) (before_has t r n h)) in
      record {
        acc = i.acc;
        split = q;
        count = i.count;
        old = λ u e. before_keeps t r n h u (i.old u e);
        slots = slots_more r 4096 i.slots (record {
          has = among_take (t r) 256 (repeated (from t 0 n)) z ∙ sym (le-ltb 4096 256 (lit≤ tt));
          at = λ k. absurd (omega arith);
        }) l;
      }

  listed_old : {f : ℕ} → First t r f → (f ≡ r → ⊥) → Listed t n (suc r) next sp
  listed_old {f} o d =
      let b : among (before t r) (t r) ≡ true = seen_first t o ∙ lt-ltb f r (omega (arith, o.within, d)) in
      record {
        acc = i.acc;
        split = i.split ∙ ap (λ (w : List Text). i.acc ++ w) (repeats_old t r n h b);
        count = i.count;
        old = λ u e. before_keeps t r n h u (i.old u e);
        slots = slots_skip r i.slots (λ e. d (first_once t o e));
      }

module _ {n r next : ℕ} {fs tw sp : List ℕ} (i : Placing n fs tw r next sp) (h : r < n) where
  set_later : (v k : ℕ) → suc r ≤ k → get_or (set sp r v) k 0 ≡ get_or tw k 0
  set_later v k l = get_or-set_other sp r k v 0 (λ e. omega arith) ∙ i.later k (omega arith)

  pub place_new : {f : ℕ} → f ≡ get_or fs r 0 → f ≡ r → 0 < get_or sp r 0 → Placing n fs tw (r + 1) (next + 1) (set sp r next)
  place_new p q y =
      let e : get_or fs r 0 ≡ r = sym p ∙ q in
      rw (add-one r)
      (record {
        within = h;
        few = omega (arith, i.few);
        room = simp length-set i.room;
        later = set_later next;
        at = λ t f m.
            let o : First t r r = rw e at (f.at r h) in
            listed_new (i.at t f m) h (omega (arith, i.room)) o (sym (m.at r h o) ∙ lt-ltb 0 (get_or tw r 0) (omega (arith, i.later r (omega arith))));
      })

  pub place_once : {f : ℕ} → f ≡ get_or fs r 0 → f ≡ r → get_or sp r 0 ≤ 0 → Placing n fs tw (r + 1) next (set sp r 4096)
  place_once p q y =
      let e : get_or fs r 0 ≡ r = sym p ∙ q in
      rw add-one
      (record {
        within = h;
        few = omega (arith, i.few);
        room = simp length-set i.room;
        later = set_later 4096;
        at = λ t f m.
            let o : First t r r = rw e at (f.at r h) in
            listed_once (i.at t f m) h (omega (arith, i.room)) o (sym (m.at r h o) ∙ le-ltb 0 (get_or tw r 0) (omega (arith, i.later r (omega arith))));
      })

  pub place_old : {f : ℕ} → f ≡ get_or fs r 0 → (f ≡ r → ⊥) → Placing n fs tw (r + 1) next sp
  place_old p e =
      rw add-one
      (record {
        within = h;
        few = omega (arith, i.few);
        room = i.room;
        later = λ k l. i.later k (omega arith);
        at = λ t f m. listed_old (i.at t f m) h (f.at r h) (λ q. e (p ∙ q));
      })

pub place_done : {n : ℕ} {fs tw : List ℕ} {r next : ℕ} {sp : List ℕ} → Placing n fs tw r next sp → n ≤ r → Numbered n fs tw sp
place_done {n} {r = r} {next} {sp} i h =
    let q : r ≡ n = omega (arith, i.within) in
    record { at = λ t f m. rw q at (i.at t f m).slots; room = i.room }

pub placed : {n : ℕ} {fs tw sp : List ℕ} → Marked n fs tw → Numbered n fs tw sp → Placed n fs sp
placed m p = record { at = λ t f. p.at t f (m.at t f); room = p.room }

pub ruleset placing = (place_first, place_done, place_new, place_once, place_old, placed)
