-- What answers the turns and returns of the functions that merge runs of words. Assumes nothing.
use mathlib.Core.Path.{◌≡◌, refl, sym, ap, ◌∙◌}
use mathlib.Core.Bool.{Bool, true, false, cond, not}
use mathlib.Core.List.{List, [], ◌∷◌, ◌++◌, append_assoc, append-nil}
use Prim.Native.Nat.{ℕ, zero, suc, ◌+◌, ◌-◌, ◌/◌, ◌≤◌, ◌<◌}
use native.Mathlib.Omega.{arith}
use native.Mathlib.Numerals.{add-one}
use native.Mathlib.Nat.{add-zero}
use lib.ListN.{length, get_or, set, take, drop, length-set, length-append, length-take, length-drop, take-append-drop, drop_of_length-le}
use lib.Seq.{take_all, take-nil, take-suc, drop-cons, drop-drop, take-add, take-take, set_at, take_at, drop_at, get_or-take, get_or-drop, length-take-le, take-append-add, take-suc-set, drop-set-lt, take-set-lt}
use lib.Dec.{ltb}
use borrow.Author.Tests.{lt-ltb, le-ltb, ltb-true, ltb-false}
use Rattle.std.specs.List.{copy_within}
use Rattle.text.proofs.Comparing.{clash}
use Rattle.sorting.specs.Sorting.{before, sorted, Rising}
use Rattle.sorting.proofs.Inserting.{sorted_length, sorted_rising}
use Rattle.merging.specs.Merging.{copied, Runs, merged, second_first, Taken, Merged, Joined, Sorted}
use Rattle.merging.proofs.Merging.{merged_none, merged_first, merged_second, merged_one, sorted_both, merged_apart}

-- ---- the first words copied

within_copied : (n z : ℕ) (o : List ℕ) → copy_within o 0 n z ≡ copied n z o
unfolding copied
within_copied n z o = let e : n - 0 ≡ n = omega arith in append_assoc (take z o) (take (n - 0) o) (drop (z + (n - 0)) o) ∙ ap (λ (m : ℕ). take z o ++ (take m o ++ drop (z + m) o)) e

-- ---- which of two comes first

negated : (b : Bool) → not b ≡ cond b false true
negated true = refl
negated false = refl

module _ (text : ℕ → List ℕ) (x : ℕ) (w : List ℕ) (j n : ℕ) where
  pub waits_past : n ≤ j → ltb j n ≡ second_first text x w j n
  unfolding second_first
  waits_past h = rw (le-ltb j n h)

  pub waits_there : j < n → {b : Bool} → b ≡ before text x (get_or w j 0) → not b ≡ second_first text x w j n
  unfolding second_first
  waits_there h {b} e = rw (lt-ltb j n h, ← e) (negated b)

pub ruleset waiting = (waits_past, waits_there)

-- ---- two runs merged

-- a part of what lies before a place
inner : (j m z : ℕ) (l : List ℕ) → j + m ≤ z → take m (drop j (take z l)) ≡ take m (drop j l)
inner zero m z l h = take-take m z l (omega arith)
inner (suc j) m zero l h = absurd (omega arith)
inner (suc j) m (suc z) [] h = refl
inner (suc j) m (suc z) (x ∷ l) h = inner j m z l (omega arith)

-- a row put at the next place
module _ (text : ℕ → List ℕ) {half n z i j : ℕ} {w : List ℕ} {b : Bool} where
  pub took_second : (x : ℕ) {v : ℕ} → x ≡ get_or w (z + i) 0 → v ≡ x → b ≡ second_first text v w j n → b ≡ true → Taken text half n z i j w (set w (i + (j - half)) (get_or w j 0)) true
  took_second x e f g t = record { says = sym (sym g ∙ t) ∙ rw (f, e); leaves = refl }

  pub took_first : (x : ℕ) {v : ℕ} → x ≡ get_or w (z + i) 0 → v ≡ x → b ≡ second_first text v w j n → b ≡ false → Taken text half n z i j w (set w (i + (j - half)) x) false
  took_first x e f g t = record { says = sym (sym g ∙ t) ∙ rw (f, e); leaves = rw e }

pub ruleset taking = (took_second, took_first)

module _ (text : ℕ → List ℕ) (half n z : ℕ) (o : List ℕ) where
  abbrev left : List ℕ
  left = take half (drop z o)

  -- those of the second run from place j on
  abbrev right : ℕ → List ℕ
  right j = take (n - j) (drop j o)

  -- i rows of the first run and those of the second up to place j are merged, and stand at the front
  pub record Merging (i j : ℕ) (w : List ℕ) : Type 0 where
    pub runs : Runs half n z i j (length w)
    pub kept : take half (drop z w) ≡ left
    pub rest : drop j (take z w) ≡ drop j (take z o)
    pub goes : take (i + (j - half)) w ++ merged text (drop i left) (right j) ≡ merged text left (right half)
    pub long : length w ≡ length o

  pub merge_first : Runs half n z 0 half (length o) → Merging 0 half o
  merge_first r = let p : 0 + (half - half) ≡ 0 = omega arith in record { runs = r; kept = refl; rest = refl; goes = rw p; long = refl }

  module _ {i j : ℕ} {w : List ℕ} (m : Merging i j w) where
    length_left : length left ≡ half
    length_left = length-take-le half (drop z o) (rw length-drop (omega (arith, m.runs.room, m.long)))

    pub merge_runs : Runs half n z i j (length w)
    merge_runs = m.runs

    module _ (h : i < half) {w' : List ℕ} {b : Bool} (t : Taken text half n z i j w w' b) where
      abbrev x : ℕ
      x = get_or w (z + i) 0

      abbrev place : ℕ
      place = i + (j - half)

      place_in : place < length w
      place_in = omega (arith, m.runs.from, m.runs.second, m.runs.most, m.runs.room)

      x_is : get_or left i 0 ≡ x
      x_is = ap (λ (v : List ℕ). get_or v i 0) (sym m.kept) ∙ get_or-take half (drop z w) i 0 h ∙ get_or-drop z w i 0

      first_next : drop i left ≡ x ∷ drop (suc i) left
      first_next = drop-cons left i 0 (omega (arith, length_left)) ∙ ap (λ (v : ℕ). v ∷ drop (suc i) left) x_is

      -- a row put at the next place: what stands behind place j, and the first run, stay
      put_front : (v : ℕ) → take (suc place) (set w place v) ≡ take place w ++ (v ∷ [])
      put_front v = take-suc-set w place v place_in

      put_kept : (v : ℕ) → take half (drop z (set w place v)) ≡ left
      put_kept v = ap (take half) (drop-set-lt z w place v (omega (arith, m.runs.from, m.runs.second, m.runs.most))) ∙ m.kept

      put_rest : (v : ℕ) → drop j (take z (set w place v)) ≡ drop j (take z o)
      put_rest v = ap (drop j) (take-set-lt z w place v (omega (arith, m.runs.from, m.runs.second, m.runs.most))) ∙ drop-set-lt j (take z w) place v (omega (arith, m.runs.from)) ∙ m.rest

      put_runs : (v i' j' : ℕ) → i' ≤ half → half ≤ j' → j' ≤ n → Runs half n z i' j' (length (set w place v))
      put_runs v i' j' a c d = record { first = a; from = c; second = d; most = m.runs.most; room = rw length-set m.runs.room }

      none_right : n ≤ j → right j ≡ []
      none_right k = let z : n - j ≡ 0 = omega arith in rw z

      module _ (k : j < n) where
        y_is : get_or w j 0 ≡ get_or o j 0
        y_is =
            sym (get_or-take z w j 0 (omega (arith, m.runs.most))) ∙ ap (λ (v : ℕ). get_or (take z w) v 0) (sym (add-zero j)) ∙ sym (get_or-drop j (take z w) 0 0)
            ∙ ap (λ (v : List ℕ). get_or v 0 0) m.rest
            ∙ get_or-drop j (take z o) 0 0 ∙ ap (λ (v : ℕ). get_or (take z o) v 0) (add-zero j) ∙ get_or-take z o j 0 (omega (arith, m.runs.most))

        second_next : right j ≡ get_or w j 0 ∷ right (suc j)
        second_next =
            let s : n - j ≡ suc (n - suc j) = omega arith in
            let d : drop j o ≡ get_or o j 0 ∷ drop (suc j) o = drop-cons o j 0 (omega (arith, m.runs.most, m.runs.room, m.long)) in
            rw (s, d, y_is)

      -- the first run's row came next
      pub merge_left : b ≡ false → Merging (i + 1) j w'
      unfolding second_first
      merge_left g =
          let p : i + 1 + (j - half) ≡ suc place = omega arith in
          let q : w' ≡ set w place x = t.leaves ∙ rw g in
          let s : merged text (x ∷ drop (suc i) left) (right j) ≡ x ∷ merged text (drop (suc i) left) (right j) = go (ltb j n) refl (before text x (get_or w j 0)) refl (sym t.says ∙ g) in
          rw q (record {
            runs = put_runs x (i + 1) j (omega arith) m.runs.from m.runs.second;
            kept = put_kept x;
            rest = put_rest x;
            goes = rw (p, put_front x, append_assoc, add-one) (ap (λ (v : List ℕ). take place w ++ v) (sym (ap (λ (v : List ℕ). merged text v (right j)) first_next ∙ s)) ∙ m.goes);
            long = length-set w place x ∙ m.long;
          })
        where
          go : (c : Bool) → ltb j n ≡ c → (d : Bool) → before text x (get_or w j 0) ≡ d → cond c (cond d false true) false ≡ false → merged text (x ∷ drop (suc i) left) (right j) ≡ x ∷ merged text (drop (suc i) left) (right j)
          go true p true q r = rw (second_next (ltb-true j n p)) (merged_first text x (get_or w j 0) (drop (suc i) left) (right (suc j)) q)
          go true p false q r = absurd (clash refl r)
          go false p d q r = rw (none_right (ltb-false j n p)) (merged_one text x (drop (suc i) left))

      -- that of the second
      pub merge_right : b ≡ true → Merging i (j + 1) w'
      unfolding second_first
      merge_right g = go (ltb j n) refl (before text x (get_or w j 0)) refl (sym t.says ∙ g)
        where
          go : (c : Bool) → ltb j n ≡ c → (d : Bool) → before text x (get_or w j 0) ≡ d → cond c (cond d false true) false ≡ true → Merging i (j + 1) w'
          go true p true q r = absurd (clash r refl)
          go true p false q r =
              let k : j < n = ltb-true j n p in
              let y : ℕ = get_or w j 0 in
              let s : i + (j + 1 - half) ≡ suc place = omega (arith, m.runs.from) in
              let e : w' ≡ set w place (get_or w j 0) = t.leaves ∙ rw g in
              let u = merged_second text x (get_or w j 0) (drop (suc i) left) (right (suc j)) q in
              let v : merged text (drop i left) (right j) ≡ get_or w j 0 ∷ merged text (drop i left) (right (suc j)) = ap (λ (c : List ℕ). merged text c (right j)) first_next ∙ ap (merged text (x ∷ drop (suc i) left)) (second_next k) ∙ u ∙ ap (λ (c : List ℕ). get_or w j 0 ∷ merged text c (right (suc j))) (sym first_next) in
              rw e (record {
                runs = put_runs (get_or w j 0) i (j + 1) m.runs.first (omega (arith, m.runs.from)) (omega arith);
                kept = put_kept (get_or w j 0);
                rest = sym (drop-drop 1 j (take z (set w place (get_or w j 0)))) ∙ ap (drop 1) (put_rest (get_or w j 0)) ∙ drop-drop 1 j (take z o);
                goes = rw s (rw (put_front (get_or w j 0), append_assoc, add-one) (ap (λ (c : List ℕ). take place w ++ c) (sym v) ∙ m.goes));
                long = length-set w place (get_or w j 0) ∙ m.long;
              })
          go false p d q r = absurd (clash r refl)

    -- all rows of the first run are at their places, so those of the second that are left are too
    pub merge_done : half ≤ i → Merged text left half n z o w
    merge_done h =
        let a : i ≡ half = omega (arith, m.runs.first) in
        let b : i + (j - half) ≡ j = omega (arith, m.runs.first, m.runs.from) in
        let c : drop i left ≡ [] = drop_of_length-le left {i = i} (omega (arith, length_left)) in
        let d : take j w ++ right j ≡ merged text left (right half) = rw (b, c, merged_none) at m.goes in
        let e : j + (n - j) ≡ n = omega (arith, m.runs.second) in
        let f : take (n - j) (drop j (take z o)) ≡ right j = inner j (n - j) z o (omega (arith, m.runs.second, m.runs.most)) in
        let g : drop j (take z o) ≡ right j ++ drop n (take z o) = sym (take-append-drop (n - j) (drop j (take z o))) ∙ rw (f, drop-drop, e) in
        let k : take j (take z w) ≡ take j w = take-take j z w (omega (arith, m.runs.second, m.runs.most)) in
        record {
          front = sym (take-append-drop j (take z w)) ∙ rw (k, m.rest, g) (sym (append_assoc (take j w) (right j) (drop n (take z o))) ∙ ap (λ (v : List ℕ). v ++ drop n (take z o)) d);
          long = m.long;
        }

pub ruleset merging = (merge_first, merge_runs, merge_left, merge_right, merge_done)

-- the first run copied before
module _ (text : ℕ → List ℕ) (half n z : ℕ) (o : List ℕ) {w : List ℕ} (moved : w ≡ copy_within o 0 half z) (r : Runs half n z 0 half (length o)) where
  c : w ≡ copied half z o
  c = moved ∙ within_copied half z o

  pub copied_long : length w ≡ length o
  unfolding copied
  copied_long =
      let a : length (take z o) ≡ z = length-take-le z o (omega (arith, r.room)) in
      let b : length (take half o) ≡ half = length-take-le half o (omega (arith, r.room)) in
      ap length c ∙ rw (length-append, length-append, a, b, length-drop) (omega (arith, r.room))

  pub copied_runs : Runs half n z 0 half (length w)
  copied_runs = rw copied_long r

  pub joined : {w' : List ℕ} → Merged text (take half (drop z w)) half n z w w' → Joined text half n z o w'
  unfolding copied
  joined {w'} m =
      let a : length (take z o) ≡ z = length-take-le z o (omega (arith, r.room)) in
      let b : length (take half o) ≡ half = length-take-le half o (omega (arith, r.room)) in
      let d : take half (drop z w) ≡ take half o = ap (λ (v : List ℕ). take half (drop z v)) c ∙ ap (take half) (drop_at (take z o) (take half o ++ drop (z + half) o) z a) ∙ take_at (take half o) (drop (z + half) o) half b in
      let e : take z w ≡ take z o = ap (take z) c ∙ take_at (take z o) (take half o ++ drop (z + half) o) z a in
      let f : take (n - half) (drop half w) ≡ take (n - half) (drop half o) = sym (inner half (n - half) z w (omega (arith, r.second, r.most))) ∙ ap (λ (v : List ℕ). take (n - half) (drop half v)) e ∙ inner half (n - half) z o (omega (arith, r.second, r.most)) in
      record { merges = λ _. record { front = m.front ∙ rw (d, e, f); long = m.long ∙ copied_long }; long = m.long ∙ copied_long }

-- the second run belongs behind the first
module _ (text : ℕ → List ℕ) (half n z : ℕ) (o : List ℕ) (r : Runs half n z 0 half (length o)) (h : 0 < half) (k : half < n) where
  pub joined_apart : {last : ℕ} {b : Bool} → last ≡ get_or o (half - 1) 0 → b ≡ before text last (get_or o half 0) → b ≡ true → Joined text half n z o o
  joined_apart {last} e f g =
      let left : List ℕ = take half o in
      let right : List ℕ = take (n - half) (drop half o) in
      let a : length left ≡ half = length-take-le half o (omega (arith, r.room)) in
      let x : get_or left (length left - 1) 0 ≡ last = rw a (get_or-take half o (half - 1) 0 (omega arith) ∙ sym e) in
      let l : 0 < length right = rw (length-take-le (n - half) (drop half o) (rw length-drop (omega (arith, r.most, r.room)))) (omega arith) in
      let y : get_or right 0 0 ≡ get_or o half 0 = get_or-take (n - half) (drop half o) 0 0 (omega arith) ∙ get_or-drop half o 0 0 ∙ rw add-zero in
      let c : right ≡ get_or o half 0 ∷ drop 1 right = drop-cons right 0 0 l ∙ ap (λ (v : ℕ). v ∷ drop 1 right) y in
      let p : half + (n - half) ≡ n = omega arith in
      let q : take z o ≡ (left ++ right) ++ drop n (take z o) = sym (take-append-drop n (take z o)) ∙ ap (λ (v : List ℕ). v ++ drop n (take z o)) (take-take n z o r.most ∙ ap (λ (i : ℕ). take i o) (sym p) ∙ take-add half (n - half) o) in
      let d : Rising text left → merged text left right ≡ left ++ right = λ s. rw c (merged_apart text left (get_or o half 0) (drop 1 right) s (omega (arith, a)) (rw x (sym f ∙ g))) in
      record {
        merges = λ s. record { front = q ∙ ap (λ (v : List ℕ). v ++ drop n (take z o)) (sym (d s)); long = refl };
        long = refl;
      }

pub ruleset joining = (copied_long, copied_runs, joined, joined_apart)

-- ---- halves

swap : (j z : ℕ) (l : List ℕ) → j ≤ z → drop j (take z l) ≡ take (z - j) (drop j l)
swap zero z l h = let e : z - 0 ≡ z = omega arith in rw e
swap (suc j) zero l h = absurd (omega arith)
swap (suc j) (suc z) [] h = sym (take-nil (suc z - suc j))
swap (suc j) (suc z) (x ∷ l) h = let e : suc z - suc j ≡ z - j = omega arith in rw e (swap j z l (omega arith))

module _ (text : ℕ → List ℕ) (n z : ℕ) (o : List ℕ) (k : n ≤ z) (l : z + n / 2 ≤ length o) where
  -- few words, sorted by themselves
  pub few_sorted : {ys : List ℕ} → ys ≡ sorted text (take (n - 0) (drop 0 o)) → Sorted text n z o (take 0 o ++ (ys ++ drop (n - 0) (drop 0 o)))
  few_sorted {ys} e =
      let q : n - 0 ≡ n = omega arith in
      let f : ys ≡ sorted text (take n o) = rw q at e in
      let g : length ys ≡ n = ap length f ∙ sorted_length text (take n o) ∙ length-take-le n o (omega arith) in
      let d : z ≡ n + (z - n) = omega arith in
      let u : drop n (take z o) ≡ take (z - n) (drop n o) = ap (λ (m : ℕ). drop n (take m o)) d ∙ ap (drop n) (take-add n (z - n) o) ∙ drop_at (take n o) (take (z - n) (drop n o)) n (length-take-le n o (omega arith)) in
      record {
        front = rw (q, u) (ap (λ (m : ℕ). take m (ys ++ drop n o)) (d ∙ ap (λ (m : ℕ). m + (z - n)) (sym g)) ∙ take-append-add ys (drop n o) (z - n) ∙ ap (λ (v : List ℕ). v ++ take (z - n) (drop n o)) f);
        long = rw (q, length-append, g, length-drop) (omega arith);
      }

  -- both halves are sorted
  record Halves (half : ℕ) (w : List ℕ) : Type 0 where
    pub left_is : take half w ≡ sorted text (take half o)
    pub right_is : take (n - half) (drop half w) ≡ sorted text (take (n - half) (drop half o))
    pub rest : drop n (take z w) ≡ drop n (take z o)
    pub long : length w ≡ length o

  module _ {half : ℕ} (h : half ≡ n / 2) (m : 8 < n) where
    abbrev own : List ℕ
    own = take half o

    abbrev others : List ℕ
    others = take (n - half) (drop half o)

    whole : take n o ≡ own ++ others
    whole = let e : n ≡ half + (n - half) = omega arith in ap (λ (i : ℕ). take i o) e ∙ take-add half (n - half) o

    length_own : length (sorted text own) ≡ half
    length_own = sorted_length text own ∙ length-take-le half o (omega arith)

    length_others : length (sorted text others) ≡ n - half
    length_others = sorted_length text others ∙ length-take-le (n - half) (drop half o) (rw length-drop (omega arith))

    -- the first half sorted
    module _ {w₁ : List ℕ} (a : Sorted text half z o w₁) where
      behind : drop half (take z w₁) ≡ drop half (take z o)
      behind = rw a.front (drop_at (sorted text own) (drop half (take z o)) half length_own)

      others_there : take (n - half) (drop half w₁) ≡ others
      others_there = sym (inner half (n - half) z w₁ (omega arith)) ∙ ap (take (n - half)) behind ∙ inner half (n - half) z o (omega arith)

      pub second_fits : z - half + (n - half) / 2 ≤ length (take (length w₁ - half) (drop half w₁))
      second_fits = rw (length-take, length-drop) (omega (arith, a.long))

      pub second_part : half ≤ length w₁
      second_part = omega (arith, a.long)

      halves : {v : List ℕ} → Sorted text (n - half) (z - half) (take (length w₁ - half) (drop half w₁)) v → Halves half (take half w₁ ++ (v ++ drop (length w₁ - half) (drop half w₁)))
      halves {v} b =
          let u : take (length w₁ - half) (drop half w₁) ≡ drop half w₁ = take_all (length w₁ - half) (drop half w₁) (rw length-drop (omega arith)) in
          let e : drop (length w₁ - half) (drop half w₁) ≡ [] = drop_of_length-le (drop half w₁) {i = length w₁ - half} (rw length-drop (omega arith)) in
          let f : take (z - half) v ≡ sorted text (take (n - half) (drop half w₁)) ++ drop (n - half) (take (z - half) (drop half w₁)) = rw u at b.front in
          let g : length v ≡ length w₁ - half = b.long ∙ rw (u, length-drop) in
          let p : length (take half w₁) ≡ half = length-take-le half w₁ second_part in
          let q : length (sorted text (take (n - half) (drop half w₁))) ≡ n - half = ap (λ (s : List ℕ). length (sorted text s)) others_there ∙ length_others in
          let r : take (n - half) v ≡ sorted text (take (n - half) (drop half w₁)) = sym (take-take (n - half) (z - half) v (omega arith)) ∙ rw f (take_at (sorted text (take (n - half) (drop half w₁))) (drop (n - half) (take (z - half) (drop half w₁))) (n - half) q) in
          let s : take (z - half) (drop half w₁) ≡ drop half (take z o) = sym (swap half z w₁ (omega arith)) ∙ behind in
          let t : drop (n - half) (take (z - half) v) ≡ drop (n - half) (drop half (take z o)) = rw f (drop_at (sorted text (take (n - half) (drop half w₁))) (drop (n - half) (take (z - half) (drop half w₁))) (n - half) q ∙ ap (drop (n - half)) s) in
          let c : half + (z - half) ≡ z = omega arith in
          let i : half + (n - half) ≡ n = omega arith in
          let w : take half w₁ ++ (v ++ drop (length w₁ - half) (drop half w₁)) ≡ take half w₁ ++ v = rw (e, append-nil) in
          let j : drop half (take half w₁ ++ v) ≡ v = drop_at (take half w₁) v half p in
          record {
            left_is = rw w (take_at (take half w₁) v half p ∙ sym (take-take half z w₁ (omega arith)) ∙ rw a.front (take_at (sorted text own) (drop half (take z o)) half length_own));
            right_is = rw w (ap (take (n - half)) j ∙ r ∙ ap (sorted text) others_there);
            rest = rw w (ap (λ (x : ℕ). drop x (take z (take half w₁ ++ v))) (sym i) ∙ sym (drop-drop (n - half) half (take z (take half w₁ ++ v))) ∙ ap (drop (n - half)) (swap half z (take half w₁ ++ v) (omega arith) ∙ ap (take (z - half)) j) ∙ t ∙ drop-drop (n - half) half (take z o) ∙ ap (λ (x : ℕ). drop x (take z o)) i);
            long = rw w (length-append (take half w₁) v ∙ rw (p, g) (omega (arith, a.long, second_part)));
          }

      abbrev joint : List ℕ → List ℕ
      joint v = take half w₁ ++ (v ++ drop (length w₁ - half) (drop half w₁))

      module _ {v : List ℕ} (b : Sorted text (n - half) (z - half) (take (length w₁ - half) (drop half w₁)) v) where
        pub join_ready : Runs half n z 0 half (length (joint v))
        join_ready = record { first = omega arith; from = omega arith; second = omega arith; most = k; room = omega (arith, (halves b).long) }

        pub halves_joined : {w' : List ℕ} → Joined text half n z (joint v) w' → Sorted text n z o w'
        halves_joined d =
            let a : Halves half (joint v) = halves b in
            let s : Rising text (take half (joint v)) = rw a.left_is (sorted_rising text own) in
            record {
              front = (d.merges s).front ∙ rw (a.left_is, a.right_is, a.rest, whole) (ap (λ (u : List ℕ). u ++ drop n (take z o)) (sym (sorted_both text own others)));
              long = d.long ∙ a.long;
            }

pub ruleset halving = (few_sorted, second_fits, second_part, join_ready, halves_joined)

pub front_sorted : (text : ℕ → List ℕ) (n : ℕ) (o : List ℕ) {w : List ℕ} → Sorted text n n o w → n + n / 2 ≤ length o → take n w ≡ sorted text (take n o)
front_sorted text n o s h =
    let e : drop n (take n o) ≡ [] = drop_of_length-le (take n o) {i = n} (rw length-take (omega arith)) in
    s.front ∙ rw (e, append-nil)
