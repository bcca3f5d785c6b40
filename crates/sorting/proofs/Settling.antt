-- What answers the turns and returns of the functions that put few rows in order. Assumes nothing.
use mathlib.Core.Path.{◌≡◌, refl, sym, ap, ◌∙◌}
use mathlib.Core.Bool.{Bool, true, false}
use mathlib.Core.List.{List, [], ◌∷◌, ◌++◌, append_assoc, append-nil}
use Prim.Native.Nat.{ℕ, zero, suc, ◌+◌, ◌-◌, ◌≤◌, ◌<◌}
use native.Mathlib.Omega.{arith}
use native.Mathlib.Numerals.{add-one}
use lib.ListN.{length, get_or, set, take, drop, length-set, length-append, length-drop, drop_of_length-le}
use lib.Seq.{take_all, take-suc, drop-cons, set_at, take_at, drop_at, length-take-le}
use Rattle.sorting.specs.Sorting.{before, inserted, settled, sorted}
use Rattle.sorting.proofs.Inserting.{sorted_length, inserted_front, inserted_behind, inserted_last}

-- ---- the first among the others

next_there : (i z : ℕ) (xs : List ℕ) → i < length xs → get_or (take i xs ++ (z ∷ drop i xs)) (suc i) 0 ≡ get_or xs i 0
next_there zero z [] h = absurd (omega arith)
next_there zero z (x ∷ xs) h = refl
next_there (suc i) z [] h = absurd (omega arith)
next_there (suc i) z (x ∷ xs) h = next_there i z xs (omega arith)

module _ (text : ℕ → List ℕ) where
  -- i of those behind the first have moved, none of which it is before
  pub record Settling (o : List ℕ) (first i : ℕ) (rows : List ℕ) : Type 0 where
    pub others : List ℕ
    pub whole : o ≡ first ∷ others
    pub free : ℕ
    pub is : rows ≡ take i others ++ (free ∷ drop i others)
    pub goes : inserted text first others ≡ take i others ++ inserted text first (drop i others)
    pub inside : i < length rows
    pub long : length rows ≡ length o

  pub settle_first : (o : List ℕ) {first : ℕ} → 0 < length o → first ≡ get_or o 0 0 → Settling o first 0 o
  settle_first [] h e = absurd (omega arith)
  settle_first (x ∷ o) {first} h e = record { others = o; whole = rw e; free = x; is = refl; goes = refl; inside = omega arith; long = refl }

  settled_is : (k : ℕ) (ks : List ℕ) → settled text (k ∷ ks) ≡ inserted text k ks
  unfolding settled
  settled_is k ks = refl

  module _ {o : List ℕ} {first i : ℕ} {rows : List ℕ} (s : Settling o first i rows) where
    counts : length rows ≡ suc (length s.others)
    counts = s.long ∙ ap length s.whole

    within : i ≤ length s.others
    within = omega (arith, counts, s.inside)

    put : (x : ℕ) → set rows i x ≡ take i s.others ++ (x ∷ drop i s.others)
    put x = rw s.is (set_at (take i s.others) s.free (drop i s.others) x i (length-take-le i s.others within))

    done : {ys : List ℕ} → inserted text first (drop i s.others) ≡ first ∷ ys → drop i s.others ≡ ys → set rows i first ≡ settled text o
    done e f = put first ∙ rw (f, s.whole, settled_is first s.others, s.goes, e)

    module _ (h : i + 1 < length rows) {b : Bool} (g : b ≡ before text first (get_or rows (i + 1) 0)) where
      abbrev next : ℕ
      next = get_or rows (i + 1) 0

      before_it : before text first next ≡ b
      before_it = sym g

      there : i < length s.others
      there = omega (arith, counts)

      next_is : next ≡ get_or s.others i 0
      next_is = rw (add-one, s.is) (next_there i s.free s.others there)

      from_next : drop i s.others ≡ next ∷ drop (i + 1) s.others
      from_next = drop-cons s.others i 0 there ∙ ap (λ (x : ℕ). x ∷ drop (suc i) s.others) (sym next_is) ∙ ap (λ (n : ℕ). next ∷ drop n s.others) (sym (add-one i))

      up_to_next : take (i + 1) s.others ≡ take i s.others ++ (next ∷ [])
      up_to_next = ap (λ (n : ℕ). take n s.others) (add-one i) ∙ take-suc s.others i 0 there ∙ ap (λ (x : ℕ). take i s.others ++ (x ∷ [])) (sym next_is)

      pub settle_here : b ≡ true → set rows i first ≡ settled text o
      settle_here t = done (rw from_next (inserted_front text first next (drop (i + 1) s.others) (before_it ∙ t))) from_next

      pub settle_again : b ≡ false → Settling o first (i + 1) (set rows i (get_or rows (i + 1) 0))
      settle_again t =
          record {
            others = s.others;
            whole = s.whole;
            free = next;
            is = put next ∙ rw (up_to_next, append_assoc, from_next);
            goes = s.goes ∙ rw (from_next, inserted_behind text first next (drop (i + 1) s.others) (before_it ∙ t), up_to_next, append_assoc);
            inside = rw length-set h;
            long = length-set rows i next ∙ s.long;
          }

    pub settle_last : {last : ℕ} → last ≡ i → length rows ≤ i + 1 → set rows last first ≡ settled text o
    settle_last e h =
        let d : drop i s.others ≡ [] = drop_of_length-le s.others {i = i} (omega (arith, counts)) in
        rw e (done (rw d (inserted_last text first)) d)

pub ruleset settling = (settle_first, settle_here, settle_again, settle_last)

-- ---- all of them

module _ (text : ℕ → List ℕ) where
  sorted_next : (x : ℕ) (xs : List ℕ) → settled text (x ∷ sorted text xs) ≡ sorted text (x ∷ xs)
  unfolding sorted settled
  sorted_next x xs = refl

  -- those from row i on are in order
  pub record Sorting (o : List ℕ) (i : ℕ) (rows : List ℕ) : Type 0 where
    pub is : rows ≡ take i o ++ sorted text (drop i o)
    pub within : i ≤ length o
    pub long : length rows ≡ length o

  pub sort_first : (o : List ℕ) → Sorting o (length o) o
  unfolding sorted
  sort_first o =
      record {
        is = sym (rw (drop_of_length-le o {i = length o} (omega arith), take_all (length o) o (omega arith), append-nil));
        within = omega arith;
        long = refl;
      }

  module _ {o : List ℕ} {i : ℕ} {rows : List ℕ} (s : Sorting o i rows) where
    module _ (h : 0 < i) where
      abbrev x : ℕ
      x = get_or o (i - 1) 0

      abbrev rest : List ℕ
      rest = sorted text (drop i o)

      less : i ≡ suc (i - 1)
      less = omega arith

      taken : take i o ≡ take (i - 1) o ++ (x ∷ [])
      taken = ap (λ (n : ℕ). take n o) less ∙ take-suc o (i - 1) 0 (omega (arith, s.within))

      split : rows ≡ take (i - 1) o ++ (x ∷ rest)
      split = s.is ∙ rw taken (append_assoc (take (i - 1) o) (x ∷ []) rest)

      front : length (take (i - 1) o) ≡ i - 1
      front = length-take-le (i - 1) o (omega (arith, s.within))

      behind : drop (i - 1) rows ≡ x ∷ rest
      behind = rw split (drop_at (take (i - 1) o) (x ∷ rest) (i - 1) front)

      lent : take (length rows - (i - 1)) (drop (i - 1) rows) ≡ x ∷ rest
      lent = take_all (length rows - (i - 1)) (drop (i - 1) rows) (rw length-drop (omega arith)) ∙ behind

      pub sort_some : 0 < length (take (length rows - (i - 1)) (drop (i - 1) rows))
      sort_some = rw lent (omega arith)

      pub sort_again : {ys : List ℕ} → ys ≡ settled text (take (length rows - (i - 1)) (drop (i - 1) rows)) → Sorting o (i - 1) (take (i - 1) rows ++ (ys ++ drop (length rows - (i - 1)) (drop (i - 1) rows)))
      sort_again {ys} e =
          let a : take (i - 1) rows ≡ take (i - 1) o = rw split (take_at (take (i - 1) o) (x ∷ rest) (i - 1) front) in
          let b : drop (length rows - (i - 1)) (drop (i - 1) rows) ≡ [] = drop_of_length-le (drop (i - 1) rows) {i = length rows - (i - 1)} (rw length-drop (omega arith)) in
          let d : drop (i - 1) o ≡ x ∷ drop i o = drop-cons o (i - 1) 0 (omega (arith, s.within)) ∙ ap (λ (n : ℕ). get_or o (i - 1) 0 ∷ drop n o) (sym less) in
          let y : ys ≡ sorted text (drop (i - 1) o) = e ∙ rw (lent, d) (sorted_next x (drop i o)) in
          let z : length (take (i - 1) o ++ sorted text (drop (i - 1) o)) ≡ length o = length-append (take (i - 1) o) (sorted text (drop (i - 1) o)) ∙ rw (sorted_length text (drop (i - 1) o), length-drop, front) (omega (arith, s.within)) in
          record { is = rw (a, b, append-nil, y); within = omega (arith, s.within); long = rw (a, b, append-nil, y) z }

    pub sort_in : i - 1 ≤ length rows
    sort_in = omega (arith, s.within, s.long)

    pub sort_done : i ≤ 0 → rows ≡ sorted text o
    sort_done h =
        let e : i ≡ 0 = omega arith in
        let q : rows ≡ take 0 o ++ sorted text (drop 0 o) = rw e at s.is in
        q

pub ruleset sorting = (sort_first, sort_some, sort_in, sort_again, sort_done)
