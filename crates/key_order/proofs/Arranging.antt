-- What answers the returns and turns of the functions that put key rows in order. Assumes nothing.
use mathlib.Core.Path.{◌≡◌, refl, sym, ap, ◌∙◌}
use mathlib.Core.Bool.{Bool, true, false, cond}
use mathlib.Core.List.{List, [], ◌∷◌, ◌++◌, append_assoc, append-nil}
use Prim.Native.Nat.{ℕ, zero, suc, ◌+◌, ◌-◌, ◌/◌, ◌≤◌, ◌<◌}
use native.Mathlib.Omega.{arith}
use native.Mathlib.Numerals.{add-one}
use mir.Syntax.{w64}
use mir.Val.{Fits}
use lib.ListN.{length, get_or, set, take, drop, length-set, length-append, length-drop, drop_of_length-le}
use lib.Dec.{ltb}
use borrow.Author.Tests.{lt-ltb, le-ltb}
use lib.Seq.{take_all, drop-cons, take_at, length-take-le, take-suc-set}
use Rattle.draft.specs.declared.Row.{Row}
use Rattle.sorting.specs.Sorting.{insert_at, spot, inserted, sorted}
use Rattle.key_order.specs.Arranged.{key_rows, Keys, no_key, key, over, arranged, Laid}

-- ---- the rows of the keys

-- i of n keys are noted, and the next is at row `here`
pub record Gathering (row : ℕ → Row) (room n first : ℕ) (i here : ℕ) (rows : List ℕ) : Type 0 where
  pub is : take i rows ++ key_rows row (n - i) here ≡ key_rows row n first
  pub left : Keys row room (n - i) here
  pub within : i ≤ n
  pub long : length rows ≡ n

module _ (row : ℕ → Row) (room : ℕ) where
  pub gather_first : (o : List ℕ) (first : ℕ) → Keys row room (length o) first → Gathering row room (length o) first 0 first o
  gather_first o first k = let q : length o - 0 ≡ length o = omega arith in record { is = rw q; left = rw q k; within = omega arith; long = refl }

  keys_here : {n r : ℕ} → Keys row room n r → 0 < n → r + 1 < room
  keys_here no_key h = absurd (omega arith)
  keys_here (key l k) h = l

  keys_behind : {n m r : ℕ} → Keys row room n r → n ≡ suc m → Keys row room m (row (r + 1)).end
  keys_behind no_key h = absurd (omega arith)
  keys_behind {m = m} (key {n} l k) h = let q : n ≡ m = omega arith in rw q at k

  keys_next : (m r : ℕ) → key_rows row (suc m) r ≡ r ∷ key_rows row m (row (r + 1)).end
  unfolding key_rows
  keys_next m r = refl

  module _ {n first i here : ℕ} {rows : List ℕ} (g : Gathering row room n first i here rows) where
    module _ (h : i < length rows) where
      pub gather_in : here + 1 < room
      gather_in = keys_here g.left (omega (arith, g.long))

      pub gather_few : room ≤ 4096 → here < 4294967296
      gather_few l = omega (arith, gather_in)

      pub gather_fits : room ≤ 4096 → Fits w64 (here + 1)
      gather_fits l = omega (arith, gather_in)

      pub gather_again : {x : Row} → x ≡ row (here + 1) → Gathering row room n first (i + 1) x.end (set rows i here)
      gather_again {x} e =
          let m : n - i ≡ suc (n - (i + 1)) = omega (arith, g.long) in
          let q : take i rows ++ (here ∷ key_rows row (n - (i + 1)) (row (here + 1)).end) ≡ key_rows row n first = rw (m, keys_next (n - (i + 1)) here) at g.is in
          let t : take (i + 1) (set rows i here) ≡ take i rows ++ (here ∷ []) = rw add-one (take-suc-set rows i here h) in
          record {
            is = rw (e, t) (append_assoc (take i rows) (here ∷ []) (key_rows row (n - (i + 1)) (row (here + 1)).end) ∙ q);
            left = rw e (keys_behind g.left m);
            within = omega (arith, g.long);
            long = length-set rows i here ∙ g.long;
          }

    pub gather_done : length rows ≤ i → rows ≡ key_rows row n first
    unfolding key_rows
    gather_done h =
        let z : n - i ≡ 0 = omega (arith, g.long) in
        let t : take i rows ≡ rows = take_all i rows h in
        let q : rows ++ key_rows row 0 here ≡ key_rows row n first = rw (t, z) at g.is in
        sym (append-nil rows) ∙ q

pub ruleset gathering = (gather_first, gather_in, gather_few, gather_fits, gather_again, gather_done)

-- ---- too long, or not

module _ (text : ℕ → List ℕ) where
  -- of the rows, those from i on are left, and as many bytes
  pub record Counting (most : ℕ) (rows : List ℕ) (i left : ℕ) : Type 0 where
    pub is : over text most rows ≡ over text left (drop i rows)
    pub within : i ≤ length rows

  pub count_first : (most : ℕ) (rows : List ℕ) → Counting most rows 0 most
  count_first most rows = record { is = refl; within = omega arith }

  over_one : (left k : ℕ) (ks : List ℕ) → over text left (k ∷ ks) ≡ cond (ltb left (length (text k))) true (over text (left - length (text k)) ks)
  unfolding over
  over_one left k ks = refl

  module _ {most i left : ℕ} {rows : List ℕ} (g : Counting most rows i left) {k : ℕ} {t : List ℕ} (e : k ≡ get_or rows i 0) (f : t ≡ text k) (h : i < length rows) where
    one : over text most rows ≡ cond (ltb left (length t)) true (over text (left - length t) (drop (suc i) rows))
    one = g.is ∙ ap (over text left) (drop-cons rows i 0 h) ∙ over_one left (get_or rows i 0) (drop (suc i) rows) ∙ rw (← e, ← f)

    pub count_over : left < length t → true ≡ over text most rows
    count_over l = sym (one ∙ rw (lt-ltb left (length t) l))

    pub count_again : length t ≤ left → Counting most rows (i + 1) (left - length t)
    count_again l = record { is = one ∙ rw (le-ltb left (length t) l, add-one); within = omega arith }

  pub count_done : {most i left : ℕ} {rows : List ℕ} → Counting most rows i left → length rows ≤ i → false ≡ over text most rows
  unfolding over
  count_done {i = i} {left = left} {rows = rows} g h = sym (g.is ∙ ap (over text left) (drop_of_length-le rows {i = i} h))

pub ruleset counting = (count_first, count_over, count_again, count_done)

-- ---- one alone is in order

module _ (text : ℕ → List ℕ) where
  sorted_few : (ks : List ℕ) → length ks < 2 → sorted text ks ≡ ks
  unfolding sorted inserted spot insert_at
  sorted_few [] h = refl
  sorted_few (k ∷ []) h = refl
  sorted_few (k ∷ j ∷ ks) h = absurd (omega arith)

  arranged_few : (most : ℕ) (ks : List ℕ) → length ks < 2 → arranged text most ks ≡ ks
  unfolding arranged
  arranged_few most ks h = go (over text most ks)
    where
      go : (b : Bool) → cond b ks (sorted text ks) ≡ ks
      go true = refl
      go false = sorted_few ks h

-- ---- at the front

keys_length : (row : ℕ → Row) (n r : ℕ) → length (key_rows row n r) ≡ n
unfolding key_rows
keys_length row zero r = refl
keys_length row (suc n) r = ap suc (keys_length row n (row (r + 1)).end)

module _ (row : ℕ → Row) (n : ℕ) (o : List ℕ) (h : n + n / 2 ≤ length o) where
  lent_length : length (take n o) ≡ n
  lent_length = length-take-le n o (omega arith)

  pub front_keys : {room first : ℕ} → Keys row room n first → Keys row room (length (take n o)) first
  front_keys k = rw lent_length k

  module _ (first : ℕ) {ys : List ℕ} (e : ys ≡ key_rows row (length (take n o)) first) where
    abbrev noted : List ℕ
    noted = ys ++ drop n o

    ys_keys : ys ≡ key_rows row n first
    ys_keys = rw lent_length at e

    ys_length : length ys ≡ n
    ys_length = ap length ys_keys ∙ keys_length row n first

    noted_front : take n noted ≡ ys
    noted_front = take_at ys (drop n o) n ys_length

    pub noted_room : n + n / 2 ≤ length noted
    noted_room = rw (length-append, ys_length, length-drop) (omega arith)

    pub few_so : (text : ℕ → List ℕ) (most : ℕ) → n < 2 → Laid text most (key_rows row n first) n noted
    few_so text most l = let k : length (key_rows row n first) < 2 = rw (keys_length row n first) l in record { is = noted_front ∙ ys_keys ∙ sym (arranged_few text most (key_rows row n first) k) }

    module _ (text : ℕ → List ℕ) (most : ℕ) {b : Bool} (f : b ≡ over text most (take n noted)) where
      is_over : b ≡ over text most (key_rows row n first)
      is_over = f ∙ ap (over text most) (noted_front ∙ ys_keys)

      pub left_so : b ≡ true → Laid text most (key_rows row n first) n noted
      unfolding arranged
      left_so g = record { is = noted_front ∙ ys_keys ∙ rw (← is_over, g) }

      pub put_so : b ≡ false → {w : List ℕ} → take n w ≡ sorted text (take n noted) → Laid text most (key_rows row n first) n w
      unfolding arranged
      put_so g s = record { is = s ∙ rw (noted_front, ys_keys, ← is_over, g) }

pub ruleset fronts = (front_keys, noted_room, few_so, left_so, put_so)
