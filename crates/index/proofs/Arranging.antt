-- What answers the goals of the functions that put a Struct's key rows in order. Assumes nothing.
use mathlib.Core.Path.{◌≡◌, refl, sym, ap, ◌∙◌}
use mathlib.Core.Bool.{Bool, true, false}
use mathlib.Core.List.{List, [], ◌∷◌, ◌++◌, append_assoc, append-nil}
use Prim.Native.Nat.{ℕ, zero, suc, ◌+◌, ◌-◌, ◌≤◌, ◌<◌}
use native.Mathlib.Omega.{arith}
use lib.ListN.{length, set, take, drop, replicate, length-append, length-drop, length-replicate, drop_of_length-le}
use lib.Seq.{take_at, set_at, length-take-le}
use borrow.Author.Tests.{lt-ltb, le-ltb}
use Rattle.draft.specs.declared.Row.{Row}
use Rattle.draft.specs.Table.{room_of, row_at}
use Rattle.draft.specs.Writable.{writable}
use Rattle.member.specs.declared.Member.{Member}
use Rattle.member.specs.Members.{member_of, members_from, is_struct, members}
use Rattle.member.proofs.Counting.{from_none, from_past, from_more}
use Rattle.sorting.specs.Sorting.{key_text, sorted}
use Rattle.sorting.proofs.Inserting.{sorted_length}
use Rattle.index.specs.Filling.{key_rows, padded, Gathered, refusal_in, order_in, Arranged, refusal_of, order_of, Listed}

-- as many key rows as members
pub rows_length : (ms : List Member) → length (key_rows ms) ≡ length ms
unfolding key_rows
rows_length [] = refl
rows_length (m ∷ ms) = ap suc (rows_length ms)

-- ---- the loop over the members

drop_one : (n : ℕ) → drop {A = ℕ} 1 (replicate n 0) ≡ replicate (n - 1) 0
drop_one zero = refl
drop_one (suc n) = let e : suc n - 1 ≡ n = omega arith in rw e refl

-- key rows, and zeros behind them
padded_front : (ks : List ℕ) → take (length ks) (padded ks) ≡ ks
unfolding padded
padded_front ks = take_at ks (replicate (3071 - length ks) 0) (length ks) refl

module _ (ks : List ℕ) (few : length ks ≤ 2047) where
  padded_length : length (padded ks) ≡ 3071
  unfolding padded
  padded_length = simp (length-append, length-replicate) (omega arith)

  -- one more
  padded_more : (k : ℕ) → set (padded ks) (length ks) k ≡ padded (ks ++ (k ∷ []))
  unfolding padded
  padded_more k =
      let e : 3071 - length ks ≡ suc (3070 - length ks) = omega arith in
      let f : 3071 - length (ks ++ (k ∷ [])) ≡ 3070 - length ks = rw length-append (omega arith) in
      rw e (set_at ks 0 (replicate (3070 - length ks) 0) k (length ks) refl ∙ sym (rw (f, append_assoc)))

module _ (row : ℕ → Row) (rows : ℕ) where
  -- c members are noted, and the others are still to come
  pub record Gathering (n first here c : ℕ) (order : List ℕ) : Type 0 where
    pub done : List ℕ
    pub most : length (members_from row rows n first) ≤ 2047
    pub few : c ≤ 2047
    pub count : c ≡ length done
    pub holds : order ≡ padded done
    pub comes : done ++ key_rows (members_from row rows (n - c) here) ≡ key_rows (members_from row rows n first)

  pub gather_first : {n first : ℕ} {order : List ℕ} → length (members_from row rows n first) ≤ 2047 → order ≡ padded [] → Gathering n first first 0 order
  gather_first {n} h e =
      let z : n - 0 ≡ n = omega arith in
      record { done = []; most = h; few = omega arith; count = refl; holds = e; comes = rw z }

  module _ {n first here c : ℕ} {order : List ℕ} (w : Gathering n first here c order) where
    all : c + length (members_from row rows (n - c) here) ≡ length (members_from row rows n first)
    all =
        let e : length w.done + length (key_rows (members_from row rows (n - c) here)) ≡ length (key_rows (members_from row rows n first)) = sym (length-append w.done (key_rows (members_from row rows (n - c) here))) ∙ ap length w.comes in
        omega (arith, e, w.count, rows_length (members_from row rows (n - c) here), rows_length (members_from row rows n first))

    long : length order ≡ 3071
    long = ap length w.holds ∙ padded_length w.done (omega (arith, w.few, w.count))

    pub gather_kept : {order₀ : List ℕ} → order₀ ≡ padded [] → length order ≡ length order₀
    gather_kept e = long ∙ sym (ap length e ∙ padded_length [] (omega arith))

    gathered : key_rows (members_from row rows (n - c) here) ≡ [] → Gathered (key_rows (members_from row rows n first)) c order
    gathered e =
        let f : w.done ≡ key_rows (members_from row rows n first) = sym (append-nil w.done) ∙ rw e at w.comes in
        record { count = w.count ∙ ap length f; room = omega (arith, w.few, long); holds = w.holds ∙ ap padded f }

    pub gather_none : n ≤ c → Gathered (key_rows (members_from row rows n first)) c order
    unfolding key_rows
    gather_none h = gathered (rw (from_none row rows (n - c) here (omega arith)))

    pub gather_past : rows ≤ here + 1 → Gathered (key_rows (members_from row rows n first)) c order
    unfolding key_rows
    gather_past h = gathered (rw (from_past row rows (n - c) here h))

    pub gather_room : c < length order
    gather_room = omega (arith, w.few, long)

    module _ {m : Member} (p : c < n) (h : (here + 1 < rows) × (m ≡ member_of here (here + 1))) where
      more : 0 < n - c
      more = omega arith

      pub gather_again : {next : ℕ} → next ≡ (row m.value).end → Gathering n first next (c + 1) (set order c m.key)
      unfolding key_rows
      gather_again {next} e =
          let d : List ℕ = w.done in
          let z : n - c - 1 ≡ n - (c + 1) = omega arith in
          let q : next ≡ (row (here + 1)).end = rw h.1 at e in
          let k : d ++ (here ∷ key_rows (members_from row rows (n - c - 1) (row (here + 1)).end)) ≡ key_rows (members_from row rows n first) = rw (from_more row rows (n - c) here more h.0) at w.comes in
          rw h.1 (record {
            done = d ++ (here ∷ []);
            most = w.most;
            few = omega (arith, all, w.most, ap length (from_more row rows (n - c) here more h.0));
            count = rw length-append (omega (arith, w.count));
            holds = rw (w.holds, w.count) (padded_more d (omega (arith, w.few, w.count)) here);
            comes = rw (q, ← z, append_assoc) k;
          })

pub ruleset gathering = (gather_first, gather_kept, gather_none, gather_room)

-- ---- put in order

-- zeros again behind key rows that were put in order
pub sort_done :
    (text : ℕ → List ℕ) {ks : List ℕ} {c : ℕ} {order : List ℕ} (w : List ℕ) {z : List ℕ} → Gathered ks c order → take c w ≡ sorted text (take c order) → length w ≡ length order
    → z ≡ replicate (length (take (length w - c) (drop c w))) 0 → take c w ++ (z ++ drop (length w - c) (drop c w)) ≡ padded (sorted text ks)
unfolding padded
sort_done text {ks} {c} {order} w g e l f =
    let u : length (padded ks) ≡ length ks + (3071 - length ks) = simp (length-append, length-replicate) in
    let m : length order ≡ length ks + (3071 - length ks) = ap length g.holds ∙ u in
    let a : take c order ≡ ks = rw (g.holds, g.count) (padded_front ks) in
    let b : drop (length w - c) (drop c w) ≡ [] = drop_of_length-le (drop c w) {i = length w - c} (rw length-drop (omega arith)) in
    let d : length (take (length w - c) (drop c w)) ≡ 3071 - length (sorted text ks) = rw (length-take-le (length w - c) (drop c w) (rw length-drop (omega arith)), sorted_length) (omega (arith, m, l, g.count)) in
    rw (b, append-nil, f, d, e, a)

-- ---- the Struct's row, and the count

module _ (room : ℕ) (row : ℕ → Row) (rows : ℕ) (s : List ℕ) (r n : ℕ) {b : Bool} (e : b ≡ is_struct row rows r) where
  pub arranged_no : {order : List ℕ} → b ≡ false → order ≡ padded [] → Arranged room row rows s r n 18 order
  unfolding order_in refusal_in
  arranged_no f o = record { answers = rw (← e, f); holds = o ∙ rw (← e, f) }

  module _ {c : ℕ} (f : b ≡ true) (i : c ≡ length (members row rows r)) where
    pub arranged_short : {order : List ℕ} → n < c → order ≡ padded [] → Arranged room row rows s r n 21 order
    unfolding order_in refusal_in
    arranged_short h o = let k = lt-ltb n (length (members row rows r)) (rw i at h) in record { answers = rw (← e, f, k); holds = o ∙ rw (← e, f, k) }

    pub arranged_many : {order : List ℕ} → c ≤ n → 2047 < c → order ≡ padded [] → Arranged room row rows s r n 21 order
    unfolding order_in refusal_in
    arranged_many g h o =
        let j = le-ltb n (length (members row rows r)) (rw i at g) in
        let k = lt-ltb 2047 (length (members row rows r)) (rw i at h) in
        record { answers = rw (← e, f, j, k); holds = o ∙ rw (← e, f, j, k) }

    module _ {x : Row} (u : x ≡ row r) where
      its : members row rows r ≡ members_from row rows x.b (r + 1)
      unfolding members
      its = rw (← e, f, u)

      pub few_members : c ≤ 2047 → length (members_from row rows x.b (r + 1)) ≤ 2047
      few_members h = rw (← its, ← i) h

      pub arranged_all : {order : List ℕ} → c ≤ n → c ≤ 2047 → order ≡ padded (sorted (key_text room row s) (key_rows (members_from row rows x.b (r + 1)))) → Arranged room row rows s r n 0 order
      unfolding order_in refusal_in
      arranged_all g h o =
          let j = le-ltb n (length (members row rows r)) (rw i at g) in
          let k = le-ltb 2047 (length (members row rows r)) (rw i at h) in
          record { answers = rw (← e, f, j, k); holds = o ∙ rw (← e, f, j, k, its) }

pub ruleset arranging = (arranged_no, arranged_short, arranged_many, few_members, arranged_all)

-- ---- the table judged

module _ (T : List ℕ) (rows : ℕ) (s : List ℕ) (r n : ℕ) {order : List ℕ} {b : Bool} (e : b ≡ writable T rows s) where
  pub listed_no : b ≡ false → order ≡ padded [] → Listed T rows s r n 11 order
  unfolding refusal_of order_of
  listed_no f o = record { answers = rw (← e, f); holds = o ∙ rw (← e, f) }

  pub listed_so : {room answer : ℕ} → b ≡ true → room ≡ room_of 4096 (length T) → Arranged room (row_at room T) rows s r n answer order → Listed T rows s r n answer order
  unfolding refusal_of order_of
  listed_so f g a = record { answers = a.answers ∙ rw (← e, f, g); holds = a.holds ∙ rw (← e, f, g) }

pub ruleset listing = (listed_no, listed_so)
