-- What answers the returns and turns of the functions that count members, and that look for one by its rows. Assumes nothing.
use mathlib.Core.Path.{◌≡◌, refl, ap, ◌∙◌}
use mathlib.Core.Bool.{Bool, true, false}
use mathlib.Core.List.{[], ◌∷◌}
use Prim.Native.Nat.{ℕ, zero, suc, ◌+◌, ◌-◌, ◌≤◌, ◌<◌}
use native.Mathlib.Omega.{arith}
use lib.ListN.{length}
use borrow.Author.Tests.{le-ltb, lt-ltb}
use Rattle.draft.specs.declared.Row.{Row}
use Rattle.member.specs.declared.Member.{Member}
use Rattle.member.specs.Members.{member_of, members_from, is_struct, members, same_member, is_among}

-- ---- the members that are left: none, or one more and those after it

module _ (row : ℕ → Row) (rows left here : ℕ) where
  pub from_none : left ≤ 0 → members_from row rows left here ≡ []
  unfolding members_from
  from_none h = let z : left ≡ 0 = omega arith in rw z

  pub from_more : 0 < left → here + 1 < rows → members_from row rows left here ≡ member_of here (here + 1) ∷ members_from row rows (left - 1) (row (here + 1)).end
  unfolding members_from
  from_more p h = go left p
    where
      go : (n : ℕ) → 0 < n → members_from row rows n here ≡ member_of here (here + 1) ∷ members_from row rows (n - 1) (row (here + 1)).end
      go zero p = absurd (omega arith)
      go (suc n) p = let e : suc n - 1 ≡ n = omega arith in rw (e, lt-ltb (here + 1) rows h)

pub from_past : (row : ℕ → Row) (rows left here : ℕ) → rows ≤ here + 1 → members_from row rows left here ≡ []
unfolding members_from
from_past row rows zero here h = refl
from_past row rows (suc left) here h = rw (le-ltb (here + 1) rows h)

-- ---- counting

module _ (row : ℕ → Row) (rows : ℕ) where
  -- as many members were passed as there were turns
  pub record Counting (n first i here : ℕ) : Type 0 where
    pub rest : i + length (members_from row rows (n - i) here) ≡ length (members_from row rows n first)

  pub count_all : {n first : ℕ} → Counting n first 0 first
  count_all {n} = let z : n - 0 ≡ n = omega arith in record { rest = rw z (omega arith) }

  module _ {n first i here : ℕ} (l : Counting n first i here) where
    pub count_none : n ≤ i → i ≡ length (members_from row rows n first)
    count_none h = omega (arith, l.rest, ap length (from_none row rows (n - i) here (omega arith)))

    pub count_past : rows ≤ here + 1 → i ≡ length (members_from row rows n first)
    count_past h = omega (arith, l.rest, ap length (from_past row rows (n - i) here h))

    pub count_more : {m : Member} {next : ℕ} → i < n → (here + 1 < rows) × (m ≡ member_of here (here + 1)) → next ≡ (row m.value).end → Counting n first (i + 1) next
    count_more {m} {next} p h g =
        let z : n - i - 1 ≡ n - (i + 1) = omega arith in
        let q : next ≡ (row (here + 1)).end = rw h.1 at g in
        record { rest = rw (q, ← z) (omega (arith, l.rest, ap length (from_more row rows (n - i) here (omega arith) h.0))) }

module _ (row : ℕ → Row) (rows : ℕ) (r : ℕ) {b : Bool} (e : b ≡ is_struct row rows r) where
  pub none_counted : b ≡ false → 0 ≡ length (members row rows r)
  unfolding members
  none_counted f = rw (← e, f)

  pub struct_counted : {x : Row} {c : ℕ} → b ≡ true → x ≡ row r → c ≡ length (members_from row rows x.b (r + 1)) → c ≡ length (members row rows r)
  unfolding members
  struct_counted g i j = j ∙ rw (← e, g, i)

  pub none_among : (m : Member) → b ≡ false → false ≡ is_among m (members row rows r)
  unfolding members is_among
  none_among m f = rw (← e, f)

  pub struct_among : (m : Member) {x : Row} {a : Bool} → b ≡ true → x ≡ row r → a ≡ is_among m (members_from row rows x.b (r + 1)) → a ≡ is_among m (members row rows r)
  unfolding members
  struct_among m g i j = j ∙ rw (← e, g, i)

pub ruleset counting = (none_counted, struct_counted)

-- ---- looking for one by its rows

module _ (row : ℕ → Row) (rows : ℕ) (m : Member) where
  -- after i members, whether it is among those that are left is whether it is among all
  pub record Seeking (n first i here : ℕ) : Type 0 where
    pub rest : is_among m (members_from row rows (n - i) here) ≡ is_among m (members_from row rows n first)

  pub seek_all : {n first : ℕ} → Seeking n first 0 first
  seek_all {n} = let z : n - 0 ≡ n = omega arith in record { rest = rw z }

  module _ {n first i here : ℕ} (l : Seeking n first i here) where
    pub seek_none : n ≤ i → false ≡ is_among m (members_from row rows n first)
    unfolding is_among
    seek_none h = rw (from_none row rows (n - i) here (omega arith)) at l.rest

    pub seek_past : rows ≤ here + 1 → false ≡ is_among m (members_from row rows n first)
    unfolding is_among
    seek_past h = rw (from_past row rows (n - i) here h) at l.rest

    module _ {x : Member} (p : i < n) (h : (here + 1 < rows) × (x ≡ member_of here (here + 1))) where
      more : 0 < n - i
      more = omega arith

      pub seek_found : same_member x m ≡ true → true ≡ is_among m (members_from row rows n first)
      unfolding is_among
      seek_found f = let g : same_member (member_of here (here + 1)) m ≡ true = rw h.1 at f in rw (from_more row rows (n - i) here more h.0, g) at l.rest

      pub seek_more : {next : ℕ} → same_member x m ≡ false → next ≡ (row x.value).end → Seeking n first (i + 1) next
      unfolding is_among
      seek_more {next} f j =
          let g : same_member (member_of here (here + 1)) m ≡ false = rw h.1 at f in
          let z : n - i - 1 ≡ n - (i + 1) = omega arith in
          let q : next ≡ (row (here + 1)).end = rw h.1 at j in
          record { rest = rw (q, ← z) (rw (from_more row rows (n - i) here more h.0, g) at l.rest) }

pub ruleset seeking = (none_among, struct_among)
