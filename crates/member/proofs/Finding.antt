-- What answers the returns and turns of the functions that look for a member. Assumes nothing.
use mathlib.Core.Path.{◌≡◌, refl, sym, ◌∙◌}
use mathlib.Core.Bool.{Bool, true, false, cond, ◌&&◌}
use mathlib.Core.List.{List, [], ◌∷◌}
use Prim.Native.Nat.{ℕ, zero, suc, ◌+◌, ◌-◌, ◌≤◌, ◌<◌}
use native.Mathlib.Omega.{arith}
use native.Mathlib.Numerals.{unary_clauses}
use lib.Dec.{ltb, eqb}
use mir.Syntax.{w64}
use mir.Val.{Fits}
use borrow.Author.Tests.{le-ltb, lt-ltb, ltb-true, ltb-false}
use Rattle.std.specs.Prelude.{Option, Some, None}
use Rattle.text.specs.Texts.{same}
use Rattle.text.proofs.Comparing.{clash}
use Rattle.draft.specs.declared.Row.{Row}
use Rattle.draft.specs.Bytes.{part}
use Rattle.member.specs.declared.Member.{Member}
use Rattle.member.specs.Members.{member_of, member_in, members_from, is_struct, members, has_key, find}

-- ---- one row, x as it was fetched

pub end_is : {x y : Row} → x ≡ y → x.end ≡ y.end
end_is e = rw e

pub key_is : (row : ℕ → Row) (s key : List ℕ) (r : ℕ) {x : Row} {t : List ℕ} {b : Bool} → x ≡ row r → t ≡ part s x.a x.b → b ≡ same t key → b ≡ has_key row s key r
unfolding has_key
key_is row s key r e i j = j ∙ rw (i, e)

module _ (row : ℕ → Row) (rows r : ℕ) where
  pub struct_past : rows ≤ r → false ≡ is_struct row rows r
  unfolding is_struct
  struct_past h = rw (le-ltb r rows h)

  pub struct_is : {x : Row} → r < rows → x ≡ row r → eqb x.kind 10 ≡ is_struct row rows r
  unfolding is_struct
  struct_is h e = rw (lt-ltb r rows h, e)

pub ruleset looking = (end_is, key_is, struct_past, struct_is)

-- ---- the member whose key would be a row

module _ (rows r : ℕ) {o : Option Member} (e : o ≡ member_in rows r) where
  pub no_member : o ≡ None → rows ≤ r + 1
  no_member f = go (ltb (r + 1) rows) refl (sym e ∙ f)
    where
      go : (b : Bool) → ltb (r + 1) rows ≡ b → cond b (Some (member_of r (r + 1))) None ≡ None → rows ≤ r + 1
      go true h g = absurd (cc)
      go false h g = ltb-false (r + 1) rows h

  pub a_member : {m : Member} → o ≡ Some m → (r + 1 < rows) × (m ≡ member_of r (r + 1))
  a_member {m} f = go (ltb (r + 1) rows) refl (sym e ∙ f)
    where
      go : (b : Bool) → ltb (r + 1) rows ≡ b → cond b (Some (member_of r (r + 1))) None ≡ Some m → (r + 1 < rows) × (m ≡ member_of r (r + 1))
      go true h g = (ltb-true (r + 1) rows h, cc)
      go false h g = absurd (cc)

-- ---- a walk from key to key

module _ (row : ℕ → Row) (rows : ℕ) (s key : List ℕ) where
  -- after i members, what is found among those that are left is what is found among all
  pub record Left (n first i here : ℕ) : Type 0 where
    pub rest : find row s key (members_from row rows (n - i) here) ≡ find row s key (members_from row rows n first)

  pub left_all : {n first : ℕ} → Left n first 0 first
  left_all {n} = let z : n - 0 ≡ n = omega arith in record { rest = rw z }

  -- one member more, and those after it
  ahead : (left here : ℕ) → 0 < left → members_from row rows left here ≡ cond (ltb (here + 1) rows) (member_of here (here + 1) ∷ members_from row rows (left - 1) (row (here + 1)).end) []
  unfolding members_from
  ahead zero here h = absurd (omega arith)
  ahead (suc left) here h = simp unary_clauses

  module _ {n first i here : ℕ} (l : Left n first i here) where
    pub left_none : n ≤ i → None ≡ find row s key (members_from row rows n first)
    unfolding members_from find
    left_none h = let z : n - i ≡ 0 = omega arith in rw z at l.rest

    module _ (p : i < n) where
      more : 0 < n - i
      more = omega arith

      pub left_past : rows ≤ here + 1 → None ≡ find row s key (members_from row rows n first)
      unfolding find
      left_past h = sym (sym l.rest ∙ rw (ahead (n - i) here more, le-ltb (here + 1) rows h))

      module _ {b : Bool} {m : Member} (h : (here + 1 < rows) × (m ≡ member_of here (here + 1))) (e : b ≡ has_key row s key here) where
        pub left_found : b ≡ true → Some m ≡ find row s key (members_from row rows n first)
        unfolding find
        left_found f = sym (sym l.rest ∙ rw (ahead (n - i) here more, lt-ltb (here + 1) rows h.0, ← e, f, h.1))

        pub left_more : {next : ℕ} → b ≡ false → next ≡ (row m.value).end → Left n first (i + 1) next
        unfolding find
        left_more {next} f g =
            let z : n - i - 1 ≡ n - (i + 1) = omega arith in
            let q : next ≡ (row (here + 1)).end = rw h.1 at g in
            record { rest = sym (rw (ahead (n - i) here more, lt-ltb (here + 1) rows h.0, ← e, f, ← q, z) at (sym l.rest)) }

-- ---- from the Struct's row

module _ (row : ℕ → Row) (rows : ℕ) (s key : List ℕ) (r : ℕ) {b : Bool} (e : b ≡ is_struct row rows r) where
  pub no_struct : b ≡ false → None ≡ find row s key (members row rows r)
  unfolding members find
  no_struct f = rw (← e, f)

  pub in_struct : {x : Row} {f : Option Member} → b ≡ true → x ≡ row r → f ≡ find row s key (members_from row rows x.b (r + 1)) → f ≡ find row s key (members row rows r)
  unfolding members
  in_struct g i j = j ∙ rw (← e, g, i)

-- a Struct's row is among the stated ones
struct_inside : (row : ℕ → Row) (rows r : ℕ) {b : Bool} → b ≡ is_struct row rows r → b ≡ true → r < rows
unfolding is_struct
struct_inside row rows r e f = go (ltb r rows) refl (sym e ∙ f)
  where
    go : (c : Bool) → ltb r rows ≡ c → (c && eqb (row r).kind 10) ≡ true → r < rows
    go true h g = ltb-true r rows h
    go false h g = clash g refl

module _ (row : ℕ → Row) (rows r : ℕ) {b : Bool} (e : b ≡ is_struct row rows r) (f : b ≡ true) where
  pub struct_in_room : {room : ℕ} → rows ≤ room → r < room
  struct_in_room h = omega (arith, struct_inside row rows r e f)

  pub struct_next : {room : ℕ} → rows ≤ room → room ≤ 4096 → Fits w64 (r + 1)
  struct_next h k = record { fits = omega (arith, struct_inside row rows r e f) }

pub ruleset entering = (no_struct, in_struct, struct_in_room, struct_next)

-- ---- what is found is among the stated rows

module _ (row : ℕ → Row) (rows : ℕ) (s key : List ℕ) where
  from_inside : (n r : ℕ) {m : Member} → find row s key (members_from row rows n r) ≡ Some m → m.value < rows
  unfolding members_from find
  from_inside zero r e = let z : ◌≡◌ {A = ℕ} 0 1 = cc in absurd (omega arith)
  from_inside (suc n) r {m} e = go (ltb (r + 1) rows) refl (has_key row s key r) refl (λ i. from_inside n (row (r + 1)).end i)
    where
      go : (b : Bool) → ltb (r + 1) rows ≡ b → (c : Bool) → has_key row s key r ≡ c
          → (find row s key (members_from row rows n (row (r + 1)).end) ≡ Some m → m.value < rows) → m.value < rows
      go false h c k more = let i : None ≡ Some m = rw h at e in let z : ◌≡◌ {A = ℕ} 0 1 = cc in absurd (omega arith)
      go true h true k more = let i : Some (member_of r (r + 1)) ≡ Some m = rw (h, k) at e in let j : member_of r (r + 1) ≡ m = cc in rw (← j) (ltb-true (r + 1) rows h)
      go true h false k more = more (rw (h, k) at e)

  in_members : (r : ℕ) {m : Member} → find row s key (members row rows r) ≡ Some m → m.value < rows
  unfolding members find
  in_members r {m} e = go (is_struct row rows r) refl
    where
      go : (b : Bool) → is_struct row rows r ≡ b → m.value < rows
      go true h = from_inside (row r).b (r + 1) (rw h at e)
      go false h = let i : None ≡ Some m = rw h at e in let z : ◌≡◌ {A = ℕ} 0 1 = cc in absurd (omega arith)

  pub found_inside : (r : ℕ) {f : Option Member} {m : Member} {room : ℕ} → f ≡ find row s key (members row rows r) → f ≡ Some m → rows ≤ room → m.value < room
  found_inside r e g h = omega (arith, in_members r (sym e ∙ g))
