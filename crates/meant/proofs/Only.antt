-- The members of a Struct, by rows that have a meaning which the draft derives, have distinct keys, so one that has a key is the one found; they
-- stand one behind the other, and their values are of the kinds that values have. Assumes nothing.
use mathlib.Core.Path.{◌≡◌, refl, sym, ap, ◌∙◌}
use mathlib.Core.Bool.{Bool, true, false, cond, ◌&&◌, ◌||◌}
use mathlib.Core.List.{List, [], ◌∷◌, ◌++◌}
use Prim.Native.Nat.{ℕ, suc, ◌+◌, ◌≤◌, ◌<◌}
use native.Mathlib.Omega.{arith}
use native.Mathlib.Numerals.{add-one}
use lib.Dec.{ltb, eqb}
use lib.ListN.{length, get_or, length-append}
use borrow.Author.Tests.{lt-ltb, ltb-true, eqb-true}
use Rattle.std.specs.Prelude.{Some}
use Rattle.text.proofs.Comparing.{clash, same_is}
use Rattle.draft.specs.declared.Row.{Row}
use Rattle.draft.specs.declared.Content.TheVariants as content
use Rattle.draft.specs.Read.{Texts, text_of}
use Rattle.draft.specs.Grammar.{Cell, Sent, content_cell, struct_cell, Value, integer_value, boolean_value, double_value, datetime_value, binary_value, array_value, struct_value, string_value, other_value, array, struct, other, Pairs, no_pairs, more_pairs, pair, Derives}
use Rattle.draft.specs.Meaning.{says_holding, means}
use Rattle.exact.proofs.Keys.{Distinct, Fresh, no_key, new_key, fresh_distinct}
use Rattle.member.specs.declared.Member.{Member}
use Rattle.member.specs.Members.{member_of, members_from, is_struct, members, keys_of, has_key, find, same_member, is_among}
use Rattle.member.proofs.Apart.{Apart, none_apart, and_apart, apart_from}
use Rattle.meant.specs.Meant.{StructAt}
use Rattle.meant.proofs.Structs.{kind_at, derived_structs}
use Rattle.meant.proofs.Saying.{Standing, and_row, first_part, last_part, value_first, value_end, key_text_lem, behind, kind_at_lem}

-- the kinds that values have
pub data ValueKind : ℕ → Type 0 where
  integer_kind : ValueKind 4
  boolean_kind : ValueKind 5
  double_kind : ValueKind 6
  datetime_kind : ValueKind 7
  binary_kind : ValueKind 8
  array_kind : ValueKind 9
  struct_kind : ValueKind 10
  string_kind : ValueKind 11
  other_kind : ValueKind 12

module _ (row : ℕ → Row) (s : List ℕ) where
  members_fresh :
      (rows : ℕ) {d n r : ℕ} {seen : Texts} {xs : List ℕ} {ws : List Cell} {fs : List Sent} → Pairs d seen n xs ws fs → Standing row s r ws → r + length ws ≤ rows
      → Fresh seen (keys_of row s (members_from row rows n r))
  unfolding keys_of members_from
  members_fresh rows no_pairs t h = no_key
  members_fresh rows {r = r} (more_pairs {n = n} {vs = vs} {ws = ws} (pair {t = k} {cs = cs} string value q) u pairs z w g) t h =
      let stands : Standing row s r (content_cell content.Text k ∷ (cs ++ vs)) = rw w at t in
      let l : length ws ≡ suc (length cs + length vs) = rw w (ap suc (length-append cs vs)) in
      let c = value_first row s value in
      let f : length cs ≡ suc (length c.rest) = ap length c.is in
      rw (lt-ltb (r + 1) rows (omega arith), key_text_lem row s stands, value_end row s c (first_part row s cs vs (behind row s stands)))
      (new_key u (members_fresh rows pairs (last_part row s cs vs (behind row s stands)) (omega arith)))

  none_distinct : Distinct (keys_of row s [])
  unfolding keys_of
  none_distinct i j h k e = omega arith

  members_apart :
      (rows : ℕ) {d n r : ℕ} {seen : Texts} {xs : List ℕ} {ws : List Cell} {fs : List Sent} → Pairs d seen n xs ws fs → Standing row s r ws → r + length ws ≤ rows
      → Apart rows r (members_from row rows n r)
  unfolding members_from
  members_apart rows no_pairs t h = none_apart
  members_apart rows {r = r} (more_pairs {n = n} {vs = vs} {ws = ws} (pair {t = k} {cs = cs} string value q) u pairs z w g) t h =
      let stands : Standing row s r (content_cell content.Text k ∷ (cs ++ vs)) = rw w at t in
      let l : length ws ≡ suc (length cs + length vs) = rw w (ap suc (length-append cs vs)) in
      let c = value_first row s value in
      let f : length cs ≡ suc (length c.rest) = ap length c.is in
      rw (lt-ltb (r + 1) rows (omega arith), value_end row s c (first_part row s cs vs (behind row s stands)))
      (and_apart {r = r} r _ (omega arith) (omega arith) (apart_from (omega arith) (members_apart rows pairs (last_part row s cs vs (behind row s stands)) (omega arith))))

  value_kind : {d r : ℕ} {xs : List ℕ} {cs : List Cell} {fs : List Sent} → Value d xs cs fs → Standing row s r cs → ValueKind (row r).kind
  value_kind (integer_value v) (and_row (means k e p) t) = rw k integer_kind
  value_kind (boolean_value v) (and_row (means k e p) t) = rw k boolean_kind
  value_kind (double_value v) (and_row (means k e p) t) = rw k double_kind
  value_kind (datetime_value v) (and_row (means k e p) t) = rw k datetime_kind
  value_kind (binary_value v) (and_row (means k e p) t) = rw k binary_kind
  value_kind (array_value (array l v h)) (and_row (means k e p) t) = rw k array_kind
  value_kind (struct_value (struct l v h)) (and_row (means k e p) t) = rw k struct_kind
  value_kind (string_value v) (and_row (means k e p) t) = rw k string_kind
  value_kind (other_value (other u h b e)) (and_row (means k f p) t) = rw k other_kind

  -- each member's value has one
  abbrev pub Valued : List Member → Type 0
  Valued ms = (m : Member) → is_among m ms ≡ true → ValueKind (row m.value).kind

  none_valued : Valued []
  unfolding is_among
  none_valued m e = clash e refl

  one_valued : (r : ℕ) (ms : List Member) → ValueKind (row (r + 1)).kind → Valued ms → Valued (member_of r (r + 1) ∷ ms)
  unfolding is_among same_member
  one_valued r ms k more m = go (eqb r m.key) (eqb (r + 1) m.value) refl
    where
      go : (b c : Bool) → eqb (r + 1) m.value ≡ c → ((b && c) || is_among m ms) ≡ true → ValueKind (row m.value).kind
      go true true e h = rw (eqb-true (r + 1) m.value e) at k
      go true false e h = more m h
      go false c e h = more m h

  members_valued_from :
      (rows : ℕ) {d n r : ℕ} {seen : Texts} {xs : List ℕ} {ws : List Cell} {fs : List Sent} → Pairs d seen n xs ws fs → Standing row s r ws → r + length ws ≤ rows
      → Valued (members_from row rows n r)
  unfolding members_from is_among
  members_valued_from rows no_pairs t h = none_valued
  members_valued_from rows {r = r} (more_pairs {n = n} {vs = vs} {ws = ws} (pair {t = k} {cs = cs} string value q) u pairs z w g) t h =
      let stands : Standing row s r (content_cell content.Text k ∷ (cs ++ vs)) = rw w at t in
      let l : length ws ≡ suc (length cs + length vs) = rw w (ap suc (length-append cs vs)) in
      let c = value_first row s value in
      let f : length cs ≡ suc (length c.rest) = ap length c.is in
      let first : Standing row s (r + 1) cs = first_part row s cs vs (behind row s stands) in
      rw (lt-ltb (r + 1) rows (omega arith), value_end row s c first)
      (one_valued r (members_from row rows n (r + 1 + length cs)) (value_kind value first) (members_valued_from rows pairs (last_part row s cs vs (behind row s stands)) (omega arith)))

  module _ {cells : List Cell} (t : Standing row s 0 cells) (rows : ℕ) (l : length cells ≡ rows) where
    -- what holds of the members that any pairs derive, and of none, holds of those of any row
    module _
        (P : ℕ → List Member → Type 0) (no-members : (r : ℕ) → P r [])
        (of-pairs :
        (d n r : ℕ) (xs : List ℕ) (ws : List Cell) (fs : List Sent) → Pairs d [] n xs ws fs → Standing row s r ws → r + length ws ≤ rows
        → P r (members_from row rows n r))
      where
        of_struct : {r : ℕ} → StructAt cells r → P (r + 1) (members_from row rows (row r).b (r + 1))
        of_struct {r} st = go (rw (z, st.place) at (last_part row s st.before _ (rw st.is at t)))
          where
            z : 0 + length st.before ≡ length st.before
            z = omega arith

            total : length cells ≡ r + suc (length st.ws + length st.after)
            total =
                rw (st.is, ← st.place)
                (length-append st.before (struct_cell st.n (length st.ws) ∷ (st.ws ++ st.after))
                ∙ ap (λ (k : ℕ). length st.before + suc k) (length-append st.ws st.after))

            go : Standing row s r (struct_cell st.n (length st.ws) ∷ (st.ws ++ st.after)) → P (r + 1) (members_from row rows (row r).b (r + 1))
            go (and_row (means k e (says_holding h i a b)) u) =
                rw b (of-pairs st.d st.n (r + 1) st.xs st.ws st.fs st.pairs (first_part row s st.ws st.after (rw add-one u)) (omega (arith, total)))

        of_row : {d : ℕ} {xs : List ℕ} → Derives d xs cells → (r : ℕ) → P (r + 1) (members row rows r)
        unfolding members is_struct
        of_row g r = go (ltb r rows) refl (eqb (row r).kind 10) refl
          where
            go : (b : Bool) → ltb r rows ≡ b → (c : Bool) → eqb (row r).kind 10 ≡ c → P (r + 1) (cond (b && c) (members_from row rows (row r).b (r + 1)) [])
            go false e c f = no-members (r + 1)
            go true e false f = no-members (r + 1)
            go true e true f =
                let k : r < length cells = omega (arith, ltb-true r rows e) in
                let z : 0 + r ≡ r = omega arith in
                let m : kind_at cells r ≡ 10 = sym (rw z at (kind_at_lem row s t r k)) ∙ eqb-true (row r).kind 10 f in
                of_struct (derived_structs g r m)

    -- THE KEYS of a Struct's members, whichever row is asked for
    pub members_distinct : {d : ℕ} {xs : List ℕ} → Derives d xs cells → (r : ℕ) → Distinct (keys_of row s (members row rows r))
    members_distinct g r = of_row (λ (q : ℕ) (ms : List Member). Distinct (keys_of row s ms)) (λ q. none_distinct) (λ d n q xs ws fs p u h. fresh_distinct (members_fresh rows p u h)) g r

    -- THE ROWS of a Struct's members stand one behind the other, behind its own
    pub members_stand : {d : ℕ} {xs : List ℕ} → Derives d xs cells → (r : ℕ) → Apart rows (r + 1) (members row rows r)
    members_stand g r = of_row (λ (q : ℕ) (ms : List Member). Apart rows q ms) (λ q. none_apart) (λ d n q xs ws fs p u h. members_apart rows p u h) g r

    -- THE VALUES of a Struct's members are of the kinds that values have
    pub members_valued : {d : ℕ} {xs : List ℕ} → Derives d xs cells → (r : ℕ) → Valued (members row rows r)
    members_valued g r = of_row (λ (q : ℕ) (ms : List Member). Valued ms) (λ q. none_valued) (λ d n q xs ws fs p u h. members_valued_from rows p u h) g r

  -- ---- one found

  key_at_lem : (ms : List Member) (m : Member) (ns : List Member) → get_or (keys_of row s (ms ++ (m ∷ ns))) (length ms) [] ≡ text_of s (row m.key)
  unfolding keys_of
  key_at_lem [] m ns = refl
  key_at_lem (x ∷ ms) m ns = key_at_lem ms m ns

  key_in : (ms : List Member) (m : Member) (ns : List Member) → length ms < length (keys_of row s (ms ++ (m ∷ ns)))
  unfolding keys_of
  key_in [] m ns = omega arith
  key_in (x ∷ ms) m ns = let h = key_in ms m ns in omega arith

  module _ (key : List ℕ) where
    -- the text of a member's key
    has_text : (m : Member) → has_key row s key m.key ≡ true → text_of s (row m.key) ≡ key
    unfolding has_key
    has_text m e = same_is _ key e

    pub found_only :
        (ms : List Member) (m : Member) (ns : List Member) → Distinct (keys_of row s (ms ++ (m ∷ ns))) → has_key row s key m.key ≡ true
        → find row s key (ms ++ (m ∷ ns)) ≡ Some m
    unfolding find keys_of
    found_only [] m ns d e = rw e
    found_only (x ∷ ms) m ns d e = go (has_key row s key x.key) refl (found_only ms m ns (λ i j h k. d (suc i) (suc j) (omega arith) (omega arith)) e)
      where
        go : (b : Bool) → has_key row s key x.key ≡ b → find row s key (ms ++ (m ∷ ns)) ≡ Some m → cond b (Some x) (find row s key (ms ++ (m ∷ ns))) ≡ Some m
        go true f g =
            let k = key_in ms m ns in
            absurd (d 0 (suc (length ms)) (omega arith) (omega arith) (has_text x f ∙ sym (has_text m e) ∙ sym (key_at_lem ms m ns)))
        go false f g = g
