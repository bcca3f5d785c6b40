-- Rows that have a meaning answer by it: a value's row, the members of a Struct one by one, and a key looked up in a writable table. Assumes nothing.
use mathlib.Core.Path.{◌≡◌, refl, ap, ◌∙◌}
use mathlib.Core.Bool.{Bool, true, false, cond}
use mathlib.Core.List.{List, [], ◌∷◌, ◌++◌}
use Prim.Native.Nat.{ℕ, zero, suc, ◌+◌, ◌≤◌, ◌<◌}
use native.Mathlib.Omega.{arith}
use native.Mathlib.Numerals.{add-one}
use lib.Dec.{ltb, eqb}
use lib.ListN.{length, length-append}
use borrow.Author.Tests.{lt-ltb, ne_eqb, ltb-true, eqb-true, eqb-false}
use Rattle.std.specs.Prelude.{Some, Err}
use Rattle.text.specs.Texts.{same}
use Rattle.text.proofs.Comparing.{clash, same_is, same_self}
use Rattle.draft.specs.declared.Row.{Row}
use Rattle.draft.specs.declared.Content.TheVariants as content
use Rattle.draft.specs.Bytes.{part}
use Rattle.draft.specs.Rows.{item_of}
use Rattle.draft.specs.Table.{from}
use Rattle.draft.specs.Read.{Texts}
use Rattle.draft.specs.Grammar.{Payload, holding, Cell, cell, Sent, content_cell, struct_cell, Value, integer_value, boolean_value, double_value, datetime_value, binary_value, array_value, struct_value, string_value, other_value, array, struct, Pairs, no_pairs, more_pairs, pair, other, Derives}
use Rattle.draft.specs.Meaning.{says_holding, says_number, says_contents, Means, means, Realises, no_more, and_then}
use Rattle.member.specs.Members.{member_of, members_from, is_struct, members, has_key, find}
use Rattle.lookup_answer.specs.declared.Refusal.TheVariants as why
use Rattle.lookup_answer.specs.Answers.{Answer, answer_at, found_answer, look}
use Rattle.meant.specs.Meant.{Meaning, members_of, Answers, whole_number, yes_or_no, decimal, text, datetime, binary, array as array_answer, struct as struct_answer, other as other_answer, Said, no_member, this_member, later_member, StructAt, Answered, in_struct, no_struct}
use Rattle.meant.proofs.Structs.{kind_at, derived_structs, struct_kind}

module _ (row : ℕ → Row) (s : List ℕ) where
  -- the rows from row r on have the meanings of the cells
  pub data Standing : ℕ → List Cell → Type 0 where
    no_row : {r : ℕ} → Standing r []
    and_row : {r : ℕ} {c : Cell} {cs : List Cell} → Means s r (row r) c → Standing (suc r) cs → Standing r (c ∷ cs)

  pub standing : (n : ℕ) {r : ℕ} {cs : List Cell} → Realises s r (from row r n) cs → Standing r cs
  unfolding from
  standing zero no_more = no_row
  standing (suc n) (and_then m t) = and_row m (standing n t)

  pub first_part : (us vs : List Cell) {r : ℕ} → Standing r (us ++ vs) → Standing r us
  first_part [] vs t = no_row
  first_part (c ∷ us) vs (and_row m t) = and_row m (first_part us vs t)

  pub last_part : (us vs : List Cell) {r : ℕ} → Standing r (us ++ vs) → Standing (r + length us) vs
  last_part [] vs {r} t = let z : r ≡ r + 0 = omega arith in rw z at t
  last_part (c ∷ us) vs {r} (and_row m t) = let z : suc r + length us ≡ r + suc (length us) = omega arith in rw z at (last_part us vs t)

  -- ---- a value's row

  -- a value's first cell says how many come after it
  pub record First (cs : List Cell) : Type 0 where
    pub kind : ℕ
    pub payload : Payload
    pub rest : List Cell
    pub is : cs ≡ cell kind (length rest) payload ∷ rest

  pub value_first : {d : ℕ} {xs : List ℕ} {cs : List Cell} {fs : List Sent} → Value d xs cs fs → First cs
  value_first (integer_value v) = record { kind = 4; payload = _; rest = []; is = refl }
  value_first (boolean_value v) = record { kind = 5; payload = _; rest = []; is = refl }
  value_first (double_value v) = record { kind = 6; payload = _; rest = []; is = refl }
  value_first (datetime_value v) = record { kind = 7; payload = _; rest = []; is = refl }
  value_first (binary_value v) = record { kind = 8; payload = _; rest = []; is = refl }
  value_first (array_value (array {n = n} {cs = cs} l v h)) = record { kind = 9; payload = holding n; rest = cs; is = rw h }
  value_first (struct_value (struct {n = n} {cs = cs} l p h)) = record { kind = 10; payload = holding n; rest = cs; is = rw h }
  value_first (string_value v) = record { kind = 11; payload = _; rest = []; is = refl }
  value_first (other_value (other {t = t} {u = u} n h b e)) =
      record { kind = 12; payload = holding 2; rest = content_cell content.Text t ∷ content_cell content.Binary u ∷ []; is = refl }

  pub value_end : {r : ℕ} {cs : List Cell} → First cs → Standing r cs → (row r).end ≡ r + length cs
  value_end {r} {cs} f t = go (rw f.is at t) ∙ rw f.is (omega arith)
    where
      go : Standing r (cell f.kind (length f.rest) f.payload ∷ f.rest) → (row r).end ≡ r + 1 + length f.rest
      go (and_row (means k e p) t) = e

  value_answers : {d r : ℕ} {xs : List ℕ} {cs : List Cell} {fs : List Sent} → Value d xs cs fs → Standing r cs → Answers s r cs (answer_at row s r)
  unfolding answer_at item_of
  value_answers (integer_value v) (and_row (means k e (says_number h a b)) t) = rw (k, a) whole_number
  value_answers (boolean_value v) (and_row (means k e (says_number h a b)) t) = rw (k, a) yes_or_no
  value_answers (double_value v) (and_row (means k e (says_contents h i j)) t) = rw (k, j) decimal
  value_answers (datetime_value v) (and_row (means k e (says_contents h i j)) t) = rw k datetime
  value_answers (binary_value v) (and_row (means k e (says_contents h i j)) t) = rw k binary
  value_answers (array_value (array l v h)) (and_row (means k e p) t) = rw k array_answer
  value_answers (struct_value (struct l v h)) (and_row (means k e p) t) = rw k struct_answer
  value_answers (string_value v) (and_row (means k e (says_contents h i j)) t) = rw k (text i j)
  value_answers (other_value (other u h b e)) (and_row (means k f p) t) = rw k other_answer

  -- ---- the members, one by one

  pub key_text_lem : {r : ℕ} {t : List ℕ} {cs : List Cell} → Standing r (content_cell content.Text t ∷ cs) → part s (row r).a (row r).b ≡ t
  key_text_lem (and_row (means k e (says_contents h i j)) t) = j

  pub behind : {r : ℕ} {c : Cell} {cs : List Cell} → Standing r (c ∷ cs) → Standing (r + 1) cs
  behind {r} (and_row m t) = rw add-one t

  module _ (rows : ℕ) (key : List ℕ) where
    -- what is found among n members from row r on
    abbrev answer : ℕ → ℕ → Answer
    answer n r = found_answer row s (find row s key (members_from row rows n r))

    one_member : (n r : ℕ) → r + 1 < rows → (b : Bool) → has_key row s key r ≡ b
        → answer (suc n) r ≡ found_answer row s (cond b (Some (member_of r (r + 1))) (find row s key (members_from row rows n (row (r + 1)).end)))
    unfolding members_from find
    one_member n r h b e = rw (lt-ltb (r + 1) rows h, e)

    -- a key and its value, with what is said of the members after them
    pair_said :
        (n : ℕ) {d r : ℕ} {ys k : List ℕ} {cs : List Cell} {fs : List Sent} (vs : List Cell) {ms : List Meaning}
        → Value d ys cs fs
        → Standing r (content_cell content.Text k ∷ (cs ++ vs))
        → r + 1 < rows
        → Said s key (r + 1 + length cs) ms (answer n (r + 1 + length cs))
        → Said s key r (record { key = k; value = cs } ∷ ms) (answer (suc n) r)
    unfolding has_key
    pair_said n {r = r} {k = k} {cs = cs} vs {ms = ms} v t h more = go (same k key) refl
      where
        at_value : Standing (r + 1) cs
        at_value = first_part cs vs (behind t)

        has : (b : Bool) → same k key ≡ b → has_key row s key r ≡ b
        has b e = rw (key_text_lem t, e)

        go : (b : Bool) → same k key ≡ b → Said s key r (record { key = k; value = cs } ∷ ms) (answer (suc n) r)
        go true e = rw (one_member n r h true (has true e)) (this_member (same_is k key e) (value_answers v at_value))
        go false e =
            let other : k ≡ key → ⊥ = λ i. clash (same_self key) (rw i at e) in
            rw (one_member n r h false (has false e), value_end (value_first v) at_value) (later_member other more)

    members_said : {d n r : ℕ} {seen : Texts} {xs : List ℕ} {ws : List Cell} {fs : List Sent} (p : Pairs d seen n xs ws fs) → Standing r ws → r + length ws ≤ rows → Said s key r (members_of p) (answer n r)
    unfolding members_of members_from find
    members_said no_pairs t h = no_member
    members_said {r = r} (more_pairs {n = n} {vs = vs} {ws = ws} (pair {t = k} {cs = cs} string value q) u pairs z w g) t h =
        let stands : Standing r (content_cell content.Text k ∷ (cs ++ vs)) = rw w at t in
        let l : length ws ≡ suc (length cs + length vs) = rw w (ap suc (length-append cs vs)) in
        let c = value_first value in
        let f : length cs ≡ suc (length c.rest) = ap length c.is in
        pair_said n vs value stands (omega arith) (members_said pairs (last_part cs vs (behind stands)) (omega arith))

  -- ---- a key looked up, where the rows from row 0 on have the meanings of the cells, and there are no others

  pub kind_at_lem : {cs : List Cell} {r : ℕ} → Standing r cs → (i : ℕ) → i < length cs → (row (r + i)).kind ≡ kind_at cs i
  unfolding kind_at
  kind_at_lem no_row i h = absurd (omega arith)
  kind_at_lem {r = r} (and_row (means k e p) t) zero h = let z : r + 0 ≡ r = omega arith in rw z k
  kind_at_lem {r = r} (and_row m t) (suc i) h = let z : r + suc i ≡ suc r + i = omega arith in rw z (kind_at_lem t i (omega arith))

  module _ {cells : List Cell} (t : Standing 0 cells) (rows : ℕ) (l : length cells ≡ rows) (key : List ℕ) where
    pub struct_said : {r : ℕ} (st : StructAt cells r) → Said s key (r + 1) (members_of st.pairs) (look row rows s r key)
    unfolding look members is_struct
    struct_said {r} st = go (rw (z, st.place) at (last_part st.before _ (rw st.is at t)))
      where
        z : 0 + length st.before ≡ length st.before
        z = omega arith

        total : length cells ≡ r + suc (length st.ws + length st.after)
        total =
            rw (st.is, ← st.place)
            (length-append st.before (struct_cell st.n (length st.ws) ∷ (st.ws ++ st.after))
            ∙ ap (λ (k : ℕ). length st.before + suc k) (length-append st.ws st.after))

        go : Standing r (struct_cell st.n (length st.ws) ∷ (st.ws ++ st.after)) → Said s key (r + 1) (members_of st.pairs) (look row rows s r key)
        go (and_row (means k e (says_holding h i a b)) u) =
            rw (lt-ltb r rows (omega (arith, total)), k, b)
            (members_said rows key st.pairs (first_part st.ws st.after (rw add-one u)) (omega (arith, total)))

    pub no_struct_said : (r : ℕ) → (kind_at cells r ≡ 10 → ⊥) → look row rows s r key ≡ Err why.NoMember
    unfolding look members is_struct find
    no_struct_said r n = go (ltb r rows) refl
      where
        go : (b : Bool) → ltb r rows ≡ b → look row rows s r key ≡ Err why.NoMember
        go false h = rw h
        go true h =
            let f : r < length cells = omega (arith, ltb-true r rows h) in
            let z : 0 + r ≡ r = omega arith in
            let k : (row r).kind ≡ kind_at cells r = rw z at (kind_at_lem t r f) in
            rw (h, k, ne_eqb (kind_at cells r) 10 n)

    pub answered : {d : ℕ} {xs : List ℕ} → Derives d xs cells → (r : ℕ) → Answered s cells r key (look row rows s r key)
    answered g r = go (eqb (kind_at cells r) 10) refl
      where
        go : (b : Bool) → eqb (kind_at cells r) 10 ≡ b → Answered s cells r key (look row rows s r key)
        go true e = let st = derived_structs g r (eqb-true (kind_at cells r) 10 e) in in_struct st (struct_said st)
        go false e =
            let n : kind_at cells r ≡ 10 → ⊥ = eqb-false (kind_at cells r) 10 e in
            no_struct (λ st. n (struct_kind st)) (no_struct_said r n)
