-- Rows that mean what the draft derives: the text of a Double's or DateTime's row is such a text, and a fault's Struct holds its two members. And what a
-- message says that has one of these wrong: 5, 17 and 14, at their places. Assumes nothing.
use mathlib.Core.Path.{◌≡◌, refl, sym, ◌∙◌}
use mathlib.Core.Bool.{Bool, true, false}
use mathlib.Core.List.{List, [], ◌∷◌, ◌++◌}
use Prim.Native.Nat.{ℕ, zero, suc, ◌+◌, ◌-◌, ◌≤◌, ◌<◌}
use Prim.Native.Char.{code}
use native.Mathlib.Omega.{arith}
use lib.Dec.{eqb}
use lib.ListN.{length, length-append}
use lib.Seq.{take-append_seam}
use borrow.Author.Tests.{lt-ltb, le-leb, eqb-true, eqb-false}
use Rattle.lexical.specs.Grammar.{Double, DateTime}
use Rattle.draft.specs.declared.Refusal.TheVariants.{BadFault}
use Rattle.std.specs.Prelude.{Ok, Err}
use Rattle.draft.specs.declared.Content.{Content}
use Rattle.draft.specs.declared.Content.TheVariants as content
use Rattle.draft.specs.declared.Row.{Row}
use Rattle.draft.specs.Bytes.{bytes}
use Rattle.draft.specs.Rows.{below, kind_of}
use Rattle.draft.specs.Content.{content_rule, fine_if, verdict, Held, is_fault, fault_rule}
use Rattle.draft.specs.Codebook.{clear}
use Rattle.draft.specs.Table.{from}
use Rattle.draft.specs.Read.{refused, judged, over, leaf, text_of, held_rows, tag_of, item, short_item, contents as read-contents, nested, fault_struct, call_or_response, agree, message}
use Rattle.draft.specs.Grammar.{Cell, cell, holding, number, contents, held_cells, Sent, Keeps, Message, call_message, response_message, call, value_response, fault_response, fault, Value, integer_value, boolean_value, double_value, datetime_value, binary_value, array_value, struct_value, string_value, other_value, double, datetime, Array, array, Values, no_values, more_values, Struct, struct, Pairs, no_pairs, more_pairs, Pair, pair, other, Legal, Derives}
use Rattle.draft.specs.Meaning.{Means, says_holding, says_number, says_contents, means, Realises, and_then}
use Rattle.exact.proofs.Standing.{Here}
use Rattle.exact.proofs.Replaying.{agrees_clear}
use Rattle.exact.proofs.Realising.{counts, held_same, held_below}
use Rattle.exact.proofs.Completing.{value_is, only_read, struct_begins, struct_read}
use Rattle.demands_reading.specs.Members.{TwoMembers}
use Rattle.demands_reading.proofs.Reading.{two_members, text_is_double, text_is_datetime}

-- a cell of kind 6 or 7 has content that keeps its rule
abbrev Kept : Cell → Type 0
Kept (cell kind m (holding n)) = (kind ≡ 6 → ⊥) × (kind ≡ 7 → ⊥)
Kept (cell kind m (number n)) = (kind ≡ 6 → ⊥) × (kind ≡ 7 → ⊥)
Kept (cell kind m (contents t)) = (kind ≡ 6 → Keeps content.Double t) × (kind ≡ 7 → Keeps content.DateTime t)

data All : List Cell → Type 0 where
  all_none : All []
  all_and : {c : Cell} {cs : List Cell} → Kept c → All cs → All (c ∷ cs)

all_append : {us vs ws : List Cell} → All us → All vs → ws ≡ us ++ vs → All ws
all_append {vs = vs} all_none q e = rw e q
all_append {vs = vs} (all_and {cs = cs} k p) q e = rw e (all_and k (all_append {ws = cs ++ vs} p q refl))

-- a cell of another kind
holding_kept : {kind m n : ℕ} {cs : List Cell} → (kind ≡ 6 → ⊥) → (kind ≡ 7 → ⊥) → All cs → All (cell kind m (holding n) ∷ cs)
holding_kept {kind} {m} {n} f g p = all_and {c = cell kind m (holding n)} (f, g) p

number_kept : {kind m n : ℕ} → (kind ≡ 6 → ⊥) → (kind ≡ 7 → ⊥) → All (cell kind m (number n) ∷ [])
number_kept {kind} {m} {n} f g = all_and {c = cell kind m (number n)} (f, g) all_none

content_kept : {kind m : ℕ} {t : List ℕ} {cs : List Cell} → (kind ≡ 6 → ⊥) → (kind ≡ 7 → ⊥) → All cs → All (cell kind m (contents t) ∷ cs)
content_kept {kind} {m} {t} f g p = all_and {c = cell kind m (contents t)} (λ e. absurd (f e), λ e. absurd (g e)) p

mutual
  value_kept : {d : ℕ} {xs : List ℕ} {cs : List Cell} {fs : List Sent} → Value d xs cs fs → All cs
  value_kept (integer_value x) = number_kept (λ e. omega (arith, e)) (λ e. omega (arith, e))
  value_kept (boolean_value x) = number_kept (λ e. omega (arith, e)) (λ e. omega (arith, e))
  value_kept (double_value (double {t = t} n k)) = all_and {c = cell 6 0 (contents t)} (λ e. k, λ e. absurd (omega (arith, e))) all_none
  value_kept (datetime_value (datetime {t = t} n k)) = all_and {c = cell 7 0 (contents t)} (λ e. absurd (omega (arith, e)), λ e. k) all_none
  value_kept (binary_value x) = content_kept (λ e. omega (arith, e)) (λ e. omega (arith, e)) all_none
  value_kept (array_value x) = array_kept x
  value_kept (struct_value x) = struct_kept x
  value_kept (string_value x) = content_kept (λ e. omega (arith, e)) (λ e. omega (arith, e)) all_none
  value_kept (other_value (other x k y e)) =
      holding_kept (λ e. omega (arith, e)) (λ e. omega (arith, e))
      (content_kept (λ e. omega (arith, e)) (λ e. omega (arith, e)) (content_kept (λ e. omega (arith, e)) (λ e. omega (arith, e)) all_none))

  array_kept : {d : ℕ} {xs : List ℕ} {cs : List Cell} {fs : List Sent} → Array d xs cs fs → All cs
  array_kept (array e vs m) = holding_kept (λ e. omega (arith, e)) (λ e. omega (arith, e)) (values_kept vs)

  values_kept : {d n : ℕ} {xs : List ℕ} {cs : List Cell} {fs : List Sent} → Values d n xs cs fs → All cs
  values_kept no_values = all_none
  values_kept (more_values v vs e f g) = all_append (value_kept v) (values_kept vs) f

  struct_kept : {d : ℕ} {xs : List ℕ} {cs : List Cell} {fs : List Sent} → Struct d xs cs fs → All cs
  struct_kept (struct e ps m) = holding_kept (λ e. omega (arith, e)) (λ e. omega (arith, e)) (pairs_kept ps)

  pairs_kept : {d n : ℕ} {seen : List (List ℕ)} {xs : List ℕ} {cs : List Cell} {fs : List Sent} → Pairs d seen n xs cs fs → All cs
  pairs_kept no_pairs = all_none
  pairs_kept (more_pairs p k ps e f g) = all_append (pair_kept p) (pairs_kept ps) f

  pair_kept : {d : ℕ} {t xs : List ℕ} {cs : List Cell} {fs : List Sent} → Pair d t xs cs fs → All cs
  pair_kept (pair x v z) = content_kept (λ e. omega (arith, e)) (λ e. omega (arith, e)) (value_kept v)

message_kept : {d : ℕ} {xs : List ℕ} {cs : List Cell} {fs : List Sent} → Message d xs cs fs → All cs
message_kept (call_message (call x y e m) z) =
    holding_kept (λ e. omega (arith, e)) (λ e. omega (arith, e)) (content_kept (λ e. omega (arith, e)) (λ e. omega (arith, e)) (array_kept y))
message_kept (response_message (value_response v m) z) = holding_kept (λ e. omega (arith, e)) (λ e. omega (arith, e)) (value_kept v)
message_kept (response_message (fault_response (fault x k) m) z) = holding_kept (λ e. omega (arith, e)) (λ e. omega (arith, e)) (struct_kept x)

-- the rows by their numbers, and the bytes that their texts lie in
module _ (row : ℕ → Row) (s : List ℕ) where
  -- a row's text, by its kind
  abbrev Valued : Row → Type 0
  Valued x = (x.kind ≡ 6 → Double (text_of s x)) × (x.kind ≡ 7 → DateTime (text_of s x))

  one_kept : {r : ℕ} {x : Row} {c : Cell} → Kept c → Means s r x c → Valued x
  one_kept q (means e z (says_holding a b f g)) = (λ l. absurd (q.0 (sym e ∙ l)), λ l. absurd (q.1 (sym e ∙ l)))
  one_kept q (means e z (says_number a f g)) = (λ l. absurd (q.0 (sym e ∙ l)), λ l. absurd (q.1 (sym e ∙ l)))
  one_kept q (means e z (says_contents a f g)) = (
    λ l. (text_is_double _).0 (rw g (q.0 (sym e ∙ l))),
    λ l. (text_is_datetime _).0 (rw g (q.1 (sym e ∙ l))),
  )

  rows_kept : (n : ℕ) {r : ℕ} {cs : List Cell} → Realises s r (from row r n) cs → All cs → (i : ℕ) → r ≤ i → i < r + n → Valued (row i)
  unfolding from
  rows_kept zero m p i h k = absurd (omega arith)
  rows_kept (suc n) {r} (and_then m t) (all_and q p) i h k =
      by (eqb i r) refl (one_kept q m) (λ j. rows_kept n t p i (omega (arith, j)) (omega arith))
    where
      by : (b : Bool) → eqb i r ≡ b → Valued (row r) → ((i ≡ r → ⊥) → Valued (row i)) → Valued (row i)
      by true e x f = rw (eqb-true i r e) x
      by false e x f = f (eqb-false i r e)

  -- VALUES. In rows that mean what is derived, the text of each row of kind 6 is a Double, and of each of kind 7 a DateTime.
  pub derived_values : {d : ℕ} {xs : List ℕ} {cs : List Cell} (n : ℕ) → Derives d xs cs → Realises s 0 (from row 0 n) cs → (r : ℕ) → r < n → Valued (row r)
  derived_values n g m r h = rows_kept n m (message_kept g.derivation) r (omega arith) (omega arith)

  -- FAULTS. If the first of them is of kind 3, the rows from row 2 on, which stand below the fault's Struct, are its two members.
  pub derived_fault :
      {d : ℕ} {xs : List ℕ} {cs : List Cell} (n : ℕ) → Derives d xs cs → Realises s 0 (from row 0 n) cs → (row 0).kind ≡ 3
      → TwoMembers (held_rows s (from row 2 (n - 2)))
  unfolding from
  derived_fault n g m e = go n g.derivation m
    where
      go :
          (n : ℕ) {d : ℕ} {xs : List ℕ} {cs : List Cell} {fs : List Sent} → Message d xs cs fs → Realises s 0 (from row 0 n) cs
          → TwoMembers (held_rows s (from row 2 (n - 2)))
      go zero (call_message (call x y i k) z) m = absurd (omega (arith, counts m))
      go zero (response_message (value_response v k) z) m = absurd (omega (arith, counts m))
      go zero (response_message (fault_response x k) z) m = absurd (omega (arith, counts m))
      go (suc zero) (response_message (fault_response (fault (struct i ps l) f) k) z) m = absurd (omega (arith, counts m))
      go (suc n) (call_message (call x y i k) z) (and_then (means a b c) t) = absurd (omega (arith, e, a))
      go (suc n) (response_message (value_response v k) z) (and_then (means a b c) t) = absurd (omega (arith, e, a))
      go (suc (suc n)) (response_message (fault_response (fault (struct i ps l) f) k) z) (and_then m (and_then m' t)) =
          let j : suc (suc n) - 2 ≡ n = omega arith in
          rw (j, held_same t) ((two_members _).0 f)

-- FOURTEEN. A fault's Struct that is read whole and does not hold its two members is refused with 14 at its `S`, whatever follows.
fault_fine : (items : List Held) → is_fault items ≡ true → fault_rule items ≡ Ok tt
unfolding fault_rule
fault_fine items e = rw e

bad_fault : (items : List Held) → (TwoMembers items → ⊥) → fault_rule items ≡ Err BadFault
unfolding fault_rule
bad_fault items f = go (is_fault items) refl
  where
    go : (b : Bool) → is_fault items ≡ b → fine_if b BadFault ≡ Err BadFault
    go false e = refl
    go true e = absurd (f ((two_members items).0 (fault_fine items e)))

pub fault_said :
    (xs rest : List ℕ) (room deep : ℕ) {cells : List Cell} {sents : List Sent} → Struct deep xs cells sents → Legal [] sents → 1 + length cells ≤ room
    → (TwoMembers (held_cells (below cells)) → ⊥) → message (bytes "binmode-rpc:RF" ++ (xs ++ rest)) room deep ≡ refused BadFault 14
unfolding message agree call_or_response fault_struct
fault_said xs rest room deep {cells} x l h f =
    let s = bytes "binmode-rpc:RF" ++ (xs ++ rest) in
    let here : Here s 14 xs = record { rest = rest; from = refl; starts = omega arith } in
    let g = (only_read s room (code "S") (struct_begins s room x).0 (struct_begins s room x).1 (struct_read s room x)).reads 14 1 clear [] here l agrees_clear h in
    rw (le-leb 12 (length s) (omega arith), lt-ltb 12 (length s) (omega arith), lt-ltb 0 room (omega arith), lt-ltb 13 (length s) (omega arith), g.is, held_below g.realises, bad_fault (held_cells (below cells)) f)

-- FIVE AND SEVENTEEN. A Response with a Double or a DateTime of the text t, sent by the tag x, is judged by its content's rule at the item's place,
-- whatever follows.
pub value_said :
    (c : Content) (x : ℕ) (t rest : List ℕ) (room deep : ℕ)
    → ((s : List ℕ) → item s room (tag_of x) (nested s room deep) 13 1 clear ≡ short_item s room c 13 1 clear) → eqb x (code "F") ≡ false → 2 ≤ room
    → message (bytes "binmode-rpc:R" ++ (x ∷ length t ∷ (t ++ rest))) room deep
    ≡ over 2 1 0 (judged (content_rule c t) 13 (leaf (kind_of c) 15 (length t) 1 (15 + length t) clear))
unfolding message agree call_or_response read-contents verdict
value_said c x t rest room deep short f h =
    let s = bytes "binmode-rpc:R" ++ (x ∷ length t ∷ (t ++ rest)) in
    let l = length-append t rest in
    rw (le-leb 12 (length s) (omega arith), lt-ltb 12 (length s) (omega arith), lt-ltb 0 room (omega arith), lt-ltb 13 (length s) (omega arith), f, value_is s room deep 13 1 clear, lt-ltb 13 (length s) (omega arith), short s, lt-ltb 1 room (omega arith), le-leb 15 (length s) (omega arith), le-leb (15 + length t) (length s) (omega (arith, l)), take-append_seam t rest)
