-- Rows with a meaning that the grammar derives, in bytes, are walked to their end: one law for each production. Assumes nothing.
use mathlib.Core.Path.{◌≡◌, refl, ap, ◌∙◌}
use mathlib.Core.Bool.{true}
use mathlib.Core.List.{List, [], ◌∷◌}
use Prim.Native.Nat.{ℕ, ◌<◌}
use native.Mathlib.Omega.{arith}
use lib.Dec.{leb}
use lib.ListN.{length}
use borrow.Author.Tests.{le-leb, lt-ltb}
use Rattle.draft.specs.declared.Row.{Row}
use Rattle.std.specs.Prelude.{Ok}
use Rattle.draft.specs.declared.Content.TheVariants as content
use Rattle.draft.specs.declared.Item.{Item}
use Rattle.draft.specs.declared.Item.TheVariants as item
use Rattle.draft.specs.Bytes.{Below, and_below}
use Rattle.draft.specs.Rows.{below, item_of}
use Rattle.draft.specs.Content.{name_rule, key_rule, fault_rule}
use Rattle.draft.specs.Read.{Texts, text_of, prefix}
use Rattle.draft.specs.Writable.{alike, nothing, content_item, array_item, member, keeping, other_item, struct_item, item as walk-item, value, nested, fault_struct, first, call_or_response}
use Rattle.draft.specs.Grammar.{Payload, Message, call_message, response_message, Cell, cell, content_cell, held_cells, Sent, Keeps, Call, call, Response, value_response, fault_response, fault, Value, integer_value, boolean_value, double_value, datetime_value, array_value, struct_value, string_value, other_value, boolean_true, boolean_false, double, datetime, binary_value, Binary, binary, Array, array, Values, no_values, more_values, Struct, struct, Pairs, no_pairs, more_pairs, Pair, pair, Other, other, String, regular_string, recorded_string, recalled_string}
use Rattle.written.proofs.Limiting.{below_front, below_back}
use Rattle.written.proofs.Standing.{Stands, stands_head, held_under}
use Rattle.written.proofs.Combining.{first_kind, first_kind_lem, WalkedBy, WalkedAt, RunBy, content_fits, integer_fits, boolean_fits, held_fits, only_fits, pair_fits, no_items, more_items, counted_fits, text_fits, string_fits, text_there, string_by_fits, none_kept, alike_fits, member_fits}
use Rattle.written.proofs.Sending.{text_in}
use Rattle.written.proofs.Measuring.{Kept, kept_more, kept_front, kept_back}
use Rattle.written.proofs.Walking.{value_is}

array_begins : {d : ℕ} {xs : List ℕ} {cs : List Cell} {fs : List Sent} → Array d xs cs fs → (0 < length cs) × (first_kind cs ≡ 9)
array_begins (array e vs m) = (omega arith, refl)

struct_begins : {d : ℕ} {xs : List ℕ} {cs : List Cell} {fs : List Sent} → Struct d xs cs fs → (0 < length cs) × (first_kind cs ≡ 10)
struct_begins (struct e ps m) = (omega arith, refl)

-- the rows by their numbers, how many there are, and the text bytes
module _ (row : ℕ → Row) (rows : ℕ) (s : List ℕ) where
  -- a Value by its kind
  by_kind :
      (d : ℕ) (i : Item) {k : ℕ} {cs : List Cell} → (0 < length cs) × (first_kind cs ≡ k) → item_of k ≡ i
      → WalkedAt row rows s (walk-item row rows s i (nested row rows s d)) cs → WalkedBy row rows s (value row rows s d) cs
  by_kind d i b e g =
      record {
        walks = λ r h l.
            let z : item_of (row r).kind ≡ i = ap item_of (first_kind_lem h b.0 ∙ b.1) ∙ e in
            value_is row rows s d r ∙ rw (lt-ltb r rows (omega (arith, b.0)), z) (g.walks r h l);
      }

  -- the productions
  stands_for : {xs t : List ℕ} {f : Sent} → String xs t f → text_in f ≡ t
  stands_for (regular_string x) = refl
  stands_for (recorded_string x) = refl
  stands_for recalled_string = refl

  keeps_text : {xs t : List ℕ} {f : Sent} {fs : List Sent} → String xs t f → Kept (f ∷ fs) → Keeps content.Text t
  keeps_text x (kept_more k h) = rw (stands_for x) at k

  -- the key of a pair is the text of its first row
  key_there : {d r : ℕ} {t xs : List ℕ} {us : List Cell} {fs : List Sent} → Pair d t xs us fs → Stands row s r us → text_of s (row r) ≡ t
  key_there (pair x v e) h = text_there row rows s (stands_head h)

  key_kept :
      {d : ℕ} (seen : Texts) {t xs : List ℕ} {us : List Cell} {fs : List Sent} → Pair d t xs us fs → (r : ℕ) → Stands row s r us
      → keeping row rows s seen r ≡ t ∷ seen
  unfolding keeping
  key_kept seen p r h = rw (key_there p h)

  binary_fits : {xs t : List ℕ} → Binary xs t → WalkedAt row rows s (content_item s content.Binary) (content_cell content.Binary t ∷ [])
  binary_fits (binary e f k) = content_fits row rows s content.Binary k refl

  other_fits : {xs : List ℕ} {cs : List Cell} {f : Sent} → Other xs cs f → Kept (f ∷ []) → WalkedAt row rows s (other_item row rows s) cs
  other_fits (other x n y e) k =
      let g = held_fits row rows s 12 2 (pair_fits row rows s (string_by_fits row rows s name_rule (keeps_text x k) n) (only_fits row rows s 8 (omega arith, refl) (binary_fits y))) refl in
      record { walks = λ r h l. g.walks r h l }

  -- a size byte
  size_fits : {x n : ℕ} {t : List ℕ} → Below 256 (x ∷ n ∷ t) → n ≡ length t → leb (length t) 255 ≡ true
  size_fits {t = t} (and_below h (and_below i b)) e = le-leb (length t) 255 (omega (arith, e, i))

  five : {x i j k l : ℕ} {xs : List ℕ} → Below 256 (x ∷ i ∷ j ∷ k ∷ l ∷ xs) → Below 256 xs
  five (and_below h (and_below i (and_below j (and_below k (and_below l b))))) = b

  mutual
    unfolding item_of nested

    value_fits : {d : ℕ} {xs : List ℕ} {cs : List Cell} {fs : List Sent} → Value d xs cs fs → Below 256 xs → Kept fs → WalkedBy row rows s (value row rows s d) cs
    value_fits {d} (integer_value x) b k = by_kind d item.Integer (omega arith, refl) refl (record { walks = λ r h l. (integer_fits row rows s).walks r h l })
    value_fits {d} (boolean_value boolean_true) b k = by_kind d item.Boolean (omega arith, refl) refl (record { walks = λ r h l. (boolean_fits row rows s (omega arith)).walks r h l })
    value_fits {d} (boolean_value boolean_false) b k = by_kind d item.Boolean (omega arith, refl) refl (record { walks = λ r h l. (boolean_fits row rows s (omega arith)).walks r h l })
    value_fits {d} (double_value (double e z)) b k =
        by_kind d (item.Content content.Double) (omega arith, refl) refl (record { walks = λ r h l. (content_fits row rows s content.Double z (size_fits b e)).walks r h l })
    value_fits {d} (datetime_value (datetime e z)) b k =
        by_kind d (item.Content content.DateTime) (omega arith, refl) refl (record { walks = λ r h l. (content_fits row rows s content.DateTime z (size_fits b e)).walks r h l })
    value_fits {d} (binary_value x) b k = by_kind d (item.Content content.Binary) (omega arith, refl) refl (record { walks = λ r h l. (binary_fits x).walks r h l })
    value_fits {d} (array_value x) b k = by_kind d item.Array (array_begins x) refl (record { walks = λ r h l. (array_fits x b k).walks r h l })
    value_fits {d} (struct_value x) b k = by_kind d item.Struct (struct_begins x) refl (record { walks = λ r h l. (struct_fits x b k).walks r h l })
    value_fits {d} (string_value x) b k = by_kind d (item.Content content.Text) (omega arith, refl) refl (record { walks = λ r h l. (text_fits row rows s (keeps_text x k)).walks r h l })
    value_fits {d} (other_value (other x n y e)) b k = by_kind d item.Other (omega arith, refl) refl (record { walks = λ r h l. (other_fits (other x n y e) k).walks r h l })

    array_fits :
        {d : ℕ} {xs : List ℕ} {cs : List Cell} {fs : List Sent} → Array d xs cs fs → Below 256 xs → Kept fs
        → WalkedAt row rows s (array_item (nested row rows s d)) cs
    array_fits (array e vs m) b k = let g = counted_fits row rows s 9 (values_fit vs (five b) k) m in record { walks = λ r h l. g.walks r h l }

    values_fit :
        {d n : ℕ} {xs : List ℕ} {cs : List Cell} {fs : List Sent} → Values d n xs cs fs → Below 256 xs → Kept fs
        → RunBy row rows s (alike (value row rows s d)) nothing n [] cs
    values_fit no_values b k = no_items row rows s
    values_fit (more_values {xs = xs} {ys} {fs = fs} {gs} v vs e f g) b k =
        more_items row rows s (alike_fits row rows s [] (value_fits v (below_front xs ys (rw e at b)) (kept_front fs gs (rw g at k)))) (none_kept row rows s [])
        (values_fit vs (below_back xs ys (rw e at b)) (kept_back fs gs (rw g at k))) f

    struct_fits :
        {d : ℕ} {xs : List ℕ} {cs : List Cell} {fs : List Sent} → Struct d xs cs fs → Below 256 xs → Kept fs
        → WalkedAt row rows s (struct_item row rows s (nested row rows s d)) cs
    struct_fits (struct e ps m) b k = let g = counted_fits row rows s 10 (pairs_fit ps (five b) k) m in record { walks = λ r h l. g.walks r h l }

    pairs_fit :
        {d n : ℕ} {seen : Texts} {xs : List ℕ} {cs : List Cell} {fs : List Sent} → Pairs d seen n xs cs fs → Below 256 xs → Kept fs
        → RunBy row rows s (member row rows s (value row rows s d)) (keeping row rows s) n seen cs
    pairs_fit no_pairs b k = no_items row rows s
    pairs_fit {seen = seen} (more_pairs {xs = xs} {ys} {fs = fs} {gs} p n ps e f g) b k =
        more_items row rows s (pair_fit seen p n (below_front xs ys (rw e at b)) (kept_front fs gs (rw g at k))) (key_kept seen p)
        (pairs_fit ps (below_back xs ys (rw e at b)) (kept_back fs gs (rw g at k))) f

    pair_fit :
        {d : ℕ} (seen : Texts) {t xs : List ℕ} {cs : List Cell} {fs : List Sent} → Pair d t xs cs fs → key_rule seen t ≡ Ok tt → Below 256 xs → Kept fs
        → WalkedBy row rows s (member row rows s (value row rows s d) seen) cs
    pair_fit seen (pair {xs = xs} {ys} {f = f} {fs} x v e) n b k =
        member_fits row rows s seen (keeps_text x k) n (value_fits v (below_back xs ys (rw e at b)) (kept_back (f ∷ []) fs k))

  -- a Call or a Response
  first_fits :
      (d : ℕ) (i : Item) {k m : ℕ} {p : Payload} {cs : List Cell} → item_of k ≡ i → WalkedAt row rows s (first row rows s i d) (cell k m p ∷ cs)
      → WalkedBy row rows s (call_or_response row rows s d) (cell k m p ∷ cs)
  unfolding call_or_response
  first_fits d i e g =
      record {
        walks = λ r h l.
            let z : item_of (row r).kind ≡ i = ap item_of (first_kind_lem h (omega arith)) ∙ e in
            rw (lt-ltb r rows (omega arith), z) (g.walks r h l);
      }

  call_fits :
      {d : ℕ} {xs : List ℕ} {cs : List Cell} {fs : List Sent} → Call d xs cs fs → Below 256 xs → Kept fs → WalkedBy row rows s (call_or_response row rows s d) cs
  unfolding item_of
  call_fits {d} (call {xs = xs} {ys} {f = f} {fs} x y i n) (and_below h b) k =
      let p = array_fits y (below_back xs ys (rw i at b)) (kept_back (f ∷ []) fs k) in
      let g = held_fits row rows s 1 2 (pair_fits row rows s (string_fits row rows s (keeps_text x k)) (only_fits row rows s 9 (array_begins y) p)) n in
      first_fits d item.Call refl (record { walks = λ r h l. g.walks r h l })

  -- a fault's Struct that keeps its rule
  fault_fits :
      {d : ℕ} {xs : List ℕ} {cs : List Cell} {fs : List Sent} → Struct d xs cs fs → fault_rule (held_cells (below cs)) ≡ Ok tt → Below 256 xs → Kept fs
      → WalkedBy row rows s (fault_struct row rows s d) cs
  unfolding fault_struct
  fault_fits {d} {cs = cs} x j b k =
      record {
        walks = λ r h l.
            let g = (only_fits row rows s 10 (struct_begins x) (struct_fits x b k)).walks r h l in
            rw (g, le-leb _ _ l, held_under h, j);
      }

  response_fits :
      {d : ℕ} {xs : List ℕ} {cs : List Cell} {fs : List Sent} → Response d xs cs fs → Below 256 xs → Kept fs
      → WalkedBy row rows s (call_or_response row rows s d) cs
  unfolding item_of
  response_fits {d} (value_response v n) (and_below h b) k =
      let g = held_fits row rows s 2 1 (value_fits v b k) n in
      first_fits d item.Response refl (record { walks = λ r h l. g.walks r h l })
  response_fits {d} (fault_response (fault x j) n) (and_below h (and_below i b)) k =
      let g = held_fits row rows s 3 1 (fault_fits x j b k) n in
      first_fits d item.Fault refl (record { walks = λ r h l. g.walks r h l })

  -- what is derived is walked
  pub message_fits :
      {d : ℕ} {zs : List ℕ} {cs : List Cell} {fs : List Sent} → Message d zs cs fs → Below 256 zs → Kept fs → WalkedBy row rows s (call_or_response row rows s d) cs
  message_fits (call_message {xs = xs} x e) b k = call_fits x (below_back prefix xs (rw e at b)) k
  message_fits (response_message {xs = xs} x e) b k = response_fits x (below_back prefix xs (rw e at b)) k
