-- What answers each return of the functions that walk a Call or a Response, and the whole table. Assumes nothing.
use mathlib.Core.Path.{◌≡◌, refl, sym, ◌∙◌}
use mathlib.Core.Bool.{Bool, false}
use mathlib.Core.List.{List}
use Prim.Native.Nat.{ℕ, ◌+◌, ◌*◌, ◌-◌, ◌≤◌, ◌<◌}
use native.Mathlib.Omega.{arith}
use lib.ListN.{length, replicate}
use borrow.Author.Tests.{lt-ltb, le-ltb, le-leb, lt-leb}
use Rattle.std.proofs.Common.{Option, Some, None, nat_eq}
use Rattle.std.specs.Option.{option_eq}
use Rattle.draft.specs.declared.Refusal.{Refusal}
use Rattle.draft.specs.Verdict.{Verdict}
use Rattle.std.specs.Prelude.{Ok, Err}
use Rattle.draft.specs.declared.Item.{Item}
use Rattle.draft.specs.declared.Item.TheVariants.{Call, Response, Fault, Integer, Boolean, Content, Array, Struct, Other, Unknown}
use Rattle.draft.specs.declared.Row.{Row}
use Rattle.draft.specs.Rows.{item_of}
use Rattle.draft.specs.Table.{room_of, row_at, from}
use Rattle.draft.specs.Content.{fault_rule}
use Rattle.draft.specs.Read.{held_rows}
use Rattle.draft.specs.Writable.{only, string, struct_item, nested, fault_struct, first, call_or_response, wholly, writable_within, writable, writable_to}
use Rattle.extents.specs.Asked.{Ready, Walkable}
use Rattle.extents.proofs.Walking.{only_there}
use Rattle.keys.proofs.Keeping.{noted_blank, noted_move}
use Rattle.key_rows.specs.Contract.{Entries, Prepared}
use Rattle.key_rows.proofs.Keying.{string_end}
use Rattle.containers.proofs.Nesting.{nesting}

-- the rows of a table, and the text bytes
module _ (row : ℕ → Row) (rows : ℕ) (s : List ℕ) where
  -- a fault's Struct
  module _ (deep r : ℕ) where
    abbrev struct_at : Option ℕ
    struct_at = only row rows s 10 (struct_item row rows s (nested row rows s deep)) r

    pub fault_no : {o : Option ℕ} → None ≡ struct_at → o ≡ None → o ≡ fault_struct row rows s deep r
    unfolding fault_struct
    fault_no h i = i ∙ rw (← h)

    module _ {n : ℕ} (h : Some n ≡ struct_at) where
      pub fault_there : {room words : ℕ} → Ready rows room words → r ≤ room
      fault_there a = omega (arith, a.stated, only_there row rows s 10 (struct_item row rows s (nested row rows s deep)) r h refl)

      pub fault_past : rows < n → None ≡ fault_struct row rows s deep r
      unfolding fault_struct
      fault_past l = rw (← h, lt-leb n rows l)

      module _ {v : Verdict} (l : n ≤ rows) (j : v ≡ fault_rule (held_rows s (from row (r + 1) (n - (r + 1))))) where
        pub fault_bad : {m : Refusal} → v ≡ Err m → None ≡ fault_struct row rows s deep r
        unfolding fault_struct
        fault_bad g = rw (← h, le-leb n rows l, ← j, g)

        pub fault_fine : v ≡ Ok tt → Some n ≡ fault_struct row rows s deep r
        unfolding fault_struct
        fault_fine g = rw (← h, le-leb n rows l, ← j, g)

  -- the Call or Response
  module _ (deep r : ℕ) where
    pub first_past : rows ≤ r → None ≡ call_or_response row rows s deep r
    unfolding call_or_response
    first_past h = rw (le-ltb r rows h)

    first_no : (i : Item) (x : Row) → (i ≡ Call → ⊥) → (i ≡ Response → ⊥) → (i ≡ Fault → ⊥) → None ≡ first row rows s i deep x r
    first_no Call x a b d = absurd (a refl)
    first_no Response x a b d = absurd (b refl)
    first_no Fault x a b d = absurd (d refl)
    first_no Integer x a b d = refl
    first_no Boolean x a b d = refl
    first_no (Content c) x a b d = refl
    first_no Array x a b d = refl
    first_no Struct x a b d = refl
    first_no Other x a b d = refl
    first_no Unknown x a b d = refl

    pub first_other : {x : Row} {i : Item} → r < rows → x ≡ row r → i ≡ item_of x.kind → (i ≡ Call → ⊥) → (i ≡ Response → ⊥) → (i ≡ Fault → ⊥) → None ≡ call_or_response row rows s deep r
    unfolding call_or_response
    first_other {x} {i} h f g a b d = first_no i x a b d ∙ rw (lt-ltb r rows h, ← f, ← g)

    pub first_is : {x : Row} {i j : Item} {e : Option ℕ} → r < rows → x ≡ row r → i ≡ item_of x.kind → i ≡ j → e ≡ first row rows s j deep x r → e ≡ call_or_response row rows s deep r
    unfolding call_or_response
    first_is h f g k l = l ∙ rw (lt-ltb r rows h, ← f, ← g, k)

pub end_in : {n rows room words : ℕ} → Ready rows room words → n ≤ rows → n ≤ room
end_in h l = omega (arith, h.stated)

-- the notes as they are laid out
pub blank_prepared : {s : List ℕ} {room rows : ℕ} {T : List ℕ} {good : ℕ} (r : ℕ) {N : List ℕ} → Walkable s room rows T good → Entries rows (length N) → N ≡ replicate (length N) 0 → Prepared s room rows T good (r + 1) N
blank_prepared r a b e = record { below = omega arith; ready = a.ready; checked = a.checked; entries = b; noted = noted_blank e }

-- the rows behind the method
pub behind_method : {s : List ℕ} {room rows : ℕ} {T : List ℕ} {good r n : ℕ} {N : List ℕ} → Prepared s room rows T good r N → Some n ≡ string (row_at room T) rows s r → Prepared s room rows T good n N
behind_method {s} {room} {rows} {T} {r = r} {n = n} p h =
    let e = string_end (row_at room T) rows s r (sym h) in
    record { below = omega arith; ready = p.ready; checked = p.checked; entries = p.entries; noted = noted_move p.noted (λ k l. refl) n (omega arith) }

pub ruleset faults = (fault_no, fault_there, fault_past, fault_bad, fault_fine, end_in)

pub ruleset calling = (nesting, first_past, first_is, first_other, blank_prepared, behind_method)

-- where an item ends, as against the stated rows
wholly_is : (o : Option ℕ) (rows : ℕ) → option_eq nat_eq o (Some rows) ≡ wholly rows o
wholly_is None rows = refl
wholly_is (Some n) rows = refl

-- the whole table
module _ (deep : ℕ) (T : List ℕ) (rows : ℕ) (s : List ℕ) where
  pub table_long : 65536 < length s → false ≡ writable_to deep T rows s
  unfolding writable_to writable_within
  table_long h = rw (lt-leb _ _ h)

  module _ (h : length s ≤ 65536) where
    pub table_empty : rows ≡ 0 → false ≡ writable_to deep T rows s
    unfolding writable_to writable_within
    table_empty i = rw (le-leb _ _ h, i)

    module _ (n : rows ≡ 0 → ⊥) where
      some_rows : 1 ≤ rows
      some_rows = omega arith

      pub table_many : 4096 < rows → false ≡ writable_to deep T rows s
      unfolding writable_to writable_within
      table_many j = rw (le-leb _ _ h, le-leb 1 rows some_rows, lt-leb rows 4096 j)

      module _ (j : rows ≤ 4096) where
        pub table_short : length T < rows * 4 → false ≡ writable_to deep T rows s
        unfolding writable_to writable_within
        table_short k = rw (le-leb _ _ h, le-leb 1 rows some_rows, le-leb rows 4096 j, lt-leb (rows * 4) (length T) k)

        pub table_walked : {o : Option ℕ} {room : ℕ} {b : Bool} → rows * 4 ≤ length T → room ≡ room_of 4096 (length T) → o ≡ call_or_response (row_at room T) rows s deep 0 → b ≡ option_eq nat_eq o (Some rows) → b ≡ writable_to deep T rows s
        unfolding writable_to writable_within
        table_walked {o} k l m f = f ∙ wholly_is o rows ∙ rw (le-leb _ _ h, le-leb 1 rows some_rows, le-leb rows 4096 j, le-leb (rows * 4) (length T) k, m, l)

-- judged at 32
pub table_judged : (T : List ℕ) (rows : ℕ) (s : List ℕ) {b : Bool} → b ≡ writable_to 32 T rows s → b ≡ writable T rows s
unfolding writable writable_to
table_judged T rows s e = e

pub ready_table : {rows room : ℕ} (words : ℕ) → rows ≤ 4096 → rows * 4 ≤ words → room ≡ room_of 4096 words → Ready rows room words
ready_table words h i e = record { stated = omega (arith, e); most = omega (arith, e); table = omega (arith, e) }

-- notes for as many rows as there may be
pub rows_few : {rows room words : ℕ} → Ready rows room words → rows ≤ 4096
rows_few h = omega (arith, h.stated, h.most)

pub ruleset whole = (rows_few, table_long, table_empty, table_many, table_short, table_walked, table_judged, ready_table)
