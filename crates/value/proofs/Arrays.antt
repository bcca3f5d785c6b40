-- What answers each return of the function that reads a Value, and what its calls ask. Assumes nothing.
use mathlib.Core.Path.{◌≡◌, refl}
use mathlib.Core.Bool.{Bool, true, false}
use mathlib.Core.List.{List}
use Prim.Native.Nat.{ℕ, ◌+◌, ◌-◌, ◌≤◌, ◌<◌, min}
use native.Mathlib.Omega.{arith}
use lib.ListN.{length, get_or}
use lib.Dec.{eqb}
use borrow.Author.Tests.{eq-eqb, ne_eqb}
use Rattle.draft.specs.declared.Refusal.TheVariants.{Ended}
use Rattle.draft.specs.Bytes.{unsigned_at}
use Rattle.draft.specs.Read.{floor, item as item_of, value, tag_of}
use Rattle.draft.proofs.Naming.{number_some}
use Rattle.codebook.specs.Words.{book_of}
use Rattle.item.specs.Contract.{Step, step_number}
use Rattle.item.specs.Contract.{Closed, Did, refused_at}
use Rattle.member_keys.specs.Contract.{Prepared, Done}
use Rattle.heads.specs.Items.{holds_items, head_of, entries}
use Rattle.heads.proofs.Values.{begun, value_short, value_head, value_contents, value_scalar}
use Rattle.value.proofs.Keys.{done_ends, contents_ready, contents_done, after_not, after_scalar}

-- no Value is there
pub value_ended : (s : List ℕ) (deep at : ℕ) (W : List ℕ) {room r : ℕ} {T T' W' N N' : List ℕ} {step : Step} → length s ≤ at → step ≡ refused_at Ended at → Done (value s room deep at r (book_of W)) s room (at + 1) r T T' W' N N' step
value_ended s deep at W l f = record { did = value_short s deep at (book_of W) l f; after = after_not (λ z. number_some Ended (rw f at z)) }

-- the head of an Array or a Struct was read, or refused
module _ (s : List ℕ) (room deep at r : ℕ) {head : Step} (f : head ≡ head_of (length s) room deep at r) where
  module _ (z : step_number head ≡ 0) where
    pub head_level : 0 < deep
    head_level = (begun s room deep at r f z).level

    pub head_nests : {T W N : List ℕ} → Prepared s at r room T W N → 0 < deep
    head_nests p = head_level

    pub head_count : at + 1 + 4 ≤ length s
    head_count = omega (arith, (begun s room deep at r f z).count)

    pub head_row : {T W N : List ℕ} → Prepared s at r room T W N → r < room
    head_row p = (begun s room deep at r f z).row

    pub head_ready : {T W N : List ℕ} → Prepared s at r room T W N → Prepared s (at + 5) (r + 1) room T W N
    head_ready p = contents_ready (begun s room deep at r f z) p

  module _ (W : List ℕ) {T N : List ℕ} (h : at < length s) {b : Bool} (o : b ≡ holds_items (get_or s at 0)) (t : b ≡ true) where
    pub head_stops : {T' W' N' : List ℕ} → (step_number head ≡ 0 → ⊥) → Done (value s room deep at r (book_of W)) s room (at + 1) r T T' W' N N' head
    head_stops n = record { did = value_head s deep at (book_of W) h o t f n; after = after_not n }

    module _ (z : step_number head ≡ 0) (p : Prepared s at r room T W N) {m : ℕ} (i : m ≡ unsigned_at s (at + 1)) {T₁ T₂ W' N' : List ℕ} {step result : Step} where
      pub struct_got : get_or s at 0 ≡ 83 → Done (entries s room true (value s room (deep - 1)) m (at + 5) (r + 1) (book_of W)) s room (at + 5 + min m 1) (r + 1) T T₁ W' N N' step → Closed step 10 m r room T₁ T₂ result → Done (value s room deep at r (book_of W)) s room (at + 1) r T T₂ W' N N' result
      struct_got e d c =
          let g = begun s room deep at r f z in
          let x = contents_done g p true (value s room (deep - 1)) i refl d c in
          let q : eqb (get_or s at 0) 83 ≡ true = eq-eqb _ _ e in
          record { did = value_contents s deep at (book_of W) h o t g (rw q x.did); after = x.after }

      pub array_got : (get_or s at 0 ≡ 83 → ⊥) → Done (entries s room false (value s room (deep - 1)) m (at + 5) (r + 1) (book_of W)) s room (at + 5 + min m 1) (r + 1) T T₁ W' N N' step → Closed step 9 m r room T₁ T₂ result → Done (value s room deep at r (book_of W)) s room (at + 1) r T T₂ W' N N' result
      array_got e d c =
          let g = begun s room deep at r f z in
          let x = contents_done g p false (value s room (deep - 1)) i refl d c in
          let q : eqb (get_or s at 0) 83 ≡ false = ne_eqb _ _ e in
          record { did = value_contents s deep at (book_of W) h o t g (rw q x.did); after = x.after }

-- a Value that holds no others
pub flat_got : (s : List ℕ) (deep at : ℕ) {room r : ℕ} {T T' W W' N : List ℕ} {step : Step} → at < length s → {b : Bool} → b ≡ holds_items (get_or s at 0) → b ≡ false → Prepared s at r room T W N → Did (item_of s room (tag_of (get_or s at 0)) floor at r (book_of W)) (length s) room (at + 1) r T T' W' step → Done (value s room deep at r (book_of W)) s room (at + 1) r T T' W' N N step
flat_got s deep at {W = W} h o t p d = record { did = value_scalar s deep at (book_of W) h o t d; after = after_scalar s at (book_of W) d p }

pub ruleset arrays = (value_ended, head_level, head_count, head_row, head_ready, head_stops, struct_got, array_got, flat_got, done_ends)
