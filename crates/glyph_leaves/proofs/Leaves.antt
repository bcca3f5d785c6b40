-- What answers each return of the functions that read objects without children. Assumes nothing.
use mathlib.Core.Path.{◌≡◌}
use mathlib.Core.Bool.{true, false}
use mathlib.Core.List.{List}
use Prim.Native.Nat.{ℕ, ◌+◌, ◌≤◌, ◌<◌}
use native.Mathlib.Omega.{arith}
use lib.ListN.{length, get_or}
use borrow.Author.Tests.{eq-eqb, ne_eqb, lt-ltb, le-ltb}
use Rattle.draft.specs.Rows.{row}
use Rattle.draft.specs.Table.{set_row}
use Rattle.std.specs.Prelude.{Ok}
use Rattle.item.specs.declared.Reached.{Reached}
use Rattle.item.specs.Contract.{reached}
use Rattle.glyph.specs.declared.Refusal.TheVariants.{Ended, UnexpectedByte}
use Rattle.glyph.specs.declared.Leaf.{Leaf}
use Rattle.glyph.specs.declared.Leaf.TheVariants.{Integer, Unicode, Bytes, True, False, Nil}
use Rattle.glyph.specs.Read.{opened, single, integer, text, leaf_of}
use Rattle.glyph_bytes.specs.Leafs.{leaf_by}
use Rattle.glyph_item.specs.Contract.{Step, refused_at, Did}
use Rattle.glyph_item.proofs.Readings.{done, did_no, leaf_got, opened_full, opened_on}
use Rattle.glyph_integers.specs.Signs.{Slots}

-- T, F and N
module _ (s : List ℕ) (kind a at : ℕ) {room r : ℕ} {T T' : List ℕ} {step : Step} where
  pub single_cut : length s ≤ at + 1 → step ≡ refused_at Ended at → Did (single s kind a at r) (length s) room (at + 1) r T T' step
  unfolding single
  single_cut h e = did_no Ended e (simp (le-ltb _ _ h))

  pub single_wrong : at + 1 < length s → (get_or s (at + 1) 0 ≡ 59 → ⊥) → step ≡ refused_at UnexpectedByte at → Did (single s kind a at r) (length s) room (at + 1) r T T' step
  unfolding single
  single_wrong h n e = did_no UnexpectedByte e (simp (lt-ltb _ _ h, ne_eqb _ _ n))

pub single_got : (s : List ℕ) (kind a at : ℕ) {room r : ℕ} {T T' : List ℕ} {words : ℕ} {x : Reached} → at + 1 < length s → get_or s (at + 1) 0 ≡ 59 → x ≡ reached (at + 2) (r + 1) → T' ≡ set_row room T r (row kind a 0 (r + 1)) → Slots r room (length s) words → Did (single s kind a at r) (length s) room (at + 1) r T T' (Ok x)
unfolding single
single_got s kind a at h n e w z = done (simp (lt-ltb _ _ h, eq-eqb _ _ n)) (leaf_got e w (omega arith) (omega arith) z.left)

-- by letter
module _ (s : List ℕ) (at : ℕ) {l : Leaf} {room r : ℕ} {T T' : List ℕ} {step : Step} (h : r < room) where
  pub leaf_integer : l ≡ Integer → Did (integer s at r) (length s) room (at + 1) r T T' step → Did (opened room at r (leaf_of s l at r)) (length s) room (at + 1) r T T' step
  leaf_integer e d = opened_on at _ h (rw e d)

  pub leaf_unicode : l ≡ Unicode → Did (text s true at r) (length s) room (at + 1) r T T' step → Did (opened room at r (leaf_of s l at r)) (length s) room (at + 1) r T T' step
  leaf_unicode e d = opened_on at _ h (rw e d)

  pub leaf_bytes_lem : l ≡ Bytes → Did (text s false at r) (length s) room (at + 1) r T T' step → Did (opened room at r (leaf_of s l at r)) (length s) room (at + 1) r T T' step
  leaf_bytes_lem e d = opened_on at _ h (rw e d)

  pub leaf_true : l ≡ True → Did (single s 5 1 at r) (length s) room (at + 1) r T T' step → Did (opened room at r (leaf_of s l at r)) (length s) room (at + 1) r T T' step
  leaf_true e d = opened_on at _ h (rw e d)

  pub leaf_false : l ≡ False → Did (single s 5 0 at r) (length s) room (at + 1) r T T' step → Did (opened room at r (leaf_of s l at r)) (length s) room (at + 1) r T T' step
  leaf_false e d = opened_on at _ h (rw e d)

  pub leaf_nil : l ≡ Nil → Did (single s 13 0 at r) (length s) room (at + 1) r T T' step → Did (opened room at r (leaf_of s l at r)) (length s) room (at + 1) r T T' step
  leaf_nil e d = opened_on at _ h (rw e d)

pub ruleset leaves = (single_cut, single_wrong, single_got, opened_full, leaf_integer, leaf_unicode, leaf_bytes_lem, leaf_true, leaf_false, leaf_nil)

-- by the byte that begins it
module _ (b : ℕ) where
  pub by_integer : b ≡ 105 → leaf_by b ≡ Integer
  unfolding leaf_by
  by_integer i = rw i

  pub by_unicode : b ≡ 117 → leaf_by b ≡ Unicode
  unfolding leaf_by
  by_unicode i = rw i

  pub by_bytes : b ≡ 98 → leaf_by b ≡ Bytes
  unfolding leaf_by
  by_bytes i = rw i

  pub by_true : b ≡ 84 → leaf_by b ≡ True
  unfolding leaf_by
  by_true i = rw i

  pub by_false : b ≡ 70 → leaf_by b ≡ False
  unfolding leaf_by
  by_false i = rw i

  pub by_nil : (b ≡ 105 → ⊥) → (b ≡ 117 → ⊥) → (b ≡ 98 → ⊥) → (b ≡ 84 → ⊥) → (b ≡ 70 → ⊥) → leaf_by b ≡ Nil
  unfolding leaf_by
  by_nil i u c t f = rw (ne_eqb _ _ i, ne_eqb _ _ u, ne_eqb _ _ c, ne_eqb _ _ t, ne_eqb _ _ f)

pub ruleset letters = (by_integer, by_unicode, by_bytes, by_true, by_false, by_nil)
