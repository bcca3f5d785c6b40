-- A writable table has no row of a kind that its form, or its edition, lacks: its rows have the kinds of what is derived. Assumes nothing.
use mathlib.Core.Path.{◌≡◌, refl, sym, ap, ◌∙◌}
use mathlib.Core.Bool.{Bool, true, false}
use mathlib.Core.List.{List, [], ◌∷◌, ◌++◌}
use Prim.Native.Nat.{ℕ, zero, suc, ◌+◌, ◌<◌}
use native.Mathlib.Omega.{arith}
use lib.ListN.{length}
use Rattle.text.proofs.Comparing.{clash}
use Rattle.draft.specs.declared.Row.{Row}
use Rattle.draft.specs.Table.{room_of, row_at}
use Rattle.draft.specs.Written.{rows_of}
use Rattle.draft.specs.Grammar.{Payload, Cell, cell, Sent, Message, call_message, response_message, call, value_response, fault_response, fault, Value, integer_value, boolean_value, double_value, datetime_value, binary_value, array_value, struct_value, string_value, other_value, Array, array, Values, no_values, more_values, Struct, struct, Pairs as Members, no_pairs, more_pairs, Pair, pair, other}
use Rattle.draft.specs.Meaning.{means, Realises}
use Rattle.draft.specs.Writable.{writable_to}
use Rattle.exact.proofs.Realising.{counts, one_meaning}
use Rattle.written.proofs.Concluding as written
use Rattle.written.proofs.Standing.{Stands, stands_none, stands_more, realises_stands}
use Rattle.glyph.specs.declared.Edition.{Edition}
use Rattle.glyph.specs.declared.Edition.TheVariants.{New, Old}
use Rattle.glyph.specs.declared.Want.{Want}
use Rattle.glyph.specs.Tree.{Tree, Trees, none, also, Pairs, cells, cells_of, pair_cells}
use Rattle.glyph.specs.Grammar as glyph
use Rattle.glyph_form.specs.Writable.{writable}
use Rattle.glyph_demands.specs.Answered.{has}
use Rattle.glyph_told.specs.Tables.{Words}
use Rattle.glyph_told.proofs.Concluding as told
use Rattle.glyph_written.specs.RowKinds.{binmode_kinds, node_kinds, glyph_kinds}

-- cells of these kinds alone
data Kinds (ks : List ℕ) : List Cell → Type 0 where
  no_cells : Kinds ks []
  and_cell : {kind below : ℕ} {p : Payload} {cs : List Cell} → has ks kind ≡ true → Kinds ks cs → Kinds ks (cell kind below p ∷ cs)

both : {ks : List ℕ} {cs ds : List Cell} → Kinds ks cs → Kinds ks ds → Kinds ks (cs ++ ds)
both no_cells d = d
both (and_cell h c) d = and_cell h (both c d)

-- ---- what the draft derives

one : {kind below : ℕ} {p : Payload} → has binmode_kinds kind ≡ true → Kinds binmode_kinds (cell kind below p ∷ [])
one h = and_cell h no_cells

mutual
  value_kinds : {d : ℕ} {xs : List ℕ} {cs : List Cell} {fs : List Sent} → Value d xs cs fs → Kinds binmode_kinds cs
  value_kinds (integer_value v) = one refl
  value_kinds (boolean_value v) = one refl
  value_kinds (double_value v) = one refl
  value_kinds (datetime_value v) = one refl
  value_kinds (binary_value v) = one refl
  value_kinds (array_value v) = array_kinds v
  value_kinds (struct_value v) = struct_kinds v
  value_kinds (string_value v) = one refl
  value_kinds (other_value (other s n b z)) = and_cell refl (and_cell refl (one refl))

  array_kinds : {d : ℕ} {xs : List ℕ} {cs : List Cell} {fs : List Sent} → Array d xs cs fs → Kinds binmode_kinds cs
  array_kinds (array l v b) = and_cell refl (values_kinds v)

  values_kinds : {d n : ℕ} {xs : List ℕ} {cs : List Cell} {fs : List Sent} → Values d n xs cs fs → Kinds binmode_kinds cs
  values_kinds no_values = no_cells
  values_kinds (more_values v vs z w h) = rw w (both (value_kinds v) (values_kinds vs))

  struct_kinds : {d : ℕ} {xs : List ℕ} {cs : List Cell} {fs : List Sent} → Struct d xs cs fs → Kinds binmode_kinds cs
  struct_kinds (struct l p b) = and_cell refl (pairs_kinds p)

  pairs_kinds : {d n : ℕ} {seen : List (List ℕ)} {xs : List ℕ} {cs : List Cell} {fs : List Sent} → Members d seen n xs cs fs → Kinds binmode_kinds cs
  pairs_kinds no_pairs = no_cells
  pairs_kinds (more_pairs q k p i w h) = rw w (both (pair_kinds q) (pairs_kinds p))

  pair_kinds : {d : ℕ} {t xs : List ℕ} {cs : List Cell} {fs : List Sent} → Pair d t xs cs fs → Kinds binmode_kinds cs
  pair_kinds (pair s v z) = and_cell refl (value_kinds v)

message_kinds : {d : ℕ} {xs : List ℕ} {cs : List Cell} {fs : List Sent} → Message d xs cs fs → Kinds binmode_kinds cs
message_kinds (call_message (call s a z b) i) = and_cell refl (and_cell refl (array_kinds a))
message_kinds (response_message (value_response v b) i) = and_cell refl (value_kinds v)
message_kinds (response_message (fault_response (fault s h) b) i) = and_cell refl (struct_kinds s)

-- ---- what an edition derives

mutual
  unfolding cells

  object_kinds : {e : Edition} {d : ℕ} {xs : List ℕ} {t : Tree} → glyph.Object e d xs t → Kinds (glyph_kinds e) (cells t)
  object_kinds (glyph.integer m h i j q) = and_cell refl no_cells
  object_kinds (glyph.unicode c w) = and_cell refl no_cells
  object_kinds (glyph.bytearray c) = and_cell refl no_cells
  object_kinds glyph.true_object = and_cell refl no_cells
  object_kinds glyph.false_object = and_cell refl no_cells
  object_kinds glyph.nil = and_cell refl no_cells
  object_kinds (glyph.list b h q) = and_cell refl (objects_kinds h)
  object_kinds (glyph.dict b h q) = and_cell refl (members_kinds h)
  object_kinds (glyph.ordered_dict b h q) = and_cell refl (members_kinds h)
  object_kinds (glyph.extension x h) = and_cell refl (parts_kinds h)
  object_kinds (glyph.node glyph.old_node h) = and_cell refl (parts_kinds h)

  objects_kinds : {e : Edition} {d : ℕ} {xs : List ℕ} {ts : Trees} → glyph.Objects e d xs ts → Kinds (glyph_kinds e) (cells_of ts)
  objects_kinds glyph.close = no_cells
  objects_kinds (glyph.more o b h q) = both (object_kinds o) (objects_kinds h)

  members_kinds : {e : Edition} {d : ℕ} {seen : List (List ℕ)} {xs : List ℕ} {ps : Pairs} → glyph.Members e d seen xs ps → Kinds (glyph_kinds e) (pair_cells ps)
  members_kinds glyph.close_members = no_cells
  members_kinds (glyph.more_members o n b p c h q) = and_cell refl (both (object_kinds p) (members_kinds h))

  parts_kinds : {e : Edition} {d : ℕ} {w v : Want} {xs : List ℕ} {a b c : Tree} → glyph.Parts e d w v xs a b c → Kinds (glyph_kinds e) (cells_of (also a (also b (also c none))))
  parts_kinds (glyph.parts p o m q l n i g j u) = both (object_kinds o) (both (object_kinds l) (both (object_kinds g) no_cells))

-- ---- rows

row_kind : {row : ℕ → Row} {s : List ℕ} {ks : List ℕ} {r : ℕ} {cs : List Cell} → Stands row s r cs → Kinds ks cs → (i : ℕ) → i < length cs → has ks (row (r + i)).kind ≡ true
row_kind stands_none k i l = absurd (omega arith)
row_kind {row} {ks = ks} {r} (stands_more (means e z y) t) (and_cell h k) zero l =
    let i : r + 0 ≡ r = omega arith in
    ap (λ (n : ℕ). has ks (row n).kind) i ∙ ap (has ks) e ∙ h
row_kind {row} {ks = ks} {r} (stands_more m t) (and_cell h k) (suc i) l =
    let j : r + suc i ≡ suc r + i = omega arith in
    ap (λ (n : ℕ). has ks (row n).kind) j ∙ row_kind t k i (omega arith)

rows_kinds :
    (T : List ℕ) (rows : ℕ) (s : List ℕ) {ks : List ℕ} {cs : List Cell} → Realises s 0 (rows_of 4096 T rows) cs → Kinds ks cs → (r : ℕ) → r < rows
    → has ks (row_at (room_of 4096 (length T)) T r).kind ≡ true
unfolding rows_of
rows_kinds T rows s {ks} m k r h =
    let l = counts m in
    let i : 0 + r ≡ r = omega arith in
    sym (ap (λ (n : ℕ). has ks (row_at (room_of 4096 (length T)) T n).kind) i)
    ∙ row_kind (realises_stands rows m) k r (omega (arith, h, l, written.rows_length 4096 T rows))

-- EVERY STATED ROW of a writable table has a kind of the form.
module _ (limit : ℕ) (T : List ℕ) (rows : ℕ) (s : List ℕ) (w : Words T) where
  pub binmode_has : writable_to limit T rows s ≡ true → (r : ℕ) → r < rows → has binmode_kinds (row_at (room_of 4096 (length T)) T r).kind ≡ true
  unfolding writable_to
  binmode_has h = let g = written.writable_derived 65536 4096 limit T rows s w h in rows_kinds T rows s g.meaning (message_kinds g.derived.derivation)

  pub glyph_has : (e : Edition) → writable e limit T rows s ≡ true → (r : ℕ) → r < rows → has (glyph_kinds e) (row_at (room_of 4096 (length T)) T r).kind ≡ true
  glyph_has e h = let g = told.writable_told e limit T rows s w h in rows_kinds T rows s g.1 (object_kinds g.0)

-- NOT BOTH: no table is writable for Binmode and for an edition of glyph, by whatever limits, since no object is a Call, a Response or a fault.
none_of : (e : Edition) (kind : ℕ) → has (node_kinds New) kind ≡ false → has (node_kinds Old) kind ≡ false → has (node_kinds e) kind ≡ false
none_of New kind h i = h
none_of Old kind h i = i

no_message : (e : Edition) {d : ℕ} {xs : List ℕ} {cs : List Cell} {fs : List Sent} → Message d xs cs fs → Kinds (glyph_kinds e) cs → ⊥
no_message e (call_message (call s a z b) i) (and_cell h k) = clash h (none_of e 1 refl refl)
no_message e (response_message (value_response v b) i) (and_cell h k) = clash h (none_of e 2 refl refl)
no_message e (response_message (fault_response f b) i) (and_cell h k) = clash h (none_of e 3 refl refl)

pub not_both : (e : Edition) (limit deep : ℕ) (T : List ℕ) (rows : ℕ) (s : List ℕ) → Words T → writable_to limit T rows s ≡ true → writable e deep T rows s ≡ false
unfolding writable_to
not_both e limit deep T rows s w h = go (writable e deep T rows s) refl
  where
    go : (b : Bool) → writable e deep T rows s ≡ b → writable e deep T rows s ≡ false
    go true i =
        let g = written.writable_derived 65536 4096 limit T rows s w h in
        let t = told.writable_told e deep T rows s w i in
        absurd (no_message e g.derived.derivation (rw (one_meaning g.meaning t.1) (object_kinds t.0)))
    go false i = i
