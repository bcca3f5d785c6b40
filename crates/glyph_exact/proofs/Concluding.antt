-- A root is read within any limits that are enough; so a message is refused for no other reason than its limits if it has a root, and a
-- message has one root at most. Assumes nothing.
use mathlib.Core.Path.{◌≡◌, refl, sym, ap, ◌∙◌}
use mathlib.Core.Bool.{false}
use mathlib.Core.List.{List, [], ◌++◌, append-nil}
use Prim.Native.Nat.{ℕ, ◌+◌, ◌≤◌, ◌<◌, max}
use native.Mathlib.Omega.{arith}
use lib.ListN.{length, length-append}
use borrow.Author.Tests.{le-leb}
use Rattle.draft.specs.declared.Row.{Row}
use Rattle.draft.specs.Bytes.{byte_at}
use Rattle.draft.specs.Meaning.{Realises}
use Rattle.exact.proofs.Standing.{Here, front, back}
use Rattle.exact.proofs.Realising.{one_meaning}
use Rattle.glyph.specs.declared.Refusal.{Refusal}
use Rattle.glyph.specs.declared.Refusal.TheVariants.{TooDeep, NoRow}
use Rattle.glyph.specs.declared.Edition.{Edition}
use Rattle.glyph.specs.declared.Want.TheVariants.{Any}
use Rattle.glyph.specs.Numbers.{is_blank, past}
use Rattle.glyph.specs.Read.{Reading, got, refused, object, rooted, root}
use Rattle.glyph.specs.Tree.{Tree, cells}
use Rattle.glyph.specs.Grammar.{any, Root}
use Rattle.glyph_bytes.proofs.Bytes.{get_d_past}
use Rattle.glyph_exact.proofs.Growing.{Grows, stays, deep, full, root_grows}
use Rattle.glyph_exact.proofs.Completing.{Reads, past_exact, begins_blank, object_begins, reads_object}

-- past the end no blank stands
no_blank_past : (s : List ℕ) (at : ℕ) → length s ≤ at → is_blank (byte_at s at) ≡ false
unfolding is_blank
no_blank_past s at h = rw (get_d_past s at h)

rooted_on : (s : List ℕ) (room : ℕ) (rows : List Row) {at used to : ℕ} → at ≡ used → past s at ≡ to → length s ≤ to → rooted s room (got rows at) ≡ got rows used
rooted_on s room rows e p h = rw (← e) (simp (p, le-leb _ _ h))

-- A ROOT IS READ
pub root_reads : {e : Edition} {d : ℕ} {s : List ℕ} {used : ℕ} {t : Tree} → Root e d s used t → (room : ℕ) → length (cells t) ≤ room → Reads s (root s room e d) 0 (cells t) used
unfolding root
root_reads {e} {d} {s} {used} {t} g room m =
    let whole : Here s 0 (g.before ++ (g.bytes ++ g.after)) = record { rest = []; from = g.is ∙ sym (append-nil _); starts = omega arith } in
    let hb : Here s 0 g.before = front g.before (g.bytes ++ g.after) whole refl in
    let hr : Here s (0 + length g.before) (g.bytes ++ g.after) = back g.before (g.bytes ++ g.after) whole refl in
    let ho : Here s (0 + length g.before) g.bytes = front g.bytes g.after hr refl in
    let ha : Here s (0 + length g.before + length g.bytes) g.after = back g.bytes g.after hr refl in
    let n : length s ≡ length g.before + (length g.bytes + length g.after) = ap length g.is ∙ omega (arith, length-append g.before (g.bytes ++ g.after), length-append g.bytes g.after) in
    let u : 0 + length g.before + length g.bytes ≡ used = omega (arith, g.ends) in
    let p : past s 0 ≡ 0 + length g.before = past_exact hb g.blanks_before (begins_blank (object_begins g.object) ho) in
    let q : past s (0 + length g.before + length g.bytes) ≡ 0 + length g.before + length g.bytes + length g.after = past_exact ha g.blanks_after (no_blank_past s _ (omega (arith, n))) in
    let i = reads_object g.object Any any ho room 0 (omega arith) in
    let last : length s ≤ 0 + length g.before + length g.bytes + length g.after = omega (arith, n) in
    record {
      rows = i.rows;
      is = ap (λ (x : ℕ). rooted s room (object s room e d Any x 0)) p ∙ ap (rooted s room) i.is ∙ rooted_on s room i.rows u q last;
      realises = i.realises;
    }

-- what stays
got_stays : {D R : Type 0} {rows : List Row} {used : ℕ} {o : Reading} → Grows D R (got rows used) o → o ≡ got rows used
got_stays stays = refl

refused_stays : {D R : Type 0} {m : Refusal} {p : ℕ} {o : Reading} → Grows D R (refused m p) o → (D → m ≡ TooDeep → ⊥) → (R → m ≡ NoRow → ⊥) → o ≡ refused m p
refused_stays stays n k = refl
refused_stays (deep x) n k = absurd (n x refl)
refused_stays (full x) n k = absurd (k x refl)

-- a message with a root, and limits that are enough for it
module _ {e : Edition} {d : ℕ} {s : List ℕ} {used : ℕ} {t : Tree} (g : Root e d s used t) where
  abbrev size : ℕ
  size = length (cells t)

  reads_within : (room limit : ℕ) → size ≤ room → d ≤ limit → (rows : List Row) × (root s room e limit ≡ got rows used) × Realises s 0 rows (cells t)
  reads_within room limit m h =
      let a = root_reads g size (omega arith) in
      let b : Grows (d < limit) (size < room) (got a.rows used) (root s room e limit) = rw a.is at (root_grows s m e d limit h) in
      (a.rows, got_stays b, a.realises)

  -- REFUSALS ARE TRUE: such a message is refused with 8 only if the limit is lower than its nesting, and with 9 only if it has more rows than
  -- there is room for; and with nothing else
  pub refused_true :
      (room limit : ℕ) {m : Refusal} {p : ℕ} → root s room e limit ≡ refused m p → (limit < d → m ≡ TooDeep → ⊥) → (room < size → m ≡ NoRow → ⊥) → ⊥
  refused_true room limit {m} {p} i n k =
      let a = reads_within (max room size) (max limit d) (omega arith) (omega arith) in
      let c : Grows (limit < max limit d) (room < max room size) (refused m p) (root s (max room size) e (max limit d)) =
      rw i at (root_grows s {room = room} {room' = max room size} (omega arith) e limit (max limit d) (omega arith)) in
      let q : got a.0 used ≡ refused m p = sym a.1 ∙ refused_stays c (λ h. n (omega (arith, h))) (λ h. k (omega (arith, h))) in
      let z : ◌≡◌ {A = ℕ} 0 1 = cc in
      absurd (omega arith)

-- ONE MEANING
pub one_root : {e : Edition} {d d' : ℕ} {s : List ℕ} {used used' : ℕ} {t t' : Tree} → Root e d s used t → Root e d' s used' t' → (used ≡ used') × (cells t ≡ cells t')
one_root {e} {d} {d'} {s} {used} {used'} {t} {t'} g h =
    let a = reads_within g (max (length (cells t)) (length (cells t'))) (max d d') (omega arith) (omega arith) in
    let b = reads_within h (max (length (cells t)) (length (cells t'))) (max d d') (omega arith) (omega arith) in
    let q : got a.0 used ≡ got b.0 used' = sym a.1 ∙ b.1 in
    let u : used ≡ used' = cc in
    let w : a.0 ≡ b.0 = cc in
    let z : Realises s 0 a.0 (cells t') = rw w b.2 in
    (u, one_meaning a.2 z)
