-- The three objects of an extension or a node, and its end. Assumes nothing.
use mathlib.Core.Path.{◌≡◌, refl, sym, ap, ◌∙◌}
use mathlib.Core.List.{List, [], ◌∷◌}
use Prim.Native.Nat.{ℕ, zero, suc, ◌+◌, ◌-◌, ◌≤◌, ◌<◌}
use native.Mathlib.Omega.{arith}
use native.Mathlib.Numerals.{add-one}
use native.Mathlib.Nat.{add-zero}
use lib.ListN.{length, get_or}
use borrow.Author.Tests.{lt-ltb, le-ltb, eq-eqb, ne_eqb}
use Rattle.draft.specs.Rows.{row}
use Rattle.draft.specs.Table.{set_row, put_rows}
use Rattle.std.specs.Prelude.{Ok, Err}
use Rattle.draft.specs.declared.Refused.{Refused}
use Rattle.item.specs.declared.Reached.{Reached}
use Rattle.item.specs.Contract.{reached, read_to}
use Rattle.keys.specs.Notes.{named, Keeps}
use Rattle.keys.proofs.Keeping.{keeps_none}
use Rattle.glyph.specs.declared.Refusal.{Refusal}
use Rattle.glyph.specs.declared.Refusal.TheVariants.{Ended, UnexpectedByte}
use Rattle.glyph.specs.declared.Edition.{Edition}
use Rattle.glyph.specs.declared.Three.{Three as ThreeLetter}
use Rattle.glyph.specs.declared.Want.{Want}
use Rattle.glyph.specs.declared.Want.TheVariants.{Any}
use Rattle.glyph.specs.Letters.{three_kind, name_want, attributes_want}
use Rattle.glyph.specs.Numbers.{past}
use Rattle.glyph.specs.Read.{Reading, Reader, got, refused, next, closing, three, object}
use Rattle.glyph_bytes.specs.Places.{Skipped}
use Rattle.glyph_item.specs.Contract.{Step, refused_at}
use Rattle.glyph_item.proofs.Readings.{did_next, did_not, done, did_no, ok_is}
use Rattle.glyph_keys.specs.Contract.{Prepared, Done}
use Rattle.glyph_objects.specs.Contract.{Begun, Nexted, Closable, Closed, short, wrong, right}
use Rattle.glyph_objects.proofs.Objects.{after_not, done_no, done_by}
use Rattle.glyph_objects.proofs.Entering.{next_done, done_ready}
use Rattle.glyph_objects.proofs.Running.{noted_next, closed_keeps}

-- the returns of the function that ends an object with three children
module _ (s : List ℕ) (before : Reached) (kind r : ℕ) {room : ℕ} {T T' : List ℕ} {step : Step} {to : ℕ} where
  pub end_short : Skipped s before.at to → length s ≤ to → step ≡ refused_at Ended to → Closed s before kind r room T T' step
  end_short k h e = short {step = step} (rw (← k.is) h) (rw (← k.is) e)

  pub end_wrong : Skipped s before.at to → to < length s → (get_or s to 0 ≡ 59 → ⊥) → step ≡ refused_at UnexpectedByte to → Closed s before kind r room T T' step
  end_wrong k h n e = wrong {step = step} (rw (← k.is) h) (rw (← k.is) n) (rw (← k.is) e)

pub end_right : (s : List ℕ) (before : Reached) (kind r : ℕ) {room : ℕ} {T T' : List ℕ} {to : ℕ} → Skipped s before.at to → to < length s → get_or s to 0 ≡ 59 → T' ≡ set_row room T r (row kind 0 3 before.row) → Closed s before kind r room T T' (read_to (to + 1) before.row)
end_right s before kind r {to = to} k h n w = right {step = read_to (to + 1) before.row} (rw (← k.is) h) (rw (← k.is) n) (rw k.is) w

pub end_in : {s : List ℕ} {before : Reached} {r room : ℕ} {T : List ℕ} → Closable s before r room T → before.at ≤ length s
end_in c = c.within

pub end_fits : {s : List ℕ} {before : Reached} {r room : ℕ} {T : List ℕ} → Closable s before r room T → before.row < 4294967296
end_fits c = omega (arith, c.fits, c.rows)

past_ahead : (s : List ℕ) (at : ℕ) → at ≤ past s at
unfolding past
past_ahead s at = omega arith

-- the end of what was read
closing_done : {s : List ℕ} {at r room : ℕ} {T N : List ℕ} (k : ℕ) {o : Reading} {T₃ N₃ T₄ : List ℕ} {last : Reached} {step : Step} → Begun s at r room → Prepared s at r room T N → Done o s room (at + 1) (r + 1) T T₃ N N₃ (Ok last) → Closed s last k r room T₃ T₄ step → Done (closing s k r o) s room (at + 1) r T T₄ N N₃ step
unfolding put_rows
closing_done {s} {r = r} k b p d (short h q) = let g = did_next d.did refl in done_no Ended q (ap (closing s k r) g.reading ∙ simp (le-ltb _ _ h))
closing_done {s} {r = r} k b p d (wrong h n q) = let g = did_next d.did refl in done_no UnexpectedByte q (ap (closing s k r) g.reading ∙ simp (lt-ltb _ _ h, ne_eqb _ _ n))
closing_done {s} {at} {r} {room} {T} {N} k {o} {T₃} {N₃} {T₄} {last} {step} b p d (right h n q t) =
    let g = did_next d.did refl in
    let c : r + suc (length g.rows) ≡ last.row = omega (arith, g.next) in
    let i : r + 1 + length g.rows ≡ last.row = omega (arith, g.next) in
    let y : closing s k r o ≡ got (row k 0 3 (r + 1 + length g.rows) ∷ g.rows) (past s last.at + 1) = ap (closing s k r) g.reading ∙ simp (lt-ltb _ _ h, eq-eqb _ _ n) in
    let w : Keeps (named s room T) (named s room T₄) N N₃ r last.row = closed_keeps s room r T T₃ (row k 0 3 last.row) p.noted (d.after.keeps last refl) t b.left g.fits in
    record {
      did = done y
          (record {
            says = q ∙ simp c;
            leaves = record { wrote = t ∙ ap (λ (x : ℕ). set_row room T₃ r (row k 0 3 x)) (sym i) ∙ ap (λ (U : List ℕ). set_row room U r (row k 0 3 (r + 1 + length g.rows))) (g.wrote ∙ ap (λ (x : ℕ). put_rows room T x g.rows) (add-one r)); ahead = omega (arith, g.ahead, past_ahead s last.at); within = omega arith; fits = rw c g.fits };
          });
      after = record {
        keeps = λ x z. rw (← ok_is q z) w;
        behind = λ x z. rw (← ok_is q z) (omega (arith, d.after.behind last refl, past_ahead s last.at));
      };
    }

-- from the letter on, nothing read yet
module _ {s : List ℕ} {at r room : ℕ} {T N : List ℕ} (b : Begun s at r room) (p : Prepared s at r room T N) where
  start_done : Done (got [] (at + 1)) s room (at + 1) (r + 1) T T N N (read_to (at + 1) (r + 1))
  unfolding put_rows
  start_done =
      record {
        did = record { says = rw (add-zero (r + 1)); leaves = record { wrote = refl; ahead = omega arith; within = omega (arith, b.there); fits = omega (arith, b.left) } };
        after = record {
          keeps = λ x z. rw (← ok_is refl z) (keeps_none (noted_next p.noted) (λ k h. refl) _ (omega arith));
          behind = λ x z. rw (← ok_is refl z) (omega (arith, p.entries.behind));
        };
      }

-- what may stand as the first, the second and the third object of an extension or a node
abbrev pub part_want : ThreeLetter → ℕ → Want
part_want l zero = name_want l
part_want l (suc zero) = attributes_want l
part_want l (suc (suc k)) = Any

pub want_at : (l : ThreeLetter) (k : ℕ) {x y : Want} (d : Want) → x ≡ name_want l → y ≡ attributes_want l → k < 3 → get_or (x ∷ y ∷ Any ∷ []) k d ≡ part_want l k
want_at l zero d e f h = e
want_at l (suc zero) d e f h = f
want_at l (suc (suc zero)) d e f h = refl
want_at l (suc (suc (suc k))) d e f h = absurd (omega arith)

-- the first k objects of an extension or a node
unfoldable pub parts : List ℕ → (Want → Reader) → ThreeLetter → ℕ → ℕ → ℕ → Reading
parts s f l at r zero = got [] (at + 1)
parts s f l at r (suc k) = next s (parts s f l at r k) (r + 1) (f (part_want l k))

-- a refusal of one is the refusal of all three
parts_not : (s : List ℕ) (f : Want → Reader) (l : ThreeLetter) (at r k : ℕ) {m : Refusal} {p : ℕ} → k < 3 → parts s f l at r (suc k) ≡ refused m p → parts s f l at r 3 ≡ refused m p
unfolding parts
parts_not s f l at r zero h e = ap (λ (x : Reading). next s (next s x (r + 1) (f (part_want l 1))) (r + 1) (f (part_want l 2))) e
parts_not s f l at r (suc zero) h e = ap (λ (x : Reading). next s x (r + 1) (f (part_want l 2))) e
parts_not s f l at r (suc (suc zero)) h e = e
parts_not s f l at r (suc (suc (suc k))) h e = absurd (omega arith)

module _ (s : List ℕ) (e : Edition) (deep : ℕ) (l : ThreeLetter) (at r : ℕ) {room : ℕ} {T N : List ℕ} where
  pub parts_first : Begun s at r room → Prepared s at r room T N → Done (parts s (object s room e deep) l at r 0) s room (at + 1) (r + 1) T T N N (read_to (at + 1) (r + 1))
  unfolding parts
  parts_first b p = start_done b p

  module _ (k : ℕ) {T₁ N₁ : List ℕ} {last : Reached} (d : Done (parts s (object s room e deep) l at r k) s room (at + 1) (r + 1) T T₁ N N₁ (Ok last)) where
    pub parts_again : {w : Want} {T₂ N₂ : List ℕ} {step : Step} {x : Reached} → Nexted s room e deep w last T₁ T₂ N₁ N₂ step → step ≡ Ok x → w ≡ part_want l k → Done (parts s (object s room e deep) l at r (k + 1)) s room (at + 1) (r + 1) T T₂ N N₂ (Ok x)
    unfolding parts
    parts_again n z i = rw (add-one k, ← i, ← z) (next_done d refl n)

    pub parts_ready : Begun s at r room → Prepared s at r room T N → length T₁ ≡ length T → length N₁ ≡ length N → Prepared s last.at last.row room T₁ N₁
    parts_ready b p t n = done_ready p d refl t n

    pub parts_closable : Begun s at r room → Prepared s at r room T N → length T₁ ≡ length T → Closable s last r room T₁
    parts_closable b p t =
        let f = p.fitting in
        let g = did_next d.did refl in
        record {
          within = g.within;
          fits = g.fits;
          left = b.left;
          rows = f.rows;
          table = rw t f.table;
          message = f.message;
        }

    -- its end
    pub parts_done : {m : ℕ} {T₂ : List ℕ} {step : Step} → Begun s at r room → Prepared s at r room T N → k ≤ 3 → 3 ≤ k → m ≡ three_kind l → Closed s last m r room T₁ T₂ step → Done (three s l (object s room e deep) at r) s room (at + 1) r T T₂ N N₁ step
    unfolding three parts
    parts_done {m} b p h i j c =
        let q : k ≡ 3 = omega arith in
        done_by (rw (← j)) (closing_done m b p (rw q at d) c)

    pub parts_stops : {w : Want} {T₂ N₂ : List ℕ} {x : Refused Refusal} {step answer : Step} → Nexted s room e deep w last T₁ T₂ N₁ N₂ step → k < 3 → w ≡ part_want l k → step ≡ Err x → answer ≡ Err x → Done (three s l (object s room e deep) at r) s room (at + 1) r T T₂ N N₂ answer
    unfolding three parts
    parts_stops {x = x} n h i z q =
        let m : parts s (object s room e deep) l at r (suc k) ≡ refused x.refusal x.place = rw (← i) (did_not (next_done d refl n).did z) in
        record { did = did_no x.refusal q (ap (closing s (three_kind l) r) (parts_not s (object s room e deep) l at r k h m)); after = after_not q }

pub ruleset ending = (end_short, end_wrong, end_right, end_in, end_fits, parts_first, parts_again, parts_ready, parts_closable, parts_done, parts_stops)
