-- The run of a container's things: where the loop stands, and what answers its turns. Assumes nothing.
use mathlib.Core.Path.{◌≡◌, refl, sym, ap, ◌∙◌}
use mathlib.Core.Bool.{Bool, true, false, true≢false}
use mathlib.Core.List.{List, [], ◌∷◌, ◌++◌}
use Prim.Native.Nat.{ℕ, zero, suc, ◌+◌, ◌-◌, ◌*◌, ◌≤◌, ◌<◌}
use native.Mathlib.Omega.{arith}
use native.Mathlib.Numerals.{sub-one, add-one}
use native.Mathlib.Nat.{add-zero}
use mir.Syntax.{w32, w64}
use mir.Val.{Fits}
use lib.Dec.{eqb}
use lib.ListN.{length, length-append, get_or}
use Rattle.draft.specs.declared.Row.{Row}
use Rattle.draft.specs.Rows.{row}
use Rattle.draft.specs.Strings.{Text}
use Rattle.draft.specs.Table.{set_row, put_rows}
use Rattle.table.proofs.Rows.{put_append, length_put_rows}
use Rattle.table.proofs.Stored.{row_other}
use Rattle.std.specs.Prelude.{Ok, Err}
use Rattle.draft.specs.declared.Refused.{Refused}
use Rattle.item.specs.declared.Reached.{Reached}
use Rattle.item.specs.Contract.{read_to}
use Rattle.keys.specs.Notes.{owner_of, named, keys_of, Noted, Keeps}
use Rattle.keys.proofs.Keeping.{keys_first, key_below, noted_move, keeps_none, keeps_then, keeps_moved}
use Rattle.glyph.specs.declared.Refusal.{Refusal}
use Rattle.glyph.specs.declared.Edition.{Edition}
use Rattle.glyph.specs.declared.Want.{Want}
use Rattle.glyph.specs.declared.Many.{Many as ManyLetter}
use Rattle.glyph.specs.Letters.{many_kind, keyed_by}
use Rattle.glyph.specs.Numbers.{past}
use Rattle.glyph.specs.Read.{got, refused, Reader, Texts, run, entry, kept, many, object}
use Rattle.glyph_bytes.specs.Places.{Skipped, Open}
use Rattle.glyph_item.specs.Contract.{Step, Did}
use Rattle.glyph_item.proofs.Readings.{Got, did_next, did_not, done, did_no, ok_is}
use Rattle.glyph_keys.specs.Contract.{After, Joined, Prepared, Done}
use Rattle.glyph_keys.proofs.Keying.{first_is}
use Rattle.glyph_objects.specs.Contract.{Begun, EntryDone}
use Rattle.glyph_objects.proofs.Objects.{after_not}

-- a turn of the run
module _ (s : List ℕ) (f : Texts → Reader) (more : Texts → List Row → Texts) (kind n : ℕ) (seen : Texts) (acc : List Row) (at r : ℕ) where
  pub run_closed : (fuel : ℕ) → 0 < fuel → eqb (get_or s at 0) 59 ≡ true → run s f more kind fuel n seen acc at r ≡ got (row kind 0 n (r + 1 + length acc) ∷ acc) (at + 1)
  unfolding run
  run_closed zero h e = absurd (omega arith)
  run_closed (suc fuel) h e = rw e

  pub run_got : (fuel : ℕ) {rows : List Row} {at' : ℕ} → 0 < fuel → eqb (get_or s at 0) 59 ≡ false → f seen at (r + 1 + length acc) ≡ got rows at' → run s f more kind fuel n seen acc at r ≡ run s f more kind (fuel - 1) (n + 1) (more seen rows) (acc ++ rows) (past s at') r
  unfolding run
  run_got zero h e i = absurd (omega arith)
  run_got (suc fuel) h e i = rw (e, i, sub-one)

  pub run_refused : (fuel : ℕ) {m : Refusal} {q : ℕ} → 0 < fuel → eqb (get_or s at 0) 59 ≡ false → f seen at (r + 1 + length acc) ≡ refused m q → run s f more kind fuel n seen acc at r ≡ refused m q
  unfolding run
  run_refused zero h e i = absurd (omega arith)
  run_refused (suc fuel) h e i = rw (e, i)

-- where the run of a container that began at at₀ stands, with n things read, and enough fuel left; its keys, if it has some, are noted for the
-- row behind its own
pub record Going (s : List ℕ) (room : ℕ) (e : Edition) (deep : ℕ) (l : ManyLetter) (at₀ own : ℕ) (T₀ N₀ : List ℕ) (n at free : ℕ) (T N : List ℕ) : Type 0 where
  pub seen : Texts
  pub acc : List Row
  pub fuel : ℕ
  pub same : run s (entry s (keyed_by l) (object s room e deep)) (kept s (keyed_by l)) (many_kind l) (length s) 0 [] [] at₀ own ≡ run s (entry s (keyed_by l) (object s room e deep)) (kept s (keyed_by l)) (many_kind l) fuel n seen acc at own
  pub enough : length s - at < fuel
  pub next : free ≡ own + 1 + length acc
  pub wrote : T ≡ put_rows room T₀ (own + 1) acc
  pub ahead : at₀ + n ≤ at
  pub within : at ≤ length s
  pub fits : free ≤ room
  pub keeps : Keeps (named s room T₀) (named s room T) N₀ N (own + 1) free
  pub are : keyed_by l ≡ true → keys_of (named s room T) N (own + 1) free ≡ seen
  pub behind : free ≤ at
  pub table : room * 4 ≤ length T

pub noted_next : {t : ℕ → Text} {N : List ℕ} {r : ℕ} → Noted t N r → Noted t N (r + 1)
noted_next {r = r} a = noted_move a (λ k h. refl) (r + 1) (omega arith)

pub going_first : (e : Edition) (deep : ℕ) (l : ManyLetter) (at : ℕ) {s : List ℕ} {room own here : ℕ} {T N : List ℕ} → Begun s at own room → Prepared s at own room T N → Skipped s (at + 1) here → Going s room e deep l here own T N 0 here (own + 1) T N
unfolding put_rows
going_first e deep l at {s} {room} {own} {here} {T} {N} b p z =
    record {
      seen = [];
      acc = [];
      fuel = length s;
      same = refl;
      enough = omega (arith, z.ahead, z.within);
      next = sym (add-zero (own + 1));
      wrote = refl;
      ahead = omega arith;
      within = z.within;
      fits = omega (arith, b.left);
      keeps = keeps_none (noted_next p.noted) (λ k l. refl) _ (omega arith);
      are = λ _. keys_first (noted_next p.noted);
      behind = omega (arith, p.entries.behind, z.ahead);
      table = p.fitting.table;
    }

-- what a thing does to the notes: behind a key that is noted, or none
thing_keeps : (b : Bool) {t₀ t t' : ℕ → Text} {N₀ N N' : List ℕ} {owner free : ℕ} {step : Step} {x : Reached} → owner ≤ free → free ≤ x.row → Keeps t₀ t N₀ N owner free → (b ≡ true → Joined t t' N N' owner free step) → (b ≡ false → After t t' N N' free step) → step ≡ Ok x → Keeps t₀ t' N₀ N' owner x.row
thing_keeps true {x = y} h m k j a z =
    let x = (j refl).joins y z in
    record {
      noted = x.noted;
      owners = λ q l. x.owners q (omega arith) ∙ k.owners q l;
      keys = λ o p l. x.others o p (omega arith) (λ q. omega arith) ∙ k.keys o p l;
    }
thing_keeps false {x = y} h m k j a z = keeps_then k h ((a refl).keeps y z)

thing_behind : (b : Bool) {t t' : ℕ → Text} {N N' : List ℕ} {owner free : ℕ} {step : Step} {x : Reached} → (b ≡ true → Joined t t' N N' owner free step) → (b ≡ false → After t t' N N' free step) → step ≡ Ok x → x.row ≤ x.at
thing_behind true {x = x} j a z = (j refl).behind x z
thing_behind false {x = x} j a z = (a refl).behind x z

same_entry : (s : List ℕ) (b : Bool) (f : Want → Reader) {seen seen' : Texts} (at r : ℕ) → (b ≡ true → seen ≡ seen') → entry s b f seen at r ≡ entry s b f seen' at r
unfolding entry
same_entry s true f at r h = rw (h refl)
same_entry s false f at r h = refl

thing_keys : (s : List ℕ) (room : ℕ) (b : Bool) (seen : Texts) (rows : List Row) (T T' N : List ℕ) {N' : List ℕ} (owner free : ℕ) {step : Step} {x : Reached} → b ≡ true → (b ≡ true → Joined (named s room T) (named s room T') N N' owner free step) → step ≡ Ok x → (b ≡ true → keys_of (named s room T) N owner free ≡ seen) → T' ≡ put_rows room T free rows → x.row ≡ free + length rows → x.row ≤ room → room * 4 ≤ length T → keys_of (named s room T') N' owner x.row ≡ kept s b seen rows
unfolding kept
thing_keys s room true seen rows T T' N owner free {x = y} i j z k w m f t =
    let x = (j refl).joins y z in
    x.mine ∙ rw (k refl, first_is s room free T T' rows w (omega (arith, x.on)) (omega (arith, x.on)) t)
thing_keys s room false seen rows T T' N owner free i j z k w m f t = absurd (true≢false (sym i))

-- the rows of a container stand behind its own, which is no key
pub closed_keeps : (s : List ℕ) (room own : ℕ) {free : ℕ} (T T₁ : List ℕ) {T₂ N N₁ : List ℕ} (x : Row) → Noted (named s room T) N own → Keeps (named s room T) (named s room T₁) N N₁ (own + 1) free → T₂ ≡ set_row room T₁ own x → own < room → free ≤ room → Keeps (named s room T) (named s room T₂) N N₁ own free
unfolding named
closed_keeps s room own {free} T T₁ {T₂} {N} {N₁} x a k w h f = keeps_then (keeps_none a (λ q l. refl) (own + 1) (omega arith)) (omega arith) (keeps_moved k same_text)
  where
    same_text : (q : ℕ) → 0 < owner_of N₁ q → named s room T₂ q ≡ named s room T₁ q
    same_text q l =
        let b = key_below k.noted q l in
        rw (w, row_other room T₁ own q x h (omega arith) (λ i. omega (arith, ap (owner_of N₁) i, k.owners own (omega arith), a.blank own (omega arith))))

module _ {s : List ℕ} {room : ℕ} {e : Edition} {deep : ℕ} {l : ManyLetter} {at₀ own : ℕ} {T₀ N₀ : List ℕ} {n at free : ℕ} {T N : List ℕ} (i : Going s room e deep l at₀ own T₀ N₀ n at free T N) where
  pub going_ready : {at' : ℕ} → Prepared s at' own room T₀ N₀ → length N ≡ length N₀ → Prepared s at free room T N
  going_ready p m =
      let f = p.fitting in
      let x = p.entries in
      record {
        fitting = record { within = i.within; fits = i.fits; rows = f.rows; table = i.table; message = f.message };
        entries = record { behind = i.behind; enough = rw m x.enough; most = rw m x.most };
        noted = i.keeps.noted;
      }

  pub going_owner : {owner : ℕ} → owner ≡ own + 1 → owner ≤ free
  going_owner q = omega (arith, i.next)

  module _ {keyed : Bool} {owner : ℕ} {T' N' : List ℕ} {step : Step} (k : keyed ≡ keyed_by l) (o : owner ≡ own + 1) (d : EntryDone keyed s room e deep owner at free T T' N N' step) where
    entered : EntryDone (keyed_by l) s room e deep (own + 1) at free T T' N N' step
    entered = rw (k, o) at d

    thing_did : Did (entry s (keyed_by l) (object s room e deep) i.seen at free) (length s) room (at + 1) free T T' step
    thing_did = done (sym (same_entry s (keyed_by l) (object s room e deep) at free i.are)) entered.did

    again : {b : Bool} {x : Reached} {to : ℕ} → Open s at b → b ≡ true → step ≡ Ok x → Skipped s x.at to → EntryDone (keyed_by l) s room e deep (own + 1) at free T T' N N' step → Got (entry s (keyed_by l) (object s room e deep) i.seen at free) (length s) room (at + 1) free T T' x → Going s room e deep l at₀ own T₀ N₀ (n + 1) to x.row T' N'
    again {b} {to = to} x y z q c g =
        let len : length (i.acc ++ g.rows) ≡ length i.acc + length g.rows = length-append i.acc g.rows in
        record {
          seen = kept s (keyed_by l) i.seen g.rows;
          acc = i.acc ++ g.rows;
          fuel = i.fuel - 1;
          same = i.same ∙ run_got s (entry s (keyed_by l) (object s room e deep)) (kept s (keyed_by l)) (many_kind l) n i.seen i.acc at own i.fuel (omega (arith, i.enough)) (x.on y) (ap (entry s (keyed_by l) (object s room e deep) i.seen at) (sym i.next) ∙ g.reading) ∙ rw q.is;
          enough = omega (arith, i.enough, g.ahead, q.ahead, q.within);
          next = omega (arith, g.next, i.next, len);
          wrote = g.wrote ∙ rw (i.wrote, i.next) (put_append room T₀ (own + 1) i.acc g.rows (omega (arith, g.next, i.next, g.fits)));
          ahead = omega (arith, i.ahead, g.ahead, q.ahead);
          within = q.within;
          fits = g.fits;
          keeps = thing_keeps (keyed_by l) (omega (arith, i.next)) (omega (arith, g.next)) i.keeps c.joined c.after z;
          are = λ w. thing_keys s room (keyed_by l) i.seen g.rows T T' N (own + 1) free w c.joined z i.are g.wrote g.next g.fits i.table;
          behind = omega (arith, thing_behind (keyed_by l) c.joined c.after z, q.ahead);
          table = rw (g.wrote, length_put_rows room T free g.rows) i.table;
        }

    pub going_again : {b : Bool} {x : Reached} {to : ℕ} → Open s at b → b ≡ true → step ≡ Ok x → Skipped s x.at to → Going s room e deep l at₀ own T₀ N₀ (n + 1) to x.row T' N'
    going_again x y z q = again x y z q entered (did_next thing_did z)

    pub going_less : {x : Reached} {to : ℕ} → step ≡ Ok x → Skipped s x.at to → length s - to < length s - at
    going_less z q = let g = did_next thing_did z in omega (arith, g.ahead, g.within, q.ahead, q.within)

    pub thing_in : {x : Reached} → step ≡ Ok x → x.at ≤ length s
    thing_in z = (did_next thing_did z).within

    pub going_stops : (p : ℕ) {b : Bool} {x : Refused Refusal} {T'' N'' : List ℕ} {answer : Step} → Skipped s (p + 1) at₀ → Open s at b → b ≡ true → step ≡ Err x → answer ≡ Err x → Done (many s l (object s room e deep) p own) s room (p + 1) own T₀ T'' N₀ N'' answer
    unfolding many
    going_stops p {x = w} q x y z f =
        record {
          did = did_no w.refusal f (rw (← q.is) (i.same ∙ run_refused s (entry s (keyed_by l) (object s room e deep)) (kept s (keyed_by l)) (many_kind l) n i.seen i.acc at own i.fuel (omega (arith, i.enough)) (x.on y) (ap (entry s (keyed_by l) (object s room e deep) i.seen at) (sym i.next) ∙ did_not thing_did z)));
          after = after_not f;
        }

  pub going_done : (p : ℕ) {b : Bool} {k : ℕ} {T' : List ℕ} → Prepared s p own room T₀ N₀ → Skipped s (p + 1) at₀ → Open s at b → b ≡ false → k ≡ many_kind l → T' ≡ set_row room T own (row k 0 n free) → Done (many s l (object s room e deep) p own) s room (p + 1) own T₀ T' N₀ N (read_to (at + 1) free)
  unfolding many put_rows
  going_done p {b} {k} {T'} r q x y m w =
      let c : own + suc (length i.acc) ≡ free = omega (arith, i.next) in
      let t = x.there y in
      let o : run s (entry s (keyed_by l) (object s room e deep)) (kept s (keyed_by l)) (many_kind l) (length s) 0 [] [] (past s (p + 1)) own ≡ got (row (many_kind l) 0 n (own + 1 + length i.acc) ∷ i.acc) (at + 1) =
      rw (← q.is) (i.same ∙ run_closed s (entry s (keyed_by l) (object s room e deep)) (kept s (keyed_by l)) (many_kind l) n i.seen i.acc at own i.fuel (omega (arith, i.enough)) (x.ends y)) in
      record {
        did = done o
            (record {
              says = simp c;
              leaves = record { wrote = w ∙ simp (m, i.wrote, i.next, add-one); ahead = omega (arith, i.ahead, q.ahead); within = omega arith; fits = rw c i.fits };
            });
        after = record {
          keeps = λ x e. rw (← ok_is refl e) (closed_keeps s room own T₀ T (row k 0 n free) r.noted i.keeps w (omega (arith, i.next, i.fits)) i.fits);
          behind = λ x e. rw (← ok_is refl e) (omega (arith, i.behind));
        };
      }

  -- what a turn's sums and casts ask
  pub count_next : length s ≤ 65536 → Fits w64 (n + 1)
  count_next h = omega (arith, i.ahead, i.within)

  pub count_fits : length s ≤ 65536 → Fits w32 n
  count_fits h = omega (arith, i.ahead, i.within)

  pub free_fits : room ≤ 4096 → Fits w32 free
  free_fits h = omega (arith, i.fits)

  pub place_next : length s ≤ 65536 → Fits w64 (at + 1)
  place_next h = omega (arith, i.within)

  pub going_table : room * 4 ≤ length T
  going_table = i.table

pub ruleset running = (going_first, going_ready, going_owner, going_again, going_less, thing_in, going_stops, going_done, count_next, count_fits, free_fits, place_next, going_table)
