-- One object behind another, and one thing of a container. Assumes nothing.
use mathlib.Core.Path.{◌≡◌, refl, sym, ap, ◌∙◌}
use mathlib.Core.Bool.{Bool, true, false, true≢false, cond}
use mathlib.Core.List.{List, ◌++◌}
use Prim.Native.Nat.{ℕ, zero, suc, ◌+◌, ◌≤◌, ◌<◌}
use native.Mathlib.Omega.{arith}
use lib.Dec.{eqb, ltb}
use lib.ListN.{length, length-append, get_or}
use borrow.Author.Tests.{eqb-true}
use Rattle.table.proofs.Rows.{put_append}
use Rattle.std.specs.Prelude.{Ok, Err}
use Rattle.draft.specs.declared.Refused.{Refused}
use Rattle.item.specs.declared.Reached.{Reached}
use Rattle.item.specs.Contract.{Fitting, reached}
use Rattle.keys.specs.Notes.{named}
use Rattle.keys.proofs.Keeping.{keeps_then}
use Rattle.glyph.specs.declared.Refusal.{Refusal}
use Rattle.glyph.specs.declared.Refusal.TheVariants.{Ended, UnexpectedByte}
use Rattle.glyph.specs.declared.Edition.{Edition}
use Rattle.glyph.specs.declared.Edition.TheVariants.{New, Old}
use Rattle.glyph.specs.declared.Want.{Want}
use Rattle.glyph.specs.declared.Want.TheVariants.{Any, Text as Name, EitherDict}
use Rattle.glyph.specs.declared.Leaf.TheVariants.{Integer, Bytes, True, False, Nil}
use Rattle.glyph.specs.declared.Many.TheVariants.{List as ListLetter, Dict, Ordered}
use Rattle.glyph.specs.declared.Letter.{Letter}
use Rattle.glyph.specs.declared.Letter.TheVariants.{Leaf, Many, Unknown}
use Rattle.glyph.specs.Letters.{letter_of, letter_x, letter_h, wanted}
use Rattle.glyph.specs.Numbers.{past}
use Rattle.glyph.specs.Read.{Reading, got, refused, Nest, behind, opened, text, leaf_of, next, entry, object, item}
use Rattle.glyph_bytes.specs.Places.{Skipped}
use Rattle.glyph_bytes.specs.Leafs.{leaf_by, LeafAt}
use Rattle.glyph_item.specs.Contract.{Step, answer, Leaves, Did}
use Rattle.glyph_item.proofs.Readings.{Got, did_next, did_not, did_no, ok_not}
use Rattle.glyph_keys.specs.Contract.{name, Joined, Prepared, Done, KeyDone, KeyIf}
use Rattle.glyph_keys.proofs.Ones.{name_one}
use Rattle.glyph_keys.proofs.Keying.{named_kept, joined_not}
use Rattle.glyph_objects.specs.Contract.{Nexted, EntryDone}
use Rattle.glyph_objects.proofs.Objects.{after_not, one_after, object_leaf}

-- what an accepted call leaves for the next
pub done_ready : {s : List ℕ} {at₀ r₀ : ℕ} {o : Reading} {room from r : ℕ} {T T' N N' : List ℕ} {step : Step} {x : Reached} → Prepared s at₀ r₀ room T N → Done o s room from r T T' N N' step → step ≡ Ok x → length T' ≡ length T → length N' ≡ length N → Prepared s x.at x.row room T' N'
done_ready {x = x} p d e t n =
    let g = did_next d.did e in
    let f = p.fitting in
    let z = p.entries in
    record {
      fitting = record { within = g.within; fits = g.fits; rows = f.rows; table = rw t f.table; message = f.message };
      entries = record { behind = d.after.behind x e; enough = rw n z.enough; most = rw n z.most };
      noted = (d.after.keeps x e).noted;
    }

-- blanks before an object
pub past_ready : {s : List ℕ} {at r room to : ℕ} {T N : List ℕ} → Prepared s at r room T N → Skipped s at to → Prepared s to r room T N
past_ready p z =
    let f = p.fitting in
    let x = p.entries in
    record {
      fitting = record { within = z.within; fits = f.fits; rows = f.rows; table = f.table; message = f.message };
      entries = record { behind = omega (arith, x.behind, z.ahead); enough = x.enough; most = x.most };
      noted = p.noted;
    }

pub ready_in : {s : List ℕ} {at r room : ℕ} {T N : List ℕ} → Prepared s at r room T N → at ≤ length s
ready_in p = p.fitting.within

pub ready_fits : {s : List ℕ} {at r room : ℕ} {T N : List ℕ} → Prepared s at r room T N → Fitting at r room (length s) (length T)
ready_fits p = p.fitting

further : {o : Reading} {bytes room from to r : ℕ} {T T' : List ℕ} {step : Step} → Did o bytes room from r T T' step → to ≤ from → Did o bytes room to r T T' step
further {o} {bytes} {room} {from} {to} {r} {T} {T'} {step} d h = record { says = d.says; leaves = go o d.leaves }
  where
    go : (o : Reading) → Leaves o bytes room from r T T' → Leaves o bytes room to r T T'
    go (refused m p) l = tt
    go (got rows at) l = record { wrote = l.wrote; ahead = omega (arith, l.ahead); within = l.within; fits = l.fits }

pub next_goes : {s : List ℕ} {room : ℕ} {e : Edition} {deep : ℕ} {want : Want} {before : Reached} {T T' N N' : List ℕ} {to : ℕ} {step : Step} → Skipped s before.at to → Done (object s room e deep want to before.row) s room (to + 1) before.row T T' N N' step → Nexted s room e deep want before T T' N N' step
next_goes {s} {room} {e} {deep} {want} {before} {T} {T'} {N} {N'} {to} {step} k d =
    let x : Done (object s room e deep want to before.row) s room (before.at + 1) before.row T T' N N' step = record { did = further d.did (omega (arith, k.ahead)); after = d.after } in
    record { done = rw k.is at x }

-- the rows of what stands before, and those of an object behind it
module _ {s : List ℕ} {o : Reading} {room : ℕ} {e : Edition} {deep : ℕ} {want : Want} {from r : ℕ} {T T₁ T₂ N₁ N₂ : List ℕ} {x : Reached} {before step : Step} (d : Did o (length s) room from r T T₁ before) (i : before ≡ Ok x) (n : Nexted s room e deep want x T₁ T₂ N₁ N₂ step) where
  join : (g : Got o (length s) room from r T T₁ x) → Did (object s room e deep want (past s x.at) (r + length g.rows)) (length s) room (x.at + 1) (r + length g.rows) T₁ T₂ step → Did (next s o r (object s room e deep want)) (length s) room from r T T₂ step
  join g k = rw g.reading (go (object s room e deep want (past s x.at) (r + length g.rows)) k.says k.leaves)
    where
      go : (y : Reading) → step ≡ answer (r + length g.rows) y → Leaves y (length s) room (x.at + 1) (r + length g.rows) T₁ T₂ → Did (behind g.rows y) (length s) room from r T T₂ step
      go (refused m q) y l = record { says = y; leaves = tt }
      go (got rows to) y l =
          let w : length (g.rows ++ rows) ≡ length g.rows + length rows = length-append g.rows rows in
          let m : r + length (g.rows ++ rows) ≡ r + length g.rows + length rows = omega arith in
          record {
            says = y ∙ rw m;
            leaves = record { wrote = l.wrote ∙ rw g.wrote (put_append room T r g.rows rows l.fits); ahead = omega (arith, g.ahead, l.ahead); within = l.within; fits = rw m l.fits };
          }

  next_did : Did (next s o r (object s room e deep want)) (length s) room from r T T₂ step
  next_did = let g = did_next d i in join g (rw g.next at n.done.did)

-- and the notes
pub next_done : {s : List ℕ} {o : Reading} {room : ℕ} {e : Edition} {deep : ℕ} {want : Want} {from r : ℕ} {T T₁ T₂ N N₁ N₂ : List ℕ} {x : Reached} {before step : Step} → Done o s room from r T T₁ N N₁ before → before ≡ Ok x → Nexted s room e deep want x T₁ T₂ N₁ N₂ step → Done (next s o r (object s room e deep want)) s room from r T T₂ N N₂ step
next_done {x = x} d i n =
    let g = did_next d.did i in
    record {
      did = next_did d.did i n;
      after = record { keeps = λ y z. keeps_then (d.after.keeps x i) (omega (arith, g.next)) (n.done.after.keeps y z); behind = n.done.after.behind };
    }

-- a key is read alike by any edition, at any depth
name_or : (c : Bool) (x y : Letter) → wanted Name x ≡ Unknown → wanted Name y ≡ Unknown → wanted Name (cond c x y) ≡ Unknown
name_or true x y p q = p
name_or false x y p q = q

name_x : (e : Edition) → wanted Name (letter_x e) ≡ Unknown
name_x New = refl
name_x Old = refl

name_h : (e : Edition) → wanted Name (letter_h e) ≡ Unknown
name_h New = refl
name_h Old = refl

name_none : (e : Edition) (b : ℕ) → eqb b 117 ≡ false → wanted Name (letter_of e b) ≡ Unknown
unfolding letter_of
name_none e b n =
    let t₁ : Letter = cond (eqb b 72) (letter_h e) Unknown in
    let p₁ : wanted Name t₁ ≡ Unknown = name_or (eqb b 72) (letter_h e) Unknown (name_h e) refl in
    let t₂ : Letter = cond (eqb b 88) (letter_x e) t₁ in
    let p₂ : wanted Name t₂ ≡ Unknown = name_or (eqb b 88) (letter_x e) t₁ (name_x e) p₁ in
    let t₃ : Letter = cond (eqb b 79) (Many Ordered) t₂ in
    let p₃ : wanted Name t₃ ≡ Unknown = name_or (eqb b 79) (Many Ordered) t₂ refl p₂ in
    let t₄ : Letter = cond (eqb b 68) (Many Dict) t₃ in
    let p₄ : wanted Name t₄ ≡ Unknown = name_or (eqb b 68) (Many Dict) t₃ refl p₃ in
    let t₅ : Letter = cond (eqb b 76) (Many ListLetter) t₄ in
    let p₅ : wanted Name t₅ ≡ Unknown = name_or (eqb b 76) (Many ListLetter) t₄ refl p₄ in
    let t₆ : Letter = cond (eqb b 78) (Leaf Nil) t₅ in
    let p₆ : wanted Name t₆ ≡ Unknown = name_or (eqb b 78) (Leaf Nil) t₅ refl p₅ in
    let t₇ : Letter = cond (eqb b 70) (Leaf False) t₆ in
    let p₇ : wanted Name t₇ ≡ Unknown = name_or (eqb b 70) (Leaf False) t₆ refl p₆ in
    let t₈ : Letter = cond (eqb b 84) (Leaf True) t₇ in
    let p₈ : wanted Name t₈ ≡ Unknown = name_or (eqb b 84) (Leaf True) t₇ refl p₇ in
    let t₉ : Letter = cond (eqb b 98) (Leaf Bytes) t₈ in
    let p₉ : wanted Name t₉ ≡ Unknown = name_or (eqb b 98) (Leaf Bytes) t₈ refl p₈ in
    let t₁₀ : Letter = cond (eqb b 105) (Leaf Integer) t₉ in
    let p₁₀ : wanted Name t₁₀ ≡ Unknown = name_or (eqb b 105) (Leaf Integer) t₉ refl p₉ in
    rw n p₁₀

item_name : (s : List ℕ) (room : ℕ) (e : Edition) (nest : Nest) (at r : ℕ) → item s room (wanted Name (letter_of e (get_or s at 0))) nest at r ≡ cond (eqb (get_or s at 0) 117) (opened room at r (text s true at r)) (refused UnexpectedByte at)
unfolding letter_of
item_name s room e nest at r = go (eqb (get_or s at 0) 117) refl
  where
    yes : (b : ℕ) → b ≡ 117 → item s room (wanted Name (letter_of e b)) nest at r ≡ opened room at r (text s true at r)
    yes b i = rw i refl

    go : (c : Bool) → eqb (get_or s at 0) 117 ≡ c → item s room (wanted Name (letter_of e (get_or s at 0))) nest at r ≡ cond c (opened room at r (text s true at r)) (refused UnexpectedByte at)
    go true i = yes (get_or s at 0) (eqb-true (get_or s at 0) 117 i)
    go false i = rw (name_none e (get_or s at 0) i)

pub object_name : (s : List ℕ) (room : ℕ) (e : Edition) (d at r : ℕ) → object s room e d Name at r ≡ name s room at r
unfolding object name
object_name s room e zero at r = ap (λ (x : Reading). cond (ltb at (length s)) x (refused Ended at)) (item_name s room e _ at r)
object_name s room e (suc d) at r = ap (λ (x : Reading). cond (ltb at (length s)) x (refused Ended at)) (item_name s room e _ at r)

-- a name, where nothing else may stand
pub next_name : {s : List ℕ} {room : ℕ} (e : Edition) (deep : ℕ) (want : Want) {before : Reached} {T T' N : List ℕ} {to : ℕ} {step : Step} → Skipped s before.at to → want ≡ Name → Did (name s room to before.row) (length s) room (to + 1) before.row T T' step → Prepared s to before.row room T N → Nexted s room e deep want before T T' N N step
next_name {s} {room} e deep want {before = before} {to = to} k w d p =
    rw w (next_goes k (record { did = rw (← object_name s room e deep to before.row) at d; after = one_after s to (name_one s room to before.row) d p }))

-- what a key leaves for its value
key_ready : {s : List ℕ} {room owner at r : ℕ} {T T₁ N N₁ : List ℕ} {key : Step} {x : Reached} → Prepared s at r room T N → KeyDone s room owner at r T T₁ N N₁ key → key ≡ Ok x → length T₁ ≡ length T → length N₁ ≡ length N → Prepared s x.at x.row room T₁ N₁
key_ready {x = x} p k e t n =
    let g = did_next k.did e in
    let f = p.fitting in
    let z = p.entries in
    record {
      fitting = record { within = g.within; fits = g.fits; rows = f.rows; table = rw t f.table; message = f.message };
      entries = record { behind = k.joined.behind x e; enough = rw n z.enough; most = rw n z.most };
      noted = (k.joined.joins x e).noted;
    }

-- a key and its value: the key is noted, and the keys of others stay what they were
module _ {s : List ℕ} {room owner at r : ℕ} {e : Edition} {deep : ℕ} {T T₁ N N₁ : List ℕ} {key : Step} (k : KeyDone s room owner at r T T₁ N N₁ key) where
  entry_refused : {x : Refused Refusal} {T₂ N₂ : List ℕ} {step : Step} → key ≡ Err x → step ≡ Err x → EntryDone true s room e deep owner at r T T₂ N N₂ step
  unfolding entry
  entry_refused {x} z i =
      record {
        did = did_no x.refusal i (ap (λ (y : Reading). next s y r (object s room e deep Any)) (did_not (rw (← object_name s room e deep at r) at k.did) z));
        joined = λ _. joined_not i;
        after = λ j. absurd (true≢false j);
      }

  module _ {T₂ N₂ : List ℕ} {x : Reached} {step : Step} (z : key ≡ Ok x) (n : Nexted s room e deep Any x T₁ T₂ N₁ N₂ step) where
    pair_joined : 0 < owner → owner ≤ r → Joined (named s room T) (named s room T₂) N N₂ owner r step
    pair_joined p q =
        let h = k.joined.joins x z in
        record {
          joins = λ j i.
              let y = n.done.after.keeps j i in
              let g = did_next n.done.did i in
              record {
                on = omega (arith, h.on, g.next);
                noted = y.noted;
                owners = λ o l. y.owners o (omega (arith, h.on)) ∙ h.owners o l;
                mine = y.keys owner p (omega (arith, h.on)) ∙ h.mine ∙ rw (named_kept s g r h.on);
                others = λ o u l m. y.keys o u (omega (arith, h.on)) ∙ h.others o u l m;
              };
          behind = n.done.after.behind;
        }

    entry_keyed : 0 < owner → owner ≤ r → EntryDone true s room e deep owner at r T T₂ N N₂ step
    unfolding entry
    entry_keyed p q =
        record {
          did = next_did (rw (← object_name s room e deep at r) at k.did) z n;
          joined = λ _. pair_joined p q;
          after = λ j. absurd (true≢false j);
        }

entry_plain : {s : List ℕ} {room owner at r : ℕ} {e : Edition} {deep : ℕ} {T T' N N' : List ℕ} {step : Step} → Done (object s room e deep Any at r) s room (at + 1) r T T' N N' step → EntryDone false s room e deep owner at r T T' N N' step
unfolding entry
entry_plain d = record { did = d.did; joined = λ j. absurd (true≢false (sym j)); after = λ _. d.after }

-- an object without children, where any may stand
pub thing_leaf : (s : List ℕ) (e : Edition) (deep at : ℕ) {room r : ℕ} {T T' N : List ℕ} {step : Step} {b : Bool} → LeafAt s at b → b ≡ true → Did (opened room at r (leaf_of s (leaf_by (get_or s at 0)) at r)) (length s) room (at + 1) r T T' step → Prepared s at r room T N → Done (object s room e deep Any at r) s room (at + 1) r T T' N N step
thing_leaf s e deep at l t d p = object_leaf s e deep Any at (l.there t) refl (l.letter t e) d p

pub leaf_in : {s : List ℕ} {at : ℕ} {b : Bool} → LeafAt s at b → b ≡ true → at < length s
leaf_in l t = l.there t

-- what stands before an object, a key or nothing
decide : (c : Step) {A : Type 0} → ((x : Reached) → c ≡ Ok x → A) → ((x : Refused Refusal) → c ≡ Err x → A) → A
decide (Ok x) f g = f x refl
decide (Err x) f g = g x refl

if_reached : {x : Reached} {a b : ℕ} {step : Step} → step ≡ Ok x → step ≡ Ok (reached a b) → reached a b ≡ x
if_reached e f = cc

module _ {s : List ℕ} {room owner at r : ℕ} {T T₁ N N₁ : List ℕ} {step : Step} where
  pub if_ready : {keyed : Bool} {x : Reached} → Prepared s at r room T N → KeyIf keyed s room owner at r T T₁ N N₁ step → step ≡ Ok x → length T₁ ≡ length T → length N₁ ≡ length N → Prepared s x.at x.row room T₁ N₁
  if_ready {keyed} {x} p k z t n = go keyed k
    where
      go : (b : Bool) → KeyIf b s room owner at r T T₁ N N₁ step → Prepared s x.at x.row room T₁ N₁
      go true k =
          let y = k.some refl in
          decide y.key
          (λ v e.
          let q = y.goes v e in
          rw (← if_reached z q.says) (past_ready (key_ready p y.done e t n) q.skipped))
          (λ v e. absurd (ok_not z (y.stops v e)))
      go false k =
          let y = k.none refl in
          rw (← if_reached z y.says, y.table, y.notes) p

  module _ {keyed : Bool} (e : Edition) (deep : ℕ) (k : KeyIf keyed s room owner at r T T₁ N N₁ step) (h : 0 < owner) (l : owner ≤ r) where
    pub entry_stops : {x : Refused Refusal} {T₂ N₂ : List ℕ} {answer : Step} → step ≡ Err x → answer ≡ Err x → EntryDone keyed s room e deep owner at r T T₂ N N₂ answer
    entry_stops {x} {T₂} {N₂} {answer} n i = go keyed k
      where
        go : (b : Bool) → KeyIf b s room owner at r T T₁ N N₁ step → EntryDone b s room e deep owner at r T T₂ N N₂ answer
        go true k =
            let y = k.some refl in
            decide y.key
            (λ v e. absurd (ok_not (y.goes v e).says n))
            (λ v e. entry_refused y.done e (i ∙ sym n ∙ y.stops v e))
        go false k = absurd (ok_not (k.none refl).says n)

    pub entry_goes : {x : Reached} {T₂ N₂ : List ℕ} {answer : Step} → step ≡ Ok x → Done (object s room e deep Any x.at x.row) s room (x.at + 1) x.row T₁ T₂ N₁ N₂ answer → EntryDone keyed s room e deep owner at r T T₂ N N₂ answer
    entry_goes {x} {T₂} {N₂} {answer} z d = go keyed k
      where
        go : (b : Bool) → KeyIf b s room owner at r T T₁ N N₁ step → EntryDone b s room e deep owner at r T T₂ N N₂ answer
        go true k =
            let y = k.some refl in
            decide y.key
            (λ v w.
            let q = y.goes v w in
            entry_keyed y.done w (next_goes q.skipped (rw (← if_reached z q.says) at d)) h l)
            (λ v w. absurd (ok_not z (y.stops v w)))
        go false k =
            let y = k.none refl in
            entry_plain (rw (← if_reached z y.says, y.table, y.notes) at d)

pub ruleset entering = (done_ready, past_ready, ready_in, ready_fits, next_goes, next_name, next_done, thing_leaf, leaf_in, if_ready, entry_stops, entry_goes)
