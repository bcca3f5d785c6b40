-- What answers each return of the functions that walk objects, and what becomes of the notes on keys. Assumes nothing.
use mathlib.Core.Path.{◌≡◌, refl, sym, ◌∙◌}
use mathlib.Core.Bool.{Bool, true, false, cond}
use mathlib.Core.List.{List}
use Prim.Native.Nat.{ℕ, ◌+◌, ◌-◌, ◌≤◌, ◌<◌}
use native.Mathlib.Omega.{arith}
use lib.ListN.{length}
use lib.Dec.{eqb, leb}
use borrow.Author.Tests.{lt-ltb, le-ltb}
use Rattle.std.proofs.Common.{Option, Some, None}
use Rattle.draft.specs.declared.Content.TheVariants.{Binary, Text as TextContent}
use Rattle.draft.specs.declared.Row.{Row}
use Rattle.draft.specs.Strings.{Text as TextOf}
use Rattle.draft.specs.Table.{row_at}
use Rattle.draft.specs.Writable.{Walk, closed, leaf, over, integer_item}
use Rattle.extents.specs.Asked.{Walkable}
use Rattle.keys.specs.Notes.{named, Noted}
use Rattle.keys.proofs.Keeping.{noted_move, keeps_none, keeps_then}
use Rattle.key_rows.specs.Contract.{Prepared, Walked, Done, KeyIf}
use Rattle.key_rows.proofs.Keying.{until_one, no_end, fit_end, closed_end, content_end}
use Rattle.containers.specs.Items as held
use Rattle.containers.proofs.Items.{stopped, Going, going_first, going_on, going_ready, going_done, key_stops, key_noted, value_stops, goes_on}
use Rattle.glyph.specs.declared.Edition.{Edition}
use Rattle.glyph.specs.declared.Edition.TheVariants.{New}
use Rattle.glyph.specs.declared.Want.TheVariants.{Any}
use Rattle.glyph_form.specs.declared.Sort.{Sort}
use Rattle.glyph_form.specs.declared.Sort.TheVariants.{Integer, Boolean, Content, Nil, Many, Three, Unknown}
use Rattle.glyph_form.specs.Sorts.{sort_of, meets}
use Rattle.glyph_form.specs.Writable.{Nest, floor, entry, kept, entries, item, object}
use Rattle.glyph_rows.specs.Holding.{holds, is_dict, may_hold}
use Rattle.glyph_walks.specs.Contract.{Met, Here, nested, childless}
use Rattle.glyph_rows.proofs.Containers.{alone, floor_none}
use Rattle.glyph_walks.proofs.Holding.{object_here, nested_none, nested_less, held_not, held_run}

-- ---- an object is what its row's kind names

over_end : (x : Row) (o : Option ℕ) {n : ℕ} → over x o ≡ Some n → o ≡ Some n
over_end x o e = closed_end x o (fit_end (eqb x.a 0) (closed x o) e)

module _ (row : ℕ → Row) (rows : ℕ) (s : List ℕ) (x : Row) (r : ℕ) where
  -- what holds no others is alike in both editions, however much may nest
  childless_is : (e : Edition) (nest : Nest) (k : ℕ) → holds k ≡ false → item row rows s (sort_of e k) nest x r ≡ item row rows s (sort_of New k) floor x r
  unfolding sort_of
  childless_is e nest k h =
      let a = alone k h in
      rw (a.0, a.1, a.2, a.3, a.4) (go (eqb k 4) (eqb k 5) (eqb k 8) (eqb k 11) (eqb k 13))
    where
      go : (p q u v w : Bool) → item row rows s (cond p Integer (cond q Boolean (cond u (Content Binary) (cond v (Content TextContent) (cond w Nil Unknown))))) nest x r ≡ item row rows s (cond p Integer (cond q Boolean (cond u (Content Binary) (cond v (Content TextContent) (cond w Nil Unknown))))) floor x r
      go true q u v w = refl
      go false true u v w = refl
      go false false true v w = refl
      go false false false true w = refl
      go false false false false true = refl
      go false false false false false = refl

  -- where it ends
  leaf_end : {n : ℕ} → leaf x r ≡ Some n → r ≤ n
  leaf_end e = omega (arith, until_one (closed_end x (Some (r + 1)) e))

  floor_end : (i : Sort) {n : ℕ} → item row rows s i floor x r ≡ Some n → r ≤ n
  floor_end Integer e = leaf_end (fit_end (eqb x.b 0) (leaf x r) e)
  floor_end Boolean e = leaf_end (fit_end (eqb x.b 0) (leaf x r) (fit_end (leb x.a 1) (integer_item x r) e))
  floor_end (Content c) e = omega (arith, content_end s c x r e)
  floor_end Nil e = omega (arith, until_one (over_end x (Some (r + 1)) (fit_end (eqb x.b 0) (over x (Some (r + 1))) e)))
  floor_end (Many l) e = absurd (no_end e)
  floor_end (Three l) e = absurd (no_end e)
  floor_end Unknown e = absurd (no_end e)

module _ (row : ℕ → Row) (rows : ℕ) (s : List ℕ) (e : Edition) (deep : ℕ) where
  object_past : (r : ℕ) → rows ≤ r → None ≡ object row rows s e deep Any r
  object_past r h = rw (object_here row rows s e deep Any r, le-ltb r rows h)

  object_is : {x : Row} {r : ℕ} → Here row rows x r → item row rows s (sort_of e x.kind) (nested row rows s e deep) x r ≡ object row rows s e deep Any r
  unfolding meets
  object_is {r = r} h = rw h.is (sym (object_here row rows s e deep Any r ∙ rw (lt-ltb r rows h.inside)))

  leaf_is : {x : Row} {r : ℕ} → Here row rows x r → holds x.kind ≡ false → childless row rows s x r ≡ object row rows s e deep Any r
  unfolding childless
  leaf_is {x} {r} h n = sym (childless_is row rows s x r e (nested row rows s e deep) x.kind n) ∙ object_is h

-- ---- what was walked

module _ (e : Edition) (deep : ℕ) (s : List ℕ) (room rows : ℕ) (T : List ℕ) where
  pub object_none : (r : ℕ) → rows ≤ r → None ≡ object (row_at room T) rows s e deep Any r
  object_none r h = object_past (row_at room T) rows s e deep r h

  module _ {x : Row} {r : ℕ} (h : Here (row_at room T) rows x r) where
    pub object_says : {N N' : List ℕ} {o : Option ℕ} → Done (item (row_at room T) rows s (sort_of e x.kind) (nested (row_at room T) rows s e deep) x r) (named s room T) N N' r o → o ≡ object (row_at room T) rows s e deep Any r
    object_says d = d.says ∙ object_is (row_at room T) rows s e deep h

    pub leaf_says : {o : Option ℕ} → holds x.kind ≡ false → o ≡ childless (row_at room T) rows s x r → o ≡ object (row_at room T) rows s e deep Any r
    leaf_says f l = l ∙ leaf_is (row_at room T) rows s e deep h f

-- the notes after an object without children
leaf_walked : (s : List ℕ) (room rows : ℕ) (T : List ℕ) (x : Row) (r : ℕ) {o : Option ℕ} {t : ℕ → TextOf} {N : List ℕ} → o ≡ childless (row_at room T) rows s x r → Noted t N r → Walked t N N r o
unfolding childless
leaf_walked s room rows T x r {o} l a =
    let u : (k : ℕ) → o ≡ Some k → r ≤ k = λ k j. floor_end (row_at room T) rows s x r (sort_of New x.kind) (sym l ∙ j) in
    record { on = u; keeps = λ k j. keeps_none a (λ m i. refl) k (u k j) }

-- ---- an object with children

-- what stands below row r, walked from the row behind it on
below_walked : {t : ℕ → TextOf} {N : List ℕ} {r : ℕ} → Noted t N r → {N' : List ℕ} {o e : Option ℕ} → Walked t N N' (r + 1) o → ((n : ℕ) → e ≡ Some n → o ≡ Some n) → Walked t N N' r e
below_walked {r = r} a v u =
    record {
      on = λ n i. omega (arith, v.on n (u n i));
      keeps = λ n i. keeps_then (keeps_none a (λ k l. refl) (r + 1) (omega arith)) (omega arith) (v.keeps n (u n i));
    }

-- as the loop walks them
held_same : (row : ℕ → Row) (rows : ℕ) (s : List ℕ) (keyed : Bool) (g : Walk) (n r : ℕ) → held.entries row rows s keyed g n r ≡ entries row rows s keyed g n r
unfolding entries entry kept held.entries
held_same row rows s true g n r = refl
held_same row rows s false g n r = refl

-- the object with children of a row, and a run of objects or pairs
abbrev here : List ℕ → ℕ → ℕ → List ℕ → Edition → ℕ → Row → Walk
here s room rows T e deep x = item (row_at room T) rows s (sort_of e x.kind) (nested (row_at room T) rows s e deep) x

abbrev run : List ℕ → ℕ → ℕ → List ℕ → Edition → ℕ → Bool → ℕ → Walk
run s room rows T e deep keyed n = held.entries (row_at room T) rows s keyed (object (row_at room T) rows s e deep Any) n

module _ (e : Edition) {s : List ℕ} {room rows : ℕ} {T : List ℕ} {good r : ℕ} {N : List ℕ} (a : Met s room rows T good r N) where
  pub container_ready : Prepared s room rows T good (r + 1) N
  container_ready = record { below = omega arith; ready = a.ready; checked = a.checked; entries = a.entries; noted = noted_move a.noted (λ k l. refl) (r + 1) (omega arith) }

  module _ (deep : ℕ) (x : Row) (h : holds x.kind ≡ true) where
    pub container_floor : {N' : List ℕ} → deep ≡ 0 → Done (here s room rows T e deep x r) (named s room T) N N' r None
    container_floor z = stopped (rw (nested_none (row_at room T) rows s e deep z) (floor_none (row_at room T) rows s e x r h)) refl

    module _ (z : deep ≡ 0 → ⊥) {b : Bool} (m : b ≡ may_hold (row_at room T) rows e x r) where
      pub container_not : {N' : List ℕ} → b ≡ false → Done (here s room rows T e deep x r) (named s room T) N N' r None
      container_not f = stopped (rw (nested_less (row_at room T) rows s e deep z) (held_not (row_at room T) rows s e x r h (deep - 1) (sym m ∙ f))) refl

      module _ (f : b ≡ true) {keyed : Bool} {n : ℕ} (q : keyed ≡ is_dict x.kind) (i : n ≡ x.b) where
        here_is_run : {o k : Option ℕ} → o ≡ run s room rows T e (deep - 1) keyed n (r + 1) → k ≡ over x o → k ≡ here s room rows T e deep x r
        here_is_run l g =
            let o = l ∙ held_same (row_at room T) rows s keyed (object (row_at room T) rows s e (deep - 1) Any) n (r + 1) ∙ rw (q, i) in
            g ∙ rw (nested_less (row_at room T) rows s e deep z, o) (sym (held_run (row_at room T) rows s e x r h (deep - 1) (sym m ∙ f)))

        pub container_done : {o k : Option ℕ} {N' : List ℕ} → Done (run s room rows T e (deep - 1) keyed n (r + 1)) (named s room T) N N' (r + 1) o → k ≡ over x o → Done (here s room rows T e deep x r) (named s room T) N N' r k
        container_done {o} d g = record { says = here_is_run d.says g; walked = below_walked a.noted d.walked (λ j u. over_end x o (sym g ∙ u)) }

-- ---- the loop over the objects of a list or the pairs of a dict

module _ (e : Edition) {s : List ℕ} {room rows : ℕ} {T : List ℕ} {keyed : Bool} (deep : ℕ) {n first : ℕ} {N₀ : List ℕ} {done at₀ : ℕ} {N N₁ : List ℕ} (i : Going s room rows T keyed (object (row_at room T) rows s e deep Any) n first N₀ done at₀ N) (h : done < n) where
  pub entry_key : {N' : List ℕ} {o : Option ℕ} → KeyIf s room rows T keyed first at₀ N N₁ None → o ≡ None → Done (run s room rows T e deep keyed n first) (named s room T) N₀ N' first o
  entry_key k y = key_stops i h k y

  module _ {at : ℕ} (k : KeyIf s room rows T keyed first at₀ N N₁ (Some at)) where
    pub entry_past : {N' : List ℕ} → rows ≤ at → Done (run s room rows T e deep keyed n first) (named s room T) N₀ N' first None
    entry_past l = value_stops i h k (object_past (row_at room T) rows s e deep at l) refl

    pub entry_met : {good : ℕ} → Prepared s room rows T good first N₀ → length N₁ ≡ length N → length N ≡ length N₀ → Met s room rows T good at N₁
    entry_met p f g = record { ready = p.ready; checked = p.checked; entries = rw (f ∙ g) p.entries; noted = key_noted k i.keeps.noted }

    -- the object there, by its row
    module _ {x : Row} (f : x ≡ row_at room T at) (l : at < rows) where
      there : Here (row_at room T) rows x at
      there = record { is = f; inside = l }

      module _ {N₂ : List ℕ} where
        pub container_stops : {N' : List ℕ} {o : Option ℕ} → Done (here s room rows T e deep x at) (named s room T) N₁ N₂ at None → o ≡ None → Done (run s room rows T e deep keyed n first) (named s room T) N₀ N' first o
        container_stops d y = value_stops i h k (object_says e deep s room rows T there d) y

        pub container_again : {next good : ℕ} → Prepared s room rows T good first N₀ → Done (here s room rows T e deep x at) (named s room T) N₁ N₂ at (Some next) → Going s room rows T keyed (object (row_at room T) rows s e deep Any) n first N₀ (done + 1) next N₂
        container_again p d = goes_on i h p.below k (object_says e deep s room rows T there d) d.walked

      module _ {b : Bool} (u : b ≡ holds x.kind) (v : b ≡ false) where
        pub leaf_stops : {N' : List ℕ} {o : Option ℕ} → None ≡ childless (row_at room T) rows s x at → o ≡ None → Done (run s room rows T e deep keyed n first) (named s room T) N₀ N' first o
        leaf_stops d y = value_stops i h k (leaf_says e deep s room rows T there (sym u ∙ v) d) y

        pub leaf_again : {next good : ℕ} → Prepared s room rows T good first N₀ → Some next ≡ childless (row_at room T) rows s x at → Going s room rows T keyed (object (row_at room T) rows s e deep Any) n first N₀ (done + 1) next N₁
        leaf_again p d = goes_on i h p.below k (leaf_says e deep s room rows T there (sym u ∙ v) d) (leaf_walked s room rows T x at d (key_noted k i.keeps.noted))

-- any object, with the notes after it
module _ (e : Edition) (deep : ℕ) (s : List ℕ) (room rows : ℕ) (T : List ℕ) where
  pub object_missing : {N N' : List ℕ} (r : ℕ) → rows ≤ r → Done (object (row_at room T) rows s e deep Any r) (named s room T) N N' r None
  object_missing r h = stopped (object_none e deep s room rows T r h) refl

  module _ {x : Row} {r : ℕ} (h : Here (row_at room T) rows x r) {N : List ℕ} where
    pub object_walked :
        {N' : List ℕ} {o : Option ℕ} → Done (item (row_at room T) rows s (sort_of e x.kind) (nested (row_at room T) rows s e deep) x r) (named s room T) N N' r o
        → Done (object (row_at room T) rows s e deep Any r) (named s room T) N N' r o
    object_walked d = record { says = object_says e deep s room rows T h d; walked = d.walked }

    pub object_leaf :
        {good : ℕ} {o : Option ℕ} → Met s room rows T good r N → holds x.kind ≡ false → o ≡ childless (row_at room T) rows s x r
        → Done (object (row_at room T) rows s e deep Any r) (named s room T) N N r o
    object_leaf m f l = record { says = leaf_says e deep s room rows T h f l; walked = leaf_walked s room rows T x r l m.noted }

pub here_is : {row : ℕ → Row} {rows : ℕ} {x : Row} {r : ℕ} → x ≡ row r → r < rows → Here row rows x r
here_is e h = record { is = e; inside = h }

pub held_so : (k : ℕ) {b v : Bool} → b ≡ holds k → b ≡ v → holds k ≡ v
held_so k e f = sym e ∙ f

pub met_walkable : {s : List ℕ} {room rows : ℕ} {T : List ℕ} {good r : ℕ} {N : List ℕ} → Met s room rows T good r N → Walkable s room rows T good
met_walkable a = record { ready = a.ready; checked = a.checked }

pub prepared_walkable : {s : List ℕ} {room rows : ℕ} {T : List ℕ} {good r : ℕ} {N : List ℕ} → Prepared s room rows T good r N → Walkable s room rows T good
prepared_walkable a = record { ready = a.ready; checked = a.checked }

pub ruleset walks = (object_none, object_says, leaf_says, container_ready, container_floor, container_not, container_done, going_first, going_on, going_ready, going_done, entry_key, entry_past, entry_met, container_stops, container_again, leaf_stops, leaf_again, here_is, held_so, met_walkable, prepared_walkable)

pub ruleset objects = (object_missing, object_walked, object_leaf, here_is, held_so)
