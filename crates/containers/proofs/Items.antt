-- What becomes of the notes on keys while rows are walked, and where the loop over items stands. Assumes nothing.
use mathlib.Core.Path.{◌≡◌, refl, sym, ◌∙◌}
use mathlib.Core.Bool.{Bool, true, false}
use mathlib.Core.List.{List}
use Prim.Native.Nat.{ℕ, ◌+◌, ◌-◌, ◌≤◌, ◌<◌}
use native.Mathlib.Omega.{arith}
use lib.ListN.{length}
use lib.Dec.{eqb, leb}
use Rattle.std.proofs.Common.{Option, Some, None}
use Rattle.draft.specs.Verdict.{Verdict}
use Rattle.draft.specs.declared.Content.{Content as ContentOf}
use Rattle.draft.specs.declared.Content.TheVariants.{Binary}
use Rattle.draft.specs.declared.Item.{Item}
use Rattle.draft.specs.declared.Item.TheVariants.{
  Call,
  Response,
  Fault,
  Integer,
  Boolean,
  Content,
  Array,
  Struct,
  Other,
  Unknown,
}
use Rattle.draft.specs.declared.Row.{Row}
use Rattle.draft.specs.Rows.{item_of}
use Rattle.draft.specs.Strings.{Text}
use Rattle.draft.specs.Content.{name_rule, key_rule}
use Rattle.draft.specs.Table.{row_at}
use Rattle.draft.specs.Read.{text_of}
use Rattle.draft.specs.Writable.{Walk, floor, then, ruled, closed, leaf, over, integer_item, content_item, only, string, string_by, pair, other_item, array_item, struct_item, item, items, alike, member, keeping, value, nested}
use Rattle.keys.specs.Notes.{named, keys_of, Noted, Keeps, Joins}
use Rattle.keys.proofs.Keeping.{keys_first, noted_move, keeps_none, keeps_then}
use Rattle.extents.specs.Asked.{Ready, Known}
use Rattle.extents.proofs.Walking.{only_past, only_not, only_here}
use Rattle.key_rows.specs.Contract.{Prepared, Walked, Done, KeyDone, KeyIf}
use Rattle.key_rows.proofs.Keying.{until_one, no_end, fit_end, ruled_end, closed_end, content_end, only_end, string_end}
use Rattle.containers.specs.Items.{holds_items, entry, kept, entries}
use Rattle.containers.proofs.Turns.{Turn, turn_first, turn_done, turn_again, turn_no}
use Rattle.containers.proofs.Nesting.{Flat, holds_item, scalar_known, value_past, value_is, value_flat, contents_deep, contents_less}

-- where an item that holds no others ends
leaf_end : (x : Row) (r : ℕ) {n : ℕ} → leaf x r ≡ Some n → n ≡ r + 1
leaf_end x r e = sym (until_one (closed_end x (Some (r + 1)) e))

integer_end : (x : Row) (r : ℕ) {n : ℕ} → integer_item x r ≡ Some n → n ≡ r + 1
integer_end x r e = leaf_end x r (fit_end (eqb x.b 0) (leaf x r) e)

then_end : (o : Option ℕ) (g : Walk) {n : ℕ} → then o g ≡ Some n → (k : ℕ) × (o ≡ Some k) × (g k ≡ Some n)
then_end None g e = absurd (no_end e)
then_end (Some k) g e = (k, refl, e)

over_end : (x : Row) (o : Option ℕ) {n : ℕ} → over x o ≡ Some n → o ≡ Some n
over_end x o e = closed_end x o (fit_end (eqb x.a 0) (closed x o) e)

module _ (row : ℕ → Row) (rows : ℕ) (s : List ℕ) where
  by_end : (rule : List ℕ → Verdict) (r : ℕ) {n : ℕ} → string_by row rows s rule r ≡ Some n → n ≡ r + 1
  unfolding string_by
  by_end rule r e =
      let z = then_end (string row rows s r) (λ next. ruled (rule (text_of s (row r))) (Some next)) e in
      sym (until_one (ruled_end (rule (text_of s (row r))) (Some z.0) z.2)) ∙ string_end row rows s r z.1

  other_end : (x : Row) (r : ℕ) {n : ℕ} → other_item row rows s x r ≡ Some n → r ≤ n
  unfolding pair
  other_end x r e =
      let z = then_end (string_by row rows s name_rule (r + 1)) (only row rows s 8 (content_item s Binary)) (over_end x _ (fit_end (eqb x.b 2) _ e)) in
      omega (arith, by_end name_rule (r + 1) z.1, only_end row rows s 8 Binary z.0 z.2)

  scalar_end : (i : Item) (x : Row) (r : ℕ) {n : ℕ} → item row rows s i floor x r ≡ Some n → r ≤ n
  scalar_end Integer x r e = omega (arith, integer_end x r e)
  scalar_end Boolean x r e = omega (arith, integer_end x r (fit_end (leb x.a 1) (integer_item x r) e))
  scalar_end (Content c) x r e = omega (arith, content_end s c x r e)
  scalar_end Other x r e = other_end x r e
  scalar_end Array x r e = absurd (no_end e)
  scalar_end Struct x r e = absurd (no_end e)
  scalar_end Call x r e = absurd (no_end e)
  scalar_end Response x r e = absurd (no_end e)
  scalar_end Fault x r e = absurd (no_end e)
  scalar_end Unknown x r e = absurd (no_end e)

-- the notes after an item that was walked
module _ {t : ℕ → Text} {N : List ℕ} {r : ℕ} where
  walked_none : {N' : List ℕ} → Walked t N N' r None
  walked_none = record { on = λ n e. absurd (no_end e); keeps = λ n e. absurd (no_end e) }

  pub stopped : {o e : Option ℕ} {N' : List ℕ} → None ≡ o → e ≡ None → Done o t N N' r e
  stopped h i = rw i (record { says = h; walked = walked_none })

  module _ (a : Noted t N r) where
    scalar_walked : (row : ℕ → Row) (rows : ℕ) (s : List ℕ) (i : Item) (x : Row) {e : Option ℕ} → e ≡ item row rows s i floor x r → Walked t N N r e
    scalar_walked row rows s i x h =
        let f : (n : ℕ) → _ ≡ Some n → r ≤ n = λ n j. scalar_end row rows s i x r (sym h ∙ j) in
        record { on = f; keeps = λ n j. keeps_none a (λ k l. refl) n (f n j) }

    noted_next : Noted t N (r + 1)
    noted_next = noted_move a (λ k l. refl) (r + 1) (omega arith)

    -- a container, by what it holds
    over_walked : (x : Row) {N' : List ℕ} {o e : Option ℕ} → Walked t N N' (r + 1) o → e ≡ over x o → Walked t N N' r e
    over_walked x {o = o} w h =
        record {
          on = λ n i. omega (arith, w.on n (over_end x o (sym h ∙ i)));
          keeps = λ n i. keeps_then (keeps_none a (λ k l. refl) (r + 1) (omega arith)) (omega arith) (w.keeps n (over_end x o (sym h ∙ i)));
        }

-- an item of a kind that holds items, and a run of items
abbrev holder : List ℕ → ℕ → ℕ → List ℕ → ℕ → Row → Walk
holder s room rows T deep x = item (row_at room T) rows s (item_of x.kind) (nested (row_at room T) rows s deep) x

abbrev run : List ℕ → ℕ → ℕ → List ℕ → ℕ → Bool → ℕ → Walk
run s room rows T deep keyed n = entries (row_at room T) rows s keyed (value (row_at room T) rows s deep) n

-- an Array or a Struct
module _ {s : List ℕ} {room rows : ℕ} {T : List ℕ} {good r : ℕ} {N : List ℕ} (p : Prepared s room rows T good r N) where
  pub contents_ready : Prepared s room rows T good (r + 1) N
  contents_ready = record { below = omega arith; ready = p.ready; checked = p.checked; entries = p.entries; noted = noted_next p.noted }

  module _ (x : Row) (h : holds_items x.kind ≡ true) (deep : ℕ) where
    pub contents_none : {N' : List ℕ} → deep ≡ 0 → Done (holder s room rows T deep x r) (named s room T) N N' r None
    contents_none z = stopped (contents_deep (row_at room T) rows s x.kind h deep x r z) refl

    module _ {n : ℕ} (z : deep ≡ 0 → ⊥) (f : n ≡ x.b) where
      whole_is : {o e : Option ℕ} → o ≡ run s room rows T (deep - 1) (eqb x.kind 10) n (r + 1) → e ≡ over x o → e ≡ holder s room rows T deep x r
      whole_is i g = contents_less (row_at room T) rows s x.kind h deep x r z (eqb x.kind 10) refl (rw f at i) g

      pub contents_done : {o e : Option ℕ} {N' : List ℕ} → Done (run s room rows T (deep - 1) (eqb x.kind 10) n (r + 1)) (named s room T) N N' (r + 1) o → e ≡ over x o → Done (holder s room rows T deep x r) (named s room T) N N' r e
      contents_done d g = record { says = whole_is d.says g; walked = over_walked p.noted x d.walked g }

-- where the loop over items stands; a Struct's keys are noted for the row `first`
pub record Going (s : List ℕ) (room rows : ℕ) (T : List ℕ) (keyed : Bool) (g : Walk) (n first : ℕ) (N₀ : List ℕ) (done here : ℕ) (N : List ℕ) : Type 0 where
  pub turn : Turn (entry (row_at room T) rows s keyed g) (kept (row_at room T) rows s keyed) n first done here
  pub keeps : Keeps (named s room T) (named s room T) N₀ N first here
  pub are : keyed ≡ true → keys_of (named s room T) N first here ≡ turn.seen
  pub on : first ≤ here

pub going_first : {s : List ℕ} {room rows : ℕ} {T : List ℕ} {keyed : Bool} {g : Walk} {good n first : ℕ} {N : List ℕ} → Prepared s room rows T good first N → Going s room rows T keyed g n first N 0 first N
unfolding turn_first
going_first {s} {room} {rows} {T} {keyed} {g} {n = n} {first = first} p =
    record {
      turn = turn_first (entry (row_at room T) rows s keyed g) (kept (row_at room T) rows s keyed) n first;
      keeps = keeps_none p.noted (λ k l. refl) first (omega arith);
      are = λ _. keys_first p.noted;
      on = omega arith;
    }

module _ {s : List ℕ} {room rows : ℕ} {T : List ℕ} {g : Walk} {n first : ℕ} {N₀ : List ℕ} {done here : ℕ} {N : List ℕ} where
  pub going_on : {keyed : Bool} → Going s room rows T keyed g n first N₀ done here N → first ≤ here
  going_on i = i.on

  pub going_ready : {keyed : Bool} {good : ℕ} → Going s room rows T keyed g n first N₀ done here N → Prepared s room rows T good first N₀ → length N ≡ length N₀ → Prepared s room rows T good here N
  going_ready i p e = record { below = omega (arith, p.below, i.on); ready = p.ready; checked = p.checked; entries = rw e p.entries; noted = i.keeps.noted }

  pub going_done : {keyed : Bool} → Going s room rows T keyed g n first N₀ done here N → n ≤ done → Done (entries (row_at room T) rows s keyed g n first) (named s room T) N₀ N first (Some here)
  unfolding entries
  going_done i h =
      record {
        says = turn_done _ _ i.turn h;
        walked = record { on = λ k f. omega (arith, until_one f, i.on); keeps = λ k f. rw (until_one f) at i.keeps };
      }

  -- the next item, behind its key
  module _ (i : Going s room rows T true g n first N₀ done here N) (h : done < n) {N₁ : List ℕ} where
    pair_no : KeyDone s room rows T first here N N₁ None → member (row_at room T) rows s g i.turn.seen here ≡ None
    unfolding member pair
    pair_no k = rw (← rw (i.are refl) at k.says)

    module _ {at : ℕ} (k : KeyDone s room rows T first here N N₁ (Some at)) where
      key_is : Some at ≡ string_by (row_at room T) rows s (key_rule i.turn.seen) here
      key_is = rw (i.are refl) at k.says

      pair_on : member (row_at room T) rows s g i.turn.seen here ≡ g at
      unfolding member pair
      pair_on = rw (← key_is)

      module _ {next : ℕ} (e : Some next ≡ g at) {N₂ : List ℕ} (w : Walked (named s room T) N₁ N₂ at (Some next)) (o : 0 < first) where
        joined : Joins (named s room T) (named s room T) N N₂ first here next
        joined =
            let x = k.joined.joins at refl in
            let v = w.keeps next refl in
            record {
              on = omega (arith, x.on, w.on next refl);
              noted = v.noted;
              owners = λ m l. v.owners m (omega (arith, x.on)) ∙ x.owners m l;
              mine = v.keys first o (omega (arith, x.on, i.on)) ∙ x.mine;
              others = λ m h l d. v.keys m h (omega (arith, x.on)) ∙ x.others m h l d;
            }

        pair_keeps : Keeps (named s room T) (named s room T) N₀ N₂ first next
        pair_keeps =
            record {
              noted = joined.noted;
              owners = λ m l. joined.owners m (omega (arith, i.on)) ∙ i.keeps.owners m l;
              keys = λ o p l. joined.others o p (omega (arith, i.on)) (λ q. omega arith) ∙ i.keeps.keys o p l;
            }

        pair_keys : keys_of (named s room T) N₂ first next ≡ keeping (row_at room T) rows s i.turn.seen here
        unfolding keeping named
        pair_keys = joined.mine ∙ rw (i.are refl)

        pair_again : Going s room rows T true g n first N₀ (done + 1) next N₂
        unfolding turn_again
        pair_again =
            record {
              turn = turn_again (member (row_at room T) rows s g) (keeping (row_at room T) rows s) i.turn h (pair_on ∙ sym e);
              keeps = pair_keeps;
              are = λ _. pair_keys;
              on = omega (arith, i.on, joined.on);
            }

  -- the next item, which has none
  module _ (i : Going s room rows T false g n first N₀ done here N) (h : done < n) {next : ℕ} (e : Some next ≡ g here) where
    value_again : {N₂ : List ℕ} → Walked (named s room T) N N₂ here (Some next) → Going s room rows T false g n first N₀ (done + 1) next N₂
    unfolding turn_again alike
    value_again w =
        record {
          turn = turn_again _ _ i.turn h (sym e);
          keeps = keeps_then i.keeps i.on (w.keeps next refl);
          are = λ f. let z : ◌≡◌ {A = ℕ} 0 1 = cc in absurd (omega arith);
          on = omega (arith, i.on, w.on next refl);
        }

  module _ {N₁ : List ℕ} where
    -- a key does not fit
    pub key_stops : {keyed : Bool} → Going s room rows T keyed g n first N₀ done here N → done < n → KeyIf s room rows T keyed first here N N₁ None → {N' : List ℕ} {e : Option ℕ} → e ≡ None → Done (entries (row_at room T) rows s keyed g n first) (named s room T) N₀ N' first e
    unfolding entries
    key_stops {keyed = true} i h k y = stopped (turn_no _ _ i.turn h (pair_no i h (k.some refl))) y
    key_stops {keyed = false} i h k y = absurd (no_end (k.none refl).says)

    module _ {at : ℕ} where
      -- a value does not fit
      pub value_stops : {keyed : Bool} → Going s room rows T keyed g n first N₀ done here N → done < n → KeyIf s room rows T keyed first here N N₁ (Some at) → None ≡ g at → {N' : List ℕ} {e : Option ℕ} → e ≡ None → Done (entries (row_at room T) rows s keyed g n first) (named s room T) N₀ N' first e
      unfolding entries alike
      value_stops {keyed = true} i h k e y = stopped (turn_no _ _ i.turn h (pair_on i h (k.some refl) ∙ sym e)) y
      value_stops {keyed = false} i h k e y = stopped (turn_no _ _ i.turn h (sym (rw (until_one (k.none refl).says) at e))) y

      -- a value fits
      pub goes_on : {keyed : Bool} → Going s room rows T keyed g n first N₀ done here N → done < n → 0 < first → KeyIf s room rows T keyed first here N N₁ (Some at) → {next : ℕ} → Some next ≡ g at → {N₂ : List ℕ} → Walked (named s room T) N₁ N₂ at (Some next) → Going s room rows T keyed g n first N₀ (done + 1) next N₂
      goes_on {keyed = true} i h o k e w = pair_again i h (k.some refl) e w o
      goes_on {keyed = false} i h o k e w = let q = k.none refl in value_again i h (rw (until_one q.says) at e) (rw (until_one q.says, q.notes) at w)

-- what follows a key, or nothing
module _ {s : List ℕ} {room rows : ℕ} {T : List ℕ} {first here : ℕ} {N N₁ : List ℕ} {at : ℕ} where
  pub key_noted : {keyed : Bool} → KeyIf s room rows T keyed first here N N₁ (Some at) → Noted (named s room T) N here → Noted (named s room T) N₁ at
  key_noted {keyed = true} k a = ((k.some refl).joined.joins at refl).noted
  key_noted {keyed = false} k a = let q = k.none refl in rw (until_one q.says, q.notes) a

  pub key_on : {keyed : Bool} → KeyIf s room rows T keyed first here N N₁ (Some at) → here ≤ at
  key_on {keyed = true} k = omega (arith, ((k.some refl).joined.joins at refl).on)
  key_on {keyed = false} k = omega (arith, until_one (k.none refl).says)

-- what walking the content of a row asks
pub item_known : {s : List ℕ} {room rows : ℕ} {T : List ℕ} {good first : ℕ} {N : List ℕ} (at : ℕ) {x : Row} {i : Item} {c : ContentOf} → Prepared s room rows T good first N → x ≡ row_at room T at → i ≡ item_of x.kind → i ≡ Content c → Known s c x at good
item_known {room = room} {rows} {T} at p e f g = scalar_known (row_at room T) rows _ at p.checked e f g

-- a turn, by the item's row
module _ {s : List ℕ} {room rows : ℕ} {T : List ℕ} {keyed : Bool} (deep : ℕ) {n first : ℕ} {N₀ : List ℕ} {done here : ℕ} {N N₁ : List ℕ} (i : Going s room rows T keyed (value (row_at room T) rows s deep) n first N₀ done here N) (h : done < n) where
  pub key_fails : {N' : List ℕ} {e : Option ℕ} → KeyIf s room rows T keyed first here N N₁ None → e ≡ None → Done (run s room rows T deep keyed n first) (named s room T) N₀ N' first e
  key_fails k y = key_stops i h k y

  module _ {at : ℕ} (k : KeyIf s room rows T keyed first here N N₁ (Some at)) where
    pub item_ready : {good : ℕ} → Prepared s room rows T good first N₀ → length N₁ ≡ length N → length N ≡ length N₀ → Prepared s room rows T good at N₁
    item_ready p e f = record { below = omega (arith, p.below, i.on, key_on k); ready = p.ready; checked = p.checked; entries = rw (e ∙ f) p.entries; noted = key_noted k i.keeps.noted }

    pub rows_end : {N' : List ℕ} → rows ≤ at → Done (run s room rows T deep keyed n first) (named s room T) N₀ N' first None
    rows_end l = value_stops i h k (value_past (row_at room T) rows s deep at l) refl

    module _ (l : at < rows) {x : Row} (f : x ≡ row_at room T at) where
      -- an Array or a Struct
      module _ {N₂ : List ℕ} where
        pub contents_stop : {N' : List ℕ} {e : Option ℕ} → Done (holder s room rows T deep x at) (named s room T) N₁ N₂ at None → e ≡ None → Done (run s room rows T deep keyed n first) (named s room T) N₀ N' first e
        contents_stop d y = value_stops i h k (value_is (row_at room T) rows s deep at l f d.says) y

        pub contents_again : {next good : ℕ} → Prepared s room rows T good first N₀ → Done (holder s room rows T deep x at) (named s room T) N₁ N₂ at (Some next) → Going s room rows T keyed (value (row_at room T) rows s deep) n first N₀ (done + 1) next N₂
        contents_again p d = goes_on i h p.below k (value_is (row_at room T) rows s deep at l f d.says) d.walked

      module _ {i' : Item} (g : i' ≡ item_of x.kind) where
        -- a Value that holds no others
        module _ {j : Item} (q : i' ≡ j) (u : Flat j) where
          pub scalar_stop : {N' : List ℕ} {e : Option ℕ} → None ≡ item (row_at room T) rows s j floor x at → e ≡ None → Done (run s room rows T deep keyed n first) (named s room T) N₀ N' first e
          scalar_stop e y = value_stops i h k (value_flat (row_at room T) rows s deep at l f (sym g ∙ q) u e) y

          pub scalar_again : {next good : ℕ} → Prepared s room rows T good first N₀ → Some next ≡ item (row_at room T) rows s j floor x at → Going s room rows T keyed (value (row_at room T) rows s deep) n first N₀ (done + 1) next N₁
          scalar_again p e = goes_on i h p.below k (value_flat (row_at room T) rows s deep at l f (sym g ∙ q) u e) (scalar_walked (key_noted k i.keeps.noted) (row_at room T) rows s j x e)

        -- an item that is no Value
        pub none_stop : {N' : List ℕ} → (i' ≡ Integer → ⊥) → (i' ≡ Boolean → ⊥) → ((c : ContentOf) → i' ≡ Content c → ⊥) → (i' ≡ Other → ⊥) → (i' ≡ Array → ⊥) → (i' ≡ Struct → ⊥) → Done (run s room rows T deep keyed n first) (named s room T) N₀ N' first None
        none_stop {N' = N'} a b c d e v = go i' refl
          where
            go : (j : Item) → i' ≡ j → Done (run s room rows T deep keyed n first) (named s room T) N₀ N' first None
            go Integer w = absurd (a w)
            go Boolean w = absurd (b w)
            go (Content y) w = absurd (c y w)
            go Other w = absurd (d w)
            go Array w = absurd (e w)
            go Struct w = absurd (v w)
            go Call w = scalar_stop w tt refl refl
            go Response w = scalar_stop w tt refl refl
            go Fault w = scalar_stop w tt refl refl
            go Unknown w = scalar_stop w tt refl refl

-- one item without a key
then_until : (o : Option ℕ) → then o (λ next. Some next) ≡ o
then_until None = refl
then_until (Some r) = refl

pub single : (row : ℕ → Row) (rows : ℕ) (s : List ℕ) (g : Walk) (r : ℕ) {t : ℕ → Text} {N N' : List ℕ} {e : Option ℕ} → Done (entries row rows s false g 1 r) t N N' r e → Done (g r) t N N' r e
unfolding entries items alike
single row rows s g r d = record { says = d.says ∙ then_until (g r); walked = d.walked }

-- an Array or a Struct, where only a row of kind k may stand
abbrev of_kind : List ℕ → ℕ → ℕ → List ℕ → ℕ → ℕ → Row → Walk
of_kind s room rows T deep k = item (row_at room T) rows s (item_of k) (nested (row_at room T) rows s deep)

named_kind : (s : List ℕ) (room rows : ℕ) (T : List ℕ) (k k' deep : ℕ) (x : Row) (r : ℕ) {e : Option ℕ} → k' ≡ k → e ≡ of_kind s room rows T deep k' x r → e ≡ of_kind s room rows T deep k x r
named_kind s room rows T k k' deep x r j f = rw (← j) f

module _ (s : List ℕ) (room rows : ℕ) (T : List ℕ) (k deep r : ℕ) {N N' : List ℕ} where
  pub kind_past : rows ≤ r → Done (only (row_at room T) rows s k (of_kind s room rows T deep k) r) (named s room T) N N' r None
  kind_past h = stopped (only_past (row_at room T) rows s k (of_kind s room rows T deep k) r h) refl

  module _ (h : r < rows) {x : Row} (i : x ≡ row_at room T r) where
    pub kind_not : (x.kind ≡ k → ⊥) → Done (only (row_at room T) rows s k (of_kind s room rows T deep k) r) (named s room T) N N' r None
    kind_not j = stopped (only_not (row_at room T) rows s k (of_kind s room rows T deep k) r h i j) refl

    pub kind_here : {e : Option ℕ} → x.kind ≡ k → Done (of_kind s room rows T deep x.kind x r) (named s room T) N N' r e → Done (only (row_at room T) rows s k (of_kind s room rows T deep k) r) (named s room T) N N' r e
    kind_here j d = record { says = only_here (row_at room T) rows s k (of_kind s room rows T deep k) r h i refl j (named_kind s room rows T k x.kind deep x r j d.says); walked = d.walked }

module _ (row : ℕ → Row) (rows : ℕ) (s : List ℕ) (deep r : ℕ) {t : ℕ → Text} {N N' : List ℕ} {e : Option ℕ} where
  pub array_walked : Done (only row rows s 9 (item row rows s (item_of 9) (nested row rows s deep)) r) t N N' r e → Done (only row rows s 9 (array_item (nested row rows s deep)) r) t N N' r e
  unfolding item_of
  array_walked d = d

  pub struct_walked : Done (only row rows s 10 (item row rows s (item_of 10) (nested row rows s deep)) r) t N N' r e → Done (only row rows s 10 (struct_item row rows s (nested row rows s deep)) r) t N N' r e
  unfolding item_of
  struct_walked d = d

pub array_holds : holds_items 9 ≡ true
unfolding holds_items
array_holds = refl

pub struct_holds : holds_items 10 ≡ true
unfolding holds_items
struct_holds = refl

pub kind_holds : (k k' : ℕ) → holds_items k ≡ true → k' ≡ k → holds_items k' ≡ true
kind_holds k k' h e = rw e h

pub row_below : {rows room words r : ℕ} → Ready rows room words → r < rows → r < 4096
row_below h l = omega (arith, h.stated, h.most)

pub ruleset walked = (contents_ready, contents_none, contents_done, going_first, going_on, going_ready, going_done, item_ready, item_known, holds_item, key_fails, rows_end, contents_stop, contents_again, scalar_stop, scalar_again, none_stop, single, kind_past, kind_not, kind_here, kind_holds, array_holds, struct_holds, array_walked, struct_walked, row_below)
