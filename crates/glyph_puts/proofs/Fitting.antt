-- What is writable has children that are, and rows enough for the keys of its dicts. Assumes nothing.
use mathlib.Core.Path.{◌≡◌, refl, sym, ◌∙◌}
use mathlib.Core.Bool.{Bool, true, false}
use mathlib.Core.List.{List, []}
use Prim.Native.Nat.{ℕ, zero, suc, ◌+◌, ◌-◌, ◌*◌, ◌/◌, ◌≤◌, ◌<◌}
use native.Mathlib.Omega.{arith}
use native.Mathlib.Numerals.{sub-one}
use mir.Syntax.{w64}
use mir.Val.{Fits}
use lib.Dec.{eqb, ltb, leb}
use borrow.Author.Tests.{eqb-true, ltb-true}
use Rattle.std.proofs.Common.{Option, Some, None}
use Rattle.draft.specs.declared.Row.{Row}
use Rattle.draft.specs.Content.{key_rule, verdict}
use Rattle.draft.specs.Read.{Texts, text_of}
use Rattle.draft.specs.Writable.{fit, ruled, then, Walk, pair, items, alike, nothing, closed, leaf, over, integer_item, content_item, sized, string, string_by, member, keeping}
use Rattle.key_rows.proofs.Keying.{until_one, no_end, fit_end, ruled_end, closed_end, string_end}
use Rattle.glyph.specs.declared.Edition.{Edition}
use Rattle.glyph.specs.declared.Edition.TheVariants.{New, Old}
use Rattle.glyph.specs.declared.Many.{Many as ManyLetter}
use Rattle.glyph.specs.declared.Many.TheVariants.{List as ListOf, Dict, Ordered}
use Rattle.glyph.specs.declared.Three.{Three as ThreeLetter}
use Rattle.glyph.specs.declared.Three.TheVariants.{Extension, Node}
use Rattle.glyph.specs.declared.Want.{Want}
use Rattle.glyph.specs.declared.Want.TheVariants.{Any}
use Rattle.glyph.specs.Letters.{keyed_by, name_want, attributes_want}
use Rattle.glyph_form.specs.declared.Sort.{Sort}
use Rattle.glyph_form.specs.declared.Sort.TheVariants.{Integer, Boolean, Content, Nil, Many, Three, Unknown}
use Rattle.glyph_form.specs.Sorts.{node_sort, sort_of, meets}
use Rattle.glyph_form.specs.Writable.{Nest, floor, under, entry, kept, entries, item, object}
use Rattle.glyph_rows.specs.Holding.{holds}
use Rattle.glyph_rows.proofs.Containers.{floor_none}
use Rattle.key_order.specs.Arranged.{Keys, no_key, key}
use Rattle.glyph_puts.specs.Contract.{Fit, Children, no_child, child, Members, no_member, member as one_member}

-- what the kind of row r names
pub record Stands (row : ℕ → Row) (e : Edition) (r : ℕ) (i : Sort) : Type 0 where
  pub is : sort_of e (row r).kind ≡ i

fit_true : (b : Bool) (o : Option ℕ) {n : ℕ} → fit b o ≡ Some n → b ≡ true
fit_true true o e = refl
fit_true false o e = absurd (no_end e)

closed_is : (x : Row) (o : Option ℕ) {n : ℕ} → closed x o ≡ Some n → x.end ≡ n
closed_is x None e = absurd (no_end e)
closed_is x (Some k) e = eqb-true x.end k (fit_true (eqb x.end k) (Some k) e) ∙ until_one (fit_end (eqb x.end k) (Some k) e)

then_end : (o : Option ℕ) (g : Walk) {n : ℕ} → then o g ≡ Some n → (k : ℕ) × (o ≡ Some k) × (g k ≡ Some n)
then_end None g e = absurd (no_end e)
then_end (Some k) g e = (k, refl, e)

over_end : (x : Row) (o : Option ℕ) {n : ℕ} → over x o ≡ Some n → closed x o ≡ Some n
over_end x o e = fit_end (eqb x.a 0) (closed x o) e

-- an object ends behind its first row, at the row that it says
record Ended (row : ℕ → Row) (r n : ℕ) : Type 0 where
  on : r < n
  is : (row r).end ≡ n

-- what f walks ends behind its first row
abbrev Onward : Walk → Type 0
Onward f = (r n : ℕ) → f r ≡ Some n → r < n

-- and so does what may nest
abbrev Below : Nest → Type 0
Below floor = Unit {0}
Below (under f) = (w : Want) → Onward (f w)

module _ (row : ℕ → Row) (rows : ℕ) (s : List ℕ) where
  closed_ended : (r : ℕ) (o : Option ℕ) {n : ℕ} → ((k : ℕ) → o ≡ Some k → r < k) → closed (row r) o ≡ Some n → Ended row r n
  closed_ended r o f e = record { on = f _ (closed_end (row r) o e); is = closed_is (row r) o e }

  leaf_ended : (r : ℕ) {n : ℕ} → leaf (row r) r ≡ Some n → Ended row r n
  leaf_ended r e = closed_ended r (Some (r + 1)) (λ k h. omega (arith, until_one h)) e

  -- behind a key, or as it is
  by_end : (seen : Texts) (r : ℕ) {n : ℕ} → string_by row rows s (key_rule seen) r ≡ Some n → n ≡ r + 1
  unfolding string_by
  by_end seen r e =
      let z = then_end (string row rows s r) (λ next. ruled (key_rule seen (text_of s (row r))) (Some next)) e in
      sym (until_one (ruled_end (key_rule seen (text_of s (row r))) (Some z.0) z.2)) ∙ string_end row rows s r z.1

  member_end : (f : Walk) (seen : Texts) (r : ℕ) {n : ℕ} → member row rows s f seen r ≡ Some n → f (r + 1) ≡ Some n
  unfolding member pair
  member_end f seen r e =
      let z = then_end (string_by row rows s (key_rule seen) r) f e in
      rw (by_end seen r z.1) at z.2

  -- n pairs have two rows each at least, n objects one
  members_on : (f : Walk) → Onward f → (m : ℕ) (seen : Texts) (r : ℕ) {n : ℕ} → items (member row rows s f) (keeping row rows s) m seen r ≡ Some n → r + 2 * m ≤ n
  unfolding items
  members_on f b zero seen r e = omega (arith, until_one e)
  members_on f b (suc m) seen r e =
      let z = then_end (member row rows s f seen r) (λ next. items (member row rows s f) (keeping row rows s) m (keeping row rows s seen r) next) e in
      omega (arith, b (r + 1) z.0 (member_end f seen r z.1), members_on f b m (keeping row rows s seen r) z.0 z.2)

  objects_on : (f : Walk) → Onward f → (m : ℕ) (seen : Texts) (r : ℕ) {n : ℕ} → items (alike f) nothing m seen r ≡ Some n → r + m ≤ n
  unfolding items alike
  objects_on f b zero seen r e = omega (arith, until_one e)
  objects_on f b (suc m) seen r e =
      let z = then_end (f r) (λ next. items (alike f) nothing m (nothing seen r) next) e in
      omega (arith, b r z.0 z.1, objects_on f b m (nothing seen r) z.0 z.2)

  entries_on : (keyed : Bool) (f : Walk) → Onward f → (m r : ℕ) {n : ℕ} → entries row rows s keyed f m r ≡ Some n → r ≤ n
  unfolding entries entry kept
  entries_on true f b m r e = omega (arith, members_on f b m [] r e)
  entries_on false f b m r e = omega (arith, objects_on f b m [] r e)

  three_on : (f g h : Walk) → Onward f → Onward g → Onward h → (r : ℕ) {n : ℕ} → pair f (pair g h) r ≡ Some n → r < n
  unfolding pair
  three_on f g h a b c r {n} e =
      let z = then_end (f r) (pair g h) e in
      let y = then_end (g z.0) h z.2 in
      omega (arith, a r z.0 z.1, b z.0 y.0 y.1, c y.0 n y.2)

  abbrev many_walk : ManyLetter → (Want → Walk) → ℕ → Option ℕ
  many_walk l f r = entries row rows s (keyed_by l) (f Any) (row r).b (r + 1)

  abbrev three_walk : ThreeLetter → (Want → Walk) → ℕ → Option ℕ
  three_walk l f r = pair (f (name_want l)) (pair (f (attributes_want l)) (f Any)) (r + 1)

  item_ended : (i : Sort) (nest : Nest) → Below nest → (r : ℕ) {n : ℕ} → item row rows s i nest (row r) r ≡ Some n → Ended row r n
  unfolding content_item
  item_ended Integer nest b r e = leaf_ended r (fit_end (eqb (row r).b 0) (leaf (row r) r) e)
  item_ended Boolean nest b r e = leaf_ended r (fit_end (eqb (row r).b 0) (leaf (row r) r) (fit_end (leb (row r).a 1) (integer_item (row r) r) e))
  item_ended (Content c) nest b r e = leaf_ended r (ruled_end (verdict c s (row r).a (row r).b) (leaf (row r) r) (fit_end (sized c (row r).b) (ruled (verdict c s (row r).a (row r).b) (leaf (row r) r)) e))
  item_ended Nil nest b r e = leaf_ended r (over_end (row r) (Some (r + 1)) (fit_end (eqb (row r).b 0) (over (row r) (Some (r + 1))) e))
  item_ended (Many l) floor b r e = absurd (no_end e)
  item_ended (Many l) (under f) b r e =
      closed_ended r (many_walk l f r) (λ k h. omega (arith, entries_on (keyed_by l) (f Any) (b Any) (row r).b (r + 1) h)) (over_end (row r) (many_walk l f r) e)
  item_ended (Three l) floor b r e = absurd (no_end e)
  item_ended (Three l) (under f) b r e =
      closed_ended r (three_walk l f r) (λ k h. omega (arith, three_on (f (name_want l)) (f (attributes_want l)) (f Any) (b (name_want l)) (b (attributes_want l)) (b Any) (r + 1) h))
      (over_end (row r) (three_walk l f r) (fit_end (eqb (row r).b 3) (over (row r) (three_walk l f r)) e))
  item_ended Unknown nest b r e = absurd (no_end e)

  module _ (e : Edition) where
    abbrev nest : ℕ → Nest
    nest zero = floor
    nest (suc deep) = under (object row rows s e deep)

    -- what stands at row r
    object_in : (deep : ℕ) (w : Want) (r : ℕ) {n : ℕ} → object row rows s e deep w r ≡ Some n → r < rows
    unfolding object
    object_in zero w r h = ltb-true r rows (fit_true (ltb r rows) _ h)
    object_in (suc deep) w r h = ltb-true r rows (fit_true (ltb r rows) _ h)

    object_item : (deep : ℕ) (w : Want) (r : ℕ) {n : ℕ} → object row rows s e deep w r ≡ Some n → item row rows s (sort_of e (row r).kind) (nest deep) (row r) r ≡ Some n
    unfolding object
    object_item zero w r h = fit_end (meets w (row r).kind) _ (fit_end (ltb r rows) _ h)
    object_item (suc deep) w r h = fit_end (meets w (row r).kind) _ (fit_end (ltb r rows) _ h)

    object_ended : (deep : ℕ) (w : Want) (r : ℕ) {n : ℕ} → object row rows s e deep w r ≡ Some n → Ended row r n
    object_ended zero w r h = item_ended (sort_of e (row r).kind) floor tt r (object_item zero w r h)
    object_ended (suc deep) w r h = item_ended (sort_of e (row r).kind) (under (object row rows s e deep)) (λ v k m g. (object_ended deep v k g).on) r (object_item (suc deep) w r h)

    -- what is below it
    module _ (deep : ℕ) (room : ℕ) (stated : rows ≤ room) (spare : ℕ) where
      fit_at : (w : Want) (r : ℕ) {n : ℕ} → object row rows s e deep w r ≡ Some n → 3 * n ≤ 3 * (r + 1) + 4 * spare → Fit row room s e deep spare r
      fit_at w r {n} h l = record { rows = rows; stated = stated; want = w; stop = n; walk = h; span = l }

      abbrev below : Walk
      below = object row rows s e deep Any

      children_at : (m : ℕ) (seen : Texts) (r : ℕ) {n : ℕ} → items (alike below) nothing m seen r ≡ Some n → 3 * n ≤ 3 * r + 4 * spare → Children row room s e deep spare m r
      unfolding items alike
      children_at zero seen r h l = no_child
      children_at (suc m) seen r h l =
          let z = then_end (below r) (λ next. items (alike below) nothing m (nothing seen r) next) h in
          let a = object_ended deep Any r z.1 in
          let b = objects_on below (λ k i g. (object_ended deep Any k g).on) m (nothing seen r) z.0 z.2 in
          child {n = m} (fit_at Any r z.1 (omega (arith, b))) (rw a.is (children_at m (nothing seen r) z.0 z.2 (omega (arith, a.on))))

      members_at : (m : ℕ) (seen : Texts) (r : ℕ) {n : ℕ} → items (member row rows s below) (keeping row rows s) m seen r ≡ Some n → 3 * n ≤ 3 * r + 4 * m + 4 * spare → Members row room s e deep spare m r
      unfolding items
      members_at zero seen r h l = no_member
      members_at (suc m) seen r h l =
          let z = then_end (member row rows s below seen r) (λ next. items (member row rows s below) (keeping row rows s) m (keeping row rows s seen r) next) h in
          let v = member_end below seen r z.1 in
          let a = object_ended deep Any (r + 1) v in
          let b = members_on below (λ k i g. (object_ended deep Any k g).on) m (keeping row rows s seen r) z.0 z.2 in
          one_member {n = m} (fit_at Any (r + 1) v (omega (arith, b))) (rw a.is (members_at m (keeping row rows s seen r) z.0 z.2 (omega (arith, a.on))))

      three_at : (u v : Want) (r : ℕ) {n : ℕ} → pair (object row rows s e deep u) (pair (object row rows s e deep v) below) r ≡ Some n → 3 * n ≤ 3 * r + 4 * spare → Children row room s e deep spare 3 r
      unfolding pair
      three_at u v r h l =
          let z = then_end (object row rows s e deep u r) (pair (object row rows s e deep v) below) h in
          let y = then_end (object row rows s e deep v z.0) below z.2 in
          let a = object_ended deep u r z.1 in
          let b = object_ended deep v z.0 y.1 in
          let c = object_ended deep Any y.0 y.2 in
          let third : Children row room s e deep spare 1 y.0 = child {n = 0} (fit_at Any y.0 y.2 (omega (arith, a.on, b.on))) no_child in
          let second : Children row room s e deep spare 2 z.0 = child {n = 1} (fit_at v z.0 y.1 (omega (arith, a.on, c.on))) (rw b.is third) in
          child {n = 2} (fit_at u r z.1 (omega (arith, b.on, c.on))) (rw a.is second)

-- an object that is fit, in the code's words
module _ {row : ℕ → Row} {room : ℕ} {s : List ℕ} {e : Edition} {deep spare r : ℕ} (a : Fit row room s e deep spare r) where
  pub fit_in : r < room
  fit_in = omega (arith, a.stated, object_in row a.rows s e deep a.want r a.walk)

  stands_item : {i : Sort} → Stands row e r i → item row a.rows s i (nest row a.rows s e deep) (row r) r ≡ Some a.stop
  stands_item d = rw d.is at (object_item row a.rows s e deep a.want r a.walk)

  nothing_known : Stands row e r Unknown → ⊥
  nothing_known d = no_end (stands_item d)

  -- an object with children has a nesting left
  pub container_nested : {x : Row} → x ≡ row r → holds x.kind ≡ true → deep ≡ 0 → ⊥
  container_nested f h z = no_end (floor_none row a.rows s e (row r) r (rw f at h) ∙ rw z at (object_item row a.rows s e deep a.want r a.walk))

less : {row : ℕ → Row} {room : ℕ} {s : List ℕ} {e : Edition} {deep spare r : ℕ} → Fit row room s e deep spare r → (deep ≡ 0 → ⊥) → Fit row room s e (suc (deep - 1)) spare r
less {deep = zero} a z = absurd (z refl)
less {deep = suc deep} a z = rw (sub-one (suc deep)) a

module _ {row : ℕ → Row} {room : ℕ} {s : List ℕ} {e : Edition} {deep spare r : ℕ} (a : Fit row room s e (suc deep) spare r) where
  many_end : {l : ManyLetter} → Stands row e r (Many l) → entries row a.rows s (keyed_by l) (object row a.rows s e deep Any) (row r).b (r + 1) ≡ Some a.stop
  many_end {l} d = let w : Option ℕ = many_walk row a.rows s l (object row a.rows s e deep) r in closed_end (row r) w (over_end (row r) w (stands_item a d))

  list_below : Stands row e r (Many ListOf) → Children row room s e deep spare (row r).b (r + 1)
  unfolding entries entry kept
  list_below d = children_at row a.rows s e deep room a.stated spare (row r).b [] (r + 1) (many_end d) (omega (arith, a.span))

  ordered_below : Stands row e r (Many Ordered) → Members row room s e deep spare (row r).b (r + 1)
  unfolding entries entry kept
  ordered_below d = members_at row a.rows s e deep room a.stated spare (row r).b [] (r + 1) (many_end d) (omega (arith, a.span))

  dict_few : Stands row e r (Many Dict) → (row r).b + (row r).b / 2 ≤ spare
  unfolding entries entry kept
  dict_few d = omega (arith, a.span, members_on row a.rows s (object row a.rows s e deep Any) (λ k i g. (object_ended row a.rows s e deep Any k g).on) (row r).b [] (r + 1) (many_end d))

  dict_below : Stands row e r (Many Dict) → Members row room s e deep (spare - (row r).b) (row r).b (r + 1)
  unfolding entries entry kept
  dict_below d = members_at row a.rows s e deep room a.stated (spare - (row r).b) (row r).b [] (r + 1) (many_end d) (omega (arith, a.span, dict_few d))

  three_end : {l : ThreeLetter} → Stands row e r (Three l) → three_walk row a.rows s l (object row a.rows s e deep) r ≡ Some a.stop
  three_end {l} d = let w : Option ℕ = three_walk row a.rows s l (object row a.rows s e deep) r in closed_end (row r) w (over_end (row r) w (fit_end (eqb (row r).b 3) (over (row r) w) (stands_item a d)))

  three_below : {l : ThreeLetter} → Stands row e r (Three l) → Children row room s e deep spare 3 (r + 1)
  three_below {l} d = three_at row a.rows s e deep room a.stated spare (name_want l) (attributes_want l) (r + 1) (three_end d) (omega (arith, a.span))

-- the children of what is fit, by its kind
module _ {row : ℕ → Row} {e : Edition} {r : ℕ} {x : Row} (f : x ≡ row r) where
  pub stands_list : x.kind ≡ 9 → Stands row e r (Many ListOf)
  unfolding sort_of
  stands_list k = record { is = rw (← f, k) }

  pub stands_dict : x.kind ≡ 10 → Stands row e r (Many Dict)
  unfolding sort_of
  stands_dict k = record { is = rw (← f, k) }

  pub stands_ordered : x.kind ≡ 14 → Stands row e r (Many Ordered)
  unfolding sort_of
  stands_ordered k = record { is = rw (← f, k) }

  pub stands_extension : x.kind ≡ 15 → Stands row e r (Three Extension)
  unfolding sort_of
  stands_extension k = record { is = rw (← f, k) }

  -- a node is in 0.5 alone
  pub stands_node : {room : ℕ} {s : List ℕ} {deep spare : ℕ} → Fit row room s e deep spare r → x.kind ≡ 16 → Stands row e r (Three Node)
  unfolding sort_of
  stands_node a k = go e refl
    where
      is_node : sort_of e (row r).kind ≡ node_sort e
      is_node = rw (← f, k)

      go : (d : Edition) → d ≡ e → Stands row e r (Three Node)
      go New q = absurd (nothing_known a (record { is = is_node ∙ rw (← q) }))
      go Old q = record { is = is_node ∙ rw (← q) }

module _ {row : ℕ → Row} {room : ℕ} {s : List ℕ} {e : Edition} {deep spare r : ℕ} (a : Fit row room s e deep spare r) (z : deep ≡ 0 → ⊥) {x : Row} (f : x ≡ row r) where
  pub extension_children : x.kind ≡ 15 → Children row room s e (deep - 1) spare 3 (r + 1)
  extension_children k = three_below (less a z) (stands_extension f k)

  pub node_children : x.kind ≡ 16 → Children row room s e (deep - 1) spare 3 (r + 1)
  node_children k = three_below (less a z) (stands_node f a k)

  module _ {n : ℕ} (q : n ≡ x.b) where
    count : n ≡ (row r).b
    count = q ∙ rw f

    pub list_children : x.kind ≡ 9 → Children row room s e (deep - 1) spare n (r + 1)
    list_children k = rw count (list_below (less a z) (stands_list f k))

    pub ordered_members : x.kind ≡ 14 → Members row room s e (deep - 1) spare n (r + 1)
    ordered_members k = rw count (ordered_below (less a z) (stands_ordered f k))

    pub dict_spare : x.kind ≡ 10 → n + n / 2 ≤ spare
    dict_spare k = rw count (dict_few (less a z) (stands_dict f k))

    pub dict_members : x.kind ≡ 10 → Members row room s e (deep - 1) (spare - n) n (r + 1)
    dict_members k = rw count (dict_below (less a z) (stands_dict f k))

-- the row behind it is a number, and so is the row of a value
pub next_fits : {row : ℕ → Row} {room : ℕ} {s : List ℕ} {e : Edition} {deep spare r : ℕ} → Fit row room s e deep spare r → room ≤ 4096 → Fits w64 (r + 1)
next_fits a h = omega (arith, fit_in a)

pub value_fits : {row : ℕ → Row} {room : ℕ} {s : List ℕ} {e : Edition} {deep spare : ℕ} (k : ℕ) → Fit row room s e deep spare (k + 1) → room ≤ 4096 → Fits w64 (k + 1)
value_fits k a h = omega (arith, fit_in a)

-- one after the other
module _ {row : ℕ → Row} {room : ℕ} {s : List ℕ} {e : Edition} {deep spare : ℕ} where
  pub first_child : {n r : ℕ} → Children row room s e deep spare n r → 0 < n → Fit row room s e deep spare r
  first_child no_child h = absurd (omega arith)
  first_child (child a c) h = a

  pub other_children : {n r next : ℕ} → Children row room s e deep spare n r → 0 < n → next ≡ (row r).end → Children row room s e deep spare (n - 1) next
  other_children no_child h q = absurd (omega arith)
  other_children (child {n} a c) h q = rw (q, sub-one (suc n)) c

  pub first_member : {n r : ℕ} → Members row room s e deep spare n r → 0 < n → Fit row room s e deep spare (r + 1)
  first_member no_member h = absurd (omega arith)
  first_member (one_member a c) h = a

  pub other_members : {n r next : ℕ} → Members row room s e deep spare n r → 0 < n → next ≡ (row (r + 1)).end → Members row room s e deep spare (n - 1) next
  other_members no_member h q = absurd (omega arith)
  other_members (one_member {n} a c) h q = rw (q, sub-one (suc n)) c

  pub member_keys : {n r : ℕ} → Members row room s e deep spare n r → Keys row room n r
  member_keys no_member = no_key
  member_keys (one_member a c) = key (fit_in a) (member_keys c)

  -- one alone
  pub only_child : {r : ℕ} → Fit row room s e deep spare r → Children row room s e deep spare 1 r
  only_child a = child {n = 0} a no_child

pub ruleset fitting = (fit_in, next_fits, value_fits, extension_children, node_children, list_children, ordered_members, dict_spare, dict_members, first_child, other_children, first_member, other_members, member_keys, only_child)
