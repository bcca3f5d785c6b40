-- What a walk over rows accepts tells a tree that the rows realise and that the edition derives: one law for each production. Assumes nothing.
use mathlib.Core.Path.{◌≡◌, refl, sym, ap, ◌∙◌}
use mathlib.Core.Bool.{Bool, true, false, ◌||◌, cond}
use mathlib.Core.List.{List, [], ◌∷◌, ◌++◌, append_assoc}
use Prim.Native.Nat.{ℕ, zero, suc, ◌+◌, ◌≤◌, ◌<◌}
use Prim.Native.Char.{code}
use native.Mathlib.Omega.{arith}
use lib.Dec.{leb, eqb, ltb}
use lib.ListN.{length, drop, length-append, length-take, length-drop}
use borrow.Author.Tests.{eqb-true, leb-true}
use Rattle.std.proofs.Common.{Some}
use Rattle.text.specs.Utf8.{well_formed}
use Rattle.text.specs.Texts.{among}
use Rattle.draft.specs.declared.Row.{Row}
use Rattle.draft.specs.declared.Refusal.TheVariants.{BadText, RepeatedKey}
use Rattle.std.specs.Prelude.{Ok}
use Rattle.draft.specs.declared.Content.TheVariants as content
use Rattle.draft.specs.Content.{fine_if, bad_if, content_rule, key_rule}
use Rattle.draft.specs.Read.{Texts, text_of}
use Rattle.draft.specs.Grammar.{holding, number, contents, Cell, cell}
use Rattle.draft.specs.Meaning.{has_number, has_content, says_holding, says_number, says_contents, means}
use Rattle.draft.specs.Writable.{pair as walk_pair, items, alike, nothing, leaf as walk-leaf, over, holding as walk-holding, integer_item, boolean_item, content_item, string as walk-string, string_by, member, keeping}
use Rattle.written.proofs.Standing.{Stands, stands_none, stands_more, stands_one, stands_append}
use Rattle.written.proofs.Tests.{unfit_until, fit_by, ruled_by, leaf_by_lem, content_by, over_by, holding_by, only_by, then_by, until_same}
use Rattle.glyph.specs.declared.Edition.{Edition}
use Rattle.glyph.specs.declared.Edition.TheVariants.{New, Old}
use Rattle.glyph.specs.declared.Many.TheVariants as many
use Rattle.glyph.specs.declared.Three.TheVariants as three
use Rattle.glyph.specs.declared.Want.{Want}
use Rattle.glyph.specs.declared.Want.TheVariants.{Any, Text, EitherDict}
use Rattle.glyph.specs.Letters.{many_kind}
use Rattle.glyph.specs.Tree.{Tree, leaf, many as many-tree, plain, ordered, Trees, none, also, Pairs, count, count_pairs, cells, cells_of, pair_cells}
use Rattle.glyph.specs.Grammar.{no_blanks, Meets, any, unicode_met, dict_met, ordered_met, Extends, new_extension, old_extension, Nodes, old_node, Object, unicode, bytearray, true_object, false_object, nil, list, dict, ordered_dict, extension, node, Objects, close, more, Members, close_members, more_members, Parts, parts}
use Rattle.glyph_form.specs.declared.Sort.{Sort}
use Rattle.glyph_form.specs.declared.Sort.TheVariants.{Integer, Boolean, Content, Nil, Many, Three, Unknown}
use Rattle.glyph_form.specs.Sorts.{node_sort, sort_of, meets}
use Rattle.glyph_form.specs.Told.{trees, pairs, told, tree_at}
use Rattle.glyph_form.specs.Form.{boolean_bytes, content_bytes, leaf_bytes, letter_for, bytes_of, bytes_of_all, bytes_of_pairs}
use Rattle.glyph_form.specs.Writable.{floor, under, entry, kept, entries, item, object}
use Rattle.glyph_back.specs.Brief.{Short}
use Rattle.glyph_back.proofs.Back.{parted, three_bytes}
use Rattle.glyph_back.proofs.Numerals.{content_written, integer_written}
use Rattle.glyph_told.proofs.Telling.{inside, tree_is, ends_at}
use Rattle.glyph_told.proofs.Fitting.{object_is}

-- the kind of a sort; a node is in 0.5 alone
abbrev HasKind : Edition → Sort → ℕ → Type 0
HasKind e Integer k = k ≡ 4
HasKind e Boolean k = k ≡ 5
HasKind e (Content content.Double) k = ⊥
HasKind e (Content content.DateTime) k = ⊥
HasKind e (Content content.Binary) k = k ≡ 8
HasKind e (Content content.Text) k = k ≡ 11
HasKind e Nil k = k ≡ 13
HasKind e (Many l) k = k ≡ many_kind l
HasKind e (Three three.Extension) k = k ≡ 15
HasKind e (Three three.Node) k = (k ≡ 16) × Nodes e (code "X")
HasKind e Unknown k = Unit {0}

sort_or : (e : Edition) (k n : ℕ) (x y : Sort) → (k ≡ n → HasKind e x k) → HasKind e y k → HasKind e (cond (eqb k n) x y) k
sort_or e k n x y h i = go (eqb k n) refl
  where
    go : (b : Bool) → eqb k n ≡ b → HasKind e (cond b x y) k
    go true j = h (eqb-true k n j)
    go false j = i

node_kind : (e : Edition) (k : ℕ) → k ≡ 16 → HasKind e (node_sort e) k
node_kind New k h = tt
node_kind Old k h = (h, old_node)

sort_kind : (e : Edition) (k : ℕ) → HasKind e (sort_of e k) k
unfolding sort_of
sort_kind e k =
    sort_or e k 4 Integer _ (λ i. i)
    (sort_or e k 5 Boolean _ (λ i. i)
    (sort_or e k 8 (Content content.Binary) _ (λ i. i)
    (sort_or e k 9 (Many many.List) _ (λ i. i)
    (sort_or e k 10 (Many many.Dict) _ (λ i. i)
    (sort_or e k 11 (Content content.Text) _ (λ i. i)
    (sort_or e k 13 Nil _ (λ i. i)
    (sort_or e k 14 (Many many.Ordered) _ (λ i. i)
    (sort_or e k 15 (Three three.Extension) _ (λ i. i)
    (sort_or e k 16 (node_sort e) Unknown (node_kind e k) tt)))))))))

-- rules that hold
text_by : (t : List ℕ) → content_rule content.Text t ≡ Ok tt → well_formed t ≡ true
unfolding content_rule
text_by t h = go (well_formed t) h
  where
    go : (b : Bool) → fine_if b BadText ≡ Ok tt → b ≡ true
    go true i = refl
    go false i = let z : ◌≡◌ {A = ℕ} 0 1 = cc in absurd (omega arith)

key_by : (seen : Texts) (k : List ℕ) → key_rule seen k ≡ Ok tt → among seen k ≡ false
unfolding key_rule
key_by seen k h = go (among seen k) h
  where
    go : (b : Bool) → bad_if b RepeatedKey ≡ Ok tt → b ≡ false
    go true i = let z : ◌≡◌ {A = ℕ} 0 1 = cc in absurd (omega arith)
    go false i = refl

boolean_object : (e : Edition) (d n : ℕ) → n ≤ 1 → Object e d (boolean_bytes n) (leaf 5 (number n))
unfolding boolean_bytes
boolean_object e d zero h = false_object
boolean_object e d (suc zero) h = true_object
boolean_object e d (suc (suc n)) h = absurd (omega arith)

-- letters of the written form
extends : (e : Edition) → Extends e (letter_for e 15)
unfolding letter_for
extends New = new_extension
extends Old = old_extension

node_letter : {e : Edition} → Nodes e (code "X") → Nodes e (letter_for e 16)
unfolding letter_for
node_letter old_node = old_node

-- the rows by their numbers, how many there are, and the text bytes; numbers are words of 32 bits
module _ (row : ℕ → Row) (rows : ℕ) (s : List ℕ) (words : (r : ℕ) → (row r).a < 4294967296) (short : Short s) where
  -- a tree that the rows from row r to `to` realise, and the edition derives
  pub record Made (e : Edition) (d r to : ℕ) (t : Tree) : Type 0 where
    pub ends : to ≡ r + length (cells t)
    pub stands : Stands row s r (cells t)
    pub derived : Object e d (bytes_of e t) t

  -- the same of several, and of pairs behind keys that were seen
  record MadeAll (e : Edition) (d n r to : ℕ) (ts : Trees) : Type 0 where
    many_count : count ts ≡ n
    ends : to ≡ r + length (cells_of ts)
    stands : Stands row s r (cells_of ts)
    derived : Objects e d (bytes_of_all e ts ++ (code ";" ∷ [])) ts

  record MadePairs (e : Edition) (d n : ℕ) (seen : Texts) (r to : ℕ) (ps : Pairs) : Type 0 where
    many_count : count_pairs ps ≡ n
    ends : to ≡ r + length (pair_cells ps)
    stands : Stands row s r (pair_cells ps)
    derived : Members e d seen (bytes_of_pairs e ps ++ (code ";" ∷ [])) ps

  -- texts are short
  text_short : (x : Row) → Short (text_of s x)
  text_short x = omega (arith, short, length-take x.b (drop x.a s), length-drop x.a s)

  -- rows stand at one place
  stands_at : {r r' : ℕ} {cs : List Cell} → r ≡ r' → Stands row s r cs → Stands row s r' cs
  stands_at e h = rw e at h

  -- an object of one row
  one : (e : Edition) (d : ℕ) {r to : ℕ} {t : Tree} → walk-leaf (row r) r ≡ Some to → length (cells t) ≡ 1 → ((row r).end ≡ r + 1 → Stands row s r (cells t)) → Object e d (bytes_of e t) t → Made e d r to t
  one e d {r} h l m o = let f = leaf_by_lem (row r) r h in record { ends = omega (arith, f.1, l); stands = m f.0; derived = o }

  integer_made : (e : Edition) (d : ℕ) {r to : ℕ} → (row r).kind ≡ 4 → integer_item (row r) r ≡ Some to → Made e d r to (leaf 4 (number (row r).a))
  unfolding cells bytes_of leaf_bytes has_number
  integer_made e d {r} k h =
      let f = fit_by (eqb (row r).b 0) _ h in
      one e d f.1 refl (λ z. stands_one (means k (omega (arith, z)) (says_number (rw k) refl (eqb-true _ _ f.0)))) (integer_written e d (row r).a (words r))

  boolean_made : (e : Edition) (d : ℕ) {r to : ℕ} → (row r).kind ≡ 5 → boolean_item (row r) r ≡ Some to → Made e d r to (leaf 5 (number (row r).a))
  unfolding cells bytes_of leaf_bytes has_number
  boolean_made e d {r} k h =
      let f = fit_by (leb (row r).a 1) _ h in
      let g = fit_by (eqb (row r).b 0) _ f.1 in
      one e d g.1 refl (λ z. stands_one (means k (omega (arith, z)) (says_number (rw k) refl (eqb-true _ _ g.0)))) (boolean_object e d (row r).a (leb-true _ _ f.0))

  text_made : (e : Edition) (d : ℕ) {r to : ℕ} → (row r).kind ≡ 11 → content_item s content.Text (row r) r ≡ Some to → Made e d r to (leaf 11 (contents (text_of s (row r))))
  unfolding cells bytes_of leaf_bytes has_content
  text_made e d {r} k h =
      let f = content_by s content.Text (row r) r h in
      one e d f.3 refl (λ z. stands_one (means k (omega (arith, z)) (says_contents (rw k) f.1 refl))) (unicode (content_written (text_of s (row r)) (text_short (row r))) (text_by (text_of s (row r)) f.2))

  bytes_made : (e : Edition) (d : ℕ) {r to : ℕ} → (row r).kind ≡ 8 → content_item s content.Binary (row r) r ≡ Some to → Made e d r to (leaf 8 (contents (text_of s (row r))))
  unfolding cells bytes_of leaf_bytes has_content
  bytes_made e d {r} k h =
      let f = content_by s content.Binary (row r) r h in
      one e d f.3 refl (λ z. stands_one (means k (omega (arith, z)) (says_contents (rw k) f.1 refl))) (bytearray (content_written (text_of s (row r)) (text_short (row r))))

  nil_made : (e : Edition) (d : ℕ) {r to : ℕ} → (row r).kind ≡ 13 → walk-holding 0 (row r) (Some (r + 1)) ≡ Some to → Made e d r to (leaf 13 (holding 0))
  unfolding cells bytes_of leaf_bytes has_number has_content
  nil_made e d {r} k h =
      let f = holding_by 0 (row r) (Some (r + 1)) h in
      let g = over_by (row r) (Some (r + 1)) f.1 in
      let i = until_same g.2 in
      record { ends = sym i; stands = stands_one (means k (omega (arith, g.1, i)) (says_holding (rw k) (rw k) g.0 f.0)); derived = nil }

  -- what a walk of objects gives
  abbrev Walks : Edition → ℕ → Type 0
  Walks e d = (w : Want) (r to : ℕ) → object row rows s e d w r ≡ Some to → Made e d r to (tree_at row s e d r) × Meets w (tree_at row s e d r)

  all_made : (e : Edition) (d : ℕ) → Walks e d → (n r to : ℕ) → items (alike (object row rows s e d Any)) nothing n [] r ≡ Some to → MadeAll e d n r to (trees row s (tree_at row s e d) n r)
  unfolding items alike nothing trees cells bytes_of
  all_made e d walks zero r to h = record { many_count = refl; ends = omega (arith, until_same h); stands = stands_none; derived = close }
  all_made e d walks (suc n) r to h =
      let f = then_by (object row rows s e d Any r) _ h in
      let a = (walks Any r f.middle f.is).0 in
      let i : (row r).end ≡ f.middle = ends_at row s (tree_at row s e d r) a.stands ∙ sym a.ends in
      let b = all_made e d walks n f.middle to f.next in
      let t = tree_at row s e d r in
      let ts = trees row s (tree_at row s e d) n f.middle in
      rw i
      (record {
        many_count = ap suc b.many_count;
        ends = omega (arith, a.ends, b.ends, length-append (cells t) (cells_of ts));
        stands = stands_append a.stands (stands_at a.ends b.stands);
        derived = more a.derived no_blanks b.derived (append_assoc (bytes_of e t) (bytes_of_all e ts) (code ";" ∷ []));
      })

  -- a key and its value
  pair_made :
      (e : Edition) (d : ℕ) → Walks e d → (seen : Texts) {r m : ℕ} → member row rows s (object row rows s e d Any) seen r ≡ Some m
      → Made e d r (r + 1) (leaf 11 (contents (text_of s (row r)))) × (among seen (text_of s (row r)) ≡ false) × Made e d (r + 1) m (tree_at row s e d (r + 1))
  unfolding member walk_pair string_by walk-string
  pair_made e d walks seen {r} {m} h =
      let f = then_by (string_by row rows s (key_rule seen) r) _ h in
      let g = then_by (walk-string row rows s r) _ f.is in
      let i = ruled_by (key_rule seen (text_of s (row r))) _ g.next in
      let j = only_by row rows s 11 (content_item s content.Text) (g.is ∙ i.1) in
      let a = text_made e d j.0 j.1 in
      let l = leaf_by_lem (row r) r (content_by s content.Text (row r) r j.1).3 in
      (made_to (sym l.1) a, key_by seen (text_of s (row r)) i.0, made_from (sym l.1) (walks Any f.middle m f.next).0)
    where
      made_to : {r to to' : ℕ} {t : Tree} → to ≡ to' → Made e d r to t → Made e d r to' t
      made_to q h = rw q at h

      made_from : {r r' to : ℕ} → r ≡ r' → Made e d r to (tree_at row s e d r) → Made e d r' to (tree_at row s e d r')
      made_from q h = rw q at h

  pairs_made :
      (e : Edition) (d : ℕ) → Walks e d → (n : ℕ) (seen : Texts) (r to : ℕ)
      → items (member row rows s (object row rows s e d Any)) (keeping row rows s) n seen r ≡ Some to
      → MadePairs e d n seen r to (pairs row s (tree_at row s e d) n r)
  unfolding items keeping pairs cells bytes_of leaf_bytes
  pairs_made e d walks zero seen r to h = record { many_count = refl; ends = omega (arith, until_same h); stands = stands_none; derived = close_members }
  pairs_made e d walks (suc n) seen r to h =
      let f = then_by (member row rows s (object row rows s e d Any) seen r) _ h in
      let g = pair_made e d walks seen f.is in
      let t = tree_at row s e d (r + 1) in
      let a = g.2 in
      let i : (row (r + 1)).end ≡ f.middle = ends_at row s t a.stands ∙ sym a.ends in
      let k = text_of s (row r) in
      let b = pairs_made e d walks n (k ∷ seen) f.middle to f.next in
      let ps = pairs row s (tree_at row s e d) n f.middle in
      rw i
      (record {
        many_count = ap suc b.many_count;
        ends = omega (arith, a.ends, b.ends, length-append (cells t) (pair_cells ps));
        stands = stands_append (stands_append g.0.stands a.stands) (stands_at (omega (arith, a.ends)) b.stands);
        derived = more_members g.0.derived g.1 no_blanks a.derived no_blanks b.derived (parted (code "u" ∷ content_bytes k) (bytes_of e t) (bytes_of_pairs e ps));
      })

  -- three of them
  record MadeThree (e : Edition) (d : ℕ) (w v : Want) (r to : ℕ) (a b c : Tree) : Type 0 where
    ends : to ≡ r + length (cells_of (also a (also b (also c none))))
    stands : Stands row s r (cells_of (also a (also b (also c none))))
    derived : Parts e d w v (bytes_of_all e (also a (also b (also c none))) ++ (code ";" ∷ [])) a b c

  three_made :
      (e : Edition) (d : ℕ) → Walks e d → (w v : Want) (r to : ℕ)
      → walk_pair (object row rows s e d w) (walk_pair (object row rows s e d v) (object row rows s e d Any)) r ≡ Some to
      → (a : Tree) × (b : Tree) × (c : Tree) × (trees row s (tree_at row s e d) 3 r ≡ also a (also b (also c none))) × MadeThree e d w v r to a b c
  unfolding walk_pair trees cells bytes_of
  three_made e d walks w v r to h =
      let f = then_by (object row rows s e d w r) _ h in
      let g = then_by (object row rows s e d v f.middle) _ f.next in
      let a = walks w r f.middle f.is in
      let b = walks v f.middle g.middle g.is in
      let c = walks Any g.middle to g.next in
      let x = tree_at row s e d r in
      let y = tree_at row s e d f.middle in
      let z = tree_at row s e d g.middle in
      let i : (row r).end ≡ f.middle = ends_at row s x a.0.stands ∙ sym a.0.ends in
      let j : (row f.middle).end ≡ g.middle = ends_at row s y b.0.stands ∙ sym b.0.ends in
      let k = length-append (cells x) (cells_of (also y (also z none))) in
      let l = length-append (cells y) (cells_of (also z none)) in
      let m = length-append (cells z) [] in (
        x,
        y,
        z,
        rw (i, j),
        record {
          ends = omega (arith, a.0.ends, b.0.ends, c.0.ends, k, l, m);
          stands = stands_append a.0.stands (stands_at a.0.ends (stands_append b.0.stands (stands_at b.0.ends (stands_append c.0.stands stands_none))));
          derived = parts no_blanks a.0.derived a.1 no_blanks b.0.derived b.1 no_blanks c.0.derived no_blanks (three_bytes (bytes_of e x) (bytes_of e y) (bytes_of e z));
        },
      )

  -- a row over others
  over_stands :
      (k b : ℕ) {r to : ℕ} {cs : List Cell} → has_number k ≡ false → has_content k ≡ false → (row r).kind ≡ k → (row r).b ≡ b → ((row r).a ≡ 0) × ((row r).end ≡ to)
      → to ≡ r + 1 + length cs → Stands row s (r + 1) cs → Stands row s r (cell k (length cs) (holding b) ∷ cs)
  over_stands k b h i j l f e t = stands_more (means j (f.1 ∙ e) (says_holding (rw j h) (rw j i) f.0 l)) (stands_at (omega arith) t)

  -- an object's own row, over what it holds
  module _ (e : Edition) (d : ℕ) (walks : Walks e d) {r to : ℕ} where
    list_made : (row r).kind ≡ 9 → over (row r) (items (alike (object row rows s e d Any)) nothing (row r).b [] (r + 1)) ≡ Some to → Made e (suc d) r to (many-tree 9 (trees row s (tree_at row s e d) (row r).b (r + 1)))
    unfolding cells bytes_of letter_for has_number has_content
    list_made k h =
        let f = over_by (row r) _ h in
        let a = all_made e d walks (row r).b (r + 1) to f.2 in
        record {
          ends = omega (arith, a.ends);
          stands = over_stands 9 _ refl refl k (sym a.many_count) (f.0, f.1) a.ends a.stands;
          derived = list no_blanks a.derived refl;
        }

    dict_made :
        (row r).kind ≡ 10 → over (row r) (items (member row rows s (object row rows s e d Any)) (keeping row rows s) (row r).b [] (r + 1)) ≡ Some to
        → Made e (suc d) r to (plain (pairs row s (tree_at row s e d) (row r).b (r + 1)))
    unfolding cells bytes_of has_number has_content
    dict_made k h =
        let f = over_by (row r) _ h in
        let a = pairs_made e d walks (row r).b [] (r + 1) to f.2 in
        record {
          ends = omega (arith, a.ends);
          stands = over_stands 10 _ refl refl k (sym a.many_count) (f.0, f.1) a.ends a.stands;
          derived = dict no_blanks a.derived refl;
        }

    ordered_made :
        (row r).kind ≡ 14 → over (row r) (items (member row rows s (object row rows s e d Any)) (keeping row rows s) (row r).b [] (r + 1)) ≡ Some to
        → Made e (suc d) r to (ordered (pairs row s (tree_at row s e d) (row r).b (r + 1)))
    unfolding cells bytes_of has_number has_content
    ordered_made k h =
        let f = over_by (row r) _ h in
        let a = pairs_made e d walks (row r).b [] (r + 1) to f.2 in
        record {
          ends = omega (arith, a.ends);
          stands = over_stands 14 _ refl refl k (sym a.many_count) (f.0, f.1) a.ends a.stands;
          derived = ordered_dict no_blanks a.derived refl;
        }

    -- three children, of a kind for which the grammar has a production
    over_three :
        (k : ℕ) (w v : Want) → has_number k ≡ false → has_content k ≡ false
        → ((zs : List ℕ) (a b c : Tree) → Parts e d w v zs a b c → Object e (suc d) (letter_for e k ∷ zs) (many-tree k (also a (also b (also c none)))))
        → (row r).kind ≡ k → walk-holding 3 (row r) (walk_pair (object row rows s e d w) (walk_pair (object row rows s e d v) (object row rows s e d Any)) (r + 1)) ≡ Some to
        → Made e (suc d) r to (many-tree k (trees row s (tree_at row s e d) 3 (r + 1)))
    unfolding cells bytes_of
    over_three k w v i j make l h =
        let o = walk_pair (object row rows s e d w) (walk_pair (object row rows s e d v) (object row rows s e d Any)) (r + 1) in
        let f = holding_by 3 (row r) o h in
        let g = over_by (row r) o f.1 in
        let a = three_made e d walks w v (r + 1) to g.2 in
        rw a.3
        (record {
          ends = omega (arith, a.4.ends);
          stands = over_stands k 3 i j l f.0 (g.0, g.1) a.4.ends a.4.stands;
          derived = make _ a.0 a.1 a.2 a.4.derived;
        })

  -- what stands at a row, by its sort: where nothing more may nest, and where others may
  floor_made : (e : Edition) {r to : ℕ} (o : Sort) → HasKind e o (row r).kind → item row rows s o floor (row r) r ≡ Some to → Made e zero r to (told row s o (inside row s e zero) (row r) r)
  floor_made e Integer k h = integer_made e zero k h
  floor_made e Boolean k h = boolean_made e zero k h
  floor_made e (Content content.Double) k h = absurd k
  floor_made e (Content content.DateTime) k h = absurd k
  floor_made e (Content content.Binary) k h = bytes_made e zero k h
  floor_made e (Content content.Text) k h = text_made e zero k h
  floor_made e Nil k h = nil_made e zero k h
  floor_made e (Many l) k h = unfit_until h
  floor_made e (Three l) k h = unfit_until h
  floor_made e Unknown k h = unfit_until h

  under_made :
      (e : Edition) (d : ℕ) → Walks e d → {r to : ℕ} (o : Sort) → HasKind e o (row r).kind → item row rows s o (under (object row rows s e d)) (row r) r ≡ Some to
      → Made e (suc d) r to (told row s o (inside row s e (suc d)) (row r) r)
  unfolding entries entry kept has_number has_content
  under_made e d walks Integer k h = integer_made e (suc d) k h
  under_made e d walks Boolean k h = boolean_made e (suc d) k h
  under_made e d walks (Content content.Double) k h = absurd k
  under_made e d walks (Content content.DateTime) k h = absurd k
  under_made e d walks (Content content.Binary) k h = bytes_made e (suc d) k h
  under_made e d walks (Content content.Text) k h = text_made e (suc d) k h
  under_made e d walks Nil k h = nil_made e (suc d) k h
  under_made e d walks (Many many.List) k h = list_made e d walks k h
  under_made e d walks (Many many.Dict) k h = dict_made e d walks k h
  under_made e d walks (Many many.Ordered) k h = ordered_made e d walks k h
  under_made e d walks (Three three.Extension) k h = over_three e d walks 15 Text EitherDict refl refl (λ zs a b c p. extension (extends e) p) k h
  under_made e d walks (Three three.Node) k h = over_three e d walks 16 Any Any refl refl (λ zs a b c p. node (node_letter k.1) p) k.0 h
  under_made e d walks Unknown k h = unfit_until h

  -- what may stand at a place, by its kind
  met_by : (e : Edition) (w : Want) (f : ℕ → Tree) (x : Row) (r k : ℕ) → meets w k ≡ true → Meets w (told row s (sort_of e k) f x r)
  unfolding meets sort_of
  met_by e Any f x r k h = any
  met_by e Text f x r k h = rw (eqb-true k 11 h) unicode_met
  met_by e EitherDict f x r k h = go (eqb k 10) refl h
    where
      go : (b : Bool) → eqb k 10 ≡ b → b || eqb k 14 ≡ true → Meets EitherDict (told row s (sort_of e k) f x r)
      go true i j = rw (eqb-true k 10 i) dict_met
      go false i j = rw (eqb-true k 14 j) ordered_met

  -- THE STATEMENT: an accepted walk ends where the rows do that realise the tree told there, which the edition derives
  pub walked : (e : Edition) (d : ℕ) → Walks e d
  walked e zero w r to h =
      let a = fit_by (ltb r rows) _ (sym (object_is row rows s e zero w r) ∙ h) in
      let b = fit_by (meets w (row r).kind) _ a.1 in
      rw (tree_is row s e zero r) (floor_made e (sort_of e (row r).kind) (sort_kind e (row r).kind) b.1, met_by e w (inside row s e zero) (row r) r (row r).kind b.0)
  walked e (suc d) w r to h =
      let a = fit_by (ltb r rows) _ (sym (object_is row rows s e (suc d) w r) ∙ h) in
      let b = fit_by (meets w (row r).kind) _ a.1 in
      rw (tree_is row s e (suc d) r) (under_made e d (walked e d) (sort_of e (row r).kind) (sort_kind e (row r).kind) b.1, met_by e w (inside row s e (suc d)) (row r) r (row r).kind b.0)
