-- What answers the returns and turns of the functions that put objects. Assumes nothing.
use mathlib.Core.Path.{◌≡◌, refl, sym, ap, ◌∙◌}
use mathlib.Core.Bool.{Bool, true, false, cond}
use mathlib.Core.List.{List, [], ◌∷◌, ◌++◌, append_assoc, append-nil}
use Prim.Native.Nat.{ℕ, zero, suc, ◌+◌, ◌-◌, ◌≤◌, ◌<◌}
use native.Mathlib.Omega.{arith}
use native.Mathlib.Numerals.{add-one, sub-one}
use mir.Syntax.{w64}
use mir.Val.{Fits}
use lib.ListN.{length, get_or, take, drop, length-take, length-drop, length-append, drop_of_length-le}
use lib.Seq.{take_at, drop-cons, length-take-le, get_or-take}
use lib.Dec.{eqb, ltb}
use borrow.Author.Tests.{eqb-true, eqb-false, ne_eqb}
use Rattle.text.proofs.Comparing.{clash}
use Rattle.draft.specs.declared.Content.TheVariants.{Binary, Text}
use Rattle.draft.specs.declared.Row.{Row}
use Rattle.draft.specs.Read.{text_of}
use Rattle.draft.specs.Grammar.{holding}
use Rattle.sorting.specs.Sorting.{key_text}
use Rattle.key_order.specs.Arranged.{key_rows, Laid}
use Rattle.glyph.specs.declared.Edition.{Edition}
use Rattle.glyph.specs.declared.Many.TheVariants.{List as ListOf, Dict, Ordered}
use Rattle.glyph.specs.declared.Three.{Three as ThreeLetter}
use Rattle.glyph.specs.declared.Three.TheVariants.{Extension, Node}
use Rattle.glyph.specs.Letters.{three_kind}
use Rattle.glyph.specs.Tree.{Tree, leaf}
use Rattle.glyph_form.specs.declared.Sort.TheVariants.{Integer, Boolean, Content, Nil, Many, Three, Unknown}
use Rattle.glyph_form.specs.Sorts.{sort_of}
use Rattle.glyph_form.specs.Told.{trees, pairs, told, tree_at}
use Rattle.glyph_form.specs.Form.{canon, canon_all, canon_pairs, leaf_bytes, integer_bytes, boolean_bytes, content_bytes, letter_for, bytes_of, bytes_of_all, bytes_of_pairs, written}
use Rattle.glyph_output.specs.Contract.{reached, Open, Adds}
use Rattle.glyph_output.proofs.Adding.{reached_same, reached_over, reached_most, adds_nothing, open_next, adds_both}
use Rattle.glyph_rows.specs.Holding.{holds}
use Rattle.glyph_rows.proofs.Rows.{holds_none}
use Rattle.glyph_rows.proofs.Containers.{alone}
use Rattle.glyph_puts.specs.Contract.{Fit, Children, Members, Ranked, no_key, key, pairs_by, leaf_form, object_bytes, entries_bytes, pair_bytes, pairs_bytes, dict_bytes, ranked_bytes, Paired}
use Rattle.glyph_puts.proofs.Fitting.{Stands, fit_in, container_nested, stands_list, stands_dict, stands_ordered, stands_extension, stands_node, first_child, other_children, first_member, other_members}
use Rattle.glyph_puts.proofs.Ranking.{key_is, Like, dict_arranged, arranged_values}

row_count : {x y : Row} → x ≡ y → x.b ≡ y.b
row_count q = rw q

pub row_end : {x y : Row} → x ≡ y → x.end ≡ y.end
row_end q = rw q

-- ---- texts are short

part_most : (s : List ℕ) (o n : ℕ) → length (take n (drop o s)) ≤ length s
part_most s o n = simp (length-take, length-drop) (omega arith)

pub part_short : (s : List ℕ) (o n : ℕ) {t : List ℕ} → t ≡ take n (drop o s) → length s ≤ 65536 → length t ≤ 65536
part_short s o n q h = rw q (omega (arith, part_most s o n))

pub key_short : (room : ℕ) (row : ℕ → Row) (s : List ℕ) (k : ℕ) {t : List ℕ} → t ≡ key_text room row s k → length s ≤ 65536 → length t ≤ 65536
unfolding key_text
key_short room row s k q h = rw q (go (ltb k room))
  where
    go : (b : Bool) → length (cond b (text_of s (row k)) []) ≤ 65536
    go true = omega (arith, h, part_most s (row k).a (row k).b)
    go false = omega arith

pub content_put : (s : List ℕ) (x : Row) (b : ℕ) {t : List ℕ} {most : ℕ} {o : List ℕ} {at : ℕ} {o' : List ℕ} {z : ℕ} → t ≡ take x.b (drop x.a s) → Adds (b ∷ content_bytes t) most o at o' z → Adds (b ∷ content_bytes (text_of s x)) most o at o' z
content_put s x b g a = rw g at a

-- ---- an object without children, by its kind

module _ (s : List ℕ) (x : Row) {most : ℕ} {o : List ℕ} {at : ℕ} {o' : List ℕ} {z : ℕ} where
  pub leaf_integer : x.kind ≡ 4 → Adds (integer_bytes x.a) most o at o' z → Adds (leaf_form s x) most o at o' z
  unfolding leaf_form
  leaf_integer k a = rw k a

  pub leaf_boolean : x.kind ≡ 5 → Adds (boolean_bytes x.a) most o at o' z → Adds (leaf_form s x) most o at o' z
  unfolding leaf_form
  leaf_boolean k a = rw k a

  pub leaf_bytes_lem : x.kind ≡ 8 → Adds (98 ∷ content_bytes (text_of s x)) most o at o' z → Adds (leaf_form s x) most o at o' z
  unfolding leaf_form
  leaf_bytes_lem k a = rw k a

  pub leaf_unicode : x.kind ≡ 11 → Adds (117 ∷ content_bytes (text_of s x)) most o at o' z → Adds (leaf_form s x) most o at o' z
  unfolding leaf_form
  leaf_unicode k a = rw k a

  pub leaf_nil : (x.kind ≡ 4 → ⊥) → (x.kind ≡ 5 → ⊥) → (x.kind ≡ 8 → ⊥) → (x.kind ≡ 11 → ⊥) → Adds (78 ∷ 59 ∷ []) most o at o' z → Adds (leaf_form s x) most o at o' z
  unfolding leaf_form
  leaf_nil a b c d p = rw (ne_eqb _ _ a, ne_eqb _ _ b, ne_eqb _ _ c, ne_eqb _ _ d) p

pub ruleset leafs = (leaf_integer, leaf_boolean, leaf_bytes_lem, leaf_unicode, leaf_nil)

-- ---- the bytes of the object at a row, by what its kind names

module _ (row : ℕ → Row) (s : List ℕ) (e : Edition) (r : ℕ) where
  -- no edition and no depth changes what has no children
  leaf_told : (f : ℕ → Tree) → holds (row r).kind ≡ false → bytes_of e (canon (told row s (sort_of e (row r).kind) f (row r) r)) ≡ leaf_form s (row r)
  unfolding canon bytes_of leaf_bytes leaf_form sort_of
  leaf_told f h = let a = alone (row r).kind h in rw (a.0, a.1, a.2, a.3, a.4) (go (eqb (row r).kind 4) (eqb (row r).kind 5) (eqb (row r).kind 8) (eqb (row r).kind 11) (eqb (row r).kind 13))
    where
      go : (p q u v w : Bool) → bytes_of e (canon (told row s (cond p Integer (cond q Boolean (cond u (Content Binary) (cond v (Content Text) (cond w Nil Unknown))))) f (row r) r)) ≡ cond p (integer_bytes (row r).a) (cond q (boolean_bytes (row r).a) (cond u (98 ∷ content_bytes (text_of s (row r))) (cond v (117 ∷ content_bytes (text_of s (row r))) (78 ∷ 59 ∷ []))))
      go true q u v w = refl
      go false true u v w = refl
      go false false true v w = refl
      go false false false true w = refl
      go false false false false true = refl
      go false false false false false = refl

  leaf_object : (deep : ℕ) → holds (row r).kind ≡ false → object_bytes row s e deep r ≡ leaf_form s (row r)
  unfolding object_bytes tree_at written
  leaf_object zero h = leaf_told (λ k. leaf 13 (holding 0)) h
  leaf_object (suc deep) h = leaf_told (tree_at row s e deep) h

  list_bytes : (deep : ℕ) → Stands row e r (Many ListOf) → object_bytes row s e (suc deep) r ≡ 76 ∷ (entries_bytes row s e deep (row r).b (r + 1) ++ (59 ∷ []))
  unfolding object_bytes entries_bytes tree_at written canon bytes_of letter_for
  list_bytes deep d = rw d.is

  dict_bytes_lem : (deep : ℕ) → Stands row e r (Many Dict) → object_bytes row s e (suc deep) r ≡ 68 ∷ (dict_bytes row s e deep (row r).b (r + 1) ++ (59 ∷ []))
  unfolding object_bytes dict_bytes tree_at written canon bytes_of
  dict_bytes_lem deep d = rw d.is

  ordered_bytes : (deep : ℕ) → Stands row e r (Many Ordered) → object_bytes row s e (suc deep) r ≡ 79 ∷ (pairs_bytes row s e deep (row r).b (r + 1) ++ (59 ∷ []))
  unfolding object_bytes pairs_bytes tree_at written canon bytes_of
  ordered_bytes deep d = rw d.is

  three_bytes : (deep : ℕ) (l : ThreeLetter) → Stands row e r (Three l) → object_bytes row s e (suc deep) r ≡ letter_for e (three_kind l) ∷ (entries_bytes row s e deep 3 (r + 1) ++ (59 ∷ []))
  unfolding object_bytes entries_bytes tree_at written canon bytes_of
  three_bytes deep l d = rw d.is

-- ---- what was put is the object

deeper : (n : ℕ) → (n ≡ 0 → ⊥) → suc (n - 1) ≡ n
deeper zero z = absurd (z refl)
deeper (suc n) z = rw (sub-one (suc n))

adds_same : {xs ys : List ℕ} {most : ℕ} {o : List ℕ} {at : ℕ} {o' : List ℕ} {z : ℕ} → ys ≡ xs → Adds xs most o at o' z → Adds ys most o at o' z
adds_same q a = rw q a

module _ {row : ℕ → Row} {room : ℕ} {s : List ℕ} {e : Edition} {deep spare r : ℕ} (a : Fit row room s e deep spare r) {most : ℕ} {o : List ℕ} {at : ℕ} {o' : List ℕ} {z : ℕ} where
  module _ {x : Row} (f : x ≡ row r) where
    pub leaf_put : holds x.kind ≡ false → Adds (leaf_form s x) most o at o' z → Adds (object_bytes row s e deep r) most o at o' z
    leaf_put h p = adds_same (leaf_object row s e r deep (rw f at h) ∙ rw f) p

    module _ (h : holds x.kind ≡ true) where
      pub container_floor : deep ≡ 0 → Adds (object_bytes row s e deep r) most o at o' z
      container_floor q = absurd (container_nested a f h q)

      pub container_none : (x.kind ≡ 9 → ⊥) → (x.kind ≡ 10 → ⊥) → (x.kind ≡ 14 → ⊥) → (x.kind ≡ 15 → ⊥) → (x.kind ≡ 16 → ⊥) → Adds (object_bytes row s e deep r) most o at o' z
      container_none b c d g i = absurd (clash h (sym (holds_none x.kind b c d g i)))

    module _ (q : deep ≡ 0 → ⊥) where
      at_deep : {xs : List ℕ} → object_bytes row s e (suc (deep - 1)) r ≡ xs → Adds xs most o at o' z → Adds (object_bytes row s e deep r) most o at o' z
      at_deep g p = adds_same (ap (λ (n : ℕ). object_bytes row s e n r) (sym (deeper deep q)) ∙ g) p

      pub extension_put : {b : ℕ} → x.kind ≡ 15 → b ≡ letter_for e 15 → Adds (b ∷ (entries_bytes row s e (deep - 1) 3 (r + 1) ++ (59 ∷ []))) most o at o' z → Adds (object_bytes row s e deep r) most o at o' z
      extension_put k t p = at_deep (three_bytes row s e r (deep - 1) Extension (stands_extension f k)) (rw t at p)

      pub node_put : x.kind ≡ 16 → Adds (88 ∷ (entries_bytes row s e (deep - 1) 3 (r + 1) ++ (59 ∷ []))) most o at o' z → Adds (object_bytes row s e deep r) most o at o' z
      unfolding letter_for
      node_put k p = at_deep (three_bytes row s e r (deep - 1) Node (stands_node f a k)) p

      module _ {n : ℕ} (t : n ≡ x.b) where
        pub list_put : x.kind ≡ 9 → Adds (76 ∷ (entries_bytes row s e (deep - 1) n (r + 1) ++ (59 ∷ []))) most o at o' z → Adds (object_bytes row s e deep r) most o at o' z
        list_put k p = at_deep (list_bytes row s e r (deep - 1) (stands_list f k)) (rw (t ∙ row_count f) at p)

        pub dict_put : x.kind ≡ 10 → Adds (68 ∷ (dict_bytes row s e (deep - 1) n (r + 1) ++ (59 ∷ []))) most o at o' z → Adds (object_bytes row s e deep r) most o at o' z
        dict_put k p = at_deep (dict_bytes_lem row s e r (deep - 1) (stands_dict f k)) (rw (t ∙ row_count f) at p)

        pub ordered_put : x.kind ≡ 14 → Adds (79 ∷ (pairs_bytes row s e (deep - 1) n (r + 1) ++ (59 ∷ []))) most o at o' z → Adds (object_bytes row s e deep r) most o at o' z
        ordered_put k p = at_deep (ordered_bytes row s e r (deep - 1) (stands_ordered f k)) (rw (t ∙ row_count f) at p)

-- ---- loops: of the bytes `whole`, those of `rest` are still to be put

pub record Going (whole rest : List ℕ) (most : ℕ) (o : List ℕ) (at : ℕ) (out : List ℕ) (stop : ℕ) : Type 0 where
  pub done : List ℕ
  pub adds : Adds done most o at out stop
  pub is : done ++ rest ≡ whole
  pub long : length out ≡ length o

told_reached : (at : ℕ) → at ≤ 65537 → at ≡ reached at
told_reached at h = go (eqb at 65537) refl
  where
    go : (b : Bool) → eqb at 65537 ≡ b → at ≡ reached at
    go true q = let z : at ≡ 65537 = eqb-true at 65537 q in z ∙ reached_over 65537 (omega arith) ∙ ap reached (sym z)
    go false q = reached_same at (omega (arith, eqb-false at 65537 q))

module _ {most : ℕ} {o : List ℕ} {at : ℕ} (p : Open most (length o) at) where
  pub going_first : (whole : List ℕ) → Going whole whole most o at o at
  going_first whole = record { done = []; adds = adds_nothing p (told_reached at p.told); is = refl; long = refl }

  module _ {whole rest : List ℕ} {out : List ℕ} {stop : ℕ} (g : Going whole rest most o at out stop) where
    pub going_open : Open most (length out) stop
    going_open = record { within = rw g.long p.within; few = p.few; told = rw g.adds.stops (reached_most (at + length g.done)) }

    going_on : {xs ys : List ℕ} {out' : List ℕ} {stop' : ℕ} → rest ≡ xs ++ ys → Adds xs most out stop out' stop' → length out' ≡ length out → Going whole ys most o at out' stop'
    going_on {xs} {ys} q a l = record { done = g.done ++ xs; adds = adds_both p g.adds a; is = append_assoc g.done xs ys ∙ rw (← q) g.is; long = l ∙ g.long }

    going_whole : rest ≡ [] → Adds whole most o at out stop
    going_whole q =
        let h : g.done ≡ whole = sym (append-nil g.done) ∙ rw q at g.is in
        rw (← h) g.adds

    going_done : {out' : List ℕ} {stop' : ℕ} → rest ≡ [] → Adds (59 ∷ []) most out stop out' stop' → Adds (whole ++ (59 ∷ [])) most o at out' stop'
    going_done q a = adds_both p (going_whole q) a

module _ (row : ℕ → Row) (s : List ℕ) (e : Edition) (deep : ℕ) where
  entries_none : (r : ℕ) → entries_bytes row s e deep 0 r ≡ []
  unfolding entries_bytes trees canon_all bytes_of_all
  entries_none r = refl

  entries_next : (n r : ℕ) → entries_bytes row s e deep (suc n) r ≡ object_bytes row s e deep r ++ entries_bytes row s e deep n (row r).end
  unfolding entries_bytes object_bytes trees canon_all bytes_of_all written
  entries_next n r = refl

  entries_one : (r : ℕ) → entries_bytes row s e deep 1 r ≡ object_bytes row s e deep r
  entries_one r = entries_next 0 r ∙ ap (λ (xs : List ℕ). object_bytes row s e deep r ++ xs) (entries_none (row r).end) ∙ append-nil (object_bytes row s e deep r)

  pairs_none : (r : ℕ) → pairs_bytes row s e deep 0 r ≡ []
  unfolding pairs_bytes pairs canon_pairs bytes_of_pairs
  pairs_none r = refl

  pairs_next : (text : ℕ → List ℕ) (n r : ℕ) → text r ≡ text_of s (row r) → pairs_bytes row s e deep (suc n) r ≡ pair_bytes row s e deep text r ++ pairs_bytes row s e deep n (row (r + 1)).end
  unfolding pairs_bytes pair_bytes object_bytes pairs canon_pairs bytes_of_pairs written
  pairs_next text n r q = rw q (sym (append_assoc (117 ∷ content_bytes (text_of s (row r))) (bytes_of e (canon (tree_at row s e deep (r + 1)))) (bytes_of_pairs e (canon_pairs (pairs row s (tree_at row s e deep) n (row (r + 1)).end)))))

  ranked_none : (text : ℕ → List ℕ) → ranked_bytes row s e deep text [] ≡ []
  unfolding ranked_bytes pairs_by canon_pairs bytes_of_pairs
  ranked_none text = refl

  ranked_next : (text : ℕ → List ℕ) (k : ℕ) (ks : List ℕ) → ranked_bytes row s e deep text (k ∷ ks) ≡ pair_bytes row s e deep text k ++ ranked_bytes row s e deep text ks
  unfolding ranked_bytes pair_bytes object_bytes pairs_by canon_pairs bytes_of_pairs written
  ranked_next text k ks = sym (append_assoc (117 ∷ content_bytes (text k)) (bytes_of e (canon (tree_at row s e deep (k + 1)))) (bytes_of_pairs e (canon_pairs (pairs_by text (tree_at row s e deep) ks))))

-- ---- a letter, objects and `;`; a key and its value; an object by itself

module _ {most : ℕ} {o : List ℕ} {at : ℕ} (p : Open most (length o) at) {o₁ : List ℕ} {a : ℕ} where
  pub letter_put : (b : ℕ) {xs : List ℕ} {o₂ : List ℕ} {z : ℕ} → Adds (b ∷ []) most o at o₁ a → Adds xs most o₁ a o₂ z → Adds (b ∷ xs) most o at o₂ z
  letter_put b f g = adds_both p f g

  pub run_open : {xs ys : List ℕ} {o₂ : List ℕ} {c : ℕ} → Adds xs most o at o₁ a → length o₁ ≡ length o → Adds ys most o₁ a o₂ c → length o₂ ≡ length o₁ → Open most (length o₂) c
  run_open f l g k = open_next (open_next p f l) g k

  pub run_put : (b : ℕ) {xs : List ℕ} {o₂ o₃ : List ℕ} {c z : ℕ} → Adds (b ∷ []) most o at o₁ a → length o₁ ≡ length o → Adds xs most o₁ a o₂ c → Adds (59 ∷ []) most o₂ c o₃ z → Adds (b ∷ (xs ++ (59 ∷ []))) most o at o₃ z
  run_put b f l g h = adds_both p f (adds_both (open_next p f l) g h)

  pub pair_put : (row : ℕ → Row) (s : List ℕ) (e : Edition) (deep : ℕ) (text : ℕ → List ℕ) (k : ℕ) {t : List ℕ} {o₂ : List ℕ} {z : ℕ} {order order' : List ℕ} → t ≡ text k → Adds (117 ∷ content_bytes t) most o at o₁ a → Adds (entries_bytes row s e deep 1 (k + 1)) most o₁ a o₂ z → length order' ≡ length order → Paired (pair_bytes row s e deep text k) most o at o₂ z order order'
  unfolding pair_bytes
  pair_put row s e deep text k q f g l = record { adds = adds_both p (rw q at f) (rw (entries_one row s e deep (k + 1)) at g); long = l }

pub object_put : (row : ℕ → Row) (s : List ℕ) (e : Edition) (deep r : ℕ) {most : ℕ} {o : List ℕ} {at : ℕ} {o' : List ℕ} {z : ℕ} → Adds (entries_bytes row s e deep 1 r) most o at o' z → Adds (object_bytes row s e deep r) most o at o' z
object_put row s e deep r a = rw (entries_one row s e deep r) at a

-- ---- each loop's turns

pub list_holds : (x : Row) {b : Bool} → b ≡ holds x.kind → b ≡ true → holds x.kind ≡ true
list_holds x h t = sym h ∙ t

-- n objects, of which `left` are still to be put, the first of them at row `here`
pub record Listing (row : ℕ → Row) (room : ℕ) (s : List ℕ) (e : Edition) (deep n first most : ℕ) (o : List ℕ) (at : ℕ) (order₀ : List ℕ) (left here : ℕ) (order out : List ℕ) (stop : ℕ) : Type 0 where
  pub going : Going (entries_bytes row s e deep n first) (entries_bytes row s e deep left here) most o at out stop
  pub children : Children row room s e deep (length order₀) left here
  pub long : length order ≡ length order₀

pub list_first : {row : ℕ → Row} {room : ℕ} {s : List ℕ} {e : Edition} {deep n first most : ℕ} {o : List ℕ} {at : ℕ} (order : List ℕ) {left : ℕ} → left ≡ n → Open most (length o) at → Children row room s e deep (length order) n first → Listing row room s e deep n first most o at order left first order o at
list_first order q p c = rw q (record { going = going_first p _; children = c; long = refl })

module _ {row : ℕ → Row} {room : ℕ} {s : List ℕ} {e : Edition} {deep n first most : ℕ} {o : List ℕ} {at : ℕ} {order₀ : List ℕ} {left here : ℕ} {order out : List ℕ} {stop : ℕ} (g : Listing row room s e deep n first most o at order₀ left here order out stop) where
  pub list_fit : 0 < left → Fit row room s e deep (length order) here
  list_fit h = rw g.long (first_child g.children h)

  pub list_in : 0 < left → here < room
  list_in h = fit_in (list_fit h)

  module _ (p : Open most (length o) at) where
    pub list_open : Open most (length out) stop
    list_open = going_open p g.going

    module _ (h : 0 < left) {x : Row} (f : x ≡ row here) where
      pub list_again : {m : ℕ} {order' out' : List ℕ} {stop' : ℕ} → left ≡ suc m → Adds (object_bytes row s e deep here) most out stop out' stop' → length out' ≡ length out → length order' ≡ length order → Listing row room s e deep n first most o at order₀ m x.end order' out' stop'
      list_again {m} i a l k =
          let q : x.end ≡ (row here).end = rw f in
          let c : left - 1 ≡ m = omega arith in
          record {
            going = rw q (going_on p g.going (ap (λ (i : ℕ). entries_bytes row s e deep i here) i ∙ entries_next row s e deep m here) a l);
            children = rw c at (other_children g.children h q);
            long = k ∙ g.long;
          }

      pub list_leaf : {m : ℕ} {b : Bool} {out' : List ℕ} {stop' : ℕ} → left ≡ suc m → b ≡ holds x.kind → b ≡ false → Adds (leaf_form s x) most out stop out' stop' → length out' ≡ length out → Listing row room s e deep n first most o at order₀ m x.end order out' stop'
      list_leaf i b c a l = list_again i (leaf_put (list_fit h) f (sym b ∙ c) a) l refl

    pub list_done : left ≤ 0 → Adds (entries_bytes row s e deep n first) most o at out stop
    list_done h =
        let m : left ≡ 0 = omega arith in
        going_whole p g.going (ap (λ (i : ℕ). entries_bytes row s e deep i here) m ∙ entries_none row s e deep here)

-- n pairs, of which `left` are still to be put, the key of the first at row `here`
pub record Pairing (row : ℕ → Row) (room : ℕ) (s : List ℕ) (e : Edition) (deep n first most : ℕ) (o : List ℕ) (at : ℕ) (order₀ : List ℕ) (left here : ℕ) (order out : List ℕ) (stop : ℕ) : Type 0 where
  pub going : Going (pairs_bytes row s e deep n first) (pairs_bytes row s e deep left here) most o at out stop
  pub members : Members row room s e deep (length order₀) left here
  pub long : length order ≡ length order₀

pub pairs_first : {row : ℕ → Row} {room : ℕ} {s : List ℕ} {e : Edition} {deep n first most : ℕ} {o : List ℕ} {at : ℕ} (order : List ℕ) {left : ℕ} → left ≡ n → Open most (length o) at → Members row room s e deep (length order) n first → Pairing row room s e deep n first most o at order left first order o at
pairs_first order q p c = rw q (record { going = going_first p _; members = c; long = refl })

module _ {row : ℕ → Row} {room : ℕ} {s : List ℕ} {e : Edition} {deep n first most : ℕ} {o : List ℕ} {at : ℕ} {order₀ : List ℕ} {left here : ℕ} {order out : List ℕ} {stop : ℕ} (g : Pairing row room s e deep n first most o at order₀ left here order out stop) where
  pub pairs_fit : 0 < left → Fit row room s e deep (length order) (here + 1)
  pairs_fit h = rw g.long (first_member g.members h)

  pub pairs_in : 0 < left → here + 1 < room
  pairs_in h = fit_in (pairs_fit h)

  pub pairs_fits : 0 < left → room ≤ 4096 → Fits w64 (here + 1)
  pairs_fits h l = omega (arith, pairs_in h)

  module _ (p : Open most (length o) at) where
    pub pairs_open : Open most (length out) stop
    pairs_open = going_open p g.going

    pub pairs_again : {m : ℕ} {order' out' : List ℕ} {stop' next : ℕ} → left ≡ suc m → Paired (pair_bytes row s e deep (key_text room row s) here) most out stop out' stop' order order' → length out' ≡ length out → next ≡ (row (here + 1)).end → Pairing row room s e deep n first most o at order₀ m next order' out' stop'
    pairs_again {m} i a l q =
        let c : left - 1 ≡ m = omega arith in
        let h : 0 < left = omega arith in
        record {
          going = rw q (going_on p g.going (ap (λ (i : ℕ). pairs_bytes row s e deep i here) i ∙ pairs_next row s e deep (key_text room row s) m here (key_is here (pairs_fit h))) a.adds l);
          members = rw c at (other_members g.members h q);
          long = a.long ∙ g.long;
        }

    pub pairs_done : {out' : List ℕ} {stop' : ℕ} → left ≤ 0 → Adds (59 ∷ []) most out stop out' stop' → Adds (pairs_bytes row s e deep n first ++ (59 ∷ [])) most o at out' stop'
    pairs_done h a =
        let m : left ≡ 0 = omega arith in
        going_done p g.going (ap (λ (i : ℕ). pairs_bytes row s e deep i here) m ∙ pairs_none row s e deep here) a

-- the pairs of the key rows that are the first n words of `order`: those from the i-th on are still to be put
pub record Ranks (row : ℕ → Row) (room : ℕ) (s : List ℕ) (e : Edition) (deep n most : ℕ) (o : List ℕ) (at : ℕ) (order₀ : List ℕ) (i : ℕ) (order out : List ℕ) (stop : ℕ) : Type 0 where
  pub going : Going (ranked_bytes row s e deep (key_text room row s) (take n order₀)) (ranked_bytes row s e deep (key_text room row s) (drop i (take n order₀))) most o at out stop
  pub left : Ranked row room s e deep (length order₀ - n) (drop i (take n order₀))
  pub same : take n order ≡ take n order₀
  pub within : i ≤ n
  pub enough : n ≤ length order₀
  pub long : length order ≡ length order₀

pub ranks_first : {row : ℕ → Row} {room : ℕ} {s : List ℕ} {e : Edition} {deep : ℕ} (n : ℕ) {most : ℕ} {o : List ℕ} {at : ℕ} (order : List ℕ) → Open most (length o) at → n ≤ length order → Ranked row room s e deep (length order - n) (take n order) → Ranks row room s e deep n most o at order 0 order o at
ranks_first n order p h c = record { going = going_first p _; left = c; same = refl; within = omega arith; enough = h; long = refl }

ranked_value : {row : ℕ → Row} {room : ℕ} {s : List ℕ} {e : Edition} {deep spare : ℕ} (k : ℕ) (ks : List ℕ) {xs : List ℕ} → Ranked row room s e deep spare xs → xs ≡ k ∷ ks → Fit row room s e deep spare (k + 1)
ranked_value k ks no_key q = absurd (let z : ◌≡◌ {A = ℕ} 0 (suc (length ks)) = ap length q in omega arith)
ranked_value k ks (key {k = j} a b) q = let z : j ≡ k = cc in rw z at a

ranked_others : {row : ℕ → Row} {room : ℕ} {s : List ℕ} {e : Edition} {deep spare : ℕ} (k : ℕ) (ks : List ℕ) {xs : List ℕ} → Ranked row room s e deep spare xs → xs ≡ k ∷ ks → Ranked row room s e deep spare ks
ranked_others k ks no_key q = absurd (let z : ◌≡◌ {A = ℕ} 0 (suc (length ks)) = ap length q in omega arith)
ranked_others k ks (key {ks = js} a b) q = let z : js ≡ ks = cc in rw z at b

module _ {row : ℕ → Row} {room : ℕ} {s : List ℕ} {e : Edition} {deep n most : ℕ} {o : List ℕ} {at : ℕ} {order₀ : List ℕ} {i : ℕ} {order out : List ℕ} {stop : ℕ} (g : Ranks row room s e deep n most o at order₀ i order out stop) where
  pub ranks_in : i < n → i < length order
  ranks_in h = omega (arith, g.enough, g.long)

  pub ranks_part : n ≤ length order
  ranks_part = omega (arith, g.enough, g.long)

  module _ (h : i < n) {k : ℕ} (q : k ≡ get_or order i 0) where
    next_rank : drop i (take n order₀) ≡ k ∷ drop (suc i) (take n order₀)
    next_rank =
        let l : length (take n order₀) ≡ n = length-take-le n order₀ g.enough in
        let c : get_or (take n order₀) i 0 ≡ k = ap (λ (w : List ℕ). get_or w i 0) (sym g.same) ∙ get_or-take n order i 0 h ∙ sym q in
        drop-cons (take n order₀) i 0 (omega (arith, l)) ∙ rw c

    pub ranks_fit : Fit row room s e deep (length (take (length order - n) (drop n order))) (k + 1)
    ranks_fit =
        let d : length (drop n order) ≡ length order - n = length-drop n order in
        let l : length (take (length order - n) (drop n order)) ≡ length order₀ - n = length-take-le (length order - n) (drop n order) (omega (arith, d)) ∙ rw g.long in
        rw l (ranked_value k (drop (suc i) (take n order₀)) g.left next_rank)

    module _ (p : Open most (length o) at) where
      pub ranks_again : {ys out' : List ℕ} {stop' : ℕ} → Paired (pair_bytes row s e deep (key_text room row s) k) most out stop out' stop' (take (length order - n) (drop n order)) ys → length out' ≡ length out → Ranks row room s e deep n most o at order₀ (i + 1) (take n order ++ (ys ++ drop (length order - n) (drop n order))) out' stop'
      ranks_again {ys} a l =
          let d : length (drop n order) ≡ length order - n = length-drop n order in
          let z : drop (length order - n) (drop n order) ≡ [] = drop_of_length-le (drop n order) {i = length order - n} (omega (arith, d)) in
          let t : length (take n order) ≡ n = length-take-le n order ranks_part in
          let y : length ys ≡ length order - n = a.long ∙ length-take-le (length order - n) (drop n order) (omega (arith, d)) in
          record {
            going = rw add-one (going_on p g.going (ap (ranked_bytes row s e deep (key_text room row s)) next_rank ∙ ranked_next row s e deep (key_text room row s) k (drop (suc i) (take n order₀))) a.adds l);
            left = rw add-one (ranked_others k (drop (suc i) (take n order₀)) g.left next_rank);
            same = take_at (take n order) (ys ++ drop (length order - n) (drop n order)) n t ∙ g.same;
            within = omega arith;
            enough = g.enough;
            long = rw (z, append-nil, length-append, t) (omega (arith, y, g.long, g.enough));
          }

  module _ (p : Open most (length o) at) where
    pub ranks_open : Open most (length out) stop
    ranks_open = going_open p g.going

    pub ranks_done : {out' : List ℕ} {stop' : ℕ} → n ≤ i → Adds (59 ∷ []) most out stop out' stop' → Adds (ranked_bytes row s e deep (key_text room row s) (take n order₀) ++ (59 ∷ [])) most o at out' stop'
    ranks_done h a =
        let l : length (take n order₀) ≡ n = length-take-le n order₀ g.enough in
        going_done p g.going (ap (ranked_bytes row s e deep (key_text room row s)) (drop_of_length-le (take n order₀) {i = i} (omega (arith, l))) ∙ ranked_none row s e deep (key_text room row s)) a

-- ---- a dict, by its key rows in order

-- as many bytes, and the same if they end in time
like_put : {xs ys : List ℕ} {most : ℕ} {o : List ℕ} {at : ℕ} {o' : List ℕ} {z : ℕ} → Like most ys xs → Adds (xs ++ (59 ∷ [])) most o at o' z → Adds (ys ++ (59 ∷ [])) most o at o' z
like_put {xs} {ys} {at = at} w a =
    let u = length-append xs (59 ∷ []) in
    let v = length-append ys (59 ∷ []) in
    let l : length (xs ++ (59 ∷ [])) ≡ length (ys ++ (59 ∷ [])) = omega (arith, u, v, w.long) in
    record {
      stops = a.stops ∙ rw l;
      stands = λ h. let q : xs ≡ ys = w.same (omega (arith, u, l, h)) in rw (← q) (a.stands (omega (arith, l, h)));
    }

module _ {row : ℕ → Row} {room : ℕ} {s : List ℕ} {e : Edition} {deep spare n first most : ℕ} (c : Members row room s e deep spare n first) {order : List ℕ} (f : Laid (key_text room row s) most (key_rows row n first) n order) where
  pub dict_values_ready : spare ≡ length order - n → Ranked row room s e deep (length order - n) (take n order)
  dict_values_ready l = rw (f.is, ← l) (arranged_values (key_text room row s) most c)

  pub dict_put_whole : {o : List ℕ} {at : ℕ} {o₁ o₂ : List ℕ} {a z : ℕ} → Open most (length o) at → Adds (68 ∷ []) most o at o₁ a → Adds (ranked_bytes row s e deep (key_text room row s) (take n order) ++ (59 ∷ [])) most o₁ a o₂ z → Adds (68 ∷ (dict_bytes row s e deep n first ++ (59 ∷ []))) most o at o₂ z
  dict_put_whole p x y =
      let w : Like most (dict_bytes row s e deep n first) (ranked_bytes row s e deep (key_text room row s) (take n order)) = rw f.is (dict_arranged most c) in
      adds_both p x (like_put w y)

pub ruleset puts = (dict_values_ready, dict_put_whole, container_floor, container_none, extension_put, node_put, list_put, dict_put, ordered_put, letter_put, run_open, run_put, pair_put, object_put)

pub ruleset texts = (part_short, key_short, content_put)

pub ruleset listing = (list_first, list_fit, list_in, list_open, list_again, list_leaf, list_done, list_holds)

pub ruleset pairing = (pairs_first, pairs_fit, pairs_in, pairs_fits, pairs_open, pairs_again, pairs_done)

pub ruleset ranks = (ranks_first, ranks_in, ranks_part, ranks_fit, ranks_again, ranks_open, ranks_done)
