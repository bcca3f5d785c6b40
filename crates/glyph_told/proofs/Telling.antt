-- The tree that rows tell is the one that they realise, if an edition derives it: one law for each production. Assumes nothing.
use mathlib.Core.Path.{◌≡◌, refl, ap, ◌∙◌}
use mathlib.Core.List.{List}
use Prim.Native.Nat.{ℕ, zero, suc, ◌+◌}
use native.Mathlib.Omega.{arith}
use lib.ListN.{length}
use Rattle.draft.specs.declared.Row.{Row}
use Rattle.draft.specs.Read.{text_of}
use Rattle.draft.specs.Grammar.{holding, number, contents, cell}
use Rattle.draft.specs.Meaning.{says_holding, says_number, says_contents, Means, means}
use Rattle.written.proofs.Standing.{Stands, stands_more, stands_head, stands_tail, stands_front, stands_back}
use Rattle.glyph.specs.declared.Edition.{Edition}
use Rattle.glyph.specs.declared.Want.{Want}
use Rattle.glyph.specs.Tree.{Tree, leaf, many, plain, ordered, Trees, none, also, Pairs, count, count_pairs, cells, cells_of, pair_cells}
use Rattle.glyph.specs.Grammar.{old_node, Object, integer, unicode, bytearray, true_object, false_object, nil, list, dict, ordered_dict, extension, node, Objects, close, more, Members, close_members, more_members, Parts, parts}
use Rattle.glyph_form.specs.Sorts.{sort_of}
use Rattle.glyph_form.specs.Told.{trees, pairs, told, tree_at}

-- the rows by their numbers, and the text bytes
module _ (row : ℕ → Row) (s : List ℕ) where
  -- what tells the children
  abbrev pub inside : Edition → ℕ → ℕ → Tree
  inside e zero = λ k. leaf 13 (holding 0)
  inside e (suc d) = tree_at row s e d

  pub tree_is : (e : Edition) (d r : ℕ) → tree_at row s e d r ≡ told row s (sort_of e (row r).kind) (inside e d) (row r) r
  unfolding tree_at
  tree_is e zero r = refl
  tree_is e (suc d) r = refl

  -- 'end' is where a tree's rows end
  pub ends_at : {r : ℕ} (t : Tree) → Stands row s r (cells t) → (row r).end ≡ r + length (cells t)
  unfolding cells
  ends_at (leaf k p) (stands_more (means h e y) z) = omega (arith, e)
  ends_at (many k ts) (stands_more (means h e y) z) = omega (arith, e)
  ends_at (plain ps) (stands_more (means h e y) z) = omega (arith, e)
  ends_at (ordered ps) (stands_more (means h e y) z) = omega (arith, e)

  tells_integer : (e : Edition) (d : ℕ) {r n : ℕ} → Means s r (row r) (cell 4 0 (number n)) → tree_at row s e d r ≡ leaf 4 (number n)
  unfolding sort_of
  tells_integer e d {r} (means k z (says_number h a b)) = tree_is e d r ∙ rw (k, a)

  tells_boolean : (e : Edition) (d : ℕ) {r n : ℕ} → Means s r (row r) (cell 5 0 (number n)) → tree_at row s e d r ≡ leaf 5 (number n)
  unfolding sort_of
  tells_boolean e d {r} (means k z (says_number h a b)) = tree_is e d r ∙ rw (k, a)

  tells_unicode : (e : Edition) (d : ℕ) {r : ℕ} {t : List ℕ} → Means s r (row r) (cell 11 0 (contents t)) → tree_at row s e d r ≡ leaf 11 (contents t)
  unfolding sort_of
  tells_unicode e d {r} (means k z (says_contents h i j)) = tree_is e d r ∙ rw (k, j)

  tells_bytearray : (e : Edition) (d : ℕ) {r : ℕ} {t : List ℕ} → Means s r (row r) (cell 8 0 (contents t)) → tree_at row s e d r ≡ leaf 8 (contents t)
  unfolding sort_of
  tells_bytearray e d {r} (means k z (says_contents h i j)) = tree_is e d r ∙ rw (k, j)

  tells_nil : (e : Edition) (d : ℕ) {r : ℕ} → Means s r (row r) (cell 13 0 (holding 0)) → tree_at row s e d r ≡ leaf 13 (holding 0)
  unfolding sort_of
  tells_nil e d {r} (means k z y) = tree_is e d r ∙ rw k

  -- the key of a pair
  key_told : {r : ℕ} {t : List ℕ} → Means s r (row r) (cell 11 0 (contents t)) → text_of s (row r) ≡ t
  key_told (means h e (says_contents i j l)) = l

  -- a row over others
  held_by : {r k m b : ℕ} → Means s r (row r) (cell k m (holding b)) → ((row r).kind ≡ k) × ((row r).b ≡ b)
  held_by (means h e (says_holding i j a b)) = (h, b)

  mutual
    unfolding cells sort_of trees pairs tree_at

    pub tells : {e : Edition} {d : ℕ} {xs : List ℕ} {t : Tree} → Object e d xs t → {r : ℕ} → Stands row s r (cells t) → tree_at row s e d r ≡ t
    tells {e} {d} (integer m h i j q) z = tells_integer e d (stands_head z)
    tells {e} {d} (unicode c w) z = tells_unicode e d (stands_head z)
    tells {e} {d} (bytearray c) z = tells_bytearray e d (stands_head z)
    tells {e} {d} true_object z = tells_boolean e d (stands_head z)
    tells {e} {d} false_object z = tells_boolean e d (stands_head z)
    tells {e} {d} nil z = tells_nil e d (stands_head z)
    tells (list b h q) z = let g = held_by (stands_head z) in rw (g.0, g.1) (ap (many 9) (tells_all h (stands_tail z)))
    tells (dict b h q) z = let g = held_by (stands_head z) in rw (g.0, g.1) (ap plain (tells_pairs h (stands_tail z)))
    tells (ordered_dict b h q) z = let g = held_by (stands_head z) in rw (g.0, g.1) (ap ordered (tells_pairs h (stands_tail z)))
    tells (extension x h) z = let g = held_by (stands_head z) in rw g.0 (ap (many 15) (tells_parts h (stands_tail z)))
    tells (node old_node h) z = let g = held_by (stands_head z) in rw g.0 (ap (many 16) (tells_parts h (stands_tail z)))

    tells_all : {e : Edition} {d : ℕ} {xs : List ℕ} {ts : Trees} → Objects e d xs ts → {r : ℕ} → Stands row s r (cells_of ts) → trees row s (tree_at row s e d) (count ts) r ≡ ts
    tells_all close z = refl
    tells_all (more {t = t} {ts} o b h q) z =
        let y = stands_front (cells t) (cells_of ts) z in
        rw (tells o y, ends_at t y, tells_all h (stands_back (cells t) (cells_of ts) z))

    tells_pairs : {e : Edition} {d : ℕ} {seen : List (List ℕ)} {xs : List ℕ} {ps : Pairs} → Members e d seen xs ps → {r : ℕ} → Stands row s r (pair_cells ps) → pairs row s (tree_at row s e d) (count_pairs ps) r ≡ ps
    tells_pairs close_members z = refl
    tells_pairs (more_members {k = k} {t = t} {ps = ps} o n b p c h q) z =
        let y = stands_tail z in
        rw (key_told (stands_head z), tells p (stands_front (cells t) (pair_cells ps) y), ends_at t (stands_front (cells t) (pair_cells ps) y), tells_pairs h (stands_back (cells t) (pair_cells ps) y))

    tells_parts : {e : Edition} {d : ℕ} {w v : Want} {xs : List ℕ} {a b c : Tree} → Parts e d w v xs a b c → {r : ℕ} → Stands row s r (cells_of (also a (also b (also c none)))) → trees row s (tree_at row s e d) 3 r ≡ also a (also b (also c none))
    tells_parts {a = a} {b} {c} (parts p o m q l n i g j u) z =
        let y = stands_back (cells a) (cells_of (also b (also c none))) z in
        let x = stands_back (cells b) (cells_of (also c none)) y in
        rw (
          tells o (stands_front (cells a) (cells_of (also b (also c none))) z),
          ends_at a (stands_front (cells a) (cells_of (also b (also c none))) z),
          tells l (stands_front (cells b) (cells_of (also c none)) y),
          ends_at b (stands_front (cells b) (cells_of (also c none)) y),
          tells g (stands_front (cells c) (cells_of none) x),
        )
