-- The cells of a derived tree say which tree it is. Assumes nothing.
use mathlib.Core.Path.{◌≡◌, refl, sym, ap, ap₂, ◌∙◌}
use mathlib.Core.Bool.{◌||◌, cond}
use mathlib.Core.List.{List, [], ◌++◌, append_assoc}
use Prim.Native.Nat.{ℕ}
use native.Mathlib.Omega.{arith}
use lib.Dec.{eqb}
use Rattle.draft.specs.Grammar.{Payload, Cell}
use Rattle.glyph.specs.declared.Edition.{Edition}
use Rattle.glyph.specs.declared.Want.{Want}
use Rattle.glyph.specs.Tree.{Tree, leaf, many, plain, ordered, Trees, none, also, Pairs, no_pairs, pair, count, count_pairs, cells, cells_of, pair_cells}
use Rattle.glyph.specs.Grammar.{Object, integer, unicode, bytearray, true_object, false_object, nil, list, dict, ordered_dict, extension, node, Objects, close, more, Members, close_members, more_members, Parts, parts}

-- kinds of objects without children, of those with objects below them, and of the two dicts
class : ℕ → ℕ
class k = cond (eqb k 9 || (eqb k 15 || eqb k 16)) 1 (cond (eqb k 10) 2 (cond (eqb k 14) 3 0))

mutual
  data Proper : Tree → Type 0 where
    proper_leaf : {k : ℕ} {l : Payload} → class k ≡ 0 → Proper (leaf k l)
    proper_many : {k : ℕ} {ts : Trees} → class k ≡ 1 → ProperAll ts → Proper (many k ts)
    proper_plain : {ps : Pairs} → ProperPairs ps → Proper (plain ps)
    proper_ordered : {ps : Pairs} → ProperPairs ps → Proper (ordered ps)

  data ProperAll : Trees → Type 0 where
    proper_none : ProperAll none
    proper_also : {t : Tree} {ts : Trees} → Proper t → ProperAll ts → ProperAll (also t ts)

  data ProperPairs : Pairs → Type 0 where
    proper_no_pairs : ProperPairs no_pairs
    proper_pair : {k : List ℕ} {t : Tree} {ps : Pairs} → Proper t → ProperPairs ps → ProperPairs (pair k t ps)

three_proper : {a b c : Tree} {k : ℕ} → class k ≡ 1 → Proper a → Proper b → Proper c → Proper (many k (also a (also b (also c none))))
three_proper h a b c = proper_many h (proper_also a (proper_also b (proper_also c proper_none)))

-- what is derived is so
mutual
  unfolding class

  object_proper : {e : Edition} {d : ℕ} {xs : List ℕ} {t : Tree} → Object e d xs t → Proper t
  object_proper (integer a v r k z) = proper_leaf refl
  object_proper (unicode c w) = proper_leaf refl
  object_proper (bytearray c) = proper_leaf refl
  object_proper true_object = proper_leaf refl
  object_proper false_object = proper_leaf refl
  object_proper nil = proper_leaf refl
  object_proper (list b o z) = proper_many refl (objects_proper o)
  object_proper (dict b o z) = proper_plain (members_proper o)
  object_proper (ordered_dict b o z) = proper_ordered (members_proper o)
  object_proper (extension k p) = parts_proper p 15 refl
  object_proper (node k p) = parts_proper p 16 refl

  objects_proper : {e : Edition} {d : ℕ} {xs : List ℕ} {ts : Trees} → Objects e d xs ts → ProperAll ts
  objects_proper close = proper_none
  objects_proper (more o b t z) = proper_also (object_proper o) (objects_proper t)

  members_proper : {e : Edition} {d : ℕ} {seen : List (List ℕ)} {xs : List ℕ} {ps : Pairs} → Members e d seen xs ps → ProperPairs ps
  members_proper close_members = proper_no_pairs
  members_proper (more_members o a b v c t z) = proper_pair (object_proper v) (members_proper t)

  parts_proper : {e : Edition} {d : ℕ} {w v : Want} {ws : List ℕ} {a b c : Tree} → Parts e d w v ws a b c → (k : ℕ) → class k ≡ 1 → Proper (many k (also a (also b (also c none))))
  parts_proper (parts ba oa ma bb ob mb bc oc bd z) k h = three_proper h (object_proper oa) (object_proper ob) (object_proper oc)

-- kinds that are equal are of one class
apart : {k k' m n : ℕ} {A : Type 0} → class k ≡ m → class k' ≡ n → k ≡ k' → (m ≡ n → ⊥) → A
apart a b i h = absurd (h (sym a ∙ ap class i ∙ b))

regroup : (us vs p ws zs q : List Cell) → (us ++ vs) ++ p ≡ (ws ++ zs) ++ q → us ++ (vs ++ p) ≡ ws ++ (zs ++ q)
regroup us vs p ws zs q i = sym (append_assoc us vs p) ∙ i ∙ append_assoc ws zs q

pair_same : {k k' : List ℕ} {t u : Tree} {ps qs : Pairs} → k ≡ k' → t ≡ u → ps ≡ qs → pair k t ps ≡ pair k' u qs
pair_same x y z = rw (x, y, z)

-- and trees with the same cells are the same
mutual
  unfolding cells cells_of pair_cells class

  same_tree : {t : Tree} → Proper t → {u : Tree} → Proper u → {p q : List Cell} → cells t ++ p ≡ cells u ++ q → (t ≡ u) × (p ≡ q)
  same_tree (proper_leaf {k} {l} a) (proper_leaf {k = k'} {l = l'} b) {p} {q} i =
      let x : k ≡ k' = cc in
      let y : l ≡ l' = cc in
      let z : p ≡ q = cc in
      (ap₂ leaf x y, z)
  same_tree (proper_leaf {k} a) (proper_many {k = k'} b bs) i = let x : k ≡ k' = cc in apart a b x (λ e. omega arith)
  same_tree (proper_leaf {k} a) (proper_plain b) i = let x : k ≡ 10 = cc in apart a refl x (λ e. omega arith)
  same_tree (proper_leaf {k} a) (proper_ordered b) i = let x : k ≡ 14 = cc in apart a refl x (λ e. omega arith)
  same_tree (proper_many {k} a bs) (proper_leaf {k = k'} b) i = let x : k ≡ k' = cc in apart a b x (λ e. omega arith)
  same_tree (proper_many {k} {ts} a bs) (proper_many {k = k'} {ts = us} b cs) {p} {q} i =
      let x : k ≡ k' = cc in
      let n : count ts ≡ count us = cc in
      let j : cells_of ts ++ p ≡ cells_of us ++ q = cc in
      let r = same_trees bs cs n j in
      (ap₂ many x r.0, r.1)
  same_tree (proper_many {k} a bs) (proper_plain b) i = let x : k ≡ 10 = cc in apart a refl x (λ e. omega arith)
  same_tree (proper_many {k} a bs) (proper_ordered b) i = let x : k ≡ 14 = cc in apart a refl x (λ e. omega arith)
  same_tree (proper_plain a) (proper_leaf {k} b) i = let x : 10 ≡ k = cc in apart refl b x (λ e. omega arith)
  same_tree (proper_plain a) (proper_many {k} b bs) i = let x : 10 ≡ k = cc in apart refl b x (λ e. omega arith)
  same_tree (proper_plain {ps} a) (proper_plain {ps = qs} b) {p} {q} i =
      let n : count_pairs ps ≡ count_pairs qs = cc in
      let j : pair_cells ps ++ p ≡ pair_cells qs ++ q = cc in
      let r = same_pairs a b n j in
      (ap plain r.0, r.1)
  same_tree (proper_plain a) (proper_ordered b) i = let x : ◌≡◌ {A = ℕ} 10 14 = cc in absurd (omega arith)
  same_tree (proper_ordered a) (proper_leaf {k} b) i = let x : 14 ≡ k = cc in apart refl b x (λ e. omega arith)
  same_tree (proper_ordered a) (proper_many {k} b bs) i = let x : 14 ≡ k = cc in apart refl b x (λ e. omega arith)
  same_tree (proper_ordered a) (proper_plain b) i = let x : ◌≡◌ {A = ℕ} 14 10 = cc in absurd (omega arith)
  same_tree (proper_ordered {ps} a) (proper_ordered {ps = qs} b) {p} {q} i =
      let n : count_pairs ps ≡ count_pairs qs = cc in
      let j : pair_cells ps ++ p ≡ pair_cells qs ++ q = cc in
      let r = same_pairs a b n j in
      (ap ordered r.0, r.1)

  same_trees : {ts : Trees} → ProperAll ts → {us : Trees} → ProperAll us → {p q : List Cell} → count ts ≡ count us → cells_of ts ++ p ≡ cells_of us ++ q → (ts ≡ us) × (p ≡ q)
  same_trees proper_none proper_none n i = (refl, i)
  same_trees proper_none (proper_also b bs) n i = absurd (omega arith)
  same_trees (proper_also a as') proper_none n i = absurd (omega arith)
  same_trees (proper_also {t} {ts} a as') (proper_also {t = u} {ts = us} b bs) {p} {q} n i =
      let r = same_tree a b (regroup (cells t) (cells_of ts) p (cells u) (cells_of us) q i) in
      let m : count ts ≡ count us = omega arith in
      let j = same_trees as' bs m r.1 in
      (ap₂ also r.0 j.0, j.1)

  same_pairs : {ps : Pairs} → ProperPairs ps → {qs : Pairs} → ProperPairs qs → {p q : List Cell} → count_pairs ps ≡ count_pairs qs → pair_cells ps ++ p ≡ pair_cells qs ++ q → (ps ≡ qs) × (p ≡ q)
  same_pairs proper_no_pairs proper_no_pairs n i = (refl, i)
  same_pairs proper_no_pairs (proper_pair b bs) n i = absurd (omega arith)
  same_pairs (proper_pair a as') proper_no_pairs n i = absurd (omega arith)
  same_pairs (proper_pair {k} {t} {ps} a as') (proper_pair {k = k'} {t = u} {ps = qs} b bs) {p} {q} n i =
      let x : k ≡ k' = cc in
      let y : (cells t ++ pair_cells ps) ++ p ≡ (cells u ++ pair_cells qs) ++ q = cc in
      let r = same_tree a b (regroup (cells t) (pair_cells ps) p (cells u) (pair_cells qs) q y) in
      let m : count_pairs ps ≡ count_pairs qs = omega arith in
      let j = same_pairs as' bs m r.1 in
      (pair_same x r.0 j.0, j.1)

-- TREES BY THEIR CELLS
pub one_tree : {e e' : Edition} {d d' : ℕ} {xs ys : List ℕ} {t u : Tree} → Object e d xs t → Object e' d' ys u → cells t ≡ cells u → t ≡ u
one_tree a b i = (same_tree (object_proper a) (object_proper b) {p = []} {q = []} (ap (λ (l : List Cell). l ++ []) i)).0
