-- Pairs put in byte order are those of key rows put in order. Assumes nothing.
use mathlib.Core.Path.{◌≡◌, refl, sym, ap, ◌∙◌}
use mathlib.Core.Bool.{Bool, true, false, cond}
use mathlib.Core.List.{List, [], ◌∷◌}
use Prim.Native.Nat.{ℕ, zero, suc, ◌+◌, ◌-◌, ◌≤◌, ◌<◌}
use native.Mathlib.Omega.{arith}
use lib.ListN.{length}
use lib.Dec.{ltb}
use borrow.Author.Tests.{lt-ltb, ltb-true}
use Rattle.std.proofs.Common.{Ordering, Less, Equal, Greater}
use Rattle.std.specs.Ordering.{is_lt}
use Rattle.order.specs.ByteOrder.{compared}
use Rattle.draft.specs.declared.Row.{Row}
use Rattle.draft.specs.Read.{text_of}
use Rattle.sorting.specs.Sorting.{key_text, before, spot, insert_at, inserted, sorted}
use Rattle.key_order.specs.Arranged.{key_rows, over, arranged}
use Rattle.glyph.specs.declared.Edition.{Edition}
use Rattle.glyph.specs.Tree.{Tree, Pairs, pair}
use Rattle.glyph_form.specs.Told.{pairs, tree_at}
use Rattle.glyph_form.specs.Form.{put, insert, sort, canon, canon_pairs, bytes_of_pairs}
use Rattle.glyph_order.proofs.Lengths.{pair_bytes_lem, sort_bytes, content_bytes_lem}
use Rattle.glyph_puts.specs.Contract.{Fit, Members, no_member, member, Ranked, no_key, key, pairs_by, dict_bytes, ranked_bytes}
use Rattle.glyph_puts.proofs.Fitting.{fit_in}

-- as many bytes, and the same ones if they are at most so many
pub record Like (most : ℕ) (ys xs : List ℕ) : Type 0 where
  pub long : length xs ≡ length ys
  pub same : length xs ≤ most → xs ≡ ys

module _ (text : ℕ → List ℕ) (f : ℕ → Tree) where
  canon_by : (ks : List ℕ) → canon_pairs (pairs_by text f ks) ≡ pairs_by text (λ k. canon (f k)) ks
  unfolding canon_pairs pairs_by
  canon_by [] = refl
  canon_by (k ∷ ks) = ap (pair (text k) (canon (f (k + 1)))) (canon_by ks)

  -- a key's row at its place, and its pair
  insert_by : (k : ℕ) (xs : List ℕ) → pairs_by text f (inserted text k xs) ≡ insert (text k) (f (k + 1)) (pairs_by text f xs)
  unfolding inserted insert_at spot before insert pairs_by
  insert_by k [] = refl
  insert_by k (x ∷ xs) = go (compared (text k) (text x)) (insert_by k xs)
    where
      go : (r : Ordering) → pairs_by text f (insert_at (spot text k xs) k xs) ≡ insert (text k) (f (k + 1)) (pairs_by text f xs) → pairs_by text f (insert_at (cond (is_lt r) 0 (suc (spot text k xs))) k (x ∷ xs)) ≡ put r (text k) (f (k + 1)) (text x) (f (x + 1)) (pairs_by text f xs) (insert (text k) (f (k + 1)) (pairs_by text f xs))
      go Less ih = refl
      go Equal ih = ap (pair (text x) (f (x + 1))) ih
      go Greater ih = ap (pair (text x) (f (x + 1))) ih

  sorted_by : (ks : List ℕ) → pairs_by text f (sorted text ks) ≡ sort (pairs_by text f ks)
  unfolding sorted sort pairs_by
  sorted_by [] = refl
  sorted_by (k ∷ ks) = insert_by k (sorted text ks) ∙ ap (insert (text k) (f (k + 1))) (sorted_by ks)

-- keys that have more bytes than so many take more
over_long : (e : Edition) (text : ℕ → List ℕ) (g : ℕ → Tree) (most : ℕ) (ks : List ℕ) → over text most ks ≡ true → most < length (bytes_of_pairs e (pairs_by text g ks))
unfolding over pairs_by
over_long e text g most [] h = let z : ◌≡◌ {A = ℕ} 0 1 = cc in absurd (omega arith)
over_long e text g most (k ∷ ks) h = go (ltb most (length (text k))) refl h (λ i. over_long e text g (most - length (text k)) ks i)
  where
    b : length (text k) + length (bytes_of_pairs e (pairs_by text g ks)) < length (bytes_of_pairs e (pair (text k) (g (k + 1)) (pairs_by text g ks)))
    b = omega (arith, pair_bytes_lem e (text k) (g (k + 1)) (pairs_by text g ks), content_bytes_lem (text k))

    go : (c : Bool) → ltb most (length (text k)) ≡ c → cond c true (over text (most - length (text k)) ks) ≡ true → (over text (most - length (text k)) ks ≡ true → most - length (text k) < length (bytes_of_pairs e (pairs_by text g ks))) → most < length (bytes_of_pairs e (pair (text k) (g (k + 1)) (pairs_by text g ks)))
    go true q i f = omega (arith, b, ltb-true most (length (text k)) q)
    go false q i f = omega (arith, b, f i)

stand_over : (row : ℕ → Row) (s : List ℕ) (e : Edition) (deep : ℕ) (text : ℕ → List ℕ) (most : ℕ) (ks : List ℕ) → over text most ks ≡ true → most < length (ranked_bytes row s e deep text ks)
unfolding ranked_bytes
stand_over row s e deep text most ks h =
    rw (canon_by text (tree_at row s e deep) ks) (over_long e text (λ k. canon (tree_at row s e deep k)) most ks h)

module _ {row : ℕ → Row} {room : ℕ} {s : List ℕ} {e : Edition} {deep spare : ℕ} where
  pub key_is : (k : ℕ) → Fit row room s e deep spare (k + 1) → key_text room row s k ≡ text_of s (row k)
  unfolding key_text
  key_is k a = rw (lt-ltb k room (omega (arith, fit_in a)))

  keys_by : (f : ℕ → Tree) {n r : ℕ} → Members row room s e deep spare n r → pairs row s f n r ≡ pairs_by (key_text room row s) f (key_rows row n r)
  unfolding pairs pairs_by key_rows
  keys_by f no_member = refl
  keys_by f (member {n} {r} a c) = rw (key_is r a) (ap (pair (text_of s (row r)) (f (r + 1))) (keys_by f c))

  -- a dict's pairs, by its key rows in order
  dict_ranked : {n r : ℕ} → Members row room s e deep spare n r → ranked_bytes row s e deep (key_text room row s) (sorted (key_text room row s) (key_rows row n r)) ≡ dict_bytes row s e deep n r
  unfolding ranked_bytes dict_bytes
  dict_ranked {n} {r} c =
      let t = key_text room row s in
      let f : ℕ → Tree = tree_at row s e deep in
      ap (bytes_of_pairs e) (canon_by t f (sorted t (key_rows row n r)) ∙ sorted_by t (λ k. canon (f k)) (key_rows row n r) ∙ ap sort (sym (canon_by t f (key_rows row n r)) ∙ ap canon_pairs (sym (keys_by f c))))

  -- as they stand they take as many bytes as in order
  stand_length : {n r : ℕ} → Members row room s e deep spare n r → length (ranked_bytes row s e deep (key_text room row s) (key_rows row n r)) ≡ length (dict_bytes row s e deep n r)
  unfolding ranked_bytes dict_bytes
  stand_length {n} {r} c =
      let f : ℕ → Tree = tree_at row s e deep in
      ap (λ (ps : Pairs). length (bytes_of_pairs e (canon_pairs ps))) (sym (keys_by f c)) ∙ sym (sort_bytes e (canon_pairs (pairs row s f n r)))

  -- a dict's pairs, by its key rows arranged
  pub dict_arranged : (most : ℕ) {n r : ℕ} → Members row room s e deep spare n r → Like most (dict_bytes row s e deep n r) (ranked_bytes row s e deep (key_text room row s) (arranged (key_text room row s) most (key_rows row n r)))
  unfolding arranged
  dict_arranged most {n} {r} c = go (over t most (key_rows row n r)) refl
    where
      t : ℕ → List ℕ
      t = key_text room row s

      go : (b : Bool) → over t most (key_rows row n r) ≡ b → Like most (dict_bytes row s e deep n r) (ranked_bytes row s e deep t (cond b (key_rows row n r) (sorted t (key_rows row n r))))
      go true h = record { long = stand_length c; same = λ l. absurd (let z = stand_over row s e deep t most (key_rows row n r) h in omega (arith, l, z)) }
      go false h = record { long = ap length (dict_ranked c); same = λ l. dict_ranked c }

  ranked_at : (p k : ℕ) (xs : List ℕ) → Fit row room s e deep spare (k + 1) → Ranked row room s e deep spare xs → Ranked row room s e deep spare (insert_at p k xs)
  unfolding insert_at
  ranked_at zero k xs a b = key a b
  ranked_at (suc p) k [] a b = key a b
  ranked_at (suc p) k (x ∷ xs) a (key c b) = key c (ranked_at p k xs a b)

  -- and their values
  ranked_all : {n r : ℕ} → Members row room s e deep spare n r → Ranked row room s e deep spare (key_rows row n r)
  unfolding key_rows
  ranked_all no_member = no_key
  ranked_all (member a c) = key a (ranked_all c)

  dict_values : (text : ℕ → List ℕ) {n r : ℕ} → Members row room s e deep spare n r → Ranked row room s e deep spare (sorted text (key_rows row n r))
  unfolding sorted key_rows inserted
  dict_values text no_member = no_key
  dict_values text (member {n} {r} a c) = ranked_at (spot text r (sorted text (key_rows row n (row (r + 1)).end))) r (sorted text (key_rows row n (row (r + 1)).end)) a (dict_values text c)

  pub arranged_values : (text : ℕ → List ℕ) (most : ℕ) {n r : ℕ} → Members row room s e deep spare n r → Ranked row room s e deep spare (arranged text most (key_rows row n r))
  unfolding arranged
  arranged_values text most {n} {r} c = go (over text most (key_rows row n r))
    where
      go : (b : Bool) → Ranked row room s e deep spare (cond b (key_rows row n r) (sorted text (key_rows row n r)))
      go true = ranked_all c
      go false = dict_values text c
