-- READ BACK: what an edition derives, it derives from the written form too, within the same nesting, and there it means the canonical tree,
-- which means the same. Assumes nothing.
use mathlib.Core.Path.{◌≡◌, refl, sym, ap, ◌∙◌}
use mathlib.Core.Bool.{Bool, true, false, ◌||◌}
use mathlib.Core.List.{List, [], ◌∷◌, ◌++◌, append_assoc}
use Prim.Native.Nat.{ℕ}
use Prim.Native.Char.{code}
use Rattle.text.specs.Utf8.{well_formed}
use Rattle.text.specs.Texts.{same, among}
use Rattle.text.proofs.Comparing.{clash, same_self, same_ne}
use Rattle.glyph.specs.declared.Edition.{Edition}
use Rattle.glyph.specs.declared.Want.{Want}
use Rattle.glyph.specs.Tree.{Tree, Trees, none, also, Pairs, no_pairs, pair}
use Rattle.glyph.specs.Grammar.{no_blanks, Meets, any, unicode_met, dict_met, ordered_met, Extends, new_extension, old_extension, Nodes, old_node, Object, integer, unicode, bytearray, true_object, false_object, nil, list, dict, ordered_dict, extension, node, Objects, close, more, Members, close_members, more_members, Parts, parts}
use Rattle.glyph_form.specs.Form.{canon, canon_all, canon_pairs, boolean_bytes, content_bytes, leaf_bytes, letter_for, bytes_of, bytes_of_all, bytes_of_pairs, written}
use Rattle.glyph_order.specs.Same.{Shuffled, as_is, keep, swap, both, Apart, apart_none, apart_and}
use Rattle.glyph_order.proofs.Order.{Keys, keys_none, keys_and, apart_shuffled, sorted, apart_canon}
use Rattle.glyph_back.specs.Brief.{Short, Brief, Briefs, BriefPairs}
use Rattle.glyph_back.proofs.Numerals.{content_written, integer_written, word_fits}

-- pairs whose keys are unicode and whose values are derived from their bytes
data Each (e : Edition) (d : ℕ) : Pairs → Type 0 where
  each_none : Each e d no_pairs
  each_and : {k : List ℕ} {t : Tree} {ps : Pairs} → well_formed k ≡ true → Short k → Object e d (bytes_of e t) t → Each e d ps → Each e d (pair k t ps)

each_shuffled : {e : Edition} {d : ℕ} {ps qs : Pairs} → Shuffled ps qs → Each e d ps → Each e d qs
each_shuffled as_is h = h
each_shuffled (keep s) (each_and w l o h) = each_and w l o (each_shuffled s h)
each_shuffled (swap n) (each_and w l o (each_and v m p h)) = each_and v m p (each_and w l o h)
each_shuffled (both s r) h = each_shuffled r (each_shuffled s h)

keys_shuffled : {ps qs : Pairs} → Shuffled ps qs → Keys ps → Keys qs
keys_shuffled as_is h = h
keys_shuffled (keep s) (keys_and a h) = keys_and (apart_shuffled s a) (keys_shuffled s h)
keys_shuffled (swap n) (keys_and (apart_and m a) (keys_and b h)) = keys_and (apart_and (λ q. n (sym q)) b) (keys_and a h)
keys_shuffled (both s r) h = keys_shuffled r (keys_shuffled s h)

keys_canonical : {ps : Pairs} → Keys ps → Keys (canon_pairs ps)
unfolding canon
keys_canonical keys_none = keys_none
keys_canonical (keys_and a h) = keys_and (apart_canon a) (keys_canonical h)

-- none of the keys was seen
data Unseen (seen : List (List ℕ)) : Pairs → Type 0 where
  unseen_none : Unseen seen no_pairs
  unseen_and : {k : List ℕ} {t : Tree} {ps : Pairs} → among seen k ≡ false → Unseen seen ps → Unseen seen (pair k t ps)

among_more : (seen : List (List ℕ)) (k l : List ℕ) → (k ≡ l → ⊥) → among seen l ≡ false → among (k ∷ seen) l ≡ false
unfolding among
among_more seen k l n h = rw (same_ne l k (λ q. n (sym q)), h)

among_less : (seen : List (List ℕ)) (k l : List ℕ) → among (k ∷ seen) l ≡ false → among seen l ≡ false
unfolding among
among_less seen k l h = go (same l k) h
  where
    go : (b : Bool) → (b || among seen l) ≡ false → among seen l ≡ false
    go true i = clash refl i
    go false i = i

among_apart : (seen : List (List ℕ)) (k l : List ℕ) → among (k ∷ seen) l ≡ false → k ≡ l → ⊥
unfolding among
among_apart seen k l h q = clash {b = true || among seen l} refl (rw (same_l) at h)
  where
    same_l : same l k ≡ true
    same_l = rw q (same_self l)

unseen_more : {seen : List (List ℕ)} {k : List ℕ} {ps : Pairs} → Apart k ps → Unseen seen ps → Unseen (k ∷ seen) ps
unseen_more apart_none unseen_none = unseen_none
unseen_more {seen} {k} (apart_and {l} n a) (unseen_and h u) = unseen_and (among_more seen k l n h) (unseen_more a u)

unseen_less : {seen : List (List ℕ)} {k : List ℕ} {ps : Pairs} → Unseen (k ∷ seen) ps → Unseen seen ps
unseen_less unseen_none = unseen_none
unseen_less {seen} {k} (unseen_and {k = l} h u) = unseen_and (among_less seen k l h) (unseen_less u)

unseen_apart : {seen : List (List ℕ)} {k : List ℕ} {ps : Pairs} → Unseen (k ∷ seen) ps → Apart k ps
unseen_apart unseen_none = apart_none
unseen_apart {seen} {k} (unseen_and {k = l} h u) = apart_and (among_apart seen k l h) (unseen_apart u)

unseen_first : (ps : Pairs) → Unseen [] ps
unfolding among
unseen_first no_pairs = unseen_none
unseen_first (pair k t ps) = unseen_and refl (unseen_first ps)

-- what members tell of their keys
members_unseen : {e : Edition} {d : ℕ} {seen : List (List ℕ)} {zs : List ℕ} {ps : Pairs} → Members e d seen zs ps → Unseen seen ps
members_unseen close_members = unseen_none
members_unseen (more_members o a b p c m q) = unseen_and a (unseen_less (members_unseen m))

pub members_apart : {e : Edition} {d : ℕ} {seen : List (List ℕ)} {k zs : List ℕ} {ps : Pairs} → Members e d (k ∷ seen) zs ps → Apart k ps
members_apart m = unseen_apart (members_unseen m)

members_keys : {e : Edition} {d : ℕ} {seen : List (List ℕ)} {zs : List ℕ} {ps : Pairs} → Members e d seen zs ps → Keys ps
members_keys close_members = keys_none
members_keys (more_members o a b p c m q) = keys_and (members_apart m) (members_keys m)

-- the bytes of a pair and those behind it, and of three objects
pub parted : (xs ys zs : List ℕ) → (xs ++ (ys ++ zs)) ++ (code ";" ∷ []) ≡ xs ++ ([] ++ (ys ++ ([] ++ (zs ++ (code ";" ∷ [])))))
parted xs ys zs = append_assoc xs (ys ++ zs) (code ";" ∷ []) ∙ ap (λ (v : List ℕ). xs ++ v) (append_assoc ys zs (code ";" ∷ []))

pub three_bytes : (xs ys zs : List ℕ) → (xs ++ (ys ++ (zs ++ []))) ++ (code ";" ∷ []) ≡ [] ++ (xs ++ ([] ++ (ys ++ ([] ++ (zs ++ ([] ++ (code ";" ∷ [])))))))
three_bytes xs ys zs =
    append_assoc xs (ys ++ (zs ++ [])) (code ";" ∷ [])
    ∙ ap (λ (v : List ℕ). xs ++ v) (append_assoc ys (zs ++ []) (code ";" ∷ []) ∙ ap (λ (v : List ℕ). ys ++ v) (append_assoc zs [] (code ";" ∷ [])))

-- and pairs that are such, in the order in which they stand, are members
members_of_lem : {e : Edition} {d : ℕ} {ps : Pairs} → Each e d ps → Keys ps → {seen : List (List ℕ)} → Unseen seen ps → Members e d seen (bytes_of_pairs e ps ++ (code ";" ∷ [])) ps
unfolding bytes_of
members_of_lem each_none keys_none unseen_none = close_members
members_of_lem {e} {d} (each_and {k} {t} {ps} w l o h) (keys_and a ks) (unseen_and u us) =
    more_members (unicode (content_written k l) w) u no_blanks o no_blanks (members_of_lem h ks (unseen_more a us)) (parted (code "u" ∷ content_bytes k) (bytes_of e t) (bytes_of_pairs e ps))

-- an extension's letter, and a node's
extends_letter : {e : Edition} {x : ℕ} → Extends e x → letter_for e 15 ≡ x
unfolding letter_for
extends_letter new_extension = refl
extends_letter old_extension = refl

node_letter : {e : Edition} {x : ℕ} → Nodes e x → letter_for e 16 ≡ x
unfolding letter_for
node_letter old_node = refl

meets_canon : {w : Want} {t : Tree} → Meets w t → Meets w (canon t)
unfolding canon
meets_canon any = any
meets_canon unicode_met = unicode_met
meets_canon dict_met = dict_met
meets_canon ordered_met = ordered_met

mutual
  unfolding canon bytes_of leaf_bytes boolean_bytes letter_for

  back : {e : Edition} {d : ℕ} {xs : List ℕ} {t : Tree} → Object e d xs t → Brief t → Object e d (bytes_of e (canon t)) (canon t)
  back {e} {d} (integer {n = n} {bits = bits} {m = m} s h r i q) b = integer_written e d bits (rw i (word_fits m n r))
  back (unicode {t = t} c w) b = unicode (content_written t b) w
  back (bytearray {t = t} c) b = bytearray (content_written t b)
  back true_object b = true_object
  back false_object b = false_object
  back nil b = nil
  back (list s h q) b = list no_blanks (back_all h b) refl
  back (dict s h q) b = let k = keys_canonical (members_keys h) in dict no_blanks (members_of_lem (each_shuffled (sorted k) (back_each h b)) (keys_shuffled (sorted k) k) (unseen_first _)) refl
  back (ordered_dict s h q) b = ordered_dict no_blanks (members_of_lem (back_each h b) (keys_canonical (members_keys h)) (unseen_first _)) refl
  back (extension x h) b = rw (extends_letter x) (extension x (back_parts h b))
  back (node x h) b = rw (node_letter x) (node x (back_parts h b))

  back_all : {e : Edition} {d : ℕ} {xs : List ℕ} {ts : Trees} → Objects e d xs ts → Briefs ts → Objects e d (bytes_of_all e (canon_all ts) ++ (code ";" ∷ [])) (canon_all ts)
  back_all close b = close
  back_all {e} (more {t = t} {ts} o s h q) b = more (back o b.0) no_blanks (back_all h b.1) (append_assoc (bytes_of e (canon t)) (bytes_of_all e (canon_all ts)) (code ";" ∷ []))

  back_each : {e : Edition} {d : ℕ} {seen : List (List ℕ)} {xs : List ℕ} {ps : Pairs} → Members e d seen xs ps → BriefPairs ps → Each e d (canon_pairs ps)
  back_each close_members b = each_none
  back_each (more_members (unicode c w) a s o r h q) b = each_and w b.0 (back o b.1) (back_each h b.2)

  back_parts : {e : Edition} {d : ℕ} {w v : Want} {xs : List ℕ} {x y z : Tree} → Parts e d w v xs x y z → Briefs (also x (also y (also z none))) → Parts e d w v (bytes_of_all e (canon_all (also x (also y (also z none)))) ++ (code ";" ∷ [])) (canon x) (canon y) (canon z)
  back_parts {e} {x = x} {y} {z} (parts p o m q k n r l s i) b =
      parts no_blanks (back o b.0) (meets_canon m) no_blanks (back k b.1.0) (meets_canon n) no_blanks (back l b.1.1.0) no_blanks (three_bytes (bytes_of e (canon x)) (bytes_of e (canon y)) (bytes_of e (canon z)))

-- THE STATEMENT: the written form is derived, and means the canonical tree
pub read_back : {e : Edition} {d : ℕ} {xs : List ℕ} {t : Tree} → Object e d xs t → Brief t → Object e d (written e t) (canon t)
unfolding written
read_back o b = back o b
