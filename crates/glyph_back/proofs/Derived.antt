-- What a derivation tells of its meaning: texts are no longer than the bytes, and the keys of each dict are distinct. Assumes nothing.
use mathlib.Core.Path.{◌≡◌, ap}
use mathlib.Core.List.{List, [], ◌∷◌, ◌++◌}
use Prim.Native.Nat.{ℕ, ◌<◌}
use Prim.Native.Char.{code}
use native.Mathlib.Omega.{arith}
use lib.ListN.{length, length-append}
use Rattle.glyph.specs.declared.Edition.{Edition}
use Rattle.glyph.specs.declared.Want.{Want}
use Rattle.glyph.specs.Tree.{Tree, Trees, none, also, Pairs}
use Rattle.glyph.specs.Grammar.{Content, content, empty, Object, integer, unicode, bytearray, true_object, false_object, nil, list, dict, ordered_dict, extension, node, Objects, close, more, Members, close_members, more_members, Parts, parts}
use Rattle.glyph_order.specs.Same.{Distinct, distinct_leaf, distinct_many, distinct_ordered, distinct_plain, Distincts, distinct_none, distinct_also, DistinctPairs, distinct_no_pairs, distinct_pair}
use Rattle.glyph_back.specs.Brief.{Short, Brief, Briefs, BriefPairs}
use Rattle.glyph_back.proofs.Back.{members_apart}

-- parts of a list are no longer than it
left_part : {zs : List ℕ} (xs ys : List ℕ) → zs ≡ xs ++ ys → {n : ℕ} → length zs < n → length xs < n
left_part xs ys q h = omega (arith, ap length q, length-append xs ys)

right_part : {zs : List ℕ} (xs ys : List ℕ) → zs ≡ xs ++ ys → {n : ℕ} → length zs < n → length ys < n
right_part xs ys q h = omega (arith, ap length q, length-append xs ys)

inner : (xs ys : List ℕ) {n : ℕ} → length (xs ++ ys) < n → length ys < n
inner xs ys h = omega (arith, length-append xs ys)

outer : (xs ys : List ℕ) {n : ℕ} → length (xs ++ ys) < n → length xs < n
outer xs ys h = omega (arith, length-append xs ys)

content_short : {zs t : List ℕ} → Content zs t → Short zs → Short t
content_short (content {xs = xs} {t = t} h i q) s =
    let r = right_part xs (code ":" ∷ (t ++ (code ";" ∷ []))) q s in
    outer t (code ";" ∷ []) (omega (arith, r))
content_short empty s = omega arith

mutual
  pub brief : {e : Edition} {d : ℕ} {xs : List ℕ} {t : Tree} → Object e d xs t → Short xs → Brief t
  brief (integer s h r i q) l = tt
  brief (unicode c w) l = content_short c (omega (arith, l))
  brief (bytearray c) l = content_short c (omega (arith, l))
  brief true_object l = tt
  brief false_object l = tt
  brief nil l = tt
  brief (list {xs = xs} {ys = ys} s h q) l = briefs h (right_part xs ys q (omega (arith, l)))
  brief (dict {xs = xs} {ys = ys} s h q) l = brief_pairs h (right_part xs ys q (omega (arith, l)))
  brief (ordered_dict {xs = xs} {ys = ys} s h q) l = brief_pairs h (right_part xs ys q (omega (arith, l)))
  brief (extension x h) l = brief_parts h (omega (arith, l))
  brief (node x h) l = brief_parts h (omega (arith, l))

  briefs : {e : Edition} {d : ℕ} {xs : List ℕ} {ts : Trees} → Objects e d xs ts → Short xs → Briefs ts
  briefs close l = tt
  briefs (more {xs = xs} {ys = ys} {zs = zs} o s h q) l = (brief o (left_part xs (ys ++ zs) q l), briefs h (inner ys zs (right_part xs (ys ++ zs) q l)))

  brief_pairs : {e : Edition} {d : ℕ} {seen : List (List ℕ)} {xs : List ℕ} {ps : Pairs} → Members e d seen xs ps → Short xs → BriefPairs ps
  brief_pairs close_members l = tt
  brief_pairs (more_members {xs = xs} {ys = ys} {us = us} {vs = vs} {zs = zs} o a s p r h q) l =
      let m = inner ys (us ++ (vs ++ zs)) (right_part xs (ys ++ (us ++ (vs ++ zs))) q l) in
      (brief o (left_part xs (ys ++ (us ++ (vs ++ zs))) q l), brief p (outer us (vs ++ zs) m), brief_pairs h (inner vs zs (inner us (vs ++ zs) m)))

  brief_parts : {e : Edition} {d : ℕ} {w v : Want} {xs : List ℕ} {x y z : Tree} → Parts e d w v xs x y z → Short xs → Briefs (also x (also y (also z none)))
  brief_parts (parts {ps = ps} {qs = qs} {rs = rs} {ss = ss} {xs = xs} {ys = ys} {zs = zs} p o m q k n r g s i) l =
      let a = right_part ps (xs ++ (qs ++ (ys ++ (rs ++ (zs ++ (ss ++ (code ";" ∷ []))))))) i l in
      let b = inner qs (ys ++ (rs ++ (zs ++ (ss ++ (code ";" ∷ []))))) (inner xs (qs ++ (ys ++ (rs ++ (zs ++ (ss ++ (code ";" ∷ [])))))) a) in
      let c = inner rs (zs ++ (ss ++ (code ";" ∷ []))) (inner ys (rs ++ (zs ++ (ss ++ (code ";" ∷ [])))) b) in
      (brief o (outer xs (qs ++ (ys ++ (rs ++ (zs ++ (ss ++ (code ";" ∷ [])))))) a), (brief k (outer ys (rs ++ (zs ++ (ss ++ (code ";" ∷ [])))) b), (brief g (outer zs (ss ++ (code ";" ∷ [])) c), tt)))

mutual
  pub distinct : {e : Edition} {d : ℕ} {xs : List ℕ} {t : Tree} → Object e d xs t → Distinct t
  distinct (integer s h r i q) = distinct_leaf
  distinct (unicode c w) = distinct_leaf
  distinct (bytearray c) = distinct_leaf
  distinct true_object = distinct_leaf
  distinct false_object = distinct_leaf
  distinct nil = distinct_leaf
  distinct (list s h q) = distinct_many (distincts h)
  distinct (dict s h q) = distinct_plain (distinct_members h)
  distinct (ordered_dict s h q) = distinct_ordered (distinct_members h)
  distinct (extension x h) = distinct_many (distinct_parts h)
  distinct (node x h) = distinct_many (distinct_parts h)

  distincts : {e : Edition} {d : ℕ} {xs : List ℕ} {ts : Trees} → Objects e d xs ts → Distincts ts
  distincts close = distinct_none
  distincts (more o s h q) = distinct_also (distinct o) (distincts h)

  distinct_members : {e : Edition} {d : ℕ} {seen : List (List ℕ)} {xs : List ℕ} {ps : Pairs} → Members e d seen xs ps → DistinctPairs ps
  distinct_members close_members = distinct_no_pairs
  distinct_members (more_members o a s p r h q) = distinct_pair (members_apart h) (distinct p) (distinct_members h)

  distinct_parts : {e : Edition} {d : ℕ} {w v : Want} {xs : List ℕ} {x y z : Tree} → Parts e d w v xs x y z → Distincts (also x (also y (also z none)))
  distinct_parts (parts p o m q k n r g s i) = distinct_also (distinct o) (distinct_also (distinct k) (distinct_also (distinct g) distinct_none))
