-- A bound on the nesting of what an edition derives stays one if it is raised. Assumes nothing.
use mathlib.Core.List.{List}
use Prim.Native.Nat.{ℕ, zero, suc, ◌≤◌}
use native.Mathlib.Omega.{arith}
use Rattle.glyph.specs.declared.Edition.{Edition}
use Rattle.glyph.specs.declared.Want.{Want}
use Rattle.glyph.specs.Tree.{Tree, Trees, Pairs}
use Rattle.glyph.specs.Grammar.{Object, integer, unicode, bytearray, true_object, false_object, nil, list, dict, ordered_dict, extension, node, Objects, close, more, Members, close_members, more_members, Parts, parts}

mutual
  pub deeper : {e : Edition} {d : ℕ} {xs : List ℕ} {t : Tree} → Object e d xs t → (d' : ℕ) → d ≤ d' → Object e d' xs t
  deeper (integer m h i j q) d' l = integer m h i j q
  deeper (unicode c w) d' l = unicode c w
  deeper (bytearray c) d' l = bytearray c
  deeper true_object d' l = true_object
  deeper false_object d' l = false_object
  deeper nil d' l = nil
  deeper (list b h q) zero l = absurd (omega arith)
  deeper (list b h q) (suc d') l = list b (deeper_all h d' (omega arith)) q
  deeper (dict b h q) zero l = absurd (omega arith)
  deeper (dict b h q) (suc d') l = dict b (deeper_members h d' (omega arith)) q
  deeper (ordered_dict b h q) zero l = absurd (omega arith)
  deeper (ordered_dict b h q) (suc d') l = ordered_dict b (deeper_members h d' (omega arith)) q
  deeper (extension x h) zero l = absurd (omega arith)
  deeper (extension x h) (suc d') l = extension x (deeper_parts h d' (omega arith))
  deeper (node x h) zero l = absurd (omega arith)
  deeper (node x h) (suc d') l = node x (deeper_parts h d' (omega arith))

  deeper_all : {e : Edition} {d : ℕ} {xs : List ℕ} {ts : Trees} → Objects e d xs ts → (d' : ℕ) → d ≤ d' → Objects e d' xs ts
  deeper_all close d' l = close
  deeper_all (more o b h q) d' l = more (deeper o d' l) b (deeper_all h d' l) q

  deeper_members : {e : Edition} {d : ℕ} {seen : List (List ℕ)} {xs : List ℕ} {ps : Pairs} → Members e d seen xs ps → (d' : ℕ) → d ≤ d' → Members e d' seen xs ps
  deeper_members close_members d' l = close_members
  deeper_members (more_members o n b p c h q) d' l = more_members (deeper o d' l) n b (deeper p d' l) c (deeper_members h d' l) q

  deeper_parts : {e : Edition} {d : ℕ} {w v : Want} {xs : List ℕ} {a b c : Tree} → Parts e d w v xs a b c → (d' : ℕ) → d ≤ d' → Parts e d' w v xs a b c
  deeper_parts (parts p o m q k n r g s i) d' l = parts p (deeper o d' l) m q (deeper k d' l) n r (deeper g d' l) s i
