-- The texts of a tree that rows realise are parts of the text bytes, so short as these. Assumes nothing.
use mathlib.Core.Path.{sym, ap}
use mathlib.Core.List.{List}
use Prim.Native.Nat.{ℕ}
use native.Mathlib.Omega.{arith}
use lib.ListN.{length, drop, length-take, length-drop}
use Rattle.draft.specs.declared.Row.{Row}
use Rattle.draft.specs.Grammar.{Payload, holding, number, contents, cell}
use Rattle.draft.specs.Meaning.{says_contents, Means, means}
use Rattle.written.proofs.Standing.{Stands, stands_head, stands_tail, stands_front, stands_back}
use Rattle.glyph.specs.Tree.{Tree, leaf, many, plain, ordered, Trees, none, also, Pairs, no_pairs, pair, cells, cells_of, pair_cells}
use Rattle.glyph_back.specs.Brief.{Short, BriefLoad, Brief, Briefs, BriefPairs}

module _ (row : ℕ → Row) (s : List ℕ) (short : Short s) where
  load_brief : {r k : ℕ} (p : Payload) → Means s r (row r) (cell k 0 p) → BriefLoad p
  load_brief (holding n) m = tt
  load_brief (number n) m = tt
  load_brief {r} (contents t) (means h e (says_contents i j l)) =
      omega (arith, short, sym (ap length l), length-take (row r).b (drop (row r).a s), length-drop (row r).a s)

  mutual
    unfolding cells

    pub brief : (t : Tree) {r : ℕ} → Stands row s r (cells t) → Brief t
    brief (leaf kind load) z = load_brief load (stands_head z)
    brief (many kind ts) z = briefs ts (stands_tail z)
    brief (plain ps) z = brief_pairs ps (stands_tail z)
    brief (ordered ps) z = brief_pairs ps (stands_tail z)

    briefs : (ts : Trees) {r : ℕ} → Stands row s r (cells_of ts) → Briefs ts
    briefs none z = tt
    briefs (also t ts) z = (brief t (stands_front (cells t) (cells_of ts) z), briefs ts (stands_back (cells t) (cells_of ts) z))

    brief_pairs : (ps : Pairs) {r : ℕ} → Stands row s r (pair_cells ps) → BriefPairs ps
    brief_pairs no_pairs z = tt
    brief_pairs (pair k t ps) z =
        let y = stands_tail z in
        (load_brief (contents k) (stands_head z), brief t (stands_front (cells t) (pair_cells ps) y), brief_pairs ps (stands_back (cells t) (pair_cells ps) y))
