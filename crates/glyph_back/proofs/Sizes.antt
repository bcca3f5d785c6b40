-- The canonical tree has as many rows as the tree. Assumes nothing.
use mathlib.Core.Path.{◌≡◌, refl, ap, ◌∙◌}
use mathlib.Core.List.{List}
use Prim.Native.Nat.{ℕ, suc, ◌+◌}
use native.Mathlib.Omega.{arith}
use lib.ListN.{length, length-append}
use Rattle.std.proofs.Common.{Ordering, Less, Equal, Greater}
use Rattle.order.specs.ByteOrder.{compared}
use Rattle.glyph.specs.Tree.{Tree, leaf, many, plain, ordered, Trees, none, also, Pairs, no_pairs, pair, cells, cells_of, pair_cells}
use Rattle.glyph_form.specs.Form.{put, insert, sort, canon, canon_all, canon_pairs}

-- a key, a value, and the pairs behind them
pair_size : (k : List ℕ) (t : Tree) (ps : Pairs) → length (pair_cells (pair k t ps)) ≡ 1 + length (cells t) + length (pair_cells ps)
unfolding cells
pair_size k t ps = omega (arith, length-append (cells t) (pair_cells ps))

insert_size : (k : List ℕ) (t : Tree) (ps : Pairs) → length (pair_cells (insert k t ps)) ≡ 1 + length (cells t) + length (pair_cells ps)
unfolding insert
insert_size k t no_pairs = pair_size k t no_pairs
insert_size k t (pair l u ps) = go (compared k l) (insert_size k t ps)
  where
    go : (r : Ordering) → length (pair_cells (insert k t ps)) ≡ 1 + length (cells t) + length (pair_cells ps) → length (pair_cells (put r k t l u ps (insert k t ps))) ≡ 1 + length (cells t) + length (pair_cells (pair l u ps))
    go Less h = pair_size k t (pair l u ps)
    go Equal h = omega (arith, h, pair_size l u (insert k t ps), pair_size l u ps)
    go Greater h = omega (arith, h, pair_size l u (insert k t ps), pair_size l u ps)

sort_size : (ps : Pairs) → length (pair_cells (sort ps)) ≡ length (pair_cells ps)
unfolding sort
sort_size no_pairs = refl
sort_size (pair k t ps) = omega (arith, insert_size k t (sort ps), sort_size ps, pair_size k t ps)

mutual
  unfolding canon cells

  pub size : (t : Tree) → length (cells (canon t)) ≡ length (cells t)
  size (leaf kind load) = refl
  size (many kind ts) = ap suc (sizes ts)
  size (plain ps) = ap suc (sort_size (canon_pairs ps) ∙ pair_sizes ps)
  size (ordered ps) = ap suc (pair_sizes ps)

  sizes : (ts : Trees) → length (cells_of (canon_all ts)) ≡ length (cells_of ts)
  sizes none = refl
  sizes (also t ts) = omega (arith, length-append (cells (canon t)) (cells_of (canon_all ts)), length-append (cells t) (cells_of ts), size t, sizes ts)

  pair_sizes : (ps : Pairs) → length (pair_cells (canon_pairs ps)) ≡ length (pair_cells ps)
  pair_sizes no_pairs = refl
  pair_sizes (pair k t ps) = omega (arith, pair_size k (canon t) (canon_pairs ps), pair_size k t ps, size t, pair_sizes ps)
