-- How many bytes pairs take, which is the same in any order. Assumes nothing.
use mathlib.Core.Path.{◌≡◌, refl}
use mathlib.Core.List.{List, [], ◌∷◌, ◌++◌}
use Prim.Native.Char.{code}
use Prim.Native.Nat.{ℕ, zero, suc, ◌+◌, ◌/◌, ◌%◌, ◌≤◌}
use mathlib.Core.Bool.{Bool, true, false, cond}
use native.Mathlib.Omega.{arith}
use lib.ListN.{length, length-append}
use lib.Dec.{ltb}
use Rattle.std.proofs.Common.{Ordering, Less, Equal, Greater}
use Rattle.order.specs.ByteOrder.{compared}
use Rattle.glyph.specs.declared.Edition.{Edition}
use Rattle.glyph.specs.Tree.{Tree, Pairs, no_pairs, pair}
use Rattle.glyph_form.specs.Form.{put, insert, sort, digits_before, content_bytes, bytes_of, bytes_of_pairs}

-- a key, a value, and the pairs behind them
pub pair_bytes_lem : (e : Edition) (k : List ℕ) (t : Tree) (ps : Pairs) → length (bytes_of_pairs e (pair k t ps)) ≡ 1 + length (content_bytes k) + length (bytes_of e t) + length (bytes_of_pairs e ps)
unfolding bytes_of
pair_bytes_lem e k t ps = omega (arith, length-append (content_bytes k) (bytes_of e t ++ bytes_of_pairs e ps), length-append (bytes_of e t) (bytes_of_pairs e ps))

insert_bytes : (e : Edition) (k : List ℕ) (t : Tree) (ps : Pairs) → length (bytes_of_pairs e (insert k t ps)) ≡ length (bytes_of_pairs e (pair k t ps))
unfolding insert
insert_bytes e k t no_pairs = refl
insert_bytes e k t (pair l u ps) = go (compared k l) (insert_bytes e k t ps)
  where
    go : (r : Ordering) → length (bytes_of_pairs e (insert k t ps)) ≡ length (bytes_of_pairs e (pair k t ps)) → length (bytes_of_pairs e (put r k t l u ps (insert k t ps))) ≡ length (bytes_of_pairs e (pair k t (pair l u ps)))
    go Less h = refl
    go Equal h = omega (arith, h, pair_bytes_lem e l u (insert k t ps), pair_bytes_lem e k t (pair l u ps), pair_bytes_lem e k t ps, pair_bytes_lem e l u ps)
    go Greater h = omega (arith, h, pair_bytes_lem e l u (insert k t ps), pair_bytes_lem e k t (pair l u ps), pair_bytes_lem e k t ps, pair_bytes_lem e l u ps)

pub sort_bytes : (e : Edition) (ps : Pairs) → length (bytes_of_pairs e (sort ps)) ≡ length (bytes_of_pairs e ps)
unfolding sort
sort_bytes e no_pairs = refl
sort_bytes e (pair k t ps) = omega (arith, insert_bytes e k t (sort ps), pair_bytes_lem e k t (sort ps), pair_bytes_lem e k t ps, sort_bytes e ps)

-- a text takes more bytes than it has
digits_behind : (most n : ℕ) (xs : List ℕ) → length xs ≤ length (digits_before most n xs)
unfolding digits_before
digits_behind zero n xs = omega arith
digits_behind (suc most) n xs = go (ltb n 10) (digits_behind most (n / 10) ((code "0" + n % 10) ∷ xs))
  where
    go : (b : Bool) → suc (length xs) ≤ length (digits_before most (n / 10) ((code "0" + n % 10) ∷ xs)) → length xs ≤ length (cond b ((code "0" + n) ∷ xs) (digits_before most (n / 10) ((code "0" + n % 10) ∷ xs)))
    go true h = omega arith
    go false h = omega (arith, h)

pub content_bytes_lem : (t : List ℕ) → length t ≤ length (content_bytes t)
unfolding content_bytes
content_bytes_lem [] = omega arith
content_bytes_lem (x ∷ t) = omega (arith, digits_behind 10 (length (x ∷ t)) (code ":" ∷ ((x ∷ t) ++ (code ";" ∷ []))), length-append (x ∷ t) (code ";" ∷ []))
