-- What answers the turns and returns of the functions that compare texts. Assumes nothing.
use mathlib.Core.Path.{◌≡◌, refl, sym, ap, ◌∙◌}
use mathlib.Core.Bool.{Bool, true, false, cond}
use mathlib.Core.List.{List, [], ◌∷◌}
use Prim.Native.Nat.{ℕ, zero, suc, ◌+◌, ◌*◌, ◌≤◌, ◌<◌}
use native.Mathlib.Omega.{arith}
use native.Mathlib.Numerals.{add-one}
use lib.ListN.{length, get_or, take, drop, length-drop, drop_of_length-le}
use lib.Seq.{drop-cons, take-suc, take-take, get_or-drop, take-add}
use lib.Dec.{ltb}
use borrow.Author.Tests.{lt-ltb, le-ltb, ltb-true, ltb-false}
use Rattle.text.proofs.Walking.{Bytes, byte}
use Rattle.std.proofs.Common.{Ordering, Less, Equal, Greater, nat_cmp}
use Rattle.std.specs.Ordering.{MatchOrdering}
use Rattle.std.specs.Cmp.{ranks}
use Rattle.std.specs.Int.{w64, from_be_bytes}
use Rattle.order.specs.ByteOrder.{compared}
use Rattle.order.specs.Alike.{Least, Alike, Ranked, rank_from, rank}
use Rattle.order.proofs.Ordering.{turned, compared_turned}

-- ---- eight bytes as one number

-- the number of the bytes at a place, by the first and the others
first : (m n : ℕ) (s : List ℕ) (at next : ℕ) → at < length s → next ≡ at + 1 → rank_from n (take (suc m) (drop at s)) ≡ rank_from (n * 256 + get_or s at 0) (take m (drop next s))
unfolding rank_from
first m n s at next h e = rw (drop-cons s at 0 h, e, add-one)

none : (n : ℕ) (s : List ℕ) → rank_from n (take 0 s) ≡ n
unfolding rank_from
none n s = refl

rank_is : (s : List ℕ) (at : ℕ) {a b c d e f g h : ℕ} → at + 8 ≤ length s → a ≡ get_or s at 0 → b ≡ get_or s (at + 1) 0 → c ≡ get_or s (at + 2) 0 → d ≡ get_or s (at + 3) 0 → e ≡ get_or s (at + 4) 0 → f ≡ get_or s (at + 5) 0 → g ≡ get_or s (at + 6) 0 → h ≡ get_or s (at + 7) 0 → h + g * 0x100 + f * 0x10000 + e * 0x1000000 + d * 0x100000000 + c * 0x10000000000 + b * 0x1000000000000 + a * 0x100000000000000 ≡ rank (take 8 (drop at s))
rank_is s at {a} {b} {c} {d} {e} {f} {g} {h} l ea eb ec ed ee ef eg eh =
    sym (
    first 7 0 s at (at + 1) (omega arith) refl
    ∙ first 6 _ s (at + 1) (at + 2) (omega arith) (omega arith)
    ∙ first 5 _ s (at + 2) (at + 3) (omega arith) (omega arith)
    ∙ first 4 _ s (at + 3) (at + 4) (omega arith) (omega arith)
    ∙ first 3 _ s (at + 4) (at + 5) (omega arith) (omega arith)
    ∙ first 2 _ s (at + 5) (at + 6) (omega arith) (omega arith)
    ∙ first 1 _ s (at + 6) (at + 7) (omega arith) (omega arith)
    ∙ first 0 _ s (at + 7) (at + 8) (omega arith) (omega arith)
    ∙ none _ (drop (at + 8) s)
    ∙ omega arith
    )

pub rank_of : (s : List ℕ) (at : ℕ) {a b c d e f g h : ℕ} → at + 8 ≤ length s → a ≡ get_or s at 0 → b ≡ get_or s (at + 1) 0 → c ≡ get_or s (at + 2) 0 → d ≡ get_or s (at + 3) 0 → e ≡ get_or s (at + 4) 0 → f ≡ get_or s (at + 5) 0 → g ≡ get_or s (at + 6) 0 → h ≡ get_or s (at + 7) 0 → {x : ℕ} → x ≡ from_be_bytes w64 (a ∷ b ∷ c ∷ d ∷ e ∷ f ∷ g ∷ h ∷ []) → Bytes s → Ranked s at x
rank_of s at l ea eb ec ed ee ef eg eh i bytes = record { is = i ∙ omega arith ∙ rank_is s at l ea eb ec ed ee ef eg eh; bytes = byte s bytes }

-- what a slice of bytes holds
abbrev Octets : List ℕ → Type 0
Octets s = (i : ℕ) → get_or s i 0 < 256

-- a lesser number stays so, whatever bytes follow
lower : (m p q : ℕ) (a b : List ℕ) → Octets a → Octets b → m ≤ length a → m ≤ length b → p < q → rank_from p (take m a) < rank_from q (take m b)
unfolding rank_from
lower zero p q a b f g h k l = l
lower (suc m) p q [] b f g h k l = absurd (omega arith)
lower (suc m) p q (x ∷ a) [] f g h k l = absurd (omega arith)
lower (suc m) p q (x ∷ a) (y ∷ b) f g h k l = lower m (p * 256 + x) (q * 256 + y) a b (λ i. f (suc i)) (λ i. g (suc i)) (omega arith) (omega arith) (omega (arith, f 0))

-- of as many bytes, those with the lesser number come first
rank_before : (m n : ℕ) (a b : List ℕ) → Octets a → Octets b → m ≤ length a → m ≤ length b → rank_from n (take m a) < rank_from n (take m b) → compared a b ≡ Less
unfolding compared rank_from
rank_before zero n a b f g h k l = absurd (omega arith)
rank_before (suc m) n [] b f g h k l = absurd (omega arith)
rank_before (suc m) n (x ∷ a) [] f g h k l = absurd (omega arith)
rank_before (suc m) n (x ∷ a) (y ∷ b) f g h k l = go (rank_before m (n * 256 + x) a b (λ i. f (suc i)) (λ i. g (suc i)) (omega arith) (omega arith)) (ltb x y) refl (ltb y x) refl
  where
    go : (rank_from (n * 256 + x) (take m a) < rank_from (n * 256 + x) (take m b) → compared a b ≡ Less) → (c : Bool) → ltb x y ≡ c → (d : Bool) → ltb y x ≡ d → cond c Less (cond d Greater (compared a b)) ≡ Less
    go ih true t d u = refl
    go ih false t true u =
        let z = lower m (n * 256 + y) (n * 256 + x) b a (λ i. g (suc i)) (λ i. f (suc i)) (omega arith) (omega arith) (omega (arith, ltb-true y x u)) in
        absurd (omega (arith, z, l))
    go ih false t false u = let e : x ≡ y = omega (arith, ltb-false x y t, ltb-false y x u) in ih (rw (← e) at l)

-- bytes of the same number are the same
rank_same : (m n : ℕ) (a b : List ℕ) → Octets a → Octets b → m ≤ length a → m ≤ length b → rank_from n (take m a) ≡ rank_from n (take m b) → take m a ≡ take m b
unfolding rank_from
rank_same zero n a b f g h k e = refl
rank_same (suc m) n [] b f g h k e = absurd (omega arith)
rank_same (suc m) n (x ∷ a) [] f g h k e = absurd (omega arith)
rank_same (suc m) n (x ∷ a) (y ∷ b) f g h k e = go (rank_same m (n * 256 + x) a b (λ i. f (suc i)) (λ i. g (suc i)) (omega arith) (omega arith)) (ltb x y) refl (ltb y x) refl
  where
    apart : (p q : List ℕ) → Octets p → Octets q → m ≤ length p → m ≤ length q → (v w : ℕ) → v < w → rank_from (n * 256 + v) (take m p) ≡ rank_from (n * 256 + w) (take m q) → ⊥
    apart p q f g h k v w l e = let z = lower m (n * 256 + v) (n * 256 + w) p q f g h k (omega arith) in omega (arith, z, e)

    go : (rank_from (n * 256 + x) (take m a) ≡ rank_from (n * 256 + x) (take m b) → take m a ≡ take m b) → (c : Bool) → ltb x y ≡ c → (d : Bool) → ltb y x ≡ d → x ∷ take m a ≡ y ∷ take m b
    go ih true t d u = absurd (apart a b (λ i. f (suc i)) (λ i. g (suc i)) (omega arith) (omega arith) x y (ltb-true x y t) e)
    go ih false t true u = absurd (apart b a (λ i. g (suc i)) (λ i. f (suc i)) (omega arith) (omega arith) y x (ltb-true y x u) (sym e))
    go ih false t false u = let w : x ≡ y = omega (arith, ltb-false x y t, ltb-false y x u) in rw (w, ih (rw (← w) at e))

-- ---- the same bytes at the front: the rest decides

rest : (k : ℕ) (a b : List ℕ) → k ≤ length a → k ≤ length b → take k a ≡ take k b → compared (drop k a) (drop k b) ≡ compared a b
unfolding compared
rest zero a b h l e = refl
rest (suc k) [] b h l e = absurd (omega arith)
rest (suc k) (x ∷ a) [] h l e = absurd (omega arith)
rest (suc k) (x ∷ a) (y ∷ b) h l e =
    let p : x ≡ y = ap (λ (s : List ℕ). get_or s 0 0) e in
    let q : take k a ≡ take k b = ap (λ (s : List ℕ). drop 1 s) e in
    let n : ltb x y ≡ false = le-ltb x y (omega arith) in
    let m : ltb y x ≡ false = le-ltb y x (omega arith) in
    simp (n, m) (rest k a b (omega arith) (omega arith) q)

dropped : (k : ℕ) (s : List ℕ) → Octets s → Octets (drop k s)
dropped k s f i = rw get_or-drop (f (k + i))

-- ---- turns and returns

-- what `cmp` answers at numbers
ordered : (x y : ℕ) {r : Ordering} → (x < y → Less ≡ r) → (x ≡ y → Equal ≡ r) → (y < x → Greater ≡ r) → nat_cmp x y ≡ r
ordered x y {r} less equal greater = go (nat_cmp x y) (ranks x y)
  where
    go : (o : Ordering) → MatchOrdering o (x < y) (x ≡ y) (y < x) → o ≡ r
    go Less h = less h
    go Equal h = equal h
    go Greater h = greater h

-- those before a place that was passed are the same too
shorter : {a b : List ℕ} {k : ℕ} (at : ℕ) → at ≤ k → Alike a b k → Alike a b at
shorter {a} {b} {k} at h c =
    record { first = omega (arith, c.first); second = omega (arith, c.second); same = sym (take-take at k a h) ∙ ap (take at) c.same ∙ take-take at k b h }

decides : {a b : List ℕ} {k : ℕ} → Alike a b k → compared (drop k a) (drop k b) ≡ compared a b
decides {a} {b} {k} c = rest k a b c.first c.second c.same

-- one begins the other
module _ {a b : List ℕ} {least : ℕ} (l : Least a b least) (c : Alike a b least) where
  length_before : length a < length b → Less ≡ compared a b
  unfolding compared
  length_before h = let e : length a ≤ least = omega (arith, l.is) in rw (drop_of_length-le a e, drop-cons b least 0 (omega (arith, l.is))) at (decides c)

  length_after : length b < length a → Greater ≡ compared a b
  unfolding compared
  length_after h = let e : length b ≤ least = omega (arith, l.is) in rw (drop-cons a least 0 (omega (arith, l.is)), drop_of_length-le b e) at (decides c)

  length_equal : length a ≡ length b → Equal ≡ compared a b
  unfolding compared
  length_equal h =
      let e : length a ≤ least = omega (arith, l.is) in
      let f : length b ≤ least = omega (arith, l.is) in
      rw (drop_of_length-le a e, drop_of_length-le b f) at (decides c)

  pub by_length : nat_cmp (length a) (length b) ≡ compared a b
  by_length = ordered (length a) (length b) length_before length_equal length_after

-- k bytes were passed, one by one
pub record Bytewise (a b : List ℕ) (least k : ℕ) : Type 0 where
  pub least_is : Least a b least
  pub alike : Alike a b k
  pub within : k ≤ least

module _ {a b : List ℕ} {least k : ℕ} (c : Bytewise a b least k) where
  pub bytes_all : least ≤ k → Alike a b least
  bytes_all h = let e : k ≡ least = omega (arith, c.within) in rw e at c.alike

  module _ (h : k < least) where
    pub byte_first : k < length a
    byte_first = omega (arith, c.least_is.is)

    pub byte_second : k < length b
    byte_second = omega (arith, c.least_is.is)

    here : compared (get_or a k 0 ∷ drop (suc k) a) (get_or b k 0 ∷ drop (suc k) b) ≡ compared a b
    here = rw (← drop-cons a k 0 byte_first, ← drop-cons b k 0 byte_second) (decides c.alike)

    byte_before : get_or a k 0 < get_or b k 0 → Less ≡ compared a b
    unfolding compared
    byte_before t = simp (lt-ltb _ _ t) at here

    byte_after : get_or b k 0 < get_or a k 0 → Greater ≡ compared a b
    unfolding compared
    byte_after t = let m : get_or b k 0 ≤ get_or a k 0 = omega arith in simp (le-ltb _ _ m, lt-ltb _ _ t) at here

    pub byte_differs : (get_or a k 0 ≡ get_or b k 0 → ⊥) → nat_cmp (get_or a k 0) (get_or b k 0) ≡ compared a b
    byte_differs n = ordered (get_or a k 0) (get_or b k 0) byte_before (λ e. absurd (n e)) byte_after

    pub byte_again : get_or a k 0 ≡ get_or b k 0 → Bytewise a b least (k + 1)
    byte_again e =
        let same : take (suc k) a ≡ take (suc k) b = rw (take-suc a k 0 byte_first, take-suc b k 0 byte_second, c.alike.same, e) in
        record {
          least_is = c.least_is;
          alike = record { first = omega (arith, byte_first); second = omega (arith, byte_second); same = rw add-one same };
          within = omega arith;
        }

-- k bytes were passed, eight by eight, and the last eight begin at `last`
pub record ByEights (a b : List ℕ) (least last k : ℕ) : Type 0 where
  pub least_is : Least a b least
  pub alike : Alike a b k
  pub ends : last + 8 ≡ least

module _ {a b : List ℕ} {least last k : ℕ} (c : ByEights a b least last k) where
  -- the eight bytes at a place that was reached
  pub eight_first : (at : ℕ) → at ≤ last → at + 8 ≤ length a
  eight_first at m = omega (arith, c.least_is.is, c.ends)

  pub eight_second : (at : ℕ) → at ≤ last → at + 8 ≤ length b
  eight_second at m = omega (arith, c.least_is.is, c.ends)

  module _ {x y at : ℕ} (p : Ranked a at x) (q : Ranked b at y) (h : at ≤ k) (m : at ≤ last) where
    left_first : 8 ≤ length (drop at a)
    left_first = rw length-drop (omega (arith, eight_first at m))

    left_second : 8 ≤ length (drop at b)
    left_second = rw length-drop (omega (arith, eight_second at m))

    eight_before : x < y → Less ≡ compared a b
    eight_before t = sym (rank_before 8 0 (drop at a) (drop at b) (dropped at a p.bytes) (dropped at b q.bytes) left_first left_second (rw (← p.is, ← q.is) t)) ∙ decides (shorter at h c.alike)

    eight_after : y < x → Greater ≡ compared a b
    eight_after t =
        sym (compared_turned (drop at b) (drop at a) ∙ ap turned (rank_before 8 0 (drop at b) (drop at a) (dropped at b q.bytes) (dropped at a p.bytes) left_second left_first (rw (← p.is, ← q.is) t)))
        ∙ decides (shorter at h c.alike)

    eight_differs : (x ≡ y → ⊥) → nat_cmp x y ≡ compared a b
    eight_differs n = ordered x y eight_before (λ e. absurd (n e)) eight_after

    eight_same : x ≡ y → Alike a b (at + 8)
    eight_same e =
        let r : take 8 (drop at a) ≡ take 8 (drop at b) = rank_same 8 0 (drop at a) (drop at b) (dropped at a p.bytes) (dropped at b q.bytes) left_first left_second (sym p.is ∙ e ∙ q.is) in
        record {
          first = eight_first at m;
          second = eight_second at m;
          same = take-add at 8 a ∙ rw ((shorter at h c.alike).same, r) (sym (take-add at 8 b));
        }

  -- those of the turn
  module _ {x y : ℕ} (h : k < last) (p : Ranked a k x) (q : Ranked b k y) where
    pub turn_differs : (x ≡ y → ⊥) → nat_cmp x y ≡ compared a b
    turn_differs n = eight_differs p q (omega arith) (omega arith) n

    pub turn_again : x ≡ y → ByEights a b least last (k + 8)
    turn_again e = record { least_is = c.least_is; alike = eight_same p q (omega arith) (omega arith) e; ends = c.ends }

  -- the last
  module _ {x y : ℕ} (h : last ≤ k) (p : Ranked a last x) (q : Ranked b last y) where
    pub last_differs : (x ≡ y → ⊥) → nat_cmp x y ≡ compared a b
    last_differs n = eight_differs p q h (omega arith) n

    pub last_same : x ≡ y → Alike a b least
    last_same e = rw c.ends at (eight_same p q h (omega arith) e)
