-- Objects that mean the same have one canonical tree, and so one written form; and with distinct keys only they. A plain dict's pairs come in
-- order by taking, again and again, the pair with the least key above the last one taken. Assumes nothing.
use mathlib.Core.Path.{◌≡◌, refl, sym, ap, ◌∙◌}
use mathlib.Core.Bool.{Bool, true, false, true≢false}
use mathlib.Core.List.{List}
use Prim.Native.Nat.{ℕ}
use Rattle.std.proofs.Common.{Ordering, Less, Equal, Greater}
use Rattle.order.specs.ByteOrder.{compared}
use Rattle.order.proofs.Ordering.{compared_self, compared_equal, after_less, less_less}
use Rattle.glyph.specs.declared.Edition.{Edition}
use Rattle.glyph.specs.Tree.{Tree, many, ordered, plain, Trees, Pairs, no_pairs, pair}
use Rattle.glyph_form.specs.Form.{put, insert, sort, canon, canon_all, canon_pairs, bytes_of, written}
use Rattle.glyph_order.specs.Same.{is_before, before, above, Shuffled, as_is, keep, swap, both, Same, same_leaf, same_many, same_ordered, same_plain, Sames, same_none, same_also, SamePairs, same_no_pairs, same_pair, Apart, apart_none, apart_and, Distinct, distinct_leaf, distinct_many, distinct_ordered, distinct_plain, Distincts, distinct_none, distinct_also, DistinctPairs, distinct_no_pairs, distinct_pair}

clash : {A : Type 0} {b : Bool} → b ≡ true → b ≡ false → A
clash e f = absurd (true≢false (sym e ∙ f))

is_before_lem : (r : Ordering) → is_before r ≡ true → r ≡ Less
is_before_lem Less e = refl
is_before_lem Equal e = clash e refl
is_before_lem Greater e = clash e refl

before_less : (k l : List ℕ) → before k l ≡ true → compared k l ≡ Less
unfolding before
before_less k l e = is_before_lem (compared k l) e

less_before : (k l : List ℕ) → compared k l ≡ Less → before k l ≡ true
unfolding before
less_before k l e = rw e

pub before_trans : (k l m : List ℕ) → before k l ≡ true → before l m ≡ true → before k m ≡ true
before_trans k l m e f = less_before k m (less_less k l m (before_less k l e) (before_less l m f))

not_true : (b : Bool) → (b ≡ true → ⊥) → b ≡ false
not_true true f = absurd (f refl)
not_true false f = refl

before_self : (k : List ℕ) → before k k ≡ false
unfolding before
before_self k = rw (compared_self k)

pub before_not : (k l : List ℕ) → before k l ≡ true → before l k ≡ false
before_not k l e = not_true _ (λ f. clash (before_trans k l k e f) (before_self k))

pub before_one : (k l : List ℕ) → before k l ≡ false → before l k ≡ false → k ≡ l
before_one k l e f = go (compared k l) refl
  where
    go : (r : Ordering) → compared k l ≡ r → k ≡ l
    go Less i = clash (less_before k l i) e
    go Equal i = compared_equal k l i
    go Greater i = clash (less_before l k (after_less k l i)) f

-- of two different keys one is before the other
pub before_or : (k l : List ℕ) → (k ≡ l → ⊥) → before k l ≡ false → before l k ≡ true
before_or k l n e = go (before l k) refl
  where
    go : (b : Bool) → before l k ≡ b → b ≡ true
    go true i = refl
    go false i = absurd (n (before_one k l e i))

-- INSERTIONS of different keys can be made in either order
insert_first : (k : List ℕ) (t : Tree) (l : List ℕ) (u : Tree) (ps : Pairs) → before k l ≡ true → insert k t (pair l u ps) ≡ pair k t (pair l u ps)
unfolding insert
insert_first k t l u ps e = rw (before_less k l e)

insert_on : (k : List ℕ) (t : Tree) (l : List ℕ) (u : Tree) (ps : Pairs) → before k l ≡ false → insert k t (pair l u ps) ≡ pair l u (insert k t ps)
unfolding insert before
insert_on k t l u ps e = go (compared k l) e
  where
    go : (r : Ordering) → is_before r ≡ false → put r k t l u ps (insert k t ps) ≡ pair l u (insert k t ps)
    go Less i = clash refl i
    go Equal i = refl
    go Greater i = refl

module _ (k : List ℕ) (t : Tree) (l : List ℕ) (u : Tree) where
  -- k before l
  commute_less : (ps : Pairs) → before k l ≡ true → insert k t (insert l u ps) ≡ insert l u (insert k t ps)
  unfolding insert
  commute_less no_pairs e = insert_first k t l u no_pairs e ∙ sym (insert_on l u k t no_pairs (before_not k l e))
  commute_less (pair m v ps) e = go (before l m) (before k m) refl refl (commute_less ps e)
    where
      go : (b c : Bool) → before l m ≡ b → before k m ≡ c → insert k t (insert l u ps) ≡ insert l u (insert k t ps) → insert k t (insert l u (pair m v ps)) ≡ insert l u (insert k t (pair m v ps))
      go true true i j h = ap (insert k t) (insert_first l u m v ps i) ∙ insert_first k t l u (pair m v ps) e ∙ sym (ap (insert l u) (insert_first k t m v ps j) ∙ insert_on l u k t (pair m v ps) (before_not k l e) ∙ ap (pair k t) (insert_first l u m v ps i))
      go true false i j h = clash (before_trans k l m e i) j
      go false true i j h = ap (insert k t) (insert_on l u m v ps i) ∙ insert_first k t m v (insert l u ps) j ∙ sym (ap (insert l u) (insert_first k t m v ps j) ∙ insert_on l u k t (pair m v ps) (before_not k l e) ∙ ap (pair k t) (insert_on l u m v ps i))
      go false false i j h = ap (insert k t) (insert_on l u m v ps i) ∙ insert_on k t m v (insert l u ps) j ∙ ap (pair m v) h ∙ sym (ap (insert l u) (insert_on k t m v ps j) ∙ insert_on l u m v (insert k t ps) i)

pub insert_commute : (k : List ℕ) (t : Tree) (l : List ℕ) (u : Tree) (ps : Pairs) → (k ≡ l → ⊥) → insert k t (insert l u ps) ≡ insert l u (insert k t ps)
insert_commute k t l u ps n = go (before k l) refl
  where
    go : (b : Bool) → before k l ≡ b → insert k t (insert l u ps) ≡ insert l u (insert k t ps)
    go true e = commute_less k t l u ps e
    go false e = sym (commute_less l u k t ps (before_or k l n e))

pub sort_shuffled : {ps qs : Pairs} → Shuffled ps qs → sort ps ≡ sort qs
unfolding sort
sort_shuffled as_is = refl
sort_shuffled (keep {k} {t} h) = ap (insert k t) (sort_shuffled h)
sort_shuffled (swap {k} {l} {t} {u} {ps} n) = insert_commute k t l u (sort ps) n
sort_shuffled (both g h) = sort_shuffled g ∙ sort_shuffled h

canon_shuffled : {ps qs : Pairs} → Shuffled ps qs → Shuffled (canon_pairs ps) (canon_pairs qs)
unfolding canon
canon_shuffled as_is = as_is
canon_shuffled (keep h) = keep (canon_shuffled h)
canon_shuffled (swap n) = swap n
canon_shuffled (both g h) = both (canon_shuffled g) (canon_shuffled h)

-- WHAT MEANS THE SAME HAS ONE CANONICAL TREE
mutual
  unfolding canon

  pub canon_same : {t u : Tree} → Same t u → canon t ≡ canon u
  canon_same same_leaf = refl
  canon_same (same_many {kind} h) = ap (many kind) (canons_same h)
  canon_same (same_ordered h) = ap ordered (canon_pairs_same h)
  canon_same (same_plain h s) = ap plain (ap sort (canon_pairs_same h) ∙ sort_shuffled (canon_shuffled s))

  canons_same : {ts us : Trees} → Sames ts us → canon_all ts ≡ canon_all us
  canons_same same_none = refl
  canons_same (same_also h hs) = rw (canon_same h, canons_same hs)

  canon_pairs_same : {ps qs : Pairs} → SamePairs ps qs → canon_pairs ps ≡ canon_pairs qs
  canon_pairs_same same_no_pairs = refl
  canon_pairs_same (same_pair h hs) = rw (canon_same h, canon_pairs_same hs)

-- A TREE WITH DISTINCT KEYS MEANS WHAT ITS CANONICAL TREE MEANS
pub apart_shuffled : {k : List ℕ} {ps qs : Pairs} → Shuffled ps qs → Apart k ps → Apart k qs
apart_shuffled as_is a = a
apart_shuffled (keep h) (apart_and n a) = apart_and n (apart_shuffled h a)
apart_shuffled (swap m) (apart_and n (apart_and o a)) = apart_and o (apart_and n a)
apart_shuffled (both g h) a = apart_shuffled h (apart_shuffled g a)

insert_shuffled : (k : List ℕ) (t : Tree) {ps : Pairs} → Apart k ps → Shuffled (pair k t ps) (insert k t ps)
unfolding insert
insert_shuffled k t apart_none = as_is
insert_shuffled k t (apart_and {l} {u} {ps} n a) = go (before k l) refl (insert_shuffled k t a)
  where
    go : (b : Bool) → before k l ≡ b → Shuffled (pair k t ps) (insert k t ps) → Shuffled (pair k t (pair l u ps)) (insert k t (pair l u ps))
    go true i h = rw (insert_first k t l u ps i) as_is
    go false i h = rw (insert_on k t l u ps i) (both (swap n) (keep h))

-- distinct keys, whatever the values
pub data Keys : Pairs → Type 0 where
  keys_none : Keys no_pairs
  keys_and : {k : List ℕ} {t : Tree} {ps : Pairs} → Apart k ps → Keys ps → Keys (pair k t ps)

pub sorted : {ps : Pairs} → Keys ps → Shuffled ps (sort ps)
unfolding sort
sorted keys_none = as_is
sorted (keys_and {k} {t} a h) = both (keep (sorted h)) (insert_shuffled k t (apart_shuffled (sorted h) a))

pub apart_canon : {k : List ℕ} {ps : Pairs} → Apart k ps → Apart k (canon_pairs ps)
unfolding canon
apart_canon apart_none = apart_none
apart_canon (apart_and n a) = apart_and n (apart_canon a)

pub keys_canon : {ps : Pairs} → DistinctPairs ps → Keys (canon_pairs ps)
unfolding canon
keys_canon distinct_no_pairs = keys_none
keys_canon (distinct_pair a d h) = keys_and (apart_canon a) (keys_canon h)

mutual
  unfolding canon

  pub same_canon : {t : Tree} → Distinct t → Same t (canon t)
  same_canon distinct_leaf = same_leaf
  same_canon (distinct_many h) = same_many (sames_canon h)
  same_canon (distinct_ordered h) = same_ordered (same_pairs_canon h)
  same_canon (distinct_plain h) = same_plain (same_pairs_canon h) (sorted (keys_canon h))

  sames_canon : {ts : Trees} → Distincts ts → Sames ts (canon_all ts)
  sames_canon distinct_none = same_none
  sames_canon (distinct_also h hs) = same_also (same_canon h) (sames_canon hs)

  same_pairs_canon : {ps : Pairs} → DistinctPairs ps → SamePairs ps (canon_pairs ps)
  same_pairs_canon distinct_no_pairs = same_no_pairs
  same_pairs_canon (distinct_pair a d h) = same_pair (same_canon d) (same_pairs_canon h)

-- equal values, taken across a change of order
record Across (ps qs : Pairs) : Type 0 where
  pub middle : Pairs
  pub same : SamePairs ps middle
  pub shuffled : Shuffled middle qs

across : {ps qs rs : Pairs} → Shuffled ps qs → SamePairs qs rs → Across ps rs
across as_is h = record { middle = _; same = h; shuffled = as_is }
across (keep s) (same_pair h hs) = let a = across s hs in record { middle = pair _ _ a.middle; same = same_pair h a.same; shuffled = keep a.shuffled }
across (swap n) (same_pair h (same_pair g hs)) = record { middle = _; same = same_pair g (same_pair h hs); shuffled = swap n }
across (both g s) h = let a = across s h in let b = across g a.same in record { middle = b.middle; same = b.same; shuffled = both b.shuffled a.shuffled }

unshuffled : {ps qs : Pairs} → Shuffled ps qs → Shuffled qs ps
unshuffled as_is = as_is
unshuffled (keep h) = keep (unshuffled h)
unshuffled (swap n) = swap (λ e. n (sym e))
unshuffled (both g h) = both (unshuffled h) (unshuffled g)

mutual
  pub same_back : {t u : Tree} → Same t u → Same u t
  same_back same_leaf = same_leaf
  same_back (same_many h) = same_many (sames_back h)
  same_back (same_ordered h) = same_ordered (same_pairs_back h)
  same_back (same_plain h s) = let a = across (unshuffled s) (same_pairs_back h) in same_plain a.same a.shuffled

  sames_back : {ts us : Trees} → Sames ts us → Sames us ts
  sames_back same_none = same_none
  sames_back (same_also h hs) = same_also (same_back h) (sames_back hs)

  same_pairs_back : {ps qs : Pairs} → SamePairs ps qs → SamePairs qs ps
  same_pairs_back same_no_pairs = same_no_pairs
  same_pairs_back (same_pair h hs) = same_pair (same_back h) (same_pairs_back hs)

mutual
  pub same_on : {t u v : Tree} → Same t u → Same u v → Same t v
  same_on same_leaf g = g
  same_on (same_many h) (same_many g) = same_many (sames_on h g)
  same_on (same_ordered h) (same_ordered g) = same_ordered (same_pairs_on h g)
  same_on (same_plain h s) (same_plain g r) = let a = across s g in same_plain (same_pairs_on h a.same) (both a.shuffled r)

  sames_on : {ts us vs : Trees} → Sames ts us → Sames us vs → Sames ts vs
  sames_on same_none g = g
  sames_on (same_also h hs) (same_also g gs) = same_also (same_on h g) (sames_on hs gs)

  same_pairs_on : {ps qs rs : Pairs} → SamePairs ps qs → SamePairs qs rs → SamePairs ps rs
  same_pairs_on same_no_pairs g = g
  same_pairs_on (same_pair h hs) (same_pair g gs) = same_pair (same_on h g) (same_pairs_on hs gs)

-- ONE CANONICAL TREE, ONE MEANING: with distinct keys two trees mean the same exactly if their canonical trees are equal
pub same_by_canon : {t u : Tree} → Distinct t → Distinct u → canon t ≡ canon u → Same t u
same_by_canon {t} {u} d c e = same_on (same_canon d) (rw e (same_back (same_canon c)))

-- SELECTION: a plain dict is put in order by taking, again and again, the pair with the least key above the last one taken.
above_nothing : (b : List ℕ) → above b no_pairs ≡ no_pairs
unfolding above
above_nothing b = refl

above_out : (b k : List ℕ) (t : Tree) (ps : Pairs) → before b k ≡ false → above b (pair k t ps) ≡ above b ps
unfolding above
above_out b k t ps e = rw e

above_in : (b k : List ℕ) (t : Tree) (ps : Pairs) → before b k ≡ true → above b (pair k t ps) ≡ pair k t (above b ps)
unfolding above
above_in b k t ps e = rw e

-- what is above the higher of two bounds
pub above_above : (b l : List ℕ) (ps : Pairs) → before b l ≡ true → above l (above b ps) ≡ above l ps
above_above b l no_pairs e = ap (above l) (above_nothing b)
above_above b l (pair k t ps) e = go (before b k) (before l k) refl refl (above_above b l ps e)
  where
    go : (c d : Bool) → before b k ≡ c → before l k ≡ d → above l (above b ps) ≡ above l ps → above l (above b (pair k t ps)) ≡ above l (pair k t ps)
    go true true i j h = ap (above l) (above_in b k t ps i) ∙ above_in l k t (above b ps) j ∙ ap (pair k t) h ∙ sym (above_in l k t ps j)
    go true false i j h = ap (above l) (above_in b k t ps i) ∙ above_out l k t (above b ps) j ∙ h ∙ sym (above_out l k t ps j)
    go false true i j h = clash (before_trans b l k e j) i
    go false false i j h = ap (above l) (above_out b k t ps i) ∙ h ∙ sym (above_out l k t ps j)

-- all keys are above a bound
pub data Above (b : List ℕ) : Pairs → Type 0 where
  above_no_pairs : Above b no_pairs
  above_pair : {k : List ℕ} {t : Tree} {ps : Pairs} → before b k ≡ true → Above b ps → Above b (pair k t ps)

all_above : {b : List ℕ} {ps : Pairs} → Above b ps → above b ps ≡ ps
all_above {b} above_no_pairs = above_nothing b
all_above {b} (above_pair {k} {t} {ps} e h) = above_in b k t ps e ∙ ap (pair k t) (all_above h)

lower : {b l : List ℕ} {ps : Pairs} → before b l ≡ true → Above l ps → Above b ps
lower e above_no_pairs = above_no_pairs
lower {b} {l} e (above_pair {k} f h) = above_pair (before_trans b l k e f) (lower e h)

-- where the least stands, all else is above it
pub data Least : Pairs → List ℕ → Tree → Type 0 where
  least_here : {k : List ℕ} {t : Tree} {ps : Pairs} → Above k ps → Least (pair k t ps) k t
  least_later : {k l : List ℕ} {t u : Tree} {ps : Pairs} → before k l ≡ true → Least ps k t → Least (pair l u ps) k t

above_shuffled : {b : List ℕ} {ps qs : Pairs} → Shuffled ps qs → Above b ps → Above b qs
above_shuffled as_is a = a
above_shuffled (keep h) (above_pair e a) = above_pair e (above_shuffled h a)
above_shuffled (swap n) (above_pair e (above_pair f a)) = above_pair f (above_pair e a)
above_shuffled (both g h) a = above_shuffled h (above_shuffled g a)

insert_least : {k : List ℕ} (t : Tree) {ps : Pairs} → Above k ps → insert k t ps ≡ pair k t ps
unfolding insert
insert_least t above_no_pairs = refl
insert_least {k} t (above_pair {k = l} {t = u} {ps} e a) = insert_first k t l u ps e

pub sort_least : {k : List ℕ} {t : Tree} {ps : Pairs} → Least ps k t → Keys ps → sort ps ≡ pair k t (sort (above k ps))
unfolding sort
sort_least (least_here {k} {t} {ps} h) (keys_and a ks) =
    insert_least t (above_shuffled (sorted ks) h) ∙ ap (λ (x : Pairs). pair k t (sort x)) (sym (above_out k k t ps (before_self k) ∙ all_above h))
sort_least (least_later {k} {l} {t} {u} {ps} e h) (keys_and a ks) =
    ap (insert l u) (sort_least h ks) ∙ insert_on l u k t (sort (above k ps)) (before_not k l e) ∙ ap (λ (x : Pairs). pair k t (sort x)) (sym (above_in k l u ps e))

apart_above : (b : List ℕ) {k : List ℕ} {ps : Pairs} → Apart k ps → Apart k (above b ps)
apart_above b {k} apart_none = rw (above_nothing b) apart_none
apart_above b {k} (apart_and {l} {u} {ps} n a) = go (before b l) refl (apart_above b a)
  where
    go : (c : Bool) → before b l ≡ c → Apart k (above b ps) → Apart k (above b (pair l u ps))
    go true i h = rw (above_in b l u ps i) (apart_and n h)
    go false i h = rw (above_out b l u ps i) h

keys_above : (b : List ℕ) {ps : Pairs} → Keys ps → Keys (above b ps)
keys_above b keys_none = rw (above_nothing b) keys_none
keys_above b (keys_and {k} {t} {ps} a ks) = go (before b k) refl (keys_above b ks)
  where
    go : (c : Bool) → before b k ≡ c → Keys (above b ps) → Keys (above b (pair k t ps))
    go true i h = rw (above_in b k t ps i) (keys_and (apart_above b a) h)
    go false i h = rw (above_out b k t ps i) h

-- THE LOOP'S LAW: of what is left, above b, the least is put next, and what is left then is above it
pub next_least : (b : List ℕ) {k : List ℕ} {t : Tree} {ps : Pairs} → Least (above b ps) k t → before b k ≡ true → Keys ps → sort (above b ps) ≡ pair k t (sort (above k ps))
next_least b {k} {t} {ps} h e ks = sort_least h (keys_above b ks) ∙ ap (λ (x : Pairs). pair k t (sort x)) (above_above b k ps e)

-- ONE FORM: what means the same is written alike, in either edition
pub one_form : (e : Edition) {t u : Tree} → Same t u → written e t ≡ written e u
unfolding written
one_form e h = ap (bytes_of e) (canon_same h)
