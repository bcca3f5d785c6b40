-- What answers the returns and turns of the functions that find a text's first string by its bucket's chain. Assumes nothing.
use Prim.Native.Nat.{ℕ, zero, suc, ◌+◌, ◌-◌, ◌≤◌, ◌<◌}
use mathlib.Core.Path.{◌≡◌, refl, sym, ap, ◌∙◌}
use mathlib.Core.Bool.{Bool, true, false}
use mathlib.Core.List.{List}
use native.Mathlib.Omega.{arith}
use native.Mathlib.Numerals.{add-one}
use lib.ListN.{length, get_or, set, replicate, length-set}
use lib.Seq.{get_or-set_same, get_or-set_other}
use borrow.Author.Count.{below_more}
use Rattle.text.specs.Texts.{same}
use Rattle.text.proofs.Comparing.{clash, same_is}
use Rattle.draft.specs.Strings.{Text}
use Rattle.spread.specs.Buckets.{bucket_of}
use Rattle.buckets.specs.Numbered.{First}
use Rattle.buckets.specs.Chains.{On, here, next, Link, Linked, Chains, Ahead, Found}
use Rattle.occurring.proofs.Among.{same_eq, at_or_not}
use Rattle.buckets.proofs.Numbered.{first_of, first_once}

on_some : {ns : List ℕ} {c k : ℕ} → On ns c k → 0 < c
on_some here = omega arith
on_some (next c k o) = omega arith

-- what is on a chain and is not its first string is on what follows that
on_next : {ns : List ℕ} {c k : ℕ} (m : ℕ) → On ns c k → c ≡ suc m → (k ≡ m → ⊥) → On ns (get_or ns m 0) k
on_next m here e n = absurd (n (omega arith))
on_next m (next c k o) e n = let q : c ≡ m = omega arith in rw q at o

link_more : {t : ℕ → Text} {n c : ℕ} → Link t n c → Link t (suc n) c
link_more l = record { within = omega (arith, l.within); first = l.first }

module _ (t : ℕ → Text) (j : ℕ) (ns : List ℕ) (v : ℕ) (l : Linked t j ns) where
  -- a chain of strings before string j does not change with string j's link
  on_set : {c k : ℕ} → Link t j c → On ns c k → On (set ns j v) c k
  on_set i here = here
  on_set i (next c k o) =
      let h : c < j = omega (arith, i.within) in
      let q : get_or (set ns j v) c 0 ≡ get_or ns c 0 = get_or-set_other ns j c v 0 (λ e. omega arith) in
      let p = l.at c h (i.first c refl) in
      next c k (rw q (on_set (record { within = omega (arith, p.within); first = p.first }) o))

-- no string before string j has its text, if none that is the first of its text has
none_before : (t : ℕ → Text) (j m : ℕ) → m ≤ j → ((k : ℕ) → k < j → First t k k → t k ≡ t j → ⊥) → (i : ℕ) → i < m → t i ≡ t j → ⊥
none_before t j zero h n = λ i l. absurd (omega arith)
none_before t j (suc m) h n = rw add-one at (below_more _ _ (none_before t j m (omega arith) n) (λ e. n m (omega arith) (record { within = omega arith; equal = refl; none = λ i l q. none_before t j m (omega arith) n i l (q ∙ e) }) e))

-- the walk of a chain
module _ {t : ℕ → Text} {j : ℕ} {ns : List ℕ} {c : ℕ} (a : Ahead t j ns c) where
  pub walk_here : {b : Bool} → 0 < c → b ≡ same (t (c - 1)) (t j) → b ≡ true → First t j (c - 1)
  walk_here h e q = first_of t (a.link.first (c - 1) (omega arith)) (omega (arith, a.link.within)) (same_is (t (c - 1)) (t j) (sym e ∙ q))

  older : 0 < c → Link t (c - 1) (get_or ns (c - 1) 0)
  older h = a.links.at (c - 1) (omega (arith, a.link.within)) (a.link.first (c - 1) (omega arith))

  pub walk_less : {d : ℕ} → 0 < c → d ≡ get_or ns (c - 1) 0 → d < c
  walk_less h q = omega (arith, (older h).within)

  pub walk_again : {d : ℕ} {b : Bool} → 0 < c → b ≡ same (t (c - 1)) (t j) → b ≡ false → d ≡ get_or ns (c - 1) 0 → Ahead t j ns d
  walk_again h e q p =
      let o = older h in
      rw p
      (record {
        link = record { within = omega (arith, o.within, a.link.within); first = o.first };
        links = a.links;
        on = λ k l f r. on_next (c - 1) (a.on k l f r) (omega arith) (λ z. clash (same_eq (t (c - 1)) (t j) (ap t (sym z) ∙ r)) (sym e ∙ q));
      })

  pub walk_none : c ≤ 0 → First t j j
  walk_none z =
      record {
        within = omega arith;
        equal = refl;
        none = none_before t j j (omega arith) (λ k l f r. omega (arith, on_some (a.on k l f r)));
      }

-- the chains' turn
module _ {t : ℕ → Text} {j : ℕ} {hs ns : List ℕ} (a : Chains t j hs ns) where
  pub chain_ahead : {h c : ℕ} {u : Text} → h ≡ bucket_of (length hs) 0 u → u ≡ t j → c ≡ get_or hs h 0 → Ahead t j ns c
  chain_ahead q r p =
      rw (p, q, r)
      (record {
        link = a.heads (bucket_of (length hs) 0 (t j));
        links = a.links;
        on = λ k l f r. rw (ap (bucket_of (length hs) 0) r) at (a.on k l f);
      })

  -- a text that stood before
  pub found_old : {f : ℕ} → First t j f → (f ≡ j → ⊥) → Found t j hs ns f
  found_old {f} e o =
      record {
        first = e;
        chains =
            rw add-one
            (record {
              some = a.some;
              most = a.most;
              heads = λ b. link_more (a.heads b);
              links = record { at = λ k l i. a.links.at k (less k l i) i };
              on = λ k l i. a.on k (less k l i) i;
            });
      }
    where
      less : (k : ℕ) → k < suc j → First t k k → k < j
      less k = at_or_not (λ (k : ℕ). k < suc j → First t k k → k < j) k j (λ l i. absurd (o (first_once t e i))) (λ n l i. omega (arith, n))

  -- a new text, put in front on its bucket's chain
  module _ {f h : ℕ} {u : Text} (e : First t j f) (new : f ≡ j) (eu : h ≡ bucket_of (length hs) 0 u) (et : u ≡ t j) (lh : h < length hs) (ln : j < length ns) where
    eh : h ≡ bucket_of (length hs) 0 (t j)
    eh = eu ∙ ap (bucket_of (length hs) 0) et

    own : First t j j
    own = rw new at e

    abbrev hs' : List ℕ
    hs' = set hs h (suc j)

    abbrev ns' : List ℕ
    ns' = set ns j (get_or hs h 0)

    heads_more : (b : ℕ) → Link t (suc j) (get_or hs' b 0)
    heads_more b = at_or_not (λ (b : ℕ). Link t (suc j) (get_or hs' b 0)) b h (rw (get_or-set_same hs h (suc j) 0 lh) (record { within = omega arith; first = λ k q. let z : j ≡ k = omega arith in rw z at own })) (λ n. rw (get_or-set_other hs h b (suc j) 0 n) (link_more (a.heads b)))

    links_more : Linked t (suc j) ns'
    links_more =
        record {
          at = λ k. at_or_not (λ (k : ℕ). k < suc j → First t k k → Link t k (get_or ns' k 0)) k j (λ l i. rw (get_or-set_same ns j (get_or hs h 0) 0 ln) (a.heads h)) (λ n l i. rw (get_or-set_other ns j k (get_or hs h 0) 0 n) (a.links.at k (omega (arith, n)) i));
        }

    -- from its bucket's old head, by way of string j or not
    on_old : (b k : ℕ) → On ns' (get_or hs b 0) k → On ns' (get_or hs' b 0) k
    on_old b k = at_or_not (λ (b : ℕ). On ns' (get_or hs b 0) k → On ns' (get_or hs' b 0) k) b h (λ o. rw (get_or-set_same hs h (suc j) 0 lh) (next j k (rw (get_or-set_same ns j (get_or hs h 0) 0 ln) o))) (λ n o. rw (get_or-set_other hs h b (suc j) 0 n) o)

    on_more : (k : ℕ) → k < suc j → First t k k → On ns' (get_or hs' (bucket_of (length hs') 0 (t k)) 0) k
    on_more k = rw length-set (at_or_not (λ (k : ℕ). k < suc j → First t k k → On ns' (get_or hs' (bucket_of (length hs) 0 (t k)) 0) k) k j (λ l i. rw (← eh, get_or-set_same hs h (suc j) 0 lh) here) (λ n l i. on_old (bucket_of (length hs) 0 (t k)) k (on_set t j ns (get_or hs h 0) a.links (a.heads (bucket_of (length hs) 0 (t k))) (a.on k (omega (arith, n)) i))))

    pub found_new : Found t j (set hs h (j + 1)) (set ns j (get_or hs h 0)) j
    found_new =
        record {
          first = own;
          chains =
              rw add-one
              (record {
                some = simp length-set a.some;
                most = simp length-set a.most;
                heads = heads_more;
                links = links_more;
                on = on_more;
              });
        }

-- no string yet
get_d_zeros : (n i : ℕ) → ◌≡◌ {A = ℕ} (get_or (replicate n 0) i 0) 0
get_d_zeros zero i = refl
get_d_zeros (suc n) zero = refl
get_d_zeros (suc n) (suc i) = get_d_zeros n i

pub chains_none : (t : ℕ → Text) {hs ns : List ℕ} → hs ≡ replicate (length hs) 0 → 0 < length hs → length hs ≤ 4096 → Chains t 0 hs ns
chains_none t {hs} z h m =
    record {
      some = h;
      most = m;
      heads = λ b. rw (z, get_d_zeros (length hs) b) (record { within = omega arith; first = λ k q. absurd (omega arith) });
      links = record { at = λ k l. absurd (omega arith) };
      on = λ k l. absurd (omega arith);
    }

pub ruleset chaining = (walk_here, walk_less, walk_again, walk_none, chain_ahead, found_old, found_new, chains_none)
