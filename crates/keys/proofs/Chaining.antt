-- What answers the returns and turns of the functions that note keys. Assumes nothing.
use Prim.Native.Nat.{ℕ, zero, suc, ◌+◌, ◌-◌, ◌*◌, ◌/◌, ◌≤◌, ◌<◌}
use mathlib.Core.Path.{◌≡◌, refl, sym, ap, ◌∙◌}
use mathlib.Core.Bool.{Bool, true, false, ◌&&◌, ◌||◌}
use mathlib.Core.List.{List, ◌∷◌}
use native.Mathlib.Omega.{arith}
use native.Mathlib.Numerals.{add-one}
use lib.ListN.{length, set, length-set}
use lib.Seq.{get_or-set_same, get_or-set_other}
use lib.Dec.{eqb, ltb}
use borrow.Author.Tests.{eqb-true, eqb-false, eq-eqb, ne_eqb, ltb-false}
use Rattle.text.specs.Texts.{same, among}
use Rattle.text.proofs.Comparing.{clash, both, same_is, same_self, same_ne}
use Rattle.draft.specs.declared.Row.{Row}
use Rattle.draft.specs.Bytes.{part}
use Rattle.draft.specs.Strings.{Text}
use Rattle.draft.specs.Table.{row_at}
use Rattle.spread.specs.Buckets.{whole_bucket_of}
use Rattle.keys.specs.Notes.{head_of, link_of, owner_of, named, keep_if, keys_of, joined, On, here, next, Noted, Rows, Entry, Placed, Noting, Ahead}

pub text_is : (s : List ℕ) (room : ℕ) (T : List ℕ) (r : ℕ) {x : Row} {a n : ℕ} {t : Text} → x ≡ row_at room T r → a ≡ x.a → n ≡ x.b → t ≡ part s a n → t ≡ named s room T r
unfolding named
text_is s room T r e p q h = h ∙ rw (p, q, e)

-- to be at a number, or not
at_or_not : (P : ℕ → Type 0) (k r : ℕ) → P r → ((k ≡ r → ⊥) → P k) → P k
at_or_not P k r h o = go (eqb k r) refl
  where
    go : (b : Bool) → eqb k r ≡ b → P k
    go true e = rw (eqb-true k r e) h
    go false e = o (eqb-false k r e)

-- whether a row is an owner's and has a text
module _ (W : List ℕ) (owner k : ℕ) (u v : Text) where
  pub key_other : {x : ℕ} → x ≡ owner_of W k → (x ≡ owner → ⊥) → false ≡ (eqb (owner_of W k) owner && same u v)
  key_other e n = rw (ne_eqb (owner_of W k) owner (λ q. n (e ∙ q)))

  pub key_own : {x : ℕ} {b : Bool} {w : Text} → x ≡ owner_of W k → x ≡ owner → b ≡ same u w → w ≡ v → b ≡ (eqb (owner_of W k) owner && same u v)
  key_own e q h p = h ∙ rw (eq-eqb (owner_of W k) owner (sym e ∙ q), p)

-- a text is among an owner's keys if one of them has it, and only then
module _ (t : ℕ → Text) (W : List ℕ) (owner : ℕ) (u : Text) where
  kept_in : (b : Bool) (v : Text) (us : List Text) → among us u ≡ true → among (keep_if b v us) u ≡ true
  unfolding among
  kept_in true v us h = rw h (or_true (same u v))
    where
      or_true : (b : Bool) → (b || true) ≡ true
      or_true true = refl
      or_true false = refl
  kept_in false v us h = h

  among_there : (n k : ℕ) → k < n → owner_of W k ≡ owner → t k ≡ u → among (keys_of t W owner n) u ≡ true
  unfolding keys_of among
  among_there zero k l e q = absurd (omega arith)
  among_there (suc n) k l e q =
      at_or_not (λ (k : ℕ). k < suc n → owner_of W k ≡ owner → t k ≡ u → among (keep_if (eqb (owner_of W n) owner) (t n) (keys_of t W owner n)) u ≡ true) k n
      (λ l e q. rw (eq-eqb (owner_of W n) owner e, q, same_self u))
      (λ d l e q. kept_in (eqb (owner_of W n) owner) (t n) (keys_of t W owner n) (among_there n k (less d l) e q)) l e q
    where
      less : (k ≡ n → ⊥) → k < suc n → k < n
      less d l = omega (arith, d)

  among_none : (n : ℕ) → ((k : ℕ) → k < n → owner_of W k ≡ owner → t k ≡ u → ⊥) → among (keys_of t W owner n) u ≡ false
  unfolding keys_of among
  among_none zero h = refl
  among_none (suc n) h = go (eqb (owner_of W n) owner) refl (among_none n (λ k l. h k (omega arith)))
    where
      go : (b : Bool) → eqb (owner_of W n) owner ≡ b → among (keys_of t W owner n) u ≡ false → among (keep_if b (t n) (keys_of t W owner n)) u ≡ false
      go true e i = rw (same_ne u (t n) (λ q. h n (omega arith) (eqb-true (owner_of W n) owner e) (sym q))) i
      go false e i = i

-- chains
on_below : {W : List ℕ} → ((k : ℕ) → link_of W k ≤ k) → {c k : ℕ} → On W c k → k < c
on_below h here = omega arith
on_below h (next c k o) = omega (arith, on_below h o, h c)

-- what is on a chain and is not its first row is on what follows that
on_next : {W : List ℕ} {c k : ℕ} (m : ℕ) → On W c k → c ≡ suc m → (k ≡ m → ⊥) → On W (link_of W m) k
on_next m here e n = absurd (n (omega arith))
on_next m (next c k o) e n = let q : c ≡ m = omega arith in rw q at o

on_move : {W W' : List ℕ} (n : ℕ) → ((k : ℕ) → link_of W k ≤ k) → ((k : ℕ) → k < n → link_of W' k ≡ link_of W k) → {c k : ℕ} → c ≤ n → On W c k → On W' c k
on_move n h p l here = here
on_move n h p l (next c k o) = next c k (rw (p c (omega arith)) (on_move n h p (omega (arith, h c)) o))

-- the walk of a chain
module _ {t : ℕ → Text} {W : List ℕ} {owner row c : ℕ} {u : Text} (a : Ahead t W owner row c u) where
  pub walk_below : owner < c → c - 1 < row
  walk_below h = omega (arith, a.within)

  pub walk_less : {d : ℕ} → owner < c → d ≡ link_of W (c - 1) → d < c
  walk_less h e = omega (arith, a.links (c - 1))

  module _ (h : owner < c) {b : Bool} (q : b ≡ (eqb (owner_of W (c - 1)) owner && same u (t (c - 1)))) where
    pub walk_here : b ≡ true → true ≡ among (keys_of t W owner row) u
    walk_here e =
        let z = both (eqb (owner_of W (c - 1)) owner) (same u (t (c - 1))) (sym q ∙ e) in
        sym (among_there t W owner u row (c - 1) (omega (arith, a.within)) (eqb-true (owner_of W (c - 1)) owner z.0) (sym (same_is u (t (c - 1)) z.1)))

    not_here : b ≡ false → (k : ℕ) → owner_of W k ≡ owner → t k ≡ u → k ≡ c - 1 → ⊥
    not_here e k o p i = clash (rw (ap (owner_of W) (sym i) ∙ o, ap t (sym i) ∙ p, eq-eqb owner owner refl) (same_self u)) (sym q ∙ e)

    pub walk_again : {d : ℕ} → b ≡ false → d ≡ link_of W (c - 1) → Ahead t W owner row d u
    walk_again e p =
        rw p
        (record {
          within = omega (arith, a.within, a.links (c - 1));
          links = a.links;
          owners = a.owners;
          on = λ k l o r. on_next (c - 1) (a.on k l o r) (omega arith) (not_here e k o r);
        })

  pub walk_none : c ≤ owner → false ≡ among (keys_of t W owner row) u
  walk_none h = sym (among_none t W owner u row (λ k l o r. omega (arith, on_below a.links (a.on k l o r), a.owners k)))

pub rows_below : {r row room words : ℕ} → Rows row room words → r < row → Rows r room words
rows_below a h = record { inside = omega (arith, a.inside); most = a.most; table = a.table }

-- the keys of an owner are those of other words where the owners and the texts are the same
pub keys_move : (t t' : ℕ → Text) (W W' : List ℕ) (o n : ℕ) → ((k : ℕ) → k < n → owner_of W' k ≡ owner_of W k) → ((k : ℕ) → k < n → owner_of W k ≡ o → t' k ≡ t k) → keys_of t' W' o n ≡ keys_of t W o n
unfolding keys_of
keys_move t t' W W' o zero p q = refl
keys_move t t' W W' o (suc n) p q = rw (p n (omega arith)) (go (eqb (owner_of W n) o) refl (keys_move t t' W W' o n (λ k l. p k (omega arith)) (λ k l. q k (omega arith))))
  where
    go : (b : Bool) → eqb (owner_of W n) o ≡ b → keys_of t' W' o n ≡ keys_of t W o n → keep_if b (t' n) (keys_of t' W' o n) ≡ keep_if b (t n) (keys_of t W o n)
    go true e i = rw (q n (omega arith) (eqb-true (owner_of W n) o e), i)
    go false e i = i

-- a row's key in its bucket
pub placed_is : (t : ℕ → Text) {words owner row h m : ℕ} {u : Text} → u ≡ t row → h ≡ whole_bucket_of (m / 3) owner u → h < m / 3 → m ≡ words → Placed t words owner row h
placed_is t eu eh lh em = record { bucket = eh ∙ rw (em, eu); inside = rw em at lh }

pub joined_is : (W : List ℕ) (owner row h : ℕ) {x : ℕ} → x ≡ head_of W h → set (set (set W (row * 3 + 1) x) (row * 3 + 2) owner) (h * 3) (row + 1) ≡ joined W owner row h
unfolding joined
joined_is W owner row h e = rw e

pub crowded_is : (W : List ℕ) (owner h : ℕ) {x : ℕ} → x ≡ head_of W h → ltb owner x ≡ ltb owner (head_of W h)
crowded_is W owner h e = rw e

module _ {t : ℕ → Text} {W : List ℕ} {owner row : ℕ} (a : Noted t W row) (en : Entry owner row (length W)) {h : ℕ} (pl : Placed t (length W) owner row h) where
  -- a chain before its walk
  ahead : Ahead t W owner row (head_of W h) (t row)
  ahead =
      rw pl.bucket
      (record {
        within = a.heads (whole_bucket_of (length W / 3) owner (t row));
        links = a.links;
        owners = a.owners;
        on = λ k l o r. rw (o, r) at (a.on k (omega (arith, o, en.some)));
      })

  pub note_ahead : {c : ℕ} {u : Text} → c ≡ head_of W h → u ≡ t row → Ahead t W owner row c u
  note_ahead e eu = rw (e, eu) ahead

  pub note_again : {b : Bool} {u : Text} → u ≡ t row → b ≡ among (keys_of t W owner row) u → b ≡ true → Noting t W W owner row true
  note_again eu q e = record { says = sym (rw eu at (sym q ∙ e)); added = λ f. clash refl f; kept = λ _. refl }

  -- a new key, put in front on its bucket's chain
  module _ (new : false ≡ among (keys_of t W owner row) (t row)) where
    lh : h < length W / 3
    lh = pl.inside

    abbrev W₁ : List ℕ
    W₁ = set W (row * 3 + 1) (head_of W h)

    abbrev W₂ : List ℕ
    W₂ = set W₁ (row * 3 + 2) owner

    abbrev W' : List ℕ
    W' = set W₂ (h * 3) (suc row)

    -- its three words, and all others
    head : head_of W' h ≡ suc row
    head = get_or-set_same W₂ (h * 3) (suc row) 0 (simp length-set (omega arith))

    head_other : (b : ℕ) → (b ≡ h → ⊥) → head_of W' b ≡ head_of W b
    head_other b d =
        get_or-set_other W₂ (h * 3) (b * 3) (suc row) 0 (λ e. d (omega arith))
        ∙ get_or-set_other W₁ (row * 3 + 2) (b * 3) owner 0 (λ e. omega arith)
        ∙ get_or-set_other W (row * 3 + 1) (b * 3) (head_of W h) 0 (λ e. omega arith)

    link : link_of W' row ≡ head_of W h
    link =
        get_or-set_other W₂ (h * 3) (row * 3 + 1) (suc row) 0 (λ e. omega arith)
        ∙ get_or-set_other W₁ (row * 3 + 2) (row * 3 + 1) owner 0 (λ e. omega arith)
        ∙ get_or-set_same W (row * 3 + 1) (head_of W h) 0 (omega (arith, en.inside))

    link_other : (k : ℕ) → (k ≡ row → ⊥) → link_of W' k ≡ link_of W k
    link_other k d =
        get_or-set_other W₂ (h * 3) (k * 3 + 1) (suc row) 0 (λ e. omega arith)
        ∙ get_or-set_other W₁ (row * 3 + 2) (k * 3 + 1) owner 0 (λ e. omega arith)
        ∙ get_or-set_other W (row * 3 + 1) (k * 3 + 1) (head_of W h) 0 (λ e. d (omega arith))

    own : owner_of W' row ≡ owner
    own =
        get_or-set_other W₂ (h * 3) (row * 3 + 2) (suc row) 0 (λ e. omega arith)
        ∙ get_or-set_same W₁ (row * 3 + 2) owner 0 (simp length-set (omega (arith, en.inside)))

    owner_other : (k : ℕ) → (k ≡ row → ⊥) → owner_of W' k ≡ owner_of W k
    owner_other k d =
        get_or-set_other W₂ (h * 3) (k * 3 + 2) (suc row) 0 (λ e. omega arith)
        ∙ get_or-set_other W₁ (row * 3 + 2) (k * 3 + 2) owner 0 (λ e. d (omega arith))
        ∙ get_or-set_other W (row * 3 + 1) (k * 3 + 2) (head_of W h) 0 (λ e. omega arith)

    owner_below : (k : ℕ) → k < row → owner_of W' k ≡ owner_of W k
    owner_below k l = owner_other k (λ e. omega arith)

    heads_more : (b : ℕ) → head_of W' b ≤ suc row
    heads_more b = at_or_not (λ (b : ℕ). head_of W' b ≤ suc row) b h (omega (arith, head)) (λ d. omega (arith, head_other b d, a.heads b))

    links_more : (k : ℕ) → link_of W' k ≤ k
    links_more k = at_or_not (λ (k : ℕ). link_of W' k ≤ k) k row (omega (arith, link, a.heads h)) (λ d. omega (arith, link_other k d, a.links k))

    owners_more : (k : ℕ) → owner_of W' k ≤ k
    owners_more k = at_or_not (λ (k : ℕ). owner_of W' k ≤ k) k row (omega (arith, own, en.before)) (λ d. omega (arith, owner_other k d, a.owners k))

    blank_more : (k : ℕ) → suc row ≤ k → owner_of W' k ≡ 0
    blank_more k l = owner_other k (λ e. omega arith) ∙ a.blank k (omega arith)

    -- from its bucket's old head, by way of the new row or not
    on_old : (b k : ℕ) → On W (head_of W b) k → On W' (head_of W' b) k
    on_old b k o =
        at_or_not (λ (b : ℕ). On W' (head_of W b) k → On W' (head_of W' b) k) b h (λ o. rw head (next row k (rw link o))) (λ d o. rw (head_other b d) o)
        (on_move row a.links (λ j l. link_other j (λ e. omega arith)) (a.heads b) o)

    on_more : (k : ℕ) → 0 < owner_of W' k → On W' (head_of W' (whole_bucket_of (length W / 3) (owner_of W' k) (t k))) k
    on_more k =
        at_or_not (λ (k : ℕ). 0 < owner_of W' k → On W' (head_of W' (whole_bucket_of (length W / 3) (owner_of W' k) (t k))) k) k row
        (λ l. rw (own, ← pl.bucket, head) here)
        (λ d. rw (owner_other k d) (λ l. on_old (whole_bucket_of (length W / 3) (owner_of W k) (t k)) k (a.on k l)))

    same_words : length W' ≡ length W
    same_words = simp length-set

    noted_more : Noted t W' (suc row)
    noted_more = record { heads = heads_more; links = links_more; owners = owners_more; blank = blank_more; on = rw same_words on_more }

    keys_same : (o : ℕ) → keys_of t W' o row ≡ keys_of t W o row
    keys_same o = keys_move t t W W' o row owner_below (λ k l e. refl)

    mine : keys_of t W' owner (suc row) ≡ t row ∷ keys_of t W owner row
    unfolding keys_of
    mine = rw (own, eq-eqb owner owner refl, keys_same owner)

    others : (o : ℕ) → (o ≡ owner → ⊥) → keys_of t W' o (suc row) ≡ keys_of t W o row
    unfolding keys_of
    others o d = rw (own, ne_eqb owner o (λ e. d (sym e)), keys_same o)

    fresh : Noting t W (set (set (set W (row * 3 + 1) (head_of W h)) (row * 3 + 2) owner) (h * 3) (row + 1)) owner row false
    fresh =
        record {
          says = new;
          added = λ f. rw (add-one row) (record { noted = rw (add-one row) noted_more; owners = owner_below; mine = rw (add-one row) mine; others = λ o d. rw (add-one row) (others o d) });
          kept = λ f. clash f refl;
        }

    new_noting : {W'' : List ℕ} → W'' ≡ joined W owner row h → Noting t W W'' owner row false
    unfolding joined
    new_noting e = rw e fresh

  pub note_new : {b : Bool} {u : Text} {W' : List ℕ} → u ≡ t row → b ≡ among (keys_of t W owner row) u → b ≡ false → W' ≡ joined W owner row h → Noting t W W' owner row false
  note_new eu q e f = new_noting (rw eu at (sym e ∙ q)) f

  -- where its bucket has no keys of the owner
  pub note_alone : {b : Bool} {W' : List ℕ} → b ≡ ltb owner (head_of W h) → b ≡ false → W' ≡ joined W owner row h → Noting t W W' owner row false
  note_alone q e f = new_noting (walk_none ahead (ltb-false owner (head_of W h) (sym q ∙ e))) f

pub ruleset noting = (text_is, key_other, key_own, walk_below, walk_less, walk_here, walk_again, walk_none, rows_below, placed_is, joined_is, crowded_is, note_ahead, note_again, note_new)
