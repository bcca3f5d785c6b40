-- Rows that have the meanings of cells are walked to their end: one law for each combinator of walking. Assumes nothing.
use mathlib.Core.Path.{◌≡◌, refl, ap, ◌∙◌}
use mathlib.Core.Bool.{true}
use mathlib.Core.List.{List, [], ◌∷◌, ◌++◌}
use Prim.Native.Nat.{ℕ, zero, suc, ◌+◌, ◌≤◌, ◌<◌}
use native.Mathlib.Omega.{arith}
use native.Mathlib.Nat.{add-zero}
use lib.ListN.{length, length-append}
use borrow.Author.Tests.{eq-eqb, le-leb, lt-ltb}
use Rattle.std.proofs.Common.{Some}
use Rattle.draft.specs.declared.Row.{Row}
use Rattle.draft.specs.Verdict.{Verdict}
use Rattle.std.specs.Prelude.{Ok}
use Rattle.draft.specs.declared.Content.{Content as ContentOf}
use Rattle.draft.specs.declared.Content.TheVariants as content
use Rattle.draft.specs.Content.{verdict, key_rule}
use Rattle.draft.specs.Read.{Texts, text_of}
use Rattle.draft.specs.Writable.{Walk, pair as walk_pair, items, alike, nothing, closed, over, holding as walk-holding, integer_item, boolean_item, sized, content_item, counted, only, string as walk-string, string_by, member}
use Rattle.draft.specs.Grammar.{holding, number, Cell, cell, content_cell, Keeps}
use Rattle.draft.specs.Meaning.{says_holding, says_number, says_contents, Means, means}
use Rattle.exact.proofs.Standing.{long}
use Rattle.written.proofs.Standing.{Stands, stands_none, stands_more, stands_head, stands_tail, stands_front, stands_back}

-- the kind of the first cell, and so of the row where it stands
abbrev pub first_kind : List Cell → ℕ
first_kind [] = 0
first_kind (cell k m p ∷ cs) = k

pub first_kind_lem : {row : ℕ → Row} {s : List ℕ} {r : ℕ} {cs : List Cell} → Stands row s r cs → 0 < length cs → (row r).kind ≡ first_kind cs
first_kind_lem stands_none h = absurd (omega arith)
first_kind_lem (stands_more (means k e i) t) h = k

-- the rows by their numbers, how many there are, and the text bytes
module _ (row : ℕ → Row) (rows : ℕ) (s : List ℕ) where
  -- wherever the cells stand, inside the rows, f walks to their end
  pub record WalkedBy (f : Walk) (cs : List Cell) : Type 0 where
    pub walks : (r : ℕ) → Stands row s r cs → r + length cs ≤ rows → f r ≡ Some (r + length cs)

  -- the same, of a walk that sees the first row
  pub record WalkedAt (f : Row → Walk) (cs : List Cell) : Type 0 where
    pub walks : (r : ℕ) → Stands row s r cs → r + length cs ≤ rows → f (row r) r ≡ Some (r + length cs)

  -- the same of a run of n items, behind those whose texts were seen
  pub record RunBy (f : Texts → Walk) (more : Texts → ℕ → Texts) (n : ℕ) (seen : Texts) (cs : List Cell) : Type 0 where
    pub walks : (r : ℕ) → Stands row s r cs → r + length cs ≤ rows → items f more n seen r ≡ Some (r + length cs)

  pub closed_is : (x : Row) {r n : ℕ} → x.end ≡ n → r ≡ n → closed x (Some r) ≡ Some n
  closed_is x {r} {n} e i = rw (i, eq-eqb x.end n e)

  pub content_fits : (c : ContentOf) {t : List ℕ} → Keeps c t → sized c (length t) ≡ true → WalkedAt (content_item s c) (content_cell c t ∷ [])
  unfolding content_item verdict
  content_fits c {t} k z = record { walks = λ r h i. go r (stands_head h) }
    where
      go : (r : ℕ) → Means s r (row r) (content_cell c t) → content_item s c (row r) r ≡ Some (r + 1)
      go r (means h e (says_contents i j l)) =
          let b : (row r).b ≡ length t = long s (row r).a (row r).b j ∙ ap length l in
          rw (b, z) (rw (← b, le-leb _ _ j, l, k) (closed_is (row r) (e ∙ rw add-zero) refl))

  pub integer_fits : {n : ℕ} → WalkedAt integer_item (cell 4 0 (number n) ∷ [])
  integer_fits {n} = record { walks = λ r h i. go r (stands_head h) }
    where
      go : (r : ℕ) → Means s r (row r) (cell 4 0 (number n)) → integer_item (row r) r ≡ Some (r + 1)
      go r (means h e (says_number i a b)) = rw b (closed_is (row r) (e ∙ rw add-zero) refl)

  pub boolean_fits : {n : ℕ} → n ≤ 1 → WalkedAt boolean_item (cell 5 0 (number n) ∷ [])
  boolean_fits {n} l = record { walks = λ r h i. go r (stands_head h) }
    where
      go : (r : ℕ) → Means s r (row r) (cell 5 0 (number n)) → boolean_item (row r) r ≡ Some (r + 1)
      go r (means h e (says_number i a b)) = rw (a, le-leb n 1 l, b) (closed_is (row r) (e ∙ rw add-zero) refl)

  -- an item's own row, over what it holds
  pub over_fits :
      (k b : ℕ) {f : Walk} {m : ℕ} {cs : List Cell} → WalkedBy f cs → m ≡ length cs
      → WalkedAt (λ x r. over x (f (r + 1))) (cell k m (holding b) ∷ cs)
  over_fits k b {f} {m} {cs} g i = record { walks = λ r h l. go r (stands_head h) (g.walks (r + 1) (stands_tail h) (omega arith)) }
    where
      go : (r : ℕ) → Means s r (row r) (cell k m (holding b)) → f (r + 1) ≡ Some (r + 1 + length cs) → over (row r) (f (r + 1)) ≡ Some (r + suc (length cs))
      go r (means h e (says_holding j l a n)) z = rw (a, z) (closed_is (row r) (omega (arith, e, i)) (omega arith))

  pub held_fits :
      (k b : ℕ) {f : Walk} {m : ℕ} {cs : List Cell} → WalkedBy f cs → m ≡ length cs
      → WalkedAt (λ x r. walk-holding b x (f (r + 1))) (cell k m (holding b) ∷ cs)
  held_fits k b {f} {m} {cs} g i = record { walks = λ r h l. go r (stands_head h) ((over_fits k b g i).walks r h l) }
    where
      go :
          (r : ℕ) → Means s r (row r) (cell k m (holding b)) → over (row r) (f (r + 1)) ≡ Some (r + suc (length cs))
          → walk-holding b (row r) (f (r + 1)) ≡ Some (r + suc (length cs))
      go r (means h e (says_holding j l a n)) z = rw (eq-eqb _ _ n) z

  -- what only one kind of row begins
  pub only_fits : (k : ℕ) {f : Row → Walk} {cs : List Cell} → (0 < length cs) × (first_kind cs ≡ k) → WalkedAt f cs → WalkedBy (only row rows s k f) cs
  unfolding only
  only_fits k b g =
      record { walks = λ r h i. rw (lt-ltb r rows (omega (arith, b.0)), eq-eqb (row r).kind k (first_kind_lem h b.0 ∙ b.1)) (g.walks r h i) }

  -- one after the other
  pub pair_fits : {f g : Walk} {us vs : List Cell} → WalkedBy f us → WalkedBy g vs → WalkedBy (walk_pair f g) (us ++ vs)
  unfolding walk_pair
  pair_fits {f} {g} {us} {vs} p q =
      record {
        walks = λ r h i.
            let l = length-append us vs in
            let e : r + length us + length vs ≡ r + length (us ++ vs) = omega (arith, l) in
            rw (p.walks r (stands_front us vs h) (omega (arith, l)), q.walks (r + length us) (stands_back us vs h) (omega (arith, l)), e);
      }

  module _ {f : Texts → Walk} {more : Texts → ℕ → Texts} where
    pub no_items : {seen : Texts} → RunBy f more zero seen []
    unfolding items
    no_items = record { walks = λ r h i. rw add-zero }

    -- the first, and the others behind what is kept of it
    pub more_items :
        {n : ℕ} {seen seen' : Texts} {us vs ws : List Cell} → WalkedBy (f seen) us → ((r : ℕ) → Stands row s r us → more seen r ≡ seen')
        → RunBy f more n seen' vs → ws ≡ us ++ vs → RunBy f more (suc n) seen ws
    unfolding items
    more_items {us = us} {vs} p kept q e =
        rw e
        (record {
          walks = λ r h i.
              let l = length-append us vs in
              let z : r + length us + length vs ≡ r + length (us ++ vs) = omega (arith, l) in
              rw
              (p.walks r (stands_front us vs h) (omega (arith, l)), kept r (stands_front us vs h), q.walks (r + length us) (stands_back us vs h) (omega (arith, l)), z);
        })

    pub counted_fits : (k : ℕ) {n m : ℕ} {cs : List Cell} → RunBy f more n [] cs → m ≡ length cs → WalkedAt (counted f more) (cell k m (holding n) ∷ cs)
    counted_fits k {n} {m} {cs} g i = record { walks = λ r h l. go r (stands_head h) (g.walks (r + 1) (stands_tail h) (omega arith)) }
      where
        go :
            (r : ℕ) → Means s r (row r) (cell k m (holding n)) → items f more n [] (r + 1) ≡ Some (r + 1 + length cs)
            → counted f more (row r) r ≡ Some (r + suc (length cs))
        go r (means h e (says_holding j l a b)) z = rw (a, b, z) (closed_is (row r) (omega (arith, e, i)) (omega arith))

  pub text_fits : {t : List ℕ} → Keeps content.Text t → WalkedAt (content_item s content.Text) (content_cell content.Text t ∷ [])
  text_fits k = content_fits content.Text k refl

  pub string_fits : {t : List ℕ} → Keeps content.Text t → WalkedBy (walk-string row rows s) (content_cell content.Text t ∷ [])
  unfolding walk-string
  string_fits k = only_fits 11 (omega arith, refl) (text_fits k)

  -- the text of the row where a String stands
  pub text_there : {r : ℕ} {t : List ℕ} → Means s r (row r) (content_cell content.Text t) → text_of s (row r) ≡ t
  text_there (means h e (says_contents i j l)) = l

  -- a String that keeps a rule: an Other's name, a Struct's key
  pub string_by_fits :
      (rule : List ℕ → Verdict) {t : List ℕ} → Keeps content.Text t → rule t ≡ Ok tt → WalkedBy (string_by row rows s rule) (content_cell content.Text t ∷ [])
  unfolding string_by
  string_by_fits rule k n = record { walks = λ r h l. rw ((string_fits k).walks r h l, text_there (stands_head h), n) }

  pub none_kept : (seen : Texts) {us : List Cell} (r : ℕ) → Stands row s r us → nothing seen r ≡ seen
  unfolding nothing
  none_kept seen r h = refl

  pub alike_fits : {f : Walk} {us : List Cell} (seen : Texts) → WalkedBy f us → WalkedBy (alike f seen) us
  unfolding alike
  alike_fits seen g = g

  pub member_fits :
      {f : Walk} (seen : Texts) {t : List ℕ} {cs : List Cell} → Keeps content.Text t → key_rule seen t ≡ Ok tt → WalkedBy f cs
      → WalkedBy (member row rows s f seen) (content_cell content.Text t ∷ cs)
  unfolding member
  member_fits seen k n g = pair_fits (string_by_fits (key_rule seen) k n) g
