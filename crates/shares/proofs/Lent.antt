-- Where a share lies, and what comes back of a table of which it was lent. Assumes nothing.
use mathlib.Core.Path.{◌≡◌, refl, sym, ◌∙◌}
use mathlib.Core.Bool.{Bool, true, false, ◌&&◌, cond}
use mathlib.Core.List.{List, ◌++◌}
use Prim.Native.Nat.{ℕ, ◌-◌, ◌*◌, ◌/◌, ◌^◌, ◌≤◌, ◌<◌}
use native.Mathlib.Omega.{arith}
use lib.ListN.{length, take, drop}
use lib.Dec.{ltb}
use Rattle.std.specs.Prelude.{Result, Ok, Err, IsErr}
use Rattle.std.specs.declared.ops.Range.{Range}
use mir.Syntax.{w64}
use mir.Val.{Fits}
use borrow.Author.Tests.{lt-ltb, le-ltb, ltb-true}
use Rattle.shares.specs.declared.Station.{Station}
use Rattle.shares.specs.declared.Station.TheVariants.{Four, Five}
use Rattle.shares.specs.declared.NotSplit.{NotSplit}
use Rattle.shares.specs.Share.{whole_rows, splits, first_word, end_word, words_between, no_share, size_of, share_for, share_of, lying, on_share, table_on}

-- ---- the judging

module _ (words split : ℕ) (s : Station) where
  pub row_zero : split ≡ 0 → Err no_share ≡ share_for words split s
  unfolding share_for splits
  row_zero e = rw e

  module _ (z : split ≡ 0 → ⊥) where
    pub row_beyond : words / 4 ≤ split → Err no_share ≡ share_for words split s
    unfolding share_for splits
    row_beyond h = let p : 0 < split = omega arith in simp (lt-ltb _ _ p, le-ltb _ _ h)

    module _ (h : split < words / 4) where
      four_split : splits split words ≡ true
      unfolding splits
      four_split = let p : 0 < split = omega arith in simp (lt-ltb _ _ p, lt-ltb _ _ h)

      pub share_four : s ≡ Four → Ok (words_between 0 (split * 4)) ≡ share_for words split s
      unfolding share_for
      share_four e = rw (four_split, e)

      pub share_five : s ≡ Five → Ok (words_between (split * 4) (words / 4 * 4)) ≡ share_for words split s
      unfolding share_for
      share_five e = rw (four_split, e)

pub ruleset judging = (row_zero, row_beyond, share_four, share_five)

-- ---- a share lies in the table

both : (a b : Bool) → a && b ≡ true → (a ≡ true) × (b ≡ true)
both true b h = (refl, h)
both false b h = (h, cc)

pub above : (split words : ℕ) → splits split words ≡ true → 0 < split
unfolding splits
above split words h = ltb-true _ _ (both (ltb 0 split) (ltb split (whole_rows words)) h).0

pub below : (split words : ℕ) → splits split words ≡ true → split < words / 4
unfolding splits
below split words h = ltb-true _ _ (both (ltb 0 split) (ltb split (whole_rows words)) h).1

pub in_order : (s : Station) (split words : ℕ) → split < words / 4 → first_word s split ≤ end_word s split words
in_order Four split words h = omega arith
in_order Five split words h = omega arith

pub in_table : (s : Station) (split words : ℕ) → split < words / 4 → end_word s split words ≤ words
in_table Four split words h = omega arith
in_table Five split words h = omega arith

-- what is known of a share that was found
pub record Found (words split : ℕ) (s : Station) (share : Range ℕ) : Type 0 where
  pub split_there : splits split words ≡ true
  pub begins : share.start ≡ first_word s split
  pub ends : share.end ≡ end_word s split words
  pub ordered : share.start ≤ share.end
  pub inside : share.end ≤ words

module _ (words split : ℕ) (s : Station) {share : Result (Range ℕ) NotSplit} (i : share ≡ share_for words split s) where
  pub found : {part : Range ℕ} → share ≡ Ok part → Found words split s part
  unfolding share_for
  found {part} e = go (splits split words) refl (sym e ∙ i)
    where
      its : Range ℕ
      its = words_between (first_word s split) (end_word s split words)

      go : (b : Bool) → splits split words ≡ b → Ok part ≡ cond b (Ok its) (Err no_share) → Found words split s part
      go true p h =
          let q : part ≡ its = cc in
          let w : split < words / 4 = below split words p in
          rw q (record {
            split_there = p;
            begins = refl;
            ends = refl;
            ordered = in_order s split words w;
            inside = in_table s split words w;
          })
      go false p h = absurd (cc)

  pub not_found : {why : NotSplit} → share ≡ Err why → splits split words ≡ false
  unfolding share_for
  not_found {why} e = go (splits split words) refl (sym e ∙ i)
    where
      go :
          (b : Bool) → splits split words ≡ b → Err why ≡ cond b (Ok (words_between (first_word s split) (end_word s split words))) (Err no_share)
          → splits split words ≡ false
      go true p h = absurd (cc)
      go false p h = p

  pub part_ordered : {part : Range ℕ} → share ≡ Ok part → part.start ≤ part.end
  part_ordered e = (found e).ordered

  pub part_inside : {part : Range ℕ} → share ≡ Ok part → part.end ≤ words
  part_inside e = (found e).inside

  -- where it begins, in bytes
  pub part_begins : {part : Range ℕ} → share ≡ Ok part → words * 4 < 2 ^ 63 → Fits w64 (part.start * 4)
  part_begins e h = record { fits = omega (arith, part_ordered e, part_inside e) }

-- ---- a share lent

module _ (split : ℕ) (s : Station) (T : List ℕ) {share : Result (Range ℕ) NotSplit} (i : share ≡ share_for (length T) split s) where
  module _ {part : Range ℕ} (e : share ≡ Ok part) where
    lent_share : take (part.end - part.start) (drop part.start T) ≡ share_of s split T
    unfolding share_of size_of
    lent_share = let f = found (length T) split s i e in rw (f.begins, f.ends)

    pub lent_answer :
        {A : Type 0} (given : List ℕ → A) (otherwise : A) {a : A} → a ≡ given (take (part.end - part.start) (drop part.start T))
        → a ≡ on_share s split T given otherwise
    unfolding on_share
    lent_answer given otherwise h = h ∙ rw (lent_share, (found (length T) split s i e).split_there)

    same_place :
        (xs : List ℕ)
        → take part.start T ++ (xs ++ drop (part.end - part.start) (drop part.start T))
        ≡ lying (first_word s split) (size_of s split (length T)) xs T
    unfolding lying size_of
    same_place xs = let f = found (length T) split s i e in rw (f.begins, f.ends)

    pub lent_table :
        (after : List ℕ → List ℕ) {X : List ℕ} → X ≡ after (take (part.end - part.start) (drop part.start T))
        → take part.start T ++ (X ++ drop (part.end - part.start) (drop part.start T)) ≡ table_on s split T after
    unfolding table_on on_share
    lent_table after {X} h = same_place X ∙ rw (h, lent_share, (found (length T) split s i e).split_there)

  module _ {why : NotSplit} (e : share ≡ Err why) where
    pub unlent_answer : {A : Type 0} (given : List ℕ → A) (otherwise : A) → otherwise ≡ on_share s split T given otherwise
    unfolding on_share
    unlent_answer given otherwise = rw (not_found (length T) split s i e)

    pub unlent_table : (after : List ℕ → List ℕ) → T ≡ table_on s split T after
    unfolding table_on
    unlent_table after = unlent_answer (λ (W : List ℕ). lying (first_word s split) (size_of s split (length T)) (after W) T) T

pub ruleset lending = (part_ordered, part_inside, part_begins)

-- ---- no share, handed on by `?`

pub no_share_only : {A : Type 0} (r : Result A NotSplit) → IsErr r → r ≡ Err no_share
no_share_only (Ok x) h = absurd (cc)
no_share_only (Err e) h = refl
