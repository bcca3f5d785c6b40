-- What answers the returns and turns of the function that collects the strings of rows. Assumes nothing.
use Prim.Native.Nat.{ℕ, zero, suc, ◌+◌, ◌-◌, ◌≤◌, ◌<◌}
use mathlib.Core.Path.{◌≡◌, refl, ap, ◌∙◌}
use mathlib.Core.List.{List, [], ◌∷◌, ◌++◌, append_assoc, append-nil}
use native.Mathlib.Omega.{arith}
use native.Mathlib.Nat.{add-zero, zero-add, sub-zero}
use native.Mathlib.Numerals.{add-one}
use lib.ListN.{length, get_or, set, length-set}
use lib.Seq.{get_or-set_same, get_or-set_other}
use borrow.Author.Tests.{eq-eqb, ne_eqb}
use Rattle.draft.specs.declared.Row.{Row}
use Rattle.draft.specs.Read.{text_of}
use Rattle.draft.specs.Table.{from}
use Rattle.draft.specs.Strings.{Text, texts_of}
use Rattle.extents.specs.Asked.{Ready}
use Rattle.buckets.specs.Numbered.{numbered_text, Strings}
use Rattle.buckets.proofs.Numbered.{from_step, from_none}
use Rattle.occurring.proofs.Among.{at_or_not}
use Rattle.sending.specs.Contract.{Collected}

-- the texts of rows, by the first row
module _ (row : ℕ → Row) (rows r : ℕ) (h : r < rows) {x : Row} (e : x ≡ row r) (s : List ℕ) where
  pub texts_string : x.kind ≡ 11 → texts_of s (from row r (rows - r)) ≡ text_of s x ∷ texts_of s (from row (suc r) (rows - suc r))
  unfolding texts_of
  texts_string k = rw (from_step row r rows h, ← e, eq-eqb _ _ k)

  pub texts_other : (x.kind ≡ 11 → ⊥) → texts_of s (from row r (rows - r)) ≡ texts_of s (from row (suc r) (rows - suc r))
  unfolding texts_of
  texts_other k = rw (from_step row r rows h, ← e, ne_eqb _ _ k)

from_last : (f : ℕ → Text) (a n : ℕ) → from f a (suc n) ≡ from f a n ++ (f (a + n) ∷ [])
unfolding from
from_last f a zero = rw add-zero
from_last f a (suc n) = let e : suc a + n ≡ a + suc n = omega arith in ap (λ (l : List Text). f a ∷ l) (from_last f (suc a) n ∙ rw e)

from_same : (f g : ℕ → Text) (a n : ℕ) → ((k : ℕ) → k < a + n → f k ≡ g k) → from f a n ≡ from g a n
unfolding from
from_same f g a zero h = refl
from_same f g a (suc n) h = rw (h a (omega arith), from_same f g (suc a) n (λ k l. h k (omega arith)))

-- one string more, of row r
module _ (row : ℕ → Row) (W s : List ℕ) (n r : ℕ) (h : n < length W) where
  text_new : numbered_text row (set W n r) s n ≡ text_of s (row r)
  unfolding numbered_text
  text_new = rw (get_or-set_same W n r 0 h)

  text_old : (k : ℕ) → k < n → numbered_text row (set W n r) s k ≡ numbered_text row W s k
  unfolding numbered_text
  text_old k l = rw (get_or-set_other W n k r 0 (λ e. omega arith))

  texts_more : from (numbered_text row (set W n r) s) 0 (suc n) ≡ from (numbered_text row W s) 0 n ++ (text_of s (row r) ∷ [])
  texts_more =
      from_last (numbered_text row (set W n r) s) 0 n
      ∙ rw (zero-add, text_new, from_same (numbered_text row (set W n r) s) (numbered_text row W s) 0 n (λ k l. text_old k (omega arith)))

-- where the pass stands at row r, with n strings so far
pub record Collecting (row : ℕ → Row) (rows : ℕ) (W : List ℕ) (r n : ℕ) : Type 0 where
  pub texts : (s : List ℕ) → texts_of s (from row 0 rows) ≡ from (numbered_text row W s) 0 n ++ texts_of s (from row r (rows - r))
  pub within : r ≤ rows
  pub few : n ≤ r
  pub room : rows ≤ length W
  pub there : (k : ℕ) → k < n → get_or W k 0 < rows

pub collect_first : (row : ℕ → Row) (rows : ℕ) (W : List ℕ) → rows ≤ length W → Collecting row rows W 0 0
unfolding from
collect_first row rows W h = record { texts = λ s. rw sub-zero; within = omega arith; few = omega arith; room = h; there = λ k l. absurd (omega arith) }

module _ {row : ℕ → Row} {rows : ℕ} {W : List ℕ} {r n : ℕ} (i : Collecting row rows W r n) where
  module _ (h : r < rows) {x : Row} (e : x ≡ row r) where
    pub collect_string : x.kind ≡ 11 → Collecting row rows (set W n r) (r + 1) (n + 1)
    collect_string k =
        let l : n < length W = omega (arith, i.few, i.room) in
        rw (add-one r, add-one n)
        (record {
          texts = λ s. i.texts s ∙ rw (texts_string row rows r h e s k, texts_more row W s n r l, append_assoc, e);
          within = h;
          few = omega (arith, i.few);
          room = simp length-set i.room;
          there = λ k. at_or_not (λ (k : ℕ). k < suc n → get_or (set W n r) k 0 < rows) k n (λ m. rw (get_or-set_same W n r 0 l) h) (λ d m. rw (get_or-set_other W n k r 0 d) (i.there k (omega (arith, d))));
        })

    pub collect_other : (x.kind ≡ 11 → ⊥) → Collecting row rows W (r + 1) n
    collect_other k =
        rw add-one
        (record {
          texts = λ s. i.texts s ∙ rw (texts_other row rows r h e s k);
          within = h;
          few = omega (arith, i.few);
          room = i.room;
          there = i.there;
        })

  pub collect_done : rows ≤ r → Collected row rows W n
  unfolding texts_of
  collect_done h =
      record {
        texts = λ s. i.texts s ∙ rw (from_none row r rows h, append-nil);
        few = omega (arith, i.few, i.within);
        room = omega (arith, i.few, i.within, i.room);
        within = i.there;
      }

pub ruleset collecting = (collect_first, collect_string, collect_other, collect_done)

-- what was collected, as the functions on strings ask for it
pub strings_there : {row : ℕ → Row} {rows room words n : ℕ} {W : List ℕ} → Ready rows room words → Collected row rows W n → Strings room words n W
strings_there y c =
    record {
      table = y.table;
      most = y.most;
      few = omega (arith, c.few, y.stated, y.most);
      there = c.room;
      rows = λ k l. omega (arith, c.within k l, y.stated);
    }
