-- A run of items: where the loop over its rows stands, and what answers its turns. Assumes nothing.
use mathlib.Core.Path.{◌≡◌, refl, sym, ◌∙◌}
use mathlib.Core.List.{[]}
use Prim.Native.Nat.{ℕ, zero, suc, ◌+◌, ◌-◌, ◌≤◌, ◌<◌}
use native.Mathlib.Omega.{arith}
use native.Mathlib.Numerals.{sub-one}
use Rattle.std.proofs.Common.{Some, None}
use Rattle.draft.specs.Read.{Texts}
use Rattle.draft.specs.Writable.{Walk, items}

-- with `done` of n items walked, the next at row `here`, behind what was seen
pub record Turn (f : Texts → Walk) (more : Texts → ℕ → Texts) (n first done here : ℕ) : Type 0 where
  pub seen : Texts
  pub same : items f more n [] first ≡ items f more (n - done) seen here

pub none_less : (n : ℕ) → n - 0 ≡ n
none_less n = omega arith

pub one_less : (n done : ℕ) → n - done - 1 ≡ n - (done + 1)
one_less n done = omega arith

module _ (f : Texts → Walk) (more : Texts → ℕ → Texts) where
  pub items_more : (n : ℕ) (seen : Texts) (here next : ℕ) → 0 < n → f seen here ≡ Some next → items f more n seen here ≡ items f more (n - 1) (more seen here) next
  unfolding items
  items_more zero seen here next h e = absurd (omega arith)
  items_more (suc n) seen here next h e = rw (e, sub-one)

  items_no : (n : ℕ) (seen : Texts) (here : ℕ) → 0 < n → f seen here ≡ None → items f more n seen here ≡ None
  unfolding items
  items_no zero seen here h e = absurd (omega arith)
  items_no (suc n) seen here h e = rw e

  items_none : (n : ℕ) (seen : Texts) (here : ℕ) → n ≤ 0 → items f more n seen here ≡ Some here
  unfolding items
  items_none zero seen here h = refl
  items_none (suc n) seen here h = absurd (omega arith)

  unfoldable pub turn_first : (n first : ℕ) → Turn f more n first 0 first
  turn_first n first = record { seen = []; same = rw (none_less n) }

  module _ {n first done here : ℕ} (t : Turn f more n first done here) where
    pub turn_done : n ≤ done → Some here ≡ items f more n [] first
    turn_done h = sym (t.same ∙ items_none (n - done) t.seen here (omega arith))

    module _ (h : done < n) where
      unfoldable pub turn_again : {next : ℕ} → f t.seen here ≡ Some next → Turn f more n first (done + 1) next
      turn_again {next} e = record { seen = more t.seen here; same = t.same ∙ items_more (n - done) t.seen here next (omega arith) e ∙ rw (one_less n done) }

      pub turn_no : f t.seen here ≡ None → None ≡ items f more n [] first
      turn_no e = sym (t.same ∙ items_no (n - done) t.seen here (omega arith) e)
