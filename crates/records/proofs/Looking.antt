-- What answers each return of the functions that look at one record. Assumes nothing.
use mathlib.Core.Path.{◌≡◌, ◌∙◌}
use mathlib.Core.Bool.{cond}
use mathlib.Core.List.{List}
use Prim.Native.Nat.{ℕ, ◌+◌, ◌*◌, ◌-◌, ◌≤◌, ◌<◌}
use native.Mathlib.Omega.{arith}
use lib.ListN.{length, get_or}
use borrow.Author.Tests.{le-leb, lt-leb, eq-eqb, ne_eqb}
use Rattle.std.specs.declared.ops.ControlFlow.TheVariants.{Break}
use Rattle.draft.specs.Bytes.{unsigned_at}
use Rattle.records.specs.declared.Kind.{Kind}
use Rattle.records.specs.declared.Kind.TheVariants.{Card, End, Other}
use Rattle.records.specs.declared.JobRefusal.{JobRefusal}
use Rattle.records.specs.declared.JobRefusal.TheVariants.{FileEnded, WrongEnd, NoCard}
use Rattle.records.specs.Job.{Look, body_at, missing_at, on_to, kind_at, record_length, ends_with, look_at}

-- the kind, from its two bytes
module _ (s : List ℕ) {a b : ℕ} (p : a ≡ get_or s 4 0) (q : b ≡ get_or s 5 0) where
  pub kind_card : a + 256 * b ≡ 1 → Card ≡ kind_at s
  kind_card e = rw (← p, ← q, e)

  pub kind_end : a + 256 * b ≡ 2 → End ≡ kind_at s
  kind_end e = rw (← p, ← q, e)

  pub kind_other : (a + 256 * b ≡ 1 → ⊥) → (a + 256 * b ≡ 2 → ⊥) → Other ≡ kind_at s
  kind_other m n = rw (← p, ← q, ne_eqb _ _ m, ne_eqb _ _ n)

-- a kind 2 record
module _ (s : List ℕ) (cards : ℕ) {size : ℕ} (e : size ≡ unsigned_at s 0) where
  pub end_of_wrong_length : (size ≡ 4 → ⊥) → WrongEnd ≡ cond (ends_with s cards) NoCard WrongEnd
  end_of_wrong_length n = rw (← e, ne_eqb _ _ n)

  module _ {counted : ℕ} (h : size ≡ 4) (f : counted ≡ unsigned_at s 6) where
    pub end_sound : counted ≡ cards → NoCard ≡ cond (ends_with s cards) NoCard WrongEnd
    end_sound i = rw (← e, eq-eqb _ _ h, ← f, eq-eqb _ _ i)

    pub end_of_wrong_number : (counted ≡ cards → ⊥) → WrongEnd ≡ cond (ends_with s cards) NoCard WrongEnd
    end_of_wrong_number n = rw (← e, eq-eqb _ _ h, ← f, ne_eqb _ _ n)

pub ruleset records = (kind_card, kind_end, kind_other, end_of_wrong_length, end_sound, end_of_wrong_number)

-- one record
module _ (n cards at : ℕ) (s : List ℕ) where
  pub look_short : {look : Look} → length s < 6 → look ≡ Break (missing_at FileEnded at) → look ≡ look_at n cards at s
  unfolding look_at
  look_short h e = e ∙ rw (lt-leb (record_length s) (length s) (omega arith))

  module _ {size : ℕ} (e : size ≡ unsigned_at s 0) (h : 6 ≤ length s) where
    pub look_cut : {look : Look} → length s - 6 < size → look ≡ Break (missing_at FileEnded at) → look ≡ look_at n cards at s
    unfolding look_at
    look_cut k f = f ∙ rw (lt-leb (record_length s) (length s) (omega arith))

    module _ {kind : Kind} (k : size ≤ length s - 6) (i : kind ≡ kind_at s) where
      there : (record_length s) ≤ length s
      there = omega arith

      pub look_body : kind ≡ Card → cards ≡ n → Break (body_at (at + 6) size) ≡ look_at n cards at s
      unfolding look_at
      look_body c m = rw (le-leb _ _ there, ← i, c, eq-eqb _ _ m, ← e)

      pub look_card : kind ≡ Card → (cards ≡ n → ⊥) → on_to (cards + 1) size ≡ look_at n cards at s
      unfolding look_at
      look_card c m = rw (le-leb _ _ there, ← i, c, ne_eqb _ _ m, ← e)

      pub look_end : {look : Look} {m : JobRefusal} → kind ≡ End → look ≡ Break (missing_at m at) → m ≡ cond (ends_with s cards) NoCard WrongEnd → look ≡ look_at n cards at s
      unfolding look_at
      look_end c f m = f ∙ rw (le-leb _ _ there, ← i, c, m)

      pub look_other : kind ≡ Other → on_to cards size ≡ look_at n cards at s
      unfolding look_at
      look_other c = rw (le-leb _ _ there, ← i, c, ← e)

pub ruleset looking = (look_short, look_cut, look_body, look_card, look_end, look_other)
