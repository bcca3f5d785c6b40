-- What the rule for a Struct's keys takes: keys of which no two are equal. Assumes nothing.
use mathlib.Core.Path.{◌≡◌, refl, sym}
use mathlib.Core.Bool.{Bool, true, false, ◌||◌}
use mathlib.Core.List.{List, [], ◌∷◌}
use Prim.Native.Nat.{ℕ, zero, suc, ◌<◌}
use native.Mathlib.Omega.{arith}
use lib.ListN.{length, get_or}
use Rattle.text.specs.Texts.{same, among}
use Rattle.text.proofs.Comparing.{clash, same_is, same_self}
use Rattle.draft.specs.declared.Refusal.{Refusal}
use Rattle.draft.specs.declared.Refusal.TheVariants.{RepeatedKey}
use Rattle.std.specs.Prelude.{Ok}
use Rattle.draft.specs.Content.{bad_if, key_rule}
use Rattle.draft.specs.Read.{Texts}

not_by : (b : Bool) (m : Refusal) → bad_if b m ≡ Ok tt → b ≡ false
not_by true m h = let z : ◌≡◌ {A = ℕ} 0 1 = cc in absurd (omega arith)
not_by false m h = refl

neither : (a b : Bool) → a || b ≡ false → (a ≡ false) × (b ≡ false)
neither true b e = clash refl e
neither false b e = (refl, e)

-- a text is among others, or differs from each
none_same : (seen : Texts) (t : List ℕ) → among seen t ≡ false → (j : ℕ) → j < length seen → get_or seen j [] ≡ t → ⊥
unfolding among
none_same [] t e j h i = absurd (omega arith)
none_same (u ∷ seen) t e zero h i = clash (same_self t) (rw i at (neither (same t u) (among seen t) e).0)
none_same (u ∷ seen) t e (suc j) h i = none_same seen t (neither (same t u) (among seen t) e).1 j (omega arith) i

same_none : (seen : Texts) (t : List ℕ) → ((j : ℕ) → j < length seen → get_or seen j [] ≡ t → ⊥) → among seen t ≡ false
unfolding among
same_none [] t n = refl
same_none (u ∷ seen) t n = go (same t u) refl (same_none seen t (λ j h. n (suc j) (omega arith)))
  where
    go : (b : Bool) → same t u ≡ b → among seen t ≡ false → b || among seen t ≡ false
    go true e f = absurd (n 0 (omega arith) (sym (same_is t u e)))
    go false e f = f

-- keys that the rule takes one after the other, behind those seen
pub data Fresh : Texts → Texts → Type 0 where
  no_key : {seen : Texts} → Fresh seen []
  new_key : {seen ts : Texts} {t : List ℕ} → key_rule seen t ≡ Ok tt → Fresh (t ∷ seen) ts → Fresh seen (t ∷ ts)

-- none of the keys is one of those seen
abbrev Apart : Texts → Texts → Type 0
Apart seen ts = (i j : ℕ) → i < length ts → j < length seen → get_or seen j [] ≡ get_or ts i [] → ⊥

-- no two of them are equal
abbrev pub Distinct : Texts → Type 0
Distinct ts = (i j : ℕ) → i < j → j < length ts → get_or ts i [] ≡ get_or ts j [] → ⊥

rule_by : (seen : Texts) (t : List ℕ) → key_rule seen t ≡ Ok tt → among seen t ≡ false
unfolding key_rule
rule_by seen t e = not_by (among seen t) RepeatedKey e

by_rule : (seen : Texts) (t : List ℕ) → among seen t ≡ false → key_rule seen t ≡ Ok tt
unfolding key_rule
by_rule seen t e = rw e

fresh_apart : {seen ts : Texts} → Fresh seen ts → Apart seen ts
fresh_apart no_key i j h l e = absurd (omega arith)
fresh_apart {seen} (new_key {t = t} k f) zero j h l e = none_same seen t (rule_by seen t k) j l e
fresh_apart (new_key k f) (suc i) j h l e = fresh_apart f i (suc j) (omega arith) (omega arith) e

pub fresh_distinct : {seen ts : Texts} → Fresh seen ts → Distinct ts
fresh_distinct no_key i j h l e = absurd (omega arith)
fresh_distinct (new_key k f) i zero h l e = absurd (omega arith)
fresh_distinct (new_key k f) zero (suc j) h l e = fresh_apart f j 0 (omega arith) (omega arith) e
fresh_distinct (new_key k f) (suc i) (suc j) h l e = fresh_distinct f i j (omega arith) (omega arith) e

distinct_fresh : (seen ts : Texts) → Distinct ts → Apart seen ts → Fresh seen ts
distinct_fresh seen [] d a = no_key
distinct_fresh seen (t ∷ ts) d a =
    new_key (by_rule seen t (same_none seen t (λ j h. a 0 j (omega arith) h)))
    (distinct_fresh (t ∷ seen) ts (λ i j h l. d (suc i) (suc j) (omega arith) (omega arith)) (λ i j. by i j))
  where
    by : (i j : ℕ) → i < length ts → j < suc (length seen) → get_or (t ∷ seen) j [] ≡ get_or ts i [] → ⊥
    by i zero h l e = d 0 (suc i) (omega arith) (omega arith) e
    by i (suc j) h l e = a (suc i) j (omega arith) (omega arith) e

pub all_fresh : (ts : Texts) → Distinct ts → Fresh [] ts
all_fresh ts d = distinct_fresh [] ts d (λ i j h l e. absurd (omega arith))
