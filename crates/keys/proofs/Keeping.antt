-- What stays of the notes while rows are stored or walked behind them. Assumes nothing.
use Prim.Native.Nat.{ℕ, zero, suc, ◌+◌, ◌*◌, ◌≤◌, ◌<◌}
use mathlib.Core.Path.{◌≡◌, refl, sym, ◌∙◌}
use mathlib.Core.Bool.{Bool, true, false}
use mathlib.Core.List.{List, []}
use native.Mathlib.Omega.{arith}
use lib.ListN.{length, get_or, replicate}
use lib.Dec.{eqb, ltb}
use borrow.Author.Tests.{eqb-true, eqb-false, ne_eqb, ltb-true, ltb-false}
use Rattle.draft.specs.Strings.{Text}
use Rattle.keys.specs.Notes.{owner_of, keep_if, keys_of, Noted, Keeps}
use Rattle.keys.proofs.Chaining.{keys_move}

-- rows that are no keys add none
keys_past : (t : ℕ → Text) (W : List ℕ) (o first n : ℕ) → 0 < o → first ≤ n → ((k : ℕ) → first ≤ k → owner_of W k ≡ 0) → keys_of t W o n ≡ keys_of t W o first
unfolding keys_of
keys_past t W o first zero h l z = let e : first ≡ 0 = omega arith in rw e
keys_past t W o first (suc n) h l z = go (eqb first (suc n)) refl (λ m. keys_past t W o first n h m z)
  where
    go : (b : Bool) → eqb first (suc n) ≡ b → (first ≤ n → keys_of t W o n ≡ keys_of t W o first) → keep_if (eqb (owner_of W n) o) (t n) (keys_of t W o n) ≡ keys_of t W o first
    go true e i = rw (eqb-true first (suc n) e)
    go false e i = rw (z n (omega (arith, eqb-false first (suc n) e)), ne_eqb 0 o (λ q. omega arith)) (i (omega (arith, eqb-false first (suc n) e)))

-- an owner has no key before its first row
pub keys_first : {t : ℕ → Text} {W : List ℕ} {free : ℕ} → Noted t W free → keys_of t W free free ≡ []
unfolding keys_of
keys_first {t} {W} {free} a = none free (omega arith)
  where
    none : (n : ℕ) → n ≤ free → keys_of t W free n ≡ []
    none zero l = refl
    none (suc n) l = rw (ne_eqb (owner_of W n) free (λ e. omega (arith, e, a.owners n))) (none n (omega arith))

-- a key has a row below `free`
pub key_below : {t : ℕ → Text} {W : List ℕ} {free : ℕ} → Noted t W free → (k : ℕ) → 0 < owner_of W k → k < free
key_below {W = W} {free} a k h = go (ltb k free) refl
  where
    go : (b : Bool) → ltb k free ≡ b → k < free
    go true e = ltb-true k free e
    go false e = omega (arith, a.blank k (ltb-false k free e))

-- rows stored from `first` on, or in the place of a row that is no key, leave the texts of keys
module _ {t t' : ℕ → Text} {W : List ℕ} {first : ℕ} (a : Noted t W first) (e : (k : ℕ) → 0 < owner_of W k → t' k ≡ t k) where
  pub noted_move : (free : ℕ) → first ≤ free → Noted t' W free
  noted_move free h =
      record {
        heads = λ b. omega (arith, a.heads b);
        links = a.links;
        owners = a.owners;
        blank = λ k l. a.blank k (omega arith);
        on = λ k l. rw (e k l) (a.on k l);
      }

  pub keeps_none : (free : ℕ) → first ≤ free → Keeps t t' W W first free
  keeps_none free h =
      record {
        noted = noted_move free h;
        owners = λ k l. refl;
        keys = λ o p l. keys_move t t' W W o free (λ k m. refl) (λ k m q. e k (omega arith)) ∙ keys_past t W o first free p h a.blank;
      }

-- one after the other
pub keeps_then : {t t₁ t₂ : ℕ → Text} {W W₁ W₂ : List ℕ} {first next free : ℕ} → Keeps t t₁ W W₁ first next → first ≤ next → Keeps t₁ t₂ W₁ W₂ next free → Keeps t t₂ W W₂ first free
keeps_then a h b =
    record {
      noted = b.noted;
      owners = λ k l. b.owners k (omega arith) ∙ a.owners k l;
      keys = λ o p l. b.keys o p (omega arith) ∙ a.keys o p l;
    }

-- and a row that is no key stored anew
pub keeps_moved : {t t₁ t₂ : ℕ → Text} {W W₁ : List ℕ} {first free : ℕ} → Keeps t t₁ W W₁ first free → ((k : ℕ) → 0 < owner_of W₁ k → t₂ k ≡ t₁ k) → Keeps t t₂ W W₁ first free
keeps_moved {t₁ = t₁} {t₂} {W₁ = W₁} {free = free} a e =
    record {
      noted = noted_move a.noted e free (omega arith);
      owners = a.owners;
      keys = λ o p l. keys_move t₁ t₂ W₁ W₁ o free (λ k m. refl) (λ k m q. e k (omega (arith, q))) ∙ a.keys o p l;
    }

-- no key yet
zeros : (n i : ℕ) → ◌≡◌ {A = ℕ} (get_or (replicate n 0) i 0) 0
zeros zero i = refl
zeros (suc n) zero = refl
zeros (suc n) (suc i) = zeros n i

pub noted_none : (t : ℕ → Text) (words free : ℕ) → Noted t (replicate words 0) free
noted_none t words free =
    record {
      heads = λ b. omega (arith, zeros words (b * 3));
      links = λ k. omega (arith, zeros words (k * 3 + 1));
      owners = λ k. omega (arith, zeros words (k * 3 + 2));
      blank = λ k l. zeros words (k * 3 + 2);
      on = λ k l. absurd (omega (arith, zeros words (k * 3 + 2)));
    }

pub noted_blank : {t : ℕ → Text} {W : List ℕ} {free : ℕ} → W ≡ replicate (length W) 0 → Noted t W free
noted_blank {t} {W} {free} e = rw (sym e) at (noted_none t (length W) free)
