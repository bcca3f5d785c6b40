-- What answers each return of the functions that judge a fault's members. Assumes nothing.
use mathlib.Core.Path.{◌≡◌, refl, ◌∙◌}
use mathlib.Core.Bool.{Bool, true, false, ◌&&◌, ◌||◌}
use mathlib.Core.List.{List}
use Prim.Native.Nat.{ℕ, zero, suc, ◌+◌, ◌-◌}
use native.Mathlib.Omega.{arith}
use lib.Dec.{eqb}
use borrow.Author.Tests.{ne_eqb, eqb-true}
use Rattle.text.specs.Texts.{same}
use Rattle.draft.specs.declared.Refusal.TheVariants.{BadFault}
use Rattle.std.specs.Prelude.{Ok, Err}
use Rattle.draft.specs.declared.Row.{Row}
use Rattle.draft.specs.Bytes.{bytes, part}
use Rattle.draft.specs.Content.{held_of, is_integer, is_string, is_text, is_code, is_message, is_fault, fault_rule}
use Rattle.draft.specs.Table.{from}
use Rattle.draft.specs.Read.{held_row, held_rows}

-- what a row is, by its kind
integer_is : (k : ℕ) (t : List ℕ) → is_integer (held_of k t) ≡ eqb k 4
unfolding held_of
integer_is k t = go (eqb k 11) refl (eqb k 4) refl
  where
    go : (b : Bool) → eqb k 11 ≡ b → (c : Bool) → eqb k 4 ≡ c → is_integer (held_of k t) ≡ eqb k 4
    go true e c f = rw (eqb-true k 11 e)
    go false e true f = rw (e, f)
    go false e false f = rw (e, f)

string_is : (k : ℕ) (t : List ℕ) → is_string (held_of k t) ≡ eqb k 11
unfolding held_of
string_is k t = go (eqb k 11) refl (eqb k 4) refl
  where
    go : (b : Bool) → eqb k 11 ≡ b → (c : Bool) → eqb k 4 ≡ c → is_string (held_of k t) ≡ eqb k 11
    go true e c f = rw e
    go false e true f = rw (e, f)
    go false e false f = rw (e, f)

-- the row x, as it was fetched
module _ (s name : List ℕ) {x y : Row} (e : x ≡ y) where
  pub text_there : {t : List ℕ} {b : Bool} → x.kind ≡ 11 → t ≡ part s x.a x.b → b ≡ same t name → b ≡ is_text name (held_row s y)
  unfolding held_of
  text_there k i j = j ∙ rw (i, ← e, k)

  pub text_else : (x.kind ≡ 11 → ⊥) → false ≡ is_text name (held_row s y)
  unfolding held_of
  text_else n = rw (← e) (go (eqb x.kind 4) refl)
    where
      go : (c : Bool) → eqb x.kind 4 ≡ c → false ≡ is_text name (held_row s x)
      go true f = rw (ne_eqb _ _ n, f)
      go false f = rw (ne_eqb _ _ n, f)

pub kind_is : {x y : Row} (k : ℕ) → x ≡ y → eqb x.kind k ≡ eqb y.kind k
kind_is k e = rw e

-- a key and its value
module _ (s : List ℕ) (key value : Row) {a b : Bool} where
  pub code_is : a ≡ is_text (bytes "faultCode") (held_row s key) → b ≡ eqb value.kind 4 → a && b ≡ is_code (held_row s key) (held_row s value)
  unfolding is_code
  code_is h i = rw (h, i, integer_is)

  pub message_is : a ≡ is_text (bytes "faultString") (held_row s key) → b ≡ eqb value.kind 11 → a && b ≡ is_message (held_row s key) (held_row s value)
  unfolding is_message
  message_is h i = rw (h, i, string_is)

-- the rows below row r
module _ (s : List ℕ) (row : ℕ → Row) (r : ℕ) where
  other_number : (first n : ℕ) → (n ≡ 4 → ⊥) → is_fault (held_rows s (from row first n)) ≡ false
  unfolding from held_rows is_fault
  other_number first zero h = refl
  other_number first (suc zero) h = refl
  other_number first (suc (suc zero)) h = refl
  other_number first (suc (suc (suc zero))) h = refl
  other_number first (suc (suc (suc (suc zero)))) h = absurd (h refl)
  other_number first (suc (suc (suc (suc (suc n))))) h = refl

  pub not_four : {end : ℕ} → (end ≡ r + 5 → ⊥) → Err BadFault ≡ fault_rule (held_rows s (from row (r + 1) (end - (r + 1))))
  unfolding fault_rule
  not_four {end} h = rw (other_number (r + 1) (end - (r + 1)) (λ e. h (omega arith)))

  -- four of them, as the code found them
  module _
      {end : ℕ} {a b c d : Bool} (e : end ≡ r + 5) (h : a ≡ is_code (held_row s (row (r + 1))) (held_row s (row (r + 1 + 1))))
      (i : b ≡ is_message (held_row s (row (r + 3))) (held_row s (row (r + 3 + 1))))
      (j : c ≡ is_message (held_row s (row (r + 1))) (held_row s (row (r + 1 + 1)))) (k : d ≡ is_code (held_row s (row (r + 3))) (held_row s (row (r + 3 + 1)))) where
    four_is : is_fault (held_rows s (from row (r + 1) (end - (r + 1)))) ≡ (a && b) || (c && d)
    unfolding from held_rows is_fault
    four_is =
        let n : end - (r + 1) ≡ 4 = omega arith in
        let p : suc (r + 1) ≡ r + 1 + 1 = omega arith in
        let q : suc (suc (r + 1)) ≡ r + 3 = omega arith in
        let t : suc (suc (suc (r + 1))) ≡ r + 3 + 1 = omega arith in
        rw (n, t, q, p, h, i, j, k)

    pub fault_fine : (a && b) || (c && d) ≡ true → (Ok tt) ≡ fault_rule (held_rows s (from row (r + 1) (end - (r + 1))))
    unfolding fault_rule
    fault_fine t = rw (four_is, t)

    pub fault_bad : (a && b) || (c && d) ≡ false → Err BadFault ≡ fault_rule (held_rows s (from row (r + 1) (end - (r + 1))))
    unfolding fault_rule
    fault_bad t = rw (four_is, t)

pub ruleset judging = (text_there, text_else, kind_is, code_is, message_is, not_four, fault_fine, fault_bad)
