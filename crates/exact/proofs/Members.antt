-- What the rule for a fault's members takes. Assumes nothing.
use mathlib.Core.Path.{◌≡◌, refl}
use mathlib.Core.Bool.{Bool, true, false, ◌&&◌, ◌||◌}
use mathlib.Core.List.{List, [], ◌∷◌}
use Prim.Native.Nat.{ℕ}
use native.Mathlib.Omega.{arith}
use Rattle.text.proofs.Comparing.{clash, both, same_is}
use Rattle.draft.specs.declared.Refusal.{Refusal}
use Rattle.std.specs.Prelude.{Ok}
use Rattle.draft.specs.Bytes.{bytes}
use Rattle.draft.specs.Content.{fine_if, Held, string, integer, another, is_integer, is_string, is_text, is_code, is_message, is_fault}

pub fine_by : (b : Bool) (m : Refusal) → fine_if b m ≡ Ok tt → b ≡ true
fine_by true m h = refl
fine_by false m h = let z : ◌≡◌ {A = ℕ} 0 1 = cc in absurd (omega arith)

text_by : (name : List ℕ) (x : Held) → is_text name x ≡ true → x ≡ string name
text_by name (string t) e = let i : t ≡ name = same_is t name e in cc
text_by name integer e = clash e refl
text_by name another e = clash e refl

integer_by : (x : Held) → is_integer x ≡ true → x ≡ integer
integer_by (string t) e = clash e refl
integer_by integer e = refl
integer_by another e = clash e refl

string_by_lem : (x : Held) → is_string x ≡ true → (t : List ℕ) × (x ≡ string t)
string_by_lem (string t) e = (t, refl)
string_by_lem integer e = clash e refl
string_by_lem another e = clash e refl

code_by : (x y : Held) → is_code x y ≡ true → (x ≡ string (bytes "faultCode")) × (y ≡ integer)
unfolding is_code
code_by x y e = let h = both (is_text (bytes "faultCode") x) (is_integer y) e in (text_by (bytes "faultCode") x h.0, integer_by y h.1)

message_by : (x y : Held) → is_message x y ≡ true → (t : List ℕ) × (x ≡ string (bytes "faultString")) × (y ≡ string t)
unfolding is_message
message_by x y e =
    let h = both (is_text (bytes "faultString") x) (is_string y) e in
    let s = string_by_lem y h.1 in
    (s.0, text_by (bytes "faultString") x h.0, s.1)

-- the two members, in either order
module _ (P : List Held → Type 0) (code_first : (t : List ℕ) → P (string (bytes "faultCode") ∷ integer ∷ string (bytes "faultString") ∷ string t ∷ [])) (message_first : (t : List ℕ) → P (string (bytes "faultString") ∷ string t ∷ string (bytes "faultCode") ∷ integer ∷ [])) where
  in_order : (w x y z : Held) → is_code w x && is_message y z ≡ true → P (w ∷ x ∷ y ∷ z ∷ [])
  in_order w x y z e =
      let h = both (is_code w x) (is_message y z) e in
      let c = code_by w x h.0 in
      let m = message_by y z h.1 in
      rw (c.0, c.1, m.1, m.2) (code_first m.0)

  turned : (w x y z : Held) → is_message w x && is_code y z ≡ true → P (w ∷ x ∷ y ∷ z ∷ [])
  turned w x y z e =
      let h = both (is_message w x) (is_code y z) e in
      let m = message_by w x h.0 in
      let c = code_by y z h.1 in
      rw (c.0, c.1, m.1, m.2) (message_first m.0)

  pub fault_by : (items : List Held) → is_fault items ≡ true → P items
  unfolding is_fault
  fault_by (w ∷ x ∷ y ∷ z ∷ []) e = go (is_code w x && is_message y z) refl e
    where
      go : (b : Bool) → is_code w x && is_message y z ≡ b → b || (is_message w x && is_code y z) ≡ true → P (w ∷ x ∷ y ∷ z ∷ [])
      go true i j = in_order w x y z i
      go false i j = turned w x y z j
  fault_by [] e = clash e refl
  fault_by (w ∷ []) e = clash e refl
  fault_by (w ∷ x ∷ []) e = clash e refl
  fault_by (w ∷ x ∷ y ∷ []) e = clash e refl
  fault_by (w ∷ x ∷ y ∷ z ∷ v ∷ more) e = clash e refl
