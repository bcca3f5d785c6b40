-- Rows whose Strings were checked before they are walked, and how many bytes these may be. Assumes nothing.
use mathlib.Core.List.{List}
use Prim.Native.Nat.{ℕ, ◌*◌, ◌≤◌}
use native.Mathlib.Omega.{arith}
use native.Mathlib.Nat.{mul-le-mul_right}
use mir.Syntax.{w64}
use mir.Val.{Fits}
use Rattle.draft.specs.declared.Row.{Row}
use Rattle.extents.specs.Asked.{Ready, Checked}

-- no row's Strings were checked before
pub checked_none : {row : ℕ → Row} {s : List ℕ} → Checked row s 0
checked_none = record { fine = λ r h. absurd (omega arith) }

pub all_bytes : {rows room words : ℕ} (n : ℕ) → Ready rows room words → n ≤ 65536 → Fits w64 (rows * n)
all_bytes {rows} n h l =
    let m : rows * n ≤ 4096 * n = mul-le-mul_right n (omega (arith, h.stated, h.most)) in
    omega arith

pub ruleset before = (checked_none, all_bytes)
