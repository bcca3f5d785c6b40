-- What is known behind a key, if there is one. Assumes nothing.
use mathlib.Core.Path.{◌≡◌, refl, ap, ◌∙◌}
use mathlib.Core.Bool.{Bool, true, false}
use mathlib.Core.List.{List}
use Prim.Native.Nat.{ℕ, ◌≤◌}
use native.Mathlib.Omega.{arith}
use lib.ListN.{length}
use Rattle.item.proofs.Stepping.{did_next}
use Rattle.item.specs.Contract.{Step, step_number, step_at, step_row}
use Rattle.member_keys.specs.Contract.{Prepared, KeyIf}

-- what follows a key, or nothing
pub keyed_ready : {keyed : Bool} {s : List ℕ} {room owner at r : ℕ} {T T₁ W W₁ N N₁ : List ℕ} {key : Step} → KeyIf keyed s room owner at r T T₁ W W₁ N N₁ key → step_number key ≡ 0 → Prepared s at r room T W N → length T₁ ≡ length T → length W₁ ≡ length W → length N₁ ≡ length N → Prepared s (step_at key) (step_row key) room T₁ W₁ N₁
keyed_ready {keyed = true} k e p t w n =
    let d = k.some refl in
    let g = did_next d.did e in
    let f = p.ready.fitting in
    record {
      ready = record { fitting = record { within = g.within; fits = g.fits; rows = f.rows; table = rw t f.table; message = f.message }; book = w ∙ p.ready.book };
      entries = record { behind = d.joined.behind e; enough = rw n p.entries.enough; most = rw n p.entries.most };
      noted = (d.joined.joins e).noted;
    }
keyed_ready {keyed = false} k e p t w n = let z = k.none refl in rw (z.says, z.table, z.book, z.notes) p

pub keyed_ahead : {keyed : Bool} {s : List ℕ} {room owner at r : ℕ} {T T₁ W W₁ N N₁ : List ℕ} {key : Step} → KeyIf keyed s room owner at r T T₁ W W₁ N N₁ key → step_number key ≡ 0 → at ≤ (step_at key)
keyed_ahead {keyed = true} k e = let g = did_next (k.some refl).did e in omega (arith, g.ahead)
keyed_ahead {keyed = false} k e = omega (arith, ap (λ (x : Step). step_at x) (k.none refl).says)
