-- Members that stand one behind the other: each is a key's row and the row behind it, and the next begins behind both. Assumes nothing.
use mathlib.Core.List.{List, [], ◌∷◌}
use Prim.Native.Nat.{ℕ, ◌+◌, ◌*◌, ◌≤◌, ◌<◌}
use native.Mathlib.Omega.{arith}
use lib.ListN.{length}
use Rattle.member.specs.declared.Member.{Member}
use Rattle.member.specs.Members.{member_of}

-- members among so many rows, the first at row r or behind it
pub data Apart (rows : ℕ) : ℕ → List Member → Type 0 where
  none_apart : {r : ℕ} → Apart rows r []
  and_apart : {r : ℕ} (k : ℕ) (ms : List Member) → r ≤ k → k + 1 < rows → Apart rows (k + 2) ms → Apart rows r (member_of k (k + 1) ∷ ms)

pub apart_from : {rows q r : ℕ} {ms : List Member} → q ≤ r → Apart rows r ms → Apart rows q ms
apart_from h none_apart = none_apart
apart_from {q = q} h (and_apart k ms i j a) = and_apart {r = q} k ms (omega arith) j a

-- two rows for each
pub apart_few : {rows r : ℕ} {ms : List Member} → Apart rows r ms → r ≤ rows → r + 2 * length ms ≤ rows
apart_few none_apart h = omega arith
apart_few (and_apart k ms i j a) h = omega (arith, apart_few a (omega arith))

-- so few are there in a table
pub apart_half : {rows r : ℕ} {ms : List Member} → Apart rows r ms → 1 ≤ r → rows ≤ 4096 → length ms ≤ 2047
apart_half none_apart h l = omega arith
apart_half {rows} {r} (and_apart k ms i j a) h l = omega (arith, apart_few (and_apart {r = r} k ms i j a) (omega arith))
