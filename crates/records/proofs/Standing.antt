-- A card's body lies in the file, and it is found whatever stands behind it; the next card is found from its end. Assumes nothing.
use mathlib.Core.Path.{◌≡◌, ap, ◌∙◌}
use mathlib.Core.List.{List, ◌++◌}
use Prim.Native.Nat.{ℕ, ◌+◌, ◌≤◌}
use native.Mathlib.Omega.{arith}
use lib.ListN.{length, take, drop, length-drop}
use lib.Seq.{drop-append-le, take-append-le}
use Rattle.draft.specs.Bytes.{part}
use Rattle.records.specs.Job.{Found, body_at, record_length, find, body_of}
use Rattle.records.proofs.Finding.{same_body}
use Rattle.records.proofs.Trails.{Trail, cut, asked, ended, wrong, passed, other, trail}

-- a body lies behind its record's first six bytes, and in the file
pub record Lies (at start size : ℕ) (s : List ℕ) : Type 0 where
  pub after : at + 6 ≤ start
  pub within : start + size ≤ at + length s

further : {at start size : ℕ} {s : List ℕ} → record_length s ≤ length s → Lies (at + record_length s) start size (drop (record_length s) s) → Lies at start size s
further {s = s} w l = record { after = omega (arith, l.after); within = omega (arith, l.within, length-drop (record_length s) s) }

trail_lies : {n cards at start size : ℕ} {s : List ℕ} {f : Found} → Trail n cards at s f → f ≡ body_at start size → Lies at start size s
trail_lies (cut h) e = let z : ◌≡◌ {A = ℕ} 0 1 = cc in absurd (omega arith)
trail_lies (ended w k i) e = let z : ◌≡◌ {A = ℕ} 0 1 = cc in absurd (omega arith)
trail_lies (wrong w k i) e = let z : ◌≡◌ {A = ℕ} 0 1 = cc in absurd (omega arith)
trail_lies {at = at} {start = start} {size = size} {s = s} (asked w k i) e =
    let i = same_body e in
    record { after = omega (arith, i.0); within = omega (arith, i.0, i.1) }
trail_lies (passed w k i t) e = further w (trail_lies t e)
trail_lies (other w k t) e = further w (trail_lies t e)

pub lies_from : (n cards at : ℕ) (s : List ℕ) {start size : ℕ} → find n cards at 0 s ≡ body_at start size → Lies at start size s
lies_from n cards at s e = trail_lies (trail n cards at s) e

pub lies : (s : List ℕ) (n : ℕ) {start size : ℕ} → body_of s n ≡ body_at start size → start + size ≤ length s
lies s n e = omega (arith, (lies_from n 0 0 s e).within)

-- what lies in u has the bytes of u, whatever follows
pub part_stands : (u t : List ℕ) (start size : ℕ) → start + size ≤ length u → part (u ++ t) start size ≡ part u start size
part_stands u t start size h =
    ap (take size) (drop-append-le start u t (omega arith)) ∙ take-append-le size (drop start u) t (omega (arith, length-drop start u))
