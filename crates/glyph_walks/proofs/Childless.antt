-- Objects without children: what walking their content asks. Assumes nothing.
use mathlib.Core.Path.{◌≡◌, refl}
use mathlib.Core.List.{List}
use Prim.Native.Nat.{ℕ, ◌<◌}
use native.Mathlib.Omega.{arith}
use Rattle.draft.specs.declared.Content.TheVariants.{Binary, Text}
use Rattle.draft.specs.declared.Row.{Row}
use Rattle.draft.specs.Table.{row_at}
use Rattle.extents.specs.Asked.{Walkable, Known}
use Rattle.extents.proofs.Walking.{known_only}
use Rattle.glyph_walks.specs.Contract.{Here}

module _ {s : List ℕ} {room rows : ℕ} {T : List ℕ} {good : ℕ} {x : Row} {r : ℕ} (a : Walkable s room rows T good) (h : Here (row_at room T) rows x r) where
  pub few : r < 4096
  few = omega (arith, a.ready.stated, a.ready.most, h.inside)

  pub bytes_known : x.kind ≡ 8 → Known s Binary x r good
  bytes_known i = known_only (row_at room T) a.checked h.is refl i

  pub unicode_known : x.kind ≡ 11 → Known s Text x r good
  unicode_known i = known_only (row_at room T) a.checked h.is refl i

pub ruleset leafs = (few, bytes_known, unicode_known)
