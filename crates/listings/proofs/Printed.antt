-- What document 01 says that the listing program prints. Assumes nothing.
use mathlib.Core.Path.{◌≡◌, refl}
use mathlib.Core.List.{List, [], ◌∷◌}
use Prim.Native.Nat.{ℕ}
use Rattle.draft.specs.declared.Refusal.TheVariants.{UnsetPosition}
use Rattle.draft.specs.Table.{place, row_at}
use Rattle.read_answer.specs.declared.Answer.TheVariants.{Accepted, Refused}
use Rattle.spelling.specs.Line.{digits}
use Rattle.listings.specs.Listing.{row_lines, listing}

-- P3: `rows 2 used 18`, `0 2 0 1 2`, `1 4 4 0 2`
pub prints_rows : listing (Accepted 2 18) (2 ∷ 4 ∷ 0 ∷ 4 ∷ 1 ∷ 0 ∷ 2 ∷ 2 ∷ []) ≡ 114 ∷ 111 ∷ 119 ∷ 115 ∷ 32 ∷ 50 ∷ 32 ∷ 117 ∷ 115 ∷ 101 ∷ 100 ∷ 32 ∷ 49 ∷ 56 ∷ 10 ∷ 48 ∷ 32 ∷ 50 ∷ 32 ∷ 48 ∷ 32 ∷ 49 ∷ 32 ∷ 50 ∷ 10 ∷ 49 ∷ 32 ∷ 52 ∷ 32 ∷ 52 ∷ 32 ∷ 48 ∷ 32 ∷ 50 ∷ 10 ∷ []
unfolding digits row_lines row_at place
prints_rows = refl

-- P7: `refused 6 at 13`
pub prints_refusal : (T : List ℕ) → listing (Refused UnsetPosition 13) T ≡ 114 ∷ 101 ∷ 102 ∷ 117 ∷ 115 ∷ 101 ∷ 100 ∷ 32 ∷ 54 ∷ 32 ∷ 97 ∷ 116 ∷ 32 ∷ 49 ∷ 51 ∷ 10 ∷ []
unfolding digits
prints_refusal T = refl
