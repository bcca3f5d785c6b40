-- Reading by the limit of nesting that a call states: within it, or 23. Assumes nothing.
use mathlib.Core.Path.{◌≡◌, refl}
use mathlib.Core.Bool.{Bool, true, false}
use mathlib.Core.List.{List}
use Prim.Native.Nat.{ℕ}
use native.Mathlib.Omega.{arith}
use Rattle.draft.specs.declared.Refusal.TheVariants.{NoLimit}
use Rattle.draft.specs.declared.Row.{Row}
use Rattle.draft.specs.Limits.{allowed}
use Rattle.draft.specs.Codebook.{Book}
use Rattle.draft.specs.Table.{room_of}
use Rattle.draft.specs.Read.{Reading, got, refused, message_within}
use Rattle.read_answer.specs.Answers.{reading}

module _ (limit : ℕ) (s : List ℕ) (words : ℕ) where
  -- the reading within the limit
  abbrev pub within : Reading
  within = message_within 65536 s (room_of 4096 words) limit

  pub reading_within : allowed limit ≡ true → reading limit s words ≡ within
  unfolding reading
  reading_within e = rw e

  pub reading_unlimited : allowed limit ≡ false → reading limit s words ≡ refused NoLimit 0
  unfolding reading
  reading_unlimited e = rw e

  -- whatever is answered but 23 is answered within it
  pub reading_not : ((at : ℕ) → reading limit s words ≡ refused NoLimit at → ⊥) → allowed limit ≡ true
  reading_not h = go (allowed limit) refl
    where
      go : (b : Bool) → allowed limit ≡ b → allowed limit ≡ true
      go true e = e
      go false e = absurd (h 0 (reading_unlimited e))

  pub reading_got : {rows : List Row} {used : ℕ} {book : Book} → reading limit s words ≡ got rows used book → allowed limit ≡ true
  reading_got e = reading_not (λ at f. let z : ◌≡◌ {A = ℕ} 0 1 = cc in omega arith)

  pub got_within : {rows : List Row} {used : ℕ} {book : Book} → reading limit s words ≡ got rows used book → within ≡ got rows used book
  got_within e = rw (reading_within (reading_got e)) at e
