-- The words of a table: a message refused with 1 is so with more of them, and reading leaves as many as there were. Assumes nothing.
use mathlib.Core.Path.{◌≡◌, refl, ◌∙◌, ap}
use mathlib.Core.Bool.{Bool, true, false, cond}
use mathlib.Core.List.{List}
use Prim.Native.Nat.{ℕ, ◌≤◌}
use native.Mathlib.Omega.{arith}
use lib.ListN.{length, replicate, length-replicate}
use lib.Dec.{leb}
use Rattle.draft.specs.declared.Refusal.{Refusal}
use Rattle.draft.specs.declared.Refusal.TheVariants.{TooLong, TooDeep, NoRow, NoLimit}
use Rattle.draft.specs.Refusals.{number_of}
use Rattle.draft.specs.Limits.{allowed}
use Rattle.draft.specs.Table.{room_of}
use Rattle.draft.specs.Read.{Reading, got, refused, message, message_within}
use Rattle.table.proofs.Rows.{length_put_rows}
use Rattle.read_answer.specs.Answers.{reading, table_of}
use Rattle.exact.proofs.Growing.{no_longer, message_stays}
use Rattle.exact.proofs.Concluding.{stays_but}
use Rattle.text.proofs.Comparing.{clash}

pub length_table : (words : ℕ) (o : Reading) → length (table_of words o) ≡ words
length_table words (got rows used book) = length_put_rows (room_of 4096 words) (replicate words 0) 0 rows ∙ length-replicate words 0
length_table words (refused m q) = length-replicate words 0

pub more_words : (limit : ℕ) (s : List ℕ) (k words : ℕ) → k ≤ words → {m : Refusal} {q : ℕ} → reading limit s k ≡ refused m q → number_of m ≡ 1 → reading limit s words ≡ refused m q
unfolding reading message_within
more_words limit s k words h {m} {q} e i = stated (allowed limit) e
  where
    not_deep : message s (room_of 4096 k) limit ≡ refused m q → (p : ℕ) → message s (room_of 4096 k) limit ≡ refused TooDeep p → ⊥
    not_deep f p g = let j : m ≡ TooDeep = cc in omega (arith, i, ap number_of j)

    not_full : message s (room_of 4096 k) limit ≡ refused m q → (p : ℕ) → message s (room_of 4096 k) limit ≡ refused NoRow p → ⊥
    not_full f p g = let j : m ≡ NoRow = cc in omega (arith, i, ap number_of j)

    by :
        (b : Bool) → cond b (message s (room_of 4096 k) limit) (refused TooLong 0) ≡ refused m q
        → cond b (message s (room_of 4096 words) limit) (refused TooLong 0) ≡ refused m q
    by true f =
        stays_but (message_stays s s (room_of 4096 k) (room_of 4096 words) (no_longer s) (omega arith) limit limit (omega arith)) (λ z. clash z refl) (not_deep f) (not_full f)
        ∙ f
    by false f = f

    stated :
        (a : Bool) → cond a (cond (leb (length s) 65536) (message s (room_of 4096 k) limit) (refused TooLong 0)) (refused NoLimit 0) ≡ refused m q
        → cond a (cond (leb (length s) 65536) (message s (room_of 4096 words) limit) (refused TooLong 0)) (refused NoLimit 0) ≡ refused m q
    stated true f = by (leb (length s) 65536) f
    stated false f = f
