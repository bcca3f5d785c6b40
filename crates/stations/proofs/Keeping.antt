-- Every call keeps the length of the share that it is lent. Assumes nothing.
use mathlib.Core.Path.{◌≡◌, refl, ◌∙◌}
use mathlib.Core.Bool.{Bool, true, false, ◌&&◌, cond}
use mathlib.Core.List.{List}
use Prim.Native.Nat.{ℕ, ◌*◌, ◌/◌, ◌<◌}
use native.Mathlib.Omega.{arith}
use lib.ListN.{length, drop, replicate, length-append, length-drop, length-replicate}
use lib.Dec.{ltb}
use borrow.Author.Tests.{ltb-true}
use Rattle.std.specs.Prelude.{Ok, Err}
use Rattle.text.proofs.Comparing.{both}
use Rattle.draft.specs.Bytes.{part}
use Rattle.draft.specs.Limits.{allowed}
use Rattle.read_answer.specs.Answers.{reading}
use Rattle.rereading.specs.Rereading.{refused_with_one, table_tried, table_read}
use Rattle.rereading.proofs.Words.{length_table}
use Rattle.records.specs.Job.{body_of, Found, body_at, missing_at}
use Rattle.job.specs.Cards.{table_for}
use Rattle.pieces.specs.declared.State.{State}
use Rattle.pieces.specs.declared.State.TheVariants.{More, Accepted, Refused}
use Rattle.pieces.specs.Steps.{then_left, bytes_held, table_went, table_closed}
use Rattle.station_reading.specs.Answers.{read_words, card_words}
use Rattle.station_pieces.specs.Steps.{next_words, end_words}

pub read_keeps : (limit : ℕ) (s W : List ℕ) → length (read_words limit s W) ≡ length W
unfolding read_words
read_keeps limit s W = length_table (length W) (reading limit s (length W))

pub card_keeps : (s : List ℕ) (n : ℕ) (W : List ℕ) → length (card_words s n W) ≡ length W
unfolding card_words
card_keeps s n W = go (body_of s n)
  where
    go : (f : Found) → length (table_for s (length W) f) ≡ length W
    go (Ok body) = length_table (length W) (reading 32 (part s body.start body.length) (length W))
    go (Err none) = length-replicate (length W) 0

pick_keeps : (b : Bool) (xs ys : List ℕ) (n : ℕ) → (b ≡ true → length xs ≡ n) → length ys ≡ n → length (cond b xs ys) ≡ n
pick_keeps true xs ys n p q = p refl
pick_keeps false xs ys n p q = q

tried_keeps : (limit k : ℕ) (s W : List ℕ) → k < length W → length (table_tried limit k s W) ≡ length W
tried_keeps limit k s W h =
    pick_keeps (refused_with_one (reading limit s k)) _ _ (length W)
    (λ e. length-append (replicate k 0) (drop k W) ∙ omega (arith, length-replicate {A = ℕ} k 0, length-drop k W))
    (length_table (length W) (reading limit s (length W)))

again_keeps : (limit wanted : ℕ) (s W : List ℕ) → length (table_read limit wanted s W) ≡ length W
again_keeps limit wanted s W =
    pick_keeps (ltb 0 wanted && ltb (length s) (length W / 4)) _ _ (length W)
    (λ e. tried_keeps limit (4 * length s) s W (omega (arith, ltb-true (length s) (length W / 4) (both (ltb 0 wanted) _ e).1)))
    (length_table (length W) (reading limit s (length W)))

went_keeps : (limit : ℕ) (state : State) (p R W : List ℕ) → length (table_went limit state p R W) ≡ length W
unfolding table_went
went_keeps limit (More held wanted place) p R W =
    pick_keeps (ltb 65536 held) _ _ (length W) (λ e. refl)
    (pick_keeps (ltb _ wanted) _ _ (length W) (λ e. refl) (again_keeps limit wanted (bytes_held held p R) W))
went_keeps limit (Accepted rows used) p R W = refl
went_keeps limit (Refused m place) p R W = refl

-- zeros, where something is refused before all else
first_keeps : (limit bytes : ℕ) (left W : List ℕ) → length left ≡ length W → length (then_left limit bytes (replicate (length W) 0) left) ≡ length W
first_keeps limit bytes left W e =
    pick_keeps (allowed limit) _ _ (length W)
    (λ f. pick_keeps (ltb bytes 65536) _ _ (length W) (λ g. length-replicate (length W) 0) e)
    (length-replicate (length W) 0)

pub next_keeps : (limit : ℕ) (state : State) (p R W : List ℕ) → length (next_words limit state p R W) ≡ length W
unfolding next_words
next_keeps limit state p R W =
    first_keeps limit (length R) _ W (went_keeps limit state p R W)

closed_keeps : (state : State) (W : List ℕ) → length (table_closed state W) ≡ length W
closed_keeps (More held wanted place) W = length-replicate (length W) 0
closed_keeps (Accepted rows used) W = refl
closed_keeps (Refused m place) W = refl

pub end_keeps : (limit : ℕ) (state : State) (bytes : ℕ) (W : List ℕ) → length (end_words limit state bytes W) ≡ length W
unfolding end_words
end_keeps limit state bytes W =
    first_keeps limit bytes _ W (closed_keeps state W)
