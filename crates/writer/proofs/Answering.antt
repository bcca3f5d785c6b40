-- What answers the returns of the functions that give the writer's answer. Assumes nothing.
use Prim.Native.Nat.{ℕ, ◌-◌, ◌≤◌, ◌<◌}
use mathlib.Core.Path.{◌≡◌, refl, sym, ap, ◌∙◌}
use mathlib.Core.Bool.{Bool, true, false, cond}
use mathlib.Core.List.{List, ◌++◌}
use lib.ListN.{length, replicate}
use lib.Dec.{leb}
use borrow.Author.Tests.{lt-leb, le-leb}
use Rattle.draft.specs.declared.Refusal.TheVariants.{TooLong, NotWritable, FormTooLong, OutputTooShort, NoLimit}
use Rattle.draft.specs.Limits.{allowed}
use Rattle.draft.specs.Table.{room_of, row_at, from}
use Rattle.draft.specs.Writable.{writable_to}
use Rattle.draft.specs.Written.{written, rows_of}
use Rattle.message.specs.Filled.{needed, filled, Filled}
use Rattle.std.specs.Prelude.{Ok}
use Rattle.write_answer.specs.Answers.{Answer, given, answer_for, answer_to, form_of, answer_of, output_of, Did}
use Rattle.writer.specs.Contract.{RefusedWith}

-- what is told of a form is enough for the answer, and what is left is what the answer says
module _ (form : List ℕ) (room : ℕ) where
  answer_needed : answer_for (needed form) room ≡ answer_for (length form) room
  unfolding needed
  answer_needed = go (leb (length form) 65536) refl
    where
      go : (b : Bool) → leb (length form) 65536 ≡ b → answer_for (cond b (length form) 65537) room ≡ answer_for (length form) room
      go true e = refl
      go false e = rw e

  output_filled : output_of (answer_for (length form) room) form room ≡ filled form room
  unfolding filled
  output_filled = go (leb (length form) 65536) (leb (length form) room)
    where
      go : (x y : Bool) → output_of (given x FormTooLong (given y OutputTooShort (Ok (length form)))) form room ≡ cond x (cond y (form ++ replicate (room - length form) 0) (replicate room 0)) (replicate room 0)
      go true true = refl
      go true false = refl
      go false y = refl

form_is : (T : List ℕ) (rows : ℕ) (s : List ℕ) {room : ℕ} → room ≡ room_of 4096 (length T) → written s (from (row_at room T) 0 rows) ≡ form_of T rows s
unfolding form_of rows_of
form_is T rows s g = rw g

-- the whole answer
module _ (limit : ℕ) (T : List ℕ) (rows : ℕ) (s : List ℕ) {o o' : List ℕ} {a : Answer} where
  pub did_unlimited : {l : Bool} → l ≡ allowed limit → l ≡ false → RefusedWith NoLimit o o' a → Did limit T rows s o o' a
  unfolding answer_of
  did_unlimited k i r = let q : allowed limit ≡ false = sym k ∙ i in record { says = r.says ∙ sym (rw q); leaves = r.leaves ∙ rw r.says }

  pub did_long : allowed limit ≡ true → 65536 < length s → RefusedWith TooLong o o' a → Did limit T rows s o o' a
  unfolding answer_of
  did_long i h r = record { says = r.says ∙ sym (rw (i, lt-leb (length s) 65536 h)); leaves = r.leaves ∙ rw r.says }

  module _ (i : allowed limit ≡ true) (h : length s ≤ 65536) {b : Bool} (e : b ≡ writable_to limit T rows s) where
    pub did_unfit : b ≡ false → RefusedWith NotWritable o o' a → Did limit T rows s o o' a
    unfolding answer_of
    did_unfit f r =
        let w : writable_to limit T rows s ≡ false = sym e ∙ f in
        record { says = r.says ∙ sym (rw (i, le-leb (length s) 65536 h, w)); leaves = r.leaves ∙ rw r.says }

    pub did_rows : {room n : ℕ} → b ≡ true → room ≡ room_of 4096 (length T) → Filled (written s (from (row_at room T) 0 rows)) o o' n → a ≡ answer_for n (length o) → Did limit T rows s o o' a
    unfolding answer_of answer_to
    did_rows {room} {n} f g r j =
        let w : writable_to limit T rows s ≡ true = sym e ∙ f in
        let q : written s (from (row_at room T) 0 rows) ≡ form_of T rows s = form_is T rows s g in
        let p : a ≡ answer_for (length (form_of T rows s)) (length o) = j ∙ ap (λ (m : ℕ). answer_for m (length o)) (r.tells ∙ ap needed q) ∙ answer_needed (form_of T rows s) (length o) in
        record {
          says = p ∙ sym (rw (i, le-leb (length s) 65536 h, w));
          leaves = r.leaves ∙ ap (λ (form : List ℕ). filled form (length o)) q ∙ sym (ap (λ (x : Answer). output_of x (form_of T rows s) (length o)) p ∙ output_filled (form_of T rows s) (length o));
        }
