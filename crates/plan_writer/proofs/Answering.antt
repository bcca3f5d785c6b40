-- What answers the returns of the functions that write by a plan. Assumes nothing.
use Prim.Native.Nat.{ℕ, ◌-◌, ◌≤◌, ◌<◌}
use mathlib.Core.Path.{◌≡◌, refl, sym, ap, ◌∙◌}
use mathlib.Core.Bool.{Bool, true, false, cond}
use mathlib.Core.List.{List, ◌++◌}
use native.Mathlib.Omega.{arith}
use lib.ListN.{length, replicate}
use lib.Dec.{leb}
use borrow.Author.Tests.{lt-leb, le-leb, leb-true, leb-false}
use Rattle.draft.specs.declared.Refusal.{Refusal}
use Rattle.draft.specs.declared.Refusal.TheVariants.{TooLong, NotWritable, FormTooLong, OutputTooShort, NoLimit}
use Rattle.draft.specs.declared.Row.{Row}
use Rattle.draft.specs.Table.{room_of, row_at, from}
use Rattle.draft.specs.Strings.{texts_of}
use Rattle.draft.specs.Limits.{allowed}
use Rattle.draft.specs.Writable.{writable_to}
use Rattle.draft.specs.Written.{written, rows_of}
use Rattle.buckets.specs.Numbered.{numbered_text}
use Rattle.sending.specs.Contract.{Collected}
use Rattle.message.specs.Filled.{needed, filled, Filled}
use Rattle.plans.specs.Plans.{planned, taken}
use Rattle.plans.proofs.Judging.{taken_long}
use Rattle.plan_message.specs.Contract.{Known}
use Rattle.std.specs.Prelude.{Ok, Err, IsErrAnd}
use Rattle.write_answer.specs.Answers as written
use Rattle.plan_writer.specs.declared.PlanRefusal.TheVariants.{Refused, NotTaken}
use Rattle.plan_writer.specs.Answers.{Answer, given, shorter, chosen, message_for, answer_for, answer_by, answer_of, output_of, Did}
use Rattle.plan_writer.specs.Contract.{RefusedWith, DidBy}

-- the answer is the one without a plan, whose refusal is one with a plan
abbrev by_plan : written.Answer → Answer
by_plan (Ok k) = Ok k
by_plan (Err refusal) = Err (Refused refusal)

answer_is : (n room : ℕ) → by_plan (written.answer_for n room) ≡ answer_for n room
answer_is n room = go (leb n 65536) (leb n room)
  where
    go : (x y : Bool) → by_plan (written.given x FormTooLong (written.given y OutputTooShort (Ok n))) ≡ given x (Err (Refused FormTooLong)) (given y (Err (Refused OutputTooShort)) (Ok n))
    go true true = refl
    go true false = refl
    go false y = refl

-- which of two messages is the shorter, by what is told of the first and the length of the second
module _ (form other : List ℕ) where
  first_shorter : length form ≤ length other → shorter form other ≡ form
  unfolding shorter
  first_shorter h = rw (le-leb (length form) (length other) h)

  second_shorter : length other < length form → shorter form other ≡ other
  unfolding shorter
  second_shorter h = rw (lt-leb (length form) (length other) h)

  needed_by : (length form ≤ 65536 → needed form ≡ length form) × (65536 < length form → needed form ≡ 65537)
  unfolding needed
  needed_by = (λ h. rw (le-leb (length form) 65536 h), λ h. rw (lt-leb (length form) 65536 h))

  -- all messages of more than 65,536 bytes are alike
  filled_long : (o : List ℕ) {o' : List ℕ} {n : ℕ} → 65536 < length form → 65536 < length other → Filled form o o' n → Filled other o o' n
  unfolding needed filled
  filled_long o h k f =
      let a : leb (length form) 65536 ≡ false = lt-leb (length form) 65536 h in
      let b : leb (length other) 65536 ≡ false = lt-leb (length other) 65536 k in
      record { tells = rw b (rw a at f.tells); leaves = rw b (rw a at f.leaves) }

  module _ {o o' : List ℕ} {n m : ℕ} (f : Filled form o o' n) (e : m ≡ length other) where
    fill_form : n ≤ m → Filled (shorter form other) o o' n
    unfolding shorter
    fill_form h = go (leb (length form) 65536) refl
      where
        short : length form ≤ 65536 → length form ≤ length other
        short l = omega (arith, needed_by.0 l, f.tells)

        long : 65536 < length form → 65536 < length other
        long l = omega (arith, needed_by.1 l, f.tells)

        both_long : (x : Bool) → leb (length form) (length other) ≡ x → 65536 < length form → Filled (cond x form other) o o' n
        both_long true q l = f
        both_long false q l = filled_long o l (long l) f

        go : (b : Bool) → leb (length form) 65536 ≡ b → Filled (shorter form other) o o' n
        go true q = rw (first_shorter (short (leb-true (length form) 65536 q))) f
        go false q = both_long (leb (length form) (length other)) refl (leb-false (length form) 65536 q)

    fill_other : {k : ℕ} {o'' : List ℕ} → m < n → length o' ≡ length o → Filled other o' o'' k → Filled (shorter form other) o o'' k
    fill_other h l g =
        let i : length other < length form = go (leb (length form) 65536) refl in
        rw (second_shorter i) (record { tells = g.tells; leaves = g.leaves ∙ ap (filled other) l })
      where
        go : (b : Bool) → leb (length form) 65536 ≡ b → length other < length form
        go true q = omega (arith, needed_by.0 (leb-true (length form) 65536 q), f.tells)
        go false q = omega (arith, needed_by.1 (leb-false (length form) 65536 q), f.tells, leb-false (length form) 65536 q)

-- of rows
module _ (s : List ℕ) (xs : List Row) (plan : List ℕ) {o o' : List ℕ} {n m : ℕ} (f : Filled (written s xs) o o' n) (e : m ≡ length (planned s xs plan)) where
  pub fills_form : n ≤ m → Filled (chosen s xs plan) o o' n
  unfolding chosen
  fills_form h = fill_form (written s xs) (planned s xs plan) f e h

  pub fills_plan : {k : ℕ} {o'' : List ℕ} → m < n → length o' ≡ length o → Filled (planned s xs plan) o' o'' k → Filled (chosen s xs plan) o o'' k
  unfolding chosen
  fills_plan h l g = fill_other (written s xs) (planned s xs plan) f e h l g

-- what is told of a message is enough for the answer, and what is left is what the answer says
module _ (form : List ℕ) (room : ℕ) where
  answer_needed : answer_for (needed form) room ≡ answer_for (length form) room
  unfolding needed
  answer_needed = go (leb (length form) 65536) refl
    where
      go : (b : Bool) → leb (length form) 65536 ≡ b → answer_for (cond b (length form) 65537) room ≡ answer_for (length form) room
      go true e = refl
      go false e = rw e

  output_filled : output_of (answer_for (length form) room) form room ≡ filled form room
  unfolding filled
  output_filled = go (leb (length form) 65536) (leb (length form) room)
    where
      go : (x y : Bool) → output_of (given x (Err (Refused FormTooLong)) (given y (Err (Refused OutputTooShort)) (Ok (length form)))) form room ≡ cond x (cond y (form ++ replicate (room - length form) 0) (replicate room 0)) (replicate room 0)
      go true true = refl
      go true false = refl
      go false y = refl

-- rows whose strings were collected
module _ {row : ℕ → Row} {rows : ℕ} (s plan : List ℕ) {W : List ℕ} {n : ℕ} (c : Collected row rows W n) {b : Bool} (e : b ≡ taken plan (from (numbered_text row W s) 0 n)) where
  taken_is : taken plan (texts_of s (from row 0 rows)) ≡ b
  taken_is = ap (taken plan) (c.texts s) ∙ sym e

  pub by_known : b ≡ true → length s ≤ 65536 → Known row rows s W plan
  by_known f h = record { count = n; strings = c; room = omega (arith, taken_long (numbered_text row W s) plan n (sym e ∙ f)); short = h }

  by_answered : {o o' : List ℕ} {a : Answer} {k : ℕ} → b ≡ true → Filled (chosen s (from row 0 rows) plan) o o' k → a ≡ answer_for k (length o) → DidBy s (from row 0 rows) plan o o' a
  unfolding answer_by
  by_answered {o} {a = a} f g h =
      let m = chosen s (from row 0 rows) plan in
      let p : a ≡ answer_for (length m) (length o) = h ∙ ap (λ (x : ℕ). answer_for x (length o)) g.tells ∙ answer_needed m (length o) in
      record {
        says = p ∙ sym (rw (taken_is, f));
        leaves = g.leaves ∙ sym (ap (λ (x : Answer). output_of x m (length o)) p ∙ output_filled m (length o));
      }

  -- the answer without a plan, whose length is told and whose refusal becomes one with a plan
  module _ {o o' : List ℕ} {k : ℕ} (f : b ≡ true) (g : Filled (chosen s (from row 0 rows) plan) o o' k) where
    pub by_written : {m : ℕ} → Ok m ≡ written.answer_for k (length o) → DidBy s (from row 0 rows) plan o o' (Ok m)
    by_written h = by_answered f g (ap by_plan h ∙ answer_is k (length o))

    pub by_unwritten : (a : Answer) {refusal : Refusal} → IsErrAnd a (λ e. e ≡ Refused refusal) → Err refusal ≡ written.answer_for k (length o) → DidBy s (from row 0 rows) plan o o' a
    by_unwritten (Ok m) i h = absurd i
    by_unwritten (Err e) i h = rw i (by_answered f g (ap by_plan h ∙ answer_is k (length o)))

  pub by_refused : {o o' : List ℕ} {a : Answer} → b ≡ false → RefusedWith NotTaken o o' a → DidBy s (from row 0 rows) plan o o' a
  unfolding answer_by
  by_refused f r = record { says = r.says ∙ sym (rw (taken_is, f)); leaves = r.leaves ∙ rw r.says }

-- the whole answer
module _ (limit : ℕ) (T : List ℕ) (rows : ℕ) (s plan : List ℕ) {o o' : List ℕ} {a : Answer} where
  pub did_unlimited : {l : Bool} → l ≡ allowed limit → l ≡ false → RefusedWith (Refused NoLimit) o o' a → Did limit T rows s plan o o' a
  unfolding answer_of
  did_unlimited k i r = let q : allowed limit ≡ false = sym k ∙ i in record { says = r.says ∙ sym (rw q); leaves = r.leaves ∙ rw r.says }

  pub did_long : allowed limit ≡ true → 65536 < length s → RefusedWith (Refused TooLong) o o' a → Did limit T rows s plan o o' a
  unfolding answer_of
  did_long i h r = record { says = r.says ∙ sym (rw (i, lt-leb (length s) 65536 h)); leaves = r.leaves ∙ rw r.says }

  module _ (i : allowed limit ≡ true) (h : length s ≤ 65536) {b : Bool} (e : b ≡ writable_to limit T rows s) where
    pub did_unfit : b ≡ false → RefusedWith (Refused NotWritable) o o' a → Did limit T rows s plan o o' a
    unfolding answer_of
    did_unfit f r =
        let w : writable_to limit T rows s ≡ false = sym e ∙ f in
        record { says = r.says ∙ sym (rw (i, le-leb (length s) 65536 h, w)); leaves = r.leaves ∙ rw r.says }

    pub did_rows : {room : ℕ} → b ≡ true → room ≡ room_of 4096 (length T) → DidBy s (from (row_at room T) 0 rows) plan o o' a → Did limit T rows s plan o o' a
    unfolding answer_of message_for rows_of
    did_rows f g r =
        let w : writable_to limit T rows s ≡ true = sym e ∙ f in
        record { says = r.says ∙ sym (rw (i, le-leb (length s) 65536 h, w, g)); leaves = rw g at r.leaves }
