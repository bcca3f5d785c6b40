-- What answers each return of the functions that read a whole message. Assumes nothing.
use mathlib.Core.Path.{◌≡◌}
use mathlib.Core.Bool.{Bool, true, false}
use mathlib.Core.List.{List}
use Prim.Native.Nat.{ℕ, ◌≤◌, ◌<◌}
use lib.ListN.{length, replicate}
use borrow.Author.Tests.{le-leb, lt-leb}
use Rattle.draft.specs.declared.Refusal.TheVariants.{Ended, WrongPrefix, TooLong, NoLimit}
use Rattle.draft.specs.Limits.{allowed}
use Rattle.draft.specs.Codebook.{clear}
use Rattle.draft.specs.Table.{room_of}
use Rattle.draft.specs.Read.{call_or_response, prefix, agree, message, message_within}
use Rattle.draft.proofs.Limiting.{limit_is}
use Rattle.read_answer.specs.declared.Answer.{Answer}
use Rattle.read_answer.specs.declared.Answer.TheVariants as answer
use Rattle.read_answer.specs.Answers.{reading, Answers}

-- the whole message
pub read_unlimited : (s : List ℕ) (words limit : ℕ) {T' : List ℕ} {a : Bool} → a ≡ allowed limit → a ≡ false → T' ≡ replicate words 0 → Answers (reading limit s words) words T' (answer.Refused NoLimit 0)
unfolding reading
read_unlimited s words limit p q w = let g : allowed limit ≡ false = cc in record { says = simp (g); leaves = simp (g, w) }

-- by a limit that may be stated
pub read_stated : (s : List ℕ) (words limit words₁ : ℕ) {T' : List ℕ} {r : Answer} → Answers (reading limit s words₁) words₁ T' r → words₁ ≡ words → Answers (reading limit s words) words T' r
read_stated s words limit words₁ d k = rw (← k) d

module _ (s : List ℕ) (words limit : ℕ) (stated : allowed limit ≡ true) where
  pub read_long : {T' : List ℕ} → T' ≡ replicate words 0 → 65536 < length s → Answers (reading limit s words) words T' (answer.Refused TooLong 0)
  unfolding reading message_within
  read_long w h = record { says = simp (stated, lt-leb _ _ h); leaves = simp (stated, lt-leb _ _ h, w) }

  module _ {b : Bool} (h : length s ≤ 65536) (v : b ≡ agree s prefix) where
    pub read_wrong : {T' : List ℕ} → b ≡ false → T' ≡ replicate words 0 → Answers (reading limit s words) words T' (answer.Refused WrongPrefix 0)
    unfolding reading message_within message
    read_wrong i w = let e : agree s prefix ≡ false = cc in record { says = simp (stated, le-leb _ _ h, e); leaves = simp (stated, le-leb _ _ h, e, w) }

    module _ (i : b ≡ true) where
      pub read_short : {T' : List ℕ} → T' ≡ replicate words 0 → length s < 12 → Answers (reading limit s words) words T' (answer.Refused Ended 0)
      unfolding reading message_within message
      read_short w l = let e : agree s prefix ≡ true = cc in record { says = simp (stated, le-leb _ _ h, e, lt-leb _ _ l); leaves = simp (stated, le-leb _ _ h, e, lt-leb _ _ l, w) }

      pub read_on : (words₁ : ℕ) {T' : List ℕ} {r : Answer} → 12 ≤ length s → Answers (call_or_response s (room_of 4096 words₁) limit 12 0 clear) words₁ T' r → words₁ ≡ words → Answers (reading limit s words) words T' r
      unfolding reading message_within message
      read_on words₁ l d k = let e : agree s prefix ≡ true = cc in rw (stated, le-leb _ _ h, e, le-leb _ _ l, ← k) d

pub zeros : (words words₁ : ℕ) {T : List ℕ} → T ≡ replicate words 0 → words₁ ≡ words → T ≡ replicate words₁ 0
zeros words words₁ e k = rw k e

pub ruleset whole = (limit_is, read_unlimited, read_stated, read_long, read_wrong, read_short, read_on, zeros)
