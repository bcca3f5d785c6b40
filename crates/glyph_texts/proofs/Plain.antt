-- Short texts whose bytes are below 128. Assumes nothing.
use mathlib.Core.Path.{◌≡◌, refl, sym}
use mathlib.Core.Bool.{Bool, true, false, ◌&&◌, true≢false}
use mathlib.Core.List.{List}
use Prim.Native.Nat.{ℕ, ◌+◌, ◌-◌, ◌≤◌, ◌<◌}
use native.Mathlib.Omega.{arith}
use lib.ListN.{length, take, drop, length-take, length-drop}
use lib.Seq.{get_or-take, get_or-drop}
use Rattle.text.specs.Utf8.{well_formed}
use Rattle.text.specs.Texts.{ascii}
use Rattle.text.specs.Runs.{Run}
use Rattle.text.proofs.Passing.{run_none, run_on, run_more, run_whole}
use Rattle.draft.specs.Bytes.{part}
use Rattle.glyph_texts.specs.Plain.{Plain}

-- bytes within a run of such bytes are UTF-8
within : (s : List ℕ) (o n : ℕ) {a c : ℕ} → Run s a c → a ≤ o → o + n ≤ c → true ≡ well_formed (part s o n)
within s o n r h l = run_whole run whole
  where
    whole : length (part s o n) ≤ n
    whole = simp (length-take, length-drop) (omega arith)

    run : Run (part s o n) 0 n
    run =
        record {
          order = omega arith;
          inside = simp (length-take, length-drop) (omega (arith, r.inside));
          below = λ k i j. rw (get_or-take n (drop o s) k 0 j, get_or-drop o s k 0) (r.below (o + k) (omega arith) (omega arith));
        }

eight_run : (s : List ℕ) (at : ℕ) {b : Bool} → at + 8 ≤ length s → b ≡ ascii (take 8 (drop at s)) → b ≡ true → Run s at (at + 8)
eight_run s at h e f = run_more 8 (omega arith) e f (run_none (omega arith))

both_left : (a b : Bool) → (a && b) ≡ true → a ≡ true
both_left true b e = refl
both_left false b e = e

both_right : (a b : Bool) → (a && b) ≡ true → b ≡ true
both_right true b e = e
both_right false b e = absurd (true≢false (sym e))

module _ (s : List ℕ) (o n : ℕ) where
  pub plain_no : Plain s o n false
  plain_no = record { good = λ i. absurd (true≢false (sym i)) }

  pub plain_eight : {b : Bool} → 8 ≤ o + n → n ≤ 8 → o + n ≤ length s → b ≡ ascii (take 8 (drop (o + n - 8) s)) → Plain s o n b
  plain_eight h l m e = record { good = λ f. within s o n (eight_run s (o + n - 8) (omega arith) e f) (omega arith) (omega arith) }

  pub plain_more : {a b : Bool} → 8 < n → n ≤ 16 → o + n ≤ length s → a ≡ ascii (take 8 (drop (o + n - 8) s)) → b ≡ ascii (take 8 (drop o s)) → Plain s o n (a && b)
  plain_more {a} {b} h l m e f = record { good = λ g. within s o n (joined (both_left a b g) (both_right a b g)) (omega arith) (omega arith) }
    where
      joined : a ≡ true → b ≡ true → Run s o (o + n - 8 + 8)
      joined g k =
          let last = eight_run s (o + n - 8) (omega arith) e g in
          run_on (eight_run s o (omega arith) f k) (record { order = omega arith; inside = last.inside; below = λ q i j. last.below q (omega arith) j })

  pub plain_good : {b : Bool} → Plain s o n b → b ≡ true → true ≡ well_formed (part s o n)
  plain_good p e = p.good e

  pub walked : {t : List ℕ} {b : Bool} → t ≡ part s o n → b ≡ well_formed t → b ≡ well_formed (part s o n)
  walked e f = rw (← e) f

pub ruleset plain = (plain_no, plain_eight, plain_more, plain_good, walked)
