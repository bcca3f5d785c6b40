-- Short texts by their first and their last bytes. Assumes nothing.
use Prim.Native.Nat.{ℕ, suc, ◌+◌, ◌-◌, ◌≤◌, ◌<◌}
use mathlib.Core.Path.{◌≡◌, refl, sym, ◌∙◌}
use mathlib.Core.Bool.{Bool, true, false, ◌&&◌}
use mathlib.Core.List.{List}
use native.Mathlib.Omega.{arith}
use native.Mathlib.Numerals.{add-one}
use lib.ListN.{length, get_or, take, drop}
use lib.Seq.{drop-cons}
use lib.Dec.{ltb}
use Rattle.text.specs.Texts.{ascii}
use Rattle.text.specs.Runs.{Run}
use Rattle.text.proofs.Comparing.{both}
use Rattle.text.proofs.Passing.{run_none, run_on, run_more}

first : (n : ℕ) (s : List ℕ) (at next : ℕ) → at < length s → next ≡ at + 1 → ascii (take (suc n) (drop at s)) ≡ (ltb (get_or s at 0) 128 && ascii (take n (drop next s)))
unfolding ascii
first n s at next h e = rw (drop-cons s at 0 h, e, add-one)

none : (s : List ℕ) → ascii (take 0 s) ≡ true
unfolding ascii
none s = refl

in_turn : (a b c d : Bool) → (a && b && c && d) ≡ (a && (b && (c && (d && true))))
in_turn false b c d = refl
in_turn true false c d = refl
in_turn true true false d = refl
in_turn true true true false = refl
in_turn true true true true = refl

pub few : (s : List ℕ) (at : ℕ) {a b c d : Bool} → at + 4 ≤ length s → a ≡ ltb (get_or s at 0) 128 → b ≡ ltb (get_or s (at + 1) 0) 128 → c ≡ ltb (get_or s (at + 2) 0) 128 → d ≡ ltb (get_or s (at + 3) 0) 128 → (a && b && c && d) ≡ ascii (take 4 (drop at s))
few s at {a} {b} {c} {d} h ea eb ec ed =
    in_turn a b c d
    ∙ sym (first 3 s at (at + 1) (omega arith) refl
    ∙ rw (first 2 s (at + 1) (at + 2) (omega arith) (omega arith), first 1 s (at + 2) (at + 3) (omega arith) (omega arith), first 0 s (at + 3) (at + 4) (omega arith) (omega arith), none (drop (at + 4) s), ← ea, ← eb, ← ec, ← ed))

-- the bytes from a later place on, up to the same end
part : {s : List ℕ} {a b c d : ℕ} → Run s a c → a ≤ b → b ≤ d → c ≡ d → Run s b d
part r h l e = record { order = l; inside = omega (arith, r.inside); below = λ k m n. r.below k (omega arith) (omega arith) }

ends : (n : ℕ) {s : List ℕ} {a b : Bool} → n ≤ length s → length s ≤ n + n → a ≡ ascii (take n (drop 0 s)) → b ≡ ascii (take n (drop (length s - n) s)) → (a && b) ≡ true → Run s 0 (length s)
ends n {s} {a} {b} h l ea eb e =
    let k = both a b e in
    let front : Run s 0 (0 + n) = run_more n {at = 0} (omega arith) ea k.0 (run_none (omega arith)) in
    let back : Run s (length s - n) (length s - n + n) = run_more n {at = length s - n} (omega arith) eb k.1 (run_none (omega arith)) in
    run_on front (part back (omega arith) (omega arith) (omega arith))

module _ {s : List ℕ} {a b : Bool} where
  pub ends_four : 4 ≤ length s → length s < 8 → a ≡ ascii (take 4 (drop 0 s)) → b ≡ ascii (take 4 (drop (length s - 4) s)) → (a && b) ≡ true → Run s 0 (length s)
  ends_four h l = ends 4 h (omega arith)

  pub ends_eight : 8 ≤ length s → length s ≤ 16 → a ≡ ascii (take 8 (drop 0 s)) → b ≡ ascii (take 8 (drop (length s - 8) s)) → (a && b) ≡ true → Run s 0 (length s)
  ends_eight h l = ends 8 h (omega arith)

pub ruleset ending = (run_none, few, ends_four, ends_eight)
