-- What answers the returns and turns of the functions that pass runs of bytes below 128. Assumes nothing.
use mathlib.Core.Path.{◌≡◌, refl, sym, ap, ◌∙◌}
use mathlib.Core.Bool.{Bool, true, false, ◌&&◌, beq, and_assoc}
use mathlib.Core.List.{List, [], ◌∷◌}
use Prim.Native.Nat.{ℕ, zero, suc, ◌+◌, ◌*◌, ◌-◌, ◌≤◌, ◌<◌}
use native.Mathlib.Omega.{arith}
use native.Mathlib.Numerals.{add-one}
use native.Mathlib.Nat.{zero-add, add-zero, suc-add}
use lib.Bits.{bit_and, and_block}
use lib.ListN.{length, get_or, take, drop, length-take, length-drop}
use lib.Seq.{take-nil, drop-cons, drop-drop, get_or-drop, get_or-take}
use lib.Dec.{eqb, ltb}
use borrow.Author.Tests.{eqb-true, eqb-false, eq-eqb, ne_eqb, ltb-true, ltb-false}
use Rattle.text.specs.Utf8.{well_formed}
use Rattle.text.specs.Texts.{ascii}
use Rattle.text.specs.Runs.{Run, number}
use Rattle.text.proofs.Bytewise.{agree}
use Rattle.text.proofs.Comparing.{clash, both, Left}
use Rattle.text.proofs.Walking.{Bytes, byte, pass_single, walk_done, walk_single}

-- the number of the bytes at a place, by the first and the number of the others
first : (n : ℕ) (s : List ℕ) (at next : ℕ) → at < length s → next ≡ at + 1 → number (take (suc n) (drop at s)) ≡ number (take n (drop next s)) * 256 + get_or s at 0
unfolding number
first n s at next h e = rw (drop-cons s at 0 h, e, add-one)

none : (s : List ℕ) → number (take 0 s) ≡ 0
unfolding number
none s = refl

pub word : (s : List ℕ) (at : ℕ) {a b c d e f g h : ℕ} → at + 8 ≤ length s → a ≡ get_or s at 0 → b ≡ get_or s (at + 1) 0 → c ≡ get_or s (at + 2) 0 → d ≡ get_or s (at + 3) 0 → e ≡ get_or s (at + 4) 0 → f ≡ get_or s (at + 5) 0 → g ≡ get_or s (at + 6) 0 → h ≡ get_or s (at + 7) 0 → a + b * 0x100 + c * 0x10000 + d * 0x1000000 + e * 0x100000000 + f * 0x10000000000 + g * 0x1000000000000 + h * 0x100000000000000 ≡ number (take 8 (drop at s))
word s at l ea eb ec ed ee ef eg eh =
    let fa = first 7 s at (at + 1) (omega arith) refl in
    let fb = first 6 s (at + 1) (at + 2) (omega arith) (omega arith) in
    let fc = first 5 s (at + 2) (at + 3) (omega arith) (omega arith) in
    let fd = first 4 s (at + 3) (at + 4) (omega arith) (omega arith) in
    let fe = first 3 s (at + 4) (at + 5) (omega arith) (omega arith) in
    let ff = first 2 s (at + 5) (at + 6) (omega arith) (omega arith) in
    let fg = first 1 s (at + 6) (at + 7) (omega arith) (omega arith) in
    let fh = first 0 s (at + 7) (at + 8) (omega arith) (omega arith) in
    omega (arith, none (drop (at + 8) s))

-- the highest bits of n bytes
high_bits : ℕ → ℕ
high_bits zero = 0
high_bits (suc n) = high_bits n * 256 + 128

zero_sum : (x y : ℕ) → eqb (x * 256 + y) 0 ≡ (eqb y 0 && eqb x 0)
zero_sum x y = go (eqb y 0) (eqb x 0) refl refl
  where
    go : (b c : Bool) → eqb y 0 ≡ b → eqb x 0 ≡ c → eqb (x * 256 + y) 0 ≡ (b && c)
    go true true e f = eq-eqb (x * 256 + y) 0 (omega (arith, eqb-true y 0 e, eqb-true x 0 f))
    go true false e f = ne_eqb (x * 256 + y) 0 (λ z. eqb-false x 0 f (omega arith))
    go false c e f = ne_eqb (x * 256 + y) 0 (λ z. eqb-false y 0 e (omega arith))

high_bit : (x : ℕ) → x < 256 → eqb (bit_and x 128) 0 ≡ ltb x 128
high_bit x h = agree 256 (λ k. eqb (bit_and k 128) 0) (λ k. ltb k 128) refl x h

high_zero : (n : ℕ) (s : List ℕ) (at : ℕ) → Bytes s → at + n ≤ length s → eqb (bit_and (number (take n (drop at s))) (high_bits n)) 0 ≡ ascii (take n (drop at s))
unfolding number ascii high_bits
high_zero zero s at bytes l = refl
high_zero (suc n) s at bytes l =
    let x = get_or s at 0 in
    let h : x < 256 = byte s bytes at in
    let rest = number (take n (drop (suc at) s)) in
    rw (drop-cons s at 0 (omega arith))
    (ap (λ n. eqb n 0) (and_block 8 rest (high_bits n) x 128 h (omega arith))
    ∙ zero_sum (bit_and rest (high_bits n)) (bit_and x 128)
    ∙ rw (high_bit x h, high_zero n s (suc at) bytes (omega arith)))

-- the test of eight bytes' highest bits at once
pub eight_bits : (s : List ℕ) (at : ℕ) {w : ℕ} → Bytes s → at + 8 ≤ length s → w ≡ number (take 8 (drop at s)) → eqb (bit_and w 9259542123273814144) 0 ≡ ascii (take 8 (drop at s))
unfolding high_bits
eight_bits s at bytes h e = rw e (high_zero 8 s at bytes h)

ascii_on : (m n : ℕ) (t : List ℕ) → ascii (take (m + n) t) ≡ (ascii (take m t) && ascii (take n (drop m t)))
unfolding ascii
ascii_on zero n t = rw zero-add
ascii_on (suc m) n [] = rw (suc-add, take-nil)
ascii_on (suc m) n (x ∷ t) = rw suc-add (rw (ascii_on m n t) (sym (and_assoc (ltb x 128) (ascii (take m t)) (ascii (take n (drop m t))))))

-- m bytes and n more
more_on : (m n : ℕ) (s : List ℕ) (at : ℕ) → ascii (take (m + n) (drop at s)) ≡ (ascii (take m (drop at s)) && ascii (take n (drop (at + m) s)))
more_on m n s at = ascii_on m n (drop at s) ∙ rw drop-drop

-- four eights are 32 bytes
pub four : (s : List ℕ) (at : ℕ) {a b c d : Bool} → a ≡ ascii (take 8 (drop at s)) → b ≡ ascii (take 8 (drop (at + 8) s)) → c ≡ ascii (take 8 (drop (at + 16) s)) → d ≡ ascii (take 8 (drop (at + 24) s)) → (a && b && c && d) ≡ ascii (take 32 (drop at s))
four s at ea eb ec ed = sym (more_on 24 8 s at ∙ rw (more_on 16 8 s at, more_on 8 8 s at, ← ea, ← eb, ← ec, ← ed))

-- four times 64 are 256
pub four_many : (s : List ℕ) (at : ℕ) {a b c d : Bool} → a ≡ ascii (take 64 (drop at s)) → b ≡ ascii (take 64 (drop (at + 64) s)) → c ≡ ascii (take 64 (drop (at + 128) s)) → d ≡ ascii (take 64 (drop (at + 192) s)) → (a && b && c && d) ≡ ascii (take 256 (drop at s))
four_many s at ea eb ec ed = sym (more_on 192 64 s at ∙ rw (more_on 128 64 s at, more_on 64 64 s at, ← ea, ← eb, ← ec, ← ed))

-- and twice four are 64
pub twice_four : (s : List ℕ) (at : ℕ) {a b : Bool} → a ≡ ascii (take 32 (drop at s)) → b ≡ ascii (take 32 (drop (at + 32) s)) → (a && b) ≡ ascii (take 64 (drop at s))
twice_four s at ea eb = sym (more_on 32 32 s at ∙ rw (← ea, ← eb))

ascii_at : (t : List ℕ) → ascii t ≡ true → (k : ℕ) → k < length t → get_or t k 0 < 128
unfolding ascii
ascii_at [] e k h = absurd (omega arith)
ascii_at (x ∷ t) e zero h = ltb-true _ _ (both (ltb x 128) (ascii t) e).0
ascii_at (x ∷ t) e (suc k) h = ascii_at t (both (ltb x 128) (ascii t) e).1 k (omega arith)

pub run_none : {s : List ℕ} {at : ℕ} → at ≤ length s → Run s at at
run_none h = record { order = omega arith; inside = h; below = λ k l m. absurd (omega arith) }

pub run_on : {s : List ℕ} {a b c : ℕ} → Run s a b → Run s b c → Run s a c
run_on {s} {a} {b} {c} r q = record { order = omega arith; inside = q.inside; below = λ k l m. go k l m (ltb k b) refl }
  where
    go : (k : ℕ) → a ≤ k → k < c → (t : Bool) → ltb k b ≡ t → get_or s k 0 < 128
    go k l m true t = r.below k l (ltb-true k b t)
    go k l m false t = q.below k (omega (arith, ltb-false k b t)) m

upto : {s : List ℕ} {a b c : ℕ} → Run s a b → b ≡ c → Run s a c
upto r e = rw (← e) r

-- the bytes from a later place on
later : {s : List ℕ} {a b c : ℕ} → Run s a c → a ≤ b → b ≤ c → Run s b c
later r h l = record { order = l; inside = r.inside; below = λ k m n. r.below k (omega arith) n }

-- n bytes that are below 128
below : (n : ℕ) {s : List ℕ} {at : ℕ} → at + n ≤ length s → ascii (take n (drop at s)) ≡ true → Run s at (at + n)
below n {s} {at} h t = record { order = omega arith; inside = h; below = λ k l m. go (k - at) (omega arith) k (omega arith) }
  where
    go : (i : ℕ) → i < n → (k : ℕ) → k ≡ at + i → get_or s k 0 < 128
    go i l k q =
        let b : get_or (take n (drop at s)) i 0 < 128 = ascii_at (take n (drop at s)) t i (simp (length-take, length-drop) (omega arith)) in
        rw q (rw (get_or-take n (drop at s) i 0 l, get_or-drop at s i 0) at b)

module _ (n : ℕ) {s : List ℕ} {at : ℕ} {good : Bool} (h : n ≤ length s - at) (e : good ≡ ascii (take n (drop at s))) (f : good ≡ true) where
  pub run_after : {to : ℕ} → at ≤ length s → Run s (at + n) to → Run s at to
  run_after l r = run_on (below n (omega arith) (sym e ∙ f)) r

  pub run_more : {from : ℕ} → Run s from at → Run s from (at + n)
  run_more r = run_on r (below n (omega (arith, r.inside)) (sym e ∙ f))

pub run_single : {s : List ℕ} {from at : ℕ} → Run s from at → at < length s → get_or s at 0 < 128 → Run s from (at + 1)
run_single {s} {from} {at} r h l = run_on r (record { order = omega arith; inside = omega arith; below = λ k m n. let q : k ≡ at = omega arith in rw q l })

-- the last eight bytes are below 128, and no more are left
pub run_last : {s : List ℕ} {from : ℕ} {good : Bool} → from ≤ length s → 8 ≤ length s → length s - from < 8 → good ≡ ascii (take 8 (drop (length s - 8) s)) → good ≡ true → Run s from (length s)
run_last {s} {from} h l m e f = later (upto (below 8 {s = s} {at = length s - 8} (omega arith) (sym e ∙ f)) (omega arith)) (omega arith) h

-- a run is passed over
over : (n : ℕ) {s : List ℕ} {a b : ℕ} → Run s a b → b ≡ a + n → well_formed (drop a s) ≡ well_formed (drop b s)
over zero {s} {a} r e = rw (e, add-zero)
over (suc n) {s} {a} {b} r e =
    let first : well_formed (drop a s) ≡ well_formed (drop (suc a) s) =
    rw (drop-cons s a 0 (omega (arith, r.inside))) (pass_single (get_or s a 0) (drop (suc a) s) (r.below a (omega arith) (omega arith))) in
    let others : well_formed (drop (suc a) s) ≡ well_formed (drop b s) = over n {a = suc a} (later r (omega arith) (omega arith)) (omega arith) in
    first ∙ others

pub passed : {s : List ℕ} {a b : ℕ} → Run s a b → well_formed (drop a s) ≡ well_formed (drop b s)
passed {s} {a} {b} r = over (b - a) r (omega (arith, r.order))

-- the run at the front
module _ {s : List ℕ} {at : ℕ} (r : Run s 0 at) where
  pub run_first : well_formed s ≡ well_formed (drop at s)
  run_first = passed r

  pub run_whole : length s ≤ at → true ≡ well_formed s
  run_whole h = walk_done (record { rest = passed r }) h

pub walk_run : {s : List ℕ} {at next : ℕ} {below : Bool} → Left well_formed s at → at < length s → below ≡ ltb (get_or s at 0) 128 → below ≡ true → Run s (at + 1) next → Left well_formed s next
walk_run l h e f r = record { rest = (walk_single l h e f).rest ∙ passed r }

-- two answers that are the definition's are the same
pub alike : {t : Bool} (a b : Bool) → a ≡ t → b ≡ t → beq a b ≡ true
alike true true e f = refl
alike true false e f = clash (sym e) (sym f)
alike false true e f = clash (sym f) (sym e)
alike false false e f = refl

pub ruleset passing = (word, eight_bits, four, twice_four, four_many, run_none, run_on, run_after, run_more, run_single, run_last)

pub ruleset running = (run_first, run_whole, walk_run, alike)
