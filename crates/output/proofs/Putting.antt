-- What answers the returns of the functions that put bytes to the front of a lent output. Assumes nothing.
use Prim.Native.Nat.{ℕ, ◌+◌, ◌-◌, ◌/◌, ◌%◌, ◌≤◌, ◌<◌}
use mathlib.Core.Path.{◌≡◌, refl, ap, ◌∙◌}
use mathlib.Core.List.{List, [], ◌∷◌, ◌++◌, append_assoc, append-nil}
use native.Mathlib.Omega.{arith}
use lib.ListN.{length, set, take, drop, length-append, length-drop, drop_of_length-le}
use Rattle.std.specs.Int.{w64, to_le_bytes}
use lib.Seq.{take_all, drop-drop, take_at, drop_at}
use Rattle.draft.specs.Written.{lsb, counted}
use Rattle.copying.specs.Contract.{Front}
use Rattle.output.specs.Contract.{Put, Tried}

-- a number's lowest four bytes
low_four : (n : ℕ) → take 4 (to_le_bytes w64 n) ≡ lsb n
unfolding lsb
low_four n = refl

-- stores at the front
pub front_four : (n : ℕ) (out : List ℕ) {bytes four : List ℕ} → bytes ≡ to_le_bytes w64 n → four ≡ take 4 bytes → Front (lsb n) out (four ++ drop 4 out)
unfolding lsb
front_four n out e f = record { is = ap (λ (l : List ℕ). l ++ drop 4 out) (f ∙ ap (take 4) e ∙ low_four n) }

front_one : (b : ℕ) (out : List ℕ) → 1 ≤ length out → Front (b ∷ []) out (set out 0 b)
front_one b [] h = absurd (omega arith)
front_one b (x ∷ out) h = record { is = refl }

front_two : (b c : ℕ) (out : List ℕ) → 2 ≤ length out → Front (b ∷ c ∷ []) out (set (set out 0 b) 1 c)
front_two b c [] h = absurd (omega arith)
front_two b c (x ∷ []) h = absurd (omega arith)
front_two b c (x ∷ y ∷ out) h = record { is = refl }

-- an output that has xs in front is lent on from there, and comes back with zs in front of the part that was lent
module _ {xs o o₁ : List ℕ} (f : Front xs o o₁) (a : ℕ) (e : length xs ≡ a) (l : a ≤ length o) where
  pub front_long : length o₁ ≡ length o
  front_long = ap length f.is ∙ length-append xs (drop (length xs) o) ∙ rw length-drop (omega arith)

  pub front_drop : drop a o₁ ≡ drop a o
  front_drop = ap (drop a) (f.is ∙ ap (λ (n : ℕ). xs ++ drop n o) e) ∙ drop_at xs (drop a o) a e

  pub front_take : take a o₁ ≡ xs
  front_take = ap (take a) f.is ∙ take_at xs (drop (length xs) o) a e

  pub front_on : {zs ys : List ℕ} → Front zs (take (length o₁ - a) (drop a o₁)) ys → Front (xs ++ zs) o (take a o₁ ++ (ys ++ drop (length o₁ - a) (drop a o₁)))
  front_on {zs} {ys} g =
      let d : length (drop a o) ≡ length o₁ - a = length-drop a o ∙ omega (arith, front_long) in
      let m : take (length o₁ - a) (drop a o₁) ≡ drop a o = ap (take (length o₁ - a)) front_drop ∙ take_all (length o₁ - a) (drop a o) (omega arith) in
      let n : drop (length o₁ - a) (drop a o₁) ≡ [] = ap (drop (length o₁ - a)) front_drop ∙ drop_of_length-le (drop a o) {i = length o₁ - a} (omega arith) in
      let y : ys ≡ zs ++ drop (a + length zs) o = g.is ∙ ap (λ (w : List ℕ). zs ++ drop (length zs) w) m ∙ ap (λ (w : List ℕ). zs ++ w) (drop-drop (length zs) a o) in
      let k : length (xs ++ zs) ≡ a + length zs = length-append xs zs ∙ ap (λ (n : ℕ). n + length zs) e in
      record { is = rw (front_take, n, append-nil, y, k, append_assoc) }

pub lsb_four : (n : ℕ) → length (lsb n) ≡ 4
unfolding lsb
lsb_four n = refl

pub counted_length : (t : List ℕ) → length (counted t) ≡ 4 + length t
unfolding counted
counted_length t = length-append (lsb (length t)) t ∙ rw lsb_four

pub front_counted : (t : List ℕ) {o o₁ ys : List ℕ} → 4 + length t ≤ length o → Front (lsb (length t)) o o₁ → Front t (take (length o₁ - 4) (drop 4 o₁)) ys → Front (counted t) o (take 4 o₁ ++ (ys ++ drop (length o₁ - 4) (drop 4 o₁)))
unfolding counted
front_counted t l f g = front_on f 4 (lsb_four (length t)) (omega arith) g

pub put_one : (b : ℕ) {o : List ℕ} → 1 ≤ length o → Put (b ∷ []) o (set o 0 b) 1
put_one b {o} l = record { front = front_one b o l; long = refl }

pub put_two : (b c : ℕ) {o : List ℕ} → 2 ≤ length o → Put (b ∷ c ∷ []) o (set (set o 0 b) 1 c) 2
put_two b c {o} l = record { front = front_two b c o l; long = refl }

-- a first byte, or two, and what is put behind
module _ {o o₁ ys : List ℕ} {k : ℕ} where
  module _ (b : ℕ) (p : Put (b ∷ []) o o₁ k) where
    one_on : (zs : List ℕ) (n : ℕ) → n ≤ length o → n ≡ 1 + length zs → Front zs (take (length o₁ - 1) (drop 1 o₁)) ys → Put (b ∷ zs) o (take 1 o₁ ++ (ys ++ drop (length o₁ - 1) (drop 1 o₁))) n
    one_on zs n l e g = record { front = front_on p.front 1 refl (omega arith) g; long = omega arith }

    pub put_number : (n : ℕ) → 5 ≤ length o → Front (lsb n) (take (length o₁ - 1) (drop 1 o₁)) ys → Put (b ∷ lsb n) o (take 1 o₁ ++ (ys ++ drop (length o₁ - 1) (drop 1 o₁))) 5
    put_number n l g = one_on (lsb n) 5 l (omega (arith, lsb_four n)) g

    pub put_long : (t : List ℕ) → 5 + length t ≤ length o → Front (counted t) (take (length o₁ - 1) (drop 1 o₁)) ys → Put (b ∷ counted t) o (take 1 o₁ ++ (ys ++ drop (length o₁ - 1) (drop 1 o₁))) (5 + length t)
    put_long t l g = one_on (counted t) (5 + length t) l (omega (arith, counted_length t)) g

  module _ (b c : ℕ) (p : Put (b ∷ c ∷ []) o o₁ k) where
    two_on : (zs : List ℕ) (n : ℕ) → n ≤ length o → n ≡ 2 + length zs → Front zs (take (length o₁ - 2) (drop 2 o₁)) ys → Put (b ∷ c ∷ zs) o (take 2 o₁ ++ (ys ++ drop (length o₁ - 2) (drop 2 o₁))) n
    two_on zs n l e g = record { front = front_on p.front 2 refl (omega arith) g; long = omega arith }

    pub put_short : (t : List ℕ) → 2 + length t ≤ length o → Front t (take (length o₁ - 2) (drop 2 o₁)) ys → Put (b ∷ c ∷ t) o (take 2 o₁ ++ (ys ++ drop (length o₁ - 2) (drop 2 o₁))) (2 + length t)
    put_short t l g = two_on t (2 + length t) l refl g

    pub put_recorded : (t : List ℕ) → 6 + length t ≤ length o → Front (counted t) (take (length o₁ - 2) (drop 2 o₁)) ys → Put (b ∷ c ∷ counted t) o (take 2 o₁ ++ (ys ++ drop (length o₁ - 2) (drop 2 o₁))) (6 + length t)
    put_recorded t l g = two_on (counted t) (6 + length t) l (omega (arith, counted_length t)) g

pub ruleset putting = (front_four, front_counted, put_one, put_two, put_number, put_long, put_short, put_recorded)

-- what was tried: with room for it, and without
tried_put : {xs o o' : List ℕ} {most k n : ℕ} → k ≤ most → k ≡ length xs → Put xs o o' n → Tried xs most o o' n
tried_put h e p = record { long = p.long; front = λ _. p.front; kept = λ l. absurd (omega (arith, p.long)) }

tried_over : {xs o : List ℕ} {most n : ℕ} → most < n → n ≡ length xs → Tried xs most o o n
tried_over h e = record { long = e; front = λ k. absurd (omega arith); kept = λ _. refl }

module _ {o : List ℕ} {most : ℕ} (b : ℕ) where
  pub one_put : {o' : List ℕ} {n : ℕ} → 1 ≤ most → Put (b ∷ []) o o' n → Tried (b ∷ []) most o o' n
  one_put h = tried_put h refl

  pub one_over : most < 1 → Tried (b ∷ []) most o o 1
  one_over h = tried_over h refl

  pub number_put : (x : ℕ) {o' : List ℕ} {n : ℕ} → 5 ≤ most → Put (b ∷ lsb x) o o' n → Tried (b ∷ lsb x) most o o' n
  number_put x h = tried_put h (omega (arith, lsb_four x))

  pub number_over : (x : ℕ) → most < 5 → Tried (b ∷ lsb x) most o o 5
  number_over x h = tried_over h (omega (arith, lsb_four x))

  pub long_put : (t : List ℕ) {o' : List ℕ} {n : ℕ} → 5 + length t ≤ most → Put (b ∷ counted t) o o' n → Tried (b ∷ counted t) most o o' n
  long_put t h = tried_put h (omega (arith, counted_length t))

  pub long_over : (t : List ℕ) → most < 5 + length t → Tried (b ∷ counted t) most o o (5 + length t)
  long_over t h = tried_over h (omega (arith, counted_length t))

  module _ (c : ℕ) where
    pub two_put : {o' : List ℕ} {n : ℕ} → 2 ≤ most → Put (b ∷ c ∷ []) o o' n → Tried (b ∷ c ∷ []) most o o' n
    two_put h = tried_put h refl

    pub two_over : most < 2 → Tried (b ∷ c ∷ []) most o o 2
    two_over h = tried_over h refl

    pub short_put : (t : List ℕ) {o' : List ℕ} {n : ℕ} → 2 + length t ≤ most → Put (b ∷ c ∷ t) o o' n → Tried (b ∷ c ∷ t) most o o' n
    short_put t h = tried_put h (omega arith)

    pub short_over : (t : List ℕ) → most < 2 + length t → Tried (b ∷ c ∷ t) most o o (2 + length t)
    short_over t h = tried_over h (omega arith)

    pub recorded_put : (t : List ℕ) {o' : List ℕ} {n : ℕ} → 6 + length t ≤ most → Put (b ∷ c ∷ counted t) o o' n → Tried (b ∷ c ∷ counted t) most o o' n
    recorded_put t h = tried_put h (omega (arith, counted_length t))

    pub recorded_over : (t : List ℕ) → most < 6 + length t → Tried (b ∷ c ∷ counted t) most o o (6 + length t)
    recorded_over t h = tried_over h (omega (arith, counted_length t))

pub ruleset trying =
    (one_put, one_over, two_put, two_over, number_put, number_over, short_put, short_over, long_put, long_over, recorded_put, recorded_over)
