-- Reading into a part of the table first: a law for each return. Assumes nothing.
use mathlib.Core.Path.{◌≡◌, refl, sym, ◌∙◌, ap}
use mathlib.Core.Bool.{true, false}
use mathlib.Core.List.{List, ◌++◌}
use Prim.Native.Nat.{ℕ, zero, suc, ◌-◌, ◌*◌, ◌/◌, ◌≤◌, ◌<◌}
use native.Mathlib.Omega.{arith}
use lib.ListN.{length, take, drop, replicate, length-append, length-drop}
use lib.Seq.{length-take-le}
use borrow.Author.Tests.{lt-ltb, le-ltb, eq-eqb, ne_eqb}
use Rattle.draft.specs.declared.Refusal.{Refusal}
use Rattle.draft.specs.Refusals.{number_of}
use Rattle.draft.specs.Read.{Reading, got, refused}
use Rattle.read_answer.specs.declared.Answer.{Answer}
use Rattle.read_answer.specs.declared.Answer.TheVariants as answer
use Rattle.read_answer.specs.Answers.{reading, answer_of, table_of, Answers}
use Rattle.rereading.specs.Rereading.{refused_with_one, table_tried, table_read, PartRead, Reread}
use Rattle.rereading.proofs.Words.{length_table, more_words}

pub part_read :
    (limit : ℕ) (s T X : List ℕ) (k : ℕ) (a : Answer) → k ≤ length T
    → Answers (reading limit s (length (take (k - 0) (drop 0 T)))) (length (take (k - 0) (drop 0 T))) X a
    → PartRead limit s k T (take 0 T ++ (X ++ drop (k - 0) (drop 0 T))) a
part_read limit s T X k a h d =
    let z : k - 0 ≡ k = omega arith in
    let l : length (take (k - 0) T) ≡ k = rw z (length-take-le k T h) in
    let x : X ≡ table_of k (reading limit s k) = rw l at d.leaves in
    record { says = rw l at d.says; leaves = rw (z, x) }

-- the first k words tried, with U in the table then and the answer a
module _ (limit : ℕ) (s T U : List ℕ) (k : ℕ) (a : Answer) (few : k ≤ length T) (d : PartRead limit s k T U a) where
  tried_length : length U ≡ length T
  tried_length =
      ap length d.leaves
      ∙ length-append (table_of k (reading limit s k)) (drop k T)
      ∙ omega (arith, length_table k (reading limit s k), length-drop k T)

  -- not refused with 1, all is read into the whole table
  try_again :
      (T' : List ℕ) (b : Answer) → refused_with_one (reading limit s k) ≡ false → Answers (reading limit s (length U)) (length U) T' b
      → Reread limit s T (table_tried limit k s T) T' b
  try_again T' b e f = record { says = rw tried_length at f.says; leaves = rw e (rw tried_length at f.leaves) }

  pub try_accepted :
      (rows used : ℕ) (T' : List ℕ) (b : Answer) → a ≡ answer.Accepted rows used → Answers (reading limit s (length U)) (length U) T' b
      → Reread limit s T (table_tried limit k s T) T' b
  try_accepted rows used T' b e f = try_again T' b (of (reading limit s k) (sym e ∙ d.says)) f
    where
      of : (o : Reading) → answer.Accepted rows used ≡ answer_of o → refused_with_one o ≡ false
      of (got r u b) h = refl
      of (refused m p) h = cc

  module _ (m : Refusal) (q x : ℕ) (e : a ≡ answer.Refused m q) (i : x ≡ number_of m) where
    reads_refused : reading limit s k ≡ refused m q
    reads_refused = of (reading limit s k) (sym e ∙ d.says)
      where
        of : (o : Reading) → answer.Refused m q ≡ answer_of o → o ≡ refused m q
        of (got r u b) h = cc
        of (refused m' p) h = cc

    pub try_refused :
        (T' : List ℕ) (b : Answer) → (x ≡ 1 → ⊥) → Answers (reading limit s (length U)) (length U) T' b → Reread limit s T (table_tried limit k s T) T' b
    try_refused T' b h f = try_again T' b (ap refused_with_one reads_refused ∙ ne_eqb _ _ (λ (z : number_of m ≡ 1). h (i ∙ z))) f

    pub try_cut : x ≡ 1 → Reread limit s T (table_tried limit k s T) U (answer.Refused m q)
    try_cut f =
        let j : number_of m ≡ 1 = sym i ∙ f in
        let z : refused_with_one (reading limit s k) ≡ true = ap refused_with_one reads_refused ∙ eq-eqb _ _ j in
        let t : U ≡ replicate k 0 ++ drop k T = rw reads_refused at d.leaves in
        record { says = rw (more_words limit s k (length T) few reads_refused j); leaves = rw z t }

positive : (n : ℕ) → (n ≡ 0 → ⊥) → 0 < n
positive zero h = absurd (h refl)
positive (suc n) h = omega arith

-- how many words are tried
module _ (limit wanted : ℕ) (s T T' : List ℕ) (a : Answer) where
  pub again_first : wanted ≡ 0 → Answers (reading limit s (length T)) (length T) T' a → Reread limit s T (table_read limit wanted s T) T' a
  again_first e f = record { says = f.says; leaves = rw e f.leaves }

  pub again_whole : (wanted ≡ 0 → ⊥) → length T / 4 ≤ length s → Answers (reading limit s (length T)) (length T) T' a → Reread limit s T (table_read limit wanted s T) T' a
  again_whole h k f = record { says = f.says; leaves = rw (lt-ltb 0 wanted (positive wanted h), le-ltb _ _ k) f.leaves }

  pub again_part :
      (wanted ≡ 0 → ⊥) → length s < length T / 4 → Reread limit s T (table_tried limit (4 * length s) s T) T' a → Reread limit s T (table_read limit wanted s T) T' a
  again_part h k f = record { says = f.says; leaves = rw (lt-ltb 0 wanted (positive wanted h), lt-ltb _ _ k) f.leaves }

pub ruleset trying = (part_read, try_accepted, try_refused, try_cut, again_first, again_whole, again_part)
