-- A message that begins with a byte that is no blank and no letter of the edition is refused with 3, there. Assumes nothing.
use mathlib.Core.Path.{◌≡◌, refl, ap, ◌∙◌}
use mathlib.Core.Bool.{Bool, true, false, true≢false, ◌||◌, cond}
use mathlib.Core.List.{List, [], ◌∷◌}
use Prim.Native.Nat.{ℕ, zero, suc}
use Prim.Native.Char.{code}
use native.Mathlib.Omega.{arith}
use lib.Dec.{eqb}
use lib.ListN.{length}
use borrow.Author.Tests.{lt-ltb}
use Rattle.draft.specs.Table.{room_of}
use Rattle.glyph.specs.declared.Refusal.TheVariants.{UnexpectedByte}
use Rattle.glyph.specs.declared.Edition.{Edition}
use Rattle.glyph.specs.declared.Edition.TheVariants.{New, Old}
use Rattle.glyph.specs.declared.Letter.TheVariants.{Unknown}
use Rattle.glyph.specs.declared.Want.TheVariants.{Any}
use Rattle.glyph.specs.Letters.{letter_h, letter_of}
use Rattle.glyph.specs.Numbers.{is_blank, blanks, past}
use Rattle.glyph.specs.Read.{refused, object, rooted, root}
use Rattle.glyph.specs.Answers.{reading, answer_of, Answers, Answer, refused_as}
use Rattle.glyph_demands.specs.Answered.{has, letters_of, Allowed}
use Rattle.glyph_demands.proofs.Reading.{message_is}

split : (a b : Bool) → (a || b) ≡ false → (a ≡ false) × (b ≡ false)
split true b h = absurd (true≢false h)
split false b h = (refl, h)

-- the letters that both editions have
not_common : (x : ℕ) (more : List ℕ) → has (code "i" ∷ code "u" ∷ code "b" ∷ code "T" ∷ code "F" ∷ code "N" ∷ code "L" ∷ code "D" ∷ code "O" ∷ code "X" ∷ more) x ≡ false → (e : Edition) → (letter_of e x ≡ cond (eqb x (code "H")) (letter_h e) Unknown) × (has more x ≡ false)
unfolding letter_of
not_common x more h e =
    let a = split (eqb x (code "i")) _ h in
    let b = split (eqb x (code "u")) _ a.1 in
    let c = split (eqb x (code "b")) _ b.1 in
    let d = split (eqb x (code "T")) _ c.1 in
    let f = split (eqb x (code "F")) _ d.1 in
    let g = split (eqb x (code "N")) _ f.1 in
    let i = split (eqb x (code "L")) _ g.1 in
    let j = split (eqb x (code "D")) _ i.1 in
    let k = split (eqb x (code "O")) _ j.1 in
    let l = split (eqb x (code "X")) _ k.1 in
    (rw (a.0, b.0, c.0, d.0, f.0, g.0, i.0, j.0, k.0, l.0), l.1)

no_letter : (e : Edition) (x : ℕ) → has (letters_of e) x ≡ false → letter_of e x ≡ Unknown
no_letter New x h = (not_common x [] h New).0 ∙ go (eqb x (code "H"))
  where
    go : (b : Bool) → cond b Unknown Unknown ≡ Unknown
    go true = refl
    go false = refl
no_letter Old x h = let g = not_common x (code "H" ∷ []) h Old in g.0 ∙ rw (split (eqb x (code "H")) _ g.1).0

-- OTHER LETTERS are 3, at their byte.
pub other_letters :
    (e : Edition) (limit x : ℕ) (s : List ℕ) (words : ℕ) → Allowed limit (x ∷ s) → is_blank x ≡ false → has (letters_of e) x ≡ false → {T : List ℕ} {a : Answer}
    → Answers (reading e limit (x ∷ s) words) words T a → a ≡ refused_as UnexpectedByte 0
unfolding reading root object past blanks
other_letters e limit x s words ok b h d =
    let q : root (x ∷ s) (room_of 4096 words) e limit ≡ refused UnexpectedByte 0 = rw b (ap (rooted (x ∷ s) (room_of 4096 words)) (unknown limit)) in
    d.says ∙ ap answer_of (message_is e (room_of 4096 words) ok ∙ q)
  where
    unknown : (deep : ℕ) → object (x ∷ s) (room_of 4096 words) e deep Any 0 0 ≡ refused UnexpectedByte 0
    unknown zero = rw (no_letter e x h, lt-ltb 0 (length (x ∷ s)) (omega arith))
    unknown (suc deep) = rw (no_letter e x h, lt-ltb 0 (length (x ∷ s)) (omega arith))
