-- Behind the bytes that the row of a unicode or a bytearray names stands its `;`, in every row of a message that is accepted. Assumes nothing.
use mathlib.Core.Path.{◌≡◌, refl, sym, ap, ◌∙◌}
use mathlib.Core.Bool.{Bool, true, false, cond, ◌&&◌}
use mathlib.Core.List.{List, [], ◌∷◌, ◌++◌}
use Prim.Native.Nat.{ℕ, zero, suc, ◌+◌}
use native.Mathlib.Omega.{arith}
use lib.Dec.{ltb, leb, eqb}
use lib.ListN.{length, drop}
use borrow.Author.Tests.{eqb-true}
use Rattle.text.specs.Texts.{among}
use Rattle.text.proofs.Comparing.{clash}
use Rattle.draft.specs.declared.Row.{Row}
use Rattle.draft.specs.Bytes.{byte_at, part}
use Rattle.draft.specs.Table.{room_of, rows_at}
use Rattle.glyph.specs.declared.Edition.{Edition}
use Rattle.glyph.specs.declared.Leaf.{Leaf as LeafLetter}
use Rattle.glyph.specs.declared.Leaf.TheVariants.{Integer, Unicode, Bytes, True, False, Nil}
use Rattle.glyph.specs.declared.Many.{Many as ManyLetter}
use Rattle.glyph.specs.declared.Many.TheVariants as M
use Rattle.glyph.specs.declared.Three.{Three as ThreeLetter}
use Rattle.glyph.specs.declared.Three.TheVariants.{Extension, Node}
use Rattle.glyph.specs.declared.Letter.{Letter}
use Rattle.glyph.specs.declared.Letter.TheVariants.{Leaf, Many, Three, Unknown}
use Rattle.glyph.specs.declared.Want.{Want}
use Rattle.glyph.specs.declared.Want.TheVariants.{Any, Text}
use Rattle.glyph.specs.Letters.{letter_of, wanted, name_want, attributes_want, three_kind, many_kind, keyed_by}
use Rattle.glyph.specs.Numbers.{past, digits, decimal, in_range}
use Rattle.glyph.specs.Read.{Reading, got, refused, then, behind, Reader, Texts, floor, under, good_text, single, number_from, content, lengthened, text, leaf_of, next, run, first_text, distinct, entry, kept, closing, many, three, item, object, rooted, root}
use Rattle.glyph.specs.Answers.{reading, Answers, accepted_as}
use Rattle.glyph_demands.specs.Answered.{has, AllEnd}
use Rattle.glyph_demands.proofs.Reading.{message_is}
use Rattle.glyph_demands.proofs.Settled.{accepted_read, derived, accepted_rows}

module _ (s : List ℕ) where
  -- so of the rows of a reading, and of a reader
  abbrev Ended : Reading → Type 0
  Ended (refused m p) = Unit {0}
  Ended (got rows at) = AllEnd s rows

  Ending : Reader → Type 0
  Ending f = (at r : ℕ) → Ended (f at r)

  pick : (b : Bool) (x y : Reading) → Ended x → Ended y → Ended (cond b x y)
  pick true x y p q = p
  pick false x y p q = q

  pick_if : (b : Bool) (x y : Reading) → (b ≡ true → Ended x) → Ended y → Ended (cond b x y)
  pick_if true x y p q = p refl
  pick_if false x y p q = q

  ends_append : (xs ys : List Row) → AllEnd s xs → AllEnd s ys → AllEnd s (xs ++ ys)
  ends_append [] ys p q = q
  ends_append (x ∷ xs) ys (i, p) q = (i, ends_append xs ys p q)

  ends_then : (o : Reading) (on : List Row → ℕ → Reading) → Ended o → ((rows : List Row) (at : ℕ) → AllEnd s rows → Ended (on rows at)) → Ended (then o on)
  ends_then (refused m p) on i h = tt
  ends_then (got rows at) on i h = h rows at i

  ends_behind : (rows : List Row) (o : Reading) → AllEnd s rows → Ended o → Ended (behind rows o)
  ends_behind rows (refused m p) h i = tt
  ends_behind rows (got others at) h i = ends_append rows others h i

  -- objects without children
  single_ends : (kind a : ℕ) → has (8 ∷ 11 ∷ []) kind ≡ false → Ending (single s kind a)
  unfolding Ending single
  single_ends kind a i at r = pick (ltb (at + 1) (length s)) _ _ (pick (eqb (byte_at s (at + 1)) 59) _ _ (λ k. clash k i, tt) tt) tt

  number_ends : (m : Bool) (from : ℕ) → Ending (number_from s m from)
  unfolding Ending number_from
  number_ends m from at r =
      pick (ltb (from + digits (drop from s)) (length s)) _ _
      (pick (ltb 0 (digits (drop from s)) && eqb (byte_at s (from + digits (drop from s))) 59) _ _
      (pick (in_range m (decimal 0 (drop from s))) _ _ (λ k. clash k refl, tt) tt) tt) tt

  content_ends : (u : Bool) (o n : ℕ) → Ending (content s u o n)
  unfolding Ending content
  content_ends u o n at r =
      pick (ltb (o + n) (length s)) _ _
      (pick_if (eqb (byte_at s (o + n)) 59) _ _ (λ i. pick (good_text u (part s o n)) _ _ (λ k. eqb-true (byte_at s (o + n)) 59 i, tt) tt) tt) tt

  text_ends : (u : Bool) → Ending (text s u)
  unfolding Ending text lengthened
  text_ends u at r =
      pick_if (eqb (byte_at s (at + 1)) 59) _ _
      (λ i. (λ k. let z : at + 1 + 0 ≡ at + 1 = omega arith in ap (byte_at s) z ∙ eqb-true (byte_at s (at + 1)) 59 i, tt))
      (pick (ltb (at + 1 + digits (drop (at + 1) s)) (length s)) _ _
      (pick (ltb 0 (digits (drop (at + 1) s)) && eqb (byte_at s (at + 1 + digits (drop (at + 1) s))) 58) _ _ (content_ends u _ _ at r) tt) tt)

  leaf_ends : (l : LeafLetter) → Ending (leaf_of s l)
  unfolding Ending
  leaf_ends Integer at r = number_ends _ _ at r
  leaf_ends Unicode at r = text_ends true at r
  leaf_ends Bytes at r = text_ends false at r
  leaf_ends True at r = single_ends 5 1 refl at r
  leaf_ends False at r = single_ends 5 0 refl at r
  leaf_ends Nil at r = single_ends 13 0 refl at r

  -- objects with children, by what reads these
  ends_next : (o : Reading) (r : ℕ) (f : Reader) → Ended o → Ending f → Ended (next s o r f)
  unfolding Ending
  ends_next (refused m p) r f i h = tt
  ends_next (got rows at) r f i h = ends_behind rows (f (past s at) (r + length rows)) i (h (past s at) (r + length rows))

  module _ (f : Texts → Reader) (more : Texts → List Row → Texts) (h : (seen : Texts) → Ending (f seen)) (kind : ℕ) (i : has (8 ∷ 11 ∷ []) kind ≡ false) where
    ends_run : (fuel n : ℕ) (seen : Texts) (acc : List Row) (at r : ℕ) → AllEnd s acc → Ended (run s f more kind fuel n seen acc at r)
    unfolding run Ending
    ends_run zero n seen acc at r a = tt
    ends_run (suc fuel) n seen acc at r a =
        pick (eqb (byte_at s at) 59) _ _ (λ k. clash k i, a)
        (ends_then (f seen at (r + 1 + length acc)) (λ rows at'. run s f more kind fuel (n + 1) (more seen rows) (acc ++ rows) (past s at') r)
        (h seen at (r + 1 + length acc))
        (λ rows at' j. ends_run fuel (n + 1) (more seen rows) (acc ++ rows) (past s at') r (ends_append acc rows a j)))

  ends_distinct : (seen : Texts) (at : ℕ) (o : Reading) → Ended o → Ended (distinct s seen at o)
  unfolding distinct
  ends_distinct seen at (refused m p) i = tt
  ends_distinct seen at (got rows to) i = pick (among seen (first_text s rows)) _ _ tt i

  ends_closing : (kind r : ℕ) (o : Reading) → has (8 ∷ 11 ∷ []) kind ≡ false → Ended o → Ended (closing s kind r o)
  ends_closing kind r (refused m p) i h = tt
  ends_closing kind r (got rows at) i h = pick (ltb (past s at) (length s)) _ _ (pick (eqb (byte_at s (past s at)) 59) _ _ (λ k. clash k i, h) tt) tt

  many_kind_lem : (l : ManyLetter) → has (8 ∷ 11 ∷ []) (many_kind l) ≡ false
  many_kind_lem M.List = refl
  many_kind_lem M.Dict = refl
  many_kind_lem M.Ordered = refl

  three_kind_lem : (l : ThreeLetter) → has (8 ∷ 11 ∷ []) (three_kind l) ≡ false
  three_kind_lem Extension = refl
  three_kind_lem Node = refl

  module _ (f : Want → Reader) (h : (w : Want) → Ending (f w)) where
    ends_entry : (b : Bool) (seen : Texts) → Ending (entry s b f seen)
    unfolding entry Ending
    ends_entry true seen at r = ends_next (distinct s seen at (f Text at r)) r (f Any) (ends_distinct seen at (f Text at r) (h Text at r)) (h Any)
    ends_entry false seen at r = h Any at r

    ends_many : (l : ManyLetter) → Ending (many s l f)
    unfolding many Ending
    ends_many l at r =
        ends_run (entry s (keyed_by l) f) (kept s (keyed_by l)) (ends_entry (keyed_by l)) (many_kind l) (many_kind_lem l)
        (length s) 0 [] [] (past s (at + 1)) r tt

    ends_three : (l : ThreeLetter) → Ending (three s l f)
    unfolding three Ending
    ends_three l at r =
        let x = next s (got [] (at + 1)) (r + 1) (f (name_want l)) in
        let y = next s x (r + 1) (f (attributes_want l)) in
        let i : Ended x = ends_next (got [] (at + 1)) (r + 1) (f (name_want l)) tt (h (name_want l)) in
        let j : Ended y = ends_next x (r + 1) (f (attributes_want l)) i (h (attributes_want l)) in
        ends_closing (three_kind l) r (next s y (r + 1) (f Any)) (three_kind_lem l) (ends_next y (r + 1) (f Any) j (h Any))

  -- any object, and the root
  module _ (room : ℕ) where
    floor_ends : (l : Letter) → Ending (item s room l floor)
    unfolding Ending
    floor_ends (Leaf l) at r = pick (ltb r room) _ _ (leaf_ends l at r) tt
    floor_ends (Many l) at r = tt
    floor_ends (Three l) at r = tt
    floor_ends Unknown at r = tt

    under_ends : (l : Letter) (f : Want → Reader) → ((w : Want) → Ending (f w)) → Ending (item s room l (under f))
    unfolding Ending
    under_ends (Leaf l) f h at r = pick (ltb r room) _ _ (leaf_ends l at r) tt
    under_ends (Many l) f h at r = pick (ltb r room) _ _ (ends_many f h l at r) tt
    under_ends (Three l) f h at r = pick (ltb r room) _ _ (ends_three f h l at r) tt
    under_ends Unknown f h at r = tt

    object_ends : (e : Edition) (d : ℕ) (w : Want) → Ending (object s room e d w)
    unfolding object Ending
    object_ends e zero w at r = pick (ltb at (length s)) _ _ (floor_ends (wanted w (letter_of e (byte_at s at))) at r) tt
    object_ends e (suc d) w at r = pick (ltb at (length s)) _ _ (under_ends (wanted w (letter_of e (byte_at s at))) (object s room e d) (object_ends e d) at r) tt

    root_ends : (e : Edition) (d : ℕ) → Ended (root s room e d)
    unfolding root Ending
    root_ends e d = go (object s room e d Any (past s 0) 0) (object_ends e d Any (past s 0) 0)
      where
        go : (o : Reading) → Ended o → Ended (rooted s room o)
        go (refused m p) h = tt
        go (got rows at) h = pick (leb (length s) (past s at)) _ _ h tt

-- ENDS, in the table after an accepted call.
pub all_end :
    (e : Edition) (limit : ℕ) (s : List ℕ) (words : ℕ) {T : List ℕ} {n used : ℕ} → Answers (reading e limit s words) words T (accepted_as n used)
    → AllEnd s (rows_at (room_of 4096 words) T 0 n)
unfolding reading
all_end e limit s words d =
    let a = accepted_read e limit s words d in
    let i : root s (room_of 4096 words) e limit ≡ got a.rows _ = sym (message_is e (room_of 4096 words) (derived e limit s words d).allowed) ∙ a.is in
    rw (accepted_rows e limit s words d) (rw i at (root_ends s (room_of 4096 words) e limit))
