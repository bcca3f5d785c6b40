-- What a root is refused for, by the bytes at the refusal's place: 3 where a byte stands, 1, 5, 20 and 25 as specs/Reasons says; never for the number of its
-- bytes, and never for the limit that was stated. Assumes nothing.
use mathlib.Core.Path.{◌≡◌, refl, sym, ap, ◌∙◌}
use mathlib.Core.Bool.{Bool, true, false, true≢false, ◌&&◌, cond}
use mathlib.Core.List.{List, [], ◌∷◌, ◌++◌, append-nil}
use Prim.Native.Nat.{ℕ, zero, suc, ◌+◌, ◌≤◌, ◌<◌}
use native.Mathlib.Omega.{arith}
use lib.Dec.{ltb, leb, eqb}
use lib.ListN.{length, drop}
use borrow.Author.Tests.{ltb-true, ltb-false, leb-false}
use Rattle.text.specs.Utf8.{well_formed}
use Rattle.text.specs.Texts.{same, among}
use Rattle.text.proofs.Comparing.{same_is}
use Rattle.draft.specs.declared.Row.{Row}
use Rattle.draft.specs.Bytes.{byte_at, part}
use Rattle.draft.specs.Rows.{row}
use Rattle.draft.specs.Grammar.{contents, cell}
use Rattle.draft.specs.Meaning.{says_contents, means, Realises, and_then}
use Rattle.exact.proofs.Standing.{Here, join, part_here}
use Rattle.glyph.specs.declared.Refusal.{Refusal}
use Rattle.glyph.specs.declared.Refusal.TheVariants.{Ended, UnexpectedByte, BadText, TooDeep, NoRow, TooLong, RepeatedKey, BadLimit, OutOfRange}
use Rattle.glyph.specs.declared.Edition.{Edition}
use Rattle.glyph.specs.declared.Leaf.{Leaf as LeafLetter}
use Rattle.glyph.specs.declared.Leaf.TheVariants.{Integer, Unicode, Bytes, True, False, Nil}
use Rattle.glyph.specs.declared.Many.{Many as ManyLetter}
use Rattle.glyph.specs.declared.Many.TheVariants as many-letter
use Rattle.glyph.specs.declared.Three.{Three as ThreeLetter}
use Rattle.glyph.specs.declared.Letter.{Letter}
use Rattle.glyph.specs.declared.Letter.TheVariants.{Leaf, Many, Three, Unknown}
use Rattle.glyph.specs.declared.Want.{Want}
use Rattle.glyph.specs.declared.Want.TheVariants.{Any, Text}
use Rattle.glyph.specs.Letters.{letter_of, wanted, name_want, attributes_want, three_kind}
use Rattle.glyph.specs.Numbers.{past, digits, decimal, is_minus, signs, in_range}
use Rattle.glyph.specs.Read.{Reading, got, refused, then, behind, Reader, Texts, Nest, floor, under, opened, single, number_from, integer, content, lengthened, text, good_text, leaf_of, next, run, first_text, distinct, entry, kept, closing, many, three, item, object, root}
use Rattle.glyph.specs.Tree.{Tree, leaf}
use Rattle.glyph.specs.Grammar.{Object, unicode}
use Rattle.glyph_exact.specs.Reasons.{text_letter, Cut, nothing_there, in_true, in_false, in_nil, in_integer, in_length, in_content, TextAt, IllFormed, Twice, Beyond}
use Rattle.glyph_exact.proofs.Completing.{Begins, begins, object_begins}
use Rattle.glyph_exact.proofs.Deriving.{with_byte, here_at, Byte, letter_byte, Stand, out, inside, stands, Spelling, spelling, sign_here, lengthened_sound, next_inv, distinct_inv, Key, key_of, Sound, object_sound}

-- what a refusal of a root says of the bytes at its place
abbrev pub Because : List ℕ → Refusal → ℕ → Type 0
Because s Ended p = Cut s p
Because s UnexpectedByte p = p < length s
Because s BadText p = IllFormed s p
Because s TooDeep p = Unit {0}
Because s NoRow p = Unit {0}
Because s TooLong p = ⊥
Because s RepeatedKey p = Twice s p
Because s BadLimit p = ⊥
Because s OutOfRange p = Beyond s p

-- the keys seen in front of a place: a unicode of each text stands at an earlier one
data Earlier (s : List ℕ) (at : ℕ) : Texts → Type 0 where
  none : Earlier s at []
  one : {q : ℕ} {k : List ℕ} {seen : Texts} → q < at → TextAt s q k → Earlier s at seen → Earlier s at (k ∷ seen)

later : {s : List ℕ} {at to : ℕ} {seen : Texts} → at ≤ to → Earlier s at seen → Earlier s to seen
later h none = none
later h (one {q} l t more) = one {q = q} (omega arith) t (later h more)

record Found (s : List ℕ) (at : ℕ) (t : List ℕ) : Type 0 where
  place : ℕ
  before : place < at
  there : TextAt s place t

found : {s : List ℕ} {at : ℕ} {seen : Texts} → Earlier s at seen → (t : List ℕ) → among seen t ≡ true → Found s at t
unfolding among
found none t e = absurd (true≢false (sym e))
found {s} {at} (one {q} {k} {seen} l x more) t e = go (same t k) refl (λ i. found more t i)
  where
    go : (b : Bool) → same t k ≡ b → (among seen t ≡ true → Found s at t) → Found s at t
    go true i other = record { place = q; before = l; there = rw (same_is t k i) x }
    go false i other = other (rw i at e)

-- a reading that is refused, if it is, for what stands at its place or for its table's room and nesting
record Own (s : List ℕ) (o : Reading) : Type 0 where
  why : {m : Refusal} {p : ℕ} → o ≡ refused m p → Because s m p

module _ {s : List ℕ} where
  own_no : (m : Refusal) (p : ℕ) → Because s m p → Own s (refused m p)
  own_no m p h = record { why = λ {m = n} {p = q} e. let i : m ≡ n = cc in let j : p ≡ q = cc in rw (i, j) at h }

  own_got : (rows : List Row) (to : ℕ) → Own s (got rows to)
  own_got rows to = record { why = λ e. let z : ◌≡◌ {A = ℕ} 0 1 = cc in absurd (omega arith) }

  own_pick : (b : Bool) (x y : Reading) → (b ≡ true → Own s x) → (b ≡ false → Own s y) → Own s (cond b x y)
  own_pick true x y p q = p refl
  own_pick false x y p q = q refl

  -- 1, where a test finds no byte
  own_ended : (p i : ℕ) → (length s ≤ i → Cut s p) → ltb i (length s) ≡ false → Own s (refused Ended p)
  own_ended p i c h = own_no Ended p (c (ltb-false i (length s) h))

  own_wrong : (p : ℕ) → p < length s → Own s (refused UnexpectedByte p)
  own_wrong p h = own_no UnexpectedByte p h

  own_then : (o : Reading) (f : List Row → ℕ → Reading) → Own s o → ((rows : List Row) (at : ℕ) → o ≡ got rows at → Own s (f rows at)) → Own s (then o f)
  own_then (refused m p) f h k = h
  own_then (got rows at) f h k = k rows at refl

  own_behind : (rows : List Row) (o : Reading) → Own s o → Own s (behind rows o)
  own_behind rows (refused m p) h = h
  own_behind rows (got others at) h = own_got (rows ++ others) at

OwnAll : List ℕ → Reader → Type 0
OwnAll s f = (at r : ℕ) → Own s (f at r)

module _ (s : List ℕ) where
  -- 25
  beyond :
      (at : ℕ) → at < length s → byte_at s at ≡ 105 → Spelling s (at + 1 + signs (byte_at s (at + 1))) 59
      → in_range (is_minus (byte_at s (at + 1))) (decimal 0 (drop (at + 1 + signs (byte_at s (at + 1))) s)) ≡ false → Beyond s at
  beyond at h b sp k =
      let from : ℕ = at + 1 + signs (byte_at s (at + 1)) in
      let g = sign_here s at sp.here.starts in
      let l : from ≡ at + 1 + length g.bytes = omega (arith, g.takes) in
      let body : Here s (at + 1) (g.bytes ++ (sp.bytes ++ (59 ∷ []))) = join g.bytes (sp.bytes ++ (59 ∷ [])) g.here (here_at l sp.here) refl in
      record {
        minus = g.minus;
        value = decimal 0 (drop from s);
        sign = g.bytes;
        digits = sp.bytes;
        signed = g.sign;
        spelt = sp.number;
        stands = part_here (with_byte h b body) refl;
        beyond = ap (λ (m : Bool). in_range m (decimal 0 (drop from s))) (sym g.is) ∙ k;
      }

  own_integer : (at r : ℕ) → at < length s → byte_at s at ≡ 105 → Own s (integer s at r)
  unfolding number_from
  own_integer at r h b =
      let from : ℕ = at + 1 + signs (byte_at s (at + 1)) in
      let n : ℕ = digits (drop from s) in
      own_pick (ltb (from + n) (length s)) _ _
      (λ i. own_pick (ltb 0 n && eqb (byte_at s (from + n)) 59) _ _
      (λ j. own_pick (in_range (is_minus (byte_at s (at + 1))) (decimal 0 (drop from s))) _ _ (λ k. own_got _ _)
      (λ k. own_no OutOfRange at (beyond at h b (spelling s 59 from at (got [] 0) {rows = []} {to = 0} (rw (i, j))).0 k)))
      (λ j. own_wrong at h))
      (own_ended at (from + n) (in_integer b))

  -- 5, whose tests before it are those of a bytearray
  ill :
      (u : Bool) (at r : ℕ) → at < length s → byte_at s at ≡ text_letter u
      → (o v : ℕ) → lengthened s false at r ≡ got (row 8 o v (r + 1) ∷ []) (o + v + 1) → good_text u (part s o v) ≡ false → IllFormed s at
  unfolding good_text
  ill false at r h b o v i g = absurd (true≢false g)
  ill true at r h b o v i g =
      let x = lengthened_sound false i in
      let y : got (row 8 x.offset (length x.text) (r + 1) ∷ []) (at + 1 + length x.bytes) ≡ got (row 8 o v (r + 1) ∷ []) (o + v + 1) = x.is in
      let z : row 8 x.offset (length x.text) (r + 1) ≡ row 8 o v (r + 1) = cc in
      let p : x.offset ≡ o = ap (λ (c : Row). c.a) z in
      let q : length x.text ≡ v = ap (λ (c : Row). c.b) z in
      let t : part s o v ≡ x.text = ap (λ (k : ℕ). part s k v) (sym p) ∙ part_here x.lies (sym q) in
      record {
        text = x.text;
        there = record { bytes = x.bytes; content = x.content; stands = part_here (with_byte h b x.here) refl };
        ill = ap well_formed (sym t) ∙ g;
      }

  own_text : (u : Bool) (at r : ℕ) → at < length s → byte_at s at ≡ text_letter u → Own s (text s u at r)
  unfolding text lengthened content good_text
  own_text u at r h b =
      let n : ℕ = digits (drop (at + 1) s) in
      let o : ℕ = at + 1 + n + 1 in
      let v : ℕ = decimal 0 (drop (at + 1) s) in
      own_pick (eqb (byte_at s (at + 1)) 59) _ _ (λ c. own_got _ _)
      (λ c. own_pick (ltb (at + 1 + n) (length s)) _ _
      (λ i. own_pick (ltb 0 n && eqb (byte_at s (at + 1 + n)) 58) _ _
      (λ j. own_pick (ltb (o + v) (length s)) _ _
      (λ k. own_pick (eqb (byte_at s (o + v)) 59) _ _
      (λ l. own_pick (good_text u (part s o v)) _ _ (λ g. own_got _ _) (λ g. own_no BadText at (ill u at r h b o v (rw (i, j, k, l)) g)))
      (λ l. own_wrong at h))
      (own_ended at (o + v) (in_content u b j)))
      (λ j. own_wrong at h))
      (own_ended at (at + 1 + n) (in_length u b)))

  own_single : (kind a at r : ℕ) → at < length s → (length s ≤ at + 1 → Cut s at) → Own s (single s kind a at r)
  unfolding single
  own_single kind a at r h c =
      own_pick (ltb (at + 1) (length s)) _ _ (λ i. own_pick (eqb (byte_at s (at + 1)) 59) _ _ (λ j. own_got _ _) (λ j. own_wrong at h)) (own_ended at (at + 1) c)

  own_leaf : (e : Edition) (l : LeafLetter) (at r : ℕ) → at < length s → Byte e (Leaf l) (byte_at s at) → Own s (leaf_of s l at r)
  own_leaf e Integer at r h b = own_integer at r h b
  own_leaf e Unicode at r h b = own_text true at r h b
  own_leaf e Bytes at r h b = own_text false at r h b
  own_leaf e True at r h b = own_single 5 1 at r h (in_true b)
  own_leaf e False at r h b = own_single 5 0 at r h (in_false b)
  own_leaf e Nil at r h b = own_single 13 0 at r h (in_nil b)

  own_next : (o : Reading) (r : ℕ) (f : Reader) → Own s o → OwnAll s f → Own s (next s o r f)
  unfolding OwnAll
  own_next o r f h k =
      own_then o (λ rows at. behind rows (f (past s at) (r + length rows))) h
      (λ rows at i. own_behind rows (f (past s at) (r + length rows)) (k (past s at) (r + length rows)))

  -- a run, whose things are read where P holds of the keys seen
  module _ (f : Texts → Reader) (more : Texts → List Row → Texts) (P : Texts → ℕ → Type 0) where
    own_run :
        ((seen : Texts) (at r : ℕ) → P seen at → Own s (f seen at r))
        → ((seen : Texts) (at r : ℕ) (rows : List Row) (to : ℕ) → P seen at → f seen at r ≡ got rows to → P (more seen rows) (past s to) × (at < past s to))
        → (kind fuel n : ℕ) (seen : Texts) (acc : List Row) (at r : ℕ) → P seen at → length s ≤ at + fuel → Own s (run s f more kind fuel n seen acc at r)
    unfolding run
    own_run h k kind zero n seen acc at r p l = own_no Ended at (nothing_there (omega arith))
    own_run h k kind (suc fuel) n seen acc at r p l =
        own_pick (eqb (byte_at s at) 59) (got (row kind 0 n (r + 1 + length acc) ∷ acc) (at + 1)) _
        (λ i. own_got (row kind 0 n (r + 1 + length acc) ∷ acc) (at + 1))
        (λ i. own_then (f seen at (r + 1 + length acc)) (λ rows to. run s f more kind fuel (n + 1) (more seen rows) (acc ++ rows) (past s to) r)
        (h seen at (r + 1 + length acc) p)
        (λ rows to j. let q = k seen at (r + 1 + length acc) rows to p j in
        own_run h k kind fuel (n + 1) (more seen rows) (acc ++ rows) (past s to) r q.0 (omega (arith, q.1))))

  own_closing : (kind r : ℕ) (o : Reading) → Own s o → Own s (closing s kind r o)
  own_closing kind r (refused m p) h = h
  own_closing kind r (got rows at) h =
      own_pick (ltb (past s at) (length s)) _ _
      (λ i. own_pick (eqb (byte_at s (past s at)) 59) _ _ (λ j. own_got _ _) (λ j. own_wrong (past s at) (ltb-true (past s at) (length s) i)))
      (own_ended (past s at) (past s at) nothing_there)

  -- a key stands at its place, and takes a byte at least
  key_at_lem : {e : Edition} {d at r : ℕ} {rows : List Row} {to : ℕ} (k : Key e s d at r rows to) → TextAt s at k.text × (at < to)
  key_at_lem {e} {d} {at} {r} {rows} {to} k = go k.used k.object k.here k.ends
    where
      go : {d' : ℕ} (used : List ℕ) → Object e d' used (leaf 11 (contents k.text)) → Here s at used → to ≡ at + length used → TextAt s at k.text × (at < to)
      go used (unicode {zs = zs} c g) h n = (record { bytes = zs; content = c; stands = part_here h refl }, omega (arith, n))

  -- the text of a key's row, with others behind it
  key_text_lem : {r : ℕ} {rows : List Row} {k : List ℕ} → Realises s r rows (cell 11 0 (contents k) ∷ []) → (others : List Row) → first_text s (rows ++ others) ≡ k
  key_text_lem (and_then (means a b (says_contents c d p)) t) others = p

  -- an object takes a byte at least
  object_long : {e : Edition} {d : ℕ} {xs : List ℕ} {t : Tree} → Object e d xs t → 0 < length xs
  object_long {xs = xs} g = go (object_begins g)
    where
      go : {ys : List ℕ} → Begins ys → 0 < length ys
      go (begins a b) = omega arith

  past_on : (at : ℕ) → at ≤ past s at
  unfolding past
  past_on at = omega arith

  module _ (e : Edition) (d : ℕ) (f : Want → Reader) (h : (w : Want) → OwnAll s (f w)) (sound : Sound e s f d) where
    -- 20
    own_distinct : (seen : Texts) (at r : ℕ) → Earlier s at seen → (o : Reading) → f Text at r ≡ o → Own s o → Own s (distinct s seen at o)
    unfolding distinct Sound
    own_distinct seen at r p (refused m q) i w = w
    own_distinct seen at r p (got rows to) i w =
        let k = key_of (sound Text at r rows to i) in
        own_pick (among seen (first_text s rows)) _ _
        (λ j. let t : first_text s rows ≡ k.text = first_of k in
        let x = found p k.text (ap (among seen) (sym t) ∙ j) in
        own_no RepeatedKey at (record { text = k.text; before = x.place; earlier = x.before; first = x.there; second = (key_at_lem k).0 }))
        (λ j. own_got rows to)
      where
        first_of : {rows : List Row} {to : ℕ} (k : Key e s d at r rows to) → first_text s rows ≡ k.text
        first_of {rows} k = sym (ap (first_text s) (append-nil rows)) ∙ key_text_lem k.realises []

    own_pair : (seen : Texts) (at r : ℕ) → Earlier s at seen → Own s (entry s true f seen at r)
    unfolding entry OwnAll
    own_pair seen at r p = own_next (distinct s seen at (f Text at r)) r (f Any) (own_distinct seen at r p (f Text at r) refl (h Text at r)) (h Any)

    seen_on : (seen : Texts) (at r : ℕ) (rows : List Row) (to : ℕ) → Earlier s at seen → entry s true f seen at r ≡ got rows to → Earlier s (past s to) (kept s true seen rows) × (at < past s to)
    unfolding entry kept Sound
    seen_on seen at r rows to p i =
        let n = next_inv s (distinct s seen at (f Text at r)) r (f Any) i in
        let k = key_of (sound Text at r n.front n.middle (distinct_inv s seen at (f Text at r) n.first).reading) in
        let v = sound Any (past s n.middle) (r + length n.front) n.back to n.second in
        let l : at < past s to = omega (arith, (key_at_lem k).1, past_on n.middle, v.ends, past_on to) in
        let t : first_text s rows ≡ k.text = ap (first_text s) n.all ∙ key_text_lem k.realises n.back in
        (rw t (one l (key_at_lem k).0 (later (omega arith) p)), l)

    object_on : (seen : Texts) (at r : ℕ) (rows : List Row) (to : ℕ) → Unit {0} → f Any at r ≡ got rows to → Unit {0} × (at < past s to)
    unfolding Sound
    object_on seen at r rows to p i = let v = sound Any at r rows to i in (tt, omega (arith, object_long v.object, v.ends, past_on to))

    own_many : (l : ManyLetter) (at r : ℕ) → Own s (many s l f at r)
    unfolding many entry OwnAll
    own_many many-letter.List at r =
        own_run (entry s false f) (kept s false) (λ seen at. Unit {0}) (λ seen at r p. h Any at r) object_on 9 (length s) 0 [] [] (past s (at + 1)) r tt (omega arith)
    own_many many-letter.Dict at r = own_run (entry s true f) (kept s true) (λ seen at. Earlier s at seen) own_pair seen_on 10 (length s) 0 [] [] (past s (at + 1)) r none (omega arith)
    own_many many-letter.Ordered at r = own_run (entry s true f) (kept s true) (λ seen at. Earlier s at seen) own_pair seen_on 14 (length s) 0 [] [] (past s (at + 1)) r none (omega arith)

    own_three : (l : ThreeLetter) (at r : ℕ) → Own s (three s l f at r)
    unfolding three
    own_three l at r =
        own_closing (three_kind l) r (next s (next s (next s (got [] (at + 1)) (r + 1) (f (name_want l))) (r + 1) (f (attributes_want l))) (r + 1) (f Any))
        (own_next (next s (next s (got [] (at + 1)) (r + 1) (f (name_want l))) (r + 1) (f (attributes_want l))) (r + 1) (f Any)
        (own_next (next s (got [] (at + 1)) (r + 1) (f (name_want l))) (r + 1) (f (attributes_want l))
        (own_next (got [] (at + 1)) (r + 1) (f (name_want l)) (own_got [] (at + 1)) (h (name_want l))) (h (attributes_want l)))
        (h Any))

  module _ (room : ℕ) where
    own_opened : (at r : ℕ) (o : Reading) → Own s o → Own s (opened room at r o)
    own_opened at r o h = own_pick (ltb r room) o (refused NoRow at) (λ i. h) (λ i. own_no NoRow at tt)

    own_under : (e : Edition) (d : ℕ) (f : Want → Reader) → ((w : Want) → OwnAll s (f w)) → Sound e s f d → (l : Letter) (at r : ℕ) → at < length s → Byte e l (byte_at s at) → Own s (item s room l (under f) at r)
    own_under e d f h sound (Leaf l) at r k b = own_opened at r (leaf_of s l at r) (own_leaf e l at r k b)
    own_under e d f h sound (Many l) at r k b = own_opened at r (many s l f at r) (own_many e d f h sound l at r)
    own_under e d f h sound (Three l) at r k b = own_opened at r (three s l f at r) (own_three e d f h sound l at r)
    own_under e d f h sound Unknown at r k b = own_wrong at k

    own_floor : (e : Edition) (l : Letter) (at r : ℕ) → at < length s → Byte e l (byte_at s at) → Own s (item s room l floor at r)
    own_floor e (Leaf l) at r k b = own_opened at r (leaf_of s l at r) (own_leaf e l at r k b)
    own_floor e (Many l) at r k b = own_no TooDeep at tt
    own_floor e (Three l) at r k b = own_no TooDeep at tt
    own_floor e Unknown at r k b = own_wrong at k

    -- a letter where it may stand, or 3
    own_stand : (nest : Nest) {w : Want} {l : Letter} (at r : ℕ) → at < length s → Stand w l → Own s (item s room l nest at r) → Own s (item s room (wanted w l) nest at r)
    own_stand nest at r h (out i) k = rw i (own_wrong at h)
    own_stand nest at r h (inside i a) k = rw i k

    own_object : (e : Edition) (d : ℕ) (w : Want) → OwnAll s (object s room e d w)
    unfolding object OwnAll
    own_object e zero w at r =
        own_pick (ltb at (length s)) _ (refused Ended at)
        (λ i. let h = ltb-true at (length s) i in
        own_stand floor at r h (stands w (letter_of e (byte_at s at))) (own_floor e (letter_of e (byte_at s at)) at r h (letter_byte e (byte_at s at))))
        (own_ended at at nothing_there)
    own_object e (suc d) w at r =
        own_pick (ltb at (length s)) _ (refused Ended at)
        (λ i. let h = ltb-true at (length s) i in
        own_stand (under (object s room e d)) at r h (stands w (letter_of e (byte_at s at)))
        (own_under e d (object s room e d) (own_object e d) (object_sound e s room d) (letter_of e (byte_at s at)) at r h (letter_byte e (byte_at s at))))
        (own_ended at at nothing_there)

    own_root : (e : Edition) (d : ℕ) → Own s (root s room e d)
    unfolding root OwnAll
    own_root e d =
        own_then (object s room e d Any (past s 0) 0) (λ rows at. cond (leb (length s) (past s at)) (got rows at) (refused UnexpectedByte (past s at)))
        (own_object e d Any (past s 0) 0)
        (λ rows at i. own_pick (leb (length s) (past s at)) (got rows at) (refused UnexpectedByte (past s at)) (λ j. own_got rows at)
        (λ j. own_wrong (past s at) (leb-false (length s) (past s at) j)))

    -- WHY A ROOT IS REFUSED
    pub because : (e : Edition) (d : ℕ) {m : Refusal} {p : ℕ} → root s room e d ≡ refused m p → Because s m p
    because e d i = (own_root e d).why i
