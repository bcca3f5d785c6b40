-- Whatever the grammar derives, within any room and nesting that are enough, is read, with that meaning and those bytes used. Assumes nothing.
use mathlib.Core.Path.{◌≡◌, refl, sym, ap, ◌∙◌}
use mathlib.Core.Bool.{Bool, true, false, ◌&&◌}
use mathlib.Core.List.{List, [], ◌∷◌, ◌++◌, append_assoc, append-nil}
use Prim.Native.Nat.{ℕ, zero, suc, ◌+◌, ◌-◌, ◌*◌, ◌≤◌, ◌<◌}
use native.Mathlib.Omega.{arith}
use native.Mathlib.Nat.{add-zero, zero-add}
use native.Mathlib.Numerals.{sub-one}
use lib.Dec.{eqb, leb}
use lib.ListN.{length, drop, length-append}
use lib.Seq.{drop-drop, drop-append_seam}
use borrow.Author.Tests.{lt-ltb, ne_eqb, leb-true}
use Rattle.text.specs.Texts.{among}
use Rattle.lexical.specs.Digits.{digit, digit_value}
use Rattle.draft.specs.declared.Row.{Row}
use Rattle.draft.specs.Bytes.{byte_at, part}
use Rattle.draft.specs.Rows.{row}
use Rattle.draft.specs.Grammar.{holding, number, contents, Cell, cell}
use Rattle.draft.specs.Meaning.{has_number, has_content, says_holding, says_number, says_contents, Means, means, Realises, no_more, and_then}
use Rattle.exact.proofs.Standing.{Here, ends, front, back, first, second, part_here}
use Rattle.exact.proofs.Realising.{over_means, counts, realises_append}
use Rattle.glyph.specs.declared.Edition.{Edition}
use Rattle.glyph.specs.declared.Edition.TheVariants.{New, Old}
use Rattle.glyph.specs.declared.Leaf.{Leaf as LeafLetter}
use Rattle.glyph.specs.declared.Leaf.TheVariants as leaf-letter
use Rattle.glyph.specs.declared.Many.{Many as ManyLetter}
use Rattle.glyph.specs.declared.Many.TheVariants as many-letter
use Rattle.glyph.specs.declared.Three.{Three as ThreeLetter}
use Rattle.glyph.specs.declared.Three.TheVariants as three-letter
use Rattle.glyph.specs.declared.Letter.{Letter}
use Rattle.glyph.specs.declared.Letter.TheVariants.{Leaf, Many, Three}
use Rattle.glyph.specs.declared.Want.{Want}
use Rattle.glyph.specs.declared.Want.TheVariants.{Any, Text}
use Rattle.glyph.specs.Letters.{letter_of, wanted, three_kind, name_want, attributes_want}
use Rattle.glyph.specs.Numbers.{is_blank, blanks, past, digits, decimal, is_minus, signs, in_range, word}
use Rattle.glyph.specs.Read.{Reading, got, Reader, Texts, Nest, floor, under, behind, leaf_of, single, number_from, integer as integerAt, content as contentAt, lengthened, text, text_kind, good_text, next, run, first_text, distinct, entry, kept, closing, many as manyAt, three as threeAt, item, object}
use Rattle.glyph.specs.Tree.{Tree, leaf, many, plain, ordered, Trees, Pairs, count, count_pairs, cells, cells_of, pair_cells}
use Rattle.glyph.specs.Grammar.{Blanks, no_blanks, and_blank, Sign, plus, minus, no_sign, Digits, no_digits, and_digit, value_of, Number, ascii_number, Content, content, empty, Meets, any, unicode_met, dict_met, ordered_met, Extends, new_extension, old_extension, Nodes, old_node, Object, integer, unicode, bytearray, true_object, false_object, nil, list, dict, ordered_dict, extension, node, Objects, close, more, Members, close_members, more_members, Parts, parts}
use Rattle.glyph_exact.proofs.Letters.{blanks_none}
use Rattle.glyph_exact.proofs.Letters.{letter_integer, letter_unicode, letter_bytes, letter_true, letter_false, letter_nil, letter_list, letter_dict, letter_ordered, letter_new_x, letter_old_x, letter_old_h}

-- blanks are all taken where no blank follows
blanks_exact : {xs : List ℕ} (rest : List ℕ) → Blanks xs → blanks rest ≡ 0 → blanks (xs ++ rest) ≡ length xs
unfolding blanks
blanks_exact rest no_blanks z = z
blanks_exact rest (and_blank e b) z = rw e (ap suc (blanks_exact rest b z))

pub past_exact : {s : List ℕ} {at : ℕ} {xs : List ℕ} → Here s at xs → Blanks xs → is_blank (byte_at s (at + length xs)) ≡ false → past s at ≡ at + length xs
unfolding past
past_exact {s} {at} {xs} h b e =
    let p : drop (at + length xs) s ≡ h.rest = sym (drop-drop (length xs) at s) ∙ ap (drop (length xs)) h.from ∙ drop-append_seam xs h.rest in
    let z : blanks h.rest ≡ 0 = ap blanks (sym p) ∙ blanks_none s (at + length xs) e in
    ap (λ (x : ℕ). at + x) (ap blanks h.from ∙ blanks_exact h.rest b z)

-- digits are all taken where no digit follows
digits_exact : {xs : List ℕ} (b : ℕ) (rest : List ℕ) → digit b ≡ false → Digits xs → digits (xs ++ b ∷ rest) ≡ length xs
unfolding digits
digits_exact b rest z no_digits = rw z
digits_exact b rest z (and_digit e d) = rw e (ap suc (digits_exact b rest z d))

decimal_exact : {xs : List ℕ} (n b : ℕ) (rest : List ℕ) → digit b ≡ false → Digits xs → decimal n (xs ++ b ∷ rest) ≡ value_of n xs
unfolding decimal
decimal_exact n b rest z no_digits = rw z
decimal_exact n b rest z (and_digit {x} {xs} e d) = rw e (decimal_exact (n * 10 + digit_value x) b rest z d)

-- an object begins with a byte that is no blank and no `;`
pub data Begins : List ℕ → Type 0 where
  begins : {x : ℕ} {xs : List ℕ} → is_blank x ≡ false → eqb x 59 ≡ false → Begins (x ∷ xs)

pub object_begins : {e : Edition} {d : ℕ} {xs : List ℕ} {t : Tree} → Object e d xs t → Begins xs
unfolding is_blank
object_begins (integer a v r k z) = begins refl refl
object_begins (unicode c w) = begins refl refl
object_begins (bytearray c) = begins refl refl
object_begins true_object = begins refl refl
object_begins false_object = begins refl refl
object_begins nil = begins refl refl
object_begins (list b o z) = begins refl refl
object_begins (dict b o z) = begins refl refl
object_begins (ordered_dict b o z) = begins refl refl
object_begins (extension new_extension p) = begins refl refl
object_begins (extension old_extension p) = begins refl refl
object_begins (node old_node p) = begins refl refl

module _ {s : List ℕ} {at : ℕ} where
  pub begins_blank : {xs : List ℕ} → Begins xs → Here s at xs → is_blank (byte_at s at) ≡ false
  begins_blank (begins e f) h = rw (first h) e

  begins_on : {xs : List ℕ} → Begins xs → Here s at xs → eqb (byte_at s at) 59 ≡ false
  begins_on (begins e f) h = rw (first h) f

  objects_blank : {e : Edition} {d : ℕ} {xs : List ℕ} {ts : Trees} → Objects e d xs ts → Here s at xs → is_blank (byte_at s at) ≡ false
  unfolding is_blank
  objects_blank close h = rw (first h)
  objects_blank (more {xs = xs} {ys} {zs} o b t z) h = begins_blank (object_begins o) (front xs (ys ++ zs) h z)

  members_blank : {e : Edition} {d : ℕ} {seen : Texts} {xs : List ℕ} {ps : Pairs} → Members e d seen xs ps → Here s at xs → is_blank (byte_at s at) ≡ false
  unfolding is_blank
  members_blank close_members h = rw (first h)
  members_blank (more_members {xs = xs} {ys} {us} {vs} {zs} o q b v c t z) h = begins_blank (object_begins o) (front xs (ys ++ (us ++ (vs ++ zs))) h z)

begun : {xs : List ℕ} → Begins xs → 0 < length xs
begun (begins e f) = omega arith

-- a reading that is accepted, with these meanings, up to `to`
pub record Reads (s : List ℕ) (o : Reading) (r : ℕ) (cs : List Cell) (to : ℕ) : Type 0 where
  pub rows : List Row
  pub is : o ≡ got rows to
  pub realises : Realises s r rows cs

one : {s : List ℕ} {o : Reading} {r to : ℕ} {c : Cell} (x : Row) (to' : ℕ) → o ≡ got (x ∷ []) to' → to' ≡ to → Means s r x c → Reads s o r (c ∷ []) to
one x to' i f m = record { rows = x ∷ []; is = i ∙ ap (got (x ∷ [])) f; realises = and_then m no_more }

reads_by : {s : List ℕ} {o o' : Reading} {r : ℕ} {cs : List Cell} {to to' : ℕ} → o ≡ o' → to' ≡ to → Reads s o' r cs to' → Reads s o r cs to
reads_by i f g = record { rows = g.rows; is = i ∙ g.is ∙ ap (got g.rows) f; realises = g.realises }

-- an object, by its letter
nest_of : List ℕ → ℕ → Edition → ℕ → Nest
nest_of s room e zero = floor
nest_of s room e (suc d) = under (object s room e d)

object_is : (s : List ℕ) (room : ℕ) (e : Edition) (d : ℕ) (want : Want) (at r : ℕ) (l : Letter) → at < length s → l ≡ wanted want (letter_of e (byte_at s at)) → object s room e d want at r ≡ item s room l (nest_of s room e d) at r
unfolding object nest_of
object_is s room e zero want at r l h i = rw (lt-ltb _ _ h, ← i)
object_is s room e (suc d) want at r l h i = rw (lt-ltb _ _ h, ← i)

leaf_is : (s : List ℕ) (room : ℕ) (e : Edition) (d : ℕ) (want : Want) (at r : ℕ) (l : LeafLetter) {o : Reading} → at < length s → Leaf l ≡ wanted want (letter_of e (byte_at s at)) → r < room → leaf_of s l at r ≡ o → object s room e d want at r ≡ o
leaf_is s room e d want at r l h i k q = object_is s room e d want at r (Leaf l) h i ∙ simp (lt-ltb r room k) q

module _ (s : List ℕ) (room : ℕ) (e : Edition) (d : ℕ) (want : Want) (at r : ℕ) (h : at < length s) (k : r < room) where
  many_is : (l : ManyLetter) → Many l ≡ wanted want (letter_of e (byte_at s at)) → object s room e (suc d) want at r ≡ manyAt s l (object s room e d) at r
  unfolding nest_of
  many_is l i = object_is s room e (suc d) want at r (Many l) h i ∙ simp (lt-ltb r room k)

  three_is : (l : ThreeLetter) → Three l ≡ wanted want (letter_of e (byte_at s at)) → object s room e (suc d) want at r ≡ threeAt s l (object s room e d) at r
  unfolding nest_of
  three_is l i = object_is s room e (suc d) want at r (Three l) h i ∙ simp (lt-ltb r room k)

-- T, F and N
single_reads : {s : List ℕ} {at x : ℕ} (kind a r : ℕ) → Here s at (x ∷ 59 ∷ []) → single s kind a at r ≡ got (row kind a 0 (r + 1) ∷ []) (at + 2)
unfolding single
single_reads {s} {at} kind a r h = simp (lt-ltb (at + 1) (length s) (omega (arith, ends h)), second h)

-- a digit is no sign, and no `;`
both : (a b : Bool) → (a && b) ≡ true → a ≡ true
both true b e = refl
both false b e = e

digit_low : (b : ℕ) → digit b ≡ true → 48 ≤ b
unfolding digit
digit_low b e = leb-true 48 b (both (leb 48 b) (leb b 57) e)

not_below : (b k : ℕ) → 48 ≤ b → k < 48 → eqb b k ≡ false
not_below b k h j = ne_eqb b k (λ e. omega arith)

digit_plain : (b : ℕ) → digit b ≡ true → is_minus b ≡ false
unfolding is_minus
digit_plain b e = not_below b 45 (digit_low b e) (omega arith)

digit_unsigned : (b : ℕ) → digit b ≡ true → signs b ≡ 0
unfolding signs is_minus
digit_unsigned b e = rw (not_below b 45 (digit_low b e) (omega arith), not_below b 43 (digit_low b e) (omega arith))

digit_open : (b : ℕ) → digit b ≡ true → eqb b 59 ≡ false
unfolding digit
digit_open b e = ne_eqb b 59 (λ i. let z : ◌≡◌ {A = ℕ} 0 1 = (let k : (leb 48 59 && leb 59 57) ≡ true = rw i at e in clash k) in omega arith)
  where
    clash : false ≡ true → ◌≡◌ {A = ℕ} 0 1
    clash k = cc

-- a number, and the byte behind it
record Spelt (s : List ℕ) (from n : ℕ) (ys : List ℕ) (b : ℕ) : Type 0 where
  count : digits (drop from s) ≡ length ys
  value : decimal 0 (drop from s) ≡ n
  some : 0 < length ys
  byte : byte_at s (from + length ys) ≡ b
  within : from + length ys < length s
  front_digit : digit (byte_at s from) ≡ true

spelt : {s : List ℕ} {from n : ℕ} {ys : List ℕ} (b : ℕ) (zs : List ℕ) → digit b ≡ false → Number n ys → Here s from (ys ++ (b ∷ zs)) → Spelt s from n ys b
spelt {s} {from} {n} b zs z (ascii_number {x = x} {xs} (and_digit q ds) v) h =
    let f : drop from s ≡ (x ∷ xs) ++ b ∷ (zs ++ h.rest) = h.from ∙ append_assoc (x ∷ xs) (b ∷ zs) h.rest in
    let k : Here s (from + length (x ∷ xs)) (b ∷ zs) = back (x ∷ xs) (b ∷ zs) h refl in
    record {
      count = ap digits f ∙ digits_exact b (zs ++ h.rest) z (and_digit q ds);
      value = ap (decimal 0) f ∙ decimal_exact 0 b (zs ++ h.rest) z (and_digit q ds) ∙ sym v;
      some = omega arith;
      byte = first k;
      within = omega (arith, ends k);
      front_digit = rw (first (front (x ∷ xs) (b ∷ zs) h refl)) q;
    }

number_reads : {s : List ℕ} {from n : ℕ} {ys : List ℕ} (m : Bool) (at r : ℕ) → Spelt s from n ys 59 → in_range m n ≡ true → number_from s m from at r ≡ got (row 4 (word m n) 0 (r + 1) ∷ []) (from + length ys + 1)
unfolding number_from
number_reads {s} {from} {n} {ys} m at r c i = simp (c.count, c.value, lt-ltb _ _ c.within, lt-ltb _ _ c.some, c.byte, i)

-- an integer, by its sign
sign_plus : (s : List ℕ) (at r : ℕ) {b : ℕ} → byte_at s (at + 1) ≡ b → (m : Bool) (k : ℕ) → is_minus b ≡ m → signs b ≡ k → integerAt s at r ≡ number_from s m (at + 1 + k) at r
sign_plus s at r e m k i j = rw (e, i, j)

integer_reads : (s : List ℕ) (at : ℕ) {n : ℕ} {m : Bool} {xs ys : List ℕ} (r : ℕ) → Sign m xs → Number n ys → in_range m n ≡ true → Here s (at + 1) (xs ++ (ys ++ (59 ∷ []))) → integerAt s at r ≡ got (row 4 (word m n) 0 (r + 1) ∷ []) (at + 1 + length xs + length ys + 1)
unfolding digit is_minus signs
integer_reads s at {n} {m} {xs} {ys} r plus d i h =
    sign_plus s at r (first h) false 1 refl refl ∙ number_reads false at r (spelt 59 [] refl d (back (43 ∷ []) (ys ++ (59 ∷ [])) h refl)) i
integer_reads s at {n} {m} {xs} {ys} r minus d i h =
    sign_plus s at r (first h) true 1 refl refl ∙ number_reads true at r (spelt 59 [] refl d (back (45 ∷ []) (ys ++ (59 ∷ [])) h refl)) i
integer_reads s at {n} {m} {xs} {ys} r no_sign d i h =
    let c = spelt 59 [] refl d h in
    let q : at + 1 + 0 ≡ at + 1 = add-zero (at + 1) in
    sign_plus s at r refl false 0 (digit_plain (byte_at s (at + 1)) c.front_digit) (digit_unsigned (byte_at s (at + 1)) c.front_digit) ∙ rw q (number_reads false at r c i)

-- a text
record TextRead (s : List ℕ) (u : Bool) (at r : ℕ) (zs t : List ℕ) : Type 0 where
  offset : ℕ
  is : text s u at r ≡ got (row (text_kind u) offset (length t) (r + 1) ∷ []) (at + 1 + length zs)
  here : Here s offset t

text_reads : (s : List ℕ) (at : ℕ) {zs t : List ℕ} (u : Bool) (r : ℕ) → Content zs t → good_text u t ≡ true → Here s (at + 1) zs → TextRead s u at r zs t
unfolding text lengthened contentAt digit
text_reads s at u r empty g h =
    record { offset = at + 1; is = rw (first h) (let q : at + 2 ≡ at + 1 + 1 = omega arith in rw q); here = front [] (59 ∷ []) h refl }
text_reads s at u r (content {n} {xs} {t} {zs} d l z) g h =
    let k : Here s (at + 1) (xs ++ (58 ∷ (t ++ (59 ∷ [])))) = rw z at h in
    let c = spelt 58 (t ++ (59 ∷ [])) refl d k in
    let o : ℕ = at + 1 + length xs + 1 in
    let tail : Here s (at + 1 + length xs) (58 ∷ (t ++ (59 ∷ []))) = back xs (58 ∷ (t ++ (59 ∷ []))) k refl in
    let hc : Here s o (t ++ (59 ∷ [])) = back (58 ∷ []) (t ++ (59 ∷ [])) tail refl in
    let ht : Here s o t = front t (59 ∷ []) hc refl in
    let hs : Here s (o + length t) (59 ∷ []) = back t (59 ∷ []) hc refl in
    let p : part s o (length t) ≡ t = part_here ht refl in
    let w : o + length t < length s = omega (arith, ends hs) in
    let f : at + 1 + length zs ≡ o + length t + 1 = omega (arith, ap length z, length-append xs (58 ∷ (t ++ (59 ∷ []))), length-append t (59 ∷ [])) in
    record {
      offset = o;
      is = simp (digit_open (byte_at s (at + 1)) c.front_digit, c.count, c.value, lt-ltb _ _ c.within, lt-ltb _ _ c.some, c.byte, l, lt-ltb _ _ w, first hs, p, g, f);
      here = ht;
    }

-- the rows of an item of one row
number_one : {s : List ℕ} {o : Reading} {r to n : ℕ} (kind to' : ℕ) → has_number kind ≡ true → o ≡ got (row kind n 0 (r + 1) ∷ []) to' → to' ≡ to → Reads s o r (cell kind 0 (number n) ∷ []) to
number_one {r = r} {n = n} kind to' h i f = one (row kind n 0 (r + 1)) to' i f (means {below = 0} refl (omega arith) (says_number h refl refl))

text_one : {s : List ℕ} {o : Reading} {r to : ℕ} {t : List ℕ} (u : Bool) {offset to' : ℕ} → o ≡ got (row (text_kind u) offset (length t) (r + 1) ∷ []) to' → to' ≡ to → Here s offset t → Reads s o r (cell (text_kind u) 0 (contents t) ∷ []) to
unfolding has_content
text_one {r = r} {t = t} true {offset} {to'} i f h = one (row 11 offset (length t) (r + 1)) to' i f (means {below = 0} refl (omega arith) (says_contents refl (omega (arith, ends h)) (part_here h refl)))
text_one {r = r} {t = t} false {offset} {to'} i f h = one (row 8 offset (length t) (r + 1)) to' i f (means {below = 0} refl (omega arith) (says_contents refl (omega (arith, ends h)) (part_here h refl)))

-- a turn of the run
module _ (s : List ℕ) (f : Texts → Reader) (keep : Texts → List Row → Texts) (kind n : ℕ) (seen : Texts) (acc : List Row) (at r : ℕ) where
  run_closed : (fuel : ℕ) → 0 < fuel → eqb (byte_at s at) 59 ≡ true → run s f keep kind fuel n seen acc at r ≡ got (row kind 0 n (r + 1 + length acc) ∷ acc) (at + 1)
  unfolding run
  run_closed zero h e = absurd (omega arith)
  run_closed (suc fuel) h e = rw e

  run_got : (fuel : ℕ) {rows : List Row} {at' to : ℕ} → 0 < fuel → eqb (byte_at s at) 59 ≡ false → f seen at (r + 1 + length acc) ≡ got rows at' → past s at' ≡ to → run s f keep kind fuel n seen acc at r ≡ run s f keep kind (fuel - 1) (n + 1) (keep seen rows) (acc ++ rows) to r
  unfolding run
  run_got zero h e i p = absurd (omega arith)
  run_got (suc fuel) h e i p = rw (e, i, sub-one, p)

-- a run that is accepted, behind the k things whose rows are acc
record ReadsOn (s : List ℕ) (o : Reading) (kind k n : ℕ) (acc : List Row) (r : ℕ) (cs : List Cell) (to : ℕ) : Type 0 where
  new : List Row
  is : o ≡ got (row kind 0 (k + n) (r + 1 + length (acc ++ new)) ∷ (acc ++ new)) to
  realises : Realises s (r + 1 + length acc) new cs

-- a container, from its run
held : {s : List ℕ} (kind n r : ℕ) {o o' : Reading} {cs : List Cell} {to to' : ℕ} → has_number kind ≡ false → has_content kind ≡ false → o ≡ o' → ReadsOn s o' kind 0 n [] r cs to' → to' ≡ to → Reads s o r (cell kind (length cs) (holding n) ∷ cs) to
held {s} kind n r {cs = cs} {to} {to'} h k q g f =
    let i : r + 1 + 0 ≡ suc r = omega arith in
    let z : Realises s (suc r) g.new cs = rw i at g.realises in
    record {
      rows = row kind 0 n (r + 1 + length g.new) ∷ g.new;
      is = q ∙ g.is ∙ ap (λ (x : ℕ). got (row kind 0 x (r + 1 + length g.new) ∷ g.new) to') (zero-add n) ∙ ap (got (row kind 0 n (r + 1 + length g.new) ∷ g.new)) f;
      realises = and_then (over_means kind r h k (counts z)) z;
    }

-- a thing in front of a run's others
joined :
    {s : List ℕ} {kind n : ℕ} (k r : ℕ) {acc rows : List Row} {us vs : List Cell} {o o' : Reading} {to to' : ℕ} → o ≡ o' → Realises s (r + 1 + length acc) rows us
    → ReadsOn s o' kind (k + 1) n (acc ++ rows) r vs to' → to' ≡ to → ReadsOn s o kind k (suc n) acc r (us ++ vs) to
joined {n = n} k r {acc} {rows} q a j f =
    let i : r + 1 + length (acc ++ rows) ≡ r + 1 + length acc + length rows = omega (arith, length-append acc rows) in
    let x : k + 1 + n ≡ k + suc n = omega arith in
    record { new = rows ++ j.new; is = q ∙ j.is ∙ rw (x, append_assoc acc rows j.new, f); realises = realises_append a (rw i at j.realises) refl }

-- an object behind another
next_reads :
    {s : List ℕ} (room : ℕ) (e : Edition) (d : ℕ) (w : Want) {o : Reading} {r : ℕ} {cs ds : List Cell} {to to' end : ℕ} → Reads s o r cs to → past s to ≡ to'
    → Reads s (object s room e d w to' (r + length cs)) (r + length cs) ds end → Reads s (next s o r (object s room e d w)) r (cs ++ ds) end
next_reads {s} room e d w {o} {r} {cs} {ds} {to} {to'} {end} g p k =
    let n : length cs ≡ length g.rows = sym (counts g.realises) in
    let i : object s room e d w (past s to) (r + length g.rows) ≡ got k.rows end = rw (p, ← n) k.is in
    let z : Realises s (r + length g.rows) k.rows ds = rw n at k.realises in
    record {
      rows = g.rows ++ k.rows;
      is = ap (λ (x : Reading). next s x r (object s room e d w)) g.is ∙ ap (behind g.rows) i;
      realises = realises_append g.realises z refl;
    }

-- the text of a row that means a text
first_text_lem : {s : List ℕ} {r : ℕ} {rows : List Row} {k : List ℕ} {cs : List Cell} → Realises s r rows (cell 11 0 (contents k) ∷ cs) → first_text s rows ≡ k
first_text_lem (and_then (means a b (says_contents c d p)) t) = p

distinct_reads : {s : List ℕ} (seen : Texts) (at : ℕ) {o : Reading} {r : ℕ} {k : List ℕ} {to : ℕ} → among seen k ≡ false → Reads s o r (cell 11 0 (contents k) ∷ []) to → Reads s (distinct s seen at o) r (cell 11 0 (contents k) ∷ []) to
unfolding distinct
distinct_reads {s} seen at {to = to} q g = record { rows = g.rows; is = ap (distinct s seen at) g.is ∙ rw (first_text_lem g.realises, q); realises = g.realises }

-- which letters may stand where
want_bytes : (e : Edition) (b : ℕ) {w : Want} {t : List ℕ} → b ≡ 98 → Meets w (leaf 8 (contents t)) → Leaf leaf-letter.Bytes ≡ wanted w (letter_of e b)
want_bytes e b i any = letter_bytes e b i

want_number : (e : Edition) (b kind : ℕ) {w : Want} {n : ℕ} (l : Letter) → l ≡ letter_of e b → Meets w (leaf kind (number n)) → l ≡ wanted w (letter_of e b)
want_number e b kind l i any = i

want_nil : (e : Edition) (b : ℕ) {w : Want} {n : ℕ} → b ≡ 78 → Meets w (leaf 13 (holding n)) → Leaf leaf-letter.Nil ≡ wanted w (letter_of e b)
want_nil e b i any = letter_nil e b i

want_unicode : (e : Edition) (b : ℕ) {w : Want} {t : List ℕ} → b ≡ 117 → Meets w (leaf 11 (contents t)) → Leaf leaf-letter.Unicode ≡ wanted w (letter_of e b)
want_unicode e b i any = letter_unicode e b i
want_unicode e b i unicode_met = rw (← letter_unicode e b i)

want_plain : (e : Edition) (b : ℕ) {w : Want} {ps : Pairs} → b ≡ 68 → Meets w (plain ps) → Many many-letter.Dict ≡ wanted w (letter_of e b)
want_plain e b i any = letter_dict e b i
want_plain e b i dict_met = rw (← letter_dict e b i)

want_ordered : (e : Edition) (b : ℕ) {w : Want} {ps : Pairs} → b ≡ 79 → Meets w (ordered ps) → Many many-letter.Ordered ≡ wanted w (letter_of e b)
want_ordered e b i any = letter_ordered e b i
want_ordered e b i ordered_met = rw (← letter_ordered e b i)

want_many : (e : Edition) (b kind : ℕ) {w : Want} {ts : Trees} (l : Letter) → l ≡ letter_of e b → Meets w (many kind ts) → l ≡ wanted w (letter_of e b)
want_many e b kind l i any = i

extends_letter : {e : Edition} {x : ℕ} (b : ℕ) → b ≡ x → Extends e x → Three three-letter.Extension ≡ letter_of e b
extends_letter b i new_extension = letter_new_x New b i refl
extends_letter b i old_extension = letter_old_h Old b i refl

nodes_letter : {e : Edition} {x : ℕ} (b : ℕ) → b ≡ x → Nodes e x → Three three-letter.Node ≡ letter_of e b
nodes_letter b i old_node = letter_old_x Old b i refl

-- the end of an object with three children
closing_reads : {s : List ℕ} (kind r : ℕ) {o : Reading} {cs : List Cell} {to to' : ℕ} → has_number kind ≡ false → has_content kind ≡ false → Reads s o (r + 1) cs to → past s to ≡ to' → to' < length s → byte_at s to' ≡ 59 → Reads s (closing s kind r o) r (cell kind (length cs) (holding 3) ∷ cs) (to' + 1)
closing_reads {s} kind r {cs = cs} h k g p l b =
    let i : r + 1 ≡ suc r = omega arith in
    let z : Realises s (suc r) g.rows cs = rw i at g.realises in
    record {
      rows = row kind 0 3 (r + 1 + length g.rows) ∷ g.rows;
      is = ap (closing s kind r) g.is ∙ simp (p, lt-ltb _ _ l, b);
      realises = and_then (over_means kind r h k (counts z)) z;
    }

three_by : (s : List ℕ) (l : ThreeLetter) (f : Want → Reader) (at r kind : ℕ) (w v : Want) → w ≡ name_want l → v ≡ attributes_want l → kind ≡ three_kind l → threeAt s l f at r ≡ closing s kind r (next s (next s (next s (got [] (at + 1)) (r + 1) (f w)) (r + 1) (f v)) (r + 1) (f Any))
unfolding threeAt
three_by s l f at r kind w v x y k = rw (x, y, k)

three_cells : (us vs ws : List Cell) → (us ++ vs) ++ ws ≡ us ++ (vs ++ (ws ++ []))
three_cells us vs ws = append_assoc us vs ws ∙ ap (λ (l : List Cell). us ++ (vs ++ l)) (sym (append-nil ws))

reads_cells : {s : List ℕ} (kind : ℕ) {o : Reading} {r to : ℕ} {cs ds : List Cell} → cs ≡ ds → Reads s o r (cell kind (length cs) (holding 3) ∷ cs) to → Reads s o r (cell kind (length ds) (holding 3) ∷ ds) to
reads_cells kind e g = rw e at g

-- WHAT IS DERIVED IS READ
mutual
  unfolding cells cells_of pair_cells entry kept manyAt has_number has_content good_text is_blank

  pub reads_object :
      {e : Edition} {d : ℕ} {xs : List ℕ} {t : Tree} → Object e d xs t → (w : Want) → Meets w t → {s : List ℕ} {at : ℕ} → Here s at xs → (room r : ℕ)
      → r + length (cells t) ≤ room → Reads s (object s room e d w at r) r (cells t) (at + length xs)
  reads_object {e} {d} (integer {bits = bits} {xs = xs} {ys} {zs} a v i k z) w q {s} {at} h room r l =
      number_one 4 (at + 1 + length xs + length ys + 1) refl
      (leaf_is s room e d w at r leaf-letter.Integer (omega (arith, ends h)) (want_number e (byte_at s at) 4 (Leaf leaf-letter.Integer) (letter_integer e (byte_at s at) (first h)) q) (omega arith) (integer_reads s at r a v i (rw z at (back (105 ∷ []) zs h refl)) ∙ ap (λ (x : ℕ). got (row 4 x 0 (r + 1) ∷ []) (at + 1 + length xs + length ys + 1)) (sym k)))
      (omega (arith, ap length z, length-append xs (ys ++ (59 ∷ [])), length-append ys (59 ∷ [])))
  reads_object {e} {d} (unicode {zs = zs} c g) w q {s} {at} h room r l =
      let x = text_reads s at true r c g (back (117 ∷ []) zs h refl) in
      text_one true (leaf_is s room e d w at r leaf-letter.Unicode (omega (arith, ends h)) (want_unicode e (byte_at s at) (first h) q) (omega arith) x.is) (omega arith) x.here
  reads_object {e} {d} (bytearray {zs = zs} c) w q {s} {at} h room r l =
      let x = text_reads s at false r c refl (back (98 ∷ []) zs h refl) in
      text_one false (leaf_is s room e d w at r leaf-letter.Bytes (omega (arith, ends h)) (want_bytes e (byte_at s at) (first h) q) (omega arith) x.is) (omega arith) x.here
  reads_object {e} {d} true_object w q {s} {at} h room r l =
      number_one 5 (at + 2) refl (leaf_is s room e d w at r leaf-letter.True (omega (arith, ends h)) (want_number e (byte_at s at) 5 (Leaf leaf-letter.True) (letter_true e (byte_at s at) (first h)) q) (omega arith) (single_reads 5 1 r h)) (omega arith)
  reads_object {e} {d} false_object w q {s} {at} h room r l =
      number_one 5 (at + 2) refl (leaf_is s room e d w at r leaf-letter.False (omega (arith, ends h)) (want_number e (byte_at s at) 5 (Leaf leaf-letter.False) (letter_false e (byte_at s at) (first h)) q) (omega arith) (single_reads 5 0 r h)) (omega arith)
  reads_object {e} {d} nil w q {s} {at} h room r l =
      one (row 13 0 0 (r + 1)) (at + 2) (leaf_is s room e d w at r leaf-letter.Nil (omega (arith, ends h)) (want_nil e (byte_at s at) (first h) q) (omega arith) (single_reads 13 0 r h)) (omega arith) (means {below = 0} refl (omega arith) (says_holding refl refl refl refl))
  reads_object (list {e} {d} {xs} {ys} {zs} {ts} b o z) w q {s} {at} h room r l =
      let tail : Here s (at + 1) zs = back (76 ∷ []) zs h refl in
      let hx : Here s (at + 1) xs = front xs ys tail z in
      let hy : Here s (at + 1 + length xs) ys = back xs ys tail z in
      let p : past s (at + 1) ≡ at + 1 + length xs = past_exact hx b (objects_blank o hy) in
      held 9 (count ts) r refl refl
      (many_is s room e d w at r (omega (arith, ends h)) (omega arith) many-letter.List (want_many e (byte_at s at) 9 (Many many-letter.List) (letter_list e (byte_at s at) (first h)) q) ∙ ap (λ (x : ℕ). run s (entry s false (object s room e d)) (kept s false) 9 (length s) 0 [] [] x r) p)
      (reads_objects o hy room 9 (length s) 0 r [] [] (omega (arith, ends h)) (omega arith))
      (omega (arith, ap length z, length-append xs ys))
  reads_object (dict {e} {d} {xs} {ys} {zs} {ps} b o z) w q {s} {at} h room r l =
      let tail : Here s (at + 1) zs = back (68 ∷ []) zs h refl in
      let hx : Here s (at + 1) xs = front xs ys tail z in
      let hy : Here s (at + 1 + length xs) ys = back xs ys tail z in
      let p : past s (at + 1) ≡ at + 1 + length xs = past_exact hx b (members_blank o hy) in
      held 10 (count_pairs ps) r refl refl
      (many_is s room e d w at r (omega (arith, ends h)) (omega arith) many-letter.Dict (want_plain e (byte_at s at) (first h) q) ∙ ap (λ (x : ℕ). run s (entry s true (object s room e d)) (kept s true) 10 (length s) 0 [] [] x r) p)
      (reads_members o hy room 10 (length s) 0 r [] (omega (arith, ends h)) (omega arith))
      (omega (arith, ap length z, length-append xs ys))
  reads_object (ordered_dict {e} {d} {xs} {ys} {zs} {ps} b o z) w q {s} {at} h room r l =
      let tail : Here s (at + 1) zs = back (79 ∷ []) zs h refl in
      let hx : Here s (at + 1) xs = front xs ys tail z in
      let hy : Here s (at + 1 + length xs) ys = back xs ys tail z in
      let p : past s (at + 1) ≡ at + 1 + length xs = past_exact hx b (members_blank o hy) in
      held 14 (count_pairs ps) r refl refl
      (many_is s room e d w at r (omega (arith, ends h)) (omega arith) many-letter.Ordered (want_ordered e (byte_at s at) (first h) q) ∙ ap (λ (x : ℕ). run s (entry s true (object s room e d)) (kept s true) 14 (length s) 0 [] [] x r) p)
      (reads_members o hy room 14 (length s) 0 r [] (omega (arith, ends h)) (omega arith))
      (omega (arith, ap length z, length-append xs ys))
  reads_object (extension {e} {d} {x} {zs} {a} {b} {c} k p) w q {s} {at} h room r l =
      reads_by (three_is s room e d w at r (omega (arith, ends h)) (omega arith) three-letter.Extension (want_many e (byte_at s at) 15 (Three three-letter.Extension) (extends_letter (byte_at s at) (first h) k) q)) (omega arith)
      (reads_parts p s at (back (x ∷ []) zs h refl) three-letter.Extension 15 refl refl refl refl refl room r (omega arith))
  reads_object (node {e} {d} {x} {zs} {a} {b} {c} k p) w q {s} {at} h room r l =
      reads_by (three_is s room e d w at r (omega (arith, ends h)) (omega arith) three-letter.Node (want_many e (byte_at s at) 16 (Three three-letter.Node) (nodes_letter (byte_at s at) (first h) k) q)) (omega arith)
      (reads_parts p s at (back (x ∷ []) zs h refl) three-letter.Node 16 refl refl refl refl refl room r (omega arith))

  reads_objects :
      {e : Edition} {d : ℕ} {ys : List ℕ} {ts : Trees} → Objects e d ys ts → {s : List ℕ} {at : ℕ} → Here s at ys → (room kind fuel k r : ℕ) (seen : Texts) (acc : List Row)
      → length s - at < fuel → r + 1 + length acc + length (cells_of ts) ≤ room
      → ReadsOn s (run s (entry s false (object s room e d)) (kept s false) kind fuel k seen acc at r) kind k (count ts) acc r (cells_of ts) (at + length ys)
  reads_objects {e} {d} close {s} {at} h room kind fuel k r seen acc g l =
      record { new = []; is = run_closed s (entry s false (object s room e d)) (kept s false) kind k seen acc at r fuel (omega arith) (rw (first h)) ∙ rw (add-zero k, append-nil acc); realises = no_more }
  reads_objects (more {e} {d} {xs} {ys} {zs} {ws} {t} {ts} o b os z) {s} {at} h room kind fuel k r seen acc g l =
      let hx : Here s at xs = front xs (ys ++ zs) h z in
      let hr : Here s (at + length xs) (ys ++ zs) = back xs (ys ++ zs) h z in
      let hy : Here s (at + length xs) ys = front ys zs hr refl in
      let hz : Here s (at + length xs + length ys) zs = back ys zs hr refl in
      let m : length (cells t ++ cells_of ts) ≡ length (cells t) + length (cells_of ts) = length-append (cells t) (cells_of ts) in
      let p : past s (at + length xs) ≡ at + length xs + length ys = past_exact hy b (objects_blank os hz) in
      let i = reads_object o Any any hx room (r + 1 + length acc) (omega (arith, m)) in
      let some : 0 < length xs = begun (object_begins o) in
      joined k r (run_got s (entry s false (object s room e d)) (kept s false) kind k seen acc at r fuel (omega arith) (begins_on (object_begins o) hx) i.is p) i.realises
      (reads_objects os hz room kind (fuel - 1) (k + 1) r seen (acc ++ i.rows) (omega (arith, ends hx)) (omega (arith, m, length-append acc i.rows, counts i.realises)))
      (omega (arith, ap length z, length-append xs (ys ++ zs), length-append ys zs))

  reads_members :
      {e : Edition} {d : ℕ} {seen : List (List ℕ)} {ys : List ℕ} {ps : Pairs} → Members e d seen ys ps → {s : List ℕ} {at : ℕ} → Here s at ys → (room kind fuel k r : ℕ) (acc : List Row)
      → length s - at < fuel → r + 1 + length acc + length (pair_cells ps) ≤ room
      → ReadsOn s (run s (entry s true (object s room e d)) (kept s true) kind fuel k seen acc at r) kind k (count_pairs ps) acc r (pair_cells ps) (at + length ys)
  reads_members {e} {d} {seen} close_members {s} {at} h room kind fuel k r acc g l =
      record { new = []; is = run_closed s (entry s true (object s room e d)) (kept s true) kind k seen acc at r fuel (omega arith) (rw (first h)) ∙ rw (add-zero k, append-nil acc); realises = no_more }
  reads_members (more_members {e} {d} {seen} {k = key} {xs} {ys} {us} {vs} {zs} {ws} {t} {ps} o a b v c os z) {s} {at} h room kind fuel k r acc g l =
      let hx : Here s at xs = front xs (ys ++ (us ++ (vs ++ zs))) h z in
      let h₁ : Here s (at + length xs) (ys ++ (us ++ (vs ++ zs))) = back xs (ys ++ (us ++ (vs ++ zs))) h z in
      let hy : Here s (at + length xs) ys = front ys (us ++ (vs ++ zs)) h₁ refl in
      let h₂ : Here s (at + length xs + length ys) (us ++ (vs ++ zs)) = back ys (us ++ (vs ++ zs)) h₁ refl in
      let hu : Here s (at + length xs + length ys) us = front us (vs ++ zs) h₂ refl in
      let h₃ : Here s (at + length xs + length ys + length us) (vs ++ zs) = back us (vs ++ zs) h₂ refl in
      let hv : Here s (at + length xs + length ys + length us) vs = front vs zs h₃ refl in
      let hz : Here s (at + length xs + length ys + length us + length vs) zs = back vs zs h₃ refl in
      let m : length (cells t ++ pair_cells ps) ≡ length (cells t) + length (pair_cells ps) = length-append (cells t) (pair_cells ps) in
      let p : past s (at + length xs) ≡ at + length xs + length ys = past_exact hy b (begins_blank (object_begins v) hu) in
      let p₂ : past s (at + length xs + length ys + length us) ≡ at + length xs + length ys + length us + length vs = past_exact hv c (members_blank os hz) in
      let i = distinct_reads seen at a (reads_object o Text unicode_met hx room (r + 1 + length acc) (omega (arith, m))) in
      let j = next_reads room e d Any i p (reads_object v Any any hu room (r + 1 + length acc + 1) (omega (arith, m))) in
      let some : 0 < length xs = begun (object_begins o) in
      let q = run_got s (entry s true (object s room e d)) (kept s true) kind k seen acc at r fuel (omega arith) (begins_on (object_begins o) hx) j.is p₂ in
      joined k r (q ∙ ap (λ (x : List ℕ). run s (entry s true (object s room e d)) (kept s true) kind (fuel - 1) (k + 1) (x ∷ seen) (acc ++ j.rows) (at + length xs + length ys + length us + length vs) r) (first_text_lem j.realises)) j.realises
      (reads_members os hz room kind (fuel - 1) (k + 1) r (acc ++ j.rows) (omega (arith, ends hx)) (omega (arith, m, length-append acc j.rows, counts j.realises)))
      (omega (arith, ap length z, length-append xs (ys ++ (us ++ (vs ++ zs))), length-append ys (us ++ (vs ++ zs)), length-append us (vs ++ zs), length-append vs zs))

  reads_parts :
      {e : Edition} {d : ℕ} {w v : Want} {ws : List ℕ} {a b c : Tree} → Parts e d w v ws a b c → (s : List ℕ) (at : ℕ) → Here s (at + 1) ws → (l : ThreeLetter) (kind : ℕ) → w ≡ name_want l → v ≡ attributes_want l → kind ≡ three_kind l
      → has_number kind ≡ false → has_content kind ≡ false → (room r : ℕ) → r + 1 + length (cells a ++ (cells b ++ (cells c ++ []))) ≤ room
      → Reads s (threeAt s l (object s room e d) at r) r (cell kind (length (cells a ++ (cells b ++ (cells c ++ [])))) (holding 3) ∷ (cells a ++ (cells b ++ (cells c ++ [])))) (at + 1 + length ws)
  reads_parts (parts {e} {d} {w} {v} {ps} {qs} {rs} {ss} {xs} {ys} {zs} {ws} {a} {b} {c} ba oa ma bb ob mb bc oc bd z) s at h l kind x y k hn hc room r n =
      let h₀ : Here s (at + 1) (ps ++ (xs ++ (qs ++ (ys ++ (rs ++ (zs ++ (ss ++ (59 ∷ [])))))))) = rw z at h in
      let hp : Here s (at + 1) ps = front ps _ h₀ refl in
      let h₁ : Here s (at + 1 + length ps) (xs ++ (qs ++ (ys ++ (rs ++ (zs ++ (ss ++ (59 ∷ []))))))) = back ps _ h₀ refl in
      let hx : Here s (at + 1 + length ps) xs = front xs _ h₁ refl in
      let h₂ : Here s (at + 1 + length ps + length xs) (qs ++ (ys ++ (rs ++ (zs ++ (ss ++ (59 ∷ [])))))) = back xs _ h₁ refl in
      let hq : Here s (at + 1 + length ps + length xs) qs = front qs _ h₂ refl in
      let h₃ : Here s (at + 1 + length ps + length xs + length qs) (ys ++ (rs ++ (zs ++ (ss ++ (59 ∷ []))))) = back qs _ h₂ refl in
      let hy : Here s (at + 1 + length ps + length xs + length qs) ys = front ys _ h₃ refl in
      let h₄ : Here s (at + 1 + length ps + length xs + length qs + length ys) (rs ++ (zs ++ (ss ++ (59 ∷ [])))) = back ys _ h₃ refl in
      let hr : Here s (at + 1 + length ps + length xs + length qs + length ys) rs = front rs _ h₄ refl in
      let h₅ : Here s (at + 1 + length ps + length xs + length qs + length ys + length rs) (zs ++ (ss ++ (59 ∷ []))) = back rs _ h₄ refl in
      let hz : Here s (at + 1 + length ps + length xs + length qs + length ys + length rs) zs = front zs _ h₅ refl in
      let h₆ : Here s (at + 1 + length ps + length xs + length qs + length ys + length rs + length zs) (ss ++ (59 ∷ [])) = back zs _ h₅ refl in
      let hs : Here s (at + 1 + length ps + length xs + length qs + length ys + length rs + length zs) ss = front ss _ h₆ refl in
      let h₇ : Here s (at + 1 + length ps + length xs + length qs + length ys + length rs + length zs + length ss) (59 ∷ []) = back ss _ h₆ refl in
      let m : length (cells a ++ (cells b ++ (cells c ++ []))) ≡ length (cells a) + (length (cells b) + length (cells c)) = ap length (sym (three_cells (cells a) (cells b) (cells c))) ∙ omega (arith, length-append (cells a ++ cells b) (cells c), length-append (cells a) (cells b)) in
      let mab : length (cells a ++ cells b) ≡ length (cells a) + length (cells b) = length-append (cells a) (cells b) in
      let g₀ : Reads s (got [] (at + 1)) (r + 1) [] (at + 1) = record { rows = []; is = refl; realises = no_more } in
      let g₁ = next_reads room e d w g₀ (past_exact hp ba (begins_blank (object_begins oa) hx)) (reads_object oa w ma hx room (r + 1 + 0) (omega (arith, m))) in
      let g₂ = next_reads room e d v g₁ (past_exact hq bb (begins_blank (object_begins ob) hy)) (reads_object ob v mb hy room (r + 1 + length (cells a)) (omega (arith, m))) in
      let g₃ = next_reads room e d Any g₂ (past_exact hr bc (begins_blank (object_begins oc) hz)) (reads_object oc Any any hz room (r + 1 + length (cells a ++ cells b)) (omega (arith, m, mab))) in
      let g₄ = closing_reads kind r hn hc g₃ (past_exact hs bd (rw (first h₇))) (omega (arith, ends h₇)) (first h₇) in
      reads_by (three_by s l (object s room e d) at r kind w v x y k) (omega (arith, ap length z, length-append ps (xs ++ (qs ++ (ys ++ (rs ++ (zs ++ (ss ++ (59 ∷ []))))))), length-append xs (qs ++ (ys ++ (rs ++ (zs ++ (ss ++ (59 ∷ [])))))), length-append qs (ys ++ (rs ++ (zs ++ (ss ++ (59 ∷ []))))), length-append ys (rs ++ (zs ++ (ss ++ (59 ∷ [])))), length-append rs (zs ++ (ss ++ (59 ∷ []))), length-append zs (ss ++ (59 ∷ [])), length-append ss (59 ∷ [])))
      (reads_cells kind (three_cells (cells a) (cells b) (cells c)) g₄)
