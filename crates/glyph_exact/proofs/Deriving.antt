-- Whatever is read, the grammar derives from exactly the bytes that were read, and the rows have its meaning. Assumes nothing.
use mathlib.Core.Path.{◌≡◌, refl, sym, ap, ◌∙◌}
use mathlib.Core.Bool.{Bool, true, false, ◌&&◌, cond}
use mathlib.Core.List.{List, [], ◌∷◌, ◌++◌, append_assoc, append-nil}
use Prim.Native.Nat.{ℕ, zero, suc, ◌+◌, ◌*◌, ◌≤◌, ◌<◌}
use native.Mathlib.Omega.{arith}
use native.Mathlib.Nat.{add-zero, zero-add}
use lib.Dec.{eqb, ltb, leb}
use lib.ListN.{length, take, drop, length-append, length-drop}
use borrow.Author.Tests.{ltb-true, leb-true, eqb-true}
use Rattle.text.specs.Utf8.{well_formed, octets}
use Rattle.text.specs.Texts.{among}
use Rattle.lexical.specs.Digits.{digit, digit_value}
use Rattle.draft.specs.declared.Row.{Row}
use Rattle.draft.specs.Bytes.{byte_at, part}
use Rattle.draft.specs.Rows.{row}
use Rattle.draft.specs.Grammar.{Payload, holding, number, contents, Cell, cell}
use Rattle.draft.specs.Meaning.{has_number, has_content, says_holding, says_number, says_contents, Means, means, Realises, no_more, and_then}
use Rattle.exact.proofs.Standing.{Here, ends, join, bytes_at_lem, long, byte_before, nothing_here, part_here}
use Rattle.exact.proofs.Realising.{over_means, counts, realises_append}
use Rattle.glyph.specs.declared.Refusal.{Refusal}
use Rattle.glyph.specs.declared.Refusal.TheVariants.{RepeatedKey}
use Rattle.glyph.specs.declared.Edition.{Edition}
use Rattle.glyph.specs.declared.Edition.TheVariants.{New, Old}
use Rattle.glyph.specs.declared.Leaf.{Leaf as LeafLetter}
use Rattle.glyph.specs.declared.Leaf.TheVariants as leaf-letter
use Rattle.glyph.specs.declared.Many.{Many as ManyLetter}
use Rattle.glyph.specs.declared.Many.TheVariants as many-letter
use Rattle.glyph.specs.declared.Three.{Three as ThreeLetter}
use Rattle.glyph.specs.declared.Three.TheVariants as three-letter
use Rattle.glyph.specs.declared.Letter.{Letter}
use Rattle.glyph.specs.declared.Letter.TheVariants.{Leaf, Many, Three, Unknown}
use Rattle.glyph.specs.declared.Want.{Want}
use Rattle.glyph.specs.declared.Want.TheVariants.{Any, Text, EitherDict}
use Rattle.glyph.specs.Letters.{letter_x, letter_h, letter_of, wanted}
use Rattle.glyph.specs.Numbers.{is_blank, blanks, past, digits, decimal, is_minus, signs, in_range, word}
use Rattle.glyph.specs.Read.{Reading, got, refused, then, behind, Reader, Texts, Nest, floor, under, numbered, leaf_of, single, number_from, integer as integerAt, content as contentAt, lengthened, text, text_kind, good_text, next, run, first_text, distinct, entry, kept, closing, many as manyAt, three as threeAt, item, object, rooted, root}
use Rattle.glyph.specs.Tree.{Tree, leaf, many, plain, ordered, Trees, none, also, Pairs, no_pairs, pair, count, count_pairs, cells, cells_of, pair_cells}
use Rattle.glyph.specs.Grammar.{Blanks, no_blanks, and_blank, Sign, plus, minus, no_sign, Digits, no_digits, and_digit, value_of, Number, ascii_number, Content, content, empty, Meets, any, unicode_met, dict_met, ordered_met, Extends, new_extension, old_extension, Nodes, old_node, Object, integer, unicode, bytearray, true_object, false_object, nil, list, dict, ordered_dict, extension, node, Objects, close, more, Members, close_members, more_members, Parts, parts, Root}

-- what an accepted reading says of the tests on its way
no_got : {A : Type 0} {m : Refusal} {q : ℕ} {rows : List Row} {to : ℕ} → refused m q ≡ got rows to → A
no_got e = let z : ◌≡◌ {A = ℕ} 0 1 = cc in absurd (omega arith)

module _ {rows : List Row} {to : ℕ} where
  picked : (b : Bool) (x : Reading) (m : Refusal) (q : ℕ) → cond b x (refused m q) ≡ got rows to → (b ≡ true) × (x ≡ got rows to)
  picked true x m q e = (refl, e)
  picked false x m q e = no_got e

-- blanks and digits in front
blank_on : (x : ℕ) (xs : List ℕ) (b : Bool) → is_blank x ≡ b → Blanks (take (blanks xs) xs) → Blanks (take (cond b (suc (blanks xs)) 0) (x ∷ xs))
blank_on x xs true e h = and_blank e h
blank_on x xs false e h = no_blanks

blanks_all : (xs : List ℕ) → Blanks (take (blanks xs) xs)
unfolding blanks
blanks_all [] = no_blanks
blanks_all (x ∷ xs) = blank_on x xs (is_blank x) refl (blanks_all xs)

choose_in : (b : Bool) (n m : ℕ) → n ≤ m → cond b (suc n) 0 ≤ suc m
choose_in true n m h = omega arith
choose_in false n m h = omega arith

blanks_in : (xs : List ℕ) → blanks xs ≤ length xs
unfolding blanks
blanks_in [] = omega arith
blanks_in (x ∷ xs) = choose_in (is_blank x) (blanks xs) (length xs) (blanks_in xs)

digit_on : (x : ℕ) (xs : List ℕ) (b : Bool) → digit x ≡ b → Digits (take (digits xs) xs) → Digits (take (cond b (suc (digits xs)) 0) (x ∷ xs))
digit_on x xs true e h = and_digit e h
digit_on x xs false e h = no_digits

digits_all : (xs : List ℕ) → Digits (take (digits xs) xs)
unfolding digits
digits_all [] = no_digits
digits_all (x ∷ xs) = digit_on x xs (digit x) refl (digits_all xs)

value_on : (n x : ℕ) (xs : List ℕ) (b : Bool) → decimal (n * 10 + digit_value x) xs ≡ value_of (n * 10 + digit_value x) (take (digits xs) xs) → cond b (decimal (n * 10 + digit_value x) xs) n ≡ value_of n (take (cond b (suc (digits xs)) 0) (x ∷ xs))
value_on n x xs true h = h
value_on n x xs false h = refl

value_all : (n : ℕ) (xs : List ℕ) → decimal n xs ≡ value_of n (take (digits xs) xs)
unfolding decimal digits
value_all n [] = refl
value_all n (x ∷ xs) = value_on n x xs (digit x) (value_all (n * 10 + digit_value x) xs)

-- the blanks at a place
record Blank (s : List ℕ) (at to : ℕ) : Type 0 where
  bytes : List ℕ
  blanks : Blanks bytes
  here : Here s at bytes
  ends : to ≡ at + length bytes

blank_at : (s : List ℕ) (at : ℕ) → at ≤ length s → Blank s at (past s at)
unfolding past
blank_at s at h =
    let n = blanks_in (drop at s) in
    let k : at + blanks (drop at s) ≤ length s = omega (arith, n, length-drop at s) in
    record { bytes = take (blanks (drop at s)) (drop at s); blanks = blanks_all (drop at s); here = bytes_at_lem s at (blanks (drop at s)) k; ends = omega (arith, long s at (blanks (drop at s)) k) }

after_blanks : {s : List ℕ} {at to : ℕ} {xs : List ℕ} (w : Blank s at to) → Here s to xs → Here s at (w.bytes ++ xs)
after_blanks {xs = xs} w h = join w.bytes xs w.here (rw w.ends at h) refl

pub here_at : {s : List ℕ} {at to : ℕ} {xs : List ℕ} → at ≡ to → Here s at xs → Here s to xs
here_at e h = rw e at h

-- one byte
byte_here : {s : List ℕ} {at b : ℕ} → at < length s → byte_at s at ≡ b → Here s at (b ∷ [])
byte_here {s} {at} h e = let z : Here s (at + 1) [] = nothing_here (omega arith) in rw e at (byte_before {s = s} h z)

pub with_byte : {s : List ℕ} {at b : ℕ} {xs : List ℕ} → at < length s → byte_at s at ≡ b → Here s (at + 1) xs → Here s at (b ∷ xs)
with_byte h e k = rw e at (byte_before h k)

-- the byte of a letter
abbrev pub Byte : Edition → Letter → ℕ → Type 0
Byte e (Leaf leaf-letter.Integer) b = b ≡ 105
Byte e (Leaf leaf-letter.Unicode) b = b ≡ 117
Byte e (Leaf leaf-letter.Bytes) b = b ≡ 98
Byte e (Leaf leaf-letter.True) b = b ≡ 84
Byte e (Leaf leaf-letter.False) b = b ≡ 70
Byte e (Leaf leaf-letter.Nil) b = b ≡ 78
Byte e (Many many-letter.List) b = b ≡ 76
Byte e (Many many-letter.Dict) b = b ≡ 68
Byte e (Many many-letter.Ordered) b = b ≡ 79
Byte e (Three three-letter.Extension) b = Extends e b
Byte e (Three three-letter.Node) b = Nodes e b
Byte e Unknown b = Unit {0}

letter_or : (e : Edition) (b k : ℕ) (x y : Letter) → (b ≡ k → Byte e x b) → Byte e y b → Byte e (cond (eqb b k) x y) b
letter_or e b k x y h i = go (eqb b k) refl
  where
    go : (c : Bool) → eqb b k ≡ c → Byte e (cond c x y) b
    go true j = h (eqb-true b k j)
    go false j = i

x_byte : (e : Edition) (b : ℕ) → b ≡ 88 → Byte e (letter_x e) b
x_byte New b i = rw i new_extension
x_byte Old b i = rw i old_node

h_byte : (e : Edition) (b : ℕ) → b ≡ 72 → Byte e (letter_h e) b
h_byte New b i = tt
h_byte Old b i = rw i old_extension

pub letter_byte : (e : Edition) (b : ℕ) → Byte e (letter_of e b) b
unfolding letter_of
letter_byte e b =
    letter_or e b 105 (Leaf leaf-letter.Integer) _ (λ i. i)
    (letter_or e b 117 (Leaf leaf-letter.Unicode) _ (λ i. i)
    (letter_or e b 98 (Leaf leaf-letter.Bytes) _ (λ i. i)
    (letter_or e b 84 (Leaf leaf-letter.True) _ (λ i. i)
    (letter_or e b 70 (Leaf leaf-letter.False) _ (λ i. i)
    (letter_or e b 78 (Leaf leaf-letter.Nil) _ (λ i. i)
    (letter_or e b 76 (Many many-letter.List) _ (λ i. i)
    (letter_or e b 68 (Many many-letter.Dict) _ (λ i. i)
    (letter_or e b 79 (Many many-letter.Ordered) _ (λ i. i)
    (letter_or e b 88 (letter_x e) _ (x_byte e b)
    (letter_or e b 72 (letter_h e) Unknown (h_byte e b) tt))))))))))

-- a letter where it may stand
pub data Allowed : Want → Letter → Type 0 where
  allow_any : {l : Letter} → Allowed Any l
  allow_text : Allowed Text (Leaf leaf-letter.Unicode)
  allow_dict : Allowed EitherDict (Many many-letter.Dict)
  allow_ordered : Allowed EitherDict (Many many-letter.Ordered)

pub data Stand (w : Want) (l : Letter) : Type 0 where
  out : wanted w l ≡ Unknown → Stand w l
  inside : wanted w l ≡ l → Allowed w l → Stand w l

pub stands : (w : Want) (l : Letter) → Stand w l
stands Any l = inside refl allow_any
stands Text (Leaf leaf-letter.Unicode) = inside refl allow_text
stands Text (Leaf leaf-letter.Integer) = out refl
stands Text (Leaf leaf-letter.Bytes) = out refl
stands Text (Leaf leaf-letter.True) = out refl
stands Text (Leaf leaf-letter.False) = out refl
stands Text (Leaf leaf-letter.Nil) = out refl
stands Text (Many l) = out refl
stands Text (Three l) = out refl
stands Text Unknown = out refl
stands EitherDict (Leaf l) = out refl
stands EitherDict (Many many-letter.List) = out refl
stands EitherDict (Many many-letter.Dict) = inside refl allow_dict
stands EitherDict (Many many-letter.Ordered) = inside refl allow_ordered
stands EitherDict (Three l) = out refl
stands EitherDict Unknown = out refl

-- an object that the grammar derives from the bytes up to `to`
pub record Derived (e : Edition) (s : List ℕ) (w : Want) (d at r : ℕ) (rows : List Row) (to : ℕ) : Type 0 where
  pub used : List ℕ
  pub tree : Tree
  pub object : Object e d used tree
  pub meets : Meets w tree
  pub here : Here s at used
  pub ends : to ≡ at + length used
  pub realises : Realises s r rows (cells tree)

-- of one row
leaf_derived : {e : Edition} {s : List ℕ} {w : Want} {d at r : ℕ} {rows : List Row} {to : ℕ} (x : Row) (to₀ : ℕ) {used : List ℕ} {kind : ℕ} {load : Payload} → got (x ∷ []) to₀ ≡ got rows to → Object e d used (leaf kind load) → Meets w (leaf kind load) → Here s at used → to₀ ≡ at + length used → Means s r x (cell kind 0 load) → Derived e s w d at r rows to
unfolding cells
leaf_derived {s = s} {r = r} {rows = rows} {to} x to₀ {used} {kind} {load} i v q h n m =
    let j : x ∷ [] ≡ rows = cc in
    let k : to₀ ≡ to = cc in
    let t : Realises s r (x ∷ []) (cell kind 0 load ∷ []) = and_then m no_more in
    record { used = used; tree = leaf kind load; object = v; meets = q; here = h; ends = sym k ∙ n; realises = rw j at t }

number_means : {s : List ℕ} (kind n r : ℕ) → has_number kind ≡ true → Means s r (row kind n 0 (r + 1)) (cell kind 0 (number n))
number_means kind n r h = means {below = 0} refl (omega arith) (says_number h refl refl)

-- a letter and `;`
single_here : {s : List ℕ} {at b : ℕ} (kind a r : ℕ) {rows : List Row} {to : ℕ} → at < length s → byte_at s at ≡ b → single s kind a at r ≡ got rows to → (got (row kind a 0 (r + 1) ∷ []) (at + 2) ≡ got rows to) × Here s at (b ∷ 59 ∷ [])
unfolding single
single_here {s} {at} {b} kind a r h e i =
    let f = picked (ltb (at + 1) (length s)) _ _ _ i in
    let g = picked (eqb (byte_at s (at + 1)) 59) _ _ _ f.1 in
    (g.1, with_byte h e (byte_here (ltb-true (at + 1) (length s) f.0) (eqb-true (byte_at s (at + 1)) 59 g.0)))

-- digits and the byte behind them
pub record Spelling (s : List ℕ) (from b : ℕ) : Type 0 where
  pub bytes : List ℕ
  pub number : Number (decimal 0 (drop from s)) bytes
  pub count : digits (drop from s) ≡ length bytes
  pub here : Here s from (bytes ++ (b ∷ []))

and_both : (a b : Bool) → (a && b) ≡ true → (a ≡ true) × (b ≡ true)
and_both true true e = (refl, refl)
and_both true false e = let z : ◌≡◌ {A = ℕ} 0 1 = cc in absurd (omega arith)
and_both false b e = let z : ◌≡◌ {A = ℕ} 0 1 = cc in absurd (omega arith)

some_number : (n : ℕ) (xs : List ℕ) (v : ℕ) → 0 < n → Digits (take n xs) → n ≡ length (take n xs) → v ≡ value_of 0 (take n xs) → Number v (take n xs)
some_number zero xs v h a l q = absurd (omega arith)
some_number (suc n) [] v h a l q = absurd (omega (arith, l))
some_number (suc n) (x ∷ xs) v h a l q = ascii_number a q

pub spelling : (s : List ℕ) (b from at : ℕ) (o : Reading) {rows : List Row} {to : ℕ} → numbered s b at from (digits (drop from s)) o ≡ got rows to → Spelling s from b × (o ≡ got rows to)
spelling s b from at o i =
    let n : ℕ = digits (drop from s) in
    let f = picked (ltb (from + n) (length s)) _ _ _ i in
    let g = picked (ltb 0 n && eqb (byte_at s (from + n)) b) _ _ _ f.1 in
    let a = and_both (ltb 0 n) (eqb (byte_at s (from + n)) b) g.0 in
    let inside = ltb-true (from + n) (length s) f.0 in
    let l = long s from n (omega arith) in
    let t : List ℕ = take n (drop from s) in
    let z : Here s (from + n) (b ∷ []) = byte_here inside (eqb-true (byte_at s (from + n)) b a.1) in (
      record {
        bytes = t;
        number = some_number n (drop from s) (decimal 0 (drop from s)) (ltb-true 0 n a.0) (digits_all (drop from s)) l (value_all 0 (drop from s));
        count = l;
        here = join t (b ∷ []) (bytes_at_lem s from n (omega arith)) (rw l at z) refl;
      },
      g.1,
    )

-- an integer
pub record SignHere (s : List ℕ) (at : ℕ) : Type 0 where
  pub minus : Bool
  pub bytes : List ℕ
  pub sign : Sign minus bytes
  pub here : Here s (at + 1) bytes
  pub is : is_minus (byte_at s (at + 1)) ≡ minus
  pub takes : signs (byte_at s (at + 1)) ≡ length bytes

pub sign_here : (s : List ℕ) (at : ℕ) → at + 1 + signs (byte_at s (at + 1)) ≤ length s → SignHere s at
unfolding is_minus signs
sign_here s at h = go (eqb (byte_at s (at + 1)) 45) refl (eqb (byte_at s (at + 1)) 43) refl
  where
    go : (a : Bool) → eqb (byte_at s (at + 1)) 45 ≡ a → (b : Bool) → eqb (byte_at s (at + 1)) 43 ≡ b → SignHere s at
    go true i b j =
        let k : signs (byte_at s (at + 1)) ≡ 1 = rw i in
        record { minus = true; bytes = 45 ∷ []; sign = minus; here = byte_here (omega (arith, k)) (eqb-true (byte_at s (at + 1)) 45 i); is = i; takes = k }
    go false i true j =
        let k : signs (byte_at s (at + 1)) ≡ 1 = rw (i, j) in
        record { minus = false; bytes = 43 ∷ []; sign = plus; here = byte_here (omega (arith, k)) (eqb-true (byte_at s (at + 1)) 43 j); is = i; takes = k }
    go false i false j =
        let k : signs (byte_at s (at + 1)) ≡ 0 = rw (i, j) in
        record { minus = false; bytes = []; sign = no_sign; here = nothing_here (omega (arith, k)); is = i; takes = k }

integer_sound : {e : Edition} {s : List ℕ} {w : Want} {d at r : ℕ} {rows : List Row} {to : ℕ} → at < length s → byte_at s at ≡ 105 → integerAt s at r ≡ got rows to → ((n : ℕ) → Meets w (leaf 4 (number n))) → Derived e s w d at r rows to
unfolding number_from has_number
integer_sound {e} {s} {w} {d} {at} {r} {rows} {to} h b i q =
    let from : ℕ = at + 1 + signs (byte_at s (at + 1)) in
    let x = spelling s 59 from at _ i in
    let sp = x.0 in
    let f = picked (in_range (is_minus (byte_at s (at + 1))) (decimal 0 (drop from s))) _ _ _ x.1 in
    let g = sign_here s at sp.here.starts in
    let l : from ≡ at + 1 + length g.bytes = omega (arith, g.takes) in
    let body : Here s (at + 1) (g.bytes ++ (sp.bytes ++ (59 ∷ []))) = join g.bytes (sp.bytes ++ (59 ∷ [])) g.here (here_at l sp.here) refl in
    leaf_derived (row 4 (word (is_minus (byte_at s (at + 1))) (decimal 0 (drop from s))) 0 (r + 1)) (from + digits (drop from s) + 1) f.1
    (integer g.sign sp.number (ap (λ (m : Bool). in_range m (decimal 0 (drop from s))) (sym g.is) ∙ f.0) (ap (λ (m : Bool). word m (decimal 0 (drop from s))) g.is) refl)
    (q _)
    (with_byte h b body)
    (omega (arith, l, sp.count, length-append g.bytes (sp.bytes ++ (59 ∷ [])), length-append sp.bytes (59 ∷ [])))
    (number_means 4 _ r refl)

-- a byte that is not 0 is there
there_by : (s : List ℕ) (i : ℕ) {x : ℕ} → byte_at s i ≡ x → 0 < x → i < length s
there_by [] i e h = absurd (omega arith)
there_by (y ∷ s) zero e h = omega arith
there_by (y ∷ s) (suc i) e h = let k = there_by s i e h in omega arith

-- a text
pub record TextDerived (s : List ℕ) (u : Bool) (at r : ℕ) (rows : List Row) (to : ℕ) : Type 0 where
  pub bytes : List ℕ
  pub text : List ℕ
  pub offset : ℕ
  pub content : Content bytes text
  pub good : good_text u text ≡ true
  pub here : Here s (at + 1) bytes
  pub is : got (row (text_kind u) offset (length text) (r + 1) ∷ []) (at + 1 + length bytes) ≡ got rows to
  pub lies : Here s offset text

empty_good : (u : Bool) → good_text u [] ≡ true
unfolding good_text well_formed octets
empty_good true = refl
empty_good false = refl

pub lengthened_sound : {s : List ℕ} (u : Bool) {at r : ℕ} {rows : List Row} {to : ℕ} → lengthened s u at r ≡ got rows to → TextDerived s u at r rows to
unfolding lengthened contentAt
lengthened_sound {s} u {at} {r} {rows} {to} i =
    let x = spelling s 58 (at + 1) at _ i in
    let sp = x.0 in
    let v : ℕ = decimal 0 (drop (at + 1) s) in
    let o : ℕ = at + 1 + digits (drop (at + 1) s) + 1 in
    let f = picked (ltb (o + v) (length s)) _ _ _ x.1 in
    let g = picked (eqb (byte_at s (o + v)) 59) _ _ _ f.1 in
    let j = picked (good_text u (part s o v)) _ _ _ g.1 in
    let inside = ltb-true (o + v) (length s) f.0 in
    let t : List ℕ = part s o v in
    let l : v ≡ length t = long s o v (omega arith) in
    let ht : Here s o t = bytes_at_lem s o v (omega arith) in
    let hs : Here s (o + v) (59 ∷ []) = byte_here inside (eqb-true (byte_at s (o + v)) 59 g.0) in
    let hc : Here s o (t ++ (59 ∷ [])) = join t (59 ∷ []) ht (rw l at hs) refl in
    let k : at + 1 + length (sp.bytes ++ (58 ∷ [])) ≡ o = omega (arith, sp.count, length-append sp.bytes (58 ∷ [])) in
    let all : Here s (at + 1) (sp.bytes ++ (58 ∷ (t ++ (59 ∷ [])))) = join (sp.bytes ++ (58 ∷ [])) (t ++ (59 ∷ [])) sp.here (here_at (sym k) hc) (sym (append_assoc sp.bytes (58 ∷ []) (t ++ (59 ∷ [])))) in
    let n : o + v + 1 ≡ at + 1 + length (sp.bytes ++ (58 ∷ (t ++ (59 ∷ [])))) = omega (arith, sp.count, l, length-append sp.bytes (58 ∷ (t ++ (59 ∷ []))), length-append t (59 ∷ [])) in
    record {
      bytes = sp.bytes ++ (58 ∷ (t ++ (59 ∷ [])));
      text = t;
      offset = o;
      content = content sp.number l refl;
      good = j.0;
      here = all;
      is = rw (← n, ← l) j.1;
      lies = ht;
    }

text_sound : {s : List ℕ} (u : Bool) {at r : ℕ} {rows : List Row} {to : ℕ} → text s u at r ≡ got rows to → TextDerived s u at r rows to
unfolding text
text_sound {s} u {at} {r} {rows} {to} i = go (eqb (byte_at s (at + 1)) 59) refl i
  where
    go : (b : Bool) → eqb (byte_at s (at + 1)) 59 ≡ b → cond b (got (row (text_kind u) (at + 1) 0 (r + 1) ∷ []) (at + 2)) (lengthened s u at r) ≡ got rows to → TextDerived s u at r rows to
    go true j k =
        let y = eqb-true (byte_at s (at + 1)) 59 j in
        let h = there_by s (at + 1) y (omega arith) in
        let q : at + 2 ≡ at + 1 + 1 = omega arith in
        record { bytes = 59 ∷ []; text = []; offset = at + 1; content = empty; good = empty_good u; here = byte_here h y; is = rw (← q) k; lies = nothing_here (omega arith) }
    go false j k = lengthened_sound u k

text_means : {s : List ℕ} {o r : ℕ} {t : List ℕ} (kind : ℕ) → has_content kind ≡ true → Here s o t → Means s r (row kind o (length t) (r + 1)) (cell kind 0 (contents t))
text_means kind h k = means {below = 0} refl (omega arith) (says_contents h (omega (arith, ends k)) (part_here k refl))

-- rows that are known by an equation
realised : {s : List ℕ} {r : ℕ} {xs ys : List Row} {cs : List Cell} → xs ≡ ys → Realises s r ys cs → Realises s r xs cs
realised e h = rw e h

realised_as : {s : List ℕ} {r : ℕ} {xs : List Row} {cs ds : List Cell} → cs ≡ ds → Realises s r xs cs → Realises s r xs ds
realised_as e h = rw e at h

realised_at : {s : List ℕ} {r q : ℕ} {xs : List Row} {cs : List Cell} → r ≡ q → Realises s r xs cs → Realises s q xs cs
realised_at e h = rw e at h

-- an object behind what was read
pub record NextInv (s : List ℕ) (o : Reading) (r : ℕ) (f : Reader) (rows : List Row) (to : ℕ) : Type 0 where
  pub front : List Row
  pub middle : ℕ
  pub back : List Row
  pub first : o ≡ got front middle
  pub second : f (past s middle) (r + length front) ≡ got back to
  pub all : rows ≡ front ++ back

pub next_inv : (s : List ℕ) (o : Reading) (r : ℕ) (f : Reader) {rows : List Row} {to : ℕ} → next s o r f ≡ got rows to → NextInv s o r f rows to
next_inv s (refused m q) r f i = no_got i
next_inv s (got front middle) r f {rows} {to} i = go (f (past s middle) (r + length front)) refl i
  where
    go : (x : Reading) → f (past s middle) (r + length front) ≡ x → behind front x ≡ got rows to → NextInv s (got front middle) r f rows to
    go (refused m q) j k = no_got k
    go (got back at) j k =
        let a : front ++ back ≡ rows = cc in
        let b : at ≡ to = cc in
        record { front = front; middle = middle; back = back; first = refl; second = j ∙ ap (got back) b; all = sym a }

pub record DistinctInv (s : List ℕ) (seen : Texts) (o : Reading) (rows : List Row) (to : ℕ) : Type 0 where
  pub reading : o ≡ got rows to
  pub new : among seen (first_text s rows) ≡ false

pub distinct_inv : (s : List ℕ) (seen : Texts) (at : ℕ) (o : Reading) {rows : List Row} {to : ℕ} → distinct s seen at o ≡ got rows to → DistinctInv s seen o rows to
unfolding distinct
distinct_inv s seen at (refused m q) i = no_got i
distinct_inv s seen at (got rows₀ to₀) {rows} {to} i = go (among seen (first_text s rows₀)) refl i
  where
    go : (b : Bool) → among seen (first_text s rows₀) ≡ b → cond b (refused RepeatedKey at) (got rows₀ to₀) ≡ got rows to → DistinctInv s seen (got rows₀ to₀) rows to
    go true j k = no_got k
    go false j k = let a : rows₀ ≡ rows = cc in record { reading = k; new = rw (← a) j }

-- the text of a row that means a text
first_text_lem : {s : List ℕ} {r : ℕ} {rows : List Row} {k : List ℕ} {cs : List Cell} → Realises s r rows (cell 11 0 (contents k) ∷ cs) → first_text s rows ≡ k
first_text_lem (and_then (means a b (says_contents c d p)) t) = p

-- a derived unicode
pub record Key (e : Edition) (s : List ℕ) (d at r : ℕ) (rows : List Row) (to : ℕ) : Type 0 where
  pub used : List ℕ
  pub text : List ℕ
  pub object : Object e d used (leaf 11 (contents text))
  pub here : Here s at used
  pub ends : to ≡ at + length used
  pub realises : Realises s r rows (cell 11 0 (contents text) ∷ [])

pub key_of : {e : Edition} {s : List ℕ} {d at r : ℕ} {rows : List Row} {to : ℕ} → Derived e s Text d at r rows to → Key e s d at r rows to
unfolding cells
key_of {e} {s} {d} {at} {r} {rows} {to} g = go g.tree g.meets g.object g.realises
  where
    go : (t : Tree) → Meets Text t → Object e d g.used t → Realises s r rows (cells t) → Key e s d at r rows to
    go (leaf kind load) unicode_met o z = record { used = g.used; text = _; object = o; here = g.here; ends = g.ends; realises = z }
    go (many _ _) m o z = elim m [ ]
    go (plain _) m o z = elim m [ ]
    go (ordered _) m o z = elim m [ ]

module _ (e : Edition) (s : List ℕ) where
  unfoldable pub Sound : (Want → Reader) → ℕ → Type 0
  Sound f d = (w : Want) (at r : ℕ) (rows : List Row) (to : ℕ) → f w at r ≡ got rows to → Derived e s w d at r rows to

  -- more objects and the `;`, behind the n objects whose rows are acc
  record DerivedOn (d kind n at : ℕ) (acc : List Row) (r : ℕ) (rows : List Row) (to : ℕ) : Type 0 where
    trees : Trees
    new : List Row
    is : rows ≡ row kind 0 (n + count trees) (r + 1 + length (acc ++ new)) ∷ (acc ++ new)
    used : List ℕ
    objects : Objects e d used trees
    here : Here s at used
    ends : to ≡ at + length used
    realises : Realises s (r + 1 + length acc) new (cells_of trees)

  record DerivedMembers (d kind n at : ℕ) (seen : Texts) (acc : List Row) (r : ℕ) (rows : List Row) (to : ℕ) : Type 0 where
    pairs : Pairs
    new : List Row
    is : rows ≡ row kind 0 (n + count_pairs pairs) (r + 1 + length (acc ++ new)) ∷ (acc ++ new)
    used : List ℕ
    members : Members e d seen used pairs
    here : Here s at used
    ends : to ≡ at + length used
    realises : Realises s (r + 1 + length acc) new (pair_cells pairs)

  SoundOn : (Want → Reader) → ℕ → ℕ → ℕ → Type 0
  SoundOn f d kind fuel = (n : ℕ) (seen : Texts) (acc : List Row) (at r : ℕ) (rows : List Row) (to : ℕ) → run s (entry s false f) (kept s false) kind fuel n seen acc at r ≡ got rows to → at ≤ length s → DerivedOn d kind n at acc r rows to

  SoundMembers : (Want → Reader) → ℕ → ℕ → ℕ → Type 0
  SoundMembers f d kind fuel = (n : ℕ) (seen : Texts) (acc : List Row) (at r : ℕ) (rows : List Row) (to : ℕ) → run s (entry s true f) (kept s true) kind fuel n seen acc at r ≡ got rows to → at ≤ length s → DerivedMembers d kind n at seen acc r rows to

  closed_on : (d kind n at r : ℕ) (acc : List Row) {rows : List Row} {to : ℕ} → byte_at s at ≡ 59 → got (row kind 0 n (r + 1 + length acc) ∷ acc) (at + 1) ≡ got rows to → DerivedOn d kind n at acc r rows to
  unfolding cells_of
  closed_on d kind n at r acc {rows} {to} b i =
      let j : row kind 0 n (r + 1 + length acc) ∷ acc ≡ rows = cc in
      let k : at + 1 ≡ to = cc in
      record { trees = none; new = []; is = sym j ∙ rw (add-zero n, append-nil acc); used = 59 ∷ []; objects = close; here = byte_here (there_by s at b (omega arith)) b; ends = sym k; realises = no_more }

  closed_members : (d kind n at r : ℕ) (seen : Texts) (acc : List Row) {rows : List Row} {to : ℕ} → byte_at s at ≡ 59 → got (row kind 0 n (r + 1 + length acc) ∷ acc) (at + 1) ≡ got rows to → DerivedMembers d kind n at seen acc r rows to
  unfolding pair_cells
  closed_members d kind n at r seen acc {rows} {to} b i =
      let j : row kind 0 n (r + 1 + length acc) ∷ acc ≡ rows = cc in
      let k : at + 1 ≡ to = cc in
      record { pairs = no_pairs; new = []; is = sym j ∙ rw (add-zero n, append-nil acc); used = 59 ∷ []; members = close_members; here = byte_here (there_by s at b (omega arith)) b; ends = sym k; realises = no_more }

  -- an object and the blanks behind it, in front of more
  joined : {d kind n at at₁ r : ℕ} {acc new : List Row} {rows : List Row} {to : ℕ} (g : Derived e s Any d at (r + 1 + length acc) new at₁) (w : Blank s at₁ (past s at₁)) → DerivedOn d kind (n + 1) (past s at₁) (acc ++ new) r rows to → DerivedOn d kind n at acc r rows to
  unfolding cells_of
  joined {d} {kind} {n} {at} {at₁} {r} {acc} {new} g w t =
      let i : r + 1 + length (acc ++ new) ≡ r + 1 + length acc + length new = omega (arith, length-append acc new) in
      let c : n + 1 + count t.trees ≡ n + suc (count t.trees) = omega arith in
      let tail : Here s at₁ (w.bytes ++ t.used) = after_blanks w t.here in
      record {
        trees = also g.tree t.trees;
        new = new ++ t.new;
        is = t.is ∙ rw (c, append_assoc acc new t.new);
        used = g.used ++ (w.bytes ++ t.used);
        objects = more g.object w.blanks t.objects refl;
        here = join g.used (w.bytes ++ t.used) g.here (rw g.ends at tail) refl;
        ends = omega (arith, t.ends, w.ends, g.ends, length-append g.used (w.bytes ++ t.used), length-append w.bytes t.used);
        realises = realises_append g.realises (rw i at t.realises) refl;
      }

  run_more : (f : Want → Reader) (d kind fuel : ℕ) → Sound f d → SoundOn f d kind fuel → SoundOn f d kind (suc fuel)
  unfolding run entry kept Sound SoundOn
  run_more f d kind fuel sound rest n seen acc at r rows to i h = test (eqb (byte_at s at) 59) refl i
    where
      after : (o : Reading) → f Any at (r + 1 + length acc) ≡ o → then o (λ new at₁. run s (entry s false f) (kept s false) kind fuel (n + 1) seen (acc ++ new) (past s at₁) r) ≡ got rows to → DerivedOn d kind n at acc r rows to
      after (refused m q) j k = no_got k
      after (got new at₁) j k =
          let g = sound Any at (r + 1 + length acc) new at₁ j in
          let w = blank_at s at₁ (omega (arith, ends g.here, g.ends)) in
          joined g w (rest (n + 1) seen (acc ++ new) (past s at₁) r rows to k (omega (arith, ends w.here, w.ends)))

      test : (b : Bool) → eqb (byte_at s at) 59 ≡ b → cond b (got (row kind 0 n (r + 1 + length acc) ∷ acc) (at + 1)) (then (f Any at (r + 1 + length acc)) (λ new at₁. run s (entry s false f) (kept s false) kind fuel (n + 1) seen (acc ++ new) (past s at₁) r)) ≡ got rows to → DerivedOn d kind n at acc r rows to
      test true j k = closed_on d kind n at r acc (eqb-true (byte_at s at) 59 j) k
      test false j k = after (f Any at (r + 1 + length acc)) refl k

  run_none : (f : Want → Reader) (d kind : ℕ) → SoundOn f d kind zero
  unfolding run SoundOn
  run_none f d kind n seen acc at r rows to i h = no_got i

  run_sound : (f : Want → Reader) (d kind : ℕ) → Sound f d → (fuel : ℕ) → SoundOn f d kind fuel
  run_sound f d kind sound zero = run_none f d kind
  run_sound f d kind sound (suc fuel) = run_more f d kind fuel sound (run_sound f d kind sound fuel)

  -- a pair and the blanks behind it, in front of more
  joined_members :
      {d kind n at middle at₁ r : ℕ} {seen : Texts} {acc front back : List Row} {rows : List Row} {to : ℕ} (g : Key e s d at (r + 1 + length acc) front middle) (w : Blank s middle (past s middle)) (v : Derived e s Any d (past s middle) (r + 1 + length acc + length front) back at₁) (x : Blank s at₁ (past s at₁)) → among seen g.text ≡ false
      → DerivedMembers d kind (n + 1) (past s at₁) (g.text ∷ seen) (acc ++ (front ++ back)) r rows to → DerivedMembers d kind n at seen acc r rows to
  unfolding pair_cells
  joined_members {d} {kind} {n} {at} {middle} {at₁} {r} {seen} {acc} {front} {back} g w v x q t =
      let i : r + 1 + length (acc ++ (front ++ back)) ≡ r + 1 + length acc + length (front ++ back) = omega (arith, length-append acc (front ++ back)) in
      let c : n + 1 + count_pairs t.pairs ≡ n + suc (count_pairs t.pairs) = omega arith in
      let h₃ : Here s at₁ (x.bytes ++ t.used) = after_blanks x t.here in
      let h₂ : Here s (past s middle) (v.used ++ (x.bytes ++ t.used)) = join v.used (x.bytes ++ t.used) v.here (rw v.ends at h₃) refl in
      let h₁ : Here s middle (w.bytes ++ (v.used ++ (x.bytes ++ t.used))) = after_blanks w h₂ in
      record {
        pairs = pair g.text v.tree t.pairs;
        new = (front ++ back) ++ t.new;
        is = t.is ∙ rw (c, append_assoc acc (front ++ back) t.new);
        used = g.used ++ (w.bytes ++ (v.used ++ (x.bytes ++ t.used)));
        members = more_members g.object q w.blanks v.object x.blanks t.members refl;
        here = join g.used (w.bytes ++ (v.used ++ (x.bytes ++ t.used))) g.here (rw g.ends at h₁) refl;
        ends = omega (arith, t.ends, x.ends, v.ends, w.ends, g.ends, length-append g.used (w.bytes ++ (v.used ++ (x.bytes ++ t.used))), length-append w.bytes (v.used ++ (x.bytes ++ t.used)), length-append v.used (x.bytes ++ t.used), length-append x.bytes t.used);
        realises = realises_append (realises_append g.realises v.realises refl) (rw i at t.realises) refl;
      }

  keys_as : {d kind n at : ℕ} {k k' : List ℕ} {seen : Texts} {acc : List Row} {r : ℕ} {rows : List Row} {to : ℕ} → k ≡ k' → DerivedMembers d kind n at (k ∷ seen) acc r rows to → DerivedMembers d kind n at (k' ∷ seen) acc r rows to
  keys_as i t = rw i at t

  acc_as : {d kind n at : ℕ} {seen : Texts} {acc acc' : List Row} {r : ℕ} {rows : List Row} {to : ℕ} → acc ≡ acc' → DerivedMembers d kind n at seen acc r rows to → DerivedMembers d kind n at seen acc' r rows to
  acc_as i t = rw i at t

  members_more : (f : Want → Reader) (d kind fuel : ℕ) → Sound f d → SoundMembers f d kind fuel → SoundMembers f d kind (suc fuel)
  unfolding run entry kept Sound SoundMembers
  members_more f d kind fuel sound rest n seen acc at r rows to i h = test (eqb (byte_at s at) 59) refl i
    where
      after : (o : Reading) → next s (distinct s seen at (f Text at (r + 1 + length acc))) (r + 1 + length acc) (f Any) ≡ o → then o (λ new at₁. run s (entry s true f) (kept s true) kind fuel (n + 1) (first_text s new ∷ seen) (acc ++ new) (past s at₁) r) ≡ got rows to → DerivedMembers d kind n at seen acc r rows to
      after (refused m q) j k = no_got k
      after (got new at₁) j k =
          let p = next_inv s (distinct s seen at (f Text at (r + 1 + length acc))) (r + 1 + length acc) (f Any) j in
          let y = distinct_inv s seen at (f Text at (r + 1 + length acc)) p.first in
          let g = key_of (sound Text at (r + 1 + length acc) p.front p.middle y.reading) in
          let w = blank_at s p.middle (omega (arith, ends g.here, g.ends)) in
          let v = sound Any (past s p.middle) (r + 1 + length acc + length p.front) p.back at₁ p.second in
          let x = blank_at s at₁ (omega (arith, ends v.here, v.ends)) in
          let q : among seen g.text ≡ false = rw (first_text_lem g.realises) at y.new in
          let both : Realises s (r + 1 + length acc) new (cell 11 0 (contents g.text) ∷ cells v.tree) = realised p.all (realises_append g.realises v.realises refl) in
          joined_members g w v x q
          (acc_as (ap (λ (l : List Row). acc ++ l) p.all)
          (keys_as (first_text_lem both)
          (rest (n + 1) (first_text s new ∷ seen) (acc ++ new) (past s at₁) r rows to k (omega (arith, ends x.here, x.ends)))))

      test : (b : Bool) → eqb (byte_at s at) 59 ≡ b → cond b (got (row kind 0 n (r + 1 + length acc) ∷ acc) (at + 1)) (then (next s (distinct s seen at (f Text at (r + 1 + length acc))) (r + 1 + length acc) (f Any)) (λ new at₁. run s (entry s true f) (kept s true) kind fuel (n + 1) (first_text s new ∷ seen) (acc ++ new) (past s at₁) r)) ≡ got rows to → DerivedMembers d kind n at seen acc r rows to
      test true j k = closed_members d kind n at r seen acc (eqb-true (byte_at s at) 59 j) k
      test false j k = after (next s (distinct s seen at (f Text at (r + 1 + length acc))) (r + 1 + length acc) (f Any)) refl k

  members_none : (f : Want → Reader) (d kind : ℕ) → SoundMembers f d kind zero
  unfolding run SoundMembers
  members_none f d kind n seen acc at r rows to i h = no_got i

  members_sound : (f : Want → Reader) (d kind : ℕ) → Sound f d → (fuel : ℕ) → SoundMembers f d kind fuel
  members_sound f d kind sound zero = members_none f d kind
  members_sound f d kind sound (suc fuel) = members_more f d kind fuel sound (members_sound f d kind sound fuel)

  -- a container, from what it holds
  container_derived :
      {d at r n : ℕ} {want : Want} {rows : List Row} {to : ℕ} (kind letter : ℕ) (w : Blank s (at + 1) (past s (at + 1))) (used : List ℕ) (tree : Tree) (cs : List Cell) (new : List Row) → has_number kind ≡ false → has_content kind ≡ false → at < length s → byte_at s at ≡ letter
      → rows ≡ row kind 0 (0 + n) (r + 1 + length new) ∷ new → Here s (past s (at + 1)) used → to ≡ past s (at + 1) + length used → Realises s (r + 1 + 0) new cs → cells tree ≡ cell kind (length cs) (holding n) ∷ cs
      → Object e (suc d) (letter ∷ (w.bytes ++ used)) tree → Meets want tree → Derived e s want (suc d) at r rows to
  container_derived {d} {at} {r} {n} {want} {rows} {to} kind letter w used tree cs new hn hc h b i k m z c o q =
      let y : r + 1 + 0 ≡ suc r = omega arith in
      let z₁ : Realises s (suc r) new cs = rw y at z in
      let j : rows ≡ row kind 0 n (r + 1 + length new) ∷ new = i ∙ ap (λ (x : ℕ). row kind 0 x (r + 1 + length new) ∷ new) (zero-add n) in
      let all : Realises s r (row kind 0 n (r + 1 + length new) ∷ new) (cell kind (length cs) (holding n) ∷ cs) = and_then (over_means kind r hn hc (counts z₁)) z₁ in
      record {
        used = letter ∷ (w.bytes ++ used);
        tree = tree;
        object = o;
        meets = q;
        here = with_byte h b (after_blanks w k);
        ends = omega (arith, m, w.ends, length-append w.bytes used);
        realises = rw (j, c) all;
      }

  module _ (f : Want → Reader) (d : ℕ) (sound : Sound f d) {want : Want} {at r : ℕ} {rows : List Row} {to : ℕ} (h : at < length s) where
    list_sound : byte_at s at ≡ 76 → manyAt s many-letter.List f at r ≡ got rows to → ((ts : Trees) → Meets want (many 9 ts)) → Derived e s want (suc d) at r rows to
    unfolding manyAt SoundOn cells has_number has_content
    list_sound b i q =
        let w = blank_at s (at + 1) (omega arith) in
        let t = run_sound f d 9 sound (length s) 0 [] [] (past s (at + 1)) r rows to i (omega (arith, ends w.here, w.ends)) in
        container_derived 9 76 w t.used (many 9 t.trees) (cells_of t.trees) t.new refl refl h b t.is t.here t.ends t.realises refl (list w.blanks t.objects refl) (q t.trees)

    dict_sound : byte_at s at ≡ 68 → manyAt s many-letter.Dict f at r ≡ got rows to → ((ps : Pairs) → Meets want (plain ps)) → Derived e s want (suc d) at r rows to
    unfolding manyAt SoundMembers cells has_number has_content
    dict_sound b i q =
        let w = blank_at s (at + 1) (omega arith) in
        let t = members_sound f d 10 sound (length s) 0 [] [] (past s (at + 1)) r rows to i (omega (arith, ends w.here, w.ends)) in
        container_derived 10 68 w t.used (plain t.pairs) (pair_cells t.pairs) t.new refl refl h b t.is t.here t.ends t.realises refl (dict w.blanks t.members refl) (q t.pairs)

    ordered_sound : byte_at s at ≡ 79 → manyAt s many-letter.Ordered f at r ≡ got rows to → ((ps : Pairs) → Meets want (ordered ps)) → Derived e s want (suc d) at r rows to
    unfolding manyAt SoundMembers cells has_number has_content
    ordered_sound b i q =
        let w = blank_at s (at + 1) (omega arith) in
        let t = members_sound f d 14 sound (length s) 0 [] [] (past s (at + 1)) r rows to i (omega (arith, ends w.here, w.ends)) in
        container_derived 14 79 w t.used (ordered t.pairs) (pair_cells t.pairs) t.new refl refl h b t.is t.here t.ends t.realises refl (ordered_dict w.blanks t.members refl) (q t.pairs)

  -- what ends an object with three children
  record ClosingInv (kind r : ℕ) (o : Reading) (rows : List Row) (to : ℕ) : Type 0 where
    inner : List Row
    middle : ℕ
    reading : o ≡ got inner middle
    there : past s middle < length s
    byte : byte_at s (past s middle) ≡ 59
    is : rows ≡ row kind 0 3 (r + 1 + length inner) ∷ inner
    ends : to ≡ past s middle + 1

  closing_inv : (kind r : ℕ) (o : Reading) {rows : List Row} {to : ℕ} → closing s kind r o ≡ got rows to → ClosingInv kind r o rows to
  closing_inv kind r (refused m q) i = no_got i
  closing_inv kind r (got inner middle) {rows} {to} i =
      let f = picked (ltb (past s middle) (length s)) _ _ _ i in
      let g = picked (eqb (byte_at s (past s middle)) 59) _ _ _ f.1 in
      let k : got (row kind 0 3 (r + 1 + length inner) ∷ inner) (past s middle + 1) ≡ got rows to = g.1 in
      let a : row kind 0 3 (r + 1 + length inner) ∷ inner ≡ rows = cc in
      let b : past s middle + 1 ≡ to = cc in
      record { inner = inner; middle = middle; reading = refl; there = ltb-true (past s middle) (length s) f.0; byte = eqb-true (byte_at s (past s middle)) 59 g.0; is = sym a; ends = sym b }

  record PartsDerived (d : ℕ) (w v : Want) (at r : ℕ) (kind : ℕ) (rows : List Row) (to : ℕ) : Type 0 where
    used : List ℕ
    name : Tree
    attributes : Tree
    content : Tree
    object : Parts e d w v used name attributes content
    inner : List Row
    here : Here s (at + 1) used
    is : rows ≡ row kind 0 3 (r + 1 + length inner) ∷ inner
    ends : to ≡ at + 1 + length used
    realises : Realises s (r + 1) inner (cells name ++ (cells attributes ++ (cells content ++ [])))

  parts_sound : (f : Want → Reader) (d : ℕ) → Sound f d → (w v : Want) (at r kind : ℕ) {rows : List Row} {to : ℕ} → at < length s → closing s kind r (next s (next s (next s (got [] (at + 1)) (r + 1) (f w)) (r + 1) (f v)) (r + 1) (f Any)) ≡ got rows to → PartsDerived d w v at r kind rows to
  unfolding Sound
  parts_sound f d sound w v at r kind {rows} {to} h i =
      let c = closing_inv kind r _ i in
      let n₃ = next_inv s _ (r + 1) (f Any) c.reading in
      let n₂ = next_inv s _ (r + 1) (f v) n₃.first in
      let n₁ = next_inv s (got [] (at + 1)) (r + 1) (f w) n₂.first in
      let y : got [] (at + 1) ≡ got n₁.front n₁.middle = n₁.first in
      let y₁ : [] ≡ n₁.front = cc in
      let y₂ : at + 1 ≡ n₁.middle = cc in
      let b₀ = blank_at s n₁.middle (omega arith) in
      let A = sound w (past s n₁.middle) (r + 1 + length n₁.front) n₁.back n₂.middle n₁.second in
      let b₁ = blank_at s n₂.middle (omega (arith, ends A.here, A.ends)) in
      let B = sound v (past s n₂.middle) (r + 1 + length n₂.front) n₂.back n₃.middle n₂.second in
      let b₂ = blank_at s n₃.middle (omega (arith, ends B.here, B.ends)) in
      let C = sound Any (past s n₃.middle) (r + 1 + length n₃.front) n₃.back c.middle n₃.second in
      let b₃ = blank_at s c.middle (omega (arith, ends C.here, C.ends)) in
      let h₇ : Here s (past s c.middle) (59 ∷ []) = byte_here c.there c.byte in
      let h₆ : Here s c.middle (b₃.bytes ++ (59 ∷ [])) = after_blanks b₃ h₇ in
      let h₅ : Here s (past s n₃.middle) (C.used ++ (b₃.bytes ++ (59 ∷ []))) = join C.used _ C.here (here_at C.ends h₆) refl in
      let h₄ : Here s n₃.middle (b₂.bytes ++ (C.used ++ (b₃.bytes ++ (59 ∷ [])))) = after_blanks b₂ h₅ in
      let h₃ : Here s (past s n₂.middle) (B.used ++ (b₂.bytes ++ (C.used ++ (b₃.bytes ++ (59 ∷ []))))) = join B.used _ B.here (here_at B.ends h₄) refl in
      let h₂ : Here s n₂.middle (b₁.bytes ++ (B.used ++ (b₂.bytes ++ (C.used ++ (b₃.bytes ++ (59 ∷ [])))))) = after_blanks b₁ h₃ in
      let h₁ : Here s (past s n₁.middle) (A.used ++ (b₁.bytes ++ (B.used ++ (b₂.bytes ++ (C.used ++ (b₃.bytes ++ (59 ∷ []))))))) = join A.used _ A.here (here_at A.ends h₂) refl in
      let h₀ : Here s n₁.middle (b₀.bytes ++ (A.used ++ (b₁.bytes ++ (B.used ++ (b₂.bytes ++ (C.used ++ (b₃.bytes ++ (59 ∷ [])))))))) = after_blanks b₀ h₁ in
      let l : r + 1 + length n₁.front ≡ r + 1 = ap (λ (x : List Row). r + 1 + length x) (sym y₁) ∙ add-zero (r + 1) in
      let r₁ : Realises s (r + 1) n₂.front (cells A.tree) = realised (n₁.all ∙ ap (λ (x : List Row). x ++ n₁.back) (sym y₁)) (realised_at l A.realises) in
      let r₂ : Realises s (r + 1) n₃.front (cells A.tree ++ cells B.tree) = realised n₂.all (realises_append r₁ B.realises refl) in
      let r₃ : Realises s (r + 1) c.inner ((cells A.tree ++ cells B.tree) ++ cells C.tree) = realised n₃.all (realises_append r₂ C.realises refl) in
      record {
        used = b₀.bytes ++ (A.used ++ (b₁.bytes ++ (B.used ++ (b₂.bytes ++ (C.used ++ (b₃.bytes ++ (59 ∷ [])))))));
        name = A.tree;
        attributes = B.tree;
        content = C.tree;
        object = parts b₀.blanks A.object A.meets b₁.blanks B.object B.meets b₂.blanks C.object b₃.blanks refl;
        inner = c.inner;
        here = here_at (sym y₂) h₀;
        is = c.is;
        ends = omega (arith, c.ends, b₃.ends, C.ends, b₂.ends, B.ends, b₁.ends, A.ends, b₀.ends, y₂, length-append b₀.bytes (A.used ++ (b₁.bytes ++ (B.used ++ (b₂.bytes ++ (C.used ++ (b₃.bytes ++ (59 ∷ []))))))), length-append A.used (b₁.bytes ++ (B.used ++ (b₂.bytes ++ (C.used ++ (b₃.bytes ++ (59 ∷ [])))))), length-append b₁.bytes (B.used ++ (b₂.bytes ++ (C.used ++ (b₃.bytes ++ (59 ∷ []))))), length-append B.used (b₂.bytes ++ (C.used ++ (b₃.bytes ++ (59 ∷ [])))), length-append b₂.bytes (C.used ++ (b₃.bytes ++ (59 ∷ []))), length-append C.used (b₃.bytes ++ (59 ∷ [])), length-append b₃.bytes (59 ∷ []));
        realises = realised_as (append_assoc (cells A.tree) (cells B.tree) (cells C.tree) ∙ ap (λ (x : List Cell). cells A.tree ++ (cells B.tree ++ x)) (sym (append-nil (cells C.tree)))) r₃;
      }

  three_derived : {d at r : ℕ} {w v want : Want} {rows : List Row} {to : ℕ} (kind letter : ℕ) (p : PartsDerived d w v at r kind rows to) → has_number kind ≡ false → has_content kind ≡ false → at < length s → byte_at s at ≡ letter → Object e (suc d) (letter ∷ p.used) (many kind (also p.name (also p.attributes (also p.content none)))) → Meets want (many kind (also p.name (also p.attributes (also p.content none)))) → Derived e s want (suc d) at r rows to
  unfolding cells cells_of
  three_derived {r = r} kind letter p hn hc h b o q =
      let y : r + 1 ≡ suc r = omega arith in
      let z : Realises s (suc r) p.inner (cells p.name ++ (cells p.attributes ++ (cells p.content ++ []))) = realised_at y p.realises in
      record {
        used = letter ∷ p.used;
        tree = many kind (also p.name (also p.attributes (also p.content none)));
        object = o;
        meets = q;
        here = with_byte h b p.here;
        ends = omega (arith, p.ends);
        realises = realised p.is (and_then (over_means kind r hn hc (counts z)) z);
      }

-- which meaning may stand where a letter may
meets_integer : {w : Want} → Allowed w (Leaf leaf-letter.Integer) → (t : Tree) → Meets w t
meets_integer allow_any t = any

meets_bytes : {w : Want} → Allowed w (Leaf leaf-letter.Bytes) → (t : Tree) → Meets w t
meets_bytes allow_any t = any

meets_true : {w : Want} → Allowed w (Leaf leaf-letter.True) → (t : Tree) → Meets w t
meets_true allow_any t = any

meets_false : {w : Want} → Allowed w (Leaf leaf-letter.False) → (t : Tree) → Meets w t
meets_false allow_any t = any

meets_nil : {w : Want} → Allowed w (Leaf leaf-letter.Nil) → (t : Tree) → Meets w t
meets_nil allow_any t = any

meets_list : {w : Want} → Allowed w (Many many-letter.List) → (t : Tree) → Meets w t
meets_list allow_any t = any

meets_extension : {w : Want} → Allowed w (Three three-letter.Extension) → (t : Tree) → Meets w t
meets_extension allow_any t = any

meets_node : {w : Want} → Allowed w (Three three-letter.Node) → (t : Tree) → Meets w t
meets_node allow_any t = any

meets_text : {w : Want} → Allowed w (Leaf leaf-letter.Unicode) → (t : List ℕ) → Meets w (leaf 11 (contents t))
meets_text allow_any t = any
meets_text allow_text t = unicode_met

meets_dict : {w : Want} → Allowed w (Many many-letter.Dict) → (ps : Pairs) → Meets w (plain ps)
meets_dict allow_any ps = any
meets_dict allow_dict ps = dict_met

meets_ordered : {w : Want} → Allowed w (Many many-letter.Ordered) → (ps : Pairs) → Meets w (ordered ps)
meets_ordered allow_any ps = any
meets_ordered allow_ordered ps = ordered_met

-- by letter
module _ (e : Edition) (s : List ℕ) (room : ℕ) {w : Want} {at r : ℕ} {rows : List Row} {to : ℕ} (h : at < length s) where
  text_derived : {d : ℕ} (u : Bool) (kind letter : ℕ) → text_kind u ≡ kind → has_content kind ≡ true → byte_at s at ≡ letter → ((zs t : List ℕ) → Content zs t → good_text u t ≡ true → Object e d (letter ∷ zs) (leaf kind (contents t))) → ((t : List ℕ) → Meets w (leaf kind (contents t))) → text s u at r ≡ got rows to → Derived e s w d at r rows to
  text_derived u kind letter k c b make q i =
      let x = text_sound u i in
      leaf_derived (row kind x.offset (length x.text) (r + 1)) (at + 1 + length x.bytes) (rw (← k) x.is) (make x.bytes x.text x.content x.good) (q x.text) (with_byte h b x.here) (omega arith) (text_means kind c x.lies)

  leaf_sound : (d : ℕ) (l : LeafLetter) → Byte e (Leaf l) (byte_at s at) → Allowed w (Leaf l) → leaf_of s l at r ≡ got rows to → Derived e s w d at r rows to
  unfolding has_number has_content good_text
  leaf_sound d leaf-letter.Integer b a i = integer_sound h b i (λ n. meets_integer a (leaf 4 (number n)))
  leaf_sound d leaf-letter.Unicode b a i = text_derived true 11 117 refl refl b (λ zs t c g. unicode c g) (meets_text a) i
  leaf_sound d leaf-letter.Bytes b a i = text_derived false 8 98 refl refl b (λ zs t c g. bytearray c) (λ t. meets_bytes a (leaf 8 (contents t))) i
  leaf_sound d leaf-letter.True b a i = let x = single_here 5 1 r h b i in leaf_derived (row 5 1 0 (r + 1)) (at + 2) x.0 true_object (meets_true a (leaf 5 (number 1))) x.1 refl (number_means 5 1 r refl)
  leaf_sound d leaf-letter.False b a i = let x = single_here 5 0 r h b i in leaf_derived (row 5 0 0 (r + 1)) (at + 2) x.0 false_object (meets_false a (leaf 5 (number 0))) x.1 refl (number_means 5 0 r refl)
  leaf_sound d leaf-letter.Nil b a i = let x = single_here 13 0 r h b i in leaf_derived (row 13 0 0 (r + 1)) (at + 2) x.0 nil (meets_nil a (leaf 13 (holding 0))) x.1 refl (means {below = 0} refl (omega arith) (says_holding refl refl refl refl))

  many_sound : (f : Want → Reader) (d : ℕ) → Sound e s f d → (l : ManyLetter) → Byte e (Many l) (byte_at s at) → Allowed w (Many l) → manyAt s l f at r ≡ got rows to → Derived e s w (suc d) at r rows to
  many_sound f d sound many-letter.List b a i = list_sound e s f d sound h b i (λ ts. meets_list a (many 9 ts))
  many_sound f d sound many-letter.Dict b a i = dict_sound e s f d sound h b i (meets_dict a)
  many_sound f d sound many-letter.Ordered b a i = ordered_sound e s f d sound h b i (meets_ordered a)

  three_sound : (f : Want → Reader) (d : ℕ) → Sound e s f d → (l : ThreeLetter) → Byte e (Three l) (byte_at s at) → Allowed w (Three l) → threeAt s l f at r ≡ got rows to → Derived e s w (suc d) at r rows to
  unfolding threeAt has_number has_content
  three_sound f d sound three-letter.Extension b a i =
      let p = parts_sound e s f d sound Text EitherDict at r 15 h i in
      three_derived e s 15 (byte_at s at) p refl refl h refl (extension b p.object) (meets_extension a _)
  three_sound f d sound three-letter.Node b a i =
      let p = parts_sound e s f d sound Any Any at r 16 h i in
      three_derived e s 16 (byte_at s at) p refl refl h refl (node b p.object) (meets_node a _)

  -- what may nest: nothing, or what f reads
  item_floor : (l : Letter) → Byte e l (byte_at s at) → Allowed w l → item s room l floor at r ≡ got rows to → Derived e s w zero at r rows to
  item_floor (Leaf l) b a i = let f = picked (ltb r room) _ _ _ i in leaf_sound zero l b a f.1
  item_floor (Many l) b a i = no_got i
  item_floor (Three l) b a i = no_got i
  item_floor Unknown b a i = no_got i

  item_under : (f : Want → Reader) (d : ℕ) → Sound e s f d → (l : Letter) → Byte e l (byte_at s at) → Allowed w l → item s room l (under f) at r ≡ got rows to → Derived e s w (suc d) at r rows to
  item_under f d sound (Leaf l) b a i = let g = picked (ltb r room) _ _ _ i in leaf_sound (suc d) l b a g.1
  item_under f d sound (Many l) b a i = let g = picked (ltb r room) _ _ _ i in many_sound f d sound l b a g.1
  item_under f d sound (Three l) b a i = let g = picked (ltb r room) _ _ _ i in three_sound f d sound l b a g.1
  item_under f d sound Unknown b a i = no_got i

-- what stands where it may, or is refused
standing : (s : List ℕ) (room : ℕ) (nest : Nest) {w : Want} {l : Letter} (at r : ℕ) {rows : List Row} {to : ℕ} {A : Type 0} → Stand w l → item s room (wanted w l) nest at r ≡ got rows to → (Allowed w l → item s room l nest at r ≡ got rows to → A) → A
standing s room nest at r (out i) j k = no_got (sym (ap (λ (x : Letter). item s room x nest at r) i) ∙ j)
standing s room nest at r (inside i a) j k = k a (sym (ap (λ (x : Letter). item s room x nest at r) i) ∙ j)

-- WHAT IS READ IS DERIVED
pub object_sound : (e : Edition) (s : List ℕ) (room d : ℕ) → Sound e s (object s room e d) d
unfolding object Sound
object_sound e s room zero w at r rows to i =
    let f = picked (ltb at (length s)) _ _ _ i in
    standing s room floor at r (stands w (letter_of e (byte_at s at))) f.1 (item_floor e s room (ltb-true at (length s) f.0) (letter_of e (byte_at s at)) (letter_byte e (byte_at s at)))
object_sound e s room (suc d) w at r rows to i =
    let f = picked (ltb at (length s)) _ _ _ i in
    standing s room (under (object s room e d)) at r (stands w (letter_of e (byte_at s at))) f.1 (item_under e s room (ltb-true at (length s) f.0) (object s room e d) d (object_sound e s room d) (letter_of e (byte_at s at)) (letter_byte e (byte_at s at)))

-- bytes that stand at the front and are as long are all there is
no_more_bytes : (xs ys : List ℕ) → length (xs ++ ys) ≤ length xs → xs ++ ys ≡ xs
no_more_bytes xs [] h = append-nil xs
no_more_bytes xs (y ∷ ys) h = absurd (omega (arith, length-append xs (y ∷ ys)))

whole : {s xs : List ℕ} → Here s 0 xs → length s ≤ length xs → s ≡ xs
whole {s} {xs} h l = let e : s ≡ xs ++ h.rest = h.from in e ∙ no_more_bytes xs h.rest (rw (← e) l)

rooted_inv : (s : List ℕ) (room : ℕ) (o : Reading) {rows : List Row} {used : ℕ} → rooted s room o ≡ got rows used → (o ≡ got rows used) × (length s ≤ past s used)
rooted_inv s room (refused m q) i = no_got i
rooted_inv s room (got rows₀ at) {rows} {used} i =
    let f = picked (leb (length s) (past s at)) _ _ _ i in
    let j : got rows₀ at ≡ got rows used = f.1 in
    let k : at ≡ used = cc in
    (f.1, rw k at (leb-true (length s) (past s at) f.0))

-- an accepted message has a root, and its rows have the root's meaning
pub record Accepted (e : Edition) (d : ℕ) (s : List ℕ) (rows : List Row) (used : ℕ) : Type 0 where
  pub tree : Tree
  pub root : Root e d s used tree
  pub realises : Realises s 0 rows (cells tree)

pub root_sound : (e : Edition) (d : ℕ) (s : List ℕ) (room : ℕ) {rows : List Row} {used : ℕ} → root s room e d ≡ got rows used → Accepted e d s rows used
unfolding root Sound
root_sound e d s room {rows} {used} i =
    let k = rooted_inv s room (object s room e d Any (past s 0) 0) i in
    let b = blank_at s 0 (omega arith) in
    let t = object_sound e s room d Any (past s 0) 0 rows used k.0 in
    let a = blank_at s used (omega (arith, ends t.here, t.ends)) in
    let u : Here s 0 (b.bytes ++ t.used) = after_blanks b t.here in
    let m : used ≡ length b.bytes + length t.used = omega (arith, t.ends, b.ends) in
    let v : Here s 0 ((b.bytes ++ t.used) ++ a.bytes) = join (b.bytes ++ t.used) a.bytes u (here_at (omega (arith, m, length-append b.bytes t.used)) a.here) refl in
    record {
      tree = t.tree;
      root = record { before = b.bytes; bytes = t.used; after = a.bytes; blanks_before = b.blanks; object = t.object; blanks_after = a.blanks; is = whole v (omega (arith, k.1, a.ends, m, length-append (b.bytes ++ t.used) a.bytes, length-append b.bytes t.used)) ∙ append_assoc b.bytes t.used a.bytes; ends = m };
      realises = t.realises;
    }
