-- The written form is no longer than any bytes that are derived with its meaning. Assumes nothing.
use mathlib.Core.Path.{◌≡◌, refl, ap}
use mathlib.Core.Bool.{Bool, true, false, cond}
use mathlib.Core.List.{List, [], ◌∷◌, ◌++◌}
use Prim.Native.Nat.{ℕ, zero, suc, ◌+◌, ◌*◌, ◌-◌, ◌/◌, ◌%◌, ◌≤◌, ◌<◌}
use Prim.Native.Char.{code}
use native.Mathlib.Omega.{arith}
use lib.Dec.{ltb, leb, eqb}
use lib.ListN.{length, length-append}
use borrow.Author.Tests.{leb-true, eqb-true, eqb-false, lt-ltb, le-ltb}
use Rattle.text.proofs.Comparing.{both}
use Rattle.lexical.specs.Digits.{digit, digit_value}
use Rattle.glyph.specs.declared.Edition.{Edition}
use Rattle.glyph.specs.declared.Want.{Want}
use Rattle.glyph.specs.Numbers.{in_range, word}
use Rattle.glyph.specs.Tree.{Tree, Trees, none, also, Pairs}
use Rattle.glyph.specs.Grammar.{Sign, minus, Digits, no_digits, and_digit, value_of, Number, ascii_number, Content, content, empty, Object, integer, unicode, bytearray, true_object, false_object, nil, list, dict, ordered_dict, extension, node, Objects, close, more, Members, close_members, more_members, Parts, parts}
use Rattle.glyph_form.specs.Form.{sort, canon, canon_all, canon_pairs, digits_before, integer_bytes, boolean_bytes, content_bytes, leaf_bytes, bytes_of, bytes_of_all, bytes_of_pairs, written}
use Rattle.glyph_order.proofs.Lengths.{pair_bytes_lem, sort_bytes}

-- how many digits a number is written with, of `most` at most
unfoldable digits_in : ℕ → ℕ → ℕ
digits_in zero n = 0
digits_in (suc most) n = cond (ltb n 10) 1 (suc (digits_in most (n / 10)))

digits_long : (most n : ℕ) (xs : List ℕ) → length (digits_before most n xs) ≡ digits_in most n + length xs
unfolding digits_in digits_before
digits_long zero n xs = omega arith
digits_long (suc most) n xs = go (ltb n 10) (digits_long most (n / 10) ((code "0" + n % 10) ∷ xs))
  where
    go :
        (b : Bool) → length (digits_before most (n / 10) ((code "0" + n % 10) ∷ xs)) ≡ digits_in most (n / 10) + suc (length xs)
        → length (cond b ((code "0" + n) ∷ xs) (digits_before most (n / 10) ((code "0" + n % 10) ∷ xs))) ≡ cond b 1 (suc (digits_in most (n / 10))) + length xs
    go true h = omega arith
    go false h = omega (arith, h)

-- one digit more may be allowed
digits_more : (most n : ℕ) → digits_in most n ≤ digits_in (suc most) n
unfolding digits_in
digits_more zero n = omega arith
digits_more (suc most) n = go (ltb n 10) (digits_more most (n / 10))
  where
    go : (b : Bool) → digits_in most (n / 10) ≤ digits_in (suc most) (n / 10) → cond b 1 (suc (digits_in most (n / 10))) ≤ cond b 1 (suc (digits_in (suc most) (n / 10)))
    go true h = omega arith
    go false h = omega (arith, h)

-- a digit behind a number
digits_next : (most n d : ℕ) → d < 10 → digits_in (suc most) (n * 10 + d) ≤ suc (digits_in (suc most) n)
unfolding digits_in
digits_next most n d l = go (ltb (n * 10 + d) 10) (digits_more most n)
  where
    e : (n * 10 + d) / 10 ≡ n
    e = omega arith

    go : (b : Bool) → digits_in most n ≤ digits_in (suc most) n → cond b 1 (suc (digits_in most ((n * 10 + d) / 10))) ≤ suc (digits_in (suc most) n)
    go true h = omega arith
    go false h = rw e (omega (arith, h))

digit_value_lem : (x : ℕ) → digit x ≡ true → digit_value x < 10
unfolding digit
digit_value_lem x h = let b = both (leb 48 x) (leb x 57) h in omega (arith, leb-true 48 x b.0, leb-true x 57 b.1)

digits_value : (most n : ℕ) {xs : List ℕ} → Digits xs → digits_in (suc most) (value_of n xs) ≤ digits_in (suc most) n + length xs
digits_value most n no_digits = omega arith
digits_value most n (and_digit {x} {xs} h d) = omega (arith, digits_value most (n * 10 + digit_value x) d, digits_next most n (digit_value x) (digit_value_lem x h))

one_digit : (d : ℕ) → d < 10 → digits_in 10 (0 * 10 + d) ≡ 1
unfolding digits_in
one_digit d l = rw (lt-ltb (0 * 10 + d) 10 (omega arith))

-- A NUMBER has no fewer digits
number_short : {n : ℕ} {xs : List ℕ} → Number n xs → digits_in 10 n ≤ length xs
number_short (ascii_number {n} {x} {xs} (and_digit h d) e) =
    rw e (omega (arith, digits_value 9 (0 * 10 + digit_value x) d, one_digit (digit_value x) (digit_value_lem x h)))

-- CONTENT
content_long : (t : List ℕ) → length (content_bytes t) ≤ digits_in 10 (length t) + 2 + length t
unfolding content_bytes
content_long [] = omega arith
content_long (x ∷ t) = omega (arith, digits_long 10 (length (x ∷ t)) (code ":" ∷ ((x ∷ t) ++ (code ";" ∷ []))), length-append (x ∷ t) (code ";" ∷ []))

content_short : {zs t : List ℕ} → Content zs t → length (content_bytes t) ≤ length zs
unfolding content_bytes
content_short empty = omega arith
content_short (content {n} {xs} {t} h i q) =
    omega (arith, number_short h, ap (digits_in 10) i, content_long t, ap length q, length-append xs (code ":" ∷ (t ++ (code ";" ∷ []))), length-append t (code ";" ∷ []))

-- INTEGERS
plain_short : (n : ℕ) → n < 2147483648 → length (integer_bytes n) ≡ 2 + digits_in 10 n
unfolding integer_bytes
plain_short n l = rw (lt-ltb n 2147483648 l) (omega (arith, digits_long 10 n (code ";" ∷ [])))

minus_short : (n : ℕ) → 0 < n → n ≤ 2147483648 → length (integer_bytes (4294967296 - n)) ≡ 3 + digits_in 10 n
unfolding integer_bytes
minus_short n g l =
    let e : 4294967296 - (4294967296 - n) ≡ n = omega arith in
    rw (le-ltb (4294967296 - n) 2147483648 (omega arith), e) (omega (arith, digits_long 10 n (code ";" ∷ [])))

word_short : (m : Bool) (n : ℕ) {xs : List ℕ} → Sign m xs → in_range m n ≡ true → length (integer_bytes (word m n)) ≤ 2 + length xs + digits_in 10 n
unfolding in_range
word_short false n g h = omega (arith, plain_short n (omega (arith, leb-true n 2147483647 h)))
word_short true n minus h = go (eqb n 0) refl
  where
    go : (b : Bool) → eqb n 0 ≡ b → length (integer_bytes (cond b 0 (4294967296 - n))) ≤ 3 + digits_in 10 n
    go true e = let z = eqb-true n 0 e in rw z (omega (arith, plain_short 0 (omega arith)))
    go false e = let z = eqb-false n 0 e in omega (arith, minus_short n (omega (arith, z)) (leb-true n 2147483648 h))

-- EVERY PRODUCTION
mutual
  unfolding canon bytes_of leaf_bytes boolean_bytes

  pub shorter : {e : Edition} {d : ℕ} {xs : List ℕ} {t : Tree} → Object e d xs t → length (bytes_of e (canon t)) ≤ length xs
  shorter (integer {n = n} {m = m} {xs = xs} {ys = ys} g h r i q) =
      rw i (omega (arith, word_short m n g r, number_short h, ap length q, length-append xs (ys ++ (code ";" ∷ [])), length-append ys (code ";" ∷ [])))
  shorter (unicode c w) = omega (arith, content_short c)
  shorter (bytearray c) = omega (arith, content_short c)
  shorter true_object = omega arith
  shorter false_object = omega arith
  shorter nil = omega arith
  shorter {e} (list {xs = xs} {ys = ys} {ts = ts} b h q) = omega (arith, shorter_all h, ap length q, length-append xs ys, length-append (bytes_of_all e (canon_all ts)) (code ";" ∷ []))
  shorter {e} (dict {xs = xs} {ys = ys} {ps = ps} b h q) =
      omega (arith, shorter_pairs h, sort_bytes e (canon_pairs ps), ap length q, length-append xs ys, length-append (bytes_of_pairs e (sort (canon_pairs ps))) (code ";" ∷ []))
  shorter {e} (ordered_dict {xs = xs} {ys = ys} {ps = ps} b h q) = omega (arith, shorter_pairs h, ap length q, length-append xs ys, length-append (bytes_of_pairs e (canon_pairs ps)) (code ";" ∷ []))
  shorter {e} (extension {a = a} {b = b} {c = c} x h) = omega (arith, shorter_parts h, length-append (bytes_of_all e (canon_all (also a (also b (also c none))))) (code ";" ∷ []))
  shorter {e} (node {a = a} {b = b} {c = c} x h) = omega (arith, shorter_parts h, length-append (bytes_of_all e (canon_all (also a (also b (also c none))))) (code ";" ∷ []))

  shorter_all : {e : Edition} {d : ℕ} {xs : List ℕ} {ts : Trees} → Objects e d xs ts → length (bytes_of_all e (canon_all ts)) + 1 ≤ length xs
  shorter_all close = omega arith
  shorter_all {e} (more {xs = xs} {ys = ys} {zs = zs} {t = t} {ts} o b h q) =
      omega (arith, shorter o, shorter_all h, ap length q, length-append xs (ys ++ zs), length-append ys zs, length-append (bytes_of e (canon t)) (bytes_of_all e (canon_all ts)))

  shorter_pairs : {e : Edition} {d : ℕ} {seen : List (List ℕ)} {xs : List ℕ} {ps : Pairs} → Members e d seen xs ps → length (bytes_of_pairs e (canon_pairs ps)) + 1 ≤ length xs
  shorter_pairs close_members = omega arith
  shorter_pairs {e} (more_members {k = k} {xs = xs} {ys = ys} {us = us} {vs = vs} {zs = zs} {t = t} {ps = ps} o n b p c h q) =
      omega
      (arith, shorter o, shorter p, shorter_pairs h, pair_bytes_lem e k (canon t) (canon_pairs ps), ap length q, length-append xs (ys ++ (us ++ (vs ++ zs))), length-append ys (us ++ (vs ++ zs)), length-append us (vs ++ zs), length-append vs zs)

  shorter_parts : {e : Edition} {d : ℕ} {w v : Want} {xs : List ℕ} {a b c : Tree} → Parts e d w v xs a b c → length (bytes_of_all e (canon_all (also a (also b (also c none))))) + 1 ≤ length xs
  shorter_parts {e} {a = a} {b} {c} (parts {ps = ps} {qs = qs} {rs = rs} {ss = ss} {xs = xs} {ys = ys} {zs = zs} p o m q l n i g j u) =
      omega (
        arith,
        shorter o,
        shorter l,
        shorter g,
        ap length u,
        length-append ps (xs ++ (qs ++ (ys ++ (rs ++ (zs ++ (ss ++ (code ";" ∷ []))))))),
        length-append xs (qs ++ (ys ++ (rs ++ (zs ++ (ss ++ (code ";" ∷ [])))))),
        length-append qs (ys ++ (rs ++ (zs ++ (ss ++ (code ";" ∷ []))))),
        length-append ys (rs ++ (zs ++ (ss ++ (code ";" ∷ [])))),
        length-append rs (zs ++ (ss ++ (code ";" ∷ []))),
        length-append zs (ss ++ (code ";" ∷ [])),
        length-append ss (code ";" ∷ []),
        length-append (bytes_of e (canon a)) (bytes_of_all e (canon_all (also b (also c none)))),
        length-append (bytes_of e (canon b)) (bytes_of_all e (canon_all (also c none))),
        length-append (bytes_of e (canon c)) [],
      )

-- THE STATEMENT
pub no_longer : {e : Edition} {d : ℕ} {xs : List ℕ} {t : Tree} → Object e d xs t → length (written e t) ≤ length xs
unfolding written
no_longer o = shorter o
