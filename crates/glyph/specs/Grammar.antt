-- The grammars of document 003 (hyperglyph 1.0) and document 000 (glyph 0.5), for the letters that document 02 names: their productions over
-- bytes, in their order and words, with what they mean. '02:' marks a decision of document 02. Where prose, example and grammar of a document
-- differ, the grammar decides. No rule sets a limit on bytes, rows or nesting, and the edition is said in two productions. Assumes nothing.
use Rattle.std.specs.Prelude.{◌≡◌, Bool, true, false, List, [], ◌∷◌, ◌++◌, ℕ, suc, ◌+◌, ◌*◌, length}
use Prim.Native.Char.{code}
use Rattle.text.specs.Utf8.{well_formed}
use Rattle.text.specs.Texts.{among}
use Rattle.lexical.specs.Digits.{digit, digit_value}
use Rattle.draft.specs.Grammar.{holding, number, contents}
use Rattle.glyph.specs.declared.Edition.{Edition}
use Rattle.glyph.specs.declared.Edition.TheVariants.{New, Old}
use Rattle.glyph.specs.declared.Want.{Want}
use Rattle.glyph.specs.declared.Want.TheVariants.{Any, Text as Unicode, EitherDict}
use Rattle.glyph.specs.Numbers.{is_blank, in_range, word}
use Rattle.glyph.specs.Tree.{Tree, leaf, many, plain, ordered, Trees, none, also, Pairs, no_pairs, pair}

-- ws :== (space | tab | vtab | cr | lf)*
pub data Blanks : List ℕ → Type 0 where
  no_blanks : Blanks []
  and_blank : {x : ℕ} {xs : List ℕ} → is_blank x ≡ true → Blanks xs → Blanks (x ∷ xs)

-- sign :== '+' | '-' | ''
pub data Sign : Bool → List ℕ → Type 0 where
  plus : Sign false (code "+" ∷ [])
  minus : Sign true (code "-" ∷ [])
  no_sign : Sign false []

pub data Digits : List ℕ → Type 0 where
  no_digits : Digits []
  and_digit : {x : ℕ} {xs : List ℕ} → digit x ≡ true → Digits xs → Digits (x ∷ xs)

abbrev pub value_of : ℕ → List ℕ → ℕ
value_of n [] = n
value_of n (x ∷ xs) = value_of (n * 10 + digit_value x) xs

-- ascii_number :== <a decimal number as an ascii string>
-- 02: 'Numbers need a digit; lengths may have leading zeros'; 003: 'decoders MUST ignore leading zeros'
pub data Number : ℕ → List ℕ → Type 0 where
  ascii_number : {n x : ℕ} {xs : List ℕ} → Digits (x ∷ xs) → n ≡ value_of 0 (x ∷ xs) → Number n (x ∷ xs)

-- what follows the letter of a unicode or a bytearray: ascii_number ':' bytes ';' 'where len(bytes) = int(ascii_number)', or ';'
pub data Content : List ℕ → List ℕ → Type 0 where
  content :
      {n : ℕ} {xs t zs : List ℕ}
      → Number n xs
      → n ≡ length t
      → zs ≡ xs ++ (code ":" ∷ (t ++ (code ";" ∷ [])))
      → Content zs t
  empty : Content (code ";" ∷ []) []

-- name_obj :== unicode, attr_obj :== dict | ordered_dict, content_obj :== object, as they are met by an object with this meaning
pub data Meets : Want → Tree → Type 0 where
  any : {t : Tree} → Meets Any t
  unicode_met : {k : List ℕ} → Meets Unicode (leaf 11 (contents k))
  dict_met : {ps : Pairs} → Meets EitherDict (plain ps)
  ordered_met : {ps : Pairs} → Meets EitherDict (ordered ps)

-- 02: 'In 1.0 `X` is an extension; in 0.5 `X` is a node and `H` an extension'
pub data Extends : Edition → ℕ → Type 0 where
  new_extension : Extends New (code "X")
  old_extension : Extends Old (code "H")

pub data Nodes : Edition → ℕ → Type 0 where
  old_node : Nodes Old (code "X")

mutual
  -- Object e d xs t: in edition e the bytes xs are an object in which containers, extensions and nodes nest to a depth of at most d
  pub data Object : Edition → ℕ → List ℕ → Tree → Type 0 where
    -- integer :== 'i' sign ascii_number ';'
    -- 02: 'signed 32-bit'; its 32 bits, two's complement
    integer :
        {e : Edition} {d n bits : ℕ} {m : Bool} {xs ys zs : List ℕ}
        → Sign m xs
        → Number n ys
        → in_range m n ≡ true
        → bits ≡ word m n
        → zs ≡ xs ++ (ys ++ (code ";" ∷ []))
        → Object e d (code "i" ∷ zs) (leaf 4 (number bits))
    -- unicode :== 'u' ascii_number ':' utf8_bytes ';' | empty_unicode
    unicode : {e : Edition} {d : ℕ} {zs t : List ℕ} → Content zs t → well_formed t ≡ true → Object e d (code "u" ∷ zs) (leaf 11 (contents t))
    -- bytearray :== 'b' ascii_number ':' bytes ';' | empty_bytearray
    bytearray : {e : Edition} {d : ℕ} {zs t : List ℕ} → Content zs t → Object e d (code "b" ∷ zs) (leaf 8 (contents t))
    -- true :== 'T;' false :== 'F;' nil :== 'N;'
    true_object : {e : Edition} {d : ℕ} → Object e d (code "T" ∷ code ";" ∷ []) (leaf 5 (number 1))
    false_object : {e : Edition} {d : ℕ} → Object e d (code "F" ∷ code ";" ∷ []) (leaf 5 (number 0))
    nil : {e : Edition} {d : ℕ} → Object e d (code "N" ∷ code ";" ∷ []) (leaf 13 (holding 0))
    -- list :== 'L' ws (object ws)* ';'
    list :
        {e : Edition} {d : ℕ} {xs ys zs : List ℕ} {ts : Trees}
        → Blanks xs
        → Objects e d ys ts
        → zs ≡ xs ++ ys
        → Object e (suc d) (code "L" ∷ zs) (many 9 ts)
    -- dict :== 'D' ws (object ws object ws)* ';'
    dict :
        {e : Edition} {d : ℕ} {xs ys zs : List ℕ} {ps : Pairs}
        → Blanks xs
        → Members e d [] ys ps
        → zs ≡ xs ++ ys
        → Object e (suc d) (code "D" ∷ zs) (plain ps)
    -- ordered_dict :== 'O' ws (object ws object ws)* ';'
    ordered_dict :
        {e : Edition} {d : ℕ} {xs ys zs : List ℕ} {ps : Pairs}
        → Blanks xs
        → Members e d [] ys ps
        → zs ≡ xs ++ ys
        → Object e (suc d) (code "O" ∷ zs) (ordered ps)
    -- extension :== 'X' ws name_obj ws attr_obj ws content_obj ws ';', in 000 with 'H'
    -- 02: the name is unicode and the attributes either dict, 'for 0.5 by our own rule'
    extension :
        {e : Edition} {d x : ℕ} {zs : List ℕ} {a b c : Tree}
        → Extends e x
        → Parts e d Unicode EitherDict zs a b c
        → Object e (suc d) (x ∷ zs) (many 15 (also a (also b (also c none))))
    -- node :== 'X' ws name_obj ws attr_obj ws content_obj ws ';', in 000 alone
    -- 02: 'a 0.5 node takes any objects'
    node :
        {e : Edition} {d x : ℕ} {zs : List ℕ} {a b c : Tree}
        → Nodes e x
        → Parts e d Any Any zs a b c
        → Object e (suc d) (x ∷ zs) (many 16 (also a (also b (also c none))))

  -- (object ws)* ';'
  pub data Objects : Edition → ℕ → List ℕ → Trees → Type 0 where
    close : {e : Edition} {d : ℕ} → Objects e d (code ";" ∷ []) none
    more :
        {e : Edition} {d : ℕ} {xs ys zs ws : List ℕ} {t : Tree} {ts : Trees}
        → Object e d xs t
        → Blanks ys
        → Objects e d zs ts
        → ws ≡ xs ++ (ys ++ zs)
        → Objects e d ws (also t ts)

  -- (object ws object ws)* ';', behind pairs with the keys `seen`
  -- 02: 'Keys of both dicts are unicode and distinct'; compared as bytes
  pub data Members : Edition → ℕ → List (List ℕ) → List ℕ → Pairs → Type 0 where
    close_members : {e : Edition} {d : ℕ} {seen : List (List ℕ)} → Members e d seen (code ";" ∷ []) no_pairs
    more_members :
        {e : Edition} {d : ℕ} {seen : List (List ℕ)} {k xs ys us vs zs ws : List ℕ} {t : Tree} {ps : Pairs}
        → Object e d xs (leaf 11 (contents k))
        → among seen k ≡ false
        → Blanks ys
        → Object e d us t
        → Blanks vs
        → Members e d (k ∷ seen) zs ps
        → ws ≡ xs ++ (ys ++ (us ++ (vs ++ zs)))
        → Members e d seen ws (pair k t ps)

  -- ws name_obj ws attr_obj ws content_obj ws ';'
  pub data Parts : Edition → ℕ → Want → Want → List ℕ → Tree → Tree → Tree → Type 0 where
    parts :
        {e : Edition} {d : ℕ} {w v : Want} {ps qs rs ss xs ys zs ws : List ℕ} {a b c : Tree}
        → Blanks ps
        → Object e d xs a
        → Meets w a
        → Blanks qs
        → Object e d ys b
        → Meets v b
        → Blanks rs
        → Object e d zs c
        → Blanks ss
        → ws ≡ ps ++ (xs ++ (qs ++ (ys ++ (rs ++ (zs ++ (ss ++ (code ";" ∷ [])))))))
        → Parts e d w v ws a b c

-- root :== ws object ws, of which the first `used` bytes are counted
-- 02: 'After the root only blanks may follow, not counted as used': no trailers
pub record Root (e : Edition) (d : ℕ) (s : List ℕ) (used : ℕ) (t : Tree) : Type 0 where
  pub before : List ℕ
  pub bytes : List ℕ
  pub after : List ℕ
  pub blanks_before : Blanks before
  pub object : Object e d bytes t
  pub blanks_after : Blanks after
  pub is : s ≡ before ++ (bytes ++ after)
  pub ends : used ≡ length before + length bytes
