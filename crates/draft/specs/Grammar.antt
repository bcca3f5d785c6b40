-- The draft's grammar: document 002's productions over bytes, in its order and words, with what they mean; then its codebook.
-- '01:' marks a decision of document 01 where 002 is open or says otherwise, '02:' one of document 02. No rule sets a limit on bytes, rows or
-- nesting. Assumes nothing.
use Rattle.std.specs.Prelude.{◌≡◌, cond, List, [], ◌∷◌, ◌++◌, ℕ, zero, suc, ◌+◌, ◌*◌, ◌≤◌, eqb, length, take}
use Rattle.std.proofs.Math.Option.{Option, some, none}
use Prim.Native.Char.{code}
use Rattle.std.specs.Prelude.{Ok}
use Rattle.draft.specs.declared.Content.{Content}
use Rattle.draft.specs.declared.Content.TheVariants as content
use Rattle.draft.specs.Bytes.{bytes}
use Rattle.draft.specs.Rows.{below, kind_of}
use Rattle.draft.specs.Content.{content_rule, name_rule, key_rule, Held, held_of, fault_rule}

-- MEANING. What an item means is a list of cells, one for each row of document 01's table and in the order of the rows.
-- A cell says the row's kind, how many rows stand below it, and: how many things it holds (b), or its number (a), or its content bytes.
pub data Payload : Type 0 where
  holding : ℕ → Payload
  number : ℕ → Payload
  contents : List ℕ → Payload

pub data Cell : Type 0 where
  cell : ℕ → ℕ → Payload → Cell

-- 01's table of rows; an Array holds values, a Struct pairs
abbrev pub call_cell : ℕ → Cell
call_cell below = cell 1 below (holding 2)

abbrev pub response_cell : ℕ → Cell
response_cell below = cell 2 below (holding 1)

abbrev pub fault_cell : ℕ → Cell
fault_cell below = cell 3 below (holding 1)

abbrev pub integer_cell : ℕ → Cell
integer_cell n = cell 4 0 (number n)

abbrev pub boolean_cell : ℕ → Cell
boolean_cell n = cell 5 0 (number n)

-- 6 Double, 7 DateTime, 8 Binary, 11 String
abbrev pub content_cell : Content → List ℕ → Cell
content_cell c t = cell (kind_of c) 0 (contents t)

abbrev pub array_cell : ℕ → ℕ → Cell
array_cell count below = cell 9 below (holding count)

abbrev pub struct_cell : ℕ → ℕ → Cell
struct_cell pairs below = cell 10 below (holding pairs)

abbrev pub other_cell : Cell
other_cell = cell 12 2 (holding 2)

-- cells, as the rule for a fault's members sees them
abbrev pub held_cell : Cell → Held
held_cell (cell kind m (holding n)) = held_of kind []
held_cell (cell kind m (number n)) = held_of kind []
held_cell (cell kind m (contents t)) = held_of kind t

unfoldable pub held_cells : List Cell → List Held
held_cells [] = []
held_cells (c ∷ cs) = held_cell c ∷ held_cells cs

-- How a String is sent: its kind, its CodebookPosition if it has one, and the text that it stands for.
pub data Sent : Type 0 where
  regular : List ℕ → Sent
  recorded : ℕ → List ℕ → Sent
  recalled : ℕ → List ℕ → Sent

-- SignedLSB := a four-octet, signed, twos'-complement integer, least-significant byte (LSB) first
-- UnsignedLSB := a four-octet, unsigned integer, LSB first
-- 01: an Integer's row has its 32 bits, so both are the number n whose bits they are
abbrev pub LSB : ℕ → ℕ → ℕ → ℕ → ℕ → Type 0
LSB n i j k l = n ≡ i + 256 * (j + 256 * (k + 256 * l))

-- content that keeps the rule of its kind, which reading cites too
abbrev pub Keeps : Content → List ℕ → Type 0
Keeps c t = content_rule c t ≡ Ok tt

-- THE PRODUCTIONS. `P d xs cs fs`: the bytes xs are a P in which Arrays and Structs nest to a depth of at most d, P itself counted; cs is what
-- it means, and fs are its Strings in order, as sent. A P without d nests nothing; one without cs means a number or content; one without fs has no
-- String. A byte is a number, and that a message's are below 256 is used by no rule.
mutual
  -- 'binmode-rpc:', followed by a Call or a Response
  pub data Message : ℕ → List ℕ → List Cell → List Sent → Type 0 where
    call_message :
        {d : ℕ} {xs zs : List ℕ} {cs : List Cell} {fs : List Sent}
        → Call d xs cs fs
        → zs ≡ bytes "binmode-rpc:" ++ xs
        → Message d zs cs fs
    response_message :
        {d : ℕ} {xs zs : List ℕ} {cs : List Cell} {fs : List Sent}
        → Response d xs cs fs
        → zs ≡ bytes "binmode-rpc:" ++ xs
        → Message d zs cs fs

  -- Call := 'C' String Array
  pub data Call : ℕ → List ℕ → List Cell → List Sent → Type 0 where
    call :
        {d below : ℕ} {xs ys zs t : List ℕ} {cs : List Cell} {f : Sent} {fs : List Sent}
        → String xs t f
        → Array d ys cs fs
        → zs ≡ xs ++ ys
        → below ≡ suc (length cs)
        → Call d (code "C" ∷ zs) (call_cell below ∷ content_cell content.Text t ∷ cs) (f ∷ fs)

  -- Response := 'R' (Value|Fault)
  pub data Response : ℕ → List ℕ → List Cell → List Sent → Type 0 where
    value_response :
        {d below : ℕ} {xs : List ℕ} {cs : List Cell} {fs : List Sent}
        → Value d xs cs fs
        → below ≡ length cs
        → Response d (code "R" ∷ xs) (response_cell below ∷ cs) fs
    fault_response :
        {d below : ℕ} {xs : List ℕ} {cs : List Cell} {fs : List Sent}
        → Fault d xs cs fs
        → below ≡ length cs
        → Response d (code "R" ∷ xs) (fault_cell below ∷ cs) fs

  -- Fault := 'F' Struct
  -- 'a regular Struct (with members as specified by the .. XML-RPC specification)'
  -- 02: these are exactly a faultCode and a faultString, as the rule says. 01: 'F' has no row of its own
  pub data Fault : ℕ → List ℕ → List Cell → List Sent → Type 0 where
    fault :
        {d : ℕ} {xs : List ℕ} {cs : List Cell} {fs : List Sent}
        → Struct d xs cs fs
        → fault_rule (held_cells (below cs)) ≡ Ok tt
        → Fault d (code "F" ∷ xs) cs fs

  -- Value := (Integer|Boolean|Double|DateTimeISO8601Binary|Array|Struct|String|Other)
  -- 01: a DateTimeISO8601 or a Binary, between which 002 lost its '|'
  pub data Value : ℕ → List ℕ → List Cell → List Sent → Type 0 where
    integer_value : {d n : ℕ} {xs : List ℕ} → Integer xs n → Value d xs (integer_cell n ∷ []) []
    boolean_value : {d n : ℕ} {xs : List ℕ} → Boolean xs n → Value d xs (boolean_cell n ∷ []) []
    double_value : {d : ℕ} {xs t : List ℕ} → Double xs t → Value d xs (content_cell content.Double t ∷ []) []
    datetime_value : {d : ℕ} {xs t : List ℕ} → DateTimeISO8601 xs t → Value d xs (content_cell content.DateTime t ∷ []) []
    binary_value : {d : ℕ} {xs t : List ℕ} → Binary xs t → Value d xs (content_cell content.Binary t ∷ []) []
    array_value : {d : ℕ} {xs : List ℕ} {cs : List Cell} {fs : List Sent} → Array d xs cs fs → Value d xs cs fs
    struct_value : {d : ℕ} {xs : List ℕ} {cs : List Cell} {fs : List Sent} → Struct d xs cs fs → Value d xs cs fs
    string_value : {d : ℕ} {xs t : List ℕ} {f : Sent} → String xs t f → Value d xs (content_cell content.Text t ∷ []) (f ∷ [])
    other_value : {d : ℕ} {xs : List ℕ} {cs : List Cell} {f : Sent} → Other xs cs f → Value d xs cs (f ∷ [])

  -- Integer := 'I' SignedLSB
  pub data Integer : List ℕ → ℕ → Type 0 where
    integer : {n i j k l : ℕ} → LSB n i j k l → Integer (code "I" ∷ i ∷ j ∷ k ∷ l ∷ []) n

  -- Boolean := ('t'|'f')
  pub data Boolean : List ℕ → ℕ → Type 0 where
    boolean_true : Boolean (code "t" ∷ []) 1
    boolean_false : Boolean (code "f" ∷ []) 0

  -- Double := 'D' SizeOctet AsciiChar...
  -- 02: the AsciiChars are a Double of lexical's Grammar (002: as the XML-RPC specification describes), and a DateTimeISO8601's a DateTime of it
  pub data Double : List ℕ → List ℕ → Type 0 where
    double : {n : ℕ} {t : List ℕ} → n ≡ length t → Keeps content.Double t → Double (code "D" ∷ n ∷ t) t

  -- DateTimeISO8601 := '8' SizeOctet AsciiChar...
  pub data DateTimeISO8601 : List ℕ → List ℕ → Type 0 where
    datetime : {n : ℕ} {t : List ℕ} → n ≡ length t → Keeps content.DateTime t → DateTimeISO8601 (code "8" ∷ n ∷ t) t

  -- Binary := 'B' UnsignedLSB Octet...
  -- 'The UnsignedLSB specifies the number of octets of data'
  pub data Binary : List ℕ → List ℕ → Type 0 where
    binary :
        {n i j k l : ℕ} {t : List ℕ}
        → LSB n i j k l
        → n ≡ length t
        → Keeps content.Binary t
        → Binary (code "B" ∷ i ∷ j ∷ k ∷ l ∷ t) t

  -- Array := 'A' UnsignedLSB Value...
  -- 'The UnsignedLSB specifies the number of values in the array'
  pub data Array : ℕ → List ℕ → List Cell → List Sent → Type 0 where
    array :
        {d n i j k l below : ℕ} {xs : List ℕ} {cs : List Cell} {fs : List Sent}
        → LSB n i j k l
        → Values d n xs cs fs
        → below ≡ length cs
        → Array (suc d) (code "A" ∷ i ∷ j ∷ k ∷ l ∷ xs) (array_cell n below ∷ cs) fs

  -- Value..., n of them
  pub data Values : ℕ → ℕ → List ℕ → List Cell → List Sent → Type 0 where
    no_values : {d : ℕ} → Values d zero [] [] []
    more_values :
        {d n : ℕ} {xs ys zs : List ℕ} {us vs ws : List Cell} {fs gs hs : List Sent}
        → Value d xs us fs
        → Values d n ys vs gs
        → zs ≡ xs ++ ys
        → ws ≡ us ++ vs
        → hs ≡ fs ++ gs
        → Values d (suc n) zs ws hs

  -- Struct := 'S' UnsignedLSB (String,Value)...
  -- 'The UnsignedLSB specifies the number of String,Value pairs in the struct. The strings are keys; the values may be of any type'
  pub data Struct : ℕ → List ℕ → List Cell → List Sent → Type 0 where
    struct :
        {d n i j k l below : ℕ} {xs : List ℕ} {cs : List Cell} {fs : List Sent}
        → LSB n i j k l
        → Pairs d [] n xs cs fs
        → below ≡ length cs
        → Struct (suc d) (code "S" ∷ i ∷ j ∷ k ∷ l ∷ xs) (struct_cell n below ∷ cs) fs

  -- (String,Value)..., n of them, behind pairs with the keys `seen`
  -- 02: each key differs from those before it, compared as bytes, whichever way it is sent
  pub data Pairs : ℕ → List (List ℕ) → ℕ → List ℕ → List Cell → List Sent → Type 0 where
    no_pairs : {d : ℕ} {seen : List (List ℕ)} → Pairs d seen zero [] [] []
    more_pairs :
        {d n : ℕ} {seen : List (List ℕ)} {t xs ys zs : List ℕ} {us vs ws : List Cell} {fs gs hs : List Sent}
        → Pair d t xs us fs
        → key_rule seen t ≡ Ok tt
        → Pairs d (t ∷ seen) n ys vs gs
        → zs ≡ xs ++ ys
        → ws ≡ us ++ vs
        → hs ≡ fs ++ gs
        → Pairs d seen (suc n) zs ws hs

  -- (String,Value), with the key t
  pub data Pair : ℕ → List ℕ → List ℕ → List Cell → List Sent → Type 0 where
    pair :
        {d : ℕ} {xs ys zs t : List ℕ} {cs : List Cell} {f : Sent} {fs : List Sent}
        → String xs t f
        → Value d ys cs fs
        → zs ≡ xs ++ ys
        → Pair d t zs (content_cell content.Text t ∷ cs) (f ∷ fs)

  -- Other := 'O' String Binary
  -- 'Implementations MUST NOT encode any of the standard types using this construct'
  -- 01: these have the nine names that the rule lists, whichever way the name is sent; an Other is no error, and adds no nesting
  pub data Other : List ℕ → List Cell → Sent → Type 0 where
    other :
        {xs ys zs t u : List ℕ} {f : Sent}
        → String xs t f
        → name_rule t ≡ Ok tt
        → Binary ys u
        → zs ≡ xs ++ ys
        → Other (code "O" ∷ zs) (other_cell ∷ content_cell content.Text t ∷ content_cell content.Binary u ∷ []) f

  -- String := (RegularString|RecordedString|RecalledString)
  -- RegularString := 'U' StringData
  -- RecordedString := '>' CodebookPosition StringData
  -- RecalledString := '<' CodebookPosition
  -- CodebookPosition := UnsignedOctet
  -- What a RecalledString stands for is the codebook's to say, below
  pub data String : List ℕ → List ℕ → Sent → Type 0 where
    regular_string : {xs t : List ℕ} → StringData xs t → String (code "U" ∷ xs) t (regular t)
    recorded_string : {p : ℕ} {xs t : List ℕ} → StringData xs t → String (code ">" ∷ p ∷ xs) t (recorded p t)
    recalled_string : {p : ℕ} {t : List ℕ} → String (code "<" ∷ p ∷ []) t (recalled p t)

  -- StringData := UnsignedLSB Utf8Octet...
  -- 'The UnsignedLSB specifies the number of UTF-8 octets'
  -- 01: UTF-8 is RFC 3629's, and all else is an error (002: SHOULD raise one)
  pub data StringData : List ℕ → List ℕ → Type 0 where
    string_data :
        {n i j k l : ℕ} {t : List ℕ}
        → LSB n i j k l
        → n ≡ length t
        → Keeps content.Text t
        → StringData (i ∷ j ∷ k ∷ l ∷ t) t

-- THE CODEBOOK: the texts recorded so far, each with its position, the most recent first.
pub data Recording : Type 0 where
  text_at : ℕ → List ℕ → Recording

-- 'It is legal to change a codebook position once it has been set; the most recent value applies'
abbrev pub look : ℕ → List Recording → Option (List ℕ)
look p [] = none
look p (text_at q t ∷ R) = cond (eqb p q) (some t) (look p R)

-- 'When the decoder encounters a RecordedString, it MUST store it into the specified codebook position'
-- 01: an empty text too; Strings already read stand for what they stood for
abbrev pub after : List Recording → List Sent → List Recording
after R [] = R
after R (regular t ∷ fs) = after R fs
after R (recorded p t ∷ fs) = after (text_at p t ∷ R) fs
after R (recalled p t ∷ fs) = after R fs

-- 'If that codebook position has been set, the implementation MUST use the string value found in the codebook. If the position has not been
-- set, the implementation MUST stop decoding and raise an error'
pub data Legal : List Recording → List Sent → Type 0 where
  legal_none : {R : List Recording} → Legal R []
  legal_regular : {R : List Recording} {t : List ℕ} {fs : List Sent} → Legal R fs → Legal R (regular t ∷ fs)
  legal_recorded : {R : List Recording} {p : ℕ} {t : List ℕ} {fs : List Sent} → Legal (text_at p t ∷ R) fs → Legal R (recorded p t ∷ fs)
  legal_recalled : {R : List Recording} {p : ℕ} {t : List ℕ} {fs : List Sent} → look p R ≡ some t → Legal R fs → Legal R (recalled p t ∷ fs)

-- THE DRAFT derives the bytes xs with the meaning cs, nested to a depth of at most d, in as many rows as there are cells.
-- 'At the start of a data stream, the codebook is empty'
pub record Derives (d : ℕ) (xs : List ℕ) (cs : List Cell) : Type 0 where
  pub sents : List Sent
  pub derivation : Message d xs cs sents
  pub legal : Legal [] sents

-- a beginning of s, its first `used` bytes, is derived. 'Trailing data .. MUST be ignored'
pub record Begins (s : List ℕ) (used d : ℕ) (cs : List Cell) : Type 0 where
  pub inside : used ≤ length s
  pub derived : Derives d (take used s) cs
