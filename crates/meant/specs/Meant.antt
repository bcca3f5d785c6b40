-- What a message says to one who looks a member up, in the grammar's terms: the members of a Struct as the draft derives them, and what the one of
-- them with a key answers. Rows come in only as numbers, by the place of a cell. Assumes nothing.
use Rattle.std.specs.Prelude.{◌≡◌, List, [], ◌∷◌, ◌++◌, ℕ, ◌+◌, ◌≤◌, eqb, length, Ok, Err}
use Rattle.decimal.specs.Decimal.{decimal_of}
use Rattle.draft.specs.declared.Content.TheVariants as content
use Rattle.draft.specs.Bytes.{part}
use Rattle.draft.specs.Read.{Texts}
use Rattle.draft.specs.Grammar.{Cell, Sent, integer_cell, boolean_cell, content_cell, array_cell, struct_cell, other_cell, Pairs, no_pairs, more_pairs, pair}
use Rattle.lookup_answer.specs.declared.Refusal.TheVariants as why
use Rattle.lookup_answer.specs.Answers.{Answer, signed, decimal_answer}
use Rattle.lookup_answer.specs.declared.Value.TheVariants.{Whole, Truth, Text, Row}

-- a member: the text of its key, and what its value means
pub record Meaning : Type 0 where
  pub key : List ℕ
  pub value : List Cell

-- the members that a Struct's pairs derive, in order
unfoldable pub members_of : {d n : ℕ} {seen : Texts} {xs : List ℕ} {cs : List Cell} {fs : List Sent} → Pairs d seen n xs cs fs → List Meaning
members_of no_pairs = []
members_of (more_pairs (pair {t = t} {cs = cs} string value _) _ pairs _ _ _) = record { key = t; value = cs } ∷ members_of pairs

-- the answer to a value by what it means, if its row is r and s are the message's bytes: an Integer's bits with their sign, a Boolean, the f64 of a
-- Double's text, where a String's text lies in s, and the row of any other item
pub data Answers (s : List ℕ) (r : ℕ) : List Cell → Answer → Type 0 where
  whole_number : {n : ℕ} → Answers s r (integer_cell n ∷ []) (Ok (Whole (signed n)))
  yes_or_no : {n : ℕ} → Answers s r (boolean_cell n ∷ []) (Ok (Truth (eqb n 1)))
  decimal : {t : List ℕ} → Answers s r (content_cell content.Double t ∷ []) (decimal_answer (decimal_of t))
  text : {t : List ℕ} {o n : ℕ} → o + n ≤ length s → part s o n ≡ t → Answers s r (content_cell content.Text t ∷ []) (Ok (Text o n))
  datetime : {t : List ℕ} → Answers s r (content_cell content.DateTime t ∷ []) (Ok (Row r))
  binary : {t : List ℕ} → Answers s r (content_cell content.Binary t ∷ []) (Ok (Row r))
  array : {n below : ℕ} {cs : List Cell} → Answers s r (array_cell n below ∷ cs) (Ok (Row r))
  struct : {n below : ℕ} {cs : List Cell} → Answers s r (struct_cell n below ∷ cs) (Ok (Row r))
  other : {cs : List Cell} → Answers s r (other_cell ∷ cs) (Ok (Row r))

-- the answer to a key, among members the first of which has its key at row r: the one with that key answers
pub data Said (s key : List ℕ) : ℕ → List Meaning → Answer → Type 0 where
  no_member : {r : ℕ} → Said s key r [] (Err why.NoMember)
  this_member : {r : ℕ} {m : Meaning} {ms : List Meaning} {a : Answer} → m.key ≡ key → Answers s (r + 1) m.value a → Said s key r (m ∷ ms) a
  later_member :
      {r : ℕ} {m : Meaning} {ms : List Meaning} {a : Answer}
      → (m.key ≡ key → ⊥)
      → Said s key (r + 1 + length m.value) ms a
      → Said s key r (m ∷ ms) a

-- row r of what a message means is a Struct's, with a derivation of its pairs
pub record StructAt (cells : List Cell) (r : ℕ) : Type 0 where
  pub d : ℕ
  pub n : ℕ
  pub xs : List ℕ
  pub ws : List Cell
  pub fs : List Sent
  pub pairs : Pairs d [] n xs ws fs
  pub before : List Cell
  pub after : List Cell
  pub is : cells ≡ before ++ (struct_cell n (length ws) ∷ (ws ++ after))
  pub place : length before ≡ r

-- the answer to a key at row r: by the Struct's members, or 18 if there is no Struct at r
pub data Answered (s : List ℕ) (cells : List Cell) (r : ℕ) (key : List ℕ) (a : Answer) : Type 0 where
  in_struct : (st : StructAt cells r) → Said s key (r + 1) (members_of st.pairs) a → Answered s cells r key a
  no_struct : (StructAt cells r → ⊥) → a ≡ Err why.NoMember → Answered s cells r key a
