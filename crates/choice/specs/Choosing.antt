-- Which text is handed out, document 02's numbers of the refusals, and a choice as its caller gets it: a part of one of two lent slices, by what
-- it is and by where it lies. Assumes nothing.
use Rattle.std.specs.Prelude.{◌≡◌, List, ℕ, ◌+◌, min, length, take, drop, Result, Ok, Err}
use Rattle.std.specs.Borrow.{Bor}
use Rattle.choice.specs.declared.Held.{Held}
use Rattle.choice.specs.declared.Held.TheVariants.{Absent, NoText, Text}
use Rattle.choice.specs.declared.Refusal.{Refusal}
use Rattle.choice.specs.declared.Refusal.TheVariants.{NotWritable, NoMember}
use Rattle.choice.specs.declared.Source.{Source}
use Rattle.choice.specs.declared.Source.TheVariants.{Card, Defaults}
use Rattle.choice.specs.declared.Chosen.{Chosen}

-- a text, by whose it is and where it lies there; or why there is none
abbrev pub Choice : Type 0
Choice = Result Chosen Refusal

abbrev pub text_of : Source → ℕ → ℕ → Choice
text_of source o n = Ok (record { source = source; offset = o; length = n })

abbrev pub number_of : Refusal → ℕ
-- '11 for the card, then for the defaults'
number_of NotWritable = 11
-- '18 if either row is no Struct, if neither has the key, or if the one found is no String'
number_of NoMember = 18

abbrev pub text_in : Source → Held → Choice
text_in source (Text o n) = text_of source o n
text_in source NoText = Err NoMember
text_in source Absent = Err NoMember

-- 'the card's if the card's Struct has the key, otherwise the defaults''
abbrev pub preferred : Held → Held → Choice
preferred (Text o n) other = text_of Card o n
preferred NoText other = Err NoMember
preferred Absent other = text_in Defaults other

-- ---- as the caller gets it

-- where byte o of a lent slice lies: its block, and the offset there
abbrev pub byte_of : Bor (List ℕ) → ℕ → ℕ × ℕ
byte_of s o = (s.ref_ptr.0, o + s.ref_ptr.1)

-- the n bytes at o of a lent slice; what reaches past its end is cut off there
pub record PartOf (s : Bor (List ℕ)) (o n : ℕ) (part : Bor (List ℕ)) : Type 0 where
  pub bytes : part.now ≡ take n (drop o s.now)
  pub lies : part.ref_ptr ≡ byte_of s (min o (length s.now))

-- the bytes of the card or of the defaults
abbrev pub bytes_of : Bor (List ℕ) → Bor (List ℕ) → Source → Bor (List ℕ)
bytes_of card defaults Card = card
bytes_of card defaults Defaults = defaults

-- 'a part of the card's bytes or of the defaults' bytes'; 'refused, the part is the empty start of the card's bytes'
abbrev pub PartFor : Bor (List ℕ) → Bor (List ℕ) → Choice → Bor (List ℕ) → Type 0
PartFor card defaults (Ok text) part = PartOf (bytes_of card defaults text.source) text.offset text.length part
PartFor card defaults (Err why) part = PartOf card 0 0 part

-- 0, or the refusal's number
abbrev pub choice_number : Choice → ℕ
choice_number (Ok text) = 0
choice_number (Err why) = number_of why

-- 'and which': 0 is the card, 1 the defaults; refused, 'the answer names the card'
abbrev pub number_of_source : Source → ℕ
number_of_source Card = 0
number_of_source Defaults = 1

abbrev pub source_of : Choice → ℕ
source_of (Ok text) = number_of_source text.source
source_of (Err why) = 0

-- a choice handed out: the part and both numbers
pub record Handed (card defaults : Bor (List ℕ)) (choice : Choice) (part : Bor (List ℕ)) (number source : ℕ) : Type 0 where
  pub gives : PartFor card defaults choice part
  pub says : number ≡ choice_number choice
  pub names : source ≡ source_of choice
