-- The rules for content, each said once: reading, the grammar and writability all cite them. Assumes nothing.
use Rattle.std.specs.Prelude.{Bool, true, false, ◌&&◌, ◌||◌, cond, List, [], ◌∷◌, ℕ, ◌+◌, length, leb, eqb}
use Rattle.text.specs.Utf8.{well_formed}
use Rattle.text.specs.Texts.{ascii, same, among, standard_name}
use Rattle.lexical.specs.Double.{is_double}
use Rattle.lexical.specs.DateTime.{is_date_time}
use Rattle.draft.specs.declared.Refusal.{Refusal}
use Rattle.draft.specs.declared.Refusal.TheVariants.{Ended, BadText, StandardName, BadFault, BadValue, RepeatedKey}
use Rattle.draft.specs.Verdict.{Verdict}
use Rattle.std.specs.Prelude.{Ok, Err}
use Rattle.draft.specs.declared.Content.{Content}
use Rattle.draft.specs.declared.Content.TheVariants.{Double, DateTime, Binary, Text}
use Rattle.draft.specs.Bytes.{bytes, part}
use Rattle.draft.specs.Rows.{kind_of}

abbrev pub fine_if : Bool → Refusal → Verdict
fine_if true refusal = Ok tt
fine_if false refusal = Err refusal

-- bytes that are not ASCII are 5, whatever else they are; then ASCII that is no such text is 17
abbrev pub ascii_then : Bool → Bool → Verdict
ascii_then true good = fine_if good BadValue
ascii_then false good = Err BadText

-- a Double's and a DateTime's bytes are ASCII and such a text, a String's are UTF-8, a Binary's are any
unfoldable pub content_rule : Content → List ℕ → Verdict
content_rule Double s = ascii_then (ascii s) (is_double s)
content_rule DateTime s = ascii_then (ascii s) (is_date_time s)
content_rule Binary s = Ok tt
content_rule Text s = fine_if (well_formed s) BadText

abbrev pub all_there : Bool → Verdict → Verdict
all_there true v = v
all_there false v = Err Ended

-- of the n bytes at o: they are all there, and then what their rule says
unfoldable pub verdict : Content → List ℕ → ℕ → ℕ → Verdict
verdict c s o n = all_there (leb (o + n) (length s)) (content_rule c (part s o n))

abbrev pub bad_if : Bool → Refusal → Verdict
bad_if true refusal = Err refusal
bad_if false refusal = Ok tt

-- the name in an Other is not a standard type's
unfoldable pub name_rule : List ℕ → Verdict
name_rule s = bad_if (standard_name s) StandardName

-- a Struct's key is none of those before it
unfoldable pub key_rule : List (List ℕ) → List ℕ → Verdict
key_rule seen key = bad_if (among seen key) RepeatedKey

-- an item that stands in a fault's Struct, as the rule for its members sees it: a String with its text, an Integer, or something else
pub data Held : Type 0 where
  string : List ℕ → Held
  integer : Held
  another : Held

-- by the kind of its row, with the text that it has if it is a String
unfoldable pub held_of : ℕ → List ℕ → Held
held_of kind text = cond (eqb kind (kind_of Text)) (string text) (cond (eqb kind 4) integer another)

abbrev pub is_integer : Held → Bool
is_integer (string text) = false
is_integer integer = true
is_integer another = false

abbrev pub is_string : Held → Bool
is_string (string text) = true
is_string integer = false
is_string another = false

-- a String of these bytes
abbrev pub is_text : List ℕ → Held → Bool
is_text name (string text) = same text name
is_text name integer = false
is_text name another = false

-- a key and its value: 'faultCode, an Integer'
unfoldable pub is_code : Held → Held → Bool
is_code key value = is_text (bytes "faultCode") key && is_integer value

-- 'and faultString, a String'
unfoldable pub is_message : Held → Held → Bool
is_message key value = is_text (bytes "faultString") key && is_string value

-- 'exactly' these two, 'in either order': an Integer and a String have one row each, so they are the first two items and the next two, and
-- there are no more
unfoldable pub is_fault : List Held → Bool
is_fault (w ∷ x ∷ y ∷ z ∷ []) = (is_code w x && is_message y z) || (is_message w x && is_code y z)
is_fault [] = false
is_fault (w ∷ []) = false
is_fault (w ∷ x ∷ []) = false
is_fault (w ∷ x ∷ y ∷ []) = false
is_fault (w ∷ x ∷ y ∷ z ∷ v ∷ more) = false

-- document 02's rule for the items that a fault's Struct holds, in the order of their rows
unfoldable pub fault_rule : List Held → Verdict
fault_rule items = fine_if (is_fault items) BadFault
