-- What the functions on positions ask and what they do, as against the definition of how strings are sent. Assumes nothing.
use Rattle.std.specs.Prelude.{ℕ, ◌≤◌, ◌<◌, ◌≡◌, cond, List, length, get_or, ltb}
use Rattle.text.specs.Texts.{among}
use Rattle.draft.specs.Table.{from}
use Rattle.draft.specs.Grammar.{Sent, regular, recorded, recalled}
use Rattle.draft.specs.Strings.{Text, kept, position}
use Rattle.buckets.specs.Numbered.{First, Firsts, Marks}
use Rattle.positions.specs.declared.Sending.{Sending}
use Rattle.positions.specs.declared.Sending.TheVariants as sending

-- v is the position of t, or 256 or more if t has none
pub record Slot (P : List Text) (t : Text) (v : ℕ) : Type 0 where
  pub has : among P t ≡ ltb v 256
  pub at : v < 256 → position P t ≡ v

-- of each string below n that is the first of its text, the words have the position
pub record Slots (P : List Text) (t : ℕ → Text) (n : ℕ) (sp : List ℕ) : Type 0 where
  pub at : (k : ℕ) → k < n → First t k k → Slot P (t k) (get_or sp k 0)

-- the marks that a call left, whatever the texts are of which the words tell the first strings
pub record Marked (n : ℕ) (fs tw : List ℕ) : Type 0 where
  pub at : (t : ℕ → Text) → Firsts t n fs → Marks t n tw
  pub room : n ≤ length tw

-- the positions that a call left where such marks were
pub record Numbered (n : ℕ) (fs tw sp : List ℕ) : Type 0 where
  pub at : (t : ℕ → Text) → Firsts t n fs → Marks t n tw → Slots (kept (from t 0 n)) t n sp
  pub room : n ≤ length sp

-- and with no marks before it
pub record Placed (n : ℕ) (fs sp : List ℕ) : Type 0 where
  pub at : (t : ℕ → Text) → Firsts t n fs → Slots (kept (from t 0 n)) t n sp
  pub room : n ≤ length sp

-- the words that tell how string j is sent are there
pub record Ready (fs sp : List ℕ) (j : ℕ) : Type 0 where
  pub first : j < length fs
  pub spot : j < length sp
  pub earlier : get_or fs j 0 ≤ j

-- a string of this text, sent so
abbrev pub sent : Sending → Text → Sent
sent sending.Regular t = regular t
sent (sending.Recorded p) t = recorded p t
sent (sending.Recalled p) t = recalled p t

-- how string j is sent, of the text t, whose first string and position the words have
unfoldable pub told : List ℕ → List ℕ → ℕ → Text → Sent
told fs sp j t =
    cond (ltb (get_or sp (get_or fs j 0) 0) 256)
    (cond (ltb (get_or fs j 0) j) (recalled (get_or sp (get_or fs j 0) 0) t) (recorded (get_or sp (get_or fs j 0) 0) t))
    (regular t)

pub record SentBy (fs sp : List ℕ) (j : ℕ) (r : Sending) : Type 0 where
  pub is : (t : Text) → sent r t ≡ told fs sp j t
