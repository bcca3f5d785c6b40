-- The written form is bytes: each is below 256 where the text bytes are. Assumes nothing.
use Prim.Native.Nat.{ℕ, ◌/◌, ◌%◌, ◌≤◌, ◌<◌}
use mathlib.Core.Path.{◌≡◌, refl}
use mathlib.Core.Bool.{Bool, true, false, cond}
use mathlib.Core.List.{List, [], ◌∷◌}
use native.Mathlib.Omega.{arith}
use lib.Dec.{eqb, ltb, lit<}
use lib.Pow.{are_bytes}
use borrow.Author.Tests.{ltb-true}
use Rattle.text.proofs.Comparing.{both}
use lib.ListN.{length, length-take}
use Rattle.text.specs.Texts.{among}
use Rattle.draft.specs.declared.Row.{Row}
use Rattle.draft.specs.declared.Content.{Content as ContentOf}
use Rattle.draft.specs.declared.Content.TheVariants as content
use Rattle.draft.specs.declared.Item.{Item}
use Rattle.draft.specs.declared.Item.TheVariants as item
use Rattle.draft.specs.Bytes.{Below, none_below, and_below}
use Rattle.draft.specs.Rows.{item_of}
use Rattle.draft.specs.Read.{prefix}
use Rattle.draft.specs.Grammar.{Payload, Cell, cell, Sent, regular, recorded, recalled}
use Rattle.draft.specs.Meaning.{says_holding, says_number, says_contents, means, Realises, no_more, and_then}
use Rattle.draft.specs.Strings.{Text, keep, repeated, kept, position, sents, plan}
use Rattle.draft.specs.Written.{lsb, counted, string_bytes, letter, content_bytes, next}
use Rattle.written.proofs.Sending.{position_below}
use Rattle.written.proofs.Limiting.{below_append, below_take, below_drop}
use Rattle.written.proofs.Forming.{content as contentIn, numbered, strings, bytes_for, form, formed}

-- cells whose content is bytes, texts that are, and strings as sent that are
pub data CellsBelow : List Cell → Type 0 where
  no_cells : CellsBelow []
  and_cell : {k m : ℕ} {p : Payload} {cs : List Cell} → Below 256 (contentIn p) → CellsBelow cs → CellsBelow (cell k m p ∷ cs)

data TextsBelow : List Text → Type 0 where
  no_texts : TextsBelow []
  and_text : {t : Text} {ts : List Text} → Below 256 t → TextsBelow ts → TextsBelow (t ∷ ts)

data SentsBelow : List Sent → Type 0 where
  no_sents : SentsBelow []
  and_sent : {f : Sent} {fs : List Sent} → Below 256 (string_bytes f) → SentsBelow fs → SentsBelow (f ∷ fs)

pub cells_below : {s : List ℕ} {r : ℕ} {xs : List Row} {cs : List Cell} → Below 256 s → Realises s r xs cs → CellsBelow cs
cells_below b no_more = no_cells
cells_below b (and_then (means h e (says_holding i j a n)) t) = and_cell none_below (cells_below b t)
cells_below b (and_then (means h e (says_number i a n)) t) = and_cell none_below (cells_below b t)
cells_below b (and_then {x = x} (means h e (says_contents i j l)) t) = and_cell (rw l at (below_take x.b (below_drop x.a b))) (cells_below b t)

texts_below : {cs : List Cell} → CellsBelow cs → TextsBelow (strings cs)
unfolding strings
texts_below no_cells = no_texts
texts_below (and_cell {k} {m} {p} {cs} b t) = go (eqb k 11) (texts_below t)
  where
    go : (c : Bool) → TextsBelow (strings cs) → TextsBelow (keep c (contentIn p) (strings cs))
    go true h = and_text b h
    go false h = h

low : (n : ℕ) → n % 256 < 256
low n = omega arith

lsb_below : (n : ℕ) → Below 256 (lsb n)
unfolding lsb
lsb_below n = and_below (low n) (and_below (low (n / 256)) (and_below (low (n / 65536)) (and_below (low (n / 16777216)) none_below)))

counted_below : {t : Text} → Below 256 t → Below 256 (counted t)
unfolding counted
counted_below {t} b = below_append (lsb_below (length t)) b

-- positions are below 256
sent_below :
    (P : List Text) (t : Text) → length P ≤ 256 → Below 256 t → (b c : Bool) → among P t ≡ b
    → Below 256 (string_bytes (cond b (cond c (recalled (position P t) t) (recorded (position P t) t)) (regular t)))
unfolding string_bytes
sent_below P t l h true c e = go c (omega (arith, position_below P t e))
  where
    go : (c : Bool) → position P t < 256 → Below 256 (string_bytes (cond c (recalled (position P t) t) (recorded (position P t) t)))
    go true i = and_below (lit< tt) (and_below i none_below)
    go false i = and_below (lit< tt) (and_below i (counted_below h))
sent_below P t l h false c e = and_below (lit< tt) (counted_below h)

sents_below : (P seen : List Text) {ts : List Text} → length P ≤ 256 → TextsBelow ts → SentsBelow (sents P seen ts)
unfolding sents
sents_below P seen l no_texts = no_sents
sents_below P seen l (and_text {t} b h) = and_sent (sent_below P t l b (among P t) (among seen t) refl) (sents_below P (t ∷ seen) l h)

plan_below : {ts : List Text} → TextsBelow ts → SentsBelow (plan ts)
plan_below {ts} h = sents_below (kept ts) [] (omega (arith, length-take 256 (repeated ts))) h

content_below : (c : ContentOf) {t : Text} → Below 256 t → Below 256 (content_bytes c t)
content_below content.Double b = and_below (lit< tt) (and_below (low _) b)
content_below content.DateTime b = and_below (lit< tt) (and_below (low _) b)
content_below content.Binary b = and_below (lit< tt) (counted_below b)
content_below content.Text b = none_below

letter_below : (b : Bool) → letter b < 256
letter_below true = lit< tt
letter_below false = lit< tt

item_below : (i : Item) (p : Payload) → Below 256 (contentIn p) → Below 256 (bytes_for i p)
item_below item.Call p b = and_below (lit< tt) none_below
item_below item.Response p b = and_below (lit< tt) none_below
item_below item.Fault p b = and_below (lit< tt) (and_below (lit< tt) none_below)
item_below item.Integer p b = and_below (lit< tt) (lsb_below _)
item_below item.Boolean p b = and_below (letter_below (eqb (numbered p) 0)) none_below
item_below (item.Content c) p b = content_below c b
item_below item.Array p b = and_below (lit< tt) (lsb_below _)
item_below item.Struct p b = and_below (lit< tt) (lsb_below _)
item_below item.Other p b = and_below (lit< tt) none_below
item_below item.Unknown p b = none_below

form_below : {cs : List Cell} (fs : List Sent) → CellsBelow cs → SentsBelow fs → Below 256 (form cs fs)
unfolding form
form_below fs no_cells h = none_below
form_below fs (and_cell {k} {m} {p} {cs} b t) h = go (eqb k 11) fs h (λ gs g. form_below gs t g)
  where
    go :
        (c : Bool) (fs : List Sent) → SentsBelow fs → ((gs : List Sent) → SentsBelow gs → Below 256 (form cs gs))
        → Below 256 (next c (bytes_for (item_of k) p) fs (λ left. form cs left))
    go false fs h rest = below_append (item_below (item_of k) p b) (rest fs h)
    go true [] h rest = rest [] no_sents
    go true (f ∷ fs) (and_sent i h) rest = below_append i (rest fs h)

tested_below : (xs : List ℕ) → are_bytes xs ≡ true → Below 256 xs
tested_below [] e = none_below
tested_below (x ∷ xs) e = let h = both (ltb x 256) (are_bytes xs) e in and_below (ltb-true x 256 h.0) (tested_below xs h.1)

pub formed_below : {cs : List Cell} → CellsBelow cs → Below 256 (formed cs)
formed_below {cs} h = below_append (tested_below prefix refl) (form_below (plan (strings cs)) h (plan_below (texts_below h)))
