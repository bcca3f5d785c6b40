-- Document 02's job defaults: what `defaults::choose` and `defaults::text_of` promise (`Defaults.chosen`, `Choosing.Handed`) is E5's lookup in the card,
-- and only if its Struct lacks the key, in the defaults; and where the part lies. Assumes nothing.
use mathlib.Core.Path.{◌≡◌, refl, sym, ap, ◌∙◌}
use mathlib.Core.Bool.{Bool, true, false, ◌&&◌, cond}
use mathlib.Core.Logic.{◌↔◌}
use mathlib.Core.List.{List, []}
use Prim.Native.Nat.{ℕ, ◌+◌, ◌≤◌, min}
use native.Mathlib.Omega.{arith}
use lib.Dec.{eqb}
use lib.ListN.{length}
use denote.Ref.{Bor}
use borrow.Author.Tests.{eqb-true, eqb-false}
use Rattle.std.specs.Prelude.{Option, Some, None, Ok, Err}
use Rattle.text.proofs.Comparing.{clash}
use Rattle.decimal.specs.Decimal.{decimal_of}
use Rattle.draft.specs.Grammar.{Cell}
use Rattle.member.specs.declared.Member.{Member}
use Rattle.member.specs.Members.{is_struct}
use Rattle.lookup_answer.specs.Answers.{Answer, look}
use Rattle.lookup_answer.specs.declared.Value.TheVariants as answer
use Rattle.choice.specs.declared.Held.{Held}
use Rattle.choice.specs.declared.Held.TheVariants as held
use Rattle.choice.specs.declared.Refusal.TheVariants.{NoMember}
use Rattle.choice.specs.declared.Source.TheVariants.{Card, Defaults}
use Rattle.choice.specs.declared.Chosen.{Chosen}
use Rattle.choice.specs.Choosing.{Choice, text_of, preferred, byte_of, choice_number, Handed}
use Rattle.defaults.specs.Defaults.{Source, numbered_text, found_text, held_in, unless, structs_then, row_in, is_writable, chosen}
use Rattle.sources.proofs.Asking.{decimal_other, Agrees, agrees, card_of, card_by, defaults_of, defaults_by, unchanged, Given, a_choice, past_refusals}
use Rattle.meant.specs.Meant.{Meaning, Answers, whole_number, yes_or_no, decimal, text, datetime, binary, array, struct, other, Said, no_member, this_member, later_member, Answered, in_struct, no_struct}
use Rattle.demands_writing.proofs.Writing.{Words, form_derived, judged}
use Rattle.demands_lookups.specs.Asked.{looked, Has, Without, kind_in}
use Rattle.demands_lookups.specs.Handed.{Fit, NoText, card_no_struct, defaults_no_struct, neither, card_no_string, defaults_no_string, Lies}
use Rattle.demands_lookups.proofs.Lookups.{table_says}
use Rattle.demands_lookups.proofs.Refusals.{found_in, has_by, found_without, without_found, only_one, looks}

module _ (card defaults : Source) (key : List ℕ) where
  -- what each of the two has
  abbrev own : Held
  own = held_in (row_in card) card.rows card.text card.row key

  abbrev theirs : Held
  theirs = held_in (row_in defaults) defaults.rows defaults.text defaults.row key

  own_agrees : Agrees own (found_in card key) (look (row_in card) card.rows card.text card.row key)
  own_agrees = agrees (row_in card) card.text card.rows card.row key

  their_agrees : Agrees theirs (found_in defaults key) (look (row_in defaults) defaults.rows defaults.text defaults.row key)
  their_agrees = agrees (row_in defaults) defaults.text defaults.rows defaults.row key

  -- a text is chosen only if both are fit, and then as one is preferred to the other
  fit : {c : Choice} → Given c → chosen card defaults key ≡ c → Fit card × Fit defaults × (preferred own theirs ≡ c)
  unfolding chosen structs_then
  fit i e =
      let h =
      past_refusals (is_writable card) (is_writable defaults) (is_struct (row_in card) card.rows card.row) (is_struct (row_in defaults) defaults.rows defaults.row) (preferred own theirs) i e in
      (record { writes = h.0; structs = h.2 }, record { writes = h.1; structs = h.3 }, h.4)

  fit_chosen : Fit card → Fit defaults → chosen card defaults key ≡ preferred own theirs
  unfolding chosen structs_then
  fit_chosen f g = rw (f.writes, g.writes, f.structs, g.structs)

  module _ {o n : ℕ} where
    -- THE CARD'S. The text is the card's exactly if both are fit and E5's lookup in the card answers with that text.
    pub card_text : (chosen card defaults key ≡ text_of Card o n) ↔ (Fit card × Fit defaults × (looked card key ≡ Ok (answer.Text o n)))
    card_text = (
      λ e. let h = fit a_choice e in (h.0, h.1, looks card key h.0.writes ∙ card_by theirs own_agrees h.2),
      λ (f, g, e). fit_chosen f g ∙ card_of theirs own_agrees (sym (looks card key f.writes) ∙ e),
    )

    -- THE DEFAULTS'. It is the defaults' exactly if both are fit, the card's Struct lacks the key, and E5's lookup in the defaults answers with it.
    pub defaults_text :
        Words card.table → (chosen card defaults key ≡ text_of Defaults o n) ↔ (Fit card × Fit defaults × Without card key × (looked defaults key ≡ Ok (answer.Text o n)))
    defaults_text w = (
      λ e.
          let h = fit a_choice e in
          let i = defaults_by own_agrees their_agrees h.2 in
          (h.0, h.1, found_without card h.0.writes w key i.0, looks defaults key h.1.writes ∙ i.1),
      λ (f, g, i, e). fit_chosen f g ∙ defaults_of own_agrees their_agrees (without_found card key i) (sym (looks defaults key g.writes) ∙ e),
    )

-- THE DEFAULTS NEVER CHANGE what a card that has the key gives, be it a text or a refusal, whatever they hold, as long as they are fit.
pub defaults_change_nothing :
    (card : Source) (key : List ℕ) {m : Member} → Has card key m → is_writable card ≡ true → Words card.table → (d d' : Source) → Fit d → Fit d'
    → chosen card d key ≡ chosen card d' key
unfolding chosen structs_then
defaults_change_nothing card key {m} has e w d d' f f' =
    let there : found_in card key ≡ None → ⊥ = λ i. found_without card e w key i m has in
    rw (f.writes, f'.writes, f.structs, f'.structs, unchanged (theirs card d key) (theirs card d' key) (own_agrees card d key) there)

-- INSIDE. A text that is handed out lies wholly in the bytes of the one that it is of.
value_inside : {s : List ℕ} {r o n : ℕ} {cs : List Cell} {a : Answer} → Answers s r cs a → a ≡ Ok (answer.Text o n) → o + n ≤ length s
value_inside whole_number e = let z : ◌≡◌ {A = ℕ} 0 1 = cc in absurd (omega arith)
value_inside yes_or_no e = let z : ◌≡◌ {A = ℕ} 0 1 = cc in absurd (omega arith)
value_inside (decimal {t = t}) e = absurd (decimal_other (decimal_of t) e)
value_inside {o = o} {n = n} (text {o = p} {n = q} h i) e = let u : p ≡ o = cc in let v : q ≡ n = cc in omega (arith, h)
value_inside datetime e = let z : ◌≡◌ {A = ℕ} 0 1 = cc in absurd (omega arith)
value_inside binary e = let z : ◌≡◌ {A = ℕ} 0 1 = cc in absurd (omega arith)
value_inside array e = let z : ◌≡◌ {A = ℕ} 0 1 = cc in absurd (omega arith)
value_inside struct e = let z : ◌≡◌ {A = ℕ} 0 1 = cc in absurd (omega arith)
value_inside other e = let z : ◌≡◌ {A = ℕ} 0 1 = cc in absurd (omega arith)

said_inside : {s key : List ℕ} {r o n : ℕ} {ms : List Meaning} {a : Answer} → Said s key r ms a → a ≡ Ok (answer.Text o n) → o + n ≤ length s
said_inside no_member e = let z : ◌≡◌ {A = ℕ} 0 1 = cc in absurd (omega arith)
said_inside (this_member k h) e = value_inside h e
said_inside (later_member k h) e = said_inside h e

answered_inside : {s key : List ℕ} {cells : List Cell} {r o n : ℕ} {a : Answer} → Answered s cells r key a → a ≡ Ok (answer.Text o n) → o + n ≤ length s
answered_inside (in_struct st h) e = said_inside h e
answered_inside (no_struct h i) e = let z : ◌≡◌ {A = ℕ} 0 1 = cc in absurd (omega arith)

looked_inside : (c : Source) (key : List ℕ) {o n : ℕ} → Words c.table → is_writable c ≡ true → looked c key ≡ Ok (answer.Text o n) → o + n ≤ length c.text
looked_inside c key w e i =
    answered_inside (table_says c.table c.rows c.text e (form_derived 32 c.table c.rows c.text (sym (judged c.table c.rows c.text) ∙ e) w) c.row key) i

-- WHERE IT LIES. What is handed out is that part of that slice, not only bytes like it; refused, it is the empty start of the card's bytes, and the answer
-- names the card.
module _ (card defaults : Source) (key : List ℕ) {s d r : Bor (List ℕ)} {number from : ℕ} (h : Handed s d (chosen card defaults key) r number from) where
  pub card_part :
      Words card.table → s.now ≡ card.text → {o n : ℕ} → chosen card defaults key ≡ text_of Card o n → Lies s o n r × (number ≡ 0) × (from ≡ 0)
  card_part w t {o} {n} e =
      let f = (card_text card defaults key).0 e in
      let i : o + n ≤ length s.now = rw t (looked_inside card key w f.0.writes f.2) in
      let m : min o (length s.now) ≡ o = omega arith in
      let g : Handed s d (text_of Card o n) r number from = rw e at h in
      (record { inside = i; bytes = g.gives.bytes; first = g.gives.lies ∙ ap (byte_of s) m }, g.says, g.names)

  pub defaults_part :
      Words card.table → Words defaults.table → d.now ≡ defaults.text → {o n : ℕ} → chosen card defaults key ≡ text_of Defaults o n
      → Lies d o n r × (number ≡ 0) × (from ≡ 1)
  defaults_part w w' t {o} {n} e =
      let f = (defaults_text card defaults key w).0 e in
      let i : o + n ≤ length d.now = rw t (looked_inside defaults key w' f.1.writes f.3) in
      let m : min o (length d.now) ≡ o = omega arith in
      let g : Handed s d (text_of Defaults o n) r number from = rw e at h in
      (record { inside = i; bytes = g.gives.bytes; first = g.gives.lies ∙ ap (byte_of d) m }, g.says, g.names)

  pub refused_part : (number ≡ 0 → ⊥) → (r.now ≡ []) × (r.ref_ptr ≡ byte_of s 0) × (from ≡ 0)
  refused_part n = go (chosen card defaults key) h
    where
      go : (c : Choice) → Handed s d c r number from → (r.now ≡ []) × (r.ref_ptr ≡ byte_of s 0) × (from ≡ 0)
      go (Ok part) g = absurd (n g.says)
      go (Err why) g =
          let m : min 0 (length s.now) ≡ 0 = omega arith in
          (g.gives.bytes, g.gives.lies ∙ ap (byte_of s) m, g.names)

-- ---- the numbers

-- what a Struct has under a key, by its member with the key
data HeldIs (c : Source) (key : List ℕ) : Held → Type 0 where
  lacks : Without c key → HeldIs c key held.Absent
  no_string : (m : Member) → Has c key m → (kind_in c m ≡ 11 → ⊥) → HeldIs c key held.NoText
  a_string : {o n : ℕ} (m : Member) → Has c key m → kind_in c m ≡ 11 → HeldIs c key (held.Text o n)

held_is : (c : Source) (key : List ℕ) → is_writable c ≡ true → Words c.table → HeldIs c key (held_in (row_in c) c.rows c.text c.row key)
unfolding held_in numbered_text
held_is c key e w = go (found_in c key) refl
  where
    kind : (m : Member) → Has c key m → (b : Bool) → eqb (kind_in c m) 11 ≡ b
        → HeldIs c key (cond b (held.Text (row_in c m.value).a (row_in c m.value).b) held.NoText)
    kind m h true i = a_string m h (eqb-true (kind_in c m) 11 i)
    kind m h false i = no_string m h (eqb-false (kind_in c m) 11 i)

    go : (f : Option Member) → found_in c key ≡ f → HeldIs c key (found_text (row_in c) f)
    go (Some m) i = kind m (has_by c key i) (eqb (kind_in c m) 11) refl
    go None i = lacks (found_without c e w key i)

module _ (card defaults : Source) (key : List ℕ) (w : Words card.table) (w' : Words defaults.table) where
  -- the number, and why
  data Numbered (n : ℕ) : Type 0 where
    unwritable : n ≡ 11 → (is_writable card && is_writable defaults) ≡ false → Numbered n
    no_text : n ≡ 18 → is_writable card ≡ true → is_writable defaults ≡ true → NoText card defaults key → Numbered n
    a_text : n ≡ 0 → is_writable card ≡ true → is_writable defaults ≡ true → (NoText card defaults key → ⊥) → Numbered n

  numbered : Numbered (choice_number (chosen card defaults key))
  unfolding chosen structs_then
  numbered = writable (is_writable card) refl (is_writable defaults) refl
    where
      -- both are fit: the member found is a String, so there is a text
      some :
          is_writable card ≡ true → is_writable defaults ≡ true → is_struct (row_in card) card.rows card.row ≡ true
          → is_struct (row_in defaults) defaults.rows defaults.row ≡ true
          → {x y : Held} → HeldIs card key x → HeldIs defaults key y → Numbered (choice_number (preferred x y))
      some e f i j (lacks n) (lacks k) = no_text refl e f (neither n k)
      some e f i j (lacks n) (no_string m h k) = no_text refl e f (defaults_no_string n m h k)
      some e f i j (lacks n) (a_string m h k) = a_text refl e f no
        where
          no : NoText card defaults key → ⊥
          no (card_no_struct a) = clash i a
          no (defaults_no_struct a) = clash j a
          no (neither a b) = b m h
          no (card_no_string o a b) = n o a
          no (defaults_no_string a o b l) = l (ap (kind_in defaults) (only_one defaults f w' key b h) ∙ k)
      some e f i j (no_string m h k) y = no_text refl e f (card_no_string m h k)
      some e f i j (a_string m h k) y = a_text refl e f no
        where
          no : NoText card defaults key → ⊥
          no (card_no_struct a) = clash i a
          no (defaults_no_struct a) = clash j a
          no (neither a b) = a m h
          no (card_no_string o a b) = b (ap (kind_in card) (only_one card e w key a h) ∙ k)
          no (defaults_no_string a o b l) = a m h

      structs :
          is_writable card ≡ true → is_writable defaults ≡ true → (b : Bool) → is_struct (row_in card) card.rows card.row ≡ b
          → (d : Bool) → is_struct (row_in defaults) defaults.rows defaults.row ≡ d
          → Numbered (choice_number (unless b NoMember (unless d NoMember (preferred (own card defaults key) (theirs card defaults key)))))
      structs e f false i d j = no_text refl e f (card_no_struct i)
      structs e f true i false j = no_text refl e f (defaults_no_struct j)
      structs e f true i true j = some e f i j (held_is card key e w) (held_is defaults key f w')

      writable :
          (a : Bool) → is_writable card ≡ a → (b : Bool) → is_writable defaults ≡ b → Numbered (choice_number (chosen card defaults key))
      writable false e b f = rw e (unwritable refl (rw e))
      writable true e false f = rw (e, f) (unwritable refl (rw (e, f)))
      writable true e true f =
          rw (e, f)
          (structs e f (is_struct (row_in card) card.rows card.row) refl (is_struct (row_in defaults) defaults.rows defaults.row) refl)

  -- 11 exactly if the card's table or the defaults' is not writable
  pub eleven : (choice_number (chosen card defaults key) ≡ 11) ↔ ((is_writable card && is_writable defaults) ≡ false)
  eleven = (λ h. to h numbered, λ h. from h numbered)
    where
      to : {n : ℕ} → n ≡ 11 → Numbered n → (is_writable card && is_writable defaults) ≡ false
      to h (unwritable z e) = e
      to h (no_text z e f n) = absurd (omega arith)
      to h (a_text z e f n) = absurd (omega arith)

      from : {n : ℕ} → (is_writable card && is_writable defaults) ≡ false → Numbered n → n ≡ 11
      from h (unwritable z e) = z
      from h (no_text z e f n) = clash (rw (e, f)) h
      from h (a_text z e f n) = clash (rw (e, f)) h

  -- 18 exactly if both are writable, and a row is no Struct's, neither has the key, or the member found is no String
  pub eighteen : (choice_number (chosen card defaults key) ≡ 18) ↔ ((is_writable card ≡ true) × (is_writable defaults ≡ true) × NoText card defaults key)
  eighteen = (λ h. to h numbered, λ (e, f, n). from e f n numbered)
    where
      to : {n : ℕ} → n ≡ 18 → Numbered n → (is_writable card ≡ true) × (is_writable defaults ≡ true) × NoText card defaults key
      to h (unwritable z e) = absurd (omega arith)
      to h (no_text z e f n) = (e, f, n)
      to h (a_text z e f n) = absurd (omega arith)

      from : {n : ℕ} → is_writable card ≡ true → is_writable defaults ≡ true → NoText card defaults key → Numbered n → n ≡ 18
      from e f n (unwritable z h) = clash (rw (e, f)) h
      from e f n (no_text z g h i) = z
      from e f n (a_text z g h i) = absurd (i n)
