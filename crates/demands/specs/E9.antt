-- E9: JOB DEFAULTS BEHIND THE CARD (document 02), over what `defaults::choose` and `defaults::text_of` promise, neither with a `requires`. The card and the
-- defaults are sources: a table with its stated rows, its text bytes and the row named. `chosen card defaults key` is whose text it is and where it lies,
-- or why there is none; `choice_number` its number, 0 or the refusal's. `Handed s d (chosen ..) r number from` is what `text_of` promises, of the lent
-- slices s and d with the two texts' bytes, the part r, and the two numbers that it sets. A table is words of 32 bits. That the fields hold is proofs/E9.
-- Assumes nothing.
use Rattle.std.specs.Prelude.{◌≡◌, true, false, ◌&&◌, ◌↔◌, List, [], ℕ, Ok}
use Rattle.std.specs.Borrow.{Bor}
use Rattle.draft.specs.Bytes.{Below}
use Rattle.member.specs.declared.Member.{Member}
use Rattle.lookup_answer.specs.declared.Value.TheVariants.{Text}
use Rattle.choice.specs.declared.Source.TheVariants.{Card, Defaults}
use Rattle.choice.specs.Choosing.{text_of, byte_of, choice_number, Handed}
use Rattle.lookup_reports.specs.Numbers.{text_report, text_report_of}
use Rattle.defaults.specs.Defaults.{Source, is_writable, chosen}
use Rattle.demands_lookups.specs.Asked.{looked, Has, Without}
use Rattle.demands_lookups.specs.Handed.{Fit, NoText, Lies}

pub record E9 : Type 0 where
  -- 'A job has a defaults message, and a text asked for by key is the card's if the card's Struct has the key, otherwise the defaults'.' A text is one that
  -- E5's lookup answers with; where the card has the key, the defaults change nothing, be it a text or a refusal.
  pub card_text :
      (card defaults : Source) (key : List ℕ) (o n : ℕ)
      → (chosen card defaults key ≡ text_of Card o n) ↔ (Fit card × Fit defaults × (looked card key ≡ Ok (Text o n)))
  pub defaults_text :
      (card defaults : Source) (key : List ℕ) (o n : ℕ) → Below 4294967296 card.table
      → (chosen card defaults key ≡ text_of Defaults o n) ↔ (Fit card × Fit defaults × Without card key × (looked defaults key ≡ Ok (Text o n)))
  pub card_alone :
      (card : Source) (key : List ℕ) (m : Member) → Has card key m → is_writable card ≡ true → Below 4294967296 card.table → (d d' : Source) → Fit d → Fit d'
      → chosen card d key ≡ chosen card d' key
  -- 'What comes back is a part of the card's bytes or of the defaults' bytes, and which.' 0 names the card, 1 the defaults.
  pub card_part :
      (card defaults : Source) (key : List ℕ) (s d r : Bor (List ℕ)) (number from o n : ℕ) → Handed s d (chosen card defaults key) r number from
      → Below 4294967296 card.table → s.now ≡ card.text → chosen card defaults key ≡ text_of Card o n → Lies s o n r × (number ≡ 0) × (from ≡ 0)
  pub defaults_part :
      (card defaults : Source) (key : List ℕ) (s d r : Bor (List ℕ)) (number from o n : ℕ) → Handed s d (chosen card defaults key) r number from
      → Below 4294967296 card.table → Below 4294967296 defaults.table → d.now ≡ defaults.text → chosen card defaults key ≡ text_of Defaults o n
      → Lies d o n r × (number ≡ 0) × (from ≡ 1)
  -- The same of `binmode_default_text`, which reports `text_report_of (chosen ..)`: a number, which of the two, and the text's offset and length there.
  pub card_report_lem :
      (card defaults : Source) (key : List ℕ) (o n : ℕ) → chosen card defaults key ≡ text_of Card o n → text_report_of (chosen card defaults key) ≡ text_report 0 0 o n
  pub defaults_report :
      (card defaults : Source) (key : List ℕ) (o n : ℕ) → chosen card defaults key ≡ text_of Defaults o n
      → text_report_of (chosen card defaults key) ≡ text_report 0 1 o n
  -- 'Both Structs are named by their rows.' The row of each source.

  -- 'Refusals: 11 for the card, then for the defaults;'
  pub eleven :
      (card defaults : Source) (key : List ℕ) → Below 4294967296 card.table → Below 4294967296 defaults.table
      → (choice_number (chosen card defaults key) ≡ 11) ↔ ((is_writable card && is_writable defaults) ≡ false)
  -- '18 if either row is no Struct, if neither has the key, or if the one found is no String.'
  pub eighteen :
      (card defaults : Source) (key : List ℕ) → Below 4294967296 card.table → Below 4294967296 defaults.table
      → (choice_number (chosen card defaults key) ≡ 18) ↔ ((is_writable card ≡ true) × (is_writable defaults ≡ true) × NoText card defaults key)
  -- `text_of` tells that number.
  pub number_told_lem :
      (card defaults : Source) (key : List ℕ) (s d r : Bor (List ℕ)) (number from : ℕ) → Handed s d (chosen card defaults key) r number from
      → number ≡ choice_number (chosen card defaults key)
  -- 'Refused, the part is the empty start of the card's bytes, and the answer names the card.'
  pub refused_part :
      (card defaults : Source) (key : List ℕ) (s d r : Bor (List ℕ)) (number from : ℕ) → Handed s d (chosen card defaults key) r number from
      → (number ≡ 0 → ⊥) → (r.now ≡ []) × (r.ref_ptr ≡ byte_of s 0) × (from ≡ 0)
  pub refused_report :
      (card defaults : Source) (key : List ℕ) → (choice_number (chosen card defaults key) ≡ 0 → ⊥)
      → text_report_of (chosen card defaults key) ≡ text_report (choice_number (chosen card defaults key)) 0 0 0
