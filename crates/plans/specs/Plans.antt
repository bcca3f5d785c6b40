-- Document 02's plans: two bytes for each string in row order, form and position. How a plan sends texts, and which plans are taken.
-- Assumes nothing.
use Rattle.std.specs.Prelude.{ℕ, zero, suc, ◌+◌, ◌*◌, Bool, true, false, ◌&&◌, ◌||◌, List, [], ◌∷◌, length, get_or, eqb, ltb, leb}
use Rattle.std.proofs.Math.Option.{Option, some, none}
use Rattle.text.specs.Texts.{same}
use Rattle.draft.specs.declared.Row.{Row}
use Rattle.draft.specs.Grammar.{Sent, regular, recorded, recalled, Recording, look, after}
use Rattle.draft.specs.Strings.{Text, texts_of}
use Rattle.draft.specs.Written.{message_of}

-- the two bytes of string j
abbrev pub form_at : List ℕ → ℕ → ℕ
form_at plan j = get_or plan (j * 2) 0

abbrev pub position_at : List ℕ → ℕ → ℕ
position_at plan j = get_or plan (j * 2 + 1) 0

-- 'form (0 for `U`, 1 for `>`, 2 for `<`) and position'
abbrev pub sent_by : ℕ → ℕ → Text → Sent
sent_by zero p t = regular t
sent_by (suc zero) p t = recorded p t
sent_by (suc (suc form)) p t = recalled p t

-- string j, of the text t
unfoldable pub sent_at : List ℕ → ℕ → Text → Sent
sent_at plan j t = sent_by (form_at plan j) (position_at plan j) t

-- the strings from string j on, of these texts
unfoldable pub sents_from : List ℕ → ℕ → List Text → List Sent
sents_from plan j [] = []
sents_from plan j (t ∷ ts) = sent_at plan j t ∷ sents_from plan (suc j) ts

-- the plan's message
unfoldable pub planned : List ℕ → List Row → List ℕ → List ℕ
planned s rows plan = message_of s rows (sents_from plan 0 (texts_of s rows))

-- the values that a form and a position may have: a form of 0, 1 or 2, and the position 'is 0 with form 0'
unfoldable pub valued : ℕ → ℕ → Bool
valued form p = leb form 2 && (ltb 0 form || eqb p 0)

-- a position holds the text t
abbrev pub holds_text : Option Text → Text → Bool
holds_text none t = false
holds_text (some u) t = same u t

-- a string may be sent so, with these recordings
unfoldable pub may_send : List Recording → Sent → Bool
may_send R (regular t) = true
may_send R (recorded p t) = true
may_send R (recalled p t) = holds_text (look p R) t

-- from string j on, with these recordings, each string has those values and may be sent so
unfoldable pub taken_from : List ℕ → List Recording → ℕ → List Text → Bool
taken_from plan R j [] = true
taken_from plan R j (t ∷ ts) =
    valued (form_at plan j) (position_at plan j)
    && (may_send R (sent_at plan j t)
    && taken_from plan (after R (sent_at plan j t ∷ [])) (suc j) ts)

-- a plan that is taken for these texts: 'two bytes per string', those values, and each recalled text is the one that its position holds.
-- That these are the plans whose message reads with the table's meaning is proved (demands, Plans)
unfoldable pub taken : List ℕ → List Text → Bool
taken plan ts = eqb (length plan) (length ts * 2) && taken_from plan [] 0 ts
