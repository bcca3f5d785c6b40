-- What reading a glyph message for a station gives: on the share's words W what the call without stations gives for a table as large, or 22; and what
-- writing a share gives. Assumes nothing.
use Rattle.std.specs.Prelude.{◌≡◌, Result, Ok, Err, List, ℕ, length}
use Rattle.shares.specs.declared.Station.{Station}
use Rattle.shares.specs.declared.NotSplit.{NotSplit}
use Rattle.shares.specs.Share.{no_share, on_share, table_on}
use Rattle.glyph.specs.declared.Edition.{Edition}
use Rattle.glyph.specs.Answers.{Answer, reading, answer_of, table_of}
use Rattle.glyph_form.specs.Form.{form_of}
use Rattle.glyph_form.specs.Answers as writer
use Rattle.glyph_form.specs.Answers.{output_of}

-- what is answered: as for a whole table, or 22
abbrev pub StationAnswer : Type 0
StationAnswer = Result Answer NotSplit

unfoldable pub read_answer : Edition → ℕ → List ℕ → List ℕ → StationAnswer
read_answer e limit s W = Ok (answer_of (reading e limit s (length W)))

unfoldable pub read_words : Edition → ℕ → List ℕ → List ℕ → List ℕ
read_words e limit s W = table_of (length W) (reading e limit s (length W))

-- what a call did for a station with a message s, and a table T that is T' after it
pub record ReadFor (e : Edition) (limit : ℕ) (s : List ℕ) (station : Station) (split : ℕ) (T T' : List ℕ) (a : StationAnswer) : Type 0 where
  pub says : a ≡ on_share station split T (read_answer e limit s) (Err no_share)
  pub leaves : T' ≡ table_on station split T (read_words e limit s)

-- what writing a share answers, likewise
abbrev pub WriteAnswer : Type 0
WriteAnswer = Result writer.Answer NotSplit

-- written in an edition, with a limit of nesting, so many stated rows, the text bytes s and an output of so many bytes
unfoldable pub write_answer : Edition → ℕ → ℕ → List ℕ → ℕ → List ℕ → WriteAnswer
write_answer e limit rows s room W = Ok (writer.answer_of e limit W rows s room)

unfoldable pub written_bytes : Edition → ℕ → ℕ → List ℕ → ℕ → List ℕ → List ℕ
written_bytes e limit rows s room W = output_of (writer.answer_of e limit W rows s room) (form_of e limit W s) room

pub record WroteFor (e : Edition) (limit : ℕ) (T : List ℕ) (station : Station) (split rows : ℕ) (s out out' : List ℕ) (a : WriteAnswer) : Type 0 where
  pub says : a ≡ on_share station split T (write_answer e limit rows s (length out)) (Err no_share)
  pub leaves : out' ≡ on_share station split T (written_bytes e limit rows s (length out)) out
