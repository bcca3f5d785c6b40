-- What a station's call on a glyph message does with its share: what the call without stations does. Assumes nothing.
use Rattle.std.specs.Prelude.{◌≡◌, Ok, Err, List, ℕ}
use Rattle.glyph.specs.declared.Edition.{Edition}
use Rattle.glyph.specs.Answers.{Answer, reading, Answers}
use Rattle.glyph_form.specs.Answers as written
use Rattle.glyph_form.specs.Answers.{Did}
use Rattle.glyph_demands.specs.Answered.{Lasting}
use Rattle.glyph_stations.specs.Answers.{StationAnswer, WriteAnswer}

-- `glyph_reader::read` of a message s into n words, which are W' after it
pub record OwnRead (e : Edition) (limit : ℕ) (s : List ℕ) (n : ℕ) (W' : List ℕ) (a : StationAnswer) : Type 0 where
  pub own : Answer
  pub is : a ≡ Ok own
  pub did : Answers (reading e limit s n) n W' own

-- `glyph_writer::write` of so many rows of the words W, whose texts lie in s
pub record OwnWrite (e : Edition) (limit : ℕ) (W : List ℕ) (rows : ℕ) (s out out' : List ℕ) (a : WriteAnswer) : Type 0 where
  pub own : written.Answer
  pub is : a ≡ Ok own
  pub did : Did e limit W rows s out out' own

-- an answer other than 8, 9, 22 and 23 (02, E11)
abbrev pub LastingFor : StationAnswer → Type 0
LastingFor (Ok a) = Lasting a
LastingFor (Err e) = ⊥
