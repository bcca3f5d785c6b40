-- What reading the root did, as against its definition. Assumes nothing.
use Rattle.std.specs.Prelude.{◌≡◌, Ok, List, ℕ, length}
use Rattle.glyph.specs.declared.Edition.{Edition}
use Rattle.glyph.specs.declared.Want.TheVariants.{Any}
use Rattle.glyph.specs.Numbers.{past}
use Rattle.glyph.specs.declared.Accepted.{Accepted}
use Rattle.glyph.specs.Read.{Reading, object}
use Rattle.glyph.specs.Answers.{Answer, answer_of, table_of}
use Rattle.glyph_item.specs.Contract.{Step, Did}

-- the object that stands behind the first blanks
pub record RootDid (s : List ℕ) (room : ℕ) (e : Edition) (limit : ℕ) (T T' : List ℕ) (step : Step) : Type 0 where
  pub from : ℕ
  pub did : Did (object s room e limit Any (past s 0) 0) (length s) room from 0 T T' step

-- what a call did that was to give this reading into a table of so many words: its rows are there only if it was accepted
pub record BodyDid (o : Reading) (words : ℕ) (T' : List ℕ) (answer : Answer) : Type 0 where
  pub says : answer ≡ answer_of o
  pub leaves : (x : Accepted) → answer ≡ Ok x → T' ≡ table_of words o
