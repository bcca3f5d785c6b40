-- `text_check::is_utf8` meets its contract: bytes below 128 are characters, so what comes after them decides. Assumes nothing.
use Rattle.text.proofs.Passing.{running}
use borrow.Author.Rules.{rules}
use Rattle.text_check.proofs.is_utf8.Statement.{statement}
use Rattle.text_check.proofs.is_utf8.Tie as tie

pub is_utf8_spec : {M : Type 1} → statement M
is_utf8_spec = tie.close (tie.spec
    (λ c κs. search rules)  -- past-front-requires
    (λ c κs. search running)  -- walk-from-requires
    (λ c. search rules)  -- returns
    (λ c. search running))  -- returns-2
