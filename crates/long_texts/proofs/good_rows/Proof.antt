use Rattle.passages.proofs.Passing.{blank_notes}
use borrow.Author.Rules.{rules}
use Rattle.long_texts.proofs.good_rows.Statement.{statement}
use Rattle.long_texts.proofs.good_rows.Tie as tie

pub good_rows_spec : {M : Type 1} → statement M
good_rows_spec = tie.close (tie.spec
    (λ c. search rules)  -- slice-aggregate-notes
    (λ c κs. (search rules, blank_notes (search rules) (search rules)))  -- count-good-requires
    (λ c. search rules))  -- returns
