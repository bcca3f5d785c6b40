use Rattle.spelling.proofs.Putting.{puts_four}
use borrow.Author.Rules.{rules}
use Rattle.lines.proofs.put_row.Statement.{statement}
use Rattle.lines.proofs.put_row.Tie as tie

pub put_row_spec : {M : Type 1} → statement M
put_row_spec = tie.close (tie.spec
    (λ c κs. search rules)  -- put-digits-requires
    (λ c κs. search rules)  -- put-words-requires
    (λ c κs. search rules)  -- put-words-requires-2
    (λ c κs. search rules)  -- put-byte-requires
    (λ c. search rules)  -- same-length
    (λ c. search puts_four))  -- returns
