use Rattle.spelling.proofs.Putting.{bytes}
use borrow.Author.Rules.{rules}
use Rattle.spelling.proofs.put_byte.Statement.{statement}
use Rattle.spelling.proofs.put_byte.Tie as tie

pub put_byte_spec : {M : Type 1} → statement M
put_byte_spec = tie.close (tie.spec
    (λ c. search rules)  -- slice-write-line
    (λ c. search rules)  -- add-result
    (λ c. search rules)  -- same-length
    (λ c. search bytes)  -- returns
    (λ c. search bytes))  -- returns-2
