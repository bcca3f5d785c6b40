use Rattle.reader.proofs.Messages.{whole}
use borrow.Author.Rules.{rules}
use Rattle.reader.proofs.read_within.Statement.{statement}
use Rattle.reader.proofs.read_within.Tie as tie

pub read_within_spec : {M : Type 1} → statement M
read_within_spec = tie.close (tie.spec
    (λ c. search whole)  -- returns
    (λ c κs. search rules)  -- agrees-requires
    (λ c. search whole)  -- returns-2
    (λ c κs. search whole)  -- read-body-requires
    (λ c. search rules)  -- same-length
    (λ c. search whole)  -- returns-3
    (λ c. search whole))  -- returns-4
