use Rattle.reader.proofs.Messages.{whole}
use borrow.Author.Rules.{rules}
use Rattle.reader.proofs.read.Statement.{statement}
use Rattle.reader.proofs.read.Tie as tie

pub read_spec : {M : Type 1} → statement M
read_spec = tie.close (tie.spec
    (λ c κs. search rules)  -- clear-requires
    (λ c κs. search rules)  -- allowed-requires
    (λ c κs. (search whole, search whole))  -- read-within-requires
    (λ c. search rules)  -- same-length
    (λ c. search whole)  -- returns
    (λ c. search rules)  -- same-length-2
    (λ c. search whole))  -- returns-2
