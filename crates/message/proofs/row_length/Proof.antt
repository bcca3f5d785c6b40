use Rattle.message.proofs.Writing.{rowwise}
use borrow.Author.Rules.{rules}
use Rattle.message.proofs.row_length.Statement.{statement}
use Rattle.message.proofs.row_length.Tie as tie

pub row_length_spec : {M : Type 1} → statement M
row_length_spec = tie.close (tie.spec
    (λ c κs. (search rowwise, search rowwise, search rules))  -- string-length-requires
    (λ c. search rowwise)  -- returns
    (λ c κs. search rules)  -- item-length-requires
    (λ c. search rowwise))  -- returns-2
