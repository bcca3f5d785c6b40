use Rattle.message.proofs.Writing.{rowwise}
use borrow.Author.Rules.{rules}
use Rattle.message.proofs.next_string.Statement.{statement}
use Rattle.message.proofs.next_string.Tie as tie

pub next_string_spec : {M : Type 1} → statement M
next_string_spec = tie.close (tie.spec
    (λ c. search rules)  -- add-result
    (λ c. search rowwise)  -- returns
    (λ c. search rowwise))  -- returns-2
