use Rattle.message.proofs.Writing.{whole}
use borrow.Author.Rules.{rules}
use Rattle.message.proofs.put_message.Statement.{statement}
use Rattle.message.proofs.put_message.Tie as tie

pub put_message_spec : {M : Type 1} → statement M
put_message_spec = tie.close (tie.spec
    (λ c. search whole)  -- returns-then-most-lt12
    (λ c κs. search rules)  -- put_bytes-requires
    (λ c κs. (search rules, search rules, search whole, search rules))  -- put_items-requires
    (λ c. search rules)  -- shape_of-output
    (λ c. search whole))  -- returns
