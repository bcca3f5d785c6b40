use Rattle.fault.proofs.Judging.{judging}
use borrow.Author.Rules.{rules}
use Rattle.fault.proofs.is_message.Statement.{statement}
use Rattle.fault.proofs.is_message.Tie as tie

pub is_message_spec : {M : Type 1} → statement M
is_message_spec = tie.close (tie.spec
    (λ c κs. search rules)  -- is_text-requires
    (λ c. search rules)  -- overflow_add-r
    (λ c κs. search rules)  -- is_kind-requires
    (λ c. search judging))  -- returns
