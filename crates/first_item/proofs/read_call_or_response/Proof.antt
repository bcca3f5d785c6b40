use Rattle.first_item.proofs.First.{first}
use borrow.Author.Rules.{rules}
use Rattle.first_item.proofs.read_call_or_response.Statement.{statement}
use Rattle.first_item.proofs.read_call_or_response.Tie as tie

pub read_call_or_response_spec : {M : Type 1} → statement M
read_call_or_response_spec = tie.close (tie.spec
    (λ c κs. search rules)  -- refuse-requires
    (λ c. search first)  -- returns
    (λ c. search rules)  -- shared-slice-read-if2
    (λ c κs. search rules)  -- read-call-requires
    (λ c. search rules)  -- same-length
    (λ c. search rules)  -- same-length-2
    (λ c. search rules)  -- same-length-2b
    (λ c. search first)  -- returns-2
    (λ c. search rules)  -- shared-slice-read-if3
    (λ c κs. search rules)  -- read-response-requires
    (λ c. search rules)  -- same-length-3
    (λ c. search rules)  -- same-length-4
    (λ c. search rules)  -- same-length-4b
    (λ c. search first)  -- returns-3
    (λ c κs. search rules)  -- refuse-requires-2
    (λ c. search first))  -- returns-4
