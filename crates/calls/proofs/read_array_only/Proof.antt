use Rattle.calls.proofs.Calling.{calling}
use borrow.Author.Rules.{rules}
use Rattle.calls.proofs.read_array_only.Statement.{statement}
use Rattle.calls.proofs.read_array_only.Tie as tie

pub read_array_only_spec : {M : Type 1} → statement M
read_array_only_spec = tie.close (tie.spec
    (λ c κs. search rules)  -- refuse-requires
    (λ c. search calling)  -- returns
    (λ c. search rules)  -- shared-slice-read-if2
    (λ c κs. (search rules, search rules, search calling))  -- read-array-requires
    (λ c κs. search rules)  -- refuse-requires-2
    (λ c. search rules)  -- same-length
    (λ c. search rules)  -- same-length-2
    (λ c. search rules)  -- same-length-3
    (λ c. search calling)  -- returns-2
    (λ c. search calling))  -- returns-3
