use Rattle.item.proofs.Items.{strings}
use borrow.Author.Rules.{rules}
use Rattle.others.proofs.read_binary.Statement.{statement}
use Rattle.others.proofs.read_binary.Tie as tie

pub read_binary_spec : {M : Type 1} → statement M
read_binary_spec = tie.close (tie.spec
    (λ c κs. search rules)  -- refuse-requires
    (λ c. record { did = λ W. search strings })  -- returns
    (λ c. search rules)  -- shared-slice-read-if2
    (λ c κs. search rules)  -- read-long-requires
    (λ c κs. search rules)  -- refuse-requires-2
    (λ c. search rules)  -- same-length
    (λ c. record { did = λ W. search strings })  -- returns-2
    (λ c. record { did = λ W. search strings }))  -- returns-3
