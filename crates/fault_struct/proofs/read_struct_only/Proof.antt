use Rattle.fault_struct.proofs.Faults.{structs}
use borrow.Author.Rules.{rules}
use Rattle.fault_struct.proofs.read_struct_only.Statement.{statement}
use Rattle.fault_struct.proofs.read_struct_only.Tie as tie

pub read_struct_only_spec : {M : Type 1} → statement M
read_struct_only_spec = tie.close (tie.spec
    (λ c κs. search rules)  -- refuse-requires
    (λ c. search structs)  -- returns
    (λ c. search rules)  -- shared-slice-read-if2
    (λ c κs. search structs)  -- read-value-requires
    (λ c κs. search rules)  -- refuse-requires-2
    (λ c. search rules)  -- same-length
    (λ c. search rules)  -- same-length-2
    (λ c. search rules)  -- same-length-3
    (λ c. search structs)  -- returns-2
    (λ c. search structs))  -- returns-3
