use Rattle.want.proofs.Wanting.{wanting}
use borrow.Author.Rules.{rules}
use Rattle.want.proofs.long_end.Statement.{statement}
use Rattle.want.proofs.long_end.Tie as tie

pub long_end_spec : {M : Type 1} → statement M
long_end_spec = tie.close (tie.spec
    (λ c. search rules)  -- add-fields
    (λ c. search rules)  -- add-fields-2
    (λ c. search wanting)  -- returns
    (λ c. search rules)  -- add-unsigned
    (λ c κs. search rules)  -- unsigned-requires
    (λ c. search rules)  -- add-result
    (λ c. search wanting))  -- returns-2
