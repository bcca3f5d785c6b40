use Rattle.want.proofs.Wanting.{wanting}
use borrow.Author.Rules.{rules}
use Rattle.want.proofs.short_end.Statement.{statement}
use Rattle.want.proofs.short_end.Tie as tie

pub short_end_spec : {M : Type 1} → statement M
short_end_spec = tie.close (tie.spec
    (λ c. search rules)  -- add-if1
    (λ c. search rules)  -- add-result
    (λ c. search wanting)  -- returns
    (λ c. search rules)  -- add-result-2
    (λ c. search rules)  -- add-wide
    (λ c. search rules)  -- shared-slice-read-wide
    (λ c κs. search rules)  -- wide-requires
    (λ c. search rules)  -- add-result-3
    (λ c. search wanting))  -- returns-2
