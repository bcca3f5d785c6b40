use Rattle.prices.proofs.Pricing.{picking}
use borrow.Author.Rules.{rules}
use Rattle.prices.proofs.left_of.Statement.{statement}
use Rattle.prices.proofs.left_of.Tie as tie

pub left_of_spec : {M : Type 1} → statement M
left_of_spec = tie.close (tie.spec
    (λ c. search rules)  -- add-if1
    (λ c. search picking)  -- returns
    (λ c. search picking))  -- returns-2
