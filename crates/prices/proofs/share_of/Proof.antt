use Rattle.prices.proofs.Pricing.{picking}
use borrow.Author.Rules.{rules}
use Rattle.prices.proofs.share_of.Statement.{statement}
use Rattle.prices.proofs.share_of.Tie as tie

pub share_of_spec : {M : Type 1} → statement M
share_of_spec = tie.close (tie.spec
    (λ c. search rules)  -- add-if1
    (λ c. search rules)  -- add-result
    (λ c. search rules)  -- add-result-2
    (λ c. search picking)  -- returns
    (λ c. search picking))  -- returns-2
