use Rattle.spread.proofs.Mixing.{mixing}
use borrow.Author.Rules.{rules}
use Rattle.spread.proofs.scale.Statement.{statement}
use Rattle.spread.proofs.scale.Tie as tie

pub scale_spec : {M : Type 1} → statement M
scale_spec = tie.close (tie.spec
    (λ c. search rules)  -- mul-result
    (λ c. search rules)  -- add-result
    (λ c. search mixing)  -- mul-result-2
    (λ c. (search mixing, search mixing)))  -- returns
