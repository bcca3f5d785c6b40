use Rattle.spread.proofs.Mixing.{mixing}
use borrow.Author.Rules.{rules}
use Rattle.spread.proofs.fold.Statement.{statement}
use Rattle.spread.proofs.fold.Tie as tie

pub fold_spec : {M : Type 1} → statement M
fold_spec = tie.close (tie.spec
    (λ c. search rules)  -- add-p
    (λ c. search rules)  -- mul-p
    (λ c. search rules)  -- add-result
    (λ c. (search mixing, search mixing)))  -- returns
