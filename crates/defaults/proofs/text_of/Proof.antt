use Rattle.defaults.proofs.Judging.{handed}
use borrow.Author.Rules.{rules}
use Rattle.defaults.proofs.text_of.Statement.{statement}
use Rattle.defaults.proofs.text_of.Tie as tie

pub text_of_spec : {M : Type 1} → statement M
text_of_spec = tie.close (tie.spec
    (λ c κs. search rules)  -- choose-requires
    (λ c κs. search rules)  -- hand-requires
    (λ c. search (handed)))  -- returns
