use Rattle.form.proofs.Preparing.{preparing}
use borrow.Author.Rules.{rules}
use Rattle.form.proofs.fill_prepared.Statement.{statement}
use Rattle.form.proofs.fill_prepared.Tie as tie

pub fill_prepared_spec : {M : Type 1} → statement M
fill_prepared_spec = tie.close (tie.spec
    (λ c κs. (search rules, search preparing))  -- fill-known-requires
    (λ c. search rules)  -- same-length
    (λ c. search rules)  -- returns
    (λ c κs. search rules)  -- clear-requires
    (λ c. search rules)  -- same-length-2
    (λ c. search preparing))  -- returns-2
