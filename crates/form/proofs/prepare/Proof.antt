use Rattle.sending.proofs.Collecting.{strings_there}
use Rattle.form.proofs.Preparing.{preparing}
use borrow.Author.Rules.{rules}
use Rattle.form.proofs.prepare.Statement.{statement}
use Rattle.form.proofs.prepare.Tie as tie

settle_requires : tie.Need-settle-requires
settle_requires c κs = (search strings_there, search rules, search rules, search rules, search rules, search rules, search rules)

pub prepare_spec : {M : Type 1} → statement M
prepare_spec = tie.close (tie.spec
    (λ c κs. search rules)  -- collect-requires
    settle_requires
    (λ c. search rules)  -- same-length
    (λ c. search rules)  -- same-length-2
    (λ c. search rules)  -- same-length-3
    (λ c. search rules)  -- same-length-4
    (λ c. search preparing))  -- returns
