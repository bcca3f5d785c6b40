use Rattle.plan_writer.proofs.Answering.{fills_form, fills_plan}
use borrow.Author.Rules.{rules}
use Rattle.plan_writer.proofs.fill_shorter.Statement.{statement}
use Rattle.plan_writer.proofs.fill_shorter.Tie as tie

pub fill_shorter_spec : {M : Type 1} → statement M
fill_shorter_spec = tie.close (tie.spec
    (λ c κs. search rules)  -- measure-requires
    (λ c κs. search rules)  -- fill-requires
    (λ c. search rules)  -- same-length
    (λ c. search fills_form)  -- returns
    (λ c κs. search rules)  -- fill-requires-2
    (λ c. search rules)  -- same-length-2
    (λ c. search fills_plan))  -- returns-2
