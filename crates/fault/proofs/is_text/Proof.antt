use Rattle.fault.proofs.Judging.{judging}
use borrow.Author.Rules.{rules}
use Rattle.fault.proofs.is_text.Statement.{statement}
use Rattle.fault.proofs.is_text.Tie as tie

pub is_text_spec : {M : Type 1} → statement M
is_text_spec = tie.close (tie.spec
    (λ c κs. search rules)  -- get-row-requires
    (λ c. search rules)  -- cast-part
    (λ c. search rules)  -- cast-part-2
    (λ c κs. search rules)  -- part-requires
    (λ c κs. search rules)  -- equal-requires
    (λ c. search judging)  -- returns
    (λ c. search judging))  -- returns-2
