use Rattle.certificate.proofs.Judging.{not_taken, plan_long, wrong_number, too_dear, proved}
use borrow.Author.Rules.{rules}
use Rattle.certificate.proofs.judge_strings.Statement.{statement}
use Rattle.certificate.proofs.judge_strings.Tie as tie

pub judge_strings_spec : {M : Type 1} → statement M
judge_strings_spec = tie.close (tie.spec
    (λ c κs. search rules)  -- taken-requires
    (λ c. search wrong_number)  -- returns
    (λ c κs. (search rules, search plan_long, search rules))  -- cost-requires
    (λ c. search too_dear)  -- returns-2
    (λ c κs. search rules)  -- bound-reaches-requires
    (λ c. search rules)  -- same-length
    (λ c. search rules)  -- same-length-2
    (λ c. search rules)  -- same-length-3
    (λ c. search rules)  -- same-length-4
    (λ c. search proved)  -- returns-3
    (λ c. search not_taken))  -- returns-4
