use Rattle.sending.proofs.Collecting.{strings_there}
use Rattle.certificate.proofs.Judging.{of_strings}
use borrow.Author.Rules.{rules}
use Rattle.certificate.proofs.judge_rows.Statement.{statement}
use Rattle.certificate.proofs.judge_rows.Tie as tie

pub judge_rows_spec : {M : Type 1} → statement M
judge_rows_spec = tie.close (tie.spec
    (λ c κs. search rules)  -- collect-requires
    (λ c κs. (search strings_there, search rules, search rules, search rules, search rules, search rules))  -- judge-strings-requires
    (λ c. search rules)  -- same-length
    (λ c. search rules)  -- same-length-2
    (λ c. search rules)  -- same-length-3
    (λ c. search rules)  -- same-length-4
    (λ c. search rules)  -- same-length-5
    (λ c. search of_strings))  -- returns
