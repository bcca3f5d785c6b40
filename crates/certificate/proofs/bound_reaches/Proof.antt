use Rattle.certificate.proofs.Judging.{firsts_known, few_strings, prices_fit, sum_fits, reaches, too_many}
use borrow.Author.Rules.{rules}
use Rattle.certificate.proofs.bound_reaches.Statement.{statement}
use Rattle.certificate.proofs.bound_reaches.Tie as tie

pub bound_reaches_spec : {M : Type 1} → statement M
bound_reaches_spec = tie.close (tie.spec
    (λ c κs. search rules)  -- scan-requires
    (λ c κs. (search rules, search rules, search rules, search rules, search rules, firsts_known c.scan.ensures c.if-scan.true))  -- price-requires
    (λ c. search (prices_fit, few_strings))  -- mul-result
    (λ c. search (sum_fits, few_strings))  -- add-result
    (λ c. search rules)  -- same-length
    (λ c. search rules)  -- same-length-2
    (λ c. search rules)  -- same-length-3
    (λ c. search rules)  -- same-length-4
    (λ c. search reaches)  -- returns
    (λ c. search rules)  -- same-length-5
    (λ c. search rules)  -- same-length-6
    (λ c. search rules)  -- same-length-7
    (λ c. search too_many))  -- returns-2
