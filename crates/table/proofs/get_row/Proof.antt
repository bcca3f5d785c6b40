use Rattle.table.proofs.Rows.{fetched}
use borrow.Author.Rules.{rules}
use Rattle.table.proofs.get_row.Statement.{statement}
use Rattle.table.proofs.get_row.Tie as tie

pub get_row_spec : {M : Type 1} → statement M
get_row_spec = tie.close (tie.spec
    (λ c κs. search rules)  -- word-requires
    (λ c κs. search rules)  -- word-requires-2
    (λ c κs. search rules)  -- word-requires-3
    (λ c κs. search rules)  -- word-requires-4
    (λ c. search rules)  -- mul-t8
    (λ c. search rules)  -- shared-slice-read-t10
    (λ c. search rules)  -- mul-t11
    (λ c. search rules)  -- shared-slice-read-t13
    (λ c. search rules)  -- mul-t14
    (λ c. search rules)  -- shared-slice-read-t16
    (λ c. search rules)  -- mul-t17
    (λ c. search rules)  -- shared-slice-read-t19
    (λ c. search fetched))  -- returns
