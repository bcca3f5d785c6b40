use Rattle.table.proofs.Rows.{stored}
use native.Mathlib.Omega.{arith}
use lib.ListN.{length-set}
use borrow.Author.Rules.{rules}
use Rattle.table.proofs.put_row.Statement.{statement}
use Rattle.table.proofs.put_row.Tie as tie

pub put_row_spec : {M : Type 1} → statement M
put_row_spec =
    tie.close
    (tie.spec
    (λ c κs. search rules)  -- word-requires
    (λ c. search rules)  -- mul-table
    (λ c. search rules)  -- slice-write-table
    (λ c κs. search rules)  -- word-requires-2
    (λ c. search rules)  -- mul-table-2
    (λ c. simp length-set (omega arith))  -- slice-write-table-2
    (λ c κs. search rules)  -- word-requires-3
    (λ c. search rules)  -- mul-table-3
    (λ c. simp length-set (omega arith))  -- slice-write-table-3
    (λ c κs. search rules)  -- word-requires-4
    (λ c. search rules)  -- mul-table-4
    (λ c. simp length-set (omega arith))  -- slice-write-table-4
    (λ c. search rules)  -- same-length
    (λ c. search stored))  -- returns
