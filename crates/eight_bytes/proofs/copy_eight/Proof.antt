use lib.ListN.{length-set}
use native.Mathlib.Omega.{arith}
use Rattle.eight_bytes.proofs.Storing.{storing}
use borrow.Author.Rules.{rules}
use Rattle.eight_bytes.proofs.copy_eight.Statement.{statement}
use Rattle.eight_bytes.proofs.copy_eight.Tie as tie

pub copy_eight_spec : {M : Type 1} → statement M
copy_eight_spec = tie.close (tie.spec
    (λ c. search rules)  -- shared-slice-read-a
    (λ c. search rules)  -- add-b
    (λ c. search rules)  -- shared-slice-read-b
    (λ c. search rules)  -- add-c
    (λ c. search rules)  -- shared-slice-read-c
    (λ c. search rules)  -- add-d
    (λ c. search rules)  -- shared-slice-read-d
    (λ c. search rules)  -- add-e
    (λ c. search rules)  -- shared-slice-read-e
    (λ c. search rules)  -- add-f
    (λ c. search rules)  -- shared-slice-read-f
    (λ c. search rules)  -- add-g
    (λ c. search rules)  -- shared-slice-read-g
    (λ c. search rules)  -- add-h
    (λ c. search rules)  -- shared-slice-read-h
    (λ c. search rules)  -- slice-write-out
    (λ c. search rules)  -- add-out
    (λ c. simp length-set (omega arith))  -- slice-write-out-2
    (λ c. search rules)  -- add-out-2
    (λ c. simp length-set (omega arith))  -- slice-write-out-3
    (λ c. search rules)  -- add-out-3
    (λ c. simp length-set (omega arith))  -- slice-write-out-4
    (λ c. search rules)  -- add-out-4
    (λ c. simp length-set (omega arith))  -- slice-write-out-5
    (λ c. search rules)  -- add-out-5
    (λ c. simp length-set (omega arith))  -- slice-write-out-6
    (λ c. search rules)  -- add-out-6
    (λ c. simp length-set (omega arith))  -- slice-write-out-7
    (λ c. search rules)  -- add-out-7
    (λ c. simp length-set (omega arith))  -- slice-write-out-8
    (λ c. simp length-set)  -- same-length
    (λ c. search storing))  -- returns
