use lib.ListN.{length-set}
use native.Mathlib.Omega.{arith}
use Rattle.keys.proofs.Chaining.{noting}
use borrow.Author.Rules.{rules}
use Rattle.keys.proofs.join.Statement.{statement}
use Rattle.keys.proofs.join.Tie as tie

pub join_spec : {M : Type 1} → statement M
join_spec = tie.close (tie.spec
    (λ c. search rules)  -- mul-notes
    (λ c. search rules)  -- mul-notes-2
    (λ c. search rules)  -- slice-read-notes
    (λ c. search rules)  -- mul-notes-3
    (λ c. search rules)  -- add-notes
    (λ c. search rules)  -- mul-notes-4
    (λ c. search rules)  -- slice-write-notes
    (λ c. search rules)  -- cast-notes
    (λ c. search rules)  -- mul-notes-5
    (λ c. search rules)  -- add-notes-2
    (λ c. search rules)  -- mul-notes-6
    (λ c. simp length-set (omega arith))  -- slice-write-notes-2
    (λ c. search rules)  -- add-notes-3
    (λ c. search rules)  -- cast-notes-2
    (λ c. search rules)  -- mul-notes-7
    (λ c. search rules)  -- mul-notes-8
    (λ c. simp length-set (omega arith))  -- slice-write-notes-3
    (λ c. search rules)  -- same-length
    (λ c. search noting))  -- returns
