use borrow.Author.Rules.{rules}
use Prim.Native.Nat.{◌-◌}
use Rattle.draft.specs.Table.{row_at}
use Rattle.message.proofs.Writing.{writing, Writing}
use Rattle.message.proofs.put_items.Statement.{statement}
use Rattle.message.proofs.put_items.Tie as tie

abbrev invariant-loop-sent : tie.invariant-loop-sent
invariant-loop-sent table room rows text strings firsts spots most output₀ at₀ j₀ sent₀ output at j sent = Writing (row_at room table) rows text strings firsts spots most output₀ sent j at output

abbrev decreases-loop-sent : tie.decreases-loop-sent
decreases-loop-sent table room rows text strings firsts spots most output₀ at₀ j₀ sent₀ output at j sent = rows - sent

pub put_items_spec : {M : Type 1} → statement M
put_items_spec = tie.close (tie.spec
    invariant-loop-sent
    decreases-loop-sent
    (λ c. search writing)  -- loop-holds
    (λ c κs. search rules)  -- get-row-requires
    (λ c. search writing)  -- sub-left
    (λ c. search writing)  -- sub-put-string
    (λ c. search writing)  -- part-put-string-start
    (λ c. search rules)  -- part-put-string-end
    (λ c κs. (search writing, search writing, search writing, search writing))  -- put-string-requires
    (λ c. search writing)  -- add-result
    (λ c. search rules)  -- same-length
    (λ c. search writing)  -- returns
    (λ c. search writing)  -- add-at
    (λ c. search writing)  -- add-j
    (λ c. search rules)  -- add-sent
    (λ c. search rules)  -- loop-less
    (λ c. search writing)  -- loop-again
    (λ c. search writing)  -- sub-put-run
    (λ c. search writing)  -- part-put-run-start
    (λ c. search rules)  -- part-put-run-end
    (λ c κs. (search rules, search rules, search writing, search writing, search writing, search writing))  -- put-run-requires
    (λ c. search writing)  -- add-result-2
    (λ c. search rules)  -- same-length-2
    (λ c. search writing)  -- returns-2
    (λ c. search writing)  -- add-at-2
    (λ c. search writing)  -- loop-less-2
    (λ c. search writing)  -- loop-again-2
    (λ c. search rules)  -- same-length-3
    (λ c. search writing))  -- returns-3
