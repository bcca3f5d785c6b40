use Prim.Native.Nat.{◌-◌}
use Rattle.draft.specs.Table.{row_at}
use Rattle.plan_message.proofs.Writing.{Writing, write_first, write_left, write_start, write_short, write_done, write_through, write_plan, write_room, write_fits, write_string, write_other, run_room, run_few, run_fits, run_less, run_again}
use borrow.Author.Rules.{rules}
use Rattle.plan_message.proofs.put_items.Statement.{statement}
use Rattle.plan_message.proofs.put_items.Tie as tie

abbrev invariant-loop-sent : tie.invariant-loop-sent
invariant-loop-sent table room rows text strings plan most output₀ at₀ j₀ sent₀ output at j sent = Writing (row_at room table) rows text strings plan most output₀ sent j at output

abbrev decreases-loop-sent : tie.decreases-loop-sent
decreases-loop-sent table room rows text strings plan most output₀ at₀ j₀ sent₀ output at j sent = rows - sent

add_at : tie.Need-overflow_add-at invariant-loop-sent decreases-loop-sent
add_at c = write_fits c.before.before.before.before.before.before.before.before.loop-sent.invariant c.before.before.before.before.before.before.get_row-row.ensures c.before.before.before.before.before.before.before.loop-sent-test.true c.before.before.before.before.if-row-eq11.true c.before.before.put_string-at.ensures

loop-again : tie.Need-loop-sent-preserved-then-row-eq11 invariant-loop-sent decreases-loop-sent
loop-again c = write_string c.before.before.before.before.before.before.before.before.loop-sent.invariant c.before.before.before.before.before.before.get_row-row.ensures c.before.before.before.before.before.before.before.loop-sent-test.true c.before.before.before.before.if-row-eq11.true c.before.before.put_string-at.ensures

pub put_items_spec : {M : Type 1} → statement M
put_items_spec = tie.close (tie.spec
    invariant-loop-sent
    decreases-loop-sent
    (λ c. search write_first)  -- loop-holds
    (λ c κs. search rules)  -- get-row-requires
    (λ c. search write_start)  -- sub-put-string
    (λ c. search write_start)  -- part-put-string-start
    (λ c. search rules)  -- part-put-string-end
    (λ c κs. (search write_through, search write_plan, search write_short, write_room c.before.before.before.before.before.loop-sent.invariant c.before.before.before.get_row-row.ensures c.before.before.before.before.loop-sent-test.true c.before.if-row-eq11.true))  -- put-string-requires
    add_at
    (λ c. search rules)  -- add-j
    (λ c. search rules)  -- add-sent
    (λ c. search rules)  -- loop-less
    loop-again
    (λ c. search write_left)  -- sub-left
    (λ c. search write_start)  -- sub-put-run
    (λ c. search write_start)  -- part-put-run-start
    (λ c. search rules)  -- part-put-run-end
    (λ c κs. (search rules, search rules, search write_other, search run_room, search run_few, search write_short))  -- put-run-requires
    (λ c. search run_fits)  -- add-at-2
    (λ c. search run_less)  -- loop-less-2
    (λ c. search run_again)  -- loop-again-2
    (λ c. search rules)  -- same-length
    (λ c. search write_done))  -- returns
