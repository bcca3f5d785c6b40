use Rattle.index.proofs.Storing.{entry_past}
use borrow.Author.Rules.{rules}
use Rattle.index.proofs.entry_in.Statement.{statement}
use Rattle.index.proofs.entry_in.Tie as tie

returns : tie.Need-returns-then-i-ge-KEPT
returns c = entry_past c.args.order.rows c.args.i (search rules) (search rules)

pub entry_in_spec : {M : Type 1} → statement M
entry_in_spec = tie.close (tie.spec
    returns
    (λ c. search rules)  -- mul-entry-of
    (λ c. search rules)  -- element-copy-out-entry-of
    (λ c κs. search rules)  -- entry-of-requires
    (λ c. search rules))  -- returns-2
