use Rattle.row_item.proofs.Items.{items}
use borrow.Author.Rules.{rules}
use Rattle.row_item.proofs.put_item.Statement.{statement}
use Rattle.row_item.proofs.put_item.Tie as tie

pub put_item_spec : {M : Type 1} → statement M
put_item_spec = tie.close (tie.spec
    (λ c κs. search rules)  -- item-of-requires
    (λ c. search rules)  -- enum-told
    (λ c κs. search rules)  -- try-one-requires
    (λ c. search rules)  -- enum-told-2
    (λ c κs. search rules)  -- try-one-requires-2
    (λ c. search rules)  -- enum-told-3
    (λ c κs. search rules)  -- try-two-requires
    (λ c. search rules)  -- enum-told-4
    (λ c. search rules)  -- cast-try-number
    (λ c κs. search rules)  -- try-number-requires
    (λ c. search rules)  -- enum-told-5
    (λ c κs. search rules)  -- letter-requires
    (λ c κs. search rules)  -- try-one-requires-3
    (λ c. search rules)  -- enum-known-item
    (λ c. search rules)  -- cast-part
    (λ c. search rules)  -- cast-part-2
    (λ c κs. search rules)  -- part-requires
    (λ c κs. (search rules, search items))  -- put-content-requires
    (λ c. search rules)  -- enum-told-6
    (λ c. search rules)  -- cast-try-number-2
    (λ c κs. search rules)  -- try-number-requires-2
    (λ c. search rules)  -- enum-told-7
    (λ c. search rules)  -- cast-try-number-3
    (λ c κs. search rules)  -- try-number-requires-3
    (λ c. search rules)  -- enum-told-8
    (λ c κs. search rules)  -- try-one-requires-4
    (λ c. search rules)  -- enum-told-9
    (λ c. search rules)  -- same-length
    (λ c. search items)  -- returns
    (λ c. search rules)  -- same-length-2
    (λ c. search items)  -- returns-2
    (λ c. search rules)  -- same-length-3
    (λ c. search items)  -- returns-3
    (λ c. search rules)  -- same-length-4
    (λ c. search items)  -- returns-4
    (λ c. search rules)  -- same-length-5
    (λ c. search items)  -- returns-5
    (λ c. search rules)  -- same-length-6
    (λ c. search items)  -- returns-6
    (λ c. search rules)  -- same-length-7
    (λ c. search items)  -- returns-7
    (λ c. search rules)  -- same-length-8
    (λ c. search items)  -- returns-8
    (λ c. search rules)  -- same-length-9
    (λ c. search items)  -- returns-9
    (λ c. search items))  -- returns-10
