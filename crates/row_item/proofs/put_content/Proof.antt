use Rattle.row_item.proofs.Items.{items}
use borrow.Author.Rules.{rules}
use Rattle.row_item.proofs.put_content.Statement.{statement}
use Rattle.row_item.proofs.put_content.Tie as tie

pub put_content_spec : {M : Type 1} → statement M
put_content_spec = tie.close (tie.spec
    (λ c. search rules)  -- enum-told
    (λ c κs. search rules)  -- try-short-requires
    (λ c. search rules)  -- enum-told-2
    (λ c κs. search rules)  -- try-short-requires-2
    (λ c. search rules)  -- enum-told-3
    (λ c κs. search rules)  -- try-long-requires
    (λ c. search rules)  -- enum-told-4
    (λ c. search rules)  -- same-length
    (λ c. search items)  -- returns
    (λ c. search rules)  -- same-length-2
    (λ c. search items)  -- returns-2
    (λ c. search rules)  -- same-length-3
    (λ c. search items)  -- returns-3
    (λ c. search items))  -- returns-4
