use Rattle.spelling.proofs.Putting.{joining}
use borrow.Author.Rules.{rules}
use Rattle.listings.proofs.put_card_rows.Statement.{statement}
use Rattle.listings.proofs.put_card_rows.Tie as tie

pub put_card_rows_spec : {M : Type 1} → statement M
put_card_rows_spec = tie.close (tie.spec
    (λ c κs. search rules)  -- put-card-accepted-requires
    (λ c κs. search rules)  -- put-rows-requires
    (λ c. search rules)  -- same-length
    (λ c. search joining))  -- returns
