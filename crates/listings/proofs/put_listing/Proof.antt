use Rattle.listings.proofs.Listing.{listed}
use borrow.Author.Rules.{rules}
use Rattle.listings.proofs.put_listing.Statement.{statement}
use Rattle.listings.proofs.put_listing.Tie as tie

pub put_listing_spec : {M : Type 1} → statement M
put_listing_spec = tie.close (tie.spec
    (λ c. search rules)  -- enum-known-answer
    (λ c κs. search rules)  -- put-accepted-requires
    (λ c κs. search rules)  -- put-rows-requires
    (λ c. search rules)  -- enum-known-answer-2
    (λ c κs. search rules)  -- number-requires
    (λ c κs. search rules)  -- put-refusal-requires
    (λ c. search rules)  -- same-length
    (λ c. search listed)  -- returns
    (λ c. search rules)  -- same-length-2
    (λ c. search listed))  -- returns-2
