use Rattle.listings.proofs.Listing.{listed}
use borrow.Author.Rules.{rules}
use Rattle.listings.proofs.list.Statement.{statement}
use Rattle.listings.proofs.list.Tie as tie

pub list_spec : {M : Type 1} → statement M
list_spec = tie.close (tie.spec
    (λ c κs. search rules)  -- read-requires
    (λ c κs. search rules)  -- put-listing-requires
    (λ c. search rules)  -- same-length
    (λ c. search rules)  -- same-length-2
    (λ c. search listed))  -- returns
