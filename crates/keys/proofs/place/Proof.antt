use Rattle.keys.proofs.Chaining.{noting}
use borrow.Author.Rules.{rules}
use Rattle.keys.proofs.place.Statement.{statement}
use Rattle.keys.proofs.place.Tie as tie

pub place_spec : {M : Type 1} → statement M
place_spec = tie.close (tie.spec
    (λ c κs. search rules)  -- text-of-requires
    (λ c κs. search rules)  -- bucket-whole-requires
    (λ c. search noting))  -- returns
