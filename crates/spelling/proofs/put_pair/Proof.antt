use Rattle.spelling.proofs.Putting.{joining}
use borrow.Author.Rules.{rules}
use Rattle.spelling.proofs.put_pair.Statement.{statement}
use Rattle.spelling.proofs.put_pair.Tie as tie

pub put_pair_spec : {M : Type 1} → statement M
put_pair_spec = tie.close (tie.spec
    (λ c κs. search rules)  -- put-text-requires
    (λ c κs. search rules)  -- put-digits-requires
    (λ c. search rules)  -- same-length
    (λ c. search joining))  -- returns
