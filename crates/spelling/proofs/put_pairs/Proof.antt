use Rattle.spelling.proofs.Putting.{joining}
use borrow.Author.Rules.{rules}
use Rattle.spelling.proofs.put_pairs.Statement.{statement}
use Rattle.spelling.proofs.put_pairs.Tie as tie

pub put_pairs_spec : {M : Type 1} → statement M
put_pairs_spec = tie.close (tie.spec
    (λ c κs. search rules)  -- put-pair-requires
    (λ c κs. search rules)  -- put-pair-requires-2
    (λ c. search rules)  -- same-length
    (λ c. search joining))  -- returns
