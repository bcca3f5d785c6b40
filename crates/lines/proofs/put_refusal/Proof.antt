use Rattle.spelling.proofs.Putting.{joining}
use borrow.Author.Rules.{rules}
use Rattle.lines.proofs.put_refusal.Statement.{statement}
use Rattle.lines.proofs.put_refusal.Tie as tie

pub put_refusal_spec : {M : Type 1} → statement M
put_refusal_spec = tie.close (tie.spec
    (λ c κs. search rules)  -- put_pairs-end-requires
    (λ c κs. search rules)  -- put_byte-requires
    (λ c. search rules)  -- shape_of-line
    (λ c. search joining))  -- returns
