use Rattle.spelling.proofs.Putting.{puts_four}
use borrow.Author.Rules.{rules}
use Rattle.lines.proofs.put_card.Statement.{statement}
use Rattle.lines.proofs.put_card.Tie as tie

pub put_card_spec : {M : Type 1} → statement M
put_card_spec = tie.close (tie.spec
    (λ c κs. search rules)  -- put_pair-end-requires
    (λ c κs. search rules)  -- put_pairs-end-requires
    (λ c κs. search rules)  -- put_card_answer-end-requires
    (λ c κs. search rules)  -- put_byte-requires
    (λ c. search rules)  -- shape_of-line
    (λ c. search puts_four))  -- returns
