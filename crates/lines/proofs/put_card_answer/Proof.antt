use Rattle.lines.proofs.Answering.{answering}
use borrow.Author.Rules.{rules}
use Rattle.lines.proofs.put_card_answer.Statement.{statement}
use Rattle.lines.proofs.put_card_answer.Tie as tie

pub put_card_answer_spec : {M : Type 1} → statement M
put_card_answer_spec = tie.close (tie.spec
    (λ c. search rules)  -- enum_known-answer
    (λ c κs. search rules)  -- put_pairs-requires
    (λ c. search rules)  -- enum_known-answer-in-Refused-1
    (λ c κs. search rules)  -- number-requires
    (λ c. search rules)  -- overflow_cast-number
    (λ c κs. search rules)  -- put_pairs-requires-in-Refused
    (λ c. search rules)  -- shape_of-line-in-Accepted
    (λ c. search answering)  -- returns-in-Accepted
    (λ c. search rules)  -- shape_of-line-in-Refused
    (λ c. search answering))  -- returns-in-Refused
