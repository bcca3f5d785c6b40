use Rattle.row_item.proofs.Items.{items}
use Rattle.row_item.proofs.letter.Statement.{statement}
use Rattle.row_item.proofs.letter.Tie as tie

pub letter_spec : {M : Type 1} → statement M
letter_spec = tie.close (tie.spec
    (λ c. search items)  -- returns
    (λ c. search items))  -- returns-2
