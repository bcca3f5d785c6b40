use Rattle.item.proofs.Items.{others}
use borrow.Author.Rules.{rules}
use Rattle.others.proofs.row_text.Statement.{statement}
use Rattle.others.proofs.row_text.Tie as tie

pub row_text_spec : {M : Type 1} → statement M
row_text_spec = tie.close (tie.spec
    (λ c κs. search rules)  -- get-row-requires
    (λ c. search rules)  -- cast-part
    (λ c. search rules)  -- cast-part-2
    (λ c κs. search rules)  -- part-requires
    (λ c. search others))  -- returns
