use Rattle.binmode.proofs.Reporting.{reporting}
use borrow.Author.Rules.{rules}
use Rattle.binmode.proofs.binmode_next_card.Statement.{statement}
use Rattle.binmode.proofs.binmode_next_card.Tie as tie

pub binmode_next_card_spec : {M : Type 1} → statement M
binmode_next_card_spec = tie.close (tie.spec
    (λ c κs. search rules)  -- find-next-requires
    (λ c κs. search rules)  -- found-requires
    (λ c. search reporting))  -- returns
