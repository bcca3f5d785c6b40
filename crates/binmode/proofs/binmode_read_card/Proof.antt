use Rattle.binmode.proofs.Reporting.{reporting}
use borrow.Author.Rules.{rules}
use Rattle.binmode.proofs.binmode_read_card.Statement.{statement}
use Rattle.binmode.proofs.binmode_read_card.Tie as tie

pub binmode_read_card_spec : {M : Type 1} → statement M
binmode_read_card_spec = tie.close (tie.spec
    (λ c κs. search rules)  -- read-card-requires
    (λ c κs. search rules)  -- card-requires
    (λ c. search rules)  -- same-length
    (λ c. search reporting))  -- returns
