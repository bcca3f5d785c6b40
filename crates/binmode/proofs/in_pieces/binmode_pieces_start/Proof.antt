use Rattle.binmode.proofs.InPieces.{in_pieces}
use borrow.Author.Rules.{rules}
use Rattle.binmode.proofs.in_pieces.binmode_pieces_start.Statement.{statement}
use Rattle.binmode.proofs.in_pieces.binmode_pieces_start.Tie as tie

pub binmode_pieces_start_spec : {M : Type 1} → statement M
binmode_pieces_start_spec = tie.close (tie.spec
    (λ c κs. search rules)  -- start-requires
    (λ c κs. search rules)  -- keep-requires
    (λ c. search in_pieces))  -- returns
