use Rattle.binmode.proofs.InPieces.{in_pieces}
use borrow.Author.Rules.{rules}
use Rattle.binmode.proofs.in_pieces.binmode_pieces_next_within.Statement.{statement}
use Rattle.binmode.proofs.in_pieces.binmode_pieces_next_within.Tie as tie

pub binmode_pieces_next_within_spec : {M : Type 1} → statement M
binmode_pieces_next_within_spec = tie.close (tie.spec
    (λ c κs. search rules)  -- state-of-requires
    (λ c κs. search rules)  -- next-requires
    (λ c κs. search rules)  -- keep-requires
    (λ c. search rules)  -- same-length
    (λ c. search rules)  -- same-length-2
    (λ c. search in_pieces))  -- returns
