use borrow.Author.Rules.{rules}
use Rattle.piece_reports.proofs.Keeping.{keeping}
use Rattle.piece_reports.proofs.state_for.Statement.{statement}
use Rattle.piece_reports.proofs.state_for.Tie as tie

pub state_for_spec : {M : Type 1} → statement M
state_for_spec = tie.close (tie.spec
    (λ c. search keeping)  -- returns
    (λ c κs. search rules)  -- start-requires
    (λ c. search keeping)  -- returns-2
    (λ c. search keeping)  -- returns-3
    (λ c κs. search rules)  -- refusal-of-requires
    (λ c. search keeping))  -- returns-4
