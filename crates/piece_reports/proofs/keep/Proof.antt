use Rattle.piece_reports.proofs.Keeping.{keeping}
use borrow.Author.Rules.{rules}
use Rattle.piece_reports.proofs.keep.Statement.{statement}
use Rattle.piece_reports.proofs.keep.Tie as tie

pub keep_spec : {M : Type 1} → statement M
keep_spec = tie.close (tie.spec
    (λ c κs. search rules)  -- words-of-requires
    (λ c κs. search rules)  -- answer-for-requires
    (λ c. search keeping))  -- returns
