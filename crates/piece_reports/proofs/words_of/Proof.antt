use borrow.Author.Rules.{rules}
use Rattle.piece_reports.proofs.Keeping.{keeping}
use Rattle.piece_reports.proofs.words_of.Statement.{statement}
use Rattle.piece_reports.proofs.words_of.Tie as tie

pub words_of_spec : {M : Type 1} → statement M
words_of_spec = tie.close (tie.spec
    (λ c. search rules)  -- enum-known-state
    (λ c. search rules)  -- enum-known-state-2
    (λ c. search rules)  -- enum-known-state-3
    (λ c κs. search rules)  -- number-requires
    (λ c. search rules)  -- cast-t16
    (λ c. search keeping)  -- returns
    (λ c. search keeping)  -- returns-2
    (λ c. search keeping))  -- returns-3
