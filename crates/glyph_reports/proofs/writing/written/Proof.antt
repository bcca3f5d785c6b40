use Rattle.glyph_reports.proofs.Written.{telling_written}
use borrow.Author.Rules.{rules}
use Rattle.glyph_reports.proofs.writing.written.Statement.{statement}
use Rattle.glyph_reports.proofs.writing.written.Tie as tie

pub written_spec : {M : Type 1} → statement M
written_spec = tie.close (tie.spec
    (λ c. search rules)  -- enum-known-answer
    (λ c. search rules)  -- enum-known-answer-2
    (λ c κs. search rules)  -- number-requires
    (λ c. search telling_written)  -- returns
    (λ c. search telling_written))  -- returns-2
