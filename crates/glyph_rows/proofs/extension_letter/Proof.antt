use Rattle.glyph_rows.proofs.Rows.{letters}
use borrow.Author.Rules.{rules}
use Rattle.glyph_rows.proofs.extension_letter.Statement.{statement}
use Rattle.glyph_rows.proofs.extension_letter.Tie as tie

pub extension_letter_spec : {M : Type 1} → statement M
extension_letter_spec = tie.close (tie.spec
    (λ c. search rules)  -- enum-told
    (λ c. search rules)  -- enum-told-2
    (λ c. search letters)  -- returns
    (λ c. search letters))  -- returns-2
