use Rattle.glyph_texts.proofs.Plain.{plain}
use borrow.Author.Rules.{rules}
use Rattle.glyph_texts.proofs.is_plain.Statement.{statement}
use Rattle.glyph_texts.proofs.is_plain.Tie as tie

pub is_plain_spec : {M : Type 1} → statement M
is_plain_spec = tie.close (tie.spec
    (λ c. search rules)  -- add-end
    (λ c. search plain)  -- returns
    (λ c κs. search rules)  -- eight-below-requires
    (λ c. search plain)  -- returns-2
    (λ c κs. search rules)  -- eight-below-requires-2
    (λ c κs. search rules)  -- eight-below-requires-3
    (λ c. search plain)  -- returns-3
    (λ c. search plain))  -- returns-4
