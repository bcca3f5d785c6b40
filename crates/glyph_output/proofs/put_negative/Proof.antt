use Rattle.glyph_output.proofs.Adding.{adding}
use Rattle.glyph_output.proofs.Leaves.{leaves}
use borrow.Author.Rules.{rules}
use Rattle.glyph_output.proofs.put_negative.Statement.{statement}
use Rattle.glyph_output.proofs.put_negative.Tie as tie

pub put_negative_spec : {M : Type 1} → statement M
put_negative_spec = tie.close (tie.spec
    (λ c κs. search rules)  -- put-byte-requires
    (λ c. search rules)  -- sub
    (λ c. search rules)  -- cast
    (λ c κs. search adding)  -- put-number-requires
    (λ c. search rules)  -- same-length
    (λ c. search leaves))  -- returns
