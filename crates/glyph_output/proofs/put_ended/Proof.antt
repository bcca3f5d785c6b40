use Rattle.glyph_output.proofs.Adding.{adding}
use Rattle.glyph_output.proofs.Leaves.{leaves}
use borrow.Author.Rules.{rules}
use Rattle.glyph_output.proofs.put_ended.Statement.{statement}
use Rattle.glyph_output.proofs.put_ended.Tie as tie

pub put_ended_spec : {M : Type 1} → statement M
put_ended_spec = tie.close (tie.spec
    (λ c κs. search rules)  -- put-text-requires
    (λ c κs. search adding)  -- put-byte-requires
    (λ c. search rules)  -- same-length
    (λ c. search leaves))  -- returns
