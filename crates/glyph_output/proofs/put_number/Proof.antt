use Rattle.glyph_output.proofs.Adding.{adding}
use Rattle.glyph_output.proofs.Leaves.{leaves}
use borrow.Author.Rules.{rules}
use Rattle.glyph_output.proofs.put_number.Statement.{statement}
use Rattle.glyph_output.proofs.put_number.Tie as tie

pub put_number_spec : {M : Type 1} → statement M
put_number_spec = tie.close (tie.spec
    (λ c κs. search rules)
    (λ c κs. search adding)
    (λ c. search rules)
    (λ c. search leaves))
