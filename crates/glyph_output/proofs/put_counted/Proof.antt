use Rattle.glyph_output.proofs.Adding.{adding}
use Rattle.glyph_output.proofs.Leaves.{leaves}
use borrow.Author.Rules.{rules}
use Rattle.glyph_output.proofs.put_counted.Statement.{statement}
use Rattle.glyph_output.proofs.put_counted.Tie as tie

pub put_counted_spec : {M : Type 1} → statement M
put_counted_spec = tie.close (tie.spec
    (λ c. search rules)  -- cast
    (λ c κs. search rules)  -- put-number-requires
    (λ c κs. (search adding, search rules))  -- put-ended-requires
    (λ c. search rules)  -- same-length
    (λ c. search leaves))  -- returns
